use Rattle.std.proofs.Common.{◌≡◌, drop, length}
use Rattle.wy_types.specs.Names.{types_of}
use Rattle.wy_types.specs.Questions.{IsOver}
use Rattle.wy_flow_exprs.proofs.checks_lemmas.JoinLemmas.{SlotsLeft}
use Rattle.wy_flow_exprs.proofs.checks.joins.joined_slots.Given as goal

abbrev pub invariant-loop-slot : goal.invariant-loop-slot
invariant-loop-slot l = record {
  over : IsOver (types_of l.names) l.question;
  counted : length l.made ≡ l.slot-index;
  left : SlotsLeft (types_of l.names) l.at l.made (drop l.slot-index l.first) (drop l.slot-index l.second) l.first l.second;
}
