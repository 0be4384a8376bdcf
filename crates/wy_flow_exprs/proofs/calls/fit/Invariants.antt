use Rattle.std.proofs.Common.{◌≡◌, drop}
use Rattle.wy_types.specs.Names.{types_of}
use Rattle.wy_types.specs.Questions.{IsOver}
use Rattle.wy_flow_exprs.proofs.LoopLemmas.{FitLeft}
use Rattle.wy_flow_exprs.proofs.calls.fit.Given as goal

abbrev pub invariant-loop-arg : goal.invariant-loop-arg
invariant-loop-arg l = record {
  over : IsOver (types_of l.names) l.question;
  counted : l.place ≡ l.arg-index;
  left : FitLeft (types_of l.names) l.at l.args l.params (drop l.arg-index l.args) (drop l.arg-index l.params);
}
