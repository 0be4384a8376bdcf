use Rattle.std.proofs.Common.{◌≡◌, map, drop}
use Rattle.wy_lin.specs.Seen.{linear_form}
use Rattle.wy_lin_eliminate.specs.Elimination as elimination
use Rattle.wy_lin_eliminate.specs.Seen.{seen_table}
use Rattle.wy_lin_eliminate.proofs.StartLemmas.{StartsWith}
use Rattle.wy_lin_eliminate.proofs.given.given.Given as goal

-- the rest of the given forms, which all stand first, gives what they all do
abbrev pub invariant-loop-i : goal.invariant-loop-i
invariant-loop-i l = record {
  rest : elimination.given_from (seen_table l.table) l.i (drop l.i (map linear_form l.fn.table.all.items)) ≡ elimination.given_from (seen_table l.fn.table) 0 (map linear_form l.fn.table.all.items);
  first : StartsWith (map linear_form l.fn.table.all.items) (map linear_form l.table.all.items);
}
