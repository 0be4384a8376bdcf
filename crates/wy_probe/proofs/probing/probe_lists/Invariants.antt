use Rattle.std.proofs.Common.{◌≡◌, ◌-◌, length, map}
use Rattle.std.specs.Prelude.{IfSome, option_map}
use Rattle.wy_core.specs.CoreSeen.{seen_core}
use Rattle.wy_probe.specs.Comes.{probe_of}
use Rattle.wy_probe.specs.Tables.{table_of}
use Rattle.wy_probe.specs.Tuples.{Fit}
use Rattle.wy_probe.proofs.TriedLemmas.{Stands}
use Rattle.wy_probe.proofs.probing.probe_lists.Given as goal

abbrev pub invariant-loop-number : goal.invariant-loop-number
invariant-loop-number l = record {
  fit : IfSome l.next (λ v. Fit (map length (table_of l.lists)) v.items);
  stands : Stands (probe_of (seen_core l.core) l.entry l.ticks) (table_of l.lists) l.n (l.n - l.number) (option_map (λ v. v.items) l.next) l.tally.tried l.tally.met l.tally.undecided;
  number : l.tally.tried ≡ l.number;
}
