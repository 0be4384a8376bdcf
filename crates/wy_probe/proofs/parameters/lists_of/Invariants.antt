use Rattle.std.proofs.Common.{◌≡◌, ◌++◌, drop, map}
use Rattle.wy_core.specs.CoreSeen.{seen_param}
use Rattle.wy_types.specs.Names.{types_of}
use Rattle.wy_probe.specs.Candidates.{lists_of}
use Rattle.wy_probe.specs.Tables.{table_of}
use Rattle.wy_probe.proofs.parameters.lists_of.Given as goal

abbrev pub invariant-loop-param : goal.invariant-loop-param
invariant-loop-param l = table_of l.lists ++ lists_of (types_of l.names) (map seen_param (drop l.param-index l.params)) ≡ lists_of (types_of l.names) (map seen_param l.params)
