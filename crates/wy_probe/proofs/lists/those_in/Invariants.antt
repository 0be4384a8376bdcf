use Rattle.std.proofs.Common.{◌≡◌, ◌++◌, drop}
use Rattle.wy_core.specs.CoreSeen.{seen_ty}
use Rattle.wy_types.specs.Names.{types_of}
use Rattle.wy_probe.specs.Tables.{data_in}
use Rattle.wy_probe.specs.Candidates.{those_in}
use Rattle.wy_probe.proofs.lists.those_in.Given as goal

abbrev pub invariant-loop-value : goal.invariant-loop-value
invariant-loop-value l = data_in l.made ++ those_in (types_of l.names) (seen_ty l.ty) (data_in (drop l.value-index l.values)) ≡ those_in (types_of l.names) (seen_ty l.ty) (data_in l.values)
