use Rattle.std.proofs.Common.{◌≡◌, drop}
use Rattle.wy_core.specs.CoreSeen.{seen_block}
use Rattle.wy_sem.specs.Evaluation as spec
use Rattle.wy_vc_body.specs.Types.{types_in}
use Rattle.wy_vc_body.proofs.types.+declared.Given as goal

abbrev pub invariant-declare_all-loop-stmt : goal.invariant-declare_all-loop-stmt
invariant-declare_all-loop-stmt l = spec.declared_in_all (seen_block (drop l.stmt-index l.block)) (types_in l.types) ≡ spec.declared_in_all (seen_block l.block) (types_in l.fn.types)
