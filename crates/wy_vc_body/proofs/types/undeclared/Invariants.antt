use Rattle.std.proofs.Common.{◌≡◌, ◌++◌, drop}
use Rattle.wy_sem.specs.Evaluation as spec
use Rattle.wy_vc_body.specs.Types.{types_in}
use Rattle.wy_vc_body.proofs.types.undeclared.Given as goal

abbrev pub invariant-loop-word : goal.invariant-loop-word
invariant-loop-word l = types_in l.types ++ spec.any_types (drop l._word-index l.words) ≡ spec.any_types l.words
