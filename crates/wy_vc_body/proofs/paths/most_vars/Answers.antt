use Rattle.std.proofs.Common.{◌∙◌, ◌+◌, ℕ, List, Option, ap, drop, length}
use Rattle.wy_vc_exprs.specs.wy_vc_spec.Joins as spec
use Rattle.wy_vc_body.specs.Paths.{seen_paths}
use Rattle.wy_vc_body.proofs.PathLemmas.{most_turn, most_end}
use Rattle.wy_vc_body.proofs.paths.most_vars.Goals as goal

pub loop-path-preserved : goal.loop-path-preserved
loop-path-preserved c =
    λ nodes. ap (λ (n : ℕ). spec.max n (spec.most_vars (seen_paths nodes (drop (c.loop-path.path-index + 1) c.args.paths.now)))) (c.larger-most.ensures.value ∙ ap (λ (l : List (Option ℕ)). spec.max c.loop-path.most (length l)) c.as_slice.ensures.value)
    ∙ most_turn nodes c.args.paths.now c.loop-path.path-index c.path-item.result c.loop-path.most (spec.most_vars (seen_paths nodes c.args.paths.now)) c.loop-path-test.true c.path-item.is (c.loop-path.invariant nodes)

pub returns : goal.returns
returns c = record { value = λ nodes. most_end nodes c.args.paths.now c.loop-path.path-index c.loop-path.most (spec.most_vars (seen_paths nodes c.args.paths.now)) c.loop-path-test.false (c.loop-path.invariant nodes) }
