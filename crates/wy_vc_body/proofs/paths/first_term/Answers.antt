use Rattle.std.proofs.Common.{length}
use Rattle.wy_vc_exprs.specs.wy_vc_spec.Joins as spec
use Rattle.wy_vc_body.specs.Paths.{IsPath, seen_paths}
use Rattle.wy_vc_body.proofs.PathLemmas.{first_found, first_more, one_of_all, slot_read, slot_within}
use Rattle.wy_vc_body.proofs.paths.first_term.Goals as goal

pub loop-path-preserved : goal.loop-path-preserved
loop-path-preserved c =
    λ nodes. first_more nodes c.args.paths.now c.loop-path.path-index c.path-item.result c.args.x (spec.first_term (seen_paths nodes c.args.paths.now) c.args.x) c.loop-path-test.true c.path-item.is
    (slot_read _ _ c.args.x _ c.as_slice.ensures.value c.in-None.ensures.value) (c.loop-path.invariant nodes)

pub returns-in-Some-clause-value : goal.returns-in-Some-clause-value
returns-in-Some-clause-value c =
    λ nodes. first_found nodes c.args.paths.now c.loop-path.path-index c.path-item.result c.args.x c.in-Some.term (spec.first_term (seen_paths nodes c.args.paths.now) c.args.x) c.loop-path-test.true c.path-item.is
    (slot_read _ _ c.args.x _ c.as_slice.ensures.value c.in-Some.ensures.value) (c.loop-path.invariant nodes)

pub returns-in-Some-clause-within : goal.returns-in-Some-clause-within
returns-in-Some-clause-within c =
    λ nodes are. slot_within (length nodes) c.path-item.result.here.vars.items c.args.x c.in-Some.term (one_of_all (IsPath nodes) c.args.paths.now c.loop-path.path-index c.path-item.result c.loop-path-test.true c.path-item.is are).vars
    (slot_read _ _ c.args.x _ c.as_slice.ensures.value c.in-Some.ensures.value)
