use Rattle.wy_vc_body.proofs.PathLemmas.{and_stop, and_more, known_turn, known_read}
use Rattle.wy_vc_body.proofs.paths.known_on_all.Goals as goal

pub loop-path-preserved : goal.loop-path-preserved
loop-path-preserved c =
    λ nodes. and_more _ _ _ _ (c.loop-path.invariant nodes) (known_turn nodes c.args.paths.now c.loop-path.path-index c.path-item.result c.args.x c.loop-path-test.true c.path-item.is)
    (known_read nodes _ _ c.args.x _ c.as_slice.ensures.value (c.if-not-is_known.ensures.value nodes))

pub returns-then-not-is_known : goal.returns-then-not-is_known
returns-then-not-is_known c = record {
  value = λ nodes.
      and_stop _ _ _ _ (c.loop-path.invariant nodes) (known_turn nodes c.args.paths.now c.loop-path.path-index c.path-item.result c.args.x c.loop-path-test.true c.path-item.is)
      (known_read nodes _ _ c.args.x _ c.as_slice.ensures.value (c.if-not-is_known.ensures.value nodes));
}
