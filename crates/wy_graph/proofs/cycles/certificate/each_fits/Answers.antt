use Rattle.std.proofs.Common.{◌≡◌, true}
use Rattle.wy_graph.specs.cycles.Certificates.{fits}
use Rattle.wy_graph.proofs.cycles_lemmas.CycleLemmas.{below_more}
use Rattle.wy_graph.proofs.cycles.certificate.each_fits.Goals as goal

pub loop-node-preserved : goal.loop-node-preserved
loop-node-preserved c =
    let here : fits c.args.arrows.now c.args.certificate.now c.loop-node.node ≡ true = cc (c.if-not-fits.false, c.if-not-fits.ensures.value, c.fits.ensures.value) in
    below_more (fits c.args.arrows.now c.args.certificate.now) c.loop-node.node c.loop-node.invariant here
