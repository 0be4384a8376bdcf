use Rattle.std.proofs.Common.{◌≡◌, ◌<◌, ℕ, true}
use Rattle.wy_graph.specs.cycles.Certificates.{fits}
use Rattle.wy_graph.proofs.cycles.certificate.each_fits.Given as goal

abbrev pub invariant-loop-node : goal.invariant-loop-node
invariant-loop-node l = (v : ℕ) → v < l.node → fits l.arrows l.certificate v ≡ true
