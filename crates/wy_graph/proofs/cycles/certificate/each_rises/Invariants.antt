use Rattle.std.proofs.Common.{◌≡◌, drop}
use Rattle.wy_graph.specs.cycles.Certificates.{each_rises}
use Rattle.wy_graph.proofs.cycles.certificate.each_rises.Given as goal

abbrev pub invariant-loop-arrow : goal.invariant-loop-arrow
invariant-loop-arrow l = each_rises l.labels l.count (drop l.arrow-index l.arrows) ≡ each_rises l.labels l.count l.arrows
