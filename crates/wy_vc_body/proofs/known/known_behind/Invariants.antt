use Rattle.std.proofs.Common.{◌-◌}
use Rattle.wy_vc_body.specs.Known.{known_from}
use Rattle.wy_vc_body.specs.Paths.{seen_paths}
use Rattle.wy_vc_body.proofs.KnownLemmas.{IsKnown}
use Rattle.wy_vc_body.proofs.known.known_behind.Given as goal

abbrev pub invariant-loop-x : goal.invariant-loop-x
invariant-loop-x l = IsKnown l.words l.paths l.fn.maker l.maker l.all l.x (l.most - l.x) (known_from l.words (seen_paths l.fn.maker.terms l.paths) 0 l.most l.fn.maker.count)
