use Rattle.std.proofs.Common.{drop}
use Rattle.wy_vc_body.specs.Paths.{spot_of}
use Rattle.wy_vc.proofs.EntryLemmas.{IsEntering, naming}
use Rattle.wy_vc.proofs.entry.name_params.Given as goal

abbrev pub invariant-loop-param : goal.invariant-loop-param
invariant-loop-param l =
    IsEntering l.fn.walk l.walk l.here (naming l.words (drop l.param-index l.params) (spot_of l.walk l.here) l.walk.maker.count) (naming l.words l.params (spot_of l.fn.walk l.fn.here) l.fn.walk.maker.count)
