use Rattle.std.proofs.Common.{drop}
use Rattle.wy_vc_body.specs.Paths.{spot_of}
use Rattle.wy_vc_tables.specs.program_names.Described.{setting}
use Rattle.wy_vc.proofs.EntryLemmas.{IsEntering, typing}
use Rattle.wy_vc.proofs.entry.assume_params.Given as goal

abbrev pub invariant-loop-param : goal.invariant-loop-param
invariant-loop-param l =
    IsEntering l.fn.walk l.walk l.here (typing (setting l.core l.program) (drop l.param-index l.params) (spot_of l.walk l.here) l.walk.maker.count)
    (typing (setting l.core l.program) l.params (spot_of l.fn.walk l.here) l.fn.walk.maker.count)
