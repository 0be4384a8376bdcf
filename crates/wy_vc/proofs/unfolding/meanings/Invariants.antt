use Rattle.wy_vc_tables.specs.program_names.Described.{setting}
use Rattle.wy_vc.proofs.MeaningLemmas.{IsMeaningUpTo}
use Rattle.wy_vc.proofs.unfolding.meanings.Given as goal

abbrev pub invariant-loop-number : goal.invariant-loop-number
invariant-loop-number l = IsMeaningUpTo l.fn.maker.terms l.maker.terms (setting l.core l.program) l.number l.made.items
