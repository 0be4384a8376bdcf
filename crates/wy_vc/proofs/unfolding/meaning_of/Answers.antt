use Rattle.std.proofs.Common.{refl}
use Rattle.wy_vc_tables.specs.program_names.Described.{setting}
use Rattle.wy_vc.proofs.MeaningLemmas.{meaning_made}
use Rattle.wy_vc.proofs.unfolding.meaning_of.Goals as goal

pub returns-clause-value : goal.returns-clause-value
returns-clause-value c =
    meaning_made c.type_formula.new.maker.terms (setting c.args.core.now c.args.program.now) c.args.number _ _ (c.in_ok-name.ensures.made c.requires.described).0 (c.in_ok-name.ensures.made c.requires.described).1 refl c.in_ok-tests.ensures.value
