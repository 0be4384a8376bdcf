use Rattle.wy_vc_spec.specs.Numbered.{numbered_core}
use Rattle.wy_vc_spec.specs.Programs.{decls_conditions}
use Rattle.wy_core.specs.CoreSeen.{seen_core}
use Rattle.wy_vc_body.specs.Frames.{program_of}
use Rattle.wy_vc.proofs.ConditionLemmas.{cut_first, cut_sound}
use Rattle.wy_vc.proofs.listing.owed.Goals as goal

pub returns-clause-sound : goal.returns-clause-sound
returns-clause-sound c = cut_sound c.owe_declarations.new.walk c.cut.new.walk c.cut.ensures.maker c.cut.ensures.hyps c.cut.ensures.owed c.in_ok-owe_declarations.ensures.value.sound

pub returns-clause-first : goal.returns-clause-first
returns-clause-first c =
    cut_first c.nothing-walk.result c.owe_declarations.new.walk c.cut.new.walk (decls_conditions (program_of c.args.core.now c.args.program.now) (numbered_core (seen_core c.args.core.now))) c.cut.ensures.maker c.cut.ensures.owed c.nothing-walk.ensures.owed c.in_ok-owe_declarations.ensures.value
