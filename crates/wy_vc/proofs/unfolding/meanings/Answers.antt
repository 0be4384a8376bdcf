use Rattle.wy_vc_tables.specs.program_names.Described.{setting}
use Rattle.wy_vc.proofs.MeaningLemmas.{up_to_begin, up_to_turn}
use Rattle.wy_vc.proofs.unfolding.meanings.Goals as goal

pub loop-number-init : goal.loop-number-init
loop-number-init c = up_to_begin c.args.maker.now.terms (setting c.args.core.now c.args.program.now) c.new-made.result.items c.new-made.ensures.items

pub loop-number-preserved : goal.loop-number-preserved
loop-number-preserved c =
    up_to_turn c.args.maker.now.terms c.loop-number.maker.terms c.meaning_of.new.maker.terms (setting c.args.core.now c.args.program.now) c.loop-number.number c.loop-number.made.items c.push.new.self.items c.in_ok-meaning.meaning c.loop-number.invariant
    c.in_ok-meaning.ensures.kept c.in_ok-meaning.ensures.value c.in_ok-push.ensures.items
