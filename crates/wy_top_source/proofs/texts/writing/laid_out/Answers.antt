use Rattle.wy_top_source.proofs.texts_lemmas.AgainLemmas.{read_again}
use Rattle.wy_top_source.proofs.texts_lemmas.TextLemmas.{layout_complete, layout_exact, layout_is, unread_complete, unread_exact}
use Rattle.wy_top_source.proofs.texts.writing.laid_out.Goals as goal
use Rattle.wy_top_source.specs.declared.texts.kind.Kind.TheVariants.{Layout}

pub returns-in-Err-clause-complete : goal.returns-in-Err-clause-complete
returns-in-Err-clause-complete c = unread_complete c.args.source.now c.in-Err.fault c.in-Err.ensures.reads

pub returns-in-Err-clause-exact : goal.returns-in-Err-clause-exact
returns-in-Err-clause-exact c = unread_exact c.args.source.now c.in-Err.fault c.in-Err.ensures.reads c.in-Err.ensures.exact

pub returns-in-Ok-print-clause-text : goal.returns-in-Ok-print-clause-text
returns-in-Ok-print-clause-text c = layout_is c.args.source.now c.in-Ok-print.text.items c.in-Ok.program c.in-Ok.ensures.spells c.in-Ok-print.ensures.value

pub returns-in-Ok-print-clause-complete : goal.returns-in-Ok-print-clause-complete
returns-in-Ok-print-clause-complete c = layout_complete c.args.source.now c.in-Ok-print.text.items c.in-Ok.program c.in-Ok.ensures.reads c.in-Ok-print.ensures.value

pub returns-in-Ok-print-clause-exact : goal.returns-in-Ok-print-clause-exact
returns-in-Ok-print-clause-exact c = layout_exact c.args.source.now c.in-Ok.program c.in-Ok.ensures.exact

pub returns-in-Ok-print-clause-again : goal.returns-in-Ok-print-clause-again
returns-in-Ok-print-clause-again c =
    read_again Layout c.args.source.now c.in-Ok-print.text.items (layout_is c.args.source.now c.in-Ok-print.text.items c.in-Ok.program c.in-Ok.ensures.spells c.in-Ok-print.ensures.value)
