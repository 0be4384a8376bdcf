use Rattle.std.proofs.Common.{rules, ◌≡◌, map}
use Rattle.wy_term_text.specs.spell.View.{seen}
use Rattle.wy_term.specs.wy_data.scan.Words.{IsNumberedAt}
use Rattle.wy_term.specs.Folding.{binder}
use Rattle.wy_term_text.specs.spell.Heads.{parted}
use Rattle.wy_term_text.proofs.spell_lemmas.GoesUp.{cover_binder}
use Rattle.wy_term_text.proofs.spell.expand.binder.Goals.{then-all, else-all}
use Rattle.wy_term_text.proofs.spell.expand.binder.Goals as goal

pub returns-clause-complete : goal.returns-clause-complete
returns-clause-complete c n =
    let at : IsNumberedAt 35 c.args.text.now c.in-Some.word c.in-Some.n c.in-Some.rest.now = search rules in
    let works : map seen c.in_ok-bounded.field-0.items ≡ parted (binder c.args.all c.in-Some.word c.in-Some.n) c.args.base = elim c.if-all.branch [ then-all w ↦ search rules | else-all w ↦ search rules ] in
    cover_binder c.args.all c.args.base n c.args.text.now c.in-Some.word c.in-Some.rest.now c.in-Some-behind.rest.now c.in-Some.n (map seen c.in_ok-bounded.field-0.items) works at c.in-Some-behind.ensures.value
