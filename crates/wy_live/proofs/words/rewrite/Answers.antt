use Rattle.std.proofs.Common.{◌∙◌, ap, sym, subst, List}
use Rattle.std.proofs.lemmas.List.{get_or_default}
use Rattle.wy_live.specs.declared.words.Word.{Word}
use Rattle.wy_live.specs.Words.{no_word, place_at, Changed}
use Rattle.wy_live.proofs.ChangeLemmas.{set_changed, remove_changed}
use Rattle.wy_live.proofs.words.rewrite.Goals as goal

pub returns-then-bits-eq0-clause-value : goal.returns-then-bits-eq0-clause-value
returns-then-bits-eq0-clause-value c =
    let ws = c.args.words.now.items in
    subst (λ (l : List Word). Changed ws l (place_at ws c.args.at) c.args.bits) (sym c.remove.ensures.items) (remove_changed ws c.args.at c.args.bits c.requires.order c.requires.within c.if-bits-eq0.true)

pub returns-clause-value : goal.returns-clause-value
returns-clause-value c =
    let ws = c.args.words.now.items in
    set_changed ws c.args.at (record { place = c.index.result.now.place; bits = c.args.bits }) c.requires.order c.requires.within
    (ap (λ (w : Word). w.place) (c.index.ensures ∙ get_or_default ws c.args.at c.index.result.now no_word c.requires.within))
