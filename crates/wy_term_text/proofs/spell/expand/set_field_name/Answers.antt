use Rattle.std.proofs.Common.{rules, ◌≡◌, [], ◌∷◌, codes, map}
use Rattle.wy_term_text.specs.spell.View.{seen}
use Rattle.wy_term.specs.Term as term
use Rattle.wy_term.specs.wy_data.scan.Words.{IsWordAt}
use Rattle.wy_term.specs.Sorts.{val_sort}
use Rattle.wy_term_text.specs.spell.Todo.{a_term, word, root}
use Rattle.wy_term_text.proofs.spell_lemmas.GoesUp.{cover_set_field_name, refuse_set_field_second}
use Rattle.wy_term_text.proofs.spell.expand.set_field_name.Goals as goal

pub returns-in_default-behind-clause-complete : goal.returns-in_default-behind-clause-complete
returns-in_default-behind-clause-complete c n =
    let at : IsWordAt c.in-Some.rest.now c.in-Some-2.name c.in-Some-2.rest.now = search rules in
    refuse_set_field_second c.args.base n c.args.text.now c.in-Some.rest.now c.in-Some-2.name c.in-Some-2.rest.now c.in-Some.ensures.value at c.in_default-behind.ensures.value

pub returns-clause-complete : goal.returns-clause-complete
returns-clause-complete c n =
    let at : IsWordAt c.in-Some.rest.now c.in-Some-2.name c.in-Some-2.rest.now = search rules in
    let works : map seen c.in_ok-tasks.tasks.items ≡ a_term val_sort ∷ word (codes ")") ∷ root (term.set_field c.in-Some-2.name) c.args.base ∷ [] = search rules in
    cover_set_field_name c.args.base n c.args.text.now c.in-Some.rest.now c.in-Some-2.name c.in-Some-2.rest.now c.in-Some-behind.rest.now (map seen c.in_ok-tasks.tasks.items) works c.in-Some.ensures.value at c.in-Some-behind.ensures.value
