use Rattle.std.proofs.Common.{rules, ◌≡◌, [], ◌∷◌, codes, map}
use Rattle.wy_term.specs.wy_data.scan.Words.{IsWordAt}
use Rattle.wy_term.specs.wy_data.scan.Front.{IsBehind}
use Rattle.wy_term.specs.Term as term
use Rattle.wy_term_text.specs.spell.Todo.{word, root}
use Rattle.wy_term_text.specs.spell.View.{seen}
use Rattle.wy_term_text.proofs.spell_lemmas.GoesUp.{cover_field_name}
use Rattle.wy_term_text.proofs.spell.expand.field_name.Goals as goal

pub returns-clause-complete : goal.returns-clause-complete
returns-clause-complete c n =
    let at : IsWordAt c.in-Some.rest.now c.in-Some-2.name c.in-Some-2.rest.now = search rules in
    let works : map seen c.in_ok-tasks.tasks.items ≡ word (codes ")") ∷ root (term.field c.in-Some-2.name) c.args.base ∷ [] = search rules in
    let comma : IsBehind (codes ", ") c.args.text.now c.in-Some.rest.now = search rules in
    cover_field_name c.args.base n c.args.text.now c.in-Some.rest.now c.in-Some-2.name c.in-Some-2.rest.now (map seen c.in_ok-tasks.tasks.items) works comma at
