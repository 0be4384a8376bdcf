use Rattle.std.proofs.Common.{rules, ◌≡◌, [], ◌∷◌, map}
use Rattle.wy_term_text.specs.spell.View.{seen}
use Rattle.wy_term.specs.Term as term
use Rattle.wy_term.specs.Term.{record_kind}
use Rattle.wy_term_text.specs.spell.Todo.{root}
use Rattle.wy_term_text.proofs.spell_lemmas.KindUp.{cover_no_kind_fields, kind_fields_first}
use Rattle.wy_term_text.proofs.spell.expand.kind_name.Goals as goal

pub returns-in-Some-behind-5-clause-complete : goal.returns-in-Some-behind-5-clause-complete
returns-in-Some-behind-5-clause-complete c n =
    let works : map seen c.in_ok-alone-5.field-0.items ≡ root (term.of_kind (record_kind [])) c.args.base ∷ [] = search rules in
    cover_no_kind_fields c.args.base n c.args.text.now c.in-Some.text.now c.in-Some-behind-5.rest.now (map seen c.in_ok-alone-5.field-0.items) works c.in-Some.ensures.value c.in-Some-behind-5.ensures.value

pub returns-in-Some-behind-6-clause-complete : goal.returns-in-Some-behind-6-clause-complete
returns-in-Some-behind-6-clause-complete c =
    kind_fields_first c.args.base c.args.text.now c.in-Some.text.now c.in-Some-behind-6.rest.now _ c.kind_field.result c.new-in-Some-behind-6.ensures.items c.in-Some.ensures.value c.in_default-behind-5.ensures.value c.in-Some-behind-6.ensures.value c.kind_field.ensures.value
