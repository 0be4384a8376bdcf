use Rattle.std.proofs.Common.{rules, ◌≡◌, ◌↔◌, false, IsTrue}
use Rattle.wy_term.specs.wy_data.scan.Words.{AreFields}
use Rattle.wy_term_text.proofs.spell_lemmas.KindUp.{refuse_last_kind_field, kind_fields_more}
use Rattle.wy_term_text.proofs.spell.expand.kind_fields.Goals as goal

pub returns-then-not-branch-clause-complete : goal.returns-then-not-branch-clause-complete
returns-then-not-branch-clause-complete c n =
    let answer : IsTrue c.in_ok-are_fields.field-0 ↔ AreFields c.args.names.items = search rules in
    let fails : c.in_ok-are_fields.field-0 ≡ false = search rules in
    refuse_last_kind_field c.args.names.items c.args.base n c.args.text.now c.in-Some.rest.now c.in_ok-are_fields.field-0 answer fails c.in-Some.ensures.value

pub returns-clause-complete : goal.returns-clause-complete
returns-clause-complete c =
    kind_fields_more c.args.names.items c.args.base c.args.text.now c.in-Some-behind.rest.now c.kind_field.result c.in_default.ensures.value c.in-Some-behind.ensures.value c.kind_field.ensures.value
