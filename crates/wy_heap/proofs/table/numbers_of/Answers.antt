use Rattle.std.proofs.Common.{◌<◌, ◌+◌, ◌++◌, ◌∷◌, [], ℕ, List, length, take, sym, subst, rules}
use Rattle.wy_value.specs.Seen.{seen_fields}
use Rattle.wy_value.specs.Values.{names_of}
use Rattle.wy_heap.specs.Extending.{AreNamed}
use Rattle.wy_heap.proofs.ImportLemmas.{extends_trans}
use Rattle.wy_heap.proofs.TableLemmas.{named_step, names_next, field_name}
use Rattle.wy_heap.proofs.table.numbers_of.Goals as goal

pub name_number-requires-clause-name : goal.name_number-requires-clause-name
name_number-requires-clause-name c =
    let i = c.loop-field.field-index in
    let fields = c.args.fields.now in
    let below : i < length fields = search rules in
    field_name fields i c.field-item.result below (sym c.field-item.is) c.requires.names

pub loop-field-preserved : goal.loop-field-preserved
loop-field-preserved c =
    let i = c.loop-field.field-index in
    let fields = c.args.fields.now in
    let below : i < length fields = search rules in
    let t = c.loop-field.table in
    let u = c.name_number.new.table in
    let step = named_step t u c.loop-field.list.items (names_of (seen_fields (take i fields))) c.in_ok-number.number c.field-item.result.0 c.loop-field.invariant.named c.in_ok-number.ensures.extends c.in_ok-number.ensures.number in
    record {
      table = c.in_ok-number.ensures.table;
      extends = extends_trans c.args.table.now t u c.loop-field.invariant.extends c.in_ok-number.ensures.extends;
      named = subst (λ (l : List ℕ). AreNamed u l (names_of (seen_fields (take (i + 1) fields)))) (sym c.in_ok-push.ensures.items)
          (subst (AreNamed u (c.loop-field.list.items ++ c.in_ok-number.number ∷ [])) (sym (names_next fields i c.field-item.result below (sym c.field-item.is))) step);
    }
