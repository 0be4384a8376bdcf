use Rattle.std.proofs.Common.{◌≡◌, ◌+◌, ◌∙◌, ◌||◌, Bool, ap, false, true, not, refl, sym, map, arith}
use Rattle.wy_core.specs.CoreSeen.{field_parts_of, field_tys_of, seen_part, seen_ty}
use Rattle.wy_value.specs.Seen.{seen}
use Rattle.wy_types.specs.Names.{is_in_ty, shape_of, types_of}
use Rattle.wy_types.specs.Shape.{signed_as}
use Rattle.wy_types_member.specs.Parts.{seen_field, seen_field_part}
use Rattle.wy_types_member.proofs.RankLemmas.{fallen, datum_size, part_size, ty_size, tys_size, parts_size}
use Rattle.wy_types_member.proofs.FallLemmas.{record_falls, array_falls, named_falls, items_fall, fields_fall, positive_falls, negatives_fall, array_atom_falls, record_atom_falls, item_falls, conjunct_falls, atom_falls, definition_falls, field_falls, part_field_falls, term_falls}
use Rattle.wy_types_member.proofs.PartLemmas.{all_names, array_in_ty, record_in_tys, array_in_part, record_in_parts, in_definition, in_terms, may_downward, other_length, other_part_length, signed_other, stopped_no, term_turn, terms_end, undeclared, unfolded}
use Rattle.wy_types_member.proofs.membership.+within.Goals as goal
use Rattle.wy_types_member.proofs.membership.+within.Goals.{in_named-else-not-up-via-then-not-up+else-declared, in_named-else-not-up-via-else-not-up}

pub in_ty-in_record-requires : goal.in_ty-in_record-requires
in_ty-in_record-requires t c = (fallen _ _ t c.decreases (record_falls (types_of c.args.names.now) (datum_size (seen c.args.value.now)) c.args.bare c.args.ty.now c.in-Record.tys c.as_slice.result.now c.in-Record.is c.as_slice.ensures), tt)

pub in_ty-in_array-requires : goal.in_ty-in_array-requires
in_ty-in_array-requires t c = (fallen _ _ t c.decreases (array_falls (types_of c.args.names.now) (datum_size (seen c.args.value.now)) c.args.bare c.args.ty.now c.in-Array.item c.get.result.now c.in-Array.is c.get.ensures), tt)

pub in_ty-in_named-requires : goal.in_ty-in_named-requires
in_ty-in_named-requires t c = (fallen _ _ t c.decreases (named_falls (types_of c.args.names.now) (datum_size (seen c.args.value.now)) c.args.bare c.args.ty.now c.in-Named.number c.in-Named.is), tt)

pub in_atom-array_of-requires : goal.in_atom-array_of-requires
in_atom-array_of-requires t c = (fallen _ _ t c.decreases (array_atom_falls (types_of c.args.names.now) (datum_size (seen c.args.value.now)) c.args.atom.now c.in-Array.part c.in-Array.is), tt)

pub in_atom-record_of-requires : goal.in_atom-record_of-requires
in_atom-record_of-requires t c = (fallen _ _ t c.decreases (record_atom_falls (types_of c.args.names.now) (datum_size (seen c.args.value.now)) c.args.atom.now c.in-Record.parts c.as_slice.result.now c.in-Record.is c.as_slice.ensures), tt)

pub in_conjunct-in_atom-requires : goal.in_conjunct-in_atom-requires
in_conjunct-in_atom-requires t c = (fallen _ _ t c.decreases (positive_falls (types_of c.args.names.now) (datum_size (seen c.args.value.now)) c.args.conjunct.now), tt)

pub in_conjunct-in_none-requires : goal.in_conjunct-in_none-requires
in_conjunct-in_none-requires t c = (fallen _ _ t c.decreases (negatives_fall (types_of c.args.names.now) (datum_size (seen c.args.value.now)) c.args.conjunct.now c.as_slice.result.now c.as_slice.ensures), tt)

pub in_array-returns-in-Array : goal.in_array-returns-in-Array
in_array-returns-in-Array t c = record { value = array_in_ty (types_of c.args.names.now) c.args.value.now c.in-Array.items c.as_slice.result.now c.args.up (seen_ty c.args.ty.now) c.each_in.result c.in-Array.is c.as_slice.ensures c.each_in.ensures.value }

pub in_record-returns-in-Record : goal.in_record-returns-in-Record
in_record-returns-in-Record t c = record { value = record_in_tys (types_of c.args.names.now) c.args.value.now c.in-Record.fields c.as_slice.result.now c.args.up (field_tys_of (map seen_field c.args.tys.now)) c.fields_in.result c.in-Record.is c.as_slice.ensures c.fields_in.ensures.value }

pub array_of-returns-in-Array : goal.array_of-returns-in-Array
array_of-returns-in-Array t c = record { value = array_in_part (types_of c.args.names.now) c.args.value.now c.in-Array.items c.as_slice.result.now (seen_part c.args.part.now) c.each_in_part.result c.in-Array.is c.as_slice.ensures c.each_in_part.ensures.value }

pub record_of-returns-in-Record : goal.record_of-returns-in-Record
record_of-returns-in-Record t c = record { value = record_in_parts (types_of c.args.names.now) c.args.value.now c.in-Record.fields c.as_slice.result.now (field_parts_of (map seen_field_part c.args.parts.now)) c.parts_in.result c.in-Record.is c.as_slice.ensures c.parts_in.ensures.value }

pub in_array-each_in-requires : goal.in_array-each_in-requires
in_array-each_in-requires t c = (fallen _ _ t c.decreases (items_fall (types_of c.args.names.now) c.args.value.now c.in-Array.items c.as_slice.result.now (1 + (ty_size (seen_ty c.args.ty.now) + ty_size (seen_ty c.args.ty.now))) c.in-Array.is c.as_slice.ensures), tt)

pub array_of-each_in_part-requires : goal.array_of-each_in_part-requires
array_of-each_in_part-requires t c = (fallen _ _ t c.decreases (items_fall (types_of c.args.names.now) c.args.value.now c.in-Array.items c.as_slice.result.now (1 + (part_size (seen_part c.args.part.now) + part_size (seen_part c.args.part.now))) c.in-Array.is c.as_slice.ensures), tt)

pub in_record-fields_in-requires : goal.in_record-fields_in-requires
in_record-fields_in-requires t c = (fallen _ _ t c.decreases (fields_fall (types_of c.args.names.now) c.args.value.now c.in-Record.fields c.as_slice.result.now (1 + (tys_size (field_tys_of (map seen_field c.args.tys.now)) + tys_size (field_tys_of (map seen_field c.args.tys.now)))) c.in-Record.is c.as_slice.ensures), tt)

pub record_of-parts_in-requires : goal.record_of-parts_in-requires
record_of-parts_in-requires t c = (fallen _ _ t c.decreases (fields_fall (types_of c.args.names.now) c.args.value.now c.in-Record.fields c.as_slice.result.now (1 + (parts_size (field_parts_of (map seen_field_part c.args.parts.now)) + parts_size (field_parts_of (map seen_field_part c.args.parts.now)))) c.in-Record.is c.as_slice.ensures), tt)

pub each_in-in_ty-requires : goal.each_in-in_ty-requires
each_in-in_ty-requires t c = (fallen _ _ t c.decreases (item_falls (types_of c.args.names.now) c.args.items.now c.loop-item.item-index c.len-bare.result c.item-item.result (ty_size (seen_ty c.args.ty.now)) (all_names c.args.names.now.declared c.len-bare.result c.len-bare.ensures) c.loop-item-test.true c.item-item.is), tt)

pub each_in_part-in_part-requires : goal.each_in_part-in_part-requires
each_in_part-in_part-requires t c = (fallen _ _ t c.decreases (item_falls (types_of c.args.names.now) c.args.items.now c.loop-item.item-index _ c.item-item.result (part_size (seen_part c.args.part.now)) refl c.loop-item-test.true c.item-item.is), tt)

pub in_none-in_atom-requires : goal.in_none-in_atom-requires
in_none-in_atom-requires t c = (fallen _ _ t c.decreases (atom_falls (types_of c.args.names.now) (datum_size (seen c.args.value.now)) c.args.atoms.now c.loop-atom.atom-index c.atom-item.result c.loop-atom-test.true c.atom-item.is), tt)

pub in_normal-in_conjunct-requires : goal.in_normal-in_conjunct-requires
in_normal-in_conjunct-requires t c = (fallen _ _ t c.decreases (conjunct_falls (types_of c.args.names.now) (datum_size (seen c.args.value.now)) c.args.conjuncts.now c.loop-conjunct.conjunct-index c.conjunct-item.result c.loop-conjunct-test.true c.conjunct-item.is), tt)

pub in_named-in_ty-requires : goal.in_named-in_ty-requires
in_named-in_ty-requires t c = (fallen _ _ t c.decreases (definition_falls c.args.names.now.declared (datum_size (seen c.args.value.now)) c.args.bare c.args.number 1 c.in-Some.declared.now (omega arith) (sym c.in-Some.ensures.value)), tt)

pub fields_in-in_ty-requires : goal.fields_in-in_ty-requires
fields_in-in_ty-requires t c = (fallen _ _ t c.decreases (field_falls (types_of c.args.names.now) c.args.fields.now c.args.tys.now c.loop-i.i c.len-bare.result c.index-fields-i.result c.index-tys-i.result (all_names c.args.names.now.declared c.len-bare.result c.len-bare.ensures) c.loop-i-test.true c.index-fields-i.is (omega arith) c.index-tys-i.is), tt)

pub parts_in-in_part-requires : goal.parts_in-in_part-requires
parts_in-in_part-requires t c = (fallen _ _ t c.decreases (part_field_falls (types_of c.args.names.now) c.args.fields.now c.args.parts.now c.loop-i.i c.index-fields-i.result c.index-parts-i.result c.loop-i-test.true c.index-fields-i.is (omega arith) c.index-parts-i.is), tt)

pub in_part-in_ty-requires : goal.in_part-in_ty-requires
in_part-in_ty-requires t c = (fallen _ _ t c.decreases (term_falls (types_of c.args.names.now) (datum_size (seen c.args.value.now)) c.len-bare.result c.args.part.now c.as_slice-signed-items.result.now c.loop-signed.signed-index c.signed-item.result (all_names c.args.names.now.declared c.len-bare.result c.len-bare.ensures) (sym c.as_slice-signed-items.ensures) c.loop-signed-test.true c.signed-item.is), tt)

pub fields_in-returns-then-fields-tys : goal.fields_in-returns-then-fields-tys
fields_in-returns-then-fields-tys t c = record { value = other_length (types_of c.args.names.now) c.args.fields.now c.args.tys.now c.args.up (omega arith) }

pub parts_in-returns-then-fields-parts : goal.parts_in-returns-then-fields-parts
parts_in-returns-then-fields-parts t c = record { value = other_part_length (types_of c.args.names.now) c.args.fields.now c.args.parts.now (omega arith) }

pub in_named-returns-in-None : goal.in_named-returns-in-None
in_named-returns-in-None t c = record { value = undeclared c.args.names.now.declared c.args.bare (shape_of (types_of c.args.names.now) (seen c.args.value.now)) c.args.up c.args.number (omega arith) (sym c.in-None.ensures.value) }

pub in_named-returns-else-not-up : goal.in_named-returns-else-not-up
in_named-returns-else-not-up t c =
    let may : (c.args.up || not c.in-Some.declared.now.constrained) ≡ true = elim c.else-not-up.branch [
      | in_named-else-not-up-via-then-not-up+else-declared w ↦ may_downward c.args.up c.in-Some.declared.now.constrained w.if-declared.false
      | in_named-else-not-up-via-else-not-up w ↦ ap (λ (u : Bool). u || not c.in-Some.declared.now.constrained) w.if-not-up.false
    ] in
    record { value = in_definition c.args.names.now.declared c.args.bare (shape_of (types_of c.args.names.now) (seen c.args.value.now)) c.args.up c.args.number c.in-Some.declared.now c.in_ty.result (omega arith) (sym c.in-Some.ensures.value) may c.in_ty.ensures.value }

pub in_part-returns-then-in_ty-signed : goal.in_part-returns-then-in_ty-signed
in_part-returns-then-in_ty-signed t c =
    let names = types_of c.args.names.now in
    let s = shape_of names (seen c.args.value.now) in
    let signed = c.signed-item.result in
    let is : c.in_ty.result ≡ is_in_ty names s signed.up (seen_ty signed.term) = unfolded c.args.names.now.declared c.len-bare.result s signed.up (seen_ty signed.term) c.in_ty.result c.len-bare.ensures c.in_ty.ensures.value in
    record {
      value = in_terms (is_in_ty names s) c.args.part.now c.as_slice-signed-items.result.now false (sym c.as_slice-signed-items.ensures)
          (stopped_no (signed_as c.in_ty.result signed.inside) _ _ _ (term_turn (is_in_ty names s) c.as_slice-signed-items.result.now c.loop-signed.signed-index signed c.in_ty.result c.loop-signed-test.true c.signed-item.is is)
          (signed_other c.in_ty.result signed.inside c.if-in_ty-signed.true) c.loop-signed.invariant);
    }

pub in_part-returns : goal.in_part-returns
in_part-returns t c =
    let names = types_of c.args.names.now in
    let s = shape_of names (seen c.args.value.now) in
    record {
      value = in_terms (is_in_ty names s) c.args.part.now c.as_slice-signed-items.result.now true (sym c.as_slice-signed-items.ensures)
          (sym (terms_end (is_in_ty names s) c.as_slice-signed-items.result.now c.loop-signed.signed-index c.loop-signed-test.false) ∙ c.loop-signed.invariant);
    }
