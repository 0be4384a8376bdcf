use Rattle.std.proofs.Common.{◌≡◌, ◌+◌, drop, length, map}
use Rattle.wy_core.specs.CoreSeen.{atoms_of, conjuncts_of, field_parts_of, field_tys_of, part_of, seen_atom, seen_conjunct, seen_part, seen_ty}
use Rattle.wy_types.specs.Names.{each_in_ty, each_terms_in, field_readers, fields_in_tys, is_in_none, is_in_normal, is_in_ty, item_readers, parts_in, shape_of, terms_in, types_of}
use Rattle.wy_value.specs.Seen.{seen, seen_fields, seen_items}
use Rattle.wy_value.specs.Values.{names_of}
use Rattle.wy_types_member.specs.Parts.{seen_field, seen_field_part, seen_signed}
use Rattle.wy_types_member.proofs.RankLemmas.{atom_size, atoms_size, conjunct_size, conjuncts_size, data_size, datum_size, fields_size, part_size, parts_size, ty_size, tys_size, rank}
use Rattle.wy_types_member.proofs.membership.+within.Given as goal

abbrev pub decreases-in_ty : goal.decreases-in_ty
decreases-in_ty a = rank (types_of a.names.now) (datum_size (seen a.value.now)) a.bare (ty_size (seen_ty a.ty.now) + ty_size (seen_ty a.ty.now))

abbrev pub decreases-in_named : goal.decreases-in_named
decreases-in_named a = rank (types_of a.names.now) (datum_size (seen a.value.now)) a.bare 1

abbrev pub decreases-in_array : goal.decreases-in_array
decreases-in_array a = rank (types_of a.names.now) (datum_size (seen a.value.now)) 0 (1 + (ty_size (seen_ty a.ty.now) + ty_size (seen_ty a.ty.now)))

abbrev pub decreases-each_in : goal.decreases-each_in
decreases-each_in a = rank (types_of a.names.now) (data_size (seen_items a.items.now)) 0 (1 + (ty_size (seen_ty a.ty.now) + ty_size (seen_ty a.ty.now)))

abbrev pub decreases-in_record : goal.decreases-in_record
decreases-in_record a = rank (types_of a.names.now) (datum_size (seen a.value.now)) 0 (1 + (tys_size (field_tys_of (map seen_field a.tys.now)) + tys_size (field_tys_of (map seen_field a.tys.now))))

abbrev pub decreases-fields_in : goal.decreases-fields_in
decreases-fields_in a = rank (types_of a.names.now) (fields_size (seen_fields a.fields.now)) 0 (1 + (tys_size (field_tys_of (map seen_field a.tys.now)) + tys_size (field_tys_of (map seen_field a.tys.now))))

abbrev pub decreases-in_normal : goal.decreases-in_normal
decreases-in_normal a = rank (types_of a.names.now) (datum_size (seen a.value.now)) 0 (1 + (conjuncts_size (conjuncts_of (map seen_conjunct a.conjuncts.now)) + conjuncts_size (conjuncts_of (map seen_conjunct a.conjuncts.now))))

abbrev pub decreases-in_conjunct : goal.decreases-in_conjunct
decreases-in_conjunct a = rank (types_of a.names.now) (datum_size (seen a.value.now)) 0 (conjunct_size (seen_conjunct a.conjunct.now) + conjunct_size (seen_conjunct a.conjunct.now))

abbrev pub decreases-in_none : goal.decreases-in_none
decreases-in_none a = rank (types_of a.names.now) (datum_size (seen a.value.now)) 0 (1 + (atoms_size (atoms_of (map seen_atom a.atoms.now)) + atoms_size (atoms_of (map seen_atom a.atoms.now))))

abbrev pub decreases-in_atom : goal.decreases-in_atom
decreases-in_atom a = rank (types_of a.names.now) (datum_size (seen a.value.now)) 0 (atom_size (seen_atom a.atom.now) + atom_size (seen_atom a.atom.now))

abbrev pub decreases-array_of : goal.decreases-array_of
decreases-array_of a = rank (types_of a.names.now) (datum_size (seen a.value.now)) 0 (1 + (part_size (seen_part a.part.now) + part_size (seen_part a.part.now)))

abbrev pub decreases-each_in_part : goal.decreases-each_in_part
decreases-each_in_part a = rank (types_of a.names.now) (data_size (seen_items a.items.now)) 0 (1 + (part_size (seen_part a.part.now) + part_size (seen_part a.part.now)))

abbrev pub decreases-record_of : goal.decreases-record_of
decreases-record_of a = rank (types_of a.names.now) (datum_size (seen a.value.now)) 0 (1 + (parts_size (field_parts_of (map seen_field_part a.parts.now)) + parts_size (field_parts_of (map seen_field_part a.parts.now))))

abbrev pub decreases-parts_in : goal.decreases-parts_in
decreases-parts_in a = rank (types_of a.names.now) (fields_size (seen_fields a.fields.now)) 0 (1 + (parts_size (field_parts_of (map seen_field_part a.parts.now)) + parts_size (field_parts_of (map seen_field_part a.parts.now))))

abbrev pub decreases-in_part : goal.decreases-in_part
decreases-in_part a = rank (types_of a.names.now) (datum_size (seen a.value.now)) (length (types_of a.names.now)) (part_size (seen_part a.part.now) + part_size (seen_part a.part.now))

abbrev pub invariant-each_in-loop-item : goal.invariant-each_in-loop-item
invariant-each_in-loop-item l = each_in_ty (item_readers (types_of l.names) (seen_items (drop l.item-index l.items))) l.up (seen_ty l.ty) ≡ each_in_ty (item_readers (types_of l.names) (seen_items l.items)) l.up (seen_ty l.ty)

abbrev pub invariant-fields_in-loop-i : goal.invariant-fields_in-loop-i
invariant-fields_in-loop-i l =
    fields_in_tys (names_of (seen_fields (drop l.i l.fields))) (field_readers (types_of l.names) (seen_fields (drop l.i l.fields))) l.up (field_tys_of (map seen_field (drop l.i l.tys)))
    ≡ fields_in_tys (names_of (seen_fields l.fields)) (field_readers (types_of l.names) (seen_fields l.fields)) l.up (field_tys_of (map seen_field l.tys))

abbrev pub invariant-in_normal-loop-conjunct : goal.invariant-in_normal-loop-conjunct
invariant-in_normal-loop-conjunct l =
    is_in_normal (shape_of (types_of l.names) (seen l.value)) (conjuncts_of (map seen_conjunct (drop l.conjunct-index l.conjuncts))) ≡ is_in_normal (shape_of (types_of l.names) (seen l.value)) (conjuncts_of (map seen_conjunct l.conjuncts))

abbrev pub invariant-in_none-loop-atom : goal.invariant-in_none-loop-atom
invariant-in_none-loop-atom l =
    is_in_none (shape_of (types_of l.names) (seen l.value)) (atoms_of (map seen_atom (drop l.atom-index l.atoms))) ≡ is_in_none (shape_of (types_of l.names) (seen l.value)) (atoms_of (map seen_atom l.atoms))

abbrev pub invariant-each_in_part-loop-item : goal.invariant-each_in_part-loop-item
invariant-each_in_part-loop-item l = each_terms_in (item_readers (types_of l.names) (seen_items (drop l.item-index l.items))) (seen_part l.part) ≡ each_terms_in (item_readers (types_of l.names) (seen_items l.items)) (seen_part l.part)

abbrev pub invariant-parts_in-loop-i : goal.invariant-parts_in-loop-i
invariant-parts_in-loop-i l =
    parts_in (names_of (seen_fields (drop l.i l.fields))) (field_readers (types_of l.names) (seen_fields (drop l.i l.fields))) (field_parts_of (map seen_field_part (drop l.i l.parts)))
    ≡ parts_in (names_of (seen_fields l.fields)) (field_readers (types_of l.names) (seen_fields l.fields)) (field_parts_of (map seen_field_part l.parts))

abbrev pub invariant-in_part-loop-signed : goal.invariant-in_part-loop-signed
invariant-in_part-loop-signed l =
    terms_in (is_in_ty (types_of l.names) (shape_of (types_of l.names) (seen l.value))) (part_of (map seen_signed (drop l.signed-index l.signed-items)))
    ≡ terms_in (is_in_ty (types_of l.names) (shape_of (types_of l.names) (seen l.value))) (part_of (map seen_signed l.signed-items))
