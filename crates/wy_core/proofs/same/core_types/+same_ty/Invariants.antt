use Rattle.std.proofs.Common.{◌≡◌, take, map}
use Rattle.wy_core.specs.same.SeenParts.{seen_field, seen_field_part, seen_signed}
use Rattle.wy_core.specs.CoreSeen.{seen_conjunct, seen_atom}
use Rattle.wy_core.proofs.same.core_types.+same_ty.Given as goal

-- both begin alike
abbrev pub invariant-same_fields-loop-i : goal.invariant-same_fields-loop-i
invariant-same_fields-loop-i l = map seen_field (take l.i l.a) ≡ map seen_field (take l.i l.b)

abbrev pub invariant-same_field_parts-loop-i : goal.invariant-same_field_parts-loop-i
invariant-same_field_parts-loop-i l = map seen_field_part (take l.i l.a) ≡ map seen_field_part (take l.i l.b)

abbrev pub invariant-same_conjuncts-loop-i : goal.invariant-same_conjuncts-loop-i
invariant-same_conjuncts-loop-i l = map seen_conjunct (take l.i l.a) ≡ map seen_conjunct (take l.i l.b)

abbrev pub invariant-same_atoms-loop-i : goal.invariant-same_atoms-loop-i
invariant-same_atoms-loop-i l = map seen_atom (take l.i l.a) ≡ map seen_atom (take l.i l.b)

abbrev pub invariant-same_terms-loop-i : goal.invariant-same_terms-loop-i
invariant-same_terms-loop-i l = map seen_signed (take l.i l.a) ≡ map seen_signed (take l.i l.b)
