-- What a node with a list stands for, and when two such nodes stand for the same.
use Rattle.std.proofs.Common.{◌≡◌, ℕ, List, map, rules}
use Rattle.wy_core.specs.Types as ty
use Rattle.wy_core.specs.CoreSeen.{field_tys_of, conjuncts_of, atoms_of, field_parts_of, part_of, seen_ty, seen_conjunct, seen_atom, seen_part}
use Rattle.wy_core.specs.declared.types.Ty.{Ty, the_lemmas}
use Rattle.wy_core.specs.declared.types.TyKind as kind
use Rattle.wy_core.specs.declared.types.Atom as atom
use Rattle.wy_core.specs.declared.types.Part.{Part, out-Part}
use Rattle.wy_core.specs.declared.types.Conjunct.{Conjunct}
use Rattle.wy_core.specs.declared.types.Signed.{Signed}
use Rattle.wy_core.specs.same.SeenParts.{seen_field, seen_field_part, seen_signed}

pub seen_record : (t : Ty) (fields : List (List ℕ × Ty)) → t.kind ≡ kind.Record fields
    → seen_ty t ≡ ty.RecordTy (field_tys_of (map seen_field fields))
seen_record t fields e = search (rules, the_lemmas)

pub seen_normal : (t : Ty) (conjuncts : List Conjunct) → t.kind ≡ kind.Normal conjuncts
    → seen_ty t ≡ ty.NormalTy (conjuncts_of (map seen_conjunct conjuncts))
seen_normal t conjuncts e = search (rules, the_lemmas)

pub seen_record_atom : (a : atom.Atom) (parts : List (List ℕ × Part)) → a ≡ atom.Record parts
    → seen_atom a ≡ ty.RecordAtom (field_parts_of (map seen_field_part parts))
seen_record_atom a parts e = search (rules, the_lemmas)

pub seen_terms : (p : Part) (terms : List Signed) → (out-Part p).terms ≡ terms → seen_part p ≡ part_of (map seen_signed terms)
seen_terms p terms e = search (rules, the_lemmas)

pub seen_negatives : (c : Conjunct) (negatives : List atom.Atom) → c.negatives ≡ negatives
    → seen_conjunct c ≡ (seen_atom c.positive, atoms_of (map seen_atom negatives))
seen_negatives c negatives e = search (rules, the_lemmas)
