-- What is made of the tables of parts.
use Rattle.std.proofs.Common.{◌≡◌, ◌≤◌, ◌<◌, ◌+◌, ◌-◌, ℕ, List, [], ◌∷◌, refl, map, take, drop, length, get_or, ap, sym, ◌∙◌, Result, IfOk, arith}
use Rattle.std.proofs.lemmas.List.{take_all}
use Rattle.wy_lemmas.proofs.Equations.{both_same}
use Rattle.wy_lemmas.proofs.Options.{if_ok}
use Rattle.wy_value.specs.Datum.{Datum, Record, no_fields}
use Rattle.wy_core.specs.Types as ty
use Rattle.wy_core.specs.CoreSeen.{field_tys_of, seen_ty}
use Rattle.wy_core.specs.declared.types.Ty.{Ty}
use Rattle.wy_types_member.proofs.RankLemmas.{ty_size, tys_size}
use Rattle.wy_types_member.proofs.SizeLemmas.{field_ty_less}
use Rattle.wy_value.specs.declared.value.Value.{Value}
use Rattle.wy_types_member.specs.Parts.{seen_field}
use Rattle.wy_probe.specs.Candidates.{most, no_record}
use Rattle.wy_probe.specs.Tables.{data_in, table_of, tables_of}

abbrev pub tys_of : List (List ℕ × Ty) → ty.FieldTys
tys_of fields = field_tys_of (map seen_field fields)

-- a field is smaller than all of them
pub field_falls : (fields : List (List ℕ × Ty)) (i : ℕ) (f : List ℕ × Ty) → i < length fields → f ≡ get_or fields i f → ty_size (seen_ty f.1) + ty_size (seen_ty f.1) < tys_size (tys_of fields) + tys_size (tys_of fields)
field_falls fields i f within is = let h = field_ty_less fields i f within is in omega (arith, h)

-- ---- what is answered

pub came : {E : Type 0} (r : Result (List Value) E) (xs ys : List Datum) → xs ≡ ys → IfOk r (λ made. data_in made ≡ xs) → IfOk r (λ made. data_in made ≡ ys)
came r xs ys e h = if_ok r (λ made. data_in made ≡ xs) (λ made. data_in made ≡ ys) (λ made p. p ∙ e) h

-- ---- what is below

pub lower_split : (lower : List (List (List Value))) (x : List (List Value)) → 1 ≤ length lower → x ≡ get_or lower 0 x
    → tables_of lower ≡ table_of x ∷ tables_of (take (length lower - 1) (drop 1 lower))
lower_split [] x some is = absurd (omega arith)
lower_split (y ∷ ys) x some is = both_same (λ a b. a ∷ b) _ _ _ _ (ap table_of (sym is)) (ap tables_of (sym (take_all (length (y ∷ ys) - 1) ys (omega arith))))

pub bare_record : {E : Type 0} (fields : List (List ℕ × Ty)) (r : Result (List Value) E) → (length fields ≡ 0 → IfOk r (λ made. data_in made ≡ Record no_fields ∷ [])) → (0 < length fields → IfOk r (λ made. data_in made ≡ []))
    → IfOk r (λ made. take most (data_in made) ≡ take most (no_record (tys_of fields)))
bare_record [] r empty none = if_ok r (λ made. data_in made ≡ Record no_fields ∷ []) (λ made. take most (data_in made) ≡ take most (Record no_fields ∷ [])) (λ made p. ap (take most) p) (empty refl)
bare_record (f ∷ fields) r empty none = if_ok r (λ made. data_in made ≡ []) (λ made. take most (data_in made) ≡ take most []) (λ made p. ap (take most) p) (none (omega arith))
