-- Loops over parameters with their arguments, and over the fields of a record with those of its type.
use Rattle.std.proofs.Common.{◌≡◌, ℕ, zero, suc, ◌<◌, ◌≤◌, Bool, false, List, [], ◌∷◌, map, length, drop, refl, ap, ◌∙◌, arith}
use Rattle.std.proofs.lemmas.List.{drop_all}
use Rattle.wy_value.specs.Grammar.{Entry}
use Rattle.wy_core.specs.CoreSeen.{field_tys_of, seen_ty}
use Rattle.wy_core.specs.declared.types.Ty.{Ty}
use Rattle.wy_sem.specs.TypeTests.{same_names}
use Rattle.wy_eval_exprs.specs.Operands.{parts_of}

abbrev Field : Type 0
Field = List ℕ × Ty

-- the fields from this one on have the names of those of the type from this one on
abbrev pub same_from : ℕ → List Entry → List Field → Bool
same_from i fs ts = same_names (parts_of (drop i fs)) (field_tys_of (map (λ f. (f.0, seen_ty f.1)) (drop i ts)))

first_of : {A : Type 0} (xs : List A) (i : ℕ) → i < length xs → (x : A) × (rest : List A) × (drop i xs ≡ x ∷ rest)
first_of [] i within = absurd (omega (arith, within))
first_of (x ∷ xs) zero within = (x, xs, refl)
first_of (x ∷ xs) (suc i) within = first_of xs i (omega (arith, within))

pub names_left : (fs : List Entry) (ts : List Field) (i : ℕ) → length fs ≤ i → i < length ts → same_from i fs ts ≡ false
names_left fs ts i over within =
    let first = first_of ts i within in
    ap (λ l. same_names (parts_of l) (field_tys_of (map (λ g. (g.0, seen_ty g.1)) (drop i ts)))) (drop_all i fs over)
    ∙ ap (λ l. same_names (parts_of []) (field_tys_of (map (λ g. (g.0, seen_ty g.1)) l))) first.2
