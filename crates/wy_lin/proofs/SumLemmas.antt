-- The entries of a sum, in their order, are the parts of its form.
use Rattle.std.proofs.Common.{◌≡◌, ℕ, zero, suc, List, [], ◌∷◌, get_or, map, Bool, true, false, cond, eqb, ℤ, pos, Option, Some, None, refl, sym, ap, ◌∙◌}
use Rattle.std.specs.Prelude.{slice_get}
use Rattle.std.specs.Map.{lookup}
use Rattle.indexmap.specs.IndexMap.{insert_entry}
use Rattle.wy_term.proofs.wy_lemmas_proofs.Options.{some}
use Rattle.wy_lin.specs.declared.arithmetic.Factor.{Factor}
use Rattle.wy_lin.specs.Linear.{◌>>=◌, more, coefficient, with_coefficient, plus_part}
use Rattle.wy_lin.specs.Seen.{turned}

abbrev or_zero : Option ℤ → ℤ
or_zero None = pos 0
or_zero (Some c) = c

coefficient-entries : (es : List (ℕ × ℤ)) (v : ℕ) → coefficient eqb (map turned es) v ≡ or_zero (lookup (eqb v) es)
coefficient-entries [] v = refl
coefficient-entries (e ∷ es) v = by (eqb v e.0) (coefficient-entries es v)
  where
    by : (b : Bool) → coefficient eqb (map turned es) v ≡ or_zero (lookup (eqb v) es) → cond b e.1 (coefficient eqb (map turned es) v) ≡ or_zero (cond b (Some e.1) (lookup (eqb v) es))
    by true rest = refl
    by false rest = rest

pub coefficient_some : (es : List (ℕ × ℤ)) (v : ℕ) (c : ℤ) → lookup (eqb v) es ≡ Some c → c ≡ coefficient eqb (map turned es) v
coefficient_some es v c e = sym (coefficient-entries es v ∙ ap or_zero e)

pub coefficient_none : (es : List (ℕ × ℤ)) (v : ℕ) → lookup (eqb v) es ≡ None → pos 0 ≡ coefficient eqb (map turned es) v
coefficient_none es v e = sym (coefficient-entries es v ∙ ap or_zero e)

pub with_coefficient-entries : (es : List (ℕ × ℤ)) (v : ℕ) (d : ℤ) → map turned (insert_entry eqb es v d) ≡ with_coefficient eqb (map turned es) v d
with_coefficient-entries [] v d = refl
with_coefficient-entries (e ∷ es) v d = by (eqb v e.0) (with_coefficient-entries es v d)
  where
    by : (b : Bool) → map turned (insert_entry eqb es v d) ≡ with_coefficient eqb (map turned es) v d → map turned (cond b ((e.0, d) ∷ es) (e ∷ insert_entry eqb es v d)) ≡ cond b ((d, e.0) ∷ map turned es) ((e.1, e.0) ∷ with_coefficient eqb (map turned es) v d)
    by true rest = refl
    by false rest = ap (λ (qs : List (ℤ × ℕ)). (e.1, e.0) ∷ qs) rest

-- what was answered for one part
pub part_put : (es new : List (ℕ × ℤ)) (m : Factor) (c a d : ℤ) (v : ℕ) → a ≡ coefficient eqb (map turned es) v → more a m c ≡ Some d → new ≡ insert_entry eqb es v d → plus_part eqb (map turned es) m c v ≡ Some (map turned new)
part_put es new m c a d v is gave put =
    ap (λ (x : ℤ). more x m c >>= λ e. Some (with_coefficient eqb (map turned es) v e)) (sym is)
    ∙ ap (λ (o : Option ℤ). o >>= λ e. Some (with_coefficient eqb (map turned es) v e)) gave
    ∙ ap some (sym (ap (map turned) put ∙ with_coefficient-entries es v d))

-- ---- the parts one after the other

pub entry_part : (es : List (ℕ × ℤ)) (i : ℕ) (k : ℕ) (c : ℤ) → some (k, c) ≡ slice_get es i → (c, k) ≡ get_or (map turned es) i (c, k)
entry_part [] i k c e = absurd cc
entry_part (x ∷ es) zero k c e =
    let is : (k, c) ≡ x = cc in
    ap turned is
entry_part (x ∷ es) (suc i) k c e = entry_part es i k c e
