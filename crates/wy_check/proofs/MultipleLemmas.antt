-- Whether one form is a multiple of another, by the coefficients of both.
use Rattle.std.proofs.Common.{◌≡◌, ◌<◌, ℕ, List, [], map, Bool, false, eqb, ℤ, pos, ◌+ℤ◌, Option, Some, None, refl, sym, ap, ◌∙◌}
use Rattle.std.proofs.Math.IntN.{*ℤ_comm, zero-*ℤ}
use Rattle.wy_lemmas.proofs.Lists.{some_parts}
use Rattle.wy_lemmas.proofs.Options.{some_number}
use Rattle.wy_term.specs.Term.{Term}
use Rattle.wy_term.specs.Rewriting.{fitted}
use Rattle.wy_lin.specs.declared.arithmetic.Factor.TheVariants.{Scale, Minus}
use Rattle.wy_lin.specs.Linear.{◌>>=◌, Linear, more, plus_parts}
use Rattle.wy_lin.specs.TermForm.{with, multiple}
use Rattle.wy_lin.specs.Seen.{IsOver, seen, seen_part, turned}
use Rattle.wy_lin.proofs.SeenLemmas.{NamesOnce, all_none, plus-seen}
use Rattle.wy_check_splits.proofs.wy_check_nodes_proofs.OverLemmas.{plus_over}
use Rattle.wy_vc_laws.specs.wy_check_spec.valid.Sums.{all_zero}
use Rattle.wy_vc_laws.specs.wy_check_spec.valid.Products.{varying, vanishes, is_multiple}

abbrev no_parts_left : Option (List (ℤ × ℕ))
no_parts_left = None

-- the form with these parts and no number
abbrev made : List (ℤ × ℕ) → Linear ℕ
made ps = record { parts = ps; constant = pos 0 }

abbrev made_with : List (ℤ × ℕ) → ℤ → Linear ℕ
made_with ps c = record { parts = ps; constant = c }

-- the parts of a form a times, less those of another
abbrev left_over : ℤ → List (ℤ × ℕ) → List (ℤ × ℕ) → Option (List (ℤ × ℕ))
left_over a fs gs = plus_parts eqb [] (Scale a) fs >>= λ ps. plus_parts eqb ps Minus gs

abbrev none_is_left : (ℕ → Term) → Option (List (ℤ × ℕ)) → Bool
none_is_left at None = false
none_is_left at (Some ps) = all_zero (map (seen_part at) ps)

no_number : (a : ℤ) → more (pos 0) (Scale a) (pos 0) ≡ some_number (pos 0)
no_number a = ap (λ (z : ℤ). fitted z >>= λ d. fitted (pos 0 +ℤ d)) (*ℤ_comm a (pos 0) ∙ zero-*ℤ a)

module _ (at : ℕ → Term) (n : ℕ) (once : NamesOnce at n) (a : ℤ) (f g : Linear ℕ) (over_f : IsOver n f) (over_g : IsOver n g) where
  none_over : IsOver n (made [])
  none_over = all_none (λ (p : ℤ × ℕ). p.1 < n)

  -- the multiple of a form without its number
  multiple_made : multiple (Scale a) (varying (seen at f)) ≡ (plus_parts eqb [] (Scale a) f.parts >>= λ ps. Some (seen at (made ps)))
  multiple_made =
      plus-seen at n once (made []) (Scale a) (made f.parts) none_over over_f
      ∙ (ap (λ (o : Option ℤ). (plus_parts eqb [] (Scale a) f.parts >>= λ ps. o >>= λ c. Some (made_with ps c)) >>= λ h. Some (seen at h)) (no_number a)
      ∙ twice (plus_parts eqb [] (Scale a) f.parts))
    where
      twice : (o : Option (List (ℤ × ℕ))) → ((o >>= λ ps. Some (made ps)) >>= λ h. Some (seen at h)) ≡ (o >>= λ ps. Some (seen at (made ps)))
      twice None = refl
      twice (Some ps) = refl

  parts_over : (ps : List (ℤ × ℕ)) → plus_parts eqb [] (Scale a) f.parts ≡ Some ps → IsOver n (made ps)
  parts_over ps e =
      plus_over n (made []) (Scale a) (made f.parts) (made ps)
      (ap (λ (o : Option (List (ℤ × ℕ))). o >>= λ qs. more (pos 0) (Scale a) (pos 0) >>= λ c. Some (made_with qs c)) e ∙ ap (λ (o : Option ℤ). o >>= λ c. Some (made_with ps c)) (no_number a))
      none_over over_f

  multiple_is : is_multiple a (seen at f) (seen at g) ≡ none_is_left at (left_over a f.parts g.parts)
  multiple_is =
      ap (λ (o : Option (Linear Term)). vanishes (o >>= λ h. with h Minus (varying (seen at g)))) multiple_made
      ∙ by (plus_parts eqb [] (Scale a) f.parts) parts_over
    where
      last : (o : Option (List (ℤ × ℕ))) → vanishes ((o >>= λ qs. more (pos 0) Minus (pos 0) >>= λ c. Some (made_with qs c)) >>= λ h. Some (seen at h)) ≡ none_is_left at o
      last None = refl
      last (Some qs) = refl

      by : (o : Option (List (ℤ × ℕ))) → ((ps : List (ℤ × ℕ)) → o ≡ Some ps → IsOver n (made ps)) → vanishes ((o >>= λ ps. Some (seen at (made ps))) >>= λ h. with h Minus (varying (seen at g))) ≡ none_is_left at (o >>= λ ps. plus_parts eqb ps Minus g.parts)
      by None over = refl
      by (Some ps) over = ap vanishes (plus-seen at n once (made ps) Minus (made g.parts) (over ps refl) over_g) ∙ last (plus_parts eqb ps Minus g.parts)

  -- ---- by what the calls answered

  pub multiple_first : (es : List (ℕ × ℤ)) → es ≡ [] → no_parts_left ≡ plus_parts eqb (map turned es) (Scale a) f.parts → false ≡ is_multiple a (seen at f) (seen at g)
  multiple_first es none gave =
      let first : no_parts_left ≡ plus_parts eqb [] (Scale a) f.parts = gave ∙ ap (λ (qs : List (ℕ × ℤ)). plus_parts eqb (map turned qs) (Scale a) f.parts) none in
      sym (multiple_is ∙ ap (λ (o : Option (List (ℤ × ℕ))). none_is_left at (o >>= λ ps. plus_parts eqb ps Minus g.parts)) (sym first))

  multiple_by : (es fs : List (ℕ × ℤ)) (o : Option (List (ℤ × ℕ))) → es ≡ [] → some_parts (map turned fs) ≡ plus_parts eqb (map turned es) (Scale a) f.parts → o ≡ plus_parts eqb (map turned fs) Minus g.parts → none_is_left at o ≡ is_multiple a (seen at f) (seen at g)
  multiple_by es fs o none gave then =
      let first : some_parts (map turned fs) ≡ plus_parts eqb [] (Scale a) f.parts = gave ∙ ap (λ (qs : List (ℕ × ℤ)). plus_parts eqb (map turned qs) (Scale a) f.parts) none in
      ap (none_is_left at) then ∙ sym (multiple_is ∙ ap (λ (q : Option (List (ℤ × ℕ))). none_is_left at (q >>= λ ps. plus_parts eqb ps Minus g.parts)) (sym first))

  pub multiple_second : (es fs : List (ℕ × ℤ)) → es ≡ [] → some_parts (map turned fs) ≡ plus_parts eqb (map turned es) (Scale a) f.parts → no_parts_left ≡ plus_parts eqb (map turned fs) Minus g.parts → false ≡ is_multiple a (seen at f) (seen at g)
  multiple_second es fs none gave then = multiple_by es fs None none gave then

  pub multiple_third : (es fs hs : List (ℕ × ℤ)) → es ≡ [] → some_parts (map turned fs) ≡ plus_parts eqb (map turned es) (Scale a) f.parts → some_parts (map turned hs) ≡ plus_parts eqb (map turned fs) Minus g.parts → all_zero (map (seen_part at) (map turned hs)) ≡ is_multiple a (seen at f) (seen at g)
  multiple_third es fs hs none gave then = multiple_by es fs (Some (map turned hs)) none gave then
