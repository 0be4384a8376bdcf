-- The products of a cut, one after the other.
use Rattle.std.proofs.Common.{◌≡◌, ◌≢◌, ◌<◌, ◌+◌, ℕ, List, [], ◌∷◌, ◌++◌, map, length, drop, get_or, Bool, true, false, cond, ℤ, pos, refl, sym, ap, subst, ◌∙◌}
use Rattle.std.specs.Ordering.{int_eq}
use Rattle.std.proofs.lemmas.Bool.Decides.{Decides-int_eq}
use Rattle.std.proofs.lemmas.List.{drop_more}
use Rattle.wy_check_nodes.proofs.FormLemmas.{all_pushed}
use Rattle.wy_lemmas.proofs.Lists.{append_mid, map_pushed}
use Rattle.wy_check_spec.specs.wy_term.Term.{Term, Number, mul}
use Rattle.wy_check_spec.specs.wy_term.Data.{quotient_down}
use Rattle.wy_check_spec.specs.wy_term.Nodes.{Plain, tree_at}
use Rattle.wy_check_spec.specs.wy_facts.Made.{made_two}
use Rattle.wy_check_spec.specs.wy_facts.Seen.{terms_at, AreBelow, Stays}
use Rattle.wy_check_spec.proofs.wy_facts_proofs.StepLemmas.{terms_kept, below_kept}
use Rattle.wy_check_spec.specs.wy_lin.Seen.{seen_part}
use Rattle.wy_check_spec.specs.valid.Sums.{divided}

zero_test : (z : ℤ) → z ≡ pos 0 → int_eq z (pos 0) ≡ true
zero_test z e = (Decides-int_eq z (pos 0)).1 e

other_test : (z : ℤ) → z ≢ pos 0 → int_eq z (pos 0) ≡ false
other_test z apart = by (int_eq z (pos 0)) refl
  where
    by : (t : Bool) → int_eq z (pos 0) ≡ t → t ≡ false
    by false is = refl
    by true is = absurd (apart ((Decides-int_eq z (pos 0)).0 is))

-- the product of a divided coefficient and its variable
abbrev pub product_of : ℕ → ℤ × Term → Term
product_of d p = made_two mul (Number (quotient_down p.0 d)) p.1

divided_at : (at : ℕ → Term) (d : ℕ) (ps : List (ℤ × ℕ)) (i : ℕ) (p : ℤ × ℕ) (b : Bool) → drop i ps ≡ p ∷ drop (i + 1) ps → int_eq p.0 (pos 0) ≡ b → divided d (map (seen_part at) (drop i ps)) ≡ cond b (divided d (map (seen_part at) (drop (i + 1) ps))) (product_of d (seen_part at p) ∷ divided d (map (seen_part at) (drop (i + 1) ps)))
divided_at at d ps i p b is test =
    ap (λ (qs : List (ℤ × ℕ)). divided d (map (seen_part at) qs)) is
    ∙ ap (λ (t : Bool). cond t (divided d (map (seen_part at) (drop (i + 1) ps))) (product_of d (seen_part at p) ∷ divided d (map (seen_part at) (drop (i + 1) ps)))) test

-- a variable that has vanished
pub divided_skip : (at : ℕ → Term) (d : ℕ) (ps : List (ℤ × ℕ)) (i : ℕ) (x : ℤ × ℕ) (made all : List Term) → i < length ps → (get_or ps i x).0 ≡ pos 0 → made ++ divided d (map (seen_part at) (drop i ps)) ≡ all → made ++ divided d (map (seen_part at) (drop (i + 1) ps)) ≡ all
divided_skip at d ps i x made all lt none so =
    sym (ap (λ (ts : List Term). made ++ ts) (divided_at at d ps i (get_or ps i x) true (drop_more ps i x lt) (zero_test (get_or ps i x).0 none))) ∙ so

-- a product more
pub divided_put : (at : ℕ → Term) (now new : List Plain) (d : ℕ) (ps : List (ℤ × ℕ)) (i : ℕ) (x : ℤ × ℕ) (ks ms : List ℕ) (t : ℕ) (all : List Term) → i < length ps → (get_or ps i x).0 ≢ pos 0 → Stays now new → AreBelow (length now) ks → ms ≡ ks ++ t ∷ [] → tree_at new t ≡ product_of d (seen_part at (get_or ps i x))
    → terms_at now ks ++ divided d (map (seen_part at) (drop i ps)) ≡ all → terms_at new ms ++ divided d (map (seen_part at) (drop (i + 1) ps)) ≡ all
divided_put at now new d ps i x ks ms t all lt apart stays below is tree so =
    let rest = divided d (map (seen_part at) (drop (i + 1) ps)) in
    let made : terms_at new ms ≡ terms_at now ks ++ product_of d (seen_part at (get_or ps i x)) ∷ [] =
    ap (terms_at new) is ∙ (map_pushed (tree_at new) ks t ∙ (ap (λ (ts : List Term). ts ++ tree_at new t ∷ []) (terms_kept now new ks stays below) ∙ ap (λ (u : Term). terms_at now ks ++ u ∷ []) tree)) in
    ap (λ (ts : List Term). ts ++ rest) made
    ∙ (append_mid (terms_at now ks) (product_of d (seen_part at (get_or ps i x))) rest
    ∙ (sym (ap (λ (ts : List Term). terms_at now ks ++ ts) (divided_at at d ps i (get_or ps i x) false (drop_more ps i x lt) (other_test (get_or ps i x).0 apart))) ∙ so))

pub put_below : (now new : List Plain) (ks ms : List ℕ) (t : ℕ) → Stays now new → AreBelow (length now) ks → t < length new → ms ≡ ks ++ t ∷ [] → AreBelow (length new) ms
put_below now new ks ms t stays below lt is = subst (AreBelow (length new)) (sym is) (all_pushed (λ (k : ℕ). k < length new) ks t (below_kept now new ks stays below) lt)
