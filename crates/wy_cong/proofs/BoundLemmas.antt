-- Names that are bound around a term.
use Rattle.std.proofs.Common.{◌≡◌, ◌∙◌, ◌||◌, Bool, true, false, cond, List, [], ◌∷◌, ◌++◌, map, refl, sym, ap, ap₂}
use Rattle.wy_search_spec.specs.wy_check_spec.judge.Node.{has_formula}
use Rattle.wy_lemmas.proofs.Choices.{or_none, or_assoc as or_joined, shuffled}
use Rattle.wy_search_spec.specs.Standing.{Standing, bound_by, have_common, with_unbound}
use Rattle.wy_check_splits.specs.Free.{is_among}
use Rattle.wy_cong.specs.Marks.{all_marked, binds_one, is_any_bound, with_unmarked}
use Rattle.wy_term.specs.Same.{same_term}
use Rattle.wy_term.specs.Scope.{free_names}
use Rattle.wy_term.specs.Term.{Term}

-- ---- one name more around

common_more : (x : Term) (names around : List Term) → have_common names (x ∷ around) ≡ (is_among x names || have_common names around)
common_more x [] around = refl
common_more x (f ∷ fs) around =
    ap (λ b. cond (same_term x f) true (has_formula around f) || b) (common_more x fs around)
    ∙ shuffled (same_term x f) (has_formula around f) (is_among x fs) (have_common fs around)

pub none_common : (names : List Term) → have_common names [] ≡ false
none_common [] = refl
none_common (f ∷ fs) = none_common fs

pub bound_last : (around : List Term) (q : Term) (names : List Term) → is_any_bound (around ++ q ∷ []) names ≡ (is_any_bound around names || binds_one q names)
bound_last [] q names = or_none (binds_one q names)
bound_last (t ∷ ts) q names = ap (λ b. binds_one t names || b) (bound_last ts q names) ∙ sym (or_joined (binds_one t names) (is_any_bound ts names) (binds_one q names))

abbrev pair : Term → Bool → Term × Bool
pair t b = (t, b)

pub crossing : (around : List Term) (q x : Term) → ((names : List Term) → binds_one q names ≡ is_among x names) → (ss : List Standing)
    → all_marked around (map (bound_by x) ss) ≡ all_marked (around ++ q ∷ []) ss
crossing around q x bound [] = refl
crossing around q x bound (s ∷ ss) =
    let names = free_names s.what in
    let same : (is_any_bound around names || have_common names (x ∷ s.around)) ≡ (is_any_bound (around ++ q ∷ []) names || have_common names s.around) =
    ap (λ b. is_any_bound around names || b) (common_more x names s.around)
    ∙ sym (or_joined (is_any_bound around names) (is_among x names) (have_common names s.around))
    ∙ ap (λ b. (is_any_bound around names || b) || have_common names s.around) (sym (bound names))
    ∙ ap (λ b. b || have_common names s.around) (sym (bound_last around q names)) in
    ap₂ (λ b ms. pair s.what b ∷ ms) same (crossing around q x bound ss)

-- ---- a term itself

pub marked_alone : (around : List Term) (t : Term) → (is_any_bound around (free_names t) || have_common (free_names t) []) ≡ is_any_bound around (free_names t)
marked_alone around t = ap (λ b. is_any_bound around (free_names t) || b) (none_common (free_names t)) ∙ or_none (is_any_bound around (free_names t))

-- ---- nothing around at first

pub unmarked_is : (done : List Term) (ss : List Standing) → with_unmarked done (all_marked [] ss) ≡ with_unbound done ss
unmarked_is done [] = refl
unmarked_is done (s ∷ ss) = by (has_formula done s.what) (have_common (free_names s.what) s.around) (unmarked_is done ss) (unmarked_is (done ++ s.what ∷ []) ss)
  where
    by : (b c : Bool) → with_unmarked done (all_marked [] ss) ≡ with_unbound done ss → with_unmarked (done ++ s.what ∷ []) (all_marked [] ss) ≡ with_unbound (done ++ s.what ∷ []) ss
        → with_unmarked (cond c done (cond b done (done ++ s.what ∷ []))) (all_marked [] ss) ≡ with_unbound (cond (b || c) done (done ++ s.what ∷ [])) ss
    by true true same more = same
    by true false same more = same
    by false true same more = same
    by false false same more = more
