-- How far the lists of a body are met.
use Rattle.std.proofs.Common.{◌≡◌, ℕ, zero, suc, ◌≤◌, List, [], ◌∷◌, ◌++◌, length, Bool, true, false, ◌&&◌, ◌⊎◌, inl, inr, set, take, Some, refl, sym, ap, subst, ◌∙◌, arith}
use Rattle.std.specs.Prelude.{slice_get}
use Rattle.std.proofs.lemmas.Bool.{or_cases}
use Rattle.wy_graph.specs.declared.closure.clauses.Clause.{Clause}
use Rattle.wy_graph.specs.closure.Marks.{mark_at, any_marked, each_marked}
use Rattle.wy_graph.specs.closure.Closure.{AreMet, number_at}
use Rattle.wy_graph.proofs.closure_lemmas.MarkLemmas.{mark_keeps}
use Rattle.wy_graph.proofs.closure_lemmas.WorkLemmas.{one_clause}
use Rattle.wy_lemmas.proofs.Choices.{both_parts as both, or_left, both_true as two_true, or_right}

-- one list more
pub met_more : (marks : List Bool) (lists : List (List ℕ)) (n : ℕ) (ns : List ℕ) → slice_get lists n ≡ Some ns → any_marked marks ns ≡ true → each_marked marks (take n lists) ≡ true → each_marked marks (take (suc n) lists) ≡ true
met_more marks [] n ns at e met = absurd cc
met_more marks (l ∷ lists) zero ns at e met = two_true (any_marked marks l) true (subst (λ (x : List ℕ). any_marked marks x ≡ true) (some_of ns l at) e) refl
  where
    some_of : (x y : List ℕ) → Some y ≡ Some x → x ≡ y
    some_of x y e = cc
met_more marks (l ∷ lists) (suc n) ns at e met =
    let h = both (any_marked marks l) (each_marked marks (take n lists)) met in
    two_true (any_marked marks l) (each_marked marks (take (suc n) lists)) h.0 (met_more marks lists n ns at e h.1)

-- a list that isn't met
pub unmet_at : (marks : List Bool) (lists : List (List ℕ)) (n : ℕ) (ns : List ℕ) → slice_get lists n ≡ Some ns → any_marked marks ns ≡ false → each_marked marks lists ≡ false
unmet_at marks [] n ns at e = absurd cc
unmet_at marks (l ∷ lists) zero ns at e = ap (λ (b : Bool). b && each_marked marks lists) (subst (λ (x : List ℕ). any_marked marks x ≡ false) (some_of ns l at) e)
  where
    some_of : (x y : List ℕ) → Some y ≡ Some x → x ≡ y
    some_of x y e = cc
unmet_at marks (l ∷ lists) (suc n) ns at e = by (any_marked marks l) (unmet_at marks lists n ns at e)
  where
    by : (b : Bool) → each_marked marks lists ≡ false → (b && each_marked marks lists) ≡ false
    by true h = h
    by false h = refl

-- all of them
pub met_all : (marks : List Bool) (lists : List (List ℕ)) (n : ℕ) → length lists ≤ n → each_marked marks (take n lists) ≡ true → each_marked marks lists ≡ true
met_all marks [] n le met = refl
met_all marks (l ∷ lists) zero le met = absurd (omega (arith, le))
met_all marks (l ∷ lists) (suc n) le met =
    let h = both (any_marked marks l) (each_marked marks (take n lists)) met in
    two_true (any_marked marks l) (each_marked marks lists) h.0 (met_all marks lists n (omega (arith, le)) h.1)

-- ---- a mark more

any_keeps : (marks : List Bool) (h : ℕ) (ns : List ℕ) → any_marked marks ns ≡ true → any_marked (set marks h true) ns ≡ true
any_keeps marks h [] e = e
any_keeps marks h (n ∷ ns) e = elim (or_cases (mark_at marks n) (any_marked marks ns) e) as (λ _. any_marked (set marks h true) (n ∷ ns) ≡ true) [
  | inl f ↦ or_left (mark_at (set marks h true) n) (any_marked (set marks h true) ns) (mark_keeps marks h n f)
  | inr f ↦ or_right (mark_at (set marks h true) n) (any_marked (set marks h true) ns) (any_keeps marks h ns f)
]

each_keeps : (marks : List Bool) (h : ℕ) (lists : List (List ℕ)) → each_marked marks lists ≡ true → each_marked (set marks h true) lists ≡ true
each_keeps marks h [] e = e
each_keeps marks h (l ∷ lists) e =
    let p = both (any_marked marks l) (each_marked marks lists) e in
    two_true (any_marked (set marks h true) l) (each_marked (set marks h true) lists) (any_keeps marks h l p.0) (each_keeps marks h lists p.1)

pub met_keeps : (cs : List Clause) (marks : List Bool) (met : List ℕ) (h : ℕ) → AreMet cs marks met → AreMet cs (set marks h true) met
met_keeps cs marks met h are i c at = each_keeps marks h (take (number_at met i) c.body) (are i c at)

-- ---- a note more

number_set : (ns : List ℕ) (i x j : ℕ) → (number_at (set ns i x) j ≡ number_at ns j) ⊎ ((j ≡ i) × (number_at (set ns i x) j ≡ x))
number_set [] i x j = inl refl
number_set (n ∷ ns) zero x zero = inr (refl, refl)
number_set (n ∷ ns) zero x (suc j) = inl refl
number_set (n ∷ ns) (suc i) x zero = inl refl
number_set (n ∷ ns) (suc i) x (suc j) = elim (number_set ns i x j) [ inl f ↦ inl f | inr f ↦ inr (ap suc f.0, f.1) ]

pub met_set : (cs : List Clause) (marks : List Bool) (met : List ℕ) (i x : ℕ) (c : Clause) → slice_get cs i ≡ Some c → each_marked marks (take x c.body) ≡ true → AreMet cs marks met → AreMet cs marks (set met i x)
met_set cs marks met i x c at now are j d here = elim (number_set met i x j) as (λ _. each_marked marks (take (number_at (set met i x) j) d.body) ≡ true) [
  | inl f ↦ subst (λ (n : ℕ). each_marked marks (take n d.body) ≡ true) (sym f) (are j d here)
  | inr f ↦ (
      let same : c ≡ d = one_clause c d (sym at ∙ (sym (ap (slice_get cs) f.0) ∙ here)) in
      subst (λ (n : ℕ). each_marked marks (take n d.body) ≡ true) (sym f.1) (subst (λ (b : Clause). each_marked marks (take x b.body) ≡ true) same now)
      )
]

-- at first nothing is noted
pub none_met : (cs : List Clause) (marks : List Bool) (met : List ℕ) → ((n : ℕ) → number_at met n ≡ 0) → AreMet cs marks met
none_met cs marks met none i c at = subst (λ (n : ℕ). each_marked marks (take n c.body) ≡ true) (sym (none i)) refl

pub zeros_more : (ns : List ℕ) → ((n : ℕ) → number_at ns n ≡ 0) → (n : ℕ) → number_at (ns ++ 0 ∷ []) n ≡ 0
zeros_more [] h zero = refl
zeros_more [] h (suc n) = refl
zeros_more (m ∷ ns) h zero = h zero
zeros_more (m ∷ ns) h (suc n) = zeros_more ns (λ i. h (suc i)) n

pub now_met : (marks marks' : List Bool) (lists lists' : List (List ℕ)) (n : ℕ) → marks' ≡ marks → lists' ≡ lists → each_marked marks' (take n lists') ≡ true → each_marked marks (take n lists) ≡ true
now_met marks marks' lists lists' n e f met = subst (λ (m : List Bool). each_marked m (take n lists) ≡ true) e (subst (λ (l : List (List ℕ)). each_marked marks' (take n l) ≡ true) f met)
