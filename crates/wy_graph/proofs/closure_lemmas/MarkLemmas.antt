-- A mark more.
use Rattle.std.proofs.Common.{◌≡◌, ℕ, zero, suc, ◌+◌, ◌<◌, List, [], ◌∷◌, ◌++◌, length, Bool, true, false, ◌⊎◌, inl, inr, Some, set, refl, ap, arith}
use Rattle.std.specs.Prelude.{slice_get}
use Rattle.wy_graph.specs.closure.Marks.{mark_at}
use Rattle.wy_graph.specs.closure.Closure.{waiting}

pub no_mark_more : (marks : List Bool) → ((n : ℕ) → mark_at marks n ≡ false) → (n : ℕ) → mark_at (marks ++ false ∷ []) n ≡ false
no_mark_more [] h zero = refl
no_mark_more [] h (suc n) = refl
no_mark_more (m ∷ marks) h zero = h zero
no_mark_more (m ∷ marks) h (suc n) = no_mark_more marks (λ i. h (suc i)) n

pub mark_set : (marks : List Bool) (i : ℕ) → i < length marks → mark_at (set marks i true) i ≡ true
mark_set [] i lt = absurd (omega (arith, lt))
mark_set (m ∷ marks) zero lt = refl
mark_set (m ∷ marks) (suc i) lt = mark_set marks i (omega (arith, lt))

pub mark_keeps : (marks : List Bool) (i n : ℕ) → mark_at marks n ≡ true → mark_at (set marks i true) n ≡ true
mark_keeps [] i n e = e
mark_keeps (m ∷ marks) zero zero e = refl
mark_keeps (m ∷ marks) zero (suc n) e = e
mark_keeps (m ∷ marks) (suc i) zero e = e
mark_keeps (m ∷ marks) (suc i) (suc n) e = mark_keeps marks i n e

pub mark_old : (marks : List Bool) (i n : ℕ) → mark_at (set marks i true) n ≡ true → (n ≡ i) ⊎ (mark_at marks n ≡ true)
mark_old [] i n e = inr e
mark_old (m ∷ marks) zero zero e = inl refl
mark_old (m ∷ marks) zero (suc n) e = inr e
mark_old (m ∷ marks) (suc i) zero e = inr e
mark_old (m ∷ marks) (suc i) (suc n) e = elim (mark_old marks i n e) [ inl f ↦ inl (ap suc f) | inr f ↦ inr f ]

-- what waited for a number that is marked waits no more
pub waiting_set : (marks : List Bool) (i : ℕ) (asking : List (List ℕ)) (a : List ℕ) → i < length marks → mark_at marks i ≡ false → slice_get asking i ≡ Some a → length a + waiting (set marks i true) asking ≡ waiting marks asking
waiting_set [] i asking a lt un at = absurd (omega (arith, lt))
waiting_set (m ∷ marks) i [] a lt un at = absurd cc
waiting_set (false ∷ marks) zero (x ∷ asking) a lt un at = ap (λ (l : List ℕ). length l + waiting marks asking) (some_of a x at)
  where
    some_of : (a x : List ℕ) → Some x ≡ Some a → a ≡ x
    some_of a x e = cc
waiting_set (true ∷ marks) zero (x ∷ asking) a lt un at = absurd cc
waiting_set (true ∷ marks) (suc i) (x ∷ asking) a lt un at = waiting_set marks i asking a (omega (arith, lt)) un at
waiting_set (false ∷ marks) (suc i) (x ∷ asking) a lt un at = let h = waiting_set marks i asking a (omega (arith, lt)) un at in omega (arith, h)
