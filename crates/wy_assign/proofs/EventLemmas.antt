-- What events leave and use, one list behind the other.
use Rattle.std.proofs.Common.{◌≡◌, ◌⊎◌, inl, inr, ℕ, Bool, true, false, cond, ◌==◌, List, [], ◌∷◌, ◌++◌, Option, Some, None, refl, sym, ap, ◌∙◌}
use Rattle.wy_assign.specs.Paths.{Event, Uses, Sets, Unsets}
use Rattle.wy_assign.specs.Assigned.{unset_behind, UsesUnset}
use Rattle.wy_lemmas.proofs.Choices.{cond_more, cond_less, either}

-- whether what is watched stands behind the events: a variable without a value, or None for the point itself
abbrev pub behind : Option ℕ → Bool → List Event → Bool
behind None u p = u
behind (Some x) u p = unset_behind x u p

pub unset_more : (x : ℕ) (u v : Bool) (p : List Event) → (u ≡ true → v ≡ true) → unset_behind x u p ≡ true → unset_behind x v p ≡ true
unset_more x u v [] h e = h e
unset_more x u v (Uses at y ∷ p) h e = unset_more x u v p h e
unset_more x u v (Sets y ∷ p) h e = unset_more x (cond (x == y) false u) (cond (x == y) false v) p (cond_more (x == y) false u v h) e
unset_more x u v (Unsets y ∷ p) h e = unset_more x (cond (x == y) true u) (cond (x == y) true v) p (cond_more (x == y) true u v h) e

pub behind_more : (w : Option ℕ) (u v : Bool) (p : List Event) → (u ≡ true → v ≡ true) → behind w u p ≡ true → behind w v p ≡ true
behind_more None u v p h e = h e
behind_more (Some x) u v p h e = unset_more x u v p h e

pub unset-append : (x : ℕ) (u : Bool) (p q : List Event) → unset_behind x u (p ++ q) ≡ unset_behind x (unset_behind x u p) q
unset-append x u [] q = refl
unset-append x u (Uses at y ∷ p) q = unset-append x u p q
unset-append x u (Sets y ∷ p) q = unset-append x (cond (x == y) false u) p q
unset-append x u (Unsets y ∷ p) q = unset-append x (cond (x == y) true u) p q

pub behind-append : (w : Option ℕ) (u : Bool) (p q : List Event) → behind w u (p ++ q) ≡ behind w (behind w u p) q
behind-append None u p q = refl
behind-append (Some x) u p q = unset-append x u p q

pub uses_more : (x at : ℕ) (u v : Bool) (p : List Event) → (u ≡ true → v ≡ true) → UsesUnset x at u p → UsesUnset x at v p
uses_more x at u v [] h e = e
uses_more x at u v (Uses k y ∷ p) h e = either (λ d. inl (h d.0, d.1, d.2)) (λ r. inr (uses_more x at u v p h r)) e
uses_more x at u v (Sets y ∷ p) h e = uses_more x at (cond (x == y) false u) (cond (x == y) false v) p (cond_more (x == y) false u v h) e
uses_more x at u v (Unsets y ∷ p) h e = uses_more x at (cond (x == y) true u) (cond (x == y) true v) p (cond_more (x == y) true u v h) e

pub uses_split : (x at : ℕ) (u : Bool) (p q : List Event) → UsesUnset x at u (p ++ q) → UsesUnset x at u p ⊎ UsesUnset x at (unset_behind x u p) q
uses_split x at u [] q e = inr e
uses_split x at u (Uses k y ∷ p) q e = either (λ d. inl (inl d)) (λ r. either (λ l. inl (inr l)) (λ m. inr m) (uses_split x at u p q r)) e
uses_split x at u (Sets y ∷ p) q e = uses_split x at (cond (x == y) false u) p q e
uses_split x at u (Unsets y ∷ p) q e = uses_split x at (cond (x == y) true u) p q e

pub uses_left : (x at : ℕ) (u : Bool) (p q : List Event) → UsesUnset x at u p → UsesUnset x at u (p ++ q)
uses_left x at u [] q e = absurd e
uses_left x at u (Uses k y ∷ p) q e = either (λ d. inl d) (λ r. inr (uses_left x at u p q r)) e
uses_left x at u (Sets y ∷ p) q e = uses_left x at (cond (x == y) false u) p q e
uses_left x at u (Unsets y ∷ p) q e = uses_left x at (cond (x == y) true u) p q e

pub uses_right : (x at : ℕ) (u : Bool) (p q : List Event) → UsesUnset x at (unset_behind x u p) q → UsesUnset x at u (p ++ q)
uses_right x at u [] q e = e
uses_right x at u (Uses k y ∷ p) q e = inr (uses_right x at u p q e)
uses_right x at u (Sets y ∷ p) q e = uses_right x at (cond (x == y) false u) p q e
uses_right x at u (Unsets y ∷ p) q e = uses_right x at (cond (x == y) true u) p q e

-- ---- events that take no value away

abbrev pub Quiet : List Event → Type 0
Quiet [] = Unit {0}
Quiet (Uses at y ∷ p) = Quiet p
Quiet (Sets y ∷ p) = Quiet p
Quiet (Unsets y ∷ p) = ⊥

pub quiet-append : (p q : List Event) → Quiet p → Quiet q → Quiet (p ++ q)
quiet-append [] q h k = k
quiet-append (Uses at y ∷ p) q h k = quiet-append p q h k
quiet-append (Sets y ∷ p) q h k = quiet-append p q h k
quiet-append (Unsets y ∷ p) q h k = absurd h

unset_quiet : (x : ℕ) (u : Bool) (p : List Event) → Quiet p → unset_behind x u p ≡ true → u ≡ true
unset_quiet x u [] h e = e
unset_quiet x u (Uses at y ∷ p) h e = unset_quiet x u p h e
unset_quiet x u (Sets y ∷ p) h e = cond_less (x == y) u (unset_quiet x (cond (x == y) false u) p h e)
unset_quiet x u (Unsets y ∷ p) h e = absurd h

pub behind_quiet : (w : Option ℕ) (u : Bool) (p : List Event) → Quiet p → behind w u p ≡ true → u ≡ true
behind_quiet None u p h e = e
behind_quiet (Some x) u p h e = unset_quiet x u p h e

pub uses_quiet : (x at : ℕ) (u : Bool) (p : List Event) → Quiet p → UsesUnset x at u p → u ≡ true
uses_quiet x at u [] h e = absurd e
uses_quiet x at u (Uses k y ∷ p) h e = either (λ d. d.0) (λ r. uses_quiet x at u p h r) e
uses_quiet x at u (Sets y ∷ p) h e = cond_less (x == y) u (uses_quiet x at (cond (x == y) false u) p h e)
uses_quiet x at u (Unsets y ∷ p) h e = absurd h

-- ---- events that are uses alone

abbrev pub Reads : List Event → Type 0
Reads [] = Unit {0}
Reads (Uses at y ∷ p) = Reads p
Reads (Sets y ∷ p) = ⊥
Reads (Unsets y ∷ p) = ⊥

pub reads-append : (p q : List Event) → Reads p → Reads q → Reads (p ++ q)
reads-append [] q h k = k
reads-append (Uses at y ∷ p) q h k = reads-append p q h k
reads-append (Sets y ∷ p) q h k = absurd h
reads-append (Unsets y ∷ p) q h k = absurd h

pub unset_reads : (x : ℕ) (u : Bool) (p : List Event) → Reads p → unset_behind x u p ≡ u
unset_reads x u [] h = refl
unset_reads x u (Uses at y ∷ p) h = unset_reads x u p h
unset_reads x u (Sets y ∷ p) h = absurd h
unset_reads x u (Unsets y ∷ p) h = absurd h

pub behind_reads : (w : Option ℕ) (u : Bool) (p : List Event) → Reads p → behind w u p ≡ u
behind_reads None u p h = refl
behind_reads (Some x) u p h = unset_reads x u p h
