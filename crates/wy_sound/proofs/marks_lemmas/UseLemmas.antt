-- Where no path uses a variable without a value, none through a part does.
use Rattle.std.proofs.Common.{◌≡◌, inl, inr, ℕ, Bool, true, false, List, [], ◌∷◌, ◌++◌, refl, sym, subst}
use Rattle.std.proofs.lemmas.List.{append-nil}
use Rattle.wy_assign.proofs.EventLemmas.{uses_right, unset_reads, uses_left}
use Rattle.wy_assign.specs.Paths.{Event, Uses, Sets, Through, One, Then, Maybe, AnyTimes}
use Rattle.wy_assign.specs.Assigned.{UsesUnset, SomeUse}
use Rattle.wy_lemmas.proofs.Choices.{eqb_self, given}
use Rattle.wy_sound.proofs.marks_lemmas.ReadLemmas.{Reading}

-- no path does so, where u says which variables have no value at first
abbrev pub NoUse : Through → (ℕ → Bool) → Type 0
NoUse A u = (at : ℕ) → SomeUse A u at → ⊥

-- a use behind uses alone
pub after_reads : (x at : ℕ) (u : Bool) (A : Through) (a : Reading A) (p : List Event) → UsesUnset x at u p → UsesUnset x at u (a.some ++ p)
after_reads x at u A a p h = uses_right x at u a.some p (subst (λ (b : Bool). UsesUnset x at b p) (sym (unset_reads x u a.some a.reads)) h)

pub then_first : (A B : Through) (u : ℕ → Bool) → Reading B → NoUse (Then A B) u → NoUse A u
then_first A B u b n at s = n at (s.0, s.1 ++ b.some, (s.1, b.some, refl, s.2, b.is_some), uses_left s.0 at (u s.0) s.1 b.some s.3)

pub then_second : (A B : Through) (u : ℕ → Bool) → Reading A → NoUse (Then A B) u → NoUse B u
then_second A B u a n at s = n at (s.0, a.some ++ s.1, (a.some, s.1, refl, a.is_some, s.2), after_reads s.0 at (u s.0) A a s.1 s.3)

pub maybe_all : (b : Bool) (A : Through) (u : ℕ → Bool) → NoUse (Maybe b A) u → NoUse A u
maybe_all true A u n at s = n at (s.0, s.1, inr s.2, s.3)
maybe_all false A u n at s = n at s

pub turn_all : (A : Through) (u : ℕ → Bool) (y : ℕ) → NoUse (AnyTimes (Then (One (Sets y)) A)) u → NoUse A (given u y)
turn_all A u y n at s = n at (s.0, Sets y ∷ s.1, (1, (Sets y ∷ s.1, [], sym (append-nil (Sets y ∷ s.1)), (Sets y ∷ [], s.1, refl, refl, s.2), refl)), s.3)

-- a variable that is used has a value
pub one_set : (u : ℕ → Bool) (at x : ℕ) → NoUse (One (Uses at x)) u → u x ≡ true → ⊥
one_set u at x n e = n at (x, Uses at x ∷ [], refl, inl (e, eqb_self x, refl))
