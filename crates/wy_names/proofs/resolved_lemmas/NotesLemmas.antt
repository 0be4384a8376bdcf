-- What a walk leaves of the faults that it notes, one after the other.
use Rattle.std.proofs.Common.{◌≡◌, ◌<◌, ◌⊎◌, inl, inr, ℕ, Bool, true, false, ◌&&◌, ◌==◌, cond, Some, None, refl, sym, subst, ◌∙◌, arith}
use Rattle.std.specs.Bool.{nat_lt}
use Rattle.std.proofs.Math.Nat.{eq-or-lt_of_le}
use Rattle.std.proofs.lemmas.Bool.{eqb-true, eq-eqb, ltb-true, ltb-false}
use Rattle.wy_lemmas.proofs.Choices.{both_parts as second, or_false as neither, or_cases as one_of, false_true as no_truth, widen}
use Rattle.wy_names_scope.specs.declared.fault.Cause.{Cause}
use Rattle.wy_names_scope.specs.declared.fault.Fault.{Fault}
use Rattle.wy_names_scope.specs.Faults.{Found, rank, goes_before, noted_where}
use Rattle.wy_names.specs.resolved.Shown.{IsNoLater, Stands, Never, Either}

-- a fault is left that stands no later
abbrev pub HasNoLater : Found → Fault → Type 0
HasNoLater None f = ⊥
HasNoLater (Some g) f = IsNoLater g f

-- what is left is what was there before or one of these, and none of them stands before it
pub record Notes (P : Fault → Type 0) (before after : Found) : Type 0 where
  pub shown : (f : Fault) → after ≡ Some f → (before ≡ Some f) ⊎ P f
  pub least : (f : Fault) → P f → HasNoLater after f
  pub kept : (f : Fault) → HasNoLater before f → HasNoLater after f

pub nothing : (x : Found) → Notes Never x x
nothing x = record { shown = λ f e. inl e; least = λ f p. absurd p; kept = λ f h. h }

shown_by : {P : Fault → Type 0} {x y : Found} (Q : Fault → Type 0) (f : Fault) → Notes P x y → (y ≡ Some f) ⊎ Q f → (x ≡ Some f) ⊎ (P f ⊎ Q f)
shown_by Q f p (inl e) = widen (p.shown f e)
shown_by Q f p (inr q) = inr (inr q)

least_by : {P Q : Fault → Type 0} {x y z : Found} (f : Fault) → Notes P x y → Notes Q y z → P f ⊎ Q f → HasNoLater z f
least_by f p q (inl h) = q.kept f (p.least f h)
least_by f p q (inr h) = q.least f h

pub both : {P Q : Fault → Type 0} {x y z : Found} → Notes P x y → Notes Q y z → Notes (Either P Q) x z
both {P} {Q} p q = record { shown = λ f e. shown_by Q f p (q.shown f e); least = λ f h. least_by f p q h; kept = λ f h. q.kept f (p.kept f h) }

-- ---- one fault

-- the fault at the place
abbrev at_place : ℕ → Cause → Fault
at_place at c = record { at = at; cause = c }

never_later : (at : ℕ) (c : Cause) (f : Fault) → f ≡ at_place at c → IsNoLater (at_place at c) f
never_later at c f e = subst (λ (x : Fault). IsNoLater (at_place at c) x) (sym e) (inr (refl, omega arith))

-- one that goes before a fault goes before all that the fault stands no later than
earlier : (at : ℕ) (c : Cause) (g f : Fault) → (at < g.at) ⊎ ((at ≡ g.at) × (rank c < rank g.cause)) → IsNoLater g f → IsNoLater (at_place at c) f
earlier at c g f (inl p) (inl q) = inl (omega (arith, p, q))
earlier at c g f (inl p) (inr q) = inl (omega (arith, p, q.0))
earlier at c g f (inr p) (inl q) = inl (omega (arith, p.0, q))
earlier at c g f (inr p) (inr q) = inr (p.0 ∙ q.0, omega (arith, p.1, q.1))

before_cases : (at : ℕ) (c : Cause) (g : Fault) → goes_before at c g ≡ true → (at < g.at) ⊎ ((at ≡ g.at) × (rank c < rank g.cause))
before_cases at c g h = by (one_of (nat_lt at g.at) (at == g.at && nat_lt (rank c) (rank g.cause)) h)
  where
    by : (nat_lt at g.at ≡ true) ⊎ ((at == g.at && nat_lt (rank c) (rank g.cause)) ≡ true) → (at < g.at) ⊎ ((at ≡ g.at) × (rank c < rank g.cause))
    by (inl less) = inl (ltb-true at g.at less)
    by (inr same) =
        let parts = second (at == g.at) (nat_lt (rank c) (rank g.cause)) same in
        inr (eqb-true at g.at parts.0, ltb-true (rank c) (rank g.cause) parts.1)

other_false : (a b : Bool) → a ≡ true → (a && b) ≡ false → b ≡ false
other_false true b h k = k
other_false false b h k = no_truth h

later_cases : (at : ℕ) (c : Cause) (g : Fault) → goes_before at c g ≡ false → IsNoLater g (at_place at c)
later_cases at c g h = by (eq-or-lt_of_le (ltb-false at g.at parts.0))
  where
    parts : (nat_lt at g.at ≡ false) × ((at == g.at && nat_lt (rank c) (rank g.cause)) ≡ false)
    parts = neither (nat_lt at g.at) (at == g.at && nat_lt (rank c) (rank g.cause)) h

    by : (g.at ≡ at) ⊎ (g.at < at) → IsNoLater g (at_place at c)
    by (inl same) = inr (same, ltb-false (rank c) (rank g.cause) (other_false (at == g.at) (nat_lt (rank c) (rank g.cause)) (eq-eqb at g.at (sym same)) parts.1))
    by (inr less) = inl less

some_fault : (f g : Fault) → Some g ≡ Some f → f ≡ g
some_fault f g e = cc

one_more : (g : Fault) (at : ℕ) (c : Cause) (b : Bool) → goes_before at c g ≡ b → Notes (Stands true at c) (Some g) (cond b (Some (at_place at c)) (Some g))
one_more g at c true h = record {
  shown = λ f e. inr (refl, some_fault f (at_place at c) e);
  least = λ f s. never_later at c f s.1;
  kept = λ f k. earlier at c g f (before_cases at c g h) k;
}
one_more g at c false h = record {
  shown = λ f e. inl e;
  least = λ f s. subst (λ (x : Fault). IsNoLater g x) (sym s.1) (later_cases at c g h);
  kept = λ f k. k;
}

pub one : (stands : Bool) (x : Found) (at : ℕ) (c : Cause) → Notes (Stands stands at c) x (noted_where stands x at c)
one false x at c = record { shown = λ f e. inl e; least = λ f s. no_truth s.0; kept = λ f k. k }
one true None at c = record { shown = λ f e. inr (refl, some_fault f (at_place at c) e); least = λ f s. never_later at c f s.1; kept = λ f k. absurd k }
one true (Some g) at c = one_more g at c (goes_before at c g) refl
