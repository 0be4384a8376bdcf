-- Sums of true literals' forms are at least 0.
use Rattle.std.proofs.Common.{◌≡◌, ℕ, List, [], ◌∷◌, Bool, true, false, cond, eqb, ℤ, pos, ◌+ℤ◌, ◌*ℤ◌, ◌≤ℤ◌, ◌<ℤ◌, Option, Some, None, refl, ap, ◌∙◌, subst, arith}
use Rattle.std.proofs.lemmas.Int.{ints}
use Rattle.std.specs.Prelude.{int_lt}
use Rattle.std.specs.Ordering.{int_eq}
use Rattle.std.proofs.lemmas.Bool.Decides.{Decides-int_eq}
use Rattle.std.proofs.Math.IntN.{zero-*ℤ}
use Rattle.wy_lemmas.proofs.Choices.{both_parts as and_both}
use Rattle.wy_lemmas.proofs.Numbers.{none_and_rest, zero_natural}
use Rattle.wy_lemmas.proofs.Options.{some_same as some_is}
use Rattle.wy_check_spec.specs.wy_term.Term.{Term}
use Rattle.wy_check_spec.specs.wy_term.Meaning.{Names}
use Rattle.wy_check_spec.specs.wy_term.Meaning as meaning
use Rattle.wy_check_spec.specs.wy_lin.declared.arithmetic.Factor.TheVariants.{Times}
use Rattle.wy_check_spec.specs.wy_lin.Linear.{◌>>=◌, Linear, nothing}
use Rattle.wy_check_spec.specs.wy_lin.TermForm.{with, form_of_literal}
use Rattle.wy_check_spec.specs.wy_lin.Worth.{worth_of_parts, worth, number_of}
use Rattle.wy_check_spec.proofs.wy_lin_proofs.OptionLemmas.{bind_some}
use Rattle.wy_check_spec.proofs.wy_lin_proofs.Ring.{times_pos}
use Rattle.wy_check_spec.proofs.wy_lin_proofs.WorthLemmas.{worth-with, says-form_of_literal}
use Rattle.wy_check_spec.specs.judge.Node.{Literal}
use Rattle.wy_check_spec.specs.judge.Told.{AllTold}
use Rattle.wy_check_spec.specs.valid.Literals.{literal_at, formula_of}
use Rattle.wy_check_spec.specs.valid.Sums.{form_at, plus_literal, summed_from, summed, all_zero, is_refuting}
use Rattle.wy_check_laws.proofs.sound_lemmas.Basics.{literal_told, formula_told}

at_most_is : (a b : ℤ) → meaning.at_most a b ≡ true → a ≤ℤ b
at_most_is a b h = grind (arith, ints)

-- the form of a true literal is at least 0
pub form_natural : (names : Names) (ls : List Literal) (i : ℕ) (g : Linear Term) → AllTold names ls → form_at ls i ≡ Some g → pos 0 ≤ℤ worth (number_of names) g
form_natural names ls i g all e =
    let h = bind_some (literal_at ls i) (λ l. form_of_literal (formula_of l)) g e in
    at_most_is (pos 0) (worth (number_of names) g) (says-form_of_literal (formula_of h.0) g h.2 names ∙ formula_told names h.0.atom h.0.holds (literal_told names ls i h.0 all h.1))

more_natural : (a m b h : ℤ) → pos 0 ≤ℤ a → pos 0 ≤ℤ (m *ℤ b) → h ≡ a +ℤ m *ℤ b → pos 0 ≤ℤ h
more_natural a m b h le ge e = omega (arith, ints, le, ge, e)

plus_natural : (names : Names) (ls : List Literal) (f : Linear Term) (m i : ℕ) (h : Linear Term) → AllTold names ls → pos 0 ≤ℤ worth (number_of names) f → plus_literal ls f m i ≡ Some h → pos 0 ≤ℤ worth (number_of names) h
plus_natural names ls f m i h all le e = by (eqb m 0) e
  where
    by : (b : Bool) → cond b None (form_at ls i >>= λ g. with f (Times m) g) ≡ Some h → pos 0 ≤ℤ worth (number_of names) h
    by true e = absurd cc
    by false e =
        let a = bind_some (form_at ls i) (λ g. with f (Times m) g) h e in
        more_natural (worth (number_of names) f) (pos m) (worth (number_of names) a.0) (worth (number_of names) h) le (times_pos m (worth (number_of names) a.0) (form_natural names ls i a.0 all a.1)) (worth-with names f (Times m) a.0 h a.2)

summed_from_natural : (names : Names) (ls : List Literal) (f : Linear Term) (ps : List (ℕ × ℕ)) (h : Linear Term) → AllTold names ls → pos 0 ≤ℤ worth (number_of names) f → summed_from ls f ps ≡ Some h → pos 0 ≤ℤ worth (number_of names) h
summed_from_natural names ls f [] h all le e = subst (λ (g : Linear Term). pos 0 ≤ℤ worth (number_of names) g) (some_is f h e) le
summed_from_natural names ls f (p ∷ ps) h all le e =
    let a = bind_some (plus_literal ls f p.0 p.1) (λ g. summed_from ls g ps) h e in
    summed_from_natural names ls a.0 ps h all (plus_natural names ls f p.0 p.1 a.0 all le a.1) a.2

-- a sum of multiples of true literals' forms is at least 0
pub summed_natural : (names : Names) (ls : List Literal) (ps : List (ℕ × ℕ)) (h : Linear Term) → AllTold names ls → summed ls ps ≡ Some h → pos 0 ≤ℤ worth (number_of names) h
summed_natural names ls ps h all e = summed_from_natural names ls nothing ps h all zero_natural e

-- ---- without variables

pub int_eq_is : (a b : ℤ) → int_eq a b ≡ true → a ≡ b
int_eq_is a b e = (Decides-int_eq a b).0 e

pub worth_of_zeros : (values : Term → ℤ) (ps : List (ℤ × Term)) → all_zero ps ≡ true → worth_of_parts values ps ≡ pos 0
worth_of_zeros values [] e = refl
worth_of_zeros values (p ∷ ps) e =
    let h = and_both (int_eq p.0 (pos 0)) (all_zero ps) e in
    none_and_rest p.0 (values p.1) (worth_of_parts values ps) (ap (λ (c : ℤ). c *ℤ values p.1) (int_eq_is p.0 (pos 0) h.0) ∙ zero-*ℤ (values p.1)) (worth_of_zeros values ps h.1)

is_below : (a b : ℤ) → int_lt a b ≡ true → a <ℤ b
is_below a b e = grind (arith, ints)

no_such : (w c z : ℤ) → pos 0 ≤ℤ (w +ℤ c) → w ≡ pos 0 → c <ℤ pos 0 → ⊥
no_such w c z le e lt = omega (arith, ints, le, e, lt)

-- no sum of true literals' forms refutes
pub never_refutes : (names : Names) (ls : List Literal) (ps : List (ℕ × ℕ)) → AllTold names ls → is_refuting (summed ls ps) ≡ true → ⊥
never_refutes names ls ps all e = by (summed ls ps) refl e
  where
    by : (o : Option (Linear Term)) → summed ls ps ≡ o → is_refuting o ≡ true → ⊥
    by None is e = absurd cc
    by (Some h) is e =
        let r = and_both (int_lt h.constant (pos 0)) (all_zero h.parts) e in
        no_such (worth_of_parts (number_of names) h.parts) h.constant (pos 0) (summed_natural names ls ps h all is) (worth_of_zeros (number_of names) h.parts r.1) (is_below h.constant (pos 0) r.0)
