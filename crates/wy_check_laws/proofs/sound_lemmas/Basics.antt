-- Truth values, and literals that are told.
use Rattle.std.proofs.Common.{◌≡◌, ℕ, zero, suc, ◌-◌, List, [], ◌∷◌, Bool, true, false, cond, eqb, not, ◌||◌, Option, Some, None, refl, sym, ap, ◌∙◌}
use Rattle.std.specs.Prelude.{slice_get}
use Rattle.std.specs.Bool.{beq}
use Rattle.wy_check_spec.specs.wy_facts.Schema.{only_if}
use Rattle.wy_lemmas.proofs.Choices.{both_parts as and_both, bits_are}
use Rattle.wy_check_spec.specs.wy_term.Term.{Term}
use Rattle.wy_check_spec.specs.wy_term.Same.{same_term}
use Rattle.wy_check_spec.specs.wy_term.Meaning.{Names, sense}
use Rattle.wy_check_spec.proofs.wy_term_proofs.SameLemmas.{terms_are}
use Rattle.wy_check_spec.specs.judge.Node.{Literal, same_literal, has_literal}
use Rattle.wy_check_spec.specs.judge.Told.{IsTold, AllTold}
use Rattle.wy_check_spec.specs.valid.Literals.{literal_at, signed, has_atom}

-- ---- truth values

pub or_cases : (a b : Bool) (P : Type 0) → (a || b) ≡ true → (a ≡ true → P) → (b ≡ true → P) → P
or_cases true b P e f g = f refl
or_cases false b P e f g = g e

-- ---- answers

-- an answer that is there only where a test is met
pub only_some : {A : Type 0} (b : Bool) (o : Option A) (y : A) → only_if b o ≡ Some y → (b ≡ true) × (o ≡ Some y)
only_some true o y e = (refl, e)
only_some false o y e = absurd cc

-- ---- literals

same_told : (names : Names) (k l : Literal) → same_literal k l ≡ true → IsTold names k → IsTold names l
same_told names k l e told =
    let h = and_both (same_term k.atom l.atom) (beq k.holds l.holds) e in
    ap (λ (t : Term). (sense names t).truth) (sym (terms_are k.atom l.atom h.0)) ∙ (told ∙ bits_are k.holds l.holds h.1)

pub told_there : (names : Names) (ls : List Literal) (l : Literal) → AllTold names ls → has_literal ls l ≡ true → IsTold names l
told_there names [] l all e = absurd cc
told_there names (k ∷ ks) l all e = by (same_literal k l) refl e (told_there names ks l all.1)
  where
    by : (b : Bool) → same_literal k l ≡ b → cond b true (has_literal ks l) ≡ true → (has_literal ks l ≡ true → IsTold names l) → IsTold names l
    by true is h rest = same_told names k l is all.0
    by false is h rest = rest h

-- an atom that stands among true literals is true
pub atom_told : (names : Names) (ls : List Literal) (a : Term) → AllTold names ls → has_atom ls a ≡ true → (sense names a).truth ≡ true
atom_told names ls a all e = told_there names ls (record { atom = a; holds = true }) all e

nth_told : (names : Names) (ls : List Literal) (k : ℕ) (l : Literal) → AllTold names ls → slice_get ls k ≡ Some l → IsTold names l
nth_told names [] k l all e = absurd cc
nth_told names (x ∷ xs) zero l all e =
    let is : x ≡ l = cc in
    ap (λ (y : Literal). (sense names y.atom).truth) (sym is) ∙ (all.0 ∙ ap (λ (y : Literal). y.holds) is)
nth_told names (x ∷ xs) (suc k) l all e = nth_told names xs k l all.1 e

-- the literal with a number is one of the list
pub literal_told : (names : Names) (ls : List Literal) (i : ℕ) (l : Literal) → AllTold names ls → literal_at ls i ≡ Some l → IsTold names l
literal_told names ls i l all e = by (eqb i 0) e
  where
    by : (b : Bool) → cond b None (slice_get ls (i - 1)) ≡ Some l → IsTold names l
    by true h = absurd cc
    by false h = nth_told names ls (i - 1) l all h

-- the formula of a true literal is true
pub formula_told : (names : Names) (a : Term) (b : Bool) → (sense names a).truth ≡ b → (sense names (signed a b)).truth ≡ true
formula_told names a true e = e
formula_told names a false e = ap not e
