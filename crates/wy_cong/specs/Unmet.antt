-- Which pending formulas one literal more can refute.
use Rattle.std.specs.Prelude.{◌≡◌, ◌⊎◌, ◌++◌, Bool, true, false, not, List, [], ◌∷◌}
use Rattle.wy_search_spec.specs.wy_check_spec.judge.Judgement.{judged, of_atom}
use Rattle.wy_search_spec.specs.wy_check_spec.judge.Node.{Literal, has_formula}
use Rattle.wy_search_spec.specs.wy_check_spec.declared.judge.verdict.Verdict.{Verdict}
use Rattle.wy_search_spec.specs.wy_check_spec.declared.judge.verdict.Verdict.TheVariants.{Yes, No, Open}
use Rattle.wy_check_splits.specs.wy_check_nodes.Judged.{is_connective}
use Rattle.wy_search_spec.specs.Splitting.{atoms_in, is_open}
use Rattle.wy_term.specs.Same.{same_term}
use Rattle.wy_term.specs.Term.{Term, Parts, no_parts, part}
use Rattle.wy_search_spec.specs.wy_check_spec.valid.Literals.{is_no}

-- the literals, and behind them one more
abbrev pub with_one : List Literal → Term → Bool → List Literal
with_one ls a holds = ls ++ record { atom = a; holds = holds } ∷ []

-- a formula with this verdict, or its denial, is judged yes
abbrev pub meets : Verdict → Bool → Bool
meets Yes holds = holds
meets No holds = not holds
meets Open holds = false

-- the formula is judged open, whatever literal more there is of an undecided atom other than this one
abbrev pub StaysOpen : List Literal → Term → Term → Type 0
StaysOpen ls f c = (a : Term) (holds : Bool) → is_open (of_atom ls a) ≡ true → same_term a c ≡ false → judged (with_one ls a holds) f ≡ Open

-- one of the formulas is
abbrev pub HasOpen : List Literal → Parts → Term → Type 0
HasOpen ls no_parts c = ⊥
HasOpen ls (part f fs) c = StaysOpen ls f c ⊎ HasOpen ls fs c

-- two of them are, of which no one literal decides both
pub record HasTwoOpen (ls : List Literal) (ps : Parts) : Type 0 where
  pub first : Term
  pub second : Term
  pub one : HasOpen ls ps first
  pub two : HasOpen ls ps second
  pub apart : same_term first second ≡ false

-- no literal of an undecided atom makes it judged no
abbrev pub IsSafe : List Literal → Term → Type 0
IsSafe ls f = (a : Term) (holds : Bool) → is_open (of_atom ls a) ≡ true → is_no (judged (with_one ls a holds) f) ≡ false

-- no literal of an undecided atom other than this one does
abbrev pub IsSafeBut : List Literal → Term → Term → Type 0
IsSafeBut ls f c = (a : Term) (holds : Bool) → is_open (of_atom ls a) ≡ true → same_term a c ≡ false → is_no (judged (with_one ls a holds) f) ≡ false

-- ---- members that are no atoms

-- none of these is a denial, an `and` or an `or`
abbrev pub ArePlain : List Term → Type 0
ArePlain [] = Unit {0}
ArePlain (t ∷ ts) = (is_connective t ≡ false) × ArePlain ts

-- an atom that is undecided
abbrev pub IsFree : List Literal → Term → Type 0
IsFree ls a = (is_connective a ≡ false) × (is_open (of_atom ls a) ≡ true)

-- this formula has each atom of which a literal makes the other judged no
abbrev pub IsNeeded : List Literal → Term → Term → Type 0
IsNeeded ls g m = (a : Term) (holds : Bool) → IsFree ls a → has_formula (atoms_in m) a ≡ false → is_no (judged (with_one ls a holds) g) ≡ false

-- the term is one of these formulas, and is judged open
abbrev pub IsOpenPart : List Literal → Parts → Term → Type 0
IsOpenPart ls no_parts m = ⊥
IsOpenPart ls (part f fs) m = ((f ≡ m) × (judged ls m ≡ Open)) ⊎ IsOpenPart ls fs m

-- the same, or it is the formula that is made of these
abbrev pub IsSelfOrOpen : List Literal → Term → Parts → Term → Type 0
IsSelfOrOpen ls f ps m = (m ≡ f) ⊎ IsOpenPart ls ps m
