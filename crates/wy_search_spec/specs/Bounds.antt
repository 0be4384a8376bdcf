-- The forms of a node's literals, each variable replaced by the first of its class, and whether elimination refutes them.
use Rattle.std.specs.Prelude.{ℕ, suc, ◌*◌, List, [], ◌∷◌, ◌++◌, map, ◌==◌, nat_lt, ◌^◌, Bool, true, false, ◌&&◌, ◌||◌, if◌then◌else◌, ℤ, pos, negsuc, unsigned_abs, int_lt, Option, Some, None, slice_index}
use Rattle.std.specs.Ordering.{int_eq}
use Rattle.wy_check_spec.specs.wy_term.Term.{Term}
use Rattle.wy_check_spec.specs.wy_lin.Linear.{Linear}
use Rattle.wy_check_spec.specs.wy_lin.TermForm.{form_of_literal}
use Rattle.wy_check_spec.specs.wy_lin.Combination.{combined}
use Rattle.wy_check_spec.specs.judge.Node.{Literal, Node}
use Rattle.wy_check_spec.specs.valid.Literals.{formula_of}
use Rattle.wy_lin_eliminate.specs.declared.steps.Elim.{Elim}
use Rattle.wy_lin_eliminate.specs.declared.steps.Elim.TheVariants as outcome
use Rattle.wy_lin_eliminate.specs.Division.{common, lowered}
use Rattle.wy_lin_eliminate.specs.Elimination.{elimination}
use Rattle.wy_search_spec.specs.Standing.{present}
use Rattle.wy_search_spec.specs.Classes.{place_from, classes}

-- ---- variables by their numbers: the place of the term among those present

abbrev pub number_or_end : Option ℕ → ℕ
number_or_end None = 0
number_or_end (Some k) = k

abbrev pub numbered_part : List Term → ℤ × Term → ℤ × ℕ
numbered_part ts p = (p.0, number_or_end (place_from ts p.1 0))

abbrev pub numbered : List Term → Linear Term → Linear ℕ
numbered ts f = record { parts = map (numbered_part ts) f.parts; constant = f.constant }

-- the first number, from one on, with this label
abbrev pub first_with : List ℕ → ℕ → ℕ → ℕ
first_with [] l k = k
first_with (m ∷ ms) l k = if m == l then k else first_with ms l (suc k)

-- the first to appear of a variable's class
abbrev pub first_of_class : List ℕ → ℕ → ℕ
first_of_class labels v = first_with labels (slice_index labels v) 0

-- ---- replacing variables

-- v <= w as a form, by which a variable with a coefficient above 0 is replaced
abbrev pub order_form : ℕ → ℕ → Linear ℕ
order_form v w = record { parts = (negsuc 0, v) ∷ (pos 1, w) ∷ []; constant = pos 0 }

-- the form that takes a variable away, and how often it does
abbrev pub taking_away : ℤ → ℕ → ℕ → ℕ × Linear ℕ
taking_away c v w = (unsigned_abs c, (if int_lt c (pos 0) then order_form w v else order_form v w))

-- for each variable of the parts that isn't the first of its class
abbrev pub takings : List ℕ → List (ℤ × ℕ) → List (ℕ × Linear ℕ)
takings labels [] = []
takings labels (p ∷ ps) =
    if int_eq p.0 (pos 0) || (first_of_class labels p.1 == p.1) then takings labels ps
    else taking_away p.0 p.1 (first_of_class labels p.1) ∷ takings labels ps

-- multipliers, each so many times, beside places from a number on
abbrev pub named_from : ℕ → List (ℕ × Linear ℕ) → ℕ → List (ℕ × ℕ)
named_from k [] i = []
named_from k (t ∷ ts) i = (k * t.0, i) ∷ named_from k ts (suc i)

abbrev pub all_fit : List (ℕ × ℕ) → Bool
all_fit [] = true
all_fit (m ∷ ms) = nat_lt m.0 (2 ^ 127) && all_fit ms

-- the sum that a step states, where its numbers fit 128 bits
abbrev pub stated_sum : List (Linear ℕ) → List (ℕ × ℕ) → Option (Linear ℕ)
stated_sum forms ms = if all_fit ms then combined forms ms else None

-- what replacing gives: no literal, a form, a refutation, or a number that leaves 128 bits
pub data Replaced : Type 0 where
  gone : Replaced
  given : Linear ℕ → Replaced
  refutes : Replaced
  leaves : Replaced

abbrev pub by_two : Option (Linear ℕ) → Replaced
by_two None = leaves
by_two (Some f) = given (lowered 2 f)

abbrev pub by_common : Option (Linear ℕ) → Linear ℕ → ℕ → Replaced
by_common twice f d =
    if d == 0 then (if int_lt f.constant (pos 0) then refutes else gone)
    else (if d == 1 then by_two twice else given (lowered d f))

abbrev pub by_sum : Option (Linear ℕ) → Option (Linear ℕ) → Replaced
by_sum twice None = leaves
by_sum twice (Some f) = by_common twice f (common f.parts)

-- a form from which these are to be taken away; where nothing is, it stays as it is
abbrev pub replaced_by : Linear ℕ → List (ℕ × Linear ℕ) → Replaced
replaced_by f [] = given f
replaced_by f (t ∷ ts) =
    by_sum (stated_sum (f ∷ map (λ u. u.1) (t ∷ ts)) ((2, 0) ∷ named_from 2 (t ∷ ts) 1)) (stated_sum (f ∷ map (λ u. u.1) (t ∷ ts)) ((1, 0) ∷ named_from 1 (t ∷ ts) 1))

abbrev pub replaced : List ℕ → Linear ℕ → Replaced
replaced labels f = replaced_by f (takings labels f.parts)

-- ---- the forms of a node

abbrev pub with_form : List Term → List ℕ → List Replaced → Option (Linear Term) → List Replaced
with_form ts labels rest None = rest
with_form ts labels rest (Some f) = replaced labels (numbered ts f) ∷ rest

-- those of its literals, in order
abbrev pub replaced_forms : List Term → List ℕ → List Literal → List Replaced
replaced_forms ts labels [] = []
replaced_forms ts labels (l ∷ ls) = with_form ts labels (replaced_forms ts labels ls) (form_of_literal (formula_of l))

abbrev pub is_refuting : Replaced → Bool
is_refuting gone = false
is_refuting (given f) = false
is_refuting refutes = true
is_refuting leaves = false

abbrev pub is_leaving : Replaced → Bool
is_leaving gone = false
is_leaving (given f) = false
is_leaving refutes = false
is_leaving leaves = true

abbrev pub any_so : (Replaced → Bool) → List Replaced → Bool
any_so test [] = false
any_so test (r ∷ rs) = test r || any_so test rs

abbrev pub form_in : Replaced → List (Linear ℕ)
form_in gone = []
form_in (given f) = f ∷ []
form_in refutes = []
form_in leaves = []

abbrev pub forms_in : List Replaced → List (Linear ℕ)
forms_in [] = []
forms_in (r ∷ rs) = form_in r ++ forms_in rs

-- how elimination ends
pub data Ending : Type 0 where
  refuted : Ending
  consistent : Ending
  crowded : Ending
  wide : Ending

abbrev pub ending_of : Elim → Ending
ending_of (outcome.Refuted steps) = refuted
ending_of outcome.Consistent = consistent
ending_of outcome.Crowded = crowded
ending_of outcome.Wide = wide

abbrev pub ending_by : List Replaced → Ending
ending_by rs =
    if any_so is_refuting rs then refuted
    else (if any_so is_leaving rs then wide else ending_of (elimination (forms_in rs)))

-- how the elimination of the node's variables ends
abbrev pub ending : Node → Ending
ending node = ending_by (replaced_forms (present node) (classes (present node) node.literals) node.literals)
