-- What the code's forms and answers stand for.
use Rattle.std.specs.Prelude.{◌≡◌, ◌<◌, ℕ, map, All, ℤ, Option, Some, None, Result, Ok, Err}
use Rattle.wy_term.specs.Term.{Term}
use Rattle.wy_lin.specs.declared.linear.Form.{Form}
use Rattle.wy_lin.specs.declared.sum.Sum.{Sum}
use Rattle.wy_lin.specs.declared.stop.Stop.{Stop}
use Rattle.wy_lin.specs.declared.stop.Stop.TheVariants.{Undefined, NoMemory}
use Rattle.wy_lin.specs.Linear.{Linear}

-- ---- what public contracts cite

-- a form as plain data: its variables are the numbers of terms
abbrev pub linear_form : Form → Linear ℕ
linear_form f = record { parts = f.parts.items; constant = f.constant }

abbrev pub seen_part : (ℕ → Term) → ℤ × ℕ → ℤ × Term
seen_part at p = (p.0, at p.1)

-- the form over terms, where `at` gives the term of a number
abbrev pub seen : (ℕ → Term) → Linear ℕ → Linear Term
seen at f = record { parts = map (seen_part at) f.parts; constant = f.constant }

abbrev pub seen_form : (ℕ → Term) → Form → Linear Term
seen_form at f = seen at (linear_form f)

-- the variables are of the first n terms
abbrev pub IsOver : ℕ → Linear ℕ → Type 0
IsOver n f = All (λ p. p.1 < n) f.parts

-- ---- what functions inside owe each other

abbrev pub turned : ℕ × ℤ → ℤ × ℕ
turned e = (e.1, e.0)

-- a sum as plain data
abbrev pub linear_sum : Sum → Linear ℕ
linear_sum s = record { parts = map turned s.coefficients.entries; constant = s.constant }

abbrev pub seen_sum : (ℕ → Term) → Sum → Linear Term
seen_sum at s = seen at (linear_sum s)

-- why there is no answer, where the definition gives this
abbrev pub Stops : {Y : Type 0} → Stop → Option Y → Type 0
Stops Undefined given = given ≡ None
Stops NoMemory given = Unit {0}

-- the answer, seen so, is what the definition gives, unless memory ran out
abbrev pub Gives : {X Y : Type 0} → (X → Y) → Result X Stop → Option Y → Type 0
Gives view (Ok x) given = given ≡ Some (view x)
Gives view (Err e) given = Stops e given

-- the form is that of the sum, and there is none where the sum isn't defined
abbrev pub IsAnswer : Result Sum Stop → Option Form → Type 0
IsAnswer (Ok s) (Some f) = linear_form f ≡ linear_sum s
IsAnswer (Ok s) None = ⊥
IsAnswer (Err Undefined) (Some f) = ⊥
IsAnswer (Err Undefined) None = Unit {0}
IsAnswer (Err NoMemory) f = ⊥
