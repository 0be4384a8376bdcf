-- What a linear form is, and how a multiple of a form is added to another in 128 bits.
use Rattle.std.specs.Prelude.{List, [], ◌∷◌, Bool, if◌then◌else◌, ℤ, pos, ◌+ℤ◌, ◌-ℤ◌, ◌*ℤ◌, Option, Some, None}
use Rattle.wy_term.specs.Rewriting.{fitted}
use Rattle.wy_lin.specs.declared.arithmetic.Factor.{Factor}
use Rattle.wy_lin.specs.declared.arithmetic.Factor.TheVariants.{Times, Scale, Minus}

-- one after the other, where neither fails
infixl 10 ◌>>=◌
abbrev pub ◌>>=◌ : {A B : Type 0} → Option A → (A → Option B) → Option B
(Some x) >>= f = f x
None >>= f = None

-- a number and a factor's multiple of another, where the product, if there is one, and the sum fit 128 bits
abbrev pub more : ℤ → Factor → ℤ → Option ℤ
more a (Times m) c = fitted (pos m *ℤ c) >>= λ d. fitted (a +ℤ d)
more a (Scale k) c = fitted (k *ℤ c) >>= λ d. fitted (a +ℤ d)
more a Minus c = fitted (a -ℤ c)

-- a sum of products of a number and a variable, and a number
pub record Linear (V : Type 0) : Type 0 where
  pub parts : List (ℤ × V)
  pub constant : ℤ

-- the form 0
abbrev pub nothing : {V : Type 0} → Linear V
nothing = record { parts = []; constant = pos 0 }

-- the form that is a number
abbrev pub number_form : {V : Type 0} → ℤ → Linear V
number_form z = record { parts = []; constant = z }

-- the form that is a variable
abbrev pub variable_form : {V : Type 0} → V → Linear V
variable_form v = record { parts = (pos 1, v) ∷ []; constant = pos 0 }

-- ---- sums of forms, where `same` says whether two variables are equal

-- the coefficient of a variable: 0 where it has no part
abbrev pub coefficient : {V : Type 0} → (V → V → Bool) → List (ℤ × V) → V → ℤ
coefficient same [] v = pos 0
coefficient same (p ∷ ps) v = if same v p.1 then p.0 else coefficient same ps v

-- the parts with this coefficient of a variable: a part that is there keeps its place, and a new one goes last
abbrev pub with_coefficient : {V : Type 0} → (V → V → Bool) → List (ℤ × V) → V → ℤ → List (ℤ × V)
with_coefficient same [] v d = (d, v) ∷ []
with_coefficient same (p ∷ ps) v d = if same v p.1 then (d, p.1) ∷ ps else p ∷ with_coefficient same ps v d

-- the parts, with a multiple of one part more
abbrev pub plus_part : {V : Type 0} → (V → V → Bool) → List (ℤ × V) → Factor → ℤ → V → Option (List (ℤ × V))
plus_part same ps m c v = more (coefficient same ps v) m c >>= λ d. Some (with_coefficient same ps v d)

-- the parts, with a multiple of each of these parts more
abbrev pub plus_parts : {V : Type 0} → (V → V → Bool) → List (ℤ × V) → Factor → List (ℤ × V) → Option (List (ℤ × V))
plus_parts same ps m [] = Some ps
plus_parts same ps m (q ∷ qs) = plus_part same ps m q.0 q.1 >>= λ rs. plus_parts same rs m qs

-- a form and a multiple of another. The variables of the first come first; one whose coefficient becomes 0 stays.
abbrev pub plus : {V : Type 0} → (V → V → Bool) → Linear V → Factor → Linear V → Option (Linear V)
plus same f m g = plus_parts same f.parts m g.parts >>= λ ps. more f.constant m g.constant >>= λ c. Some (record { parts = ps; constant = c })
