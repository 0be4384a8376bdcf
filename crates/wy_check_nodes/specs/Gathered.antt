-- The forms of the literals that a sum names, before they are added up.
use Rattle.std.specs.Prelude.{ℕ, suc, ◌==◌, List, [], ◌∷◌, ◌++◌, Bool, true, false, if◌then◌else◌, Option, Some, None}
use Rattle.wy_check_spec.specs.wy_term.Term.{Term, Of, no_parts, part, at_most}
use Rattle.wy_check_spec.specs.wy_lin.Linear.{◌>>=◌, Linear}
use Rattle.wy_check_spec.specs.judge.Node.{Literal}
use Rattle.wy_check_spec.specs.valid.Sums.{form_at}

-- the formula is a bound
abbrev pub is_bound : Term → Bool
is_bound (Of at_most (part s (part t no_parts))) = true
is_bound t = false

-- the form of the literal with this number, where the multiplier is at least 1
abbrev pub weighed : List Literal → ℕ → ℕ → Option (Linear Term)
weighed ls m i = if m == 0 then None else form_at ls i

-- these, and behind them those
abbrev pub prefixed : {A : Type 0} → List A → Option (List A) → Option (List A)
prefixed xs None = None
prefixed xs (Some ys) = Some (xs ++ ys)

-- the forms of the literals that are named, where each has one and each multiplier is at least 1
abbrev pub gathered : List Literal → List (ℕ × ℕ) → Option (List (Linear Term))
gathered ls [] = Some []
gathered ls (p ∷ ps) = weighed ls p.0 p.1 >>= λ g. prefixed (g ∷ []) (gathered ls ps)

-- the multipliers, each beside the place of its form, from this one on
abbrev pub placed : ℕ → List (ℕ × ℕ) → List (ℕ × ℕ)
placed k [] = []
placed k (p ∷ ps) = (p.0, k) ∷ placed (suc k) ps
