-- What the code's values stand for, and the sum of a form and what takes variables away from it.
use Rattle.std.specs.Prelude.{◌≡◌, ℕ, List, ◌∷◌, map, true, false, Option, Some, None}
use Rattle.wy_lin.specs.Linear.{Linear}
use Rattle.wy_lin.specs.Seen.{linear_form}
use Rattle.wy_cong.specs.wy_search_spec.Bounds.{Replaced, gone, given, refutes, leaves, Ending, refuted, consistent, crowded, wide, named_from, all_fit, stated_sum}
use Rattle.wy_search_bounds.specs.declared.removal.Taking.{Taking}
use Rattle.wy_search_bounds.specs.declared.replacing.Replaced.{Replaced as CodeReplaced}
use Rattle.wy_search_bounds.specs.declared.replacing.Replaced.TheVariants as code
use Rattle.wy_search_bounds.specs.declared.ending.Ending.{Ending as CodeEnding}
use Rattle.wy_search_bounds.specs.declared.ending.Ending.TheVariants as end

abbrev pub seen_taking : Taking → ℕ × Linear ℕ
seen_taking t = (t.times, linear_form t.form)

abbrev pub seen_takings : List Taking → List (ℕ × Linear ℕ)
seen_takings ts = map seen_taking ts

-- the form, and behind it those that take variables away
abbrev pub forms_to_add : Linear ℕ → List (ℕ × Linear ℕ) → List (Linear ℕ)
forms_to_add f ts = f ∷ map (λ u. u.1) ts

-- the multipliers of all of these, each so many times
abbrev pub multipliers_of : ℕ → List (ℕ × Linear ℕ) → List (ℕ × ℕ)
multipliers_of k ts = (k, 0) ∷ named_from k ts 1

-- the sum of a form and what takes variables away from it, so many times
abbrev pub sum_with : Linear ℕ → List (ℕ × Linear ℕ) → ℕ → Option (Linear ℕ)
sum_with f ts k = stated_sum (forms_to_add f ts) (multipliers_of k ts)

-- these are the multipliers, or one of them doesn't fit
abbrev pub AreMultipliers : Option (List (ℕ × ℕ)) → List (ℕ × ℕ) → Type 0
AreMultipliers (Some made) ms = (made ≡ ms) × (all_fit ms ≡ true)
AreMultipliers None ms = all_fit ms ≡ false

abbrev pub seen_replaced : CodeReplaced → Replaced
seen_replaced code.Gone = gone
seen_replaced (code.Given f) = given (linear_form f)
seen_replaced code.Refutes = refutes
seen_replaced code.Leaves = leaves

abbrev pub seen_ending : CodeEnding → Ending
seen_ending end.Refuted = refuted
seen_ending end.Consistent = consistent
seen_ending end.Crowded = crowded
seen_ending end.Wide = wide
