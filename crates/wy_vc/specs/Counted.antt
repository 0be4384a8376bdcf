-- How many different terms were seen, and which limit conditions pass.
use Rattle.std.specs.Prelude.{◌≡◌, ◌⊎◌, ℕ, suc, ◌<◌, ◌≤◌, List, [], ◌∷◌, ◌++◌, length, Bool, true, ◌||◌, nat_eq, nat_lt, if◌then◌else◌}
use Rattle.std.specs.HashSet.{contains}
use Rattle.wy_term.specs.Term.{Term}
use Rattle.wy_term.specs.Nodes.{Plain, tree_at}
use Rattle.wy_term.specs.declared.cond.Cond.{Cond}
use Rattle.wy_vc_spec.specs.Limits as spec
use Rattle.wy_vc_spec.specs.Limits.{different, has_term, is_among, most_conditions, most_terms, most_terms_in_all, terms_in_all, terms_of_unfold}
use Rattle.wy_vc.specs.Gathered.{AreGathered}
use Rattle.wy_vc.specs.Shared.{AreApart}
use Rattle.wy_vc.specs.Told.{Told}
use Rattle.wy_vc.specs.declared.shared.Gathered.{Gathered}
use Rattle.wy_vc.specs.declared.limits.Seen.{Seen}
use Rattle.wy_vc.specs.declared.limits.Passing.{Passing}
use Rattle.wy_vc.specs.declared.limits.Passing.TheVariants as passing

-- the numbers name exactly these terms, each one once
pub record IsCounted (nodes : List Plain) (seen : Seen) (ts : List Term) : Type 0 where
  pub noted : (k : ℕ) → contains nat_eq seen.noted k ≡ is_among seen.all.items k
  pub below : (k : ℕ) → is_among seen.all.items k ≡ true → k < length nodes
  pub apart : AreApart seen.all.items
  pub whole : (t : Term) → has_term ts t ≡ true → (k : ℕ) × (is_among seen.all.items k ≡ true) × (tree_at nodes k ≡ t)
  pub inside : (k : ℕ) → is_among seen.all.items k ≡ true → has_term ts (tree_at nodes k) ≡ true

-- the terms and formulas of a condition
abbrev pub terms_told : Told → List Term
terms_told t = terms_in_all (t.condition.hyps ++ t.condition.goal ∷ []) ++ terms_of_unfold t.condition.types

-- too many terms in one, or in all up to it
abbrev pub is_over : ℕ → ℕ → Bool
is_over one all = nat_lt most_terms one || nat_lt most_terms_in_all all

-- the first limit that conditions from this number on pass, where those before them have these terms
abbrev pub passing_told : List Term → ℕ → List Told → spec.Passing
passing_told before k [] = spec.Within
passing_told before k (t ∷ ts) =
    if nat_lt most_conditions k then spec.TooMany
    else (if is_over (different (terms_told t)) (different (before ++ terms_told t)) then spec.TooLarge k else passing_told (before ++ terms_told t) (suc k) ts)

abbrev pub seen_passing : Passing → spec.Passing
seen_passing passing.Within = spec.Within
seen_passing passing.TooMany = spec.TooMany
seen_passing (passing.TooLarge k) = spec.TooLarge k

-- a Val name and a formula, of each entry
abbrev pub roots_of_entries : List (ℕ × ℕ × ℕ) → List ℕ
roots_of_entries [] = []
roots_of_entries (e ∷ es) = e.1 ∷ e.2 ∷ roots_of_entries es

-- the goal of a condition, and what its tests stand for
abbrev pub roots_of_goal : Cond → List ℕ
roots_of_goal c = c.goal ∷ roots_of_entries c.unfold.list.items

-- what is gathered for a condition: what was gathered, where it is within a condition's limit, else what it alone is made of
abbrev pub IsBounded : List Plain → Gathered → Cond → Gathered → Type 0
IsBounded nodes old c new = ((new ≡ old) × (length old.all.items ≤ most_terms)) ⊎ AreGathered nodes (c.hyps.items ++ roots_of_goal c) new
