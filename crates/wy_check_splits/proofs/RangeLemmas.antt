-- Ranges and formulas as terms are made.
use Rattle.std.proofs.Common.{◌≡◌, ◌<◌, ◌≤◌, ℕ, List, length, Bool, Result, Ok, Err, ap, ◌∙◌, arith}
use Rattle.std.specs.Prelude.{IfOk}
use Rattle.wy_check_nodes.specs.wy_term.Term.{Term}
use Rattle.wy_check_nodes.specs.wy_term.Nodes.{Plain, tree_at}
use Rattle.wy_check_nodes.specs.wy_facts.Made.{is_at_most, denial, one_of_three}
use Rattle.wy_check_nodes.specs.wy_facts.Seen.{Stays}
use Rattle.wy_check_nodes.proofs.wy_facts_proofs.StepLemmas.{stays_on}
use Rattle.wy_check_nodes.specs.wy_check_spec.valid.Ranges as ranges
use Rattle.wy_check_splits.specs.declared.quantifier.Range.{Range}
use Rattle.wy_check_splits.specs.Seen.{seen_range, IsRangeOver}

pub range_up : (m n : ℕ) (r : Range) → m ≤ n → IsRangeOver m r → IsRangeOver n r
range_up m n r le is = record { lower_is = omega (arith, le, is.lower_is); upper_is = omega (arith, le, is.upper_is); body_is = omega (arith, le, is.body_is) }

abbrev range_with : Range → Term → Term → Term → ranges.Range
range_with r a b f = record { word = r.word; number = r.number; lower = a; upper = b; body = f }

pub range_kept : (old new : List Plain) (r : Range) → Stays old new → IsRangeOver (length old) r → seen_range (tree_at new) r ≡ seen_range (tree_at old) r
range_kept old new r stays is =
    ap (λ (x : Term). range_with r x (tree_at new r.upper) (tree_at new r.body)) (stays.trees r.lower is.lower_is)
    ∙ (ap (λ (x : Term). range_with r (tree_at old r.lower) x (tree_at new r.body)) (stays.trees r.upper is.upper_is) ∙ ap (λ (x : Term). range_with r (tree_at old r.lower) (tree_at old r.upper) x) (stays.trees r.body is.body_is))

-- ---- the three parts of an instance, and of what a witness states

pub instance_by : (old a b d new : List Plain) (r : Range) (holds : Bool) (t low high body k : ℕ) → Stays old a → Stays a b → Stays b d → IsRangeOver (length old) r → t < length old
    → low < length a → tree_at a low ≡ denial (is_at_most (tree_at old r.lower) (tree_at old t))
    → high < length b → tree_at b high ≡ is_at_most (tree_at a r.upper) (tree_at a t)
    → tree_at d body ≡ ranges.body_at holds (seen_range (tree_at b) r) (tree_at b t)
    → tree_at new k ≡ one_of_three (tree_at d low) (tree_at d high) (tree_at d body)
    → tree_at new k ≡ ranges.instance_at holds (seen_range (tree_at old) r) (tree_at old t)
instance_by old a b d new r holds t low high body k one two three is lt l first h second third made =
    let upto = stays_on old a b one two in
    let behind = stays_on a b d two three in
    let low_is = behind.trees low l ∙ first in
    let high_is = three.trees high h ∙ (second ∙ (ap (λ (x : Term). is_at_most x (tree_at a t)) (one.trees r.upper is.upper_is) ∙ ap (is_at_most (tree_at old r.upper)) (one.trees t lt))) in
    let body_is = third ∙ (ap (λ (x : ranges.Range). ranges.body_at holds x (tree_at b t)) (range_kept old b r upto is) ∙ ap (ranges.body_at holds (seen_range (tree_at old) r)) (upto.trees t lt)) in
    made
    ∙ (ap (λ (x : Term). one_of_three x (tree_at d high) (tree_at d body)) low_is
    ∙ (ap (λ (x : Term). one_of_three (denial (is_at_most (tree_at old r.lower) (tree_at old t))) x (tree_at d body)) high_is
    ∙ ap (one_of_three (denial (is_at_most (tree_at old r.lower) (tree_at old t))) (is_at_most (tree_at old r.upper) (tree_at old t))) body_is))

pub instance_if : {E : Type 0} (q : Result ℕ E) (old a b d new : List Plain) (r : Range) (holds : Bool) (t low high body : ℕ) → Stays old a → Stays a b → Stays b d → IsRangeOver (length old) r → t < length old
    → low < length a → tree_at a low ≡ denial (is_at_most (tree_at old r.lower) (tree_at old t))
    → high < length b → tree_at b high ≡ is_at_most (tree_at a r.upper) (tree_at a t)
    → tree_at d body ≡ ranges.body_at holds (seen_range (tree_at b) r) (tree_at b t)
    → IfOk q (λ (k : ℕ). tree_at new k ≡ one_of_three (tree_at d low) (tree_at d high) (tree_at d body))
    → IfOk q (λ (k : ℕ). tree_at new k ≡ ranges.instance_at holds (seen_range (tree_at old) r) (tree_at old t))
instance_if (Ok k) old a b d new r holds t low high body one two three is lt l first h second third made = instance_by old a b d new r holds t low high body k one two three is lt l first h second third made
instance_if (Err e) old a b d new r holds t low high body one two three is lt l first h second third made = tt
