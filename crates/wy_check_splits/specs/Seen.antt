-- What the code's ranges stand for, where `at` gives the term of a number.
use Rattle.std.specs.Prelude.{ℕ, ◌<◌}
use Rattle.wy_check_nodes.specs.wy_term.Term.{Term}
use Rattle.wy_check_nodes.specs.wy_check_spec.valid.Ranges as ranges
use Rattle.wy_check_splits.specs.declared.quantifier.Range.{Range}

abbrev pub seen_range : (ℕ → Term) → Range → ranges.Range
seen_range at r = record { word = r.word; number = r.number; lower = at r.lower; upper = at r.upper; body = at r.body }

-- the bounds and the formula are of the first n terms
pub record IsRangeOver (n : ℕ) (r : Range) : Type 0 where
  pub lower_is : r.lower < n
  pub upper_is : r.upper < n
  pub body_is : r.body < n
