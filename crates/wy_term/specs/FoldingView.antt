-- Which term the code's answer to a folding stands for, where `at` gives the term of a number.
use Rattle.std.specs.Prelude.{◌<◌, ℕ, List}
use Rattle.wy_value.specs.Datum.{Datum, Null, Truth, Whole}
use Rattle.wy_term.specs.declared.fold.Folded.{Folded}
use Rattle.wy_term.specs.declared.fold.Folded.TheVariants as folded
use Rattle.wy_term.specs.declared.fold.Constant.{Constant}
use Rattle.wy_term.specs.declared.fold.Constant.TheVariants as constant
use Rattle.wy_term.specs.Term.{Term}
use Rattle.wy_term.specs.Nodes.{plain, grown, HasPartsBelow}

-- the term that the answer names
abbrev pub folded_to : (ℕ → Term) → Folded → Term
folded_to at (folded.Term k) = at k
folded_to at (folded.Node n) = grown at (plain n)

-- the numbers in the answer are below a bound
abbrev pub IsFoldedBelow : ℕ → Folded → Type 0
IsFoldedBelow bound (folded.Term k) = k < bound
IsFoldedBelow bound (folded.Node n) = HasPartsBelow bound (plain n)

-- the datum of a constant
abbrev pub constant_of : Constant → Datum
constant_of constant.Null = Null
constant_of (constant.Bool b) = Truth b
constant_of (constant.Int z) = Whole z
