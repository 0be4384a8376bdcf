-- Which data an operation takes.
use Rattle.std.specs.Prelude.{◌≡◌, ℕ, List, Bool, true, false, Some}
use Rattle.wy_term_subst.specs.wy_value.Datum.{Datum, Null, Truth, Whole, Array, Record}
use Rattle.wy_vc_spec.specs.wy_core.declared.expressions.Op.{Op}
use Rattle.wy_vc_spec.specs.wy_core.declared.expressions.Op.TheVariants.{Add, Sub, Mul, Div, Mod, Equal, Less, LessEqual, Greater, GreaterEqual, And, Or}
use Rattle.wy_vc_spec.specs.wy_sem.Operations.{find}

abbrev pub IsWhole : Datum → Type 0
IsWhole Null = ⊥
IsWhole (Truth b) = ⊥
IsWhole (Whole z) = Unit {0}
IsWhole (Array ds) = ⊥
IsWhole (Record fs) = ⊥

abbrev pub IsTruth : Datum → Type 0
IsTruth Null = ⊥
IsTruth (Truth b) = Unit {0}
IsTruth (Whole z) = ⊥
IsTruth (Array ds) = ⊥
IsTruth (Record fs) = ⊥

abbrev pub IsArray : Datum → Type 0
IsArray Null = ⊥
IsArray (Truth b) = ⊥
IsArray (Whole z) = ⊥
IsArray (Array ds) = Unit {0}
IsArray (Record fs) = ⊥

-- a record with a field of this name
abbrev pub HasField : List ℕ → Datum → Type 0
HasField name Null = ⊥
HasField name (Truth b) = ⊥
HasField name (Whole z) = ⊥
HasField name (Array ds) = ⊥
HasField name (Record fs) = (d : Datum) × (find fs name ≡ Some d)

abbrev pub AreWhole : Datum → Datum → Type 0
AreWhole d e = IsWhole d × IsWhole e

-- numbers are compared as numbers where it is known that both are
abbrev pub AreComparable : Bool → Datum → Datum → Type 0
AreComparable true d e = AreWhole d e
AreComparable false d e = Unit {0}

-- operands that both were evaluated: the left one of `&&` is true then, and that of `||` false
abbrev pub Takes : Op → Bool → Datum → Datum → Type 0
Takes Add numbers d e = AreWhole d e
Takes Sub numbers d e = AreWhole d e
Takes Mul numbers d e = AreWhole d e
Takes Div numbers d e = AreWhole d e
Takes Mod numbers d e = AreWhole d e
Takes Equal numbers d e = AreComparable numbers d e
Takes Less numbers d e = AreWhole d e
Takes LessEqual numbers d e = AreWhole d e
Takes Greater numbers d e = AreWhole d e
Takes GreaterEqual numbers d e = AreWhole d e
Takes And numbers d e = (d ≡ Truth true) × IsTruth e
Takes Or numbers d e = (d ≡ Truth false) × IsTruth e
