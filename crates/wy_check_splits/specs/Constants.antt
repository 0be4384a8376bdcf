-- What the code's constants stand for.
use Rattle.wy_check_nodes.specs.wy_value.Datum.{Datum, Null, Truth, Whole}
use Rattle.wy_check_splits.specs.declared.constants.Constant.{Constant}
use Rattle.wy_check_splits.specs.declared.constants.Constant.TheVariants as constant

-- the datum of a constant
abbrev pub datum_of : Constant → Datum
datum_of constant.Null = Null
datum_of (constant.Bool b) = Truth b
datum_of (constant.Int z) = Whole z
