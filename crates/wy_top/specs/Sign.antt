-- What stands before the atom of a literal.
use Rattle.std.specs.Prelude.{ℕ, List, codes, Bool, true, false}

abbrev pub sign_text : Bool → List ℕ
sign_text true = codes "  "
sign_text false = codes "  not "
