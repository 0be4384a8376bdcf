-- The value of a `return`, by the number of its term.
use Rattle.std.specs.Prelude.{ℕ, ◌<◌, List, length, Option, Some, None}
use Rattle.wy_core.specs.CoreTree as tree
use Rattle.wy_term.specs.Nodes.{Plain}
use Rattle.wy_vc_exprs.specs.wy_vc_spec.Variables.{Slots, put_if}

-- the number is one of a term
abbrev pub IsGiven : List Plain → Option ℕ → Type 0
IsGiven nodes None = Unit {0}
IsGiven nodes (Some k) = k < length nodes

-- the variable of the result has this number
abbrev pub with_number : {X : Type 0} → Option tree.Output → Option X → Slots X → Slots X
with_number None v vars = vars
with_number (Some out) None vars = vars
with_number (Some out) (Some v) vars = put_if vars out.variable v
