-- Clauses that are `a && b`, and clauses that are assumed.
use Rattle.std.specs.Prelude.{List, [], Bool, true, false}
use Rattle.wy_core.specs.CoreTree.{Expr, BinaryExpr}
use Rattle.wy_core.specs.declared.expressions.Op.{Op}
use Rattle.wy_core.specs.declared.expressions.Op.TheVariants as sign
use Rattle.wy_term.specs.Term.{Term}
use Rattle.wy_vc_terms.specs.wy_vc_spec.Owed.{assume}
use Rattle.wy_vc_terms.specs.wy_vc_spec.Clauses.{Passed, passed}
use Rattle.wy_vc_terms.specs.wy_vc_spec.Values.{Valued}

abbrev pub is_and : Op → Bool
is_and sign.And = true
is_and o = false

-- the expression is an `&&`
abbrev pub is_conjunction : {N : Type 0} → Expr N → Bool
is_conjunction (BinaryExpr k o a b) = is_and o
is_conjunction e = false

-- a formula is assumed
abbrev pub clause_assumed : Valued → List Term → Passed
clause_assumed f hyps = passed f.count (assume hyps f.term) []
