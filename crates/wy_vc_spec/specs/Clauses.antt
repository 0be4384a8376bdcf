-- Clauses and types of data that are owed or assumed. What a clause itself owes is owed at its declaration, or at the head of its loop; where it is only
-- used, it is walked again for its formula alone.
use Rattle.std.specs.Prelude.{ℕ, List, [], ◌∷◌, ◌++◌, if◌then◌else◌}
use Rattle.wy_sem.specs.wy_core.Types.{Ty}
use Rattle.wy_sem.specs.wy_core.CoreTree.{Expr, BinaryExpr}
use Rattle.wy_sem.specs.wy_core.declared.expressions.Op.TheVariants as op
use Rattle.wy_sem.specs.wy_term.declared.cond.CondKind.{CondKind}
use Rattle.wy_sem.specs.wy_term.declared.cond.CondKind.TheVariants as kind
use Rattle.wy_sem.specs.wy_term.Term.{Term}
use Rattle.wy_sem.specs.TypeTests.{is_constrained}
use Rattle.wy_vc_spec.specs.Values.{Setting, Valued, ValuedAll, valued_all, named_in, holds, clause_formula}
use Rattle.wy_vc_spec.specs.Variables.{Vars}
use Rattle.wy_vc_spec.specs.Owed.{Owed, assume, assume_all, owe}

-- how many names are made, what is assumed, and what was owed on the way
pub record Passed : Type 0 where
  pub count : ℕ
  pub hyps : List Term
  pub owed : List Owed

abbrev pub passed : ℕ → List Term → List Owed → Passed
passed n hyps owed = record { count = n; hyps = hyps; owed = owed }

-- first the one, then what follows
abbrev pub after : Passed → Passed → Passed
after first second = passed second.count second.hyps (first.owed ++ second.owed)

-- goals are owed at a place
abbrev pub pass_goals : CondKind → ℕ → ValuedAll → List Term → Passed
pass_goals kind at goals hyps = passed goals.count (assume_all hyps goals.terms) (owe kind at hyps goals.terms)

-- the goals of a clause: of `a && b` those of a and then those of b
abbrev pub both_goals : ValuedAll → (ℕ → ValuedAll) → ValuedAll
both_goals first rest = let second = rest first.count in valued_all second.count (first.terms ++ second.terms)

abbrev pub one_goal : Valued → ValuedAll
one_goal f = valued_all f.count (f.term ∷ [])

abbrev pub goals : {N : Type 0} → Setting N → List (List ℕ) → Expr N → Vars → ℕ → ValuedAll
goals s words (BinaryExpr k op.And a b) vars n = both_goals (goals s words a vars n) (goals s words b vars)
goals s words e vars n = one_goal (clause_formula s (named_in s) words e vars n)

-- clauses are owed at a place, one after the other
abbrev pub owe_clauses : {N : Type 0} → Setting N → CondKind → ℕ → List (List ℕ) → List (Expr N) → Vars → List Term → ℕ → Passed
owe_clauses s kind at words [] vars hyps n = passed n hyps []
owe_clauses s kind at words (e ∷ es) vars hyps n =
    let first = pass_goals kind at (goals s words e vars n) hyps in after first (owe_clauses s kind at words es vars first.hyps first.count)

-- clauses are assumed, one after the other
abbrev pub assume_clauses : {N : Type 0} → Setting N → List (List ℕ) → List (Expr N) → Vars → List Term → ℕ → Passed
assume_clauses s words [] vars hyps n = passed n hyps []
assume_clauses s words (e ∷ es) vars hyps n =
    let f = clause_formula s (named_in s) words e vars n in assume_clauses s words es vars (assume hyps f.term) f.count

-- a datum is in a type
abbrev pub in_type : {N : Type 0} → Setting N → Ty → Term → ℕ → Valued
in_type s t v n = holds (named_in s) t v n

abbrev pub assume_in_type : {N : Type 0} → Setting N → Ty → Term → List Term → ℕ → Passed
assume_in_type s t v hyps n = let f = in_type s t v n in passed f.count (assume hyps f.term) []

-- it is owed where a type with a clause is reached from the type
abbrev pub owe_member : {N : Type 0} → Setting N → ℕ → Ty → Term → List Term → ℕ → Passed
owe_member s at t v hyps n = if is_constrained s.types t then pass_goals kind.Member at (one_goal (in_type s t v n)) hyps else passed n hyps []
