-- What a call owes, and what is known of its result.
use Rattle.std.specs.Prelude.{ℕ, suc, List, [], ◌∷◌, ◌++◌, true, Option, Some, None, pos}
use Rattle.wy_sem.specs.wy_core.CoreTree as tree
use Rattle.wy_sem.specs.wy_core.CoreTree.{Param, Routine}
use Rattle.wy_sem.specs.wy_term.declared.cond.CondKind.TheVariants as kind
use Rattle.wy_sem.specs.wy_term.Term.{Term}
use Rattle.wy_sem.specs.Evaluation.{Callee, Declared, Print, PrintInt, Undeclared, callee}
use Rattle.wy_vc_spec.specs.Making.{number_of, int_name, val_name, num, len, get, null, at_most, all_of, bound}
use Rattle.wy_vc_spec.specs.Variables.{Vars, put, put_if}
use Rattle.wy_vc_spec.specs.Values.{Setting, valued, k_word}
use Rattle.wy_vc_spec.specs.Owed.{Owed}
use Rattle.wy_vc_spec.specs.Clauses.{Passed, passed, after, one_goal, pass_goals, owe_clauses, assume_clauses, assume_in_type, owe_member}

-- a term, how many names are made, what is assumed, and what was owed on the way
pub record Walked : Type 0 where
  pub count : ℕ
  pub hyps : List Term
  pub term : Term
  pub owed : List Owed

abbrev pub walked : Passed → Term → Walked
walked p t = record { count = p.count; hyps = p.hyps; term = t; owed = p.owed }

-- each argument is in the type of its parameter
abbrev pub owe_arguments : {N : Type 0} → Setting N → ℕ → List Param → List Term → List Term → ℕ → Passed
owe_arguments s at [] vs hyps n = passed n hyps []
owe_arguments s at (p ∷ ps) [] hyps n = passed n hyps []
owe_arguments s at (p ∷ ps) (v ∷ vs) hyps n = let first = owe_member s at p.ty v hyps n in after first (owe_arguments s at ps vs first.hyps first.count)

-- each parameter stands for its argument
abbrev pub arguments : List Param → List Term → Vars → Vars
arguments [] vs vars = vars
arguments (p ∷ ps) [] vars = vars
arguments (p ∷ ps) (v ∷ vs) vars = arguments ps vs (put vars p.variable v)

-- a result: a new name of the word of what is called, of the result's type, and the ensures clauses hold of it
abbrev pub result_of : {N : Type 0} → Setting N → Routine N → Option tree.Output → Vars → List Term → ℕ → Walked
result_of s r None vars hyps n = walked (assume_clauses s r.variables r.postconditions vars hyps n) null
result_of s r (Some out) vars hyps n =
    let typed = assume_in_type s out.ty (val_name r.name n) hyps (suc n) in
    walked (assume_clauses s r.variables r.postconditions (put_if vars out.variable (val_name r.name n)) typed.hyps typed.count) (val_name r.name n)

-- a declared function or method: the arguments' types, its requires clauses, its result
abbrev pub routine_walk : {N : Type 0} → Setting N → Routine N → ℕ → List Term → List Term → ℕ → Walked
routine_walk s r at vs hyps n =
    let members = owe_arguments s at r.params vs hyps n in
    let clauses = owe_clauses s kind.Requires at r.variables r.preconditions (arguments r.params vs []) members.hyps members.count in
    let given = result_of s r r.result (arguments r.params vs []) clauses.hyps clauses.count in
    record { count = given.count; hyps = given.hyps; term = given.term; owed = members.owed ++ (clauses.owed ++ given.owed) }

-- each element of a text is a character of ASCII
abbrev pub are_characters : Term → ℕ → Term
are_characters v n =
    bound true k_word n (number_of (pos 0)) (len v) (all_of (at_most (number_of (pos 0)) (num (get v (int_name k_word n))) ∷ at_most (num (get v (int_name k_word n))) (number_of (pos 127)) ∷ []))

abbrev pub print_walk : ℕ → List Term → List Term → ℕ → Walked
print_walk at [] hyps n = walked (passed n hyps []) null
print_walk at (v ∷ vs) hyps n = walked (pass_goals kind.Requires at (one_goal (valued (suc n) (are_characters v n))) hyps) null

abbrev pub callee_walk : {N : Type 0} → Setting N → Callee N → ℕ → List Term → List Term → ℕ → Walked
callee_walk s (Declared r) at vs hyps n = routine_walk s r at vs hyps n
callee_walk s Print at vs hyps n = print_walk at vs hyps n
callee_walk s PrintInt at vs hyps n = walked (passed n hyps []) null
callee_walk s Undeclared at vs hyps n = walked (passed n hyps []) null

-- the walk of a call at a place: its number, the terms of its arguments, the hypotheses, the count
abbrev pub call_walk : {N : Type 0} → Setting N → List (Routine N) → ℕ → ℕ → List Term → List Term → ℕ → Walked
call_walk s routines f at vs hyps n = callee_walk s (callee routines f) at vs hyps n
