-- The walk of a call makes names from its count on, and its term is a Val term.
use Rattle.std.proofs.Common.{◌≡◌, ℕ, zero, suc, ◌+◌, ◌≤◌, List, [], ◌∷◌, ◌++◌, length, Bool, true, false, if◌then◌else◌, Option, Some, None, arith}
use Rattle.wy_core.specs.Types.{Ty}
use Rattle.wy_core.specs.CoreTree as tree
use Rattle.wy_core.specs.CoreTree.{Expr, NullExpr, BoolExpr, IntExpr, VarExpr, CallExpr, NegExpr, NotExpr, LenExpr, BinaryExpr, IsExpr, IndexExpr, FieldExpr, ListExpr, RepeatExpr, RecordExpr, QuantExpr, Param, Routine}
use Rattle.wy_core.specs.declared.expressions.Op.TheVariants.{And}
use Rattle.wy_term.specs.declared.cond.CondKind.{CondKind}
use Rattle.wy_term.specs.declared.cond.CondKind.TheVariants as kind
use Rattle.wy_term.specs.Term.{Term}
use Rattle.wy_term.specs.Sorts.{val_sort}
use Rattle.wy_sound_terms.specs.wy_sem.Evaluation.{Callee, Declared, Print, PrintInt, Undeclared, callee}
use Rattle.wy_sound_terms.specs.wy_sem.TypeTests.{is_constrained}
use Rattle.wy_sound_terms.specs.wy_vc_spec.Making.{val_name}
use Rattle.wy_sound_terms.specs.wy_vc_spec.Variables.{Vars, put_if}
use Rattle.wy_sound_terms.specs.wy_vc_spec.Values.{Setting, ValuedAll, named_in, clause_formula}
use Rattle.wy_sound_terms.specs.wy_vc_spec.Owed.{assume}
use Rattle.wy_sound_terms.specs.wy_vc_spec.Clauses.{Passed, passed, both_goals, goals, one_goal, pass_goals, owe_clauses, assume_clauses, in_type, assume_in_type, owe_member}
use Rattle.wy_sound_terms.specs.wy_vc_spec.Calls.{Walked, owe_arguments, arguments, result_of, routine_walk, callee_walk, call_walk}
use Rattle.wy_sound_terms.proofs.formed_lemmas.MakingLemmas.{IsOf, null_sorted, val_name_sorted}
use Rattle.wy_sound_walks.proofs.expressions_lemmas.ValueGrows.{holds_grows, clause_grows, named_grows}

pick_grows : (n : ℕ) (b : Bool) (v w : Passed) → n ≤ v.count → n ≤ w.count → n ≤ (if b then v else w).count
pick_grows n true v w h g = h
pick_grows n false v w h g = g

module _ {N : Type 0} (s : Setting N) where
  named_in_grows : (number n : ℕ) (v : Term) → n ≤ (named_in s number v n).count
  named_in_grows number n v = named_grows s (length s.types) number n v

  pub in_type_grows : (t : Ty) (v : Term) (n : ℕ) → n ≤ (in_type s t v n).count
  in_type_grows t v n = holds_grows (named_in s) named_in_grows t v n

  pub member_grows : (at : ℕ) (t : Ty) (v : Term) (hyps : List Term) (n : ℕ) → n ≤ (owe_member s at t v hyps n).count
  member_grows at t v hyps n = pick_grows n (is_constrained s.types t) (pass_goals kind.Member at (one_goal (in_type s t v n)) hyps) (passed n hyps []) (in_type_grows t v n) (omega arith)

  pub goals_grow : (words : List (List ℕ)) (e : Expr N) (vars : Vars) (n : ℕ) → n ≤ (goals s words e vars n).count
  goals_grow words (BinaryExpr k And a b) vars n = let h = goals_grow words a vars n in let g = goals_grow words b vars (goals s words a vars n).count in omega (arith, h, g)
  goals_grow words e vars n = clause_grows s (named_in s) named_in_grows words e vars n

  pub clauses_grow : (kind : CondKind) (at : ℕ) (words : List (List ℕ)) (es : List (Expr N)) (vars : Vars) (hyps : List Term) (n : ℕ) → n ≤ (owe_clauses s kind at words es vars hyps n).count
  clauses_grow kind at words [] vars hyps n = omega arith
  clauses_grow kind at words (e ∷ es) vars hyps n =
      let first = pass_goals kind at (goals s words e vars n) hyps in
      let h = goals_grow words e vars n in let g = clauses_grow kind at words es vars first.hyps first.count in omega (arith, h, g)

  pub assumed_grow : (words : List (List ℕ)) (es : List (Expr N)) (vars : Vars) (hyps : List Term) (n : ℕ) → n ≤ (assume_clauses s words es vars hyps n).count
  assumed_grow words [] vars hyps n = omega arith
  assumed_grow words (e ∷ es) vars hyps n =
      let f = clause_formula s (named_in s) words e vars n in
      let h = clause_grows s (named_in s) named_in_grows words e vars n in let g = assumed_grow words es vars (assume hyps f.term) f.count in omega (arith, h, g)

  pub arguments_grow : (at : ℕ) (ps : List Param) (vs hyps : List Term) (n : ℕ) → n ≤ (owe_arguments s at ps vs hyps n).count
  arguments_grow at [] vs hyps n = omega arith
  arguments_grow at (p ∷ ps) [] hyps n = omega arith
  arguments_grow at (p ∷ ps) (v ∷ vs) hyps n =
      let first = owe_member s at p.ty v hyps n in
      let h = member_grows at p.ty v hyps n in let g = arguments_grow at ps vs first.hyps first.count in omega (arith, h, g)

  result_grows : (r : Routine N) (o : Option tree.Output) (vars : Vars) (hyps : List Term) (n : ℕ) → n ≤ (result_of s r o vars hyps n).count
  result_grows r None vars hyps n = assumed_grow r.variables r.postconditions vars hyps n
  result_grows r (Some out) vars hyps n =
      let typed = assume_in_type s out.ty (val_name r.name n) hyps (suc n) in
      let h = in_type_grows out.ty (val_name r.name n) (suc n) in let g = assumed_grow r.variables r.postconditions (put_if vars out.variable (val_name r.name n)) typed.hyps typed.count in omega (arith, h, g)

  callee_grows : (c : Callee N) (at : ℕ) (vs hyps : List Term) (n : ℕ) → n ≤ (callee_walk s c at vs hyps n).count
  callee_grows (Declared r) at vs hyps n =
      let members = owe_arguments s at r.params vs hyps n in
      let h = arguments_grow at r.params vs hyps n in
      let clauses = owe_clauses s kind.Requires at r.variables r.preconditions (arguments r.params vs []) members.hyps members.count in
      let g = clauses_grow kind.Requires at r.variables r.preconditions (arguments r.params vs []) members.hyps members.count in
      let f = result_grows r r.result (arguments r.params vs []) clauses.hyps clauses.count in omega (arith, h, g, f)
  callee_grows Print at [] hyps n = omega arith
  callee_grows Print at (v ∷ vs) hyps n = omega arith
  callee_grows PrintInt at vs hyps n = omega arith
  callee_grows Undeclared at vs hyps n = omega arith

  pub call_grows : (routines : List (Routine N)) (f at : ℕ) (vs hyps : List Term) (n : ℕ) → n ≤ (call_walk s routines f at vs hyps n).count
  call_grows routines f at vs hyps n = callee_grows (callee routines f) at vs hyps n

  result_sorted : (r : Routine N) (o : Option tree.Output) (vars : Vars) (hyps : List Term) (n : ℕ) → IsOf val_sort (result_of s r o vars hyps n).term
  result_sorted r None vars hyps n = null_sorted
  result_sorted r (Some out) vars hyps n = val_name_sorted r.name n

  callee_sorted : (c : Callee N) (at : ℕ) (vs hyps : List Term) (n : ℕ) → IsOf val_sort (callee_walk s c at vs hyps n).term
  callee_sorted (Declared r) at vs hyps n =
      let members = owe_arguments s at r.params vs hyps n in
      let clauses = owe_clauses s kind.Requires at r.variables r.preconditions (arguments r.params vs []) members.hyps members.count in
      result_sorted r r.result (arguments r.params vs []) clauses.hyps clauses.count
  callee_sorted Print at [] hyps n = null_sorted
  callee_sorted Print at (v ∷ vs) hyps n = null_sorted
  callee_sorted PrintInt at vs hyps n = null_sorted
  callee_sorted Undeclared at vs hyps n = null_sorted

  pub call_sorted : (routines : List (Routine N)) (f at : ℕ) (vs hyps : List Term) (n : ℕ) → IsOf val_sort (call_walk s routines f at vs hyps n).term
  call_sorted routines f at vs hyps n = callee_sorted (callee routines f) at vs hyps n
