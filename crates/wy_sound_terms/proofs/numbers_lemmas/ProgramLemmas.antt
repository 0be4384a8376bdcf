-- Programs whose expressions have numbers.
use Rattle.std.proofs.Common.{◌≡◌, ℕ, zero, suc, ◌+◌, List, [], ◌∷◌, length, Bool, true, Option, Some, None, nat_eq, refl, sym, ap, ap₂, ◌∙◌}
use mathlib.Core.Path.{fun_ext}
use Rattle.wy_term_subst.specs.wy_value.Datum.{Datum}
use Rattle.wy_vc_spec.specs.wy_core.Types.{Ty, AnyTy}
use Rattle.wy_vc_spec.specs.wy_core.CoreTree.{Stmt, DeclareStmt, AssignStmt, CallStmt, ReturnStmt, AssertStmt, BreakStmt, ContinueStmt, SkipStmt, FailStmt, IfStmt, WhileStmt, Stmts, NoStmts, MoreStmts, Alias, Routine, Decl, AliasDecl, RoutineDecl, Core, aliases_of, routines_of}
use Rattle.wy_term_subst.specs.wy_term.declared.cond.CondKind.TheVariants as kind
use Rattle.wy_vc_spec.specs.wy_sem.Meter.{Meter, Done, Run, ◌>>=◌, spend, check, choose}
use Rattle.wy_vc_spec.specs.wy_sem.Expressions.{Store, Setting, clauses}
use Rattle.wy_vc_spec.specs.wy_sem.TypeTests.{Test, answer, is_constrained, tests, member}
use Rattle.wy_vc_spec.specs.wy_sem.Statements.{Exit, Went, Broke, Continued, Gave, Frame, leave, exec_all}
use Rattle.wy_vc_spec.specs.wy_sem.Evaluation.{Callee, Declared, Print, PrintInt, Undeclared, callee, set_type, declared_in, declared_in_all, types_of, param_types, any_types, entry_of, arguments, result_given, result_of, owed_member, frame_of, routine_call, called, run, place_of as callee_place, start, evaluate}
use Rattle.wy_vc_spec.specs.Sizes.{exprs_in, exprs_in_list, exprs_in_stmt, exprs_in_block}
use Rattle.wy_vc_spec.specs.Numbered.{Node, numbered_stmt, numbered_block, numbered_list, numbered_option, numbered_routine, numbered_decls, exprs_in_decl, numbered_core}
use Rattle.wy_sound_terms.specs.numbers.Numbers.{place_of, NumbersChangeNothing}
use Rattle.wy_sound_terms.proofs.numbers_lemmas.ExpressionLemmas.{with_numbers, clauses_are}
use Rattle.wy_sound_terms.proofs.numbers_lemmas.TestLemmas.{AreNumbered, aliases_numbered, length_is, constrained_is, tests_are, member_is}
use Rattle.wy_sound_terms.proofs.numbers_lemmas.StatementLemmas.{frame_with, leave_is, block_is}

-- ---- declared types of variables

mutual
  declared_is : (st : Stmt ℕ) (k : ℕ) (ts : List Ty) → declared_in (numbered_stmt st k) ts ≡ declared_in st ts
  declared_is (DeclareStmt at t x value) k ts = refl
  declared_is (AssignStmt at x path e) k ts = refl
  declared_is (CallStmt at f es) k ts = refl
  declared_is (ReturnStmt at value) k ts = refl
  declared_is (AssertStmt at e) k ts = refl
  declared_is (BreakStmt at) k ts = refl
  declared_is (ContinueStmt at) k ts = refl
  declared_is (SkipStmt at) k ts = refl
  declared_is (FailStmt at) k ts = refl
  declared_is (IfStmt at e first second) k ts =
      declared_all_is second (k + exprs_in e + exprs_in_block first) (declared_in_all (numbered_block first (k + exprs_in e)) ts) ∙ ap (declared_in_all second) (declared_all_is first (k + exprs_in e) ts)
  declared_is (WhileStmt at e invariants body) k ts = declared_all_is body (k + exprs_in e + exprs_in_list invariants) ts

  declared_all_is : (sts : Stmts ℕ) (k : ℕ) (ts : List Ty) → declared_in_all (numbered_block sts k) ts ≡ declared_in_all sts ts
  declared_all_is NoStmts k ts = refl
  declared_all_is (MoreStmts first rest) k ts =
      declared_all_is rest (k + exprs_in_stmt first) (declared_in (numbered_stmt first k) ts) ∙ ap (declared_in_all rest) (declared_is first k ts)

-- ---- a call

module _ (w : Setting ℕ) (owed owed2 : Ty → Datum → Test) (same : owed2 ≡ owed) where
  result_is : (fr : Frame ℕ) (i at : ℕ) (x : Exit) → result_of (with_numbers w) (frame_with fr i) at x ≡ result_of w fr at x
  result_is fr i at (Gave v) = refl
  result_is fr i at (Went s) = ap (λ (r : Run Exit). λ m. r m >>= result_given at) (leave_is w fr i at fr.result None)
  result_is fr i at (Broke s) = refl
  result_is fr i at (Continued from s) = refl

  frame_is : (r : Routine ℕ) (k : ℕ) (vs : List Datum) → frame_of owed2 (numbered_routine r k) vs ≡ frame_with (frame_of owed r vs) (k + exprs_in_list r.preconditions)
  frame_is r k vs =
      ap (λ (ts : List Ty). record { types = ts; member = owed2; result = r.result; postconditions = numbered_list r.postconditions (k + exprs_in_list r.preconditions); entry = entry_of r vs })
      (declared_all_is r.body (k + exprs_in_list r.preconditions + exprs_in_list r.postconditions) (param_types r.params (any_types r.variables)))
      ∙ ap (λ (f : Ty → Datum → Test). record { types = types_of r; member = f; result = r.result; postconditions = numbered_list r.postconditions (k + exprs_in_list r.preconditions); entry = entry_of r vs }) same

  body_is : (r : Routine ℕ) (k : ℕ) (vs : List Datum)
      → ◌≡◌ {A = Run (Option Datum)} (λ m. exec_all (with_numbers w) (frame_of owed2 (numbered_routine r k) vs) (numbered_block r.body (k + exprs_in_list r.preconditions + exprs_in_list r.postconditions)) (entry_of r vs) m >>= result_of (with_numbers w) (frame_of owed2 (numbered_routine r k) vs) r.at)
      (λ m. exec_all w (frame_of owed r vs) r.body (entry_of r vs) m >>= result_of w (frame_of owed r vs) r.at)
  body_is r k vs =
      let fr = frame_of owed r vs in
      let i = k + exprs_in_list r.preconditions in
      let l = k + exprs_in_list r.preconditions + exprs_in_list r.postconditions in
      ap (λ (f : Frame Node). λ (m : Meter). exec_all (with_numbers w) f (numbered_block r.body l) (entry_of r vs) m >>= result_of (with_numbers w) f r.at) (frame_is r k vs)
      ∙ ap₂ (λ (x : Run Exit) (g : Exit → Run (Option Datum)). λ (m : Meter). x m >>= g) (block_is w fr i r.body l (entry_of r vs)) (fun_ext (λ x. result_is fr i r.at x))

  routine_is : (r : Routine ℕ) (k at : ℕ) (vs : List Datum) → routine_call (with_numbers w) owed2 (numbered_routine r k) at vs ≡ routine_call w owed r at vs
  routine_is r k at vs =
      ap (λ (b : Run (Option Datum)). check (nat_eq (length vs) (length r.params)) kind.Member at (arguments owed2 at r.params vs (clauses (with_numbers w) kind.Requires at (numbered_list r.preconditions k) (entry_of r vs) b))) (body_is r k vs)
      ∙ ap (λ (b : Run (Option Datum)). check (nat_eq (length vs) (length r.params)) kind.Member at (arguments owed2 at r.params vs b))
      (clauses_are w kind.Requires at r.preconditions k (entry_of r vs) (λ m. exec_all w (frame_of owed r vs) r.body (entry_of r vs) m >>= result_of w (frame_of owed r vs) r.at))
      ∙ ap (λ (f : Ty → Datum → Test). check (nat_eq (length vs) (length r.params)) kind.Member at (arguments f at r.params vs (clauses w kind.Requires at r.preconditions (entry_of r vs) (λ m. exec_all w (frame_of owed r vs) r.body (entry_of r vs) m >>= result_of w (frame_of owed r vs) r.at)))) same

-- what a number calls
data IsCallee : Callee ℕ → Callee Node → Type 0 where
  is_declared : (r : Routine ℕ) (k : ℕ) → IsCallee (Declared r) (Declared (numbered_routine r k))
  is_print : IsCallee Print Print
  is_print_int : IsCallee PrintInt PrintInt
  is_undeclared : IsCallee Undeclared Undeclared

callee_is : (ds : List (Decl ℕ)) (k f : ℕ) → IsCallee (callee (routines_of ds) f) (callee (routines_of (numbered_decls ds k)) f)
callee_is [] k zero = is_print
callee_is [] k (suc zero) = is_print_int
callee_is [] k (suc (suc f)) = is_undeclared
callee_is (AliasDecl a ∷ ds) k f = callee_is ds (k + exprs_in_decl (AliasDecl a)) f
callee_is (RoutineDecl r ∷ ds) k zero = is_declared r k
callee_is (RoutineDecl r ∷ ds) k (suc f) = callee_is ds (k + exprs_in_decl (RoutineDecl r)) f

called_is : (w : Setting ℕ) (owed owed2 : Ty → Datum → Test) → owed2 ≡ owed → {c : Callee ℕ} {d : Callee Node} → IsCallee c d → (at : ℕ) (vs : List Datum) → called (with_numbers w) owed2 d at vs ≡ called w owed c at vs
called_is w owed owed2 same (is_declared r k) at vs = routine_is w owed owed2 same r k at vs
called_is w owed owed2 same is_print at vs = refl
called_is w owed owed2 same is_print_int at vs = refl
called_is w owed owed2 same is_undeclared at vs = refl

callee_place_is : {c : Callee ℕ} {d : Callee Node} → IsCallee c d → callee_place d ≡ callee_place c
callee_place_is (is_declared r k) = refl
callee_place_is is_print = refl
callee_place_is is_print_int = refl
callee_place_is is_undeclared = refl

-- ---- programs

module _ (place : ℕ → ℕ) (limit : Option ℕ) (core : Core ℕ) where
  abbrev types : List (Alias ℕ)
  types = aliases_of core

  abbrev others : List (Alias Node)
  others = aliases_of (numbered_core core)

  all : AreNumbered types others
  all = aliases_numbered core 0

  owed_is : owed_member (place_of place) limit others ≡ owed_member place limit types
  owed_is = fun_ext (λ t. fun_ext (λ d.
      ap (λ (b : Bool). choose b (member (place_of place) limit others t d) (answer true)) (constrained_is all t)
      ∙ ap (λ (r : Test). choose (is_constrained types t) r (answer true)) (member_is place limit all t d)))

  abbrev setting_with : (Bool → Ty → Datum → Test) → (ℕ → ℕ → List Datum → Run (Option Datum)) → Setting ℕ
  setting_with test call = record { place = place; limit = limit; test = test; call = call }

  run_is : (j : ℕ) → run (place_of place) limit (numbered_core core) j ≡ run place limit core j
  run_is zero = refl
  run_is (suc j) = fun_ext (λ f. fun_ext (λ at. fun_ext (λ vs.
      ap (λ (i : ℕ). spend true (called (with_numbers (setting_with (tests (place_of place) limit others (suc i)) (run (place_of place) limit (numbered_core core) j))) (owed_member (place_of place) limit others) (callee (routines_of (numbered_core core)) f) at vs)) (length_is all)
      ∙ ap₂ (λ (test : Bool → Ty → Datum → Test) (call : ℕ → ℕ → List Datum → Run (Option Datum)). spend true (called (with_numbers (setting_with test call)) (owed_member (place_of place) limit others) (callee (routines_of (numbered_core core)) f) at vs)) (tests_are place limit all (suc (length types))) (run_is j)
      ∙ ap (λ (r : Run (Option Datum)). spend true r)
      (called_is (setting_with (tests place limit types (suc (length types))) (run place limit core j)) (owed_member place limit types) (owed_member (place_of place) limit others) owed_is (callee_is core 0 f) at vs))))

pub numbers_nothing : NumbersChangeNothing
numbers_nothing place core f vs ticks =
    ap (λ (at : ℕ). run (place_of place) None (numbered_core core) (suc ticks) f at vs (start ticks)) (callee_place_is (callee_is core 0 f))
    ∙ ap (λ (r : ℕ → ℕ → List Datum → Run (Option Datum)). r f (callee_place (callee (routines_of core) f)) vs (start ticks)) (run_is place None core (suc ticks))
