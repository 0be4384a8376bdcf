-- Statements whose expressions have numbers.
use Rattle.std.proofs.Common.{◌≡◌, ℕ, zero, suc, ◌+◌, List, [], ◌∷◌, Bool, true, false, Option, Some, None, refl, sym, ap, ap₂, ◌∙◌}
use mathlib.Core.Path.{fun_ext}
use Rattle.wy_term_subst.specs.wy_value.Datum.{Datum}
use Rattle.wy_vc_spec.specs.wy_core.Types.{Ty}
use Rattle.wy_vc_spec.specs.wy_core.CoreTree as tree
use Rattle.wy_vc_spec.specs.wy_core.CoreTree.{Expr, Step, IndexStep, FieldStep, Stmt, DeclareStmt, AssignStmt, CallStmt, ReturnStmt, AssertStmt, BreakStmt, ContinueStmt, SkipStmt, FailStmt, IfStmt, WhileStmt, Stmts, NoStmts, MoreStmts}
use Rattle.wy_term_subst.specs.wy_term.declared.cond.CondKind.TheVariants as kind
use Rattle.wy_vc_spec.specs.wy_sem.Meter.{Meter, Done, Run, ◌>>=◌, spend, check, choose}
use Rattle.wy_vc_spec.specs.wy_sem.Operations.{as_truth, as_fields, needed, indexed, item_at, find, Slot, ItemSlot, FieldSlot, updated}
use Rattle.wy_vc_spec.specs.wy_sem.Expressions.{Store, slot, put, Setting, eval, eval_all, holds_at, clauses}
use Rattle.wy_vc_spec.specs.wy_sem.TypeTests.{Test, set_if}
use Rattle.wy_vc_spec.specs.wy_sem.Statements.{Exit, Went, Gave, Frame, type_at, given, stored, path_of, assigned, leave, go_on, go_round, rounds, tested_truth, exec, exec_all}
use Rattle.wy_vc_spec.specs.Sizes.{exprs_in, exprs_in_path, exprs_in_list, exprs_in_block, exprs_in_stmt}
use Rattle.wy_vc_spec.specs.Numbered.{Node, numbered, numbered_list, numbered_path, numbered_option, numbered_stmt, numbered_block}
use Rattle.wy_sound_terms.proofs.numbers_lemmas.ExpressionLemmas.{with_numbers, eval_is, all_are, holds_at_is, clauses_are}

-- the same frame, whose ensures clauses have numbers from here on
abbrev pub frame_with : Frame ℕ → ℕ → Frame Node
frame_with fr k = record { types = fr.types; member = fr.member; result = fr.result; postconditions = numbered_list fr.postconditions k; entry = fr.entry }

module _ (w : Setting ℕ) (fr : Frame ℕ) (i : ℕ) where
  abbrev w2 : Setting Node
  w2 = with_numbers w

  abbrev fr2 : Frame Node
  fr2 = frame_with fr i

  path_is : (s : Store) (steps : List (Step ℕ)) (k : ℕ) (d : Datum) → path_of w2 s (numbered_path steps k) d ≡ path_of w s steps d
  path_is s [] k d = refl
  path_is s (IndexStep at e ∷ steps) k d =
      ap (λ (g : Datum → Run (List Slot)). λ m. eval w2 true (numbered e k) s m >>= (λ v. indexed at d v (λ ds j l. g (item_at ds j) l >>= (λ slots. Done (ItemSlot j ∷ slots))))) (fun_ext (λ x. path_is s steps (k + exprs_in e) x))
      ∙ ap (λ (r : Run Datum). λ m. r m >>= (λ v. indexed at d v (λ ds j l. path_of w s steps (item_at ds j) l >>= (λ slots. Done (ItemSlot j ∷ slots))))) (eval_is w true e k s)
  path_is s (FieldStep at name ∷ steps) k d =
      ap (λ (g : Datum → Run (List Slot)). λ m. as_fields at d (λ fs. needed at (find fs name) (λ x l. g x l >>= (λ slots. Done (FieldSlot name ∷ slots)))) m) (fun_ext (λ x. path_is s steps k x))

  assigned_is : (at x : ℕ) (path : List (Step ℕ)) (e : Expr ℕ) (k l : ℕ) (s : Store) → assigned w2 fr2 at x (numbered_path path k) (numbered e l) s ≡ assigned w fr at x path e s
  assigned_is at x [] e k l s = ap (λ (r : Run Datum). λ m. r m >>= stored fr at x (type_at fr.types x) s) (eval_is w true e l s)
  assigned_is at x (IndexStep place e2 ∷ steps) e k l s =
      ap₂ (λ (g : Datum → Run (List Slot)) (r : Run Datum). needed at (slot s x) (λ d m. g d m >>= (λ slots j. r j >>= (λ v. stored fr at x (type_at fr.types x) s (updated d slots v)))))
      (fun_ext (λ d. path_is s (IndexStep place e2 ∷ steps) k d)) (eval_is w true e l s)
  assigned_is at x (FieldStep place name ∷ steps) e k l s =
      ap₂ (λ (g : Datum → Run (List Slot)) (r : Run Datum). needed at (slot s x) (λ d m. g d m >>= (λ slots j. r j >>= (λ v. stored fr at x (type_at fr.types x) s (updated d slots v)))))
      (fun_ext (λ d. path_is s (FieldStep place name ∷ steps) k d)) (eval_is w true e l s)

  pub leave_is : (at : ℕ) (o : Option tree.Output) (v : Option Datum) → leave w2 fr2 at o v ≡ leave w fr at o v
  leave_is at None None = clauses_are w kind.Ensures at fr.postconditions i fr.entry (Done (Gave None))
  leave_is at None (Some v) = refl
  leave_is at (Some o) None = refl
  leave_is at (Some o) (Some v) = ap (λ (r : Run Exit). given fr.member at o.ty v r) (clauses_are w kind.Ensures at fr.postconditions i (set_if fr.entry o.variable (Some v)) (Done (Gave (Some v))))

  truth_is : (at : ℕ) (e : Expr ℕ) (k : ℕ) (s : Store) → tested_truth w2 at (numbered e k) s ≡ tested_truth w at e s
  truth_is at e k s = ap (λ (r : Run Datum). λ m. r m >>= (λ v. as_truth at v Done)) (eval_is w true e k s)

  rounds_are : (at : ℕ) (test test2 : Store → Run Bool) (body body2 : Store → Run Exit) (keep keep2 : ℕ → Store → Run Exit → Run Exit) → test ≡ test2 → body ≡ body2 → keep ≡ keep2 → (j : ℕ) → rounds j at test body keep ≡ rounds j at test2 body2 keep2
  rounds_are at test test2 body body2 keep keep2 e f g j =
      ap (λ (t : Store → Run Bool). rounds j at t body keep) e ∙ (ap (λ (b : Store → Run Exit). rounds j at test2 b keep) f ∙ ap (λ (c : ℕ → Store → Run Exit → Run Exit). rounds j at test2 body2 c) g)

  mutual
    pub exec_is : (st : Stmt ℕ) (k : ℕ) (s : Store) → exec w2 fr2 (numbered_stmt st k) s ≡ exec w fr st s
    exec_is (DeclareStmt at t x None) k s = refl
    exec_is (DeclareStmt at t x (Some e)) k s = ap (λ (r : Run Datum). spend true (λ m. r m >>= stored fr at x t s)) (eval_is w true e k s)
    exec_is (AssignStmt at x path e) k s = ap (λ (r : Run Exit). spend true r) (assigned_is at x path e k (k + exprs_in_path path) s)
    exec_is (CallStmt at f es) k s = ap (λ (r : Run (List Datum)). spend true (λ m. r m >>= (λ vs j. w.call f at vs j >>= (λ v. Done (Went s))))) (all_are w true es k s)
    exec_is (ReturnStmt at None) k s = ap (λ (r : Run Exit). spend true r) (leave_is at fr.result None)
    exec_is (ReturnStmt at (Some e)) k s =
        ap₂ (λ (r : Run Datum) (g : Datum → Run Exit). spend true (λ m. r m >>= g)) (eval_is w true e k s) (fun_ext (λ v. leave_is at fr.result (Some v)))
    exec_is (AssertStmt at e) k s = ap (λ (r : Run Bool). spend true (λ m. r m >>= (λ b. check b kind.Assert at (Done (Went s))))) (holds_at_is w at e k s)
    exec_is (BreakStmt at) k s = refl
    exec_is (ContinueStmt at) k s = refl
    exec_is (SkipStmt at) k s = refl
    exec_is (FailStmt at) k s = refl
    exec_is (IfStmt at e first second) k s =
        ap (λ (r : Run Bool). spend true (λ m. r m >>= (λ b. choose b (exec_all w2 fr2 (numbered_block first (k + exprs_in e)) s) (exec_all w2 fr2 (numbered_block second (k + exprs_in e + exprs_in_block first)) s)))) (truth_is at e k s)
        ∙ ap₂ (λ (r t : Run Exit). spend true (λ m. tested_truth w at e s m >>= (λ b. choose b r t))) (block_is first (k + exprs_in e) s) (block_is second (k + exprs_in e + exprs_in_block first) s)
    exec_is (WhileStmt at e invariants body) k s =
        ap (λ (r : Run Exit). spend true r) (clauses_are w kind.Entry at invariants (k + exprs_in e) s (λ m. rounds (suc m.ticks) at (tested_truth w2 at (numbered e k)) (exec_all w2 fr2 (numbered_block body (k + exprs_in e + exprs_in_list invariants))) (λ from. clauses w2 kind.Keep from (numbered_list invariants (k + exprs_in e))) s m))
        ∙ ap (λ (g : ℕ → Store → Run Exit). spend true (clauses w kind.Entry at invariants s (λ m. g (suc m.ticks) s m)))
        (fun_ext (λ j. rounds_are at (tested_truth w2 at (numbered e k)) (tested_truth w at e) (exec_all w2 fr2 (numbered_block body (k + exprs_in e + exprs_in_list invariants))) (exec_all w fr body)
        (λ from. clauses w2 kind.Keep from (numbered_list invariants (k + exprs_in e))) (λ from. clauses w kind.Keep from invariants)
        (fun_ext (λ x. truth_is at e k x)) (fun_ext (λ x. block_is body (k + exprs_in e + exprs_in_list invariants) x))
        (fun_ext (λ from. fun_ext (λ x. fun_ext (λ next. clauses_are w kind.Keep from invariants (k + exprs_in e) x next)))) j))

    pub block_is : (sts : Stmts ℕ) (k : ℕ) (s : Store) → exec_all w2 fr2 (numbered_block sts k) s ≡ exec_all w fr sts s
    block_is NoStmts k s = refl
    block_is (MoreStmts first rest) k s =
        ap₂ (λ (r : Run Exit) (g : Store → Run Exit). λ m. r m >>= (λ x. go_on x g)) (exec_is first k s) (fun_ext (λ x. block_is rest (k + exprs_in_stmt first) x))
