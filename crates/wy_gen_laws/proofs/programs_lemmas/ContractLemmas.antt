-- Contracts of a formed program spend no tick and print nothing.
use Rattle.std.proofs.Common.{◌≡◌, inl, ℕ, zero, suc, List, [], ◌∷◌, length, Bool, true, false, Option, Some, None, refl, subst}
use Rattle.wy_core.proofs.formed_lemmas.SharedLemmas.{clauses_below}
use Rattle.wy_value.specs.Datum.{Datum}
use Rattle.wy_core.specs.Types.{Ty}
use Rattle.wy_core.specs.CoreTree as tree
use Rattle.wy_core.specs.CoreTree.{Expr, Output, Param, Core, aliases_of, Stmt, DeclareStmt, AssignStmt, CallStmt, ReturnStmt, AssertStmt, BreakStmt, ContinueStmt, SkipStmt, FailStmt, IfStmt, WhileStmt, Stmts, NoStmts, MoreStmts}
use Rattle.wy_core.specs.formed.Offers.{Offers, offers_of}
use Rattle.wy_core.specs.formed.Bound.{Scope, Around, looped, behind, BoundTy, BoundExpr, BoundClauses, BoundParams, BoundResult, BoundStmt, BoundStmts, BoundRoutine, Bound, with_params, with_option, result_variable}
use Rattle.wy_core.specs.formed.Calls.{CallsExpr, CallsClauses, Nothing, CallsRoutine, Calls}
use Rattle.wy_core.specs.formed.Recursion.{Recursion}
use Rattle.wy_core.specs.formed.Wholes.{EachClause}
use Rattle.wy_vc_spec.specs.wy_sem.Meter.{Meter, Outcome, Done, Fault, More, Spent, Run, choose}
use Rattle.wy_vc_spec.specs.wy_sem.TypeTests.{answer, tests, member, is_constrained}
use Rattle.wy_vc_spec.specs.wy_sem.Statements.{type_at}
use Rattle.wy_vc_spec.specs.wy_sem.Evaluation.{set_type, any_types, param_types, declared_in, declared_in_all, types_of, frame_of}
use Rattle.wy_vc_spec.proofs.answered_lemmas.Ends.{Ended, Ends, Answered, Answers}
use Rattle.wy_vc_spec.proofs.answered_lemmas.EndingExpressions.{holds_at-ends}
use Rattle.wy_vc_spec.proofs.answered_lemmas.Answers.{IsWithin, low, tests-end, member-answers}
use Rattle.wy_gen_laws.specs.statements.Still.{Stays, Still, IsStill, IsStillTy}
use Rattle.wy_gen_laws.specs.statements.Led.{FrameStays}
use Rattle.wy_gen_laws.specs.statements.Routines.{StillParams, setting_of, owed_of}

-- ---- runs that end

ended_stays : {X : Type 0} (m : Meter) (o : Outcome X) → Ended m o → Stays m o
ended_stays m (Done x k) h = h
ended_stays m (Fault kind at k) h = tt
ended_stays m (More k) h = h
ended_stays m Spent h = tt

answered_stays : {X : Type 0} (m : Meter) (o : Outcome X) → Answered m o → Stays m o
answered_stays m (Done x k) h = h
answered_stays m (Fault kind at k) h = tt
answered_stays m (More k) h = h
answered_stays m Spent h = tt

still_ends : (X : Type 0) (r : Run X) → Ends X r → Still X r
still_ends X r p = record { stays = λ m. ended_stays m (r m) (p.ends m) }

still_choice : (b : Bool) (r : Run Bool) → Answers Bool r → Still Bool (choose b r (answer true))
still_choice true r p = record { stays = λ m. answered_stays m (r m) (p.answers m) }
still_choice false r p = record { stays = λ m. (refl, refl) }

-- ---- types of variables

abbrev AllTypes : ℕ → List Ty → Type 0
AllTypes k [] = Unit {0}
AllTypes k (t ∷ ts) = BoundTy k t × AllTypes k ts

type_bound : (k : ℕ) (ts : List Ty) (x : ℕ) → AllTypes k ts → BoundTy k (type_at ts x)
type_bound k [] x h = tt
type_bound k (t ∷ ts) zero h = h.0
type_bound k (t ∷ ts) (suc x) h = type_bound k ts x h.1

set_bound : (k : ℕ) (ts : List Ty) (x : ℕ) (t : Ty) → BoundTy k t → AllTypes k ts → AllTypes k (set_type ts x t)
set_bound k [] x t b h = tt
set_bound k (u ∷ ts) zero t b h = (b, h.1)
set_bound k (u ∷ ts) (suc x) t b h = (h.0, set_bound k ts x t b h.1)

any_bound : (k : ℕ) (names : List (List ℕ)) → AllTypes k (any_types names)
any_bound k [] = tt
any_bound k (n ∷ names) = (tt, any_bound k names)

module _ (o : Offers) (n : ℕ) where
  params_bound : (vs : Scope) (ps : List Param) (ts : List Ty) → BoundParams o n vs ps → AllTypes o.types ts → AllTypes o.types (param_types ps ts)
  params_bound vs [] ts b h = h
  params_bound vs (p ∷ ps) ts b h = params_bound (p.variable ∷ vs) ps (set_type ts p.variable p.ty) b.2 (set_bound o.types ts p.variable p.ty b.0 h)

  mutual
    declared_bound : (st : Stmt ℕ) (a : Around) (vs : Scope) (ts : List Ty) → BoundStmt o n a vs st → AllTypes o.types ts → AllTypes o.types (declared_in st ts)
    declared_bound (DeclareStmt at t x value) a vs ts b h = set_bound o.types ts x t b.0 h
    declared_bound (AssignStmt at x path e) a vs ts b h = h
    declared_bound (CallStmt at f es) a vs ts b h = h
    declared_bound (ReturnStmt at value) a vs ts b h = h
    declared_bound (AssertStmt at e) a vs ts b h = h
    declared_bound (BreakStmt at) a vs ts b h = h
    declared_bound (ContinueStmt at) a vs ts b h = h
    declared_bound (SkipStmt at) a vs ts b h = h
    declared_bound (FailStmt at) a vs ts b h = h
    declared_bound (IfStmt at e first second) a vs ts b h = all_bound second a vs (declared_in_all first ts) b.2 (all_bound first a vs ts b.1 h)
    declared_bound (WhileStmt at e invariants body) a vs ts b h = all_bound body (looped a) vs ts b.2 h

    all_bound : (ss : Stmts ℕ) (a : Around) (vs : Scope) (ts : List Ty) → BoundStmts o n a vs ss → AllTypes o.types ts → AllTypes o.types (declared_in_all ss ts)
    all_bound NoStmts a vs ts b h = h
    all_bound (MoreStmts st rest) a vs ts b h = all_bound rest a (behind vs st) (declared_in st ts) b.1 (declared_bound st a vs ts b.0 h)

-- ---- contracts

module _ (place : ℕ → ℕ) (core : Core ℕ) (bound : Bound core) (calls : Calls core) (recurs : Recursion core) where
  pub clause_still : (j n : ℕ) (vs : Scope) (e : Expr ℕ) → BoundExpr (offers_of core) n vs e → CallsExpr Nothing e → IsStill (setting_of place core j) e
  clause_still j n vs e b q at s =
      still_ends Bool _ (holds_at-ends place (tests place None (aliases_of core) (suc (length (aliases_of core)))) (IsWithin place core bound calls recurs (length (aliases_of core))) (tests-end place core bound calls recurs (length (aliases_of core))) at e q
      (λ c h. low place core bound calls recurs c (clauses_below (offers_of core) n vs (e ∷ []) (b, tt) c (inl h))) s)

  pub clauses_still : (j n : ℕ) (vs : Scope) (es : List (Expr ℕ)) → BoundClauses (offers_of core) n vs es → CallsClauses Nothing es → EachClause (IsStill (setting_of place core j)) es
  clauses_still j n vs [] b q = tt
  clauses_still j n vs (e ∷ es) b q = (clause_still j n vs e b.0 q.0, clauses_still j n vs es b.1 q.1)

  pub ty_still : (t : Ty) → BoundTy (length (aliases_of core)) t → IsStillTy (owed_of place core) t
  ty_still t b d = still_choice (is_constrained (aliases_of core) t) (member place None (aliases_of core) t d) (member-answers place core bound calls recurs t b d)

  pub params_still : (n : ℕ) (vs : Scope) (ps : List Param) → BoundParams (offers_of core) n vs ps → StillParams (owed_of place core) ps
  params_still n vs [] b = tt
  params_still n vs (p ∷ ps) b = (ty_still p.ty b.0, params_still n (p.variable ∷ vs) ps b.2)

  result_bound : (r : Option Output) (o : Output) → BoundResult (offers_of core) r → r ≡ Some o → BoundTy (length (aliases_of core)) o.ty
  result_bound r o b e = let h : BoundResult (offers_of core) (Some o) = subst (λ (q : Option Output). BoundResult (offers_of core) q) e b in h

  pub frame_stays : (r : tree.Routine ℕ) → BoundRoutine (offers_of core) r → CallsRoutine (offers_of core) r → (j : ℕ) (us : List Datum) → FrameStays (setting_of place core j) (frame_of (owed_of place core) r us)
  frame_stays r b q j us = record {
    types = λ x. ty_still (type_at (types_of r) x)
        (type_bound (length (aliases_of core)) (types_of r) x (all_bound (offers_of core) (length r.variables) r.body _ (with_params [] r.params) (param_types r.params (any_types r.variables)) b.body
        (params_bound (offers_of core) (length r.variables) [] r.params (any_types r.variables) b.params (any_bound (length (aliases_of core)) r.variables))));
    result = λ o e. ty_still o.ty (result_bound r.result o b.result e);
    clauses = clauses_still j (length r.variables) (with_option (with_params [] r.params) (result_variable r.result)) r.postconditions b.postconditions q.postconditions;
  }
