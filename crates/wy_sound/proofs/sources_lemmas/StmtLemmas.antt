-- Each statement is lowered to such that declare variables with new numbers alone.
use Rattle.std.proofs.Common.{◌≡◌, ◌≤◌, ℕ, suc, ◌+◌, true, false, List, [], ◌∷◌, length, Some, refl, arith, codes}
use Rattle.wy_ast.specs.SurfaceTree as surface
use Rattle.wy_ast.specs.SurfaceTree.{DeclareStmt, AssignStmt, CallStmt, ReturnStmt, AssertStmt, BreakStmt, ContinueStmt, SkipStmt, FailStmt, IfStmt, WhileStmt, DoStmt, ForStmt, SwitchStmt, SwitchElseStmt, NoStmts, MoreStmts, NoCases, MoreCases}
use Rattle.wy_core.specs.Types.{BoolTy, IntTy, AnyTy}
use Rattle.wy_core.specs.CoreTree as core
use Rattle.wy_core.specs.CoreTree.{Expr, BoolExpr, IntExpr, VarExpr, stmts_of}
use Rattle.wy_names_scope.specs.Scope.{Scope}
use Rattle.wy_names.specs.wy_names_lower.Variables.{Variables, named}
use Rattle.wy_names.specs.wy_names_lower.Uses.{Template}
use Rattle.wy_names.specs.wy_names_lower.TypesLowered.{in_ty}
use Rattle.wy_names.specs.wy_names_lower.ExprsLowered.{in_expr}
use Rattle.wy_names.specs.wy_names_lower.StmtsLowered.{Arm, Span, in_option, in_clauses, in_stmt, in_stmts, in_cases, scope_behind, do_test, do_invariants, behind_first, each_behind_first, repeated, for_from, for_to, for_span, for_invariants, renamed, with_span, next_turn, starts, turns, counted, chain, switched, switch_value, switch_variables, switch_number}
use Rattle.wy_names.proofs.resolved_lemmas.GrowLemmas.{through, length_named, grows_option, grows_expr, grows_clauses, grows_stmt, length_span}
use Rattle.wy_sound.proofs.sources_lemmas.FreshLemmas.{Fresh, fresh_none, fresh_from, fresh_quiet, fresh_declare, fresh_more, fresh_append, fresh_if, fresh_while, ArmsFresh, fresh_chain}

-- ---- loops and switches, by their parts

-- an assignment
assigned : (n at x : ℕ) (e : Expr ℕ) → Fresh n (core.AssignStmt at x [] e ∷ []) n
assigned n at x e = fresh_quiet n n (core.AssignStmt at x [] e) (omega arith) (λ slots. tt) (λ slots. refl)

fresh_repeated : (n m k at : ℕ) (test : Expr ℕ) (invariants : List (Expr ℕ)) (body : List (core.Stmt ℕ)) → suc n ≤ m → Fresh m body k → Fresh n (repeated at n test invariants body) k
fresh_repeated n m k at test invariants body le f =
    let inner : List (core.Stmt ℕ) = core.AssignStmt at n [] (BoolExpr at false) ∷ body in
    fresh_more n (suc n) k (core.DeclareStmt at BoolTy n (Some (BoolExpr at true))) (core.WhileStmt at (behind_first at n test) (each_behind_first at n invariants) (stmts_of inner) ∷ [])
    (fresh_declare n n (suc n) at BoolTy (Some (BoolExpr at true)) (omega arith) (omega arith))
    (fresh_while (suc n) k at (behind_first at n test) (each_behind_first at n invariants) inner
    (fresh_more (suc n) (suc n) k (core.AssignStmt at n [] (BoolExpr at false)) body (assigned (suc n) at n (BoolExpr at false)) (fresh_from (suc n) m k body le f)))

-- the variables that count, where the first has this number
fresh_starts : (n m at : ℕ) (v : Span) (from to : Expr ℕ) → v.lo ≡ n → v.hi ≡ n + 1 → v.t ≡ n + 2 → n + 3 ≤ m → Fresh n (starts at v from to) m
fresh_starts n m at v from to lo hi t le =
    fresh_more n (n + 1) m (core.DeclareStmt at IntTy v.lo (Some from)) _ (fresh_declare n v.lo (n + 1) at IntTy (Some from) (omega (arith, lo)) (omega (arith, lo)))
    (fresh_more (n + 1) (n + 2) m (core.DeclareStmt at IntTy v.hi (Some to)) _ (fresh_declare (n + 1) v.hi (n + 2) at IntTy (Some to) (omega (arith, hi)) (omega (arith, hi)))
    (fresh_declare (n + 2) v.t m at IntTy (Some (VarExpr at v.lo)) (omega (arith, t)) (omega (arith, t, le))))

fresh_next : (n m at : ℕ) (v : Span) → v.i ≡ n → n + 1 ≤ m → Fresh n (next_turn at v) m
fresh_next n m at v i le =
    fresh_more n m m (core.DeclareStmt at IntTy v.i (Some (VarExpr at v.t))) _ (fresh_declare n v.i m at IntTy (Some (VarExpr at v.t)) (omega (arith, i)) (omega (arith, i, le))) (assigned m at v.t _)

fresh_counted : (n m k at : ℕ) (v : Span) (from to : Expr ℕ) (own : List (Expr ℕ)) (body : List (core.Stmt ℕ)) → v.lo ≡ n → v.hi ≡ n + 1 → v.t ≡ n + 2 → v.i ≡ n + 3 → n + 4 ≤ m → Fresh m body k
    → Fresh n (counted at v from to own body) k
fresh_counted n m k at v from to own body lo hi t i le f =
    fresh_append n (n + 3) k (starts at v from to) (turns at v own body ∷ []) (fresh_starts n (n + 3) at v from to lo hi t (omega arith))
    (fresh_while (n + 3) k at _ _ _ (fresh_append (n + 3) m k (next_turn at v) body (fresh_next (n + 3) m at v i (omega (arith, le))) f))

fresh_switched : (n m k at : ℕ) (value : Expr ℕ) (arms : List Arm) (last : List (core.Stmt ℕ)) → ArmsFresh (suc n) arms m → Fresh m last k → Fresh n (switched at n value arms last) k
fresh_switched n m k at value arms last h g =
    fresh_more n (suc n) k (core.DeclareStmt at AnyTy n (Some value)) (chain at arms last) (fresh_declare n n (suc n) at AnyTy (Some value) (omega arith) (omega arith)) (fresh_chain (suc n) m k at arms last h g)

-- later numbers are new, too
arms_from : (n k m : ℕ) (arms : List Arm) → n ≤ k → ArmsFresh k arms m → ArmsFresh n arms m
arms_from n k m [] le h = omega (arith, le, h)
arms_from n k m (a ∷ arms) le h = (h.0, fresh_from n k h.0 a.body le h.1, h.2)

-- one more name is one more number
next_number : (vs : Variables) (name : List ℕ) → suc (length vs) ≤ length (named vs name)
next_number vs name = let e = length_named vs name in omega (arith, e)

-- ---- statements

module _ (ts : List Template) where
  mutual
    pub fresh_stmt : (s : Scope) (vs : Variables) (x : surface.Stmt) → Fresh (length vs) (in_stmt ts s vs x).1 (length (in_stmt ts s vs x).0)
    fresh_stmt s vs (DeclareStmt at t name value) =
        let before : Variables = (in_option ts s vs value).0 in
        let next = next_number before name in
        fresh_declare (length vs) (length before) (length (named before name)) at (in_ty s t) (in_option ts s vs value).1 (grows_option ts s vs value) (omega (arith, next))
    fresh_stmt s vs (AssignStmt at name path value) = fresh_quiet _ _ _ (grows_stmt ts s vs (AssignStmt at name path value)) (λ slots. tt) (λ slots. refl)
    fresh_stmt s vs (CallStmt at name args) = fresh_quiet _ _ _ (grows_stmt ts s vs (CallStmt at name args)) (λ slots. tt) (λ slots. refl)
    fresh_stmt s vs (ReturnStmt at value) = fresh_quiet _ _ _ (grows_stmt ts s vs (ReturnStmt at value)) (λ slots. tt) (λ slots. refl)
    fresh_stmt s vs (AssertStmt at test) = fresh_quiet _ _ _ (grows_stmt ts s vs (AssertStmt at test)) (λ slots. tt) (λ slots. refl)
    fresh_stmt s vs (BreakStmt at) = fresh_quiet (length vs) (length vs) (core.BreakStmt at) (omega arith) (λ slots. tt) (λ slots. refl)
    fresh_stmt s vs (ContinueStmt at) = fresh_quiet (length vs) (length vs) (core.ContinueStmt at) (omega arith) (λ slots. tt) (λ slots. refl)
    fresh_stmt s vs (SkipStmt at) = fresh_quiet (length vs) (length vs) (core.SkipStmt at) (omega arith) (λ slots. tt) (λ slots. refl)
    fresh_stmt s vs (FailStmt at) = fresh_quiet (length vs) (length vs) (core.FailStmt at) (omega arith) (λ slots. tt) (λ slots. refl)
    fresh_stmt s vs (IfStmt at test first second) =
        let e = in_expr ts s vs test in
        let f = in_stmts ts s e.0 first in
        let g = in_stmts ts s f.0 second in
        fresh_if (length vs) (length f.0) (length g.0) at e.1 f.1 g.1 (fresh_from (length vs) (length e.0) (length f.0) f.1 (grows_expr ts s vs test) (fresh_stmts s e.0 first)) (fresh_stmts s f.0 second)
    fresh_stmt s vs (WhileStmt at test invariants body) =
        let e = in_expr ts s vs test in
        let c = in_clauses ts s e.0 invariants in
        let b = in_stmts ts s c.0 body in
        fresh_while (length vs) (length b.0) at e.1 c.1 b.1 (fresh_from (length vs) (length c.0) (length b.0) b.1 (through (grows_expr ts s vs test) (grows_clauses ts s e.0 invariants)) (fresh_stmts s c.0 body))
    fresh_stmt s vs (DoStmt at body test invariants) =
        let first : Variables = named vs (codes "first") in
        let e = do_test ts s vs test in
        let c = do_invariants ts s vs test invariants in
        let b = in_stmts ts s c.0 body in
        fresh_repeated (length vs) (length c.0) (length b.0) at e.1 c.1 b.1 (through (next_number vs (codes "first")) (through (grows_expr ts s first test) (grows_clauses ts s e.0 invariants))) (fresh_stmts s c.0 body)
    fresh_stmt s vs (ForStmt at name from to invariants body) =
        let start = for_from ts s vs from in
        let stop = for_to ts s vs from to in
        let v = for_span ts s vs from to in
        let c = for_invariants ts s vs name from to invariants in
        let b = in_stmts ts (renamed s name v.i) c.0 body in
        let spanned = length_span ts stop.0 name in
        let wide : length stop.0 + 4 ≤ length c.0 = through (let w : length stop.0 + 4 ≤ length (with_span stop.0 name) = omega (arith, spanned) in w) (grows_clauses ts (renamed s name v.t) (with_span stop.0 name) invariants) in
        fresh_from (length vs) (length stop.0) (length b.0) (counted at v start.1 stop.1 c.1 b.1) (through (grows_expr ts s vs from) (grows_expr ts s start.0 to))
        (fresh_counted (length stop.0) (length c.0) (length b.0) at v start.1 stop.1 c.1 b.1 refl refl refl refl wide (fresh_stmts (renamed s name v.i) c.0 body))
    fresh_stmt s vs (SwitchStmt at value cs) =
        let e = switch_value ts s vs value in
        let t = switch_number ts s vs value in
        let us = switch_variables ts s vs value in
        let c = in_cases ts s us at t cs in
        fresh_from (length vs) (length e.0) (length c.0) (switched at t e.1 c.1 []) (grows_expr ts s vs value)
        (fresh_switched (length e.0) (length c.0) (length c.0) at e.1 c.1 [] (arms_from (suc (length e.0)) (length us) (length c.0) c.1 (next_number e.0 (codes "t")) (fresh_cases s us at t cs)) (fresh_none (length c.0) (length c.0) (omega arith)))
    fresh_stmt s vs (SwitchElseStmt at value cs default) =
        let e = switch_value ts s vs value in
        let t = switch_number ts s vs value in
        let us = switch_variables ts s vs value in
        let c = in_cases ts s us at t cs in
        let d = in_stmts ts s c.0 default in
        fresh_from (length vs) (length e.0) (length d.0) (switched at t e.1 c.1 d.1) (grows_expr ts s vs value)
        (fresh_switched (length e.0) (length c.0) (length d.0) at e.1 c.1 d.1 (arms_from (suc (length e.0)) (length us) (length c.0) c.1 (next_number e.0 (codes "t")) (fresh_cases s us at t cs)) (fresh_stmts s c.0 default))

    pub fresh_stmts : (s : Scope) (vs : Variables) (xs : surface.Stmts) → Fresh (length vs) (in_stmts ts s vs xs).1 (length (in_stmts ts s vs xs).0)
    fresh_stmts s vs NoStmts = fresh_none (length vs) (length vs) (omega arith)
    fresh_stmts s vs (MoreStmts x rest) =
        let a = in_stmt ts s vs x in
        let b = in_stmts ts (scope_behind ts s vs x) a.0 rest in
        fresh_append (length vs) (length a.0) (length b.0) a.1 b.1 (fresh_stmt s vs x) (fresh_stmts (scope_behind ts s vs x) a.0 rest)

    fresh_cases : (s : Scope) (vs : Variables) (at t : ℕ) (cs : surface.Cases) → ArmsFresh (length vs) (in_cases ts s vs at t cs).1 (length (in_cases ts s vs at t cs).0)
    fresh_cases s vs at t NoCases = omega arith
    fresh_cases s vs at t (MoreCases labels body rest) =
        let c = in_clauses ts s vs labels in
        let b = in_stmts ts s c.0 body in
        (length b.0, fresh_from (length vs) (length c.0) (length b.0) b.1 (grows_clauses ts s vs labels) (fresh_stmts s c.0 body), fresh_cases s b.0 at t rest)
