-- The statements of a program without a fault of names call what they may.
use Rattle.std.proofs.Common.{◌≡◌, ◌∙◌, inl, refl, ℕ, ◌+◌, Bool, true, false, not, List, [], ◌∷◌, ◌++◌, length, Option, Some, None, is_some, sym, ap, codes}
use Rattle.wy_ast.specs.SurfaceTree.{Expr}
use Rattle.wy_ast.specs.SurfaceTree.{Step, IndexStep, FieldStep, Stmt, Stmts, Cases, DeclareStmt, AssignStmt, CallStmt, ReturnStmt, AssertStmt, BreakStmt, ContinueStmt, SkipStmt, FailStmt, IfStmt, WhileStmt, DoStmt, ForStmt, SwitchStmt, SwitchElseStmt, NoStmts, MoreStmts, NoCases, MoreCases, exprs_of}
use Rattle.wy_core.specs.CoreTree as core
use Rattle.wy_core.specs.CoreTree.{stmts_of}
use Rattle.wy_names_scope.specs.declared.fault.Cause.TheVariants as cause
use Rattle.wy_names_scope.specs.declared.table.Entry.{Entry}
use Rattle.wy_names_scope.specs.declared.table.Entry.TheVariants as entry
use Rattle.wy_names_scope.specs.Faults.{Found, noted_where}
use Rattle.wy_names_scope.specs.Scope.{Scope, entry_of, has, with_name}
use Rattle.wy_names_recursion.specs.declared.context.Context.{Context}
use Rattle.wy_names_recursion.specs.Calls.{contract, looped, call, is_variable}
use Rattle.wy_names_recursion.specs.TypeNames as types
use Rattle.wy_names_recursion.specs.TypeNames.{just_a_name}
use Rattle.wy_names_recursion.specs.ExprNames as exprs
use Rattle.wy_names_recursion.specs.StmtNames as bind
use Rattle.wy_names_recursion.specs.StmtNames.{differ}
use Rattle.wy_names_lower.specs.Variables.{Variables, named, routine_of}
use Rattle.wy_names_lower.specs.Uses.{Template}
use Rattle.wy_names_lower.specs.ExprsLowered.{in_expr, in_exprs}
use Rattle.wy_names_lower.specs.StmtsLowered.{in_option, in_path, in_clauses, in_stmt, in_stmts, in_cases, scope_behind, each_behind_first, equals, or_of, or_labels, Arm, chain, bounds, do_test, do_invariants, for_from, for_to, for_span, for_invariants, renamed, with_span, switch_variables, switch_number}
use Rattle.wy_core.specs.formed.Offers.{Offers}
use Rattle.wy_core.specs.formed.Bound as formed
use Rattle.wy_core.specs.formed.Bound.{Has}
use Rattle.wy_core.specs.formed.Calls.{CallsExpr, CallsClauses, CallsOption, CallsPath, Nothing, CallsStmts}
use Rattle.wy_names.proofs.resolved_lemmas.NotedLemmas.{none_noted, noted_none}
use Rattle.wy_names.proofs.resolved_lemmas.BindLemmas.{of_routine, before_expr, before_exprs, before_path, before_stmts, before_cases}
use Rattle.wy_names.proofs.resolved_lemmas.ScopeLemmas.{erased, erased_option, seen_entry, erased_more, Leads, entry_leads, leads_with}
use Rattle.wy_names.proofs.resolved_lemmas.BlockLemmas.{behind_all, spanned}
use Rattle.wy_names.proofs.resolved_lemmas.StmtLemmas.{leads_behind, erased_behind, leads_made, leads_span}
use Rattle.wy_names.proofs.resolved_lemmas.CallLemmas.{Permits, in_contract, FreeTemplates, exprs_call, calls_expr, calls_exprs}

-- these statements, in order
abbrev pub CallsBlock : (ℕ → Type 0) → List (core.Stmt ℕ) → Type 0
CallsBlock P xs = CallsStmts P (stmts_of xs)

both_blocks : (P : ℕ → Type 0) (xs ys : List (core.Stmt ℕ)) → CallsBlock P xs → CallsBlock P ys → CallsBlock P (xs ++ ys)
both_blocks P [] ys p q = q
both_blocks P (x ∷ xs) ys p q = (p.0, both_blocks P xs ys p.1 q)

both_clauses : (P : ℕ → Type 0) (xs ys : List (core.Expr ℕ)) → CallsClauses P xs → CallsClauses P ys → CallsClauses P (xs ++ ys)
both_clauses P [] ys p q = q
both_clauses P (x ∷ xs) ys p q = (p.0, both_clauses P xs ys p.1 q)

each_first : (P : ℕ → Type 0) (at first : ℕ) (es : List (core.Expr ℕ)) → CallsClauses P es → CallsClauses P (each_behind_first at first es)
each_first P at first [] b = tt
each_first P at first (e ∷ es) b = ((tt, b.0), each_first P at first es b.1)

labels_call : (P : ℕ → Type 0) (at t : ℕ) (first : Bool) (e : core.Expr ℕ) (cs : List (core.Expr ℕ)) → CallsExpr P e → CallsClauses P cs → CallsExpr P (or_labels at t first e cs)
labels_call P at t first e [] b k = b
labels_call P at t true e (c ∷ cs) b k = labels_call P at t false (equals at t c) cs (tt, k.0) k.1
labels_call P at t false e (c ∷ cs) b k = labels_call P at t false (or_of at e (equals at t c)) cs (b, (tt, k.0)) k.1

abbrev CallsArms : (ℕ → Type 0) → List Arm → Type 0
CallsArms P [] = Unit {0}
CallsArms P (x ∷ xs) = CallsExpr P x.test × CallsBlock P x.body × CallsArms P xs

chain_calls : (P : ℕ → Type 0) (at : ℕ) (arms : List Arm) (last : List (core.Stmt ℕ)) → CallsArms P arms → CallsBlock P last → CallsBlock P (chain at arms last)
chain_calls P at [] last h b = b
chain_calls P at (x ∷ xs) last h b = ((h.0, h.1, chain_calls P at xs last h.2 b), tt)

-- in a loop the same is permitted
in_loop : (o : Offers) (P : ℕ → Type 0) (c : Context) → Permits o P c → Permits o P (looped c)
in_loop o P c ok s v count w at = ok s v count (record { value = w.value; arity = w.arity; method = w.method; contract = w.contract }) at

module _ (o : Offers) (ts : List Template) (free : FreeTemplates ts) where
  calls_option : (P : ℕ → Type 0) (c : Context) → Permits o P c → (b s : Scope) → b ≡ erased s → (vs : formed.Scope) → Leads o ts vs s → (e : Option Expr) (found : Found) → bind.in_option c b e found ≡ None
      → (names : Variables) → CallsOption P (in_option ts s names e).1
  calls_option P c ok b s h vs l None found k names = tt
  calls_option P c ok b s h vs l (Some e) found k names = calls_expr o ts free P c ok b s h vs l e found k names

  calls_path : (P : ℕ → Type 0) (c : Context) → Permits o P c → (b s : Scope) → b ≡ erased s → (vs : formed.Scope) → Leads o ts vs s → (xs : List Step) (found : Found) → bind.in_path c b xs found ≡ None
      → (names : Variables) → CallsPath P (in_path ts s names xs).1
  calls_path P c ok b s h vs l [] found k names = tt
  calls_path P c ok b s h vs l (IndexStep at e ∷ xs) found k names =
      (calls_expr o ts free P c ok b s h vs l e found (before_path c b xs (exprs.in_expr c b e found) k) names, calls_path P c ok b s h vs l xs (exprs.in_expr c b e found) k (in_expr ts s names e).0)
  calls_path P c ok b s h vs l (FieldStep at name ∷ xs) found k names = calls_path P c ok b s h vs l xs found k names

  statement_call : (P : ℕ → Type 0) (c : Context) → Permits o P c → (vs : formed.Scope) (b s : Scope) (name : List ℕ) → b ≡ erased s → Leads o ts vs s → (count at : ℕ) (found : Found)
      → call c false (entry_of b name) count at found ≡ None → P (routine_of (entry_of s name))
  statement_call P c ok vs b s name h l count at found k =
      by (entry_of s name) refl (ap (λ (e : Option Entry). call c false e count at found) (sym (seen_entry b s name h)) ∙ k)
    where
      by : (e : Option Entry) → entry_of s name ≡ e → call c false (erased_option e) count at found ≡ None → P (routine_of e)
      by None there j = absurd (none_noted found at cause.Unknown j)
      by (Some (entry.Type n decl)) there j = absurd (none_noted found at cause.Unknown j)
      by (Some (entry.Routine r)) there j = ok r false count (of_routine c false r count at found j).1 (entry_leads o ts vs s name (entry.Routine r) l there)
      by (Some (entry.Property decl arity)) there j = absurd (none_noted found at cause.Unknown j)
      by (Some (entry.Variable n)) there j = absurd (none_noted found at cause.Unknown j)

  mutual
    pub calls_stmt : (P : ℕ → Type 0) (c : Context) → Permits o P c → (b s : Scope) → b ≡ erased s → (vs : formed.Scope) → Leads o ts vs s → (x : Stmt) (found : Found) → bind.in_stmt c b x found ≡ None
        → (names : Variables) → CallsBlock P (in_stmt ts s names x).1
    calls_stmt P c ok b s h vs l (DeclareStmt at t name value) found k names =
        let valued : Found = bind.in_option c b value (types.in_ty b t found) in
        (calls_option P c ok b s h vs l value (types.in_ty b t found) (noted_none (has b name) valued at cause.Twice k).0 names, tt)
    calls_stmt P c ok b s h vs l (AssignStmt at name path value) found k names =
        let first : Found = noted_where (not (is_variable (entry_of b name))) found at cause.Unknown in
        let after : Found = bind.in_path c b path first in
        ((calls_path P c ok b s h vs l path first (before_expr c b value after k) names, calls_expr o ts free P c ok b s h vs l value after k (in_path ts s names path).0), tt)
    calls_stmt P c ok b s h vs l (CallStmt at name args) found k names =
        let count : ℕ = exprs.count_of args in
        let called : Found = call c false (entry_of b name) count at found in
        ((statement_call P c ok vs b s name h l count at found (before_exprs c b args called k), exprs_call P (in_exprs ts s names args).1 (calls_exprs o ts free P c ok b s h vs l args called k names)), tt)
    calls_stmt P c ok b s h vs l (ReturnStmt at value) found k names =
        (calls_option P c ok b s h vs l value (noted_where (differ (is_some value) c.has_result) found at cause.Arity) k names, tt)
    calls_stmt P c ok b s h vs l (AssertStmt at test) found k names = (calls_expr o ts free Nothing (contract c) (in_contract o Nothing c) b s h vs l test found k names, tt)
    calls_stmt P c ok b s h vs l (BreakStmt at) found k names = (tt, tt)
    calls_stmt P c ok b s h vs l (ContinueStmt at) found k names = (tt, tt)
    calls_stmt P c ok b s h vs l (SkipStmt at) found k names = (tt, tt)
    calls_stmt P c ok b s h vs l (FailStmt at) found k names = (tt, tt)
    calls_stmt P c ok b s h vs l (IfStmt at test first second) found k names =
        let tested : Found = exprs.in_expr c b test found in
        let between : Found = bind.in_stmts c b first tested in
        let one : between ≡ None = before_stmts c b second between k in
        let z : Variables = (in_expr ts s names test).0 in (
          (
            calls_expr o ts free P c ok b s h vs l test found (before_stmts c b first tested one) names,
            calls_stmts P c ok b s h vs l first tested one z,
            calls_stmts P c ok b s h vs l second between k (in_stmts ts s z first).0,
          ),
          tt,
        )
    calls_stmt P c ok b s h vs l (WhileStmt at test invariants body) found k names =
        let tested : Found = exprs.in_expr c b test found in
        let claused : Found = exprs.in_exprs (contract c) b (exprs_of invariants) tested in
        let one : claused ≡ None = before_stmts (looped c) b body claused k in
        let z : Variables = (in_expr ts s names test).0 in (
          (
            calls_expr o ts free P c ok b s h vs l test found (before_exprs (contract c) b (exprs_of invariants) tested one) names,
            calls_exprs o ts free Nothing (contract c) (in_contract o Nothing c) b s h vs l (exprs_of invariants) tested one z,
            calls_stmts P (looped c) (in_loop o P c ok) b s h vs l body claused k (in_clauses ts s z invariants).0,
          ),
          tt,
        )
    calls_stmt P c ok b s h vs l (DoStmt at body test invariants) found k names =
        let bodied : Found = bind.in_stmts (looped c) b body found in
        let tested : Found = exprs.in_expr c b test bodied in
        let one : tested ≡ None = before_exprs (contract c) b (exprs_of invariants) tested k in
        let two : bodied ≡ None = before_expr c b test bodied one in
        let x : Variables = named names (codes "first") in
        let z : Variables = (do_test ts s names test).0 in
        let y : Variables = (do_invariants ts s names test invariants).0 in (
          tt,
          (
            (
              (tt, calls_expr o ts free P c ok b s h vs l test bodied one x),
              each_first Nothing at (length names) (do_invariants ts s names test invariants).1 (calls_exprs o ts free Nothing (contract c) (in_contract o Nothing c) b s h vs l (exprs_of invariants) tested k z),
              ((tt, tt), calls_stmts P (looped c) (in_loop o P c ok) b s h vs l body found two y),
            ),
            tt,
          ),
        )
    calls_stmt P c ok b s h vs l (ForStmt at name from to invariants body) found k names =
        let started : Found = exprs.in_expr c b from found in
        let ended : Found = exprs.in_expr c b to started in
        let twice : Found = noted_where (has b name) ended at cause.Twice in
        let b2 : Scope = with_name b name just_a_name in
        let claused : Found = exprs.in_exprs (contract c) b2 (exprs_of invariants) twice in
        let one : claused ≡ None = before_stmts (looped c) b2 body claused k in
        let two : twice ≡ None = before_exprs (contract c) b2 (exprs_of invariants) twice one in
        let three : ended ≡ None = (noted_none (has b name) ended at cause.Twice two).0 in
        let four : started ≡ None = before_expr c b to started three in
        let y : Variables = (for_to ts s names from to).0 in
        let n : ℕ = length y in
        let x : Variables = with_span y name in
        let w : Variables = (for_invariants ts s names name from to invariants).0 in
        let own : CallsClauses Nothing (for_invariants ts s names name from to invariants).1 =
        calls_exprs o ts free Nothing (contract c) (in_contract o Nothing c) b2 (renamed s name (n + 2)) (erased_more b s name (n + 2) h) (spanned vs n)
        (leads_with o ts (spanned vs n) s name (entry.Variable (n + 2)) (leads_span o ts s vs n l) (inl refl)) (exprs_of invariants) twice one x
        in
        let inner : CallsBlock P (in_stmts ts (renamed s name (n + 3)) w body).1 =
        calls_stmts P (looped c) (in_loop o P c ok) b2 (renamed s name (n + 3)) (erased_more b s name (n + 3) h) ((n + 3) ∷ spanned vs n)
        (leads_with o ts ((n + 3) ∷ spanned vs n) s name (entry.Variable (n + 3)) (leads_made o ts s (spanned vs n) (n + 3) (leads_span o ts s vs n l)) (inl refl)) body claused k w
        in (
          calls_expr o ts free P c ok b s h vs l from found four names,
          (
            calls_expr o ts free P c ok b s h vs l to started three (for_from ts s names from).0,
            (
              tt,
              (
                (
                  (tt, tt),
                  both_clauses Nothing (bounds at (for_span ts s names from to)) (for_invariants ts s names name from to invariants).1 ((tt, tt), (((tt, tt), (tt, tt)), tt)) own,
                  (tt, ((tt, (tt, tt)), inner)),
                ),
                tt,
              ),
            ),
          ),
        )
    calls_stmt P c ok b s h vs l (SwitchStmt at value cs) found k names =
        let valued : Found = exprs.in_expr c b value found in
        let t : ℕ = switch_number ts s names value in
        let y : Variables = switch_variables ts s names value in (
          calls_expr o ts free P c ok b s h vs l value found (before_cases c b cs valued k) names,
          chain_calls P at (in_cases ts s y at t cs).1 [] (calls_cases P c ok b s h (t ∷ vs) (leads_made o ts s vs t l) at t cs valued k y) tt,
        )
    calls_stmt P c ok b s h vs l (SwitchElseStmt at value cs default) found k names =
        let valued : Found = exprs.in_expr c b value found in
        let cased : Found = bind.in_cases c b cs valued in
        let one : cased ≡ None = before_stmts c b default cased k in
        let t : ℕ = switch_number ts s names value in
        let y : Variables = switch_variables ts s names value in
        let x : Variables = (in_cases ts s y at t cs).0 in (
          calls_expr o ts free P c ok b s h vs l value found (before_cases c b cs valued one) names,
          chain_calls P at (in_cases ts s y at t cs).1 (in_stmts ts s x default).1 (calls_cases P c ok b s h (t ∷ vs) (leads_made o ts s vs t l) at t cs valued one y)
              (calls_stmts P c ok b s h (t ∷ vs) (leads_made o ts s vs t l) default cased k x),
        )

    pub calls_stmts : (P : ℕ → Type 0) (c : Context) → Permits o P c → (b s : Scope) → b ≡ erased s → (vs : formed.Scope) → Leads o ts vs s → (xs : Stmts) (found : Found) → bind.in_stmts c b xs found ≡ None
        → (names : Variables) → CallsBlock P (in_stmts ts s names xs).1
    calls_stmts P c ok b s h vs l NoStmts found k names = tt
    calls_stmts P c ok b s h vs l (MoreStmts x rest) found k names =
        let named_x : Found = bind.in_stmt c b x found in
        let z : Variables = (in_stmt ts s names x).0 in
        let ys : List (core.Stmt ℕ) = (in_stmt ts s names x).1 in
        both_blocks P ys (in_stmts ts (scope_behind ts s names x) z rest).1
        (calls_stmt P c ok b s h vs l x found (before_stmts c (bind.scope_behind b x) rest named_x k) names)
        (calls_stmts P c ok (bind.scope_behind b x) (scope_behind ts s names x) (erased_behind o ts b s h names x) (behind_all vs ys) (leads_behind o ts s vs l names x) rest named_x k z)

    calls_cases : (P : ℕ → Type 0) (c : Context) → Permits o P c → (b s : Scope) → b ≡ erased s → (vs : formed.Scope) → Leads o ts vs s → (at t : ℕ) (cs : Cases) (found : Found) → bind.in_cases c b cs found ≡ None
        → (names : Variables) → CallsArms P (in_cases ts s names at t cs).1
    calls_cases P c ok b s h vs l at t NoCases found k names = tt
    calls_cases P c ok b s h vs l at t (MoreCases labels body rest) found k names =
        let labelled : Found = exprs.in_exprs c b (exprs_of labels) found in
        let bodied : Found = bind.in_stmts c b body labelled in
        let one : bodied ≡ None = before_cases c b rest bodied k in
        let two : labelled ≡ None = before_stmts c b body labelled one in
        let z : Variables = (in_clauses ts s names labels).0 in
        let y : Variables = (in_stmts ts s z body).0 in (
          labels_call P at t true (core.BoolExpr at false) (in_clauses ts s names labels).1 tt (calls_exprs o ts free P c ok b s h vs l (exprs_of labels) found two names),
          calls_stmts P c ok b s h vs l body labelled one z,
          calls_cases P c ok b s h vs l at t rest bodied k y,
        )
