-- The statements of a program without a fault of names are bound.
use Rattle.std.proofs.Common.{◌≡◌, ◌∙◌, ◌<◌, ◌≤◌, inl, inr, ℕ, ◌+◌, Bool, true, false, not, List, [], ◌∷◌, length, Option, Some, None, is_some, refl, sym, ap, subst, arith, codes}
use Rattle.wy_ast.specs.SurfaceTree.{Expr, Exprs, NoExprs, MoreExprs}
use Rattle.wy_ast.specs.SurfaceTree.{Step, IndexStep, FieldStep, Stmt, Stmts, Cases, DeclareStmt, AssignStmt, CallStmt, ReturnStmt, AssertStmt, BreakStmt, ContinueStmt, SkipStmt, FailStmt, IfStmt, WhileStmt, DoStmt, ForStmt, SwitchStmt, SwitchElseStmt, NoStmts, MoreStmts, NoCases, MoreCases, exprs_of}
use Rattle.wy_core.specs.CoreTree as core
use Rattle.wy_lemmas.proofs.Choices.{not_false}
use Rattle.wy_names_scope.specs.declared.fault.Cause.TheVariants as cause
use Rattle.wy_names_scope.specs.declared.table.Entry.{Entry}
use Rattle.wy_names_scope.specs.declared.table.Entry.TheVariants as entry
use Rattle.wy_names_scope.specs.Faults.{Found, noted_where}
use Rattle.wy_names_scope.specs.Scope.{Scope, entry_of, has, with_name}
use Rattle.wy_names_recursion.specs.declared.context.Context.{Context}
use Rattle.wy_names_recursion.specs.Calls.{contract, looped, call, is_variable}
use Rattle.wy_names_recursion.specs.TypeNames as types
use Rattle.wy_names_recursion.specs.TypeNames.{just_a_name}
use Rattle.wy_names_recursion.specs.ExprNames as exprs
use Rattle.wy_names_recursion.specs.StmtNames as bind
use Rattle.wy_names_recursion.specs.StmtNames.{differ}
use Rattle.wy_names_lower.specs.Variables.{Variables, named, routine_of}
use Rattle.wy_names_lower.specs.Uses.{Template}
use Rattle.wy_names_lower.specs.ExprsLowered.{in_expr, in_exprs}
use Rattle.wy_names_lower.specs.StmtsLowered.{in_option, in_path, in_clauses, in_stmt, in_stmts, in_cases, scope_behind, do_test, do_invariants, for_from, for_to, for_invariants, renamed, with_span, switch_value, switch_variables}
use Rattle.wy_core.specs.formed.Offers.{Offers, IsCall}
use Rattle.wy_core.specs.formed.Bound as formed
use Rattle.wy_core.specs.formed.Bound.{Has, IsNew, Around, count_of, BoundExpr, BoundExprs, BoundClauses, BoundOption, BoundPath, BoundStmt}
use Rattle.wy_core.specs.formed.Moves.{Moves}
use Rattle.wy_core.proofs.formed_lemmas.MoveLemmas.{moved_expr}
use Rattle.wy_names.proofs.resolved_lemmas.NotedLemmas.{none_noted, noted_none}
use Rattle.wy_names.proofs.resolved_lemmas.BindLemmas.{of_routine, before_expr, before_exprs, before_option, before_path, before_stmts, before_cases}
use Rattle.wy_names.proofs.resolved_lemmas.ScopeLemmas.{erased, erased_option, seen_entry, erased_more, Leads, entry_leads, leads_kept, leads_with, leads_more, Below, below_later, below_more, is_new}
use Rattle.wy_names.proofs.resolved_lemmas.GrowLemmas.{through, length_named, length_span, grows_expr, grows_option, grows_path, grows_clauses, grows_stmt, grows_stmts, grows_cases}
use Rattle.wy_names.proofs.resolved_lemmas.TypeLemmas.{bound_ty}
use Rattle.wy_names.proofs.resolved_lemmas.ExprLemmas.{exprs_bound, count_exprs, is_call, variable_bound, bound_expr, bound_exprs}
use Rattle.wy_names.proofs.resolved_lemmas.BlockLemmas.{Block, behind_all, kept_all, below_all, both_blocks, repeated_bound, spanned, counted_bound, one_of_bound, Arms, switched_bound}

abbrev pub around : Context → Around
around c = record { in_loop = c.in_loop; has_result = c.has_result }

same_truth : (a b : Bool) → differ a b ≡ false → a ≡ b
same_truth true b h = sym (not_false b h)
same_truth false b h = sym h

module _ (o : Offers) (ts : List Template) where
  length_exprs : (s : Scope) (names : Variables) (es : Exprs) → length (in_exprs ts s names es).1 ≡ exprs.count_of es
  length_exprs s names NoExprs = refl
  length_exprs s names (MoreExprs e rest) = let same = length_exprs s (in_expr ts s names e).0 rest in omega (arith, same)

  some_option : (s : Scope) (names : Variables) (e : Option Expr) → is_some (in_option ts s names e).1 ≡ is_some e
  some_option s names None = refl
  some_option s names (Some e) = refl

  pub bound_option : (c : Context) (b s : Scope) → b ≡ erased s → (vs : formed.Scope) → Leads o ts vs s → (e : Option Expr) (found : Found) → bind.in_option c b e found ≡ None
      → (names : Variables) → Below vs (length names) → (m : ℕ) → length (in_option ts s names e).0 ≤ m → BoundOption o m vs (in_option ts s names e).1
  bound_option c b s h vs l None found k names low m le = tt
  bound_option c b s h vs l (Some e) found k names low m le = bound_expr o ts c b s h vs l e found k names low m le

  bound_path : (c : Context) (b s : Scope) → b ≡ erased s → (vs : formed.Scope) → Leads o ts vs s → (xs : List Step) (found : Found) → bind.in_path c b xs found ≡ None
      → (names : Variables) → Below vs (length names) → (m : ℕ) → length (in_path ts s names xs).0 ≤ m → BoundPath o m vs (in_path ts s names xs).1
  bound_path c b s h vs l [] found k names low m le = tt
  bound_path c b s h vs l (IndexStep at e ∷ xs) found k names low m le =
      let z : Variables = (in_expr ts s names e).0 in (
        bound_expr o ts c b s h vs l e found (before_path c b xs (exprs.in_expr c b e found) k) names low m (through (grows_path ts s z xs) le),
        bound_path c b s h vs l xs (exprs.in_expr c b e found) k z (below_later low (grows_expr ts s names e)) m le,
      )
  bound_path c b s h vs l (FieldStep at name ∷ xs) found k names low m le = bound_path c b s h vs l xs found k names low m le

  -- a call that is a statement
  statement_call : (vs : formed.Scope) (c : Context) (b s : Scope) (name : List ℕ) → b ≡ erased s → Leads o ts vs s → (count at : ℕ) (found : Found) → call c false (entry_of b name) count at found ≡ None
      → IsCall o false (routine_of (entry_of s name)) count
  statement_call vs c b s name h l count at found k =
      by (entry_of s name) refl (ap (λ (e : Option Entry). call c false e count at found) (sym (seen_entry b s name h)) ∙ k)
    where
      by : (e : Option Entry) → entry_of s name ≡ e → call c false (erased_option e) count at found ≡ None → IsCall o false (routine_of e) count
      by None there j = absurd (none_noted found at cause.Unknown j)
      by (Some (entry.Type n decl)) there j = absurd (none_noted found at cause.Unknown j)
      by (Some (entry.Routine r)) there j = is_call o c false r count (of_routine c false r count at found j).1 (entry_leads o ts vs s name (entry.Routine r) l there)
      by (Some (entry.Property decl arity)) there j = absurd (none_noted found at cause.Unknown j)
      by (Some (entry.Variable n)) there j = absurd (none_noted found at cause.Unknown j)

  -- what is in scope behind a statement
  pub leads_behind : (s : Scope) (vs : formed.Scope) → Leads o ts vs s → (names : Variables) (x : Stmt) → Leads o ts (behind_all vs (in_stmt ts s names x).1) (scope_behind ts s names x)
  leads_behind s vs l names (DeclareStmt at t name value) = leads_more o ts vs s name (length (in_option ts s names value).0) l
  leads_behind s vs l names (AssignStmt at name path value) = l
  leads_behind s vs l names (CallStmt at name args) = l
  leads_behind s vs l names (ReturnStmt at value) = l
  leads_behind s vs l names (AssertStmt at test) = l
  leads_behind s vs l names (BreakStmt at) = l
  leads_behind s vs l names (ContinueStmt at) = l
  leads_behind s vs l names (SkipStmt at) = l
  leads_behind s vs l names (FailStmt at) = l
  leads_behind s vs l names (IfStmt at test first second) = l
  leads_behind s vs l names (WhileStmt at test invariants body) = l
  leads_behind s vs l names (DoStmt at body test invariants) =
      let xs = (in_stmt ts s names (DoStmt at body test invariants)).1 in leads_kept o ts vs (behind_all vs xs) (kept_all vs xs) s l
  leads_behind s vs l names (ForStmt at name from to invariants body) =
      let xs = (in_stmt ts s names (ForStmt at name from to invariants body)).1 in leads_kept o ts vs (behind_all vs xs) (kept_all vs xs) s l
  leads_behind s vs l names (SwitchStmt at value cs) =
      let xs = (in_stmt ts s names (SwitchStmt at value cs)).1 in leads_kept o ts vs (behind_all vs xs) (kept_all vs xs) s l
  leads_behind s vs l names (SwitchElseStmt at value cs default) =
      let xs = (in_stmt ts s names (SwitchElseStmt at value cs default)).1 in leads_kept o ts vs (behind_all vs xs) (kept_all vs xs) s l

  pub erased_behind : (b s : Scope) → b ≡ erased s → (names : Variables) (x : Stmt) → bind.scope_behind b x ≡ erased (scope_behind ts s names x)
  erased_behind b s h names (DeclareStmt at t name value) = erased_more b s name (length (in_option ts s names value).0) h
  erased_behind b s h names (AssignStmt at name path value) = h
  erased_behind b s h names (CallStmt at name args) = h
  erased_behind b s h names (ReturnStmt at value) = h
  erased_behind b s h names (AssertStmt at test) = h
  erased_behind b s h names (BreakStmt at) = h
  erased_behind b s h names (ContinueStmt at) = h
  erased_behind b s h names (SkipStmt at) = h
  erased_behind b s h names (FailStmt at) = h
  erased_behind b s h names (IfStmt at test first second) = h
  erased_behind b s h names (WhileStmt at test invariants body) = h
  erased_behind b s h names (DoStmt at body test invariants) = h
  erased_behind b s h names (ForStmt at name from to invariants body) = h
  erased_behind b s h names (SwitchStmt at value cs) = h
  erased_behind b s h names (SwitchElseStmt at value cs default) = h

  -- the scope of what follows a made variable, which the source doesn't name
  pub leads_made : (s : Scope) (vs : formed.Scope) (n : ℕ) → Leads o ts vs s → Leads o ts (n ∷ vs) s
  leads_made s vs n l = leads_kept o ts vs (n ∷ vs) (λ (v : ℕ) (k : Has vs v). inr k) s l

  -- a `for`, its name standing for the variable that counts, and then for its own
  pub leads_span : (s : Scope) (vs : formed.Scope) (n : ℕ) → Leads o ts vs s → Leads o ts (spanned vs n) s
  leads_span s vs n l = leads_made s ((n + 1) ∷ n ∷ vs) (n + 2) (leads_made s (n ∷ vs) (n + 1) (leads_made s vs n l))

  below_span : (vs : formed.Scope) (n m : ℕ) → Below vs n → n + 3 ≤ m → Below (spanned vs n) m
  below_span vs n m low le =
      let first : Below (n ∷ vs) (n + 1) = below_more n low (omega arith) (omega arith) in
      let second : Below ((n + 1) ∷ n ∷ vs) (n + 2) = below_more (n + 1) first (omega arith) (omega arith) in
      below_more (n + 2) second (omega (arith, le)) (omega (arith, le))

  -- the number where a `for` begins is new
  one_more : (n m : ℕ) (vs : formed.Scope) → n ≤ m → Moves n m vs (n ∷ vs)
  one_more n m vs le = record { within = le; all = λ (v : ℕ) (h : Has vs v). inr h; none = none }
    where
      none : (w : ℕ) → Has (n ∷ vs) w → w < n → Has vs w
      none w (inl e) less = absurd (omega (arith, e, less))
      none w (inr h) less = h

  mutual
    pub bound_stmt : (c : Context) (b s : Scope) → b ≡ erased s → (vs : formed.Scope) → Leads o ts vs s → (x : Stmt) (found : Found) → bind.in_stmt c b x found ≡ None
        → (names : Variables) → Below vs (length names) → (m : ℕ) → length (in_stmt ts s names x).0 ≤ m → Block o m (around c) vs (in_stmt ts s names x).1
    bound_stmt c b s h vs l (DeclareStmt at t name value) found k names low m le =
        let valued : Found = bind.in_option c b value (types.in_ty b t found) in
        let ok : valued ≡ None = (noted_none (has b name) valued at cause.Twice k).0 in
        let behind : Variables = (in_option ts s names value).0 in
        let one = length_named behind name in
        let grown : length names ≤ length behind = grows_option ts s names value in (
          (
            bound_ty o ts vs b s h l t found (before_option c b value (types.in_ty b t found) ok),
            bound_option c b s h vs l value (types.in_ty b t found) ok names low m (omega (arith, one, le)),
            is_new m (below_later low grown) (omega (arith, one, le)),
          ),
          tt,
        )
    bound_stmt c b s h vs l (AssignStmt at name path value) found k names low m le =
        let first : Found = noted_where (not (is_variable (entry_of b name))) found at cause.Unknown in
        let after : Found = bind.in_path c b path first in
        let pathed : after ≡ None = before_expr c b value after k in
        let z : Variables = (in_path ts s names path).0 in (
          (
            variable_bound o ts vs b s name h l (not_false (is_variable (entry_of b name)) (noted_none (not (is_variable (entry_of b name))) found at cause.Unknown (before_path c b path first pathed)).1),
            bound_path c b s h vs l path first pathed names low m (through (grows_expr ts s z value) le),
            bound_expr o ts c b s h vs l value after k z (below_later low (grows_path ts s names path)) m le,
          ),
          tt,
        )
    bound_stmt c b s h vs l (CallStmt at name args) found k names low m le =
        let count : ℕ = exprs.count_of args in
        let called : Found = call c false (entry_of b name) count at found in
        let xs : List (core.Expr ℕ) = (in_exprs ts s names args).1 in
        let one = statement_call vs c b s name h l count at found (before_exprs c b args called k) in (
          (
            subst (λ (z : ℕ). IsCall o false (routine_of (entry_of s name)) z) (sym (count_exprs xs ∙ length_exprs s names args)) one,
            exprs_bound o m vs xs (bound_exprs o ts c b s h vs l args called k names low m le),
          ),
          tt,
        )
    bound_stmt c b s h vs l (ReturnStmt at value) found k names low m le =
        let first : Found = noted_where (differ (is_some value) c.has_result) found at cause.Arity in (
          (
            some_option s names value ∙ same_truth (is_some value) c.has_result (noted_none (differ (is_some value) c.has_result) found at cause.Arity (before_option c b value first k)).1,
            bound_option c b s h vs l value first k names low m le,
          ),
          tt,
        )
    bound_stmt c b s h vs l (AssertStmt at test) found k names low m le = (bound_expr o ts (contract c) b s h vs l test found k names low m le, tt)
    bound_stmt c b s h vs l (BreakStmt at) found k names low m le = (not_false c.in_loop (noted_none (not c.in_loop) found at cause.OutsideLoop k).1, tt)
    bound_stmt c b s h vs l (ContinueStmt at) found k names low m le = (not_false c.in_loop (noted_none (not c.in_loop) found at cause.OutsideLoop k).1, tt)
    bound_stmt c b s h vs l (SkipStmt at) found k names low m le = (tt, tt)
    bound_stmt c b s h vs l (FailStmt at) found k names low m le = (tt, tt)
    bound_stmt c b s h vs l (IfStmt at test first second) found k names low m le =
        let tested : Found = exprs.in_expr c b test found in
        let between : Found = bind.in_stmts c b first tested in
        let one : between ≡ None = before_stmts c b second between k in
        let z : Variables = (in_expr ts s names test).0 in
        let y : Variables = (in_stmts ts s z first).0 in
        let to_z : length names ≤ length z = grows_expr ts s names test in
        let to_y : length z ≤ length y = grows_stmts ts s z first in
        let to_m : length y ≤ m = through (grows_stmts ts s y second) le in (
          (
            bound_expr o ts c b s h vs l test found (before_stmts c b first tested one) names low m (through to_y to_m),
            bound_stmts c b s h vs l first tested one z (below_later low to_z) m to_m,
            bound_stmts c b s h vs l second between k y (below_later low (through to_z to_y)) m le,
          ),
          tt,
        )
    bound_stmt c b s h vs l (WhileStmt at test invariants body) found k names low m le =
        let tested : Found = exprs.in_expr c b test found in
        let claused : Found = exprs.in_exprs (contract c) b (exprs_of invariants) tested in
        let one : claused ≡ None = before_stmts (looped c) b body claused k in
        let z : Variables = (in_expr ts s names test).0 in
        let y : Variables = (in_clauses ts s z invariants).0 in
        let to_z : length names ≤ length z = grows_expr ts s names test in
        let to_y : length z ≤ length y = grows_clauses ts s z invariants in
        let to_m : length y ≤ m = through (grows_stmts ts s y body) le in (
          (
            bound_expr o ts c b s h vs l test found (before_exprs (contract c) b (exprs_of invariants) tested one) names low m (through to_y to_m),
            bound_exprs o ts (contract c) b s h vs l (exprs_of invariants) tested one z (below_later low to_z) m to_m,
            bound_stmts (looped c) b s h vs l body claused k y (below_later low (through to_z to_y)) m le,
          ),
          tt,
        )
    bound_stmt c b s h vs l (DoStmt at body test invariants) found k names low m le =
        let bodied : Found = bind.in_stmts (looped c) b body found in
        let tested : Found = exprs.in_expr c b test bodied in
        let one : tested ≡ None = before_exprs (contract c) b (exprs_of invariants) tested k in
        let two : bodied ≡ None = before_expr c b test bodied one in
        let first : ℕ = length names in
        let x : Variables = named names (codes "first") in
        let z : Variables = (do_test ts s names test).0 in
        let y : Variables = (do_invariants ts s names test invariants).0 in
        let grown = length_named names (codes "first") in
        let to_z : length x ≤ length z = grows_expr ts s x test in
        let to_y : length z ≤ length y = grows_clauses ts s z invariants in
        let to_m : length y ≤ m = through (grows_stmts ts s y body) le in
        let inner : Below (first ∷ vs) (length x) = below_more first low (omega (arith, grown)) (omega (arith, grown)) in
        let lead : Leads o ts (first ∷ vs) s = leads_made s vs first l in
        repeated_bound o m (around c) vs at first (do_test ts s names test).1 (do_invariants ts s names test invariants).1 (in_stmts ts s y body).1
        (is_new m low (omega (arith, grown, to_z, to_y, to_m)))
        (bound_expr o ts c b s h (first ∷ vs) lead test bodied one x inner m (through to_y to_m))
        (bound_exprs o ts (contract c) b s h (first ∷ vs) lead (exprs_of invariants) tested k z (below_later inner to_z) m to_m)
        (bound_stmts (looped c) b s h (first ∷ vs) lead body found two y (below_later inner (through to_z to_y)) m le)
    bound_stmt c b s h vs l (ForStmt at name from to invariants body) found k names low m le =
        let started : Found = exprs.in_expr c b from found in
        let ended : Found = exprs.in_expr c b to started in
        let twice : Found = noted_where (has b name) ended at cause.Twice in
        let b2 : Scope = with_name b name just_a_name in
        let claused : Found = exprs.in_exprs (contract c) b2 (exprs_of invariants) twice in
        let one : claused ≡ None = before_stmts (looped c) b2 body claused k in
        let two : twice ≡ None = before_exprs (contract c) b2 (exprs_of invariants) twice one in
        let three : ended ≡ None = (noted_none (has b name) ended at cause.Twice two).0 in
        let four : started ≡ None = before_expr c b to started three in
        let z : Variables = (for_from ts s names from).0 in
        let y : Variables = (for_to ts s names from to).0 in
        let n : ℕ = length y in
        let x : Variables = with_span y name in
        let w : Variables = (for_invariants ts s names name from to invariants).0 in
        let grown = length_span ts y name in
        let to_z : length names ≤ length z = grows_expr ts s names from in
        let to_y : length z ≤ n = grows_expr ts s z to in
        let to_w : length x ≤ length w = grows_clauses ts (renamed s name (n + 2)) x invariants in
        let to_m : length w ≤ m = through (grows_stmts ts (renamed s name (n + 3)) w body) le in
        let low_y : Below vs n = below_later low (through to_z to_y) in
        let from_b : BoundExpr o m vs (for_from ts s names from).1 = bound_expr o ts c b s h vs l from found four names low m (omega (arith, to_y, grown, to_w, to_m)) in
        let to_b : BoundExpr o n vs (for_to ts s names from to).1 = bound_expr o ts c b s h vs l to started three z (below_later low to_z) n (omega arith) in
        counted_bound o m (around c) vs at n (for_from ts s names from).1 (for_to ts s names from to).1 (for_invariants ts s names name from to invariants).1 (in_stmts ts (renamed s name (n + 3)) w body).1
        low_y (omega (arith, grown, to_w, to_m)) from_b
        (moved_expr o (one_more n m vs (omega (arith, grown, to_w, to_m))) (for_to ts s names from to).1 to_b)
        (bound_exprs o ts (contract c) b2 (renamed s name (n + 2)) (erased_more b s name (n + 2) h) (spanned vs n)
        (leads_with o ts (spanned vs n) s name (entry.Variable (n + 2)) (leads_span s vs n l) (inl refl)) (exprs_of invariants) twice one x (below_span vs n (length x) low_y (omega (arith, grown))) m to_m)
        (bound_stmts (looped c) b2 (renamed s name (n + 3)) (erased_more b s name (n + 3) h) ((n + 3) ∷ spanned vs n)
        (leads_with o ts ((n + 3) ∷ spanned vs n) s name (entry.Variable (n + 3)) (leads_made s (spanned vs n) (n + 3) (leads_span s vs n l)) (inl refl)) body claused k w
        (below_more (n + 3) (below_span vs n (n + 3) low_y (omega arith)) (omega (arith, grown, to_w)) (omega (arith, grown, to_w))) m le)
    bound_stmt c b s h vs l (SwitchStmt at value cs) found k names low m le =
        let valued : Found = exprs.in_expr c b value found in
        let z : Variables = (switch_value ts s names value).0 in
        let t : ℕ = length z in
        let y : Variables = switch_variables ts s names value in
        let grown = length_named z (codes "t") in
        let to_z : length names ≤ t = grows_expr ts s names value in
        let to_m : length y ≤ m = through (grows_cases ts s y at t cs) le in
        let low_z : Below vs t = below_later low to_z in
        switched_bound o m (around c) vs at t (switch_value ts s names value).1 (in_cases ts s y at t cs).1 [] (is_new m low_z (omega (arith, grown, to_m)))
        (bound_expr o ts c b s h vs l value found (before_cases c b cs valued k) names low m (omega (arith, grown, to_m)))
        (bound_cases c b s h (t ∷ vs) (leads_made s vs t l) at t (inl refl) cs valued k y (below_more t low_z (omega (arith, grown)) (omega (arith, grown))) m le) tt
    bound_stmt c b s h vs l (SwitchElseStmt at value cs default) found k names low m le =
        let valued : Found = exprs.in_expr c b value found in
        let cased : Found = bind.in_cases c b cs valued in
        let one : cased ≡ None = before_stmts c b default cased k in
        let z : Variables = (switch_value ts s names value).0 in
        let t : ℕ = length z in
        let y : Variables = switch_variables ts s names value in
        let x : Variables = (in_cases ts s y at t cs).0 in
        let grown = length_named z (codes "t") in
        let to_z : length names ≤ t = grows_expr ts s names value in
        let to_x : length y ≤ length x = grows_cases ts s y at t cs in
        let to_m : length x ≤ m = through (grows_stmts ts s x default) le in
        let low_z : Below vs t = below_later low to_z in
        let low_y : Below (t ∷ vs) (length y) = below_more t low_z (omega (arith, grown)) (omega (arith, grown)) in
        switched_bound o m (around c) vs at t (switch_value ts s names value).1 (in_cases ts s y at t cs).1 (in_stmts ts s x default).1 (is_new m low_z (omega (arith, grown, to_x, to_m)))
        (bound_expr o ts c b s h vs l value found (before_cases c b cs valued one) names low m (omega (arith, grown, to_x, to_m)))
        (bound_cases c b s h (t ∷ vs) (leads_made s vs t l) at t (inl refl) cs valued one y low_y m to_m)
        (bound_stmts c b s h (t ∷ vs) (leads_made s vs t l) default cased k x (below_later low_y to_x) m le)

    pub bound_stmts : (c : Context) (b s : Scope) → b ≡ erased s → (vs : formed.Scope) → Leads o ts vs s → (xs : Stmts) (found : Found) → bind.in_stmts c b xs found ≡ None
        → (names : Variables) → Below vs (length names) → (m : ℕ) → length (in_stmts ts s names xs).0 ≤ m → Block o m (around c) vs (in_stmts ts s names xs).1
    bound_stmts c b s h vs l NoStmts found k names low m le = tt
    bound_stmts c b s h vs l (MoreStmts x rest) found k names low m le =
        let named_x : Found = bind.in_stmt c b x found in
        let one : named_x ≡ None = before_stmts c (bind.scope_behind b x) rest named_x k in
        let z : Variables = (in_stmt ts s names x).0 in
        let ys : List (core.Stmt ℕ) = (in_stmt ts s names x).1 in
        let grown : length names ≤ length z = grows_stmt ts s names x in
        let own : Block o (length z) (around c) vs ys = bound_stmt c b s h vs l x found one names low (length z) (omega arith) in
        both_blocks o m (around c) vs ys (in_stmts ts (scope_behind ts s names x) z rest).1
        (bound_stmt c b s h vs l x found one names low m (through (grows_stmts ts (scope_behind ts s names x) z rest) le))
        (bound_stmts c (bind.scope_behind b x) (scope_behind ts s names x) (erased_behind b s h names x) (behind_all vs ys) (leads_behind s vs l names x) rest named_x k z
        (below_all o (length z) (around c) vs ys (below_later low grown) own) m le)

    bound_cases : (c : Context) (b s : Scope) → b ≡ erased s → (vs : formed.Scope) → Leads o ts vs s → (at t : ℕ) → Has vs t → (cs : Cases) (found : Found) → bind.in_cases c b cs found ≡ None
        → (names : Variables) → Below vs (length names) → (m : ℕ) → length (in_cases ts s names at t cs).0 ≤ m → Arms o m (around c) vs (in_cases ts s names at t cs).1
    bound_cases c b s h vs l at t there NoCases found k names low m le = tt
    bound_cases c b s h vs l at t there (MoreCases labels body rest) found k names low m le =
        let labelled : Found = exprs.in_exprs c b (exprs_of labels) found in
        let bodied : Found = bind.in_stmts c b body labelled in
        let one : bodied ≡ None = before_cases c b rest bodied k in
        let two : labelled ≡ None = before_stmts c b body labelled one in
        let z : Variables = (in_clauses ts s names labels).0 in
        let y : Variables = (in_stmts ts s z body).0 in
        let to_z : length names ≤ length z = grows_clauses ts s names labels in
        let to_y : length z ≤ length y = grows_stmts ts s z body in
        let to_m : length y ≤ m = through (grows_cases ts s y at t rest) le in (
          one_of_bound o m vs at t there (in_clauses ts s names labels).1 (bound_exprs o ts c b s h vs l (exprs_of labels) found two names low m (through to_y to_m)),
          bound_stmts c b s h vs l body labelled one z (below_later low to_z) m to_m,
          bound_cases c b s h vs l at t there rest bodied k y (below_later low (through to_z to_y)) m le,
        )
