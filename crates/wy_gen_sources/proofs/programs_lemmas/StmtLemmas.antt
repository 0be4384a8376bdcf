-- Variables of quantifiers and declared ones in the statements of a program without a fault of names.
use Rattle.std.proofs.Common.{◌⊎◌, suc, ◌≡◌, ◌<◌, ◌≤◌, inl, inr, ℕ, ◌+◌, Bool, true, false, not, List, [], ◌∷◌, length, Option, Some, None, is_some, arith, codes}
use Rattle.wy_ast.specs.SurfaceTree.{Expr, Exprs}
use Rattle.wy_ast.specs.SurfaceTree.{Step, IndexStep, FieldStep, Stmt, Stmts, Cases, DeclareStmt, AssignStmt, CallStmt, ReturnStmt, AssertStmt, BreakStmt, ContinueStmt, SkipStmt, FailStmt, IfStmt, WhileStmt, DoStmt, ForStmt, SwitchStmt, SwitchElseStmt, NoStmts, MoreStmts, NoCases, MoreCases, exprs_of}
use Rattle.wy_core.specs.CoreTree as core
use Rattle.wy_lemmas.proofs.Choices.{either}
use Rattle.wy_names_scope.specs.declared.fault.Cause.TheVariants as cause
use Rattle.wy_names_scope.specs.declared.table.Entry.TheVariants as entry
use Rattle.wy_names_scope.specs.Faults.{Found, noted_where}
use Rattle.wy_names_scope.specs.Scope.{Scope, entry_of, has, with_name}
use Rattle.wy_names_recursion.specs.declared.context.Context.{Context}
use Rattle.wy_names_recursion.specs.Calls.{contract, looped, call, is_variable}
use Rattle.wy_names_recursion.specs.TypeNames as types
use Rattle.wy_names_recursion.specs.TypeNames.{just_a_name}
use Rattle.wy_names_recursion.specs.ExprNames as exprs
use Rattle.wy_names_recursion.specs.StmtNames as bind
use Rattle.wy_names_recursion.specs.StmtNames.{differ}
use Rattle.wy_names.specs.wy_names_lower.Variables.{Variables, named, routine_of, variable_of}
use Rattle.wy_names.specs.wy_names_lower.TypesLowered.{in_ty}
use Rattle.wy_names.specs.wy_names_lower.Uses.{Template}
use Rattle.wy_names.specs.wy_names_lower.ExprsLowered.{in_expr, in_exprs}
use Rattle.wy_names.specs.wy_names_lower.StmtsLowered.{in_option, in_path, in_clauses, in_stmt, in_stmts, in_cases, scope_behind, do_test, do_invariants, for_from, for_to, for_invariants, renamed, with_span, switch_value, switch_variables}
use Rattle.wy_core.specs.formed.Offers.{Offers}
use Rattle.wy_core.specs.formed.Bound.{Has}
use Rattle.wy_names.proofs.resolved_lemmas.NotedLemmas.{noted_none}
use Rattle.wy_names.proofs.resolved_lemmas.BindLemmas.{before_expr, before_exprs, before_path, before_stmts, before_cases}
use Rattle.wy_names.proofs.resolved_lemmas.ScopeLemmas.{erased, erased_more, Leads, leads_kept, leads_with, leads_more, Below}
use Rattle.wy_names.proofs.resolved_lemmas.GrowLemmas.{through, length_named, length_span, grows_expr, grows_option, grows_path, grows_clauses, grows_stmt, grows_stmts, grows_cases}
use Rattle.wy_names.proofs.resolved_lemmas.ExprLemmas.{bound_expr, bound_exprs}
use Rattle.wy_names.proofs.resolved_lemmas.StmtLemmas.{erased_behind}
use Rattle.wy_core.specs.CoreTree.{exprs_of as core_exprs, stmts_of}
use Rattle.wy_names.specs.wy_names_lower.StmtsLowered.{Arm, switch_number, is_one_of, or_labels, chain, span}
use Rattle.wy_names.specs.wy_names_lower.StmtsLowered as lower
use Rattle.wy_names.proofs.resolved_lemmas.ScopeLemmas.{below, has_below, below_has}
use Rattle.wy_gen_sources.specs.code.Dead.{Counts, CountsAll, CountsOption, CountsPath, CountsStmt, CountsStmts, Declares, DeclaresIn}
use Rattle.wy_gen_sources.proofs.programs_lemmas.ApartLemmas.{Apart, apart_none, apart_less, apart_wide, apart_both, apart_one, expr_apart, clauses_apart, BlockApart, blocks_apart}

module _ (o : Offers) (ts : List Template) where
  -- all numbers below are in scope
  abbrev pub Lead : ℕ → Scope → Type 0
  Lead k s = Leads o ts (below k) s

  abbrev Never : ℕ → Type 0
  Never x = ⊥

  pub lead_later : (a b : ℕ) (s : Scope) → a ≤ b → Lead a s → Lead b s
  lead_later a b s le l = leads_kept o ts (below a) (below b) (λ (v : ℕ) (h : Has (below a) v). has_below b v (let z = below_has a v h in omega (arith, z, le))) s l

  own_below : (k : ℕ) → Below (below k) k
  own_below k = record { less = below_has k }

  -- an expression, or none, and then what follows
  pub apart_then : (lo mid hi : ℕ) (A C D : ℕ → Type 0) → lo ≤ mid → mid ≤ hi → Apart lo mid A Never → Apart mid hi C D → Apart lo hi (λ x. A x ⊎ C x) D
  apart_then lo mid hi A C D low high p q = apart_less lo hi (λ x. A x ⊎ C x) (λ x. Never x ⊎ D x) (λ x. A x ⊎ C x) D (λ x h. h) (λ x h. inr h) (apart_both lo mid hi A Never C D low high p q)

  -- declared variables, and then what follows
  apart_behind : (lo mid hi : ℕ) (B C D : ℕ → Type 0) → lo ≤ mid → mid ≤ hi → Apart lo mid Never B → Apart mid hi C D → Apart lo hi C (λ x. B x ⊎ D x)
  apart_behind lo mid hi B C D low high p q = apart_less lo hi (λ x. Never x ⊎ C x) (λ x. B x ⊎ D x) C (λ x. B x ⊎ D x) (λ x h. inr h) (λ x h. h) (apart_both lo mid hi Never B C D low high p q)

  value_apart : (c : Context) (b s : Scope) → b ≡ erased s → (e : Expr) (found : Found) → exprs.in_expr c b e found ≡ None → (names : Variables) → Lead (length names) s → Apart (length names) (length (in_expr ts s names e).0) (Counts (in_expr ts s names e).1) Never
  value_apart c b s h e found k names l =
      expr_apart o (length (in_expr ts s names e).0) (length names) (in_expr ts s names e).1 (below (length names)) (has_below (length names))
      (bound_expr o ts c b s h (below (length names)) l e found k names (own_below (length names)) (length (in_expr ts s names e).0) (omega arith))

  values_apart : (c : Context) (b s : Scope) → b ≡ erased s → (es : Exprs) (found : Found) → exprs.in_exprs c b es found ≡ None → (names : Variables) → Lead (length names) s → Apart (length names) (length (in_exprs ts s names es).0) (CountsAll (core_exprs (in_exprs ts s names es).1)) Never
  values_apart c b s h es found k names l =
      clauses_apart o (length (in_exprs ts s names es).0) (length names) (in_exprs ts s names es).1 (below (length names)) (has_below (length names))
      (bound_exprs o ts c b s h (below (length names)) l es found k names (own_below (length names)) (length (in_exprs ts s names es).0) (omega arith))

  option_apart : (c : Context) (b s : Scope) → b ≡ erased s → (e : Option Expr) (found : Found) → bind.in_option c b e found ≡ None → (names : Variables) → Lead (length names) s → Apart (length names) (length (in_option ts s names e).0) (CountsOption (in_option ts s names e).1) Never
  option_apart c b s h None found k names l = apart_none (length names) (length names)
  option_apart c b s h (Some e) found k names l = value_apart c b s h e found k names l

  path_apart : (c : Context) (b s : Scope) → b ≡ erased s → (xs : List Step) (found : Found) → bind.in_path c b xs found ≡ None → (names : Variables) → Lead (length names) s → Apart (length names) (length (in_path ts s names xs).0) (CountsPath (in_path ts s names xs).1) Never
  path_apart c b s h [] found k names l = apart_none (length names) (length names)
  path_apart c b s h (IndexStep at e ∷ xs) found k names l =
      let z : Variables = (in_expr ts s names e).0 in
      let to_z : length names ≤ length z = grows_expr ts s names e in
      apart_then (length names) (length z) (length (in_path ts s z xs).0) (Counts (in_expr ts s names e).1) (CountsPath (in_path ts s z xs).1) Never to_z (grows_path ts s z xs)
      (value_apart c b s h e found (before_path c b xs (exprs.in_expr c b e found) k) names l)
      (path_apart c b s h xs (exprs.in_expr c b e found) k z (lead_later (length names) (length z) s to_z l))
  path_apart c b s h (FieldStep at name ∷ xs) found k names l = path_apart c b s h xs found k names l

  -- a block of one statement
  alone_apart : (lo hi : ℕ) (x : core.Stmt ℕ) → Apart lo hi (CountsStmt x) (Declares x) → BlockApart lo hi (x ∷ [])
  alone_apart lo hi x p = apart_less lo hi (CountsStmt x) (Declares x) (CountsStmts (stmts_of (x ∷ []))) (DeclaresIn (stmts_of (x ∷ []))) (λ y h. either (λ k. k) (λ k. absurd k) h) (λ y h. either (λ k. k) (λ k. absurd k) h) p

  nothing_apart : (lo hi : ℕ) (x : core.Stmt ℕ) → ((y : ℕ) → CountsStmt x y → ⊥) → ((y : ℕ) → Declares x y → ⊥) → BlockApart lo hi (x ∷ [])
  nothing_apart lo hi x f g = alone_apart lo hi x (apart_less lo hi Never Never (CountsStmt x) (Declares x) f g (apart_none lo hi))

  -- ---- made statements

  -- the four variables of a `for`
  abbrev Four : ℕ → ℕ → Type 0
  Four n x = (n ≤ x) × (x < n + 4)

  four_apart : (n : ℕ) → Apart n (n + 4) Never (Four n)
  four_apart n = record { counted = (λ x h. absurd h); declared = (λ x h. h); own = (λ x h k. h) }

  for_counts : (at n : ℕ) (from to : core.Expr ℕ) (own : List (core.Expr ℕ)) (body : List (core.Stmt ℕ)) (x : ℕ) → CountsStmts (stmts_of (lower.counted at (record { lo = n; hi = n + 1; t = n + 2; i = n + 3 }) from to own body)) x
      → Counts from x ⊎ (Counts to x ⊎ CountsStmts (stmts_of body) x)
  for_counts at n from to own body x (inl k) = inl k
  for_counts at n from to own body x (inr (inl k)) = inr (inl k)
  for_counts at n from to own body x (inr (inr (inl k))) = absurd k
  for_counts at n from to own body x (inr (inr (inr (inl (inl k))))) = either (λ z. absurd z) (λ z. absurd z) k
  for_counts at n from to own body x (inr (inr (inr (inl (inr (inl k)))))) = absurd k
  for_counts at n from to own body x (inr (inr (inr (inl (inr (inr (inl k))))))) = either (λ z. absurd z) (λ z. either (λ w. absurd w) (λ w. absurd w) z) k
  for_counts at n from to own body x (inr (inr (inr (inl (inr (inr (inr k))))))) = inr (inr k)
  for_counts at n from to own body x (inr (inr (inr (inr k)))) = absurd k

  for_declares : (at n : ℕ) (from to : core.Expr ℕ) (own : List (core.Expr ℕ)) (body : List (core.Stmt ℕ)) (x : ℕ) → DeclaresIn (stmts_of (lower.counted at (record { lo = n; hi = n + 1; t = n + 2; i = n + 3 }) from to own body)) x
      → Four n x ⊎ DeclaresIn (stmts_of body) x
  for_declares at n from to own body x (inl k) = inl (omega (arith, k), omega (arith, k))
  for_declares at n from to own body x (inr (inl k)) = inl (omega (arith, k), omega (arith, k))
  for_declares at n from to own body x (inr (inr (inl k))) = inl (omega (arith, k), omega (arith, k))
  for_declares at n from to own body x (inr (inr (inr (inl (inl k))))) = inl (omega (arith, k), omega (arith, k))
  for_declares at n from to own body x (inr (inr (inr (inl (inr (inl k)))))) = absurd k
  for_declares at n from to own body x (inr (inr (inr (inl (inr (inr k)))))) = inr k
  for_declares at n from to own body x (inr (inr (inr (inr k)))) = absurd k

  do_counts : (at first : ℕ) (test : core.Expr ℕ) (own : List (core.Expr ℕ)) (body : List (core.Stmt ℕ)) (x : ℕ) → CountsStmts (stmts_of (lower.repeated at first test own body)) x → Counts test x ⊎ CountsStmts (stmts_of body) x
  do_counts at first test own body x (inl k) = absurd k
  do_counts at first test own body x (inr (inl (inl k))) = either (λ z. absurd z) (λ z. inl z) k
  do_counts at first test own body x (inr (inl (inr (inl k)))) = either (λ z. absurd z) (λ z. absurd z) k
  do_counts at first test own body x (inr (inl (inr (inr k)))) = inr k
  do_counts at first test own body x (inr (inr k)) = absurd k

  do_declares : (at first : ℕ) (test : core.Expr ℕ) (own : List (core.Expr ℕ)) (body : List (core.Stmt ℕ)) (x : ℕ) → DeclaresIn (stmts_of (lower.repeated at first test own body)) x → (x ≡ first) ⊎ DeclaresIn (stmts_of body) x
  do_declares at first test own body x (inl k) = inl k
  do_declares at first test own body x (inr (inl (inl k))) = absurd k
  do_declares at first test own body x (inr (inl (inr k))) = inr k
  do_declares at first test own body x (inr (inr k)) = absurd k

  -- the cases of a `switch`
  abbrev CountsArms : List Arm → ℕ → Type 0
  CountsArms [] x = ⊥
  CountsArms (a ∷ rest) x = Counts a.test x ⊎ (CountsStmts (stmts_of a.body) x ⊎ CountsArms rest x)

  abbrev DeclaresArms : List Arm → ℕ → Type 0
  DeclaresArms [] x = ⊥
  DeclaresArms (a ∷ rest) x = DeclaresIn (stmts_of a.body) x ⊎ DeclaresArms rest x

  chain_counts : (at : ℕ) (arms : List Arm) (last : List (core.Stmt ℕ)) (x : ℕ) → CountsStmts (stmts_of (chain at arms last)) x → CountsArms arms x ⊎ CountsStmts (stmts_of last) x
  chain_counts at [] last x h = inr h
  chain_counts at (a ∷ rest) last x (inl (inl k)) = inl (inl k)
  chain_counts at (a ∷ rest) last x (inl (inr (inl k))) = inl (inr (inl k))
  chain_counts at (a ∷ rest) last x (inl (inr (inr k))) = either (λ z. inl (inr (inr z))) (λ z. inr z) (chain_counts at rest last x k)
  chain_counts at (a ∷ rest) last x (inr k) = absurd k

  chain_declares : (at : ℕ) (arms : List Arm) (last : List (core.Stmt ℕ)) (x : ℕ) → DeclaresIn (stmts_of (chain at arms last)) x → DeclaresArms arms x ⊎ DeclaresIn (stmts_of last) x
  chain_declares at [] last x h = inr h
  chain_declares at (a ∷ rest) last x (inl (inl k)) = inl (inl k)
  chain_declares at (a ∷ rest) last x (inl (inr k)) = either (λ z. inl (inr z)) (λ z. inr z) (chain_declares at rest last x k)
  chain_declares at (a ∷ rest) last x (inr k) = absurd k

  labels_count : (at t : ℕ) (first : Bool) (e : core.Expr ℕ) (cs : List (core.Expr ℕ)) (x : ℕ) → Counts (or_labels at t first e cs) x → Counts e x ⊎ CountsAll (core_exprs cs) x
  labels_count at t first e [] x h = inl h
  labels_count at t true e (c ∷ cs) x h = either (λ k. either (λ z. absurd z) (λ z. inr (inl z)) k) (λ k. inr (inr k)) (labels_count at t false (lower.equals at t c) cs x h)
  labels_count at t false e (c ∷ cs) x h = either (λ k. either (λ z. inl z) (λ z. either (λ w. absurd w) (λ w. inr (inl w)) z) k) (λ k. inr (inr k)) (labels_count at t false (lower.or_of at e (lower.equals at t c)) cs x h)

  one_of_counts : (at t : ℕ) (cs : List (core.Expr ℕ)) (x : ℕ) → Counts (is_one_of at t cs) x → CountsAll (core_exprs cs) x
  one_of_counts at t cs x h = either (λ k. absurd k) (λ k. k) (labels_count at t true (core.BoolExpr at false) cs x h)

  -- a value, the variable that has it, the cases and the last block
  switched_apart : (at lo t y x hi : ℕ) (value : core.Expr ℕ) (arms : List Arm) (last : List (core.Stmt ℕ)) → lo ≤ t → t + 1 ≤ y → y ≤ x → x ≤ hi → Apart lo t (Counts value) Never → Apart y x (CountsArms arms) (DeclaresArms arms) → BlockApart x hi last
      → BlockApart lo hi (lower.switched at t value arms last)
  switched_apart at lo t y x hi value arms last to_t to_y to_x to_hi one two three =
      let C : ℕ → Type 0 = λ z. CountsArms arms z ⊎ CountsStmts (stmts_of last) z in
      let D : ℕ → Type 0 = λ z. DeclaresArms arms z ⊎ DeclaresIn (stmts_of last) z in
      let rest : Apart y hi C D = apart_both y x hi (CountsArms arms) (DeclaresArms arms) (CountsStmts (stmts_of last)) (DeclaresIn (stmts_of last)) to_x to_hi two three in
      let more : Apart t hi C (λ z. (z ≡ t) ⊎ D z) = apart_behind t y hi (λ z. z ≡ t) C D (omega (arith, to_y)) (omega (arith, to_x, to_hi)) (apart_wide t t (t + 1) y Never (λ z. z ≡ t) (omega arith) to_y (apart_one t)) rest in
      apart_less lo hi (λ z. Counts value z ⊎ C z) (λ z. (z ≡ t) ⊎ D z) (CountsStmts (stmts_of (lower.switched at t value arms last))) (DeclaresIn (stmts_of (lower.switched at t value arms last)))
      (λ z h. either (λ k. inl k) (λ k. inr (chain_counts at arms last z k)) h) (λ z h. either (λ k. inl k) (λ k. inr (chain_declares at arms last z k)) h)
      (apart_then lo t hi (Counts value) C (λ z. (z ≡ t) ⊎ D z) to_t (omega (arith, to_y, to_x, to_hi)) one more)

  -- ---- scopes

  lead_behind : (s : Scope) (names : Variables) (x : Stmt) → Lead (length names) s → Lead (length (in_stmt ts s names x).0) (scope_behind ts s names x)
  lead_behind s names (DeclareStmt at t name value) l =
      let z : Variables = (in_option ts s names value).0 in
      let one = length_named z name in
      lead_later (suc (length z)) (length (named z name)) (with_name s name (entry.Variable (length z))) (omega (arith, one)) (leads_more o ts (below (length z)) s name (length z) (lead_later (length names) (length z) s (grows_option ts s names value) l))
  lead_behind s names (AssignStmt at name path value) l = lead_later (length names) (length (in_stmt ts s names (AssignStmt at name path value)).0) s (grows_stmt ts s names (AssignStmt at name path value)) l
  lead_behind s names (CallStmt at name args) l = lead_later (length names) (length (in_stmt ts s names (CallStmt at name args)).0) s (grows_stmt ts s names (CallStmt at name args)) l
  lead_behind s names (ReturnStmt at value) l = lead_later (length names) (length (in_stmt ts s names (ReturnStmt at value)).0) s (grows_stmt ts s names (ReturnStmt at value)) l
  lead_behind s names (AssertStmt at test) l = lead_later (length names) (length (in_stmt ts s names (AssertStmt at test)).0) s (grows_stmt ts s names (AssertStmt at test)) l
  lead_behind s names (BreakStmt at) l = l
  lead_behind s names (ContinueStmt at) l = l
  lead_behind s names (SkipStmt at) l = l
  lead_behind s names (FailStmt at) l = l
  lead_behind s names (IfStmt at test first second) l = lead_later (length names) (length (in_stmt ts s names (IfStmt at test first second)).0) s (grows_stmt ts s names (IfStmt at test first second)) l
  lead_behind s names (WhileStmt at test invariants body) l = lead_later (length names) (length (in_stmt ts s names (WhileStmt at test invariants body)).0) s (grows_stmt ts s names (WhileStmt at test invariants body)) l
  lead_behind s names (DoStmt at body test invariants) l = lead_later (length names) (length (in_stmt ts s names (DoStmt at body test invariants)).0) s (grows_stmt ts s names (DoStmt at body test invariants)) l
  lead_behind s names (ForStmt at name from to invariants body) l = lead_later (length names) (length (in_stmt ts s names (ForStmt at name from to invariants body)).0) s (grows_stmt ts s names (ForStmt at name from to invariants body)) l
  lead_behind s names (SwitchStmt at value cs) l = lead_later (length names) (length (in_stmt ts s names (SwitchStmt at value cs)).0) s (grows_stmt ts s names (SwitchStmt at value cs)) l
  lead_behind s names (SwitchElseStmt at value cs default) l = lead_later (length names) (length (in_stmt ts s names (SwitchElseStmt at value cs default)).0) s (grows_stmt ts s names (SwitchElseStmt at value cs default)) l

  mutual
    pub own_stmt : (c : Context) (b s : Scope) → b ≡ erased s → (x : Stmt) (found : Found) → bind.in_stmt c b x found ≡ None → (names : Variables) → Lead (length names) s → BlockApart (length names) (length (in_stmt ts s names x).0) (in_stmt ts s names x).1
    own_stmt c b s h (DeclareStmt at t name value) found k names l =
        let valued : Found = bind.in_option c b value (types.in_ty b t found) in
        let ok : valued ≡ None = (noted_none (has b name) valued at cause.Twice k).0 in
        let z : Variables = (in_option ts s names value).0 in
        let n : ℕ = length z in
        let one = length_named z name in
        let hi : ℕ = length (named z name) in
        let p = option_apart c b s h value (types.in_ty b t found) ok names l in
        let q : Apart n hi Never (λ x. x ≡ n) = apart_wide n n (n + 1) hi Never (λ x. x ≡ n) (omega arith) (omega (arith, one)) (apart_one n) in
        alone_apart (length names) hi (core.DeclareStmt at (in_ty s t) n (in_option ts s names value).1)
        (apart_less (length names) hi (λ x. CountsOption (in_option ts s names value).1 x ⊎ Never x) (λ x. x ≡ n) (CountsOption (in_option ts s names value).1) (λ x. x ≡ n) (λ x m. inl m) (λ x m. m)
        (apart_then (length names) n hi (CountsOption (in_option ts s names value).1) Never (λ x. x ≡ n) (grows_option ts s names value) (omega (arith, one)) p q))
    own_stmt c b s h (AssignStmt at name path value) found k names l =
        let first : Found = noted_where (not (is_variable (entry_of b name))) found at cause.Unknown in
        let after : Found = bind.in_path c b path first in
        let pathed : after ≡ None = before_expr c b value after k in
        let z : Variables = (in_path ts s names path).0 in
        let to_z : length names ≤ length z = grows_path ts s names path in
        alone_apart (length names) (length (in_expr ts s z value).0) (core.AssignStmt at (variable_of (entry_of s name)) (in_path ts s names path).1 (in_expr ts s z value).1)
        (apart_then (length names) (length z) (length (in_expr ts s z value).0) (CountsPath (in_path ts s names path).1) (Counts (in_expr ts s z value).1) Never to_z (grows_expr ts s z value)
        (path_apart c b s h path first pathed names l) (value_apart c b s h value after k z (lead_later (length names) (length z) s to_z l)))
    own_stmt c b s h (CallStmt at name args) found k names l =
        let called : Found = call c false (entry_of b name) (exprs.count_of args) at found in
        alone_apart (length names) (length (in_exprs ts s names args).0) (core.CallStmt at (routine_of (entry_of s name)) (core_exprs (in_exprs ts s names args).1)) (values_apart c b s h args called k names l)
    own_stmt c b s h (ReturnStmt at value) found k names l =
        let first : Found = noted_where (differ (is_some value) c.has_result) found at cause.Arity in
        alone_apart (length names) (length (in_option ts s names value).0) (core.ReturnStmt at (in_option ts s names value).1) (option_apart c b s h value first k names l)
    own_stmt c b s h (AssertStmt at test) found k names l = nothing_apart (length names) (length (in_expr ts s names test).0) (core.AssertStmt at (in_expr ts s names test).1) (λ y m. m) (λ y m. m)
    own_stmt c b s h (BreakStmt at) found k names l = nothing_apart (length names) (length names) (core.BreakStmt at) (λ y m. m) (λ y m. m)
    own_stmt c b s h (ContinueStmt at) found k names l = nothing_apart (length names) (length names) (core.ContinueStmt at) (λ y m. m) (λ y m. m)
    own_stmt c b s h (SkipStmt at) found k names l = nothing_apart (length names) (length names) (core.SkipStmt at) (λ y m. m) (λ y m. m)
    own_stmt c b s h (FailStmt at) found k names l = nothing_apart (length names) (length names) (core.FailStmt at) (λ y m. m) (λ y m. m)
    own_stmt c b s h (IfStmt at test first second) found k names l =
        let tested : Found = exprs.in_expr c b test found in
        let between : Found = bind.in_stmts c b first tested in
        let one : between ≡ None = before_stmts c b second between k in
        let z : Variables = (in_expr ts s names test).0 in
        let y : Variables = (in_stmts ts s z first).0 in
        let x : Variables = (in_stmts ts s y second).0 in
        let to_z : length names ≤ length z = grows_expr ts s names test in
        let to_y : length z ≤ length y = grows_stmts ts s z first in
        let to_x : length y ≤ length x = grows_stmts ts s y second in
        let l_z = lead_later (length names) (length z) s to_z l in
        let l_y = lead_later (length z) (length y) s to_y l_z in
        let xs = stmts_of (in_stmts ts s z first).1 in let ys = stmts_of (in_stmts ts s y second).1 in
        alone_apart (length names) (length x) (core.IfStmt at (in_expr ts s names test).1 xs ys)
        (apart_then (length names) (length z) (length x) (Counts (in_expr ts s names test).1) (λ v. CountsStmts xs v ⊎ CountsStmts ys v) (λ v. DeclaresIn xs v ⊎ DeclaresIn ys v) to_z (through to_y to_x)
        (value_apart c b s h test found (before_stmts c b first tested one) names l)
        (apart_both (length z) (length y) (length x) (CountsStmts xs) (DeclaresIn xs) (CountsStmts ys) (DeclaresIn ys) to_y to_x (own_stmts c b s h first tested one z l_z) (own_stmts c b s h second between k y l_y)))
    own_stmt c b s h (WhileStmt at test invariants body) found k names l =
        let tested : Found = exprs.in_expr c b test found in
        let claused : Found = exprs.in_exprs (contract c) b (exprs_of invariants) tested in
        let one : claused ≡ None = before_stmts (looped c) b body claused k in
        let z : Variables = (in_expr ts s names test).0 in
        let y : Variables = (in_clauses ts s z invariants).0 in
        let x : Variables = (in_stmts ts s y body).0 in
        let to_z : length names ≤ length z = grows_expr ts s names test in
        let to_y : length z ≤ length y = grows_clauses ts s z invariants in
        let to_x : length y ≤ length x = grows_stmts ts s y body in
        let xs = stmts_of (in_stmts ts s y body).1 in
        alone_apart (length names) (length x) (core.WhileStmt at (in_expr ts s names test).1 (in_clauses ts s z invariants).1 xs)
        (apart_then (length names) (length z) (length x) (Counts (in_expr ts s names test).1) (CountsStmts xs) (DeclaresIn xs) to_z (through to_y to_x)
        (value_apart c b s h test found (before_exprs (contract c) b (exprs_of invariants) tested one) names l)
        (apart_wide (length z) (length y) (length x) (length x) (CountsStmts xs) (DeclaresIn xs) to_y (omega arith) (own_stmts (looped c) b s h body claused k y (lead_later (length names) (length y) s (through to_z to_y) l))))
    own_stmt c b s h (DoStmt at body test invariants) found k names l =
        let bodied : Found = bind.in_stmts (looped c) b body found in
        let tested : Found = exprs.in_expr c b test bodied in
        let one : tested ≡ None = before_exprs (contract c) b (exprs_of invariants) tested k in
        let two : bodied ≡ None = before_expr c b test bodied one in
        let first : ℕ = length names in
        let x : Variables = named names (codes "first") in
        let z : Variables = (do_test ts s names test).0 in
        let y : Variables = (do_invariants ts s names test invariants).0 in
        let w : Variables = (in_stmts ts s y body).0 in
        let grown = length_named names (codes "first") in
        let to_x : first ≤ length x = omega (arith, grown) in
        let to_z : length x ≤ length z = grows_expr ts s x test in
        let to_y : length z ≤ length y = grows_clauses ts s z invariants in
        let to_w : length y ≤ length w = grows_stmts ts s y body in
        let ys = (in_stmts ts s y body).1 in
        let C : ℕ → Type 0 = λ v. Counts (do_test ts s names test).1 v ⊎ CountsStmts (stmts_of ys) v in
        let D : ℕ → Type 0 = DeclaresIn (stmts_of ys) in
        let rest : Apart (length x) (length w) C D = apart_then (length x) (length z) (length w) (Counts (do_test ts s names test).1) (CountsStmts (stmts_of ys)) D to_z (through to_y to_w)
        (value_apart c b s h test bodied one x (lead_later first (length x) s to_x l))
        (apart_wide (length z) (length y) (length w) (length w) (CountsStmts (stmts_of ys)) D to_y (omega arith) (own_stmts (looped c) b s h body found two y (lead_later first (length y) s (through to_x (through to_z to_y)) l))) in
        apart_less first (length w) C (λ v. (v ≡ first) ⊎ D v) (CountsStmts (stmts_of (lower.repeated at first (do_test ts s names test).1 (do_invariants ts s names test invariants).1 ys))) (DeclaresIn (stmts_of (lower.repeated at first (do_test ts s names test).1 (do_invariants ts s names test invariants).1 ys)))
        (do_counts at first (do_test ts s names test).1 (do_invariants ts s names test invariants).1 ys) (do_declares at first (do_test ts s names test).1 (do_invariants ts s names test invariants).1 ys)
        (apart_behind first (length x) (length w) (λ v. v ≡ first) C D to_x (through to_z (through to_y to_w)) (apart_wide first first (first + 1) (length x) Never (λ v. v ≡ first) (omega arith) (omega (arith, grown)) (apart_one first)) rest)
    own_stmt c b s h (ForStmt at name from to invariants body) found k names l =
        let started : Found = exprs.in_expr c b from found in
        let ended : Found = exprs.in_expr c b to started in
        let twice : Found = noted_where (has b name) ended at cause.Twice in
        let b2 : Scope = with_name b name just_a_name in
        let claused : Found = exprs.in_exprs (contract c) b2 (exprs_of invariants) twice in
        let one : claused ≡ None = before_stmts (looped c) b2 body claused k in
        let two : twice ≡ None = before_exprs (contract c) b2 (exprs_of invariants) twice one in
        let three : ended ≡ None = (noted_none (has b name) ended at cause.Twice two).0 in
        let four : started ≡ None = before_expr c b to started three in
        let z : Variables = (for_from ts s names from).0 in
        let y : Variables = (for_to ts s names from to).0 in
        let n : ℕ = length y in
        let x : Variables = with_span y name in
        let w : Variables = (for_invariants ts s names name from to invariants).0 in
        let s3 : Scope = renamed s name (n + 3) in
        let v : Variables = (in_stmts ts s3 w body).0 in
        let grown = length_span ts y name in
        let to_z : length names ≤ length z = grows_expr ts s names from in
        let to_y : length z ≤ n = grows_expr ts s z to in
        let to_w : length x ≤ length w = grows_clauses ts (renamed s name (n + 2)) x invariants in
        let to_v : length w ≤ length v = grows_stmts ts s3 w body in
        let low : n + 4 ≤ length w = omega (arith, grown, to_w) in
        let l_z = lead_later (length names) (length z) s to_z l in
        let l_w = lead_later (length names) (length w) s (omega (arith, to_z, to_y, low)) l in
        let l_3 : Lead (length w) s3 = leads_with o ts (below (length w)) s name (entry.Variable (n + 3)) l_w (has_below (length w) (n + 3) (omega (arith, low))) in
        let ys = (in_stmts ts s3 w body).1 in
        let F : ℕ → Type 0 = Counts (for_from ts s names from).1 in let T : ℕ → Type 0 = Counts (for_to ts s names from to).1 in
        let C : ℕ → Type 0 = CountsStmts (stmts_of ys) in let D : ℕ → Type 0 = DeclaresIn (stmts_of ys) in
        let inner : Apart (length w) (length v) C D = own_stmts (looped c) b2 s3 (erased_more b s name (n + 3) h) body claused k w l_3 in
        let spans : Apart n (length v) C (λ q. Four n q ⊎ D q) = apart_behind n (length w) (length v) (Four n) C D (omega (arith, low)) to_v (apart_wide n n (n + 4) (length w) Never (Four n) (omega arith) low (four_apart n)) inner in
        let ends_apart : Apart (length z) (length v) (λ q. T q ⊎ C q) (λ q. Four n q ⊎ D q) = apart_then (length z) n (length v) T C (λ q. Four n q ⊎ D q) to_y (omega (arith, low, to_v)) (value_apart c b s h to started three z l_z) spans in
        let whole : Apart (length names) (length v) (λ q. F q ⊎ (T q ⊎ C q)) (λ q. Four n q ⊎ D q) = apart_then (length names) (length z) (length v) F (λ q. T q ⊎ C q) (λ q. Four n q ⊎ D q) to_z (omega (arith, to_y, low, to_v)) (value_apart c b s h from found four names l) ends_apart in
        let made = lower.counted at (record { lo = n; hi = n + 1; t = n + 2; i = n + 3 }) (for_from ts s names from).1 (for_to ts s names from to).1 (for_invariants ts s names name from to invariants).1 ys in
        apart_less (length names) (length v) (λ q. F q ⊎ (T q ⊎ C q)) (λ q. Four n q ⊎ D q) (CountsStmts (stmts_of made)) (DeclaresIn (stmts_of made))
        (for_counts at n (for_from ts s names from).1 (for_to ts s names from to).1 (for_invariants ts s names name from to invariants).1 ys)
        (for_declares at n (for_from ts s names from).1 (for_to ts s names from to).1 (for_invariants ts s names name from to invariants).1 ys) whole
    own_stmt c b s h (SwitchStmt at value cs) found k names l =
        let valued : Found = exprs.in_expr c b value found in
        let z : Variables = (switch_value ts s names value).0 in
        let t : ℕ = length z in
        let y : Variables = switch_variables ts s names value in
        let x : Variables = (in_cases ts s y at t cs).0 in
        let grown = length_named z (codes "t") in
        let to_z : length names ≤ t = grows_expr ts s names value in
        let to_x : length y ≤ length x = grows_cases ts s y at t cs in
        switched_apart at (length names) t (length y) (length x) (length x) (switch_value ts s names value).1 (in_cases ts s y at t cs).1 [] to_z (omega (arith, grown)) to_x (omega arith)
        (value_apart c b s h value found (before_cases c b cs valued k) names l)
        (own_cases c b s h at t cs valued k y (lead_later (length names) (length y) s (omega (arith, to_z, grown)) l)) (apart_none (length x) (length x))
    own_stmt c b s h (SwitchElseStmt at value cs default) found k names l =
        let valued : Found = exprs.in_expr c b value found in
        let cased : Found = bind.in_cases c b cs valued in
        let one : cased ≡ None = before_stmts c b default cased k in
        let z : Variables = (switch_value ts s names value).0 in
        let t : ℕ = length z in
        let y : Variables = switch_variables ts s names value in
        let x : Variables = (in_cases ts s y at t cs).0 in
        let w : Variables = (in_stmts ts s x default).0 in
        let grown = length_named z (codes "t") in
        let to_z : length names ≤ t = grows_expr ts s names value in
        let to_x : length y ≤ length x = grows_cases ts s y at t cs in
        let to_w : length x ≤ length w = grows_stmts ts s x default in
        let l_y = lead_later (length names) (length y) s (omega (arith, to_z, grown)) l in
        switched_apart at (length names) t (length y) (length x) (length w) (switch_value ts s names value).1 (in_cases ts s y at t cs).1 (in_stmts ts s x default).1 to_z (omega (arith, grown)) to_x to_w
        (value_apart c b s h value found (before_cases c b cs valued one) names l)
        (own_cases c b s h at t cs valued one y l_y) (own_stmts c b s h default cased k x (lead_later (length y) (length x) s to_x l_y))

    pub own_stmts : (c : Context) (b s : Scope) → b ≡ erased s → (xs : Stmts) (found : Found) → bind.in_stmts c b xs found ≡ None → (names : Variables) → Lead (length names) s → BlockApart (length names) (length (in_stmts ts s names xs).0) (in_stmts ts s names xs).1
    own_stmts c b s h NoStmts found k names l = apart_none (length names) (length names)
    own_stmts c b s h (MoreStmts x rest) found k names l =
        let named_x : Found = bind.in_stmt c b x found in
        let one : named_x ≡ None = before_stmts c (bind.scope_behind b x) rest named_x k in
        let z : Variables = (in_stmt ts s names x).0 in
        let s2 : Scope = scope_behind ts s names x in
        blocks_apart (length names) (length z) (length (in_stmts ts s2 z rest).0) (in_stmt ts s names x).1 (in_stmts ts s2 z rest).1 (grows_stmt ts s names x) (grows_stmts ts s2 z rest)
        (own_stmt c b s h x found one names l)
        (own_stmts c (bind.scope_behind b x) s2 (erased_behind o ts b s h names x) rest named_x k z (lead_behind s names x l))

    own_cases : (c : Context) (b s : Scope) → b ≡ erased s → (at t : ℕ) (cs : Cases) (found : Found) → bind.in_cases c b cs found ≡ None → (names : Variables) → Lead (length names) s → Apart (length names) (length (in_cases ts s names at t cs).0) (CountsArms (in_cases ts s names at t cs).1) (DeclaresArms (in_cases ts s names at t cs).1)
    own_cases c b s h at t NoCases found k names l = apart_none (length names) (length names)
    own_cases c b s h at t (MoreCases labels body rest) found k names l =
        let labelled : Found = exprs.in_exprs c b (exprs_of labels) found in
        let bodied : Found = bind.in_stmts c b body labelled in
        let one : bodied ≡ None = before_cases c b rest bodied k in
        let two : labelled ≡ None = before_stmts c b body labelled one in
        let z : Variables = (in_clauses ts s names labels).0 in
        let y : Variables = (in_stmts ts s z body).0 in
        let x : Variables = (in_cases ts s y at t rest).0 in
        let to_z : length names ≤ length z = grows_clauses ts s names labels in
        let to_y : length z ≤ length y = grows_stmts ts s z body in
        let to_x : length y ≤ length x = grows_cases ts s y at t rest in
        let l_z = lead_later (length names) (length z) s to_z l in
        let l_y = lead_later (length z) (length y) s to_y l_z in
        let cs2 = (in_clauses ts s names labels).1 in
        let E : ℕ → Type 0 = Counts (is_one_of at t cs2) in
        let B1 = stmts_of (in_stmts ts s z body).1 in
        let arms = (in_cases ts s y at t rest).1 in
        apart_then (length names) (length z) (length x) E (λ v. CountsStmts B1 v ⊎ CountsArms arms v) (λ v. DeclaresIn B1 v ⊎ DeclaresArms arms v) to_z (through to_y to_x)
        (apart_less (length names) (length z) (CountsAll (core_exprs cs2)) Never E Never (one_of_counts at t cs2) (λ v m. m) (values_apart c b s h (exprs_of labels) found two names l))
        (apart_both (length z) (length y) (length x) (CountsStmts B1) (DeclaresIn B1) (CountsArms arms) (DeclaresArms arms) to_y to_x (own_stmts c b s h body labelled one z l_z) (own_cases c b s h at t rest bodied k y l_y))
