-- A variable is live before a statement exactly where some path from there uses it before it assigns it.
use Rattle.std.proofs.Common.{◌≡◌, ◌⊎◌, inl, inr, ℕ, Bool, true, false, ◌||◌, ◌==◌, List, [], ◌∷◌, ◌++◌, Option, Some, None, refl, sym, ap, ◌∙◌, subst}
use Rattle.wy_core.specs.CoreTree.{Expr, Step, Stmt, DeclareStmt, AssignStmt, CallStmt, ReturnStmt, AssertStmt, BreakStmt, ContinueStmt, SkipStmt, FailStmt, IfStmt, WhileStmt, Stmts, NoStmts, MoreStmts}
use Rattle.wy_lemmas.proofs.Choices.{false_true as never, either}
use Rattle.wy_live.specs.Paths.{occurs, any_occurs, any_step_occurs, Used, UsedOrKept, DeclareLive, AssignLive, ReturnLive, IsLive, AreLive}
use Rattle.wy_live.specs.live_paths.Events.{uses, sets, Path, uses_first, Then}
use Rattle.wy_live.specs.live_paths.Through.{Through, ThroughAll, ThroughSteps, End, falls, breaks, continues, stops, ThroughSet, ThroughDeclare, ThroughAssign, ThroughReturn, ThroughStmt, ThroughStmts}
use Rattle.wy_live.proofs.live_paths_lemmas.BoolLemmas.{not_both, not_parts}
use Rattle.wy_live.proofs.live_paths_lemmas.EventLemmas.{passes, first_here, passes_both}
use Rattle.wy_live.proofs.live_paths_lemmas.ReadsLemmas.{Reads, reads_one, reads_then, expr_reads, exprs_reads, steps_reads}
use Rattle.wy_live.proofs.live_paths_lemmas.TurnLemmas.{Next, Leads, Leading, leads_on, on_leads, empty_leads, turns_to, turns_from}

-- ---- one statement

used_to : (o : ℕ → Bool) (P : Path → Type 0) → Reads o P → (x : ℕ) (A K M : Type 0) → Used (o x) A → Leading x (λ es end. P es × (end ≡ falls)) A K M
used_to o P r x A K M (inl u) = let a = r.found x u in (a.0, falls, (a.1, refl), inl a.2)
used_to o P r x A K M (inr z) = let a = r.quiet in (a.0, falls, (a.1, refl), inr (a.2 x, z))

used_from : (o : ℕ → Bool) (P : Path → Type 0) → Reads o P → (x : ℕ) (A K M : Type 0) (p : Path) (end : End) → P p → end ≡ falls → Leads x p end A K M → Used (o x) A
used_from o P r x A K M p end t e (inl f) = inl (r.only x p t f)
used_from o P r x A K M p end t e (inr s) = inr (subst (λ z. Next z A K M) e s.1)

set_to : (y : ℕ) (e : Expr ℕ) (x : ℕ) (A K M : Type 0) → UsedOrKept (occurs e x) x y A → Leading x (ThroughSet y e) A K M
set_to y e x A K M (inl u) = let a = (expr_reads e).found x u in (a.0 ++ sets y ∷ [], falls, ((a.0, sets y ∷ [], refl, a.1, refl), refl), inl (first_here x a.0 (sets y ∷ []) a.2))
set_to y e x A K M (inr k) =
    let a = (expr_reads e).quiet in
    (a.0 ++ sets y ∷ [], falls, ((a.0, sets y ∷ [], refl, a.1, refl), refl), inr (passes_both x a.0 (sets y ∷ []) (a.2 x) (not_both (x == y) true k.0 refl), k.1))

-- one assignment alone
set_leads : (x y : ℕ) (q : Path) (end : End) (A K M : Type 0) → q ≡ sets y ∷ [] → end ≡ falls → Leads x q end A K M → ((x == y) ≡ false) × A
set_leads x y q end A K M e is (inl f) = never (not_parts (x == y) false (sym (ap (uses_first x) e) ∙ f)).1
set_leads x y q end A K M e is (inr s) = ((not_parts (x == y) true (sym (ap (passes x) e) ∙ s.0)).0, subst (λ z. Next z A K M) is s.1)

set_from : (y : ℕ) (e : Expr ℕ) (x : ℕ) (A K M : Type 0) (p : Path) (end : End) → ThroughSet y e p end → Leads x p end A K M → UsedOrKept (occurs e x) x y A
set_from y e x A K M p end t l =
    let w = t.0 in
    either (λ u. inl ((expr_reads e).only x w.0 w.3 u)) (λ k. inr (set_leads x y w.1 end A K M w.4 t.1 k.1)) (leads_on x w.0 w.1 p end A K M w.2 l)

declare_to : (y : ℕ) (value : Option (Expr ℕ)) (x : ℕ) (A K M : Type 0) → DeclareLive y value x A → Leading x (ThroughDeclare y value) A K M
declare_to y None x A K M a = ([], falls, (refl, refl), inr (refl, a))
declare_to y (Some e) x A K M l = set_to y e x A K M l

declare_from : (y : ℕ) (value : Option (Expr ℕ)) (x : ℕ) (A K M : Type 0) (p : Path) (end : End) → ThroughDeclare y value p end → Leads x p end A K M → DeclareLive y value x A
declare_from y None x A K M p end t l = empty_leads x p end falls A K M t.0 t.1 l
declare_from y (Some e) x A K M p end t l = set_from y e x A K M p end t l

update_reads : (y : ℕ) (steps : List (Step ℕ)) (e : Expr ℕ) → Reads (λ x. any_step_occurs steps x || (occurs e x || (x == y))) (Then (ThroughSteps steps) (Then (Through e) (λ q. q ≡ uses y ∷ [])))
update_reads y steps e =
    reads_then (any_step_occurs steps) (λ x. occurs e x || (x == y)) (ThroughSteps steps) (Then (Through e) (λ q. q ≡ uses y ∷ [])) (steps_reads steps)
    (reads_then (occurs e) (λ x. x == y) (Through e) (λ q. q ≡ uses y ∷ []) (expr_reads e) (reads_one y))

assign_to : (y : ℕ) (path : List (Step ℕ)) (e : Expr ℕ) (x : ℕ) (A K M : Type 0) → AssignLive y path e x A → Leading x (ThroughAssign y path e) A K M
assign_to y [] e x A K M l = set_to y e x A K M l
assign_to y (step ∷ steps) e x A K M l =
    used_to (λ z. any_step_occurs (step ∷ steps) z || (occurs e z || (z == y))) (Then (ThroughSteps (step ∷ steps)) (Then (Through e) (λ q. q ≡ uses y ∷ []))) (update_reads y (step ∷ steps) e) x A K M l

assign_from : (y : ℕ) (path : List (Step ℕ)) (e : Expr ℕ) (x : ℕ) (A K M : Type 0) (p : Path) (end : End) → ThroughAssign y path e p end → Leads x p end A K M → AssignLive y path e x A
assign_from y [] e x A K M p end t l = set_from y e x A K M p end t l
assign_from y (step ∷ steps) e x A K M p end t l =
    used_from (λ z. any_step_occurs (step ∷ steps) z || (occurs e z || (z == y))) (Then (ThroughSteps (step ∷ steps)) (Then (Through e) (λ q. q ≡ uses y ∷ []))) (update_reads y (step ∷ steps) e) x A K M p end t.0 t.1 l

return_to : (value : Option (Expr ℕ)) (x : ℕ) (A K M : Type 0) → ReturnLive value x → Leading x (ThroughReturn value) A K M
return_to None x A K M u = absurd u
return_to (Some e) x A K M u = let a = (expr_reads e).found x u in (a.0, stops, (a.1, refl), inl a.2)

return_from : (value : Option (Expr ℕ)) (x : ℕ) (A K M : Type 0) (p : Path) (end : End) → ThroughReturn value p end → Leads x p end A K M → ReturnLive value x
return_from None x A K M p end t l = empty_leads x p end stops A K M t.0 t.1 l
return_from (Some e) x A K M p end t (inl f) = (expr_reads e).only x p t.0 f
return_from (Some e) x A K M p end t (inr s) = absurd (subst (λ z. Next z A K M) t.1 s.1)

-- ---- some path leads through each statement

some_set : (y : ℕ) (e : Expr ℕ) → (p : Path) × (end : End) × ThroughSet y e p end
some_set y e = let a = (expr_reads e).quiet in (a.0 ++ sets y ∷ [], falls, ((a.0, sets y ∷ [], refl, a.1, refl), refl))

some_declare : (y : ℕ) (value : Option (Expr ℕ)) → (p : Path) × (end : End) × ThroughDeclare y value p end
some_declare y None = ([], falls, (refl, refl))
some_declare y (Some e) = some_set y e

some_assign : (y : ℕ) (path : List (Step ℕ)) (e : Expr ℕ) → (p : Path) × (end : End) × ThroughAssign y path e p end
some_assign y [] e = some_set y e
some_assign y (step ∷ steps) e = let a = (update_reads y (step ∷ steps) e).quiet in (a.0, falls, (a.1, refl))

some_return : (value : Option (Expr ℕ)) → (p : Path) × (end : End) × ThroughReturn value p end
some_return None = ([], stops, (refl, refl))
some_return (Some e) = let a = (expr_reads e).quiet in (a.0, stops, (a.1, refl))

some_more : (st : Stmt ℕ) (rest : Stmts ℕ) (p : Path) (end : End) → ThroughStmt st p end → ((q : Path) × (last : End) × ThroughStmts rest q last) → (q : Path) × (last : End) × ThroughStmts (MoreStmts st rest) q last
some_more st rest p falls t b = (p ++ b.0, b.1, inl (p, b.0, refl, t, b.2))
some_more st rest p breaks t b = (p, breaks, inr (inl (t, refl)))
some_more st rest p continues t b = (p, continues, inr (inr (inl (t, refl))))
some_more st rest p stops t b = (p, stops, inr (inr (inr (t, refl))))

mutual
  pub some_path : (st : Stmt ℕ) → (p : Path) × (end : End) × ThroughStmt st p end
  some_path (DeclareStmt at ty y value) = some_declare y value
  some_path (AssignStmt at y path e) = some_assign y path e
  some_path (CallStmt at routine args) = let a = (exprs_reads args).quiet in (a.0, falls, (a.1, refl))
  some_path (ReturnStmt at value) = some_return value
  some_path (AssertStmt at e) = ([], falls, (refl, refl))
  some_path (BreakStmt at) = ([], breaks, (refl, refl))
  some_path (ContinueStmt at) = ([], continues, (refl, refl))
  some_path (SkipStmt at) = ([], falls, (refl, refl))
  some_path (FailStmt at) = ([], stops, (refl, refl))
  some_path (IfStmt at e first second) = let a = (expr_reads e).quiet in let b = some_paths first in (a.0 ++ b.0, b.1, (a.0, b.0, refl, a.1, inl b.2))
  some_path (WhileStmt at e invariants body) = let a = (expr_reads e).quiet in (a.0, falls, (0, (a.1, refl)))

  pub some_paths : (ss : Stmts ℕ) → (p : Path) × (end : End) × ThroughStmts ss p end
  some_paths NoStmts = ([], falls, (refl, refl))
  some_paths (MoreStmts st rest) = let a = some_path st in some_more st rest a.0 a.1 a.2 (some_paths rest)

-- ---- statements

-- behind a statement that a path leaves so
more_to : (st : Stmt ℕ) (rest : Stmts ℕ) (x : ℕ) (A K M B : Type 0) (p : Path) (end : End) → ThroughStmt st p end → Leads x p end B K M → (B → Leading x (ThroughStmts rest) A K M) → Leading x (ThroughStmts (MoreStmts st rest)) A K M
more_to st rest x A K M B p falls t (inl f) go = let b = some_paths rest in (p ++ b.0, b.1, inl (p, b.0, refl, t, b.2), inl (first_here x p b.0 f))
more_to st rest x A K M B p falls t (inr s) go = let b = go s.1 in (p ++ b.0, b.1, inl (p, b.0, refl, t, b.2), on_leads x p b.0 b.1 A K M (inr (s.0, b.3)))
more_to st rest x A K M B p breaks t l go = (p, breaks, inr (inl (t, refl)), l)
more_to st rest x A K M B p continues t l go = (p, continues, inr (inr (inl (t, refl))), l)
more_to st rest x A K M B p stops t l go = (p, stops, inr (inr (inr (t, refl))), l)

-- the test of an `if`, and then a block that a path leads through so
if_to : (e : Expr ℕ) (x : ℕ) (A K M : Type 0) (through : Path → End → Type 0) → Leading x through A K M → Leading x (λ es end. Then (Through e) (λ q. through q end) es) A K M
if_to e x A K M through b = let a = (expr_reads e).quiet in (a.0 ++ b.0, b.1, (a.0, b.0, refl, a.1, b.2), on_leads x a.0 b.0 b.1 A K M (inr (a.2 x, b.3)))

-- a path leaves so, and the same follows
leaves : (x : ℕ) (p : Path) (end last : End) (A K M B : Type 0) → end ≡ last → (Next last A K M → B) → Leads x p end A K M → (uses_first x p ≡ true) ⊎ ((passes x p ≡ true) × B)
leaves x p end last A K M B e f (inl u) = inl u
leaves x p end last A K M B e f (inr s) = inr (s.0, f (subst (λ z. Next z A K M) e s.1))

mutual
  pub to_path : (st : Stmt ℕ) (x : ℕ) (A K M : Type 0) → IsLive st x A K M → Leading x (ThroughStmt st) A K M
  to_path (DeclareStmt at ty y value) x A K M l = declare_to y value x A K M l
  to_path (AssignStmt at y path e) x A K M l = assign_to y path e x A K M l
  to_path (CallStmt at routine args) x A K M l = used_to (any_occurs args) (ThroughAll args) (exprs_reads args) x A K M l
  to_path (ReturnStmt at value) x A K M l = return_to value x A K M l
  to_path (AssertStmt at e) x A K M l = ([], falls, (refl, refl), inr (refl, l))
  to_path (BreakStmt at) x A K M l = ([], breaks, (refl, refl), inr (refl, l))
  to_path (ContinueStmt at) x A K M l = ([], continues, (refl, refl), inr (refl, l))
  to_path (SkipStmt at) x A K M l = ([], falls, (refl, refl), inr (refl, l))
  to_path (FailStmt at) x A K M l = absurd l
  to_path (IfStmt at e first second) x A K M l = either
      (λ u. let a = (expr_reads e).found x u in let b = some_paths first in (a.0 ++ b.0, b.1, (a.0, b.0, refl, a.1, inl b.2), inl (first_here x a.0 b.0 a.2)))
      (λ q. either
      (λ z. let b = to_paths first x A K M z in if_to e x A K M (λ p end. ThroughStmts first p end ⊎ ThroughStmts second p end) (b.0, b.1, inl b.2, b.3))
      (λ z. let b = to_paths second x A K M z in if_to e x A K M (λ p end. ThroughStmts first p end ⊎ ThroughStmts second p end) (b.0, b.1, inr b.2, b.3)) q) l
  to_path (WhileStmt at e invariants body) x A K M l =
      turns_to l.0 e (λ next after more. AreLive body x next after more) (λ p end. ThroughStmts body p end) x A K M (λ C I D q. to_paths body x C I D q) l.1

  pub to_paths : (ss : Stmts ℕ) (x : ℕ) (A K M : Type 0) → AreLive ss x A K M → Leading x (ThroughStmts ss) A K M
  to_paths NoStmts x A K M l = ([], falls, (refl, refl), inr (refl, l))
  to_paths (MoreStmts st rest) x A K M l =
      let a = to_path st x (AreLive rest x A K M) K M l in
      more_to st rest x A K M (AreLive rest x A K M) a.0 a.1 a.2 a.3 (λ z. to_paths rest x A K M z)

mutual
  pub from_path : (st : Stmt ℕ) (x : ℕ) (A K M : Type 0) (p : Path) (end : End) → ThroughStmt st p end → Leads x p end A K M → IsLive st x A K M
  from_path (DeclareStmt at ty y value) x A K M p end t l = declare_from y value x A K M p end t l
  from_path (AssignStmt at y path e) x A K M p end t l = assign_from y path e x A K M p end t l
  from_path (CallStmt at routine args) x A K M p end t l = used_from (any_occurs args) (ThroughAll args) (exprs_reads args) x A K M p end t.0 t.1 l
  from_path (ReturnStmt at value) x A K M p end t l = return_from value x A K M p end t l
  from_path (AssertStmt at e) x A K M p end t l = empty_leads x p end falls A K M t.0 t.1 l
  from_path (BreakStmt at) x A K M p end t l = empty_leads x p end breaks A K M t.0 t.1 l
  from_path (ContinueStmt at) x A K M p end t l = empty_leads x p end continues A K M t.0 t.1 l
  from_path (SkipStmt at) x A K M p end t l = empty_leads x p end falls A K M t.0 t.1 l
  from_path (FailStmt at) x A K M p end t l = empty_leads x p end stops A K M t.0 t.1 l
  from_path (IfStmt at e first second) x A K M p end t l = either (λ u. inl ((expr_reads e).only x t.0 t.3 u))
      (λ k. inr (either (λ z. inl (from_paths first x A K M t.1 end z k.1)) (λ z. inr (from_paths second x A K M t.1 end z k.1)) t.4)) (leads_on x t.0 t.1 p end A K M t.2 l)
  from_path (WhileStmt at e invariants body) x A K M p end t l = (
    t.0,
    turns_from t.0 e (λ next after more. AreLive body x next after more) (λ q last. ThroughStmts body q last) x A K M (λ C I D q last s m. from_paths body x C I D q last s m) p end t.1 l,
  )

  pub from_paths : (ss : Stmts ℕ) (x : ℕ) (A K M : Type 0) (p : Path) (end : End) → ThroughStmts ss p end → Leads x p end A K M → AreLive ss x A K M
  from_paths NoStmts x A K M p end t l = empty_leads x p end falls A K M t.0 t.1 l
  from_paths (MoreStmts st rest) x A K M p end (inl t) l =
      from_path st x (AreLive rest x A K M) K M t.0 falls t.3
      (either (λ u. inl u) (λ k. inr (k.0, from_paths rest x A K M t.1 end t.4 k.1)) (leads_on x t.0 t.1 p end A K M t.2 l))
  from_paths (MoreStmts st rest) x A K M p end (inr (inl t)) l = from_path st x (AreLive rest x A K M) K M p breaks t.0 (leaves x p end breaks A K M K t.1 (λ z. z) l)
  from_paths (MoreStmts st rest) x A K M p end (inr (inr (inl t))) l = from_path st x (AreLive rest x A K M) K M p continues t.0 (leaves x p end continues A K M M t.1 (λ z. z) l)
  from_paths (MoreStmts st rest) x A K M p end (inr (inr (inr t))) l = from_path st x (AreLive rest x A K M) K M p stops t.0 (leaves x p end stops A K M ⊥ t.1 (λ z. z) l)
