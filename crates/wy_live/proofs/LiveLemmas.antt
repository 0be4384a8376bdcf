-- What is live before a statement is what some path from there on uses before it assigns it.
use Rattle.std.proofs.Common.{◌≡◌, ◌⊎◌, inl, inr, ℕ, Bool, true, false, not, ◌&&◌, ◌||◌, ◌==◌, List, [], ◌∷◌, Option, Some, None, refl, sym, ap, ◌∙◌}
use Rattle.wy_core.specs.CoreTree.{Expr, Step, Stmt, DeclareStmt, AssignStmt, CallStmt, ReturnStmt, AssertStmt, BreakStmt, ContinueStmt, SkipStmt, FailStmt, IfStmt, WhileStmt, Stmts, NoStmts, MoreStmts}
use Rattle.wy_lemmas.proofs.Choices.{or_cases, or_left, false_true as never, either, or_either as or_true}
use Rattle.wy_live.specs.Paths.{occurs, any_occurs, any_step_occurs, Used, UsedOrKept, DeclareLive, AssignLive, ReturnLive, IsLive, AreLive}
use Rattle.wy_live.specs.Sets.{Variables, has, with, without, joined}
use Rattle.wy_live.specs.Walks.{before, before_all, before_steps, declare_live, assign_live, return_live, alone, live, live_all}
use Rattle.wy_live.specs.declared.walk.Ends.{Ends}
use Rattle.wy_live.proofs.SetLemmas.{has-with, has-without, has-joined}
use Rattle.wy_live.proofs.UseLemmas.{has-before, has-before_all, has-before_steps}
use Rattle.wy_live.proofs.PathLemmas.{live_more, lives_more, one_turn}

pub and_not : (a b : Bool) → (not a && b) ≡ true → (a ≡ false) × (b ≡ true)
and_not true b e = never e
and_not false b e = (refl, e)

pub not_and : (a b : Bool) → (a ≡ false) × (b ≡ true) → (not a && b) ≡ true
not_and true b p = never (sym p.0)
not_and false b p = p.1

-- the variable is in the set
abbrev pub In : Variables → ℕ → Type 0
In s x = has s x ≡ true

pub in_used : (used : Bool) (s t : Variables) (x : ℕ) → has t x ≡ (used || has s x) → In t x → Used used (In s x)
in_used used s t x is p = or_cases used (has s x) (sym is ∙ p)

pub used_in : (used : Bool) (s t : Variables) (x : ℕ) → has t x ≡ (used || has s x) → Used used (In s x) → In t x
used_in used s t x is p = is ∙ or_true used (has s x) p

pub in_kept : (used : Bool) (s t : Variables) (x y : ℕ) → has t x ≡ (used || has (without s y) x) → In t x → UsedOrKept used x y (In s x)
in_kept used s t x y is p = either (λ u. inl u) (λ q. inr (and_not (x == y) (has s x) (sym (has-without s x y) ∙ q))) (or_cases used (has (without s y) x) (sym is ∙ p))

pub kept_in : (used : Bool) (s t : Variables) (x y : ℕ) → has t x ≡ (used || has (without s y) x) → UsedOrKept used x y (In s x) → In t x
kept_in used s t x y is p = is ∙ or_true used (has (without s y) x) (either (λ u. inl u) (λ q. inr (has-without s x y ∙ not_and (x == y) (has s x) q)) p)

or_grouped : (a b c d : Bool) → (a || (b || (c || d))) ≡ ((a || (b || c)) || d)
or_grouped true b c d = refl
or_grouped false true c d = refl
or_grouped false false c d = refl

-- before an assignment to a part of a variable
updated_is : (y : ℕ) (path : List (Step ℕ)) (e : Expr ℕ) (s : Variables) (x : ℕ) → has (before_steps path (before e (with s y))) x ≡ ((any_step_occurs path x || (occurs e x || (x == y))) || has s x)
updated_is y path e s x =
    has-before_steps path (before e (with s y)) x
    ∙ ap (λ t. any_step_occurs path x || t) (has-before e (with s y) x)
    ∙ ap (λ t. any_step_occurs path x || (occurs e x || t)) (has-with s x y)
    ∙ or_grouped (any_step_occurs path x) (occurs e x) (x == y) (has s x)

declare_of : (y : ℕ) (value : Option (Expr ℕ)) (s : Variables) (x : ℕ) → DeclareLive y value x (In s x) → In (declare_live y value s) x
declare_of y None s x p = p
declare_of y (Some e) s x p = kept_in (occurs e x) s (before e (without s y)) x y (has-before e (without s y) x) p

declare_to : (y : ℕ) (value : Option (Expr ℕ)) (s : Variables) (x : ℕ) → In (declare_live y value s) x → DeclareLive y value x (In s x)
declare_to y None s x p = p
declare_to y (Some e) s x p = in_kept (occurs e x) s (before e (without s y)) x y (has-before e (without s y) x) p

assign_of : (y : ℕ) (path : List (Step ℕ)) (e : Expr ℕ) (s : Variables) (x : ℕ) → AssignLive y path e x (In s x) → In (assign_live y path e s) x
assign_of y [] e s x p = kept_in (occurs e x) s (before e (without s y)) x y (has-before e (without s y) x) p
assign_of y (step ∷ steps) e s x p = used_in (any_step_occurs (step ∷ steps) x || (occurs e x || (x == y))) s (before_steps (step ∷ steps) (before e (with s y))) x (updated_is y (step ∷ steps) e s x) p

assign_to : (y : ℕ) (path : List (Step ℕ)) (e : Expr ℕ) (s : Variables) (x : ℕ) → In (assign_live y path e s) x → AssignLive y path e x (In s x)
assign_to y [] e s x p = in_kept (occurs e x) s (before e (without s y)) x y (has-before e (without s y) x) p
assign_to y (step ∷ steps) e s x p = in_used (any_step_occurs (step ∷ steps) x || (occurs e x || (x == y))) s (before_steps (step ∷ steps) (before e (with s y))) x (updated_is y (step ∷ steps) e s x) p

return_of : (value : Option (Expr ℕ)) (x : ℕ) → ReturnLive value x → In (return_live value) x
return_of None x p = absurd p
return_of (Some e) x p = has-before e [] x ∙ or_left (occurs e x) false p

return_to : (value : Option (Expr ℕ)) (x : ℕ) → In (return_live value) x → ReturnLive value x
return_to None x p = never p
return_to (Some e) x p = either (λ u. u) (λ n. never n) (or_cases (occurs e x) false (sym (has-before e [] x) ∙ p))

-- before an expression behind which one of two is live
forked_is : (e : Expr ℕ) (s t : Variables) (x : ℕ) → has (before e (joined s t)) x ≡ (occurs e x || (has s x || has t x))
forked_is e s t x = has-before e (joined s t) x ∙ ap (λ b. occurs e x || b) (has-joined s t x)

forked_of : (e : Expr ℕ) (s t : Variables) (x : ℕ) → Used (occurs e x) (In s x ⊎ In t x) → In (before e (joined s t)) x
forked_of e s t x p = forked_is e s t x ∙ or_true (occurs e x) (has s x || has t x) (either (λ u. inl u) (λ q. inr (or_true (has s x) (has t x) q)) p)

forked_to : (e : Expr ℕ) (s t : Variables) (x : ℕ) → In (before e (joined s t)) x → Used (occurs e x) (In s x ⊎ In t x)
forked_to e s t x p = either (λ u. inl u) (λ q. inr (or_cases (has s x) (has t x) q)) (or_cases (occurs e x) (has s x || has t x) (sym (forked_is e s t x) ∙ p))

mutual
  pub of_path : (st : Stmt ℕ) (s : Variables) (ends : Ends) (x : ℕ) → IsLive st x (In s x) (In ends.exit x) (In ends.again x) → In (live st s ends) x
  of_path (DeclareStmt at ty y value) s ends x p = declare_of y value s x p
  of_path (AssignStmt at y path e) s ends x p = assign_of y path e s x p
  of_path (CallStmt at routine args) s ends x p = used_in (any_occurs args x) s (before_all args s) x (has-before_all args s x) p
  of_path (ReturnStmt at value) s ends x p = return_of value x p
  of_path (AssertStmt at e) s ends x p = p
  of_path (BreakStmt at) s ends x p = p
  of_path (ContinueStmt at) s ends x p = p
  of_path (SkipStmt at) s ends x p = p
  of_path (FailStmt at) s ends x p = absurd p
  of_path (IfStmt at e first second) s ends x p = forked_of e (live_all first s ends) (live_all second s ends) x
      (either (λ u. inl u) (λ q. inr (either (λ l. inl (of_paths first s ends x l)) (λ r. inr (of_paths second s ends x r)) q)) p)
  of_path (WhileStmt at e invariants body) s ends x p = forked_of e (live_all body [] (alone s)) s x
      (either (λ q. either (λ u. inl u) (λ b. inr (inl (of_paths body [] (alone s) x
      (lives_more body x ⊥ (In [] x) (In s x) (In s x) ⊥ (In [] x) (λ z. absurd z) (λ z. z) (λ z. absurd z) b)))) q) (λ a. inr (inr a)) (one_turn p.0 e body x (In s x) p.1))

  pub of_paths : (ss : Stmts ℕ) (s : Variables) (ends : Ends) (x : ℕ) → AreLive ss x (In s x) (In ends.exit x) (In ends.again x) → In (live_all ss s ends) x
  of_paths NoStmts s ends x p = p
  of_paths (MoreStmts st rest) s ends x p = of_path st (live_all rest s ends) ends x
      (live_more st x (AreLive rest x (In s x) (In ends.exit x) (In ends.again x)) (In (live_all rest s ends) x) (In ends.exit x) (In ends.exit x) (In ends.again x) (In ends.again x)
      (λ q. of_paths rest s ends x q) (λ q. q) (λ q. q) p)

mutual
  pub to_path : (st : Stmt ℕ) (s : Variables) (ends : Ends) (x : ℕ) → In (live st s ends) x → IsLive st x (In s x) (In ends.exit x) (In ends.again x)
  to_path (DeclareStmt at ty y value) s ends x p = declare_to y value s x p
  to_path (AssignStmt at y path e) s ends x p = assign_to y path e s x p
  to_path (CallStmt at routine args) s ends x p = in_used (any_occurs args x) s (before_all args s) x (has-before_all args s x) p
  to_path (ReturnStmt at value) s ends x p = return_to value x p
  to_path (AssertStmt at e) s ends x p = p
  to_path (BreakStmt at) s ends x p = p
  to_path (ContinueStmt at) s ends x p = p
  to_path (SkipStmt at) s ends x p = p
  to_path (FailStmt at) s ends x p = never p
  to_path (IfStmt at e first second) s ends x p =
      either (λ u. inl u) (λ q. inr (either (λ l. inl (to_paths first s ends x l)) (λ r. inr (to_paths second s ends x r)) q)) (forked_to e (live_all first s ends) (live_all second s ends) x p)
  to_path (WhileStmt at e invariants body) s ends x p = either (λ u. (0, inl u)) (λ q. either
      (λ b. (
        1,
        inr (lives_more body x (In [] x) (Used (occurs e x) (In s x)) (In s x) (In s x) (In [] x) (Used (occurs e x) (In s x)) (λ z. never z) (λ z. z) (λ z. never z)
            (to_paths body [] (alone s) x b)),
      ))
      (λ a. (0, inr a)) q) (forked_to e (live_all body [] (alone s)) s x p)

  pub to_paths : (ss : Stmts ℕ) (s : Variables) (ends : Ends) (x : ℕ) → In (live_all ss s ends) x → AreLive ss x (In s x) (In ends.exit x) (In ends.again x)
  to_paths NoStmts s ends x p = p
  to_paths (MoreStmts st rest) s ends x p =
      live_more st x (In (live_all rest s ends) x) (AreLive rest x (In s x) (In ends.exit x) (In ends.again x)) (In ends.exit x) (In ends.exit x) (In ends.again x) (In ends.again x)
      (λ q. to_paths rest s ends x q) (λ q. q) (λ q. q) (to_path st (live_all rest s ends) ends x p)
