-- The marks of the walk are those of the last uses.
use Rattle.std.proofs.Common.{◌≡◌, ◌⊎◌, inl, inr, ℕ, Bool, true, false, not, ◌&&◌, ◌||◌, ◌==◌, List, [], ◌∷◌, Option, Some, None, refl, sym, ap, ◌∙◌, subst}
use Rattle.wy_core.specs.CoreTree as tree
use Rattle.wy_core.specs.CoreTree.{Expr, NullExpr, BoolExpr, IntExpr, VarExpr, CallExpr, NegExpr, NotExpr, LenExpr, BinaryExpr, IsExpr, IndexExpr, FieldExpr, ListExpr, RepeatExpr, RecordExpr, QuantExpr, Exprs, NoExprs, MoreExprs, Fields, NoFields, MoreFields, Step, IndexStep, FieldStep, Stmt, DeclareStmt, AssignStmt, CallStmt, ReturnStmt, AssertStmt, BreakStmt, ContinueStmt, SkipStmt, FailStmt, IfStmt, WhileStmt, Stmts, NoStmts, MoreStmts, Decl, AliasDecl, RoutineDecl, Core}
use Rattle.wy_lemmas.proofs.Choices.{or_cases, false_true as never, either, or_either as or_true}
use Rattle.wy_live.specs.Paths.{occurs, any_occurs, any_field_occurs, any_step_occurs, IsLive, AreLive}
use Rattle.wy_live.specs.LastUses.{Later, then_later, assigned_later, updated_later, turn_later, ExprMarks, ExprsMarks, FieldsMarks, StepMarks, StepsMarks, DeclareMarks, AssignMarks, ReturnMarks, nothing_later, if_later, head_later, test_later, StmtMarks, StmtsMarks, DeclMarks, DeclsMarks, AreLast}
use Rattle.wy_live.specs.Sets.{Variables, has, with, without, joined}
use Rattle.wy_live.specs.Walks.{before, before_all, before_fields, before_step, before_steps, turned, with_live, marked, marked_all, marked_fields, marked_step, marked_steps, body_marked, live, live_all, head_live, declare_live, assign_live, return_live, declare_walked, assign_walked, return_walked, around, forked, entered, walked, walked_all, nothing, ended, decl_walked, decls_walked, last_of}
use Rattle.wy_live.specs.declared.walk.Ends.{Ends}
use Rattle.wy_live.specs.declared.walk.Walk.{Walk}
use Rattle.wy_live.proofs.SetLemmas.{has-with, has-without, has-joined}
use Rattle.wy_live.proofs.UseLemmas.{has-before, has-before_all, has-before_fields, has-before_steps, has-turned}
use Rattle.wy_live.proofs.PathLemmas.{live_more, lives_more}
use Rattle.wy_live.proofs.LiveLemmas.{In, and_not, not_and, in_used, used_in, of_path, to_path, of_paths, to_paths}

-- ---- the walk has what is live

mutual
  live-marked : (e : Expr ℕ) (w : Walk) → (marked e w).live ≡ before e w.live
  live-marked (NullExpr at) w = refl
  live-marked (BoolExpr at truth) w = refl
  live-marked (IntExpr at number) w = refl
  live-marked (VarExpr at x) w = refl
  live-marked (CallExpr at routine args) w = live-marked_all args w
  live-marked (NegExpr at a) w = live-marked a w
  live-marked (NotExpr at a) w = live-marked a w
  live-marked (LenExpr at a) w = live-marked a w
  live-marked (BinaryExpr at op a b) w = live-marked a (marked b w) ∙ ap (before a) (live-marked b w)
  live-marked (IsExpr at a ty) w = live-marked a w
  live-marked (IndexExpr at a b) w = live-marked a (marked b w) ∙ ap (before a) (live-marked b w)
  live-marked (FieldExpr at a name) w = live-marked a w
  live-marked (ListExpr at items) w = live-marked_all items w
  live-marked (RepeatExpr at a b) w = live-marked a (marked b w) ∙ ap (before a) (live-marked b w)
  live-marked (RecordExpr at fs) w = live-marked_fields fs w
  live-marked (QuantExpr at all x a b body) w = live-marked a (marked b (body_marked x body w)) ∙ ap (before a) (live-marked b (body_marked x body w))

  live-marked_all : (es : Exprs ℕ) (w : Walk) → (marked_all es w).live ≡ before_all es w.live
  live-marked_all NoExprs w = refl
  live-marked_all (MoreExprs e es) w = live-marked e (marked_all es w) ∙ ap (before e) (live-marked_all es w)

  live-marked_fields : (fs : Fields ℕ) (w : Walk) → (marked_fields fs w).live ≡ before_fields fs w.live
  live-marked_fields NoFields w = refl
  live-marked_fields (MoreFields name e fs) w = live-marked e (marked_fields fs w) ∙ ap (before e) (live-marked_fields fs w)

live-marked_step : (step : Step ℕ) (w : Walk) → (marked_step step w).live ≡ before_step step w.live
live-marked_step (IndexStep at e) w = live-marked e w
live-marked_step (FieldStep at name) w = refl

live-marked_steps : (steps : List (Step ℕ)) (w : Walk) → (marked_steps steps w).live ≡ before_steps steps w.live
live-marked_steps [] w = refl
live-marked_steps (step ∷ steps) w = live-marked_step step (marked_steps steps w) ∙ ap (before_step step) (live-marked_steps steps w)

live-declare : (x : ℕ) (value : Option (Expr ℕ)) (w : Walk) → (declare_walked x value w).live ≡ declare_live x value w.live
live-declare x None w = refl
live-declare x (Some e) w = live-marked e (with_live (without w.live x) w)

live-assign : (x : ℕ) (path : List (Step ℕ)) (e : Expr ℕ) (w : Walk) → (assign_walked x path e w).live ≡ assign_live x path e w.live
live-assign x [] e w = live-marked e (with_live (without w.live x) w)
live-assign x (step ∷ steps) e w =
    live-marked_steps (step ∷ steps) (marked e (with_live (with w.live x) w)) ∙ ap (before_steps (step ∷ steps)) (live-marked e (with_live (with w.live x) w))

live-return : (value : Option (Expr ℕ)) (w : Walk) → (return_walked value w).live ≡ return_live value
live-return None w = refl
live-return (Some e) w = live-marked e (with_live [] w)

joined_both : (s t u v : Variables) → s ≡ u → t ≡ v → joined s t ≡ joined u v
joined_both s t u v p q = ap (λ z. joined z t) p ∙ ap (joined u) q

mutual
  live-walked : (st : Stmt ℕ) (ends : Ends) (w : Walk) → (walked st ends w).live ≡ live st w.live ends
  live-walked (DeclareStmt at ty x value) ends w = live-declare x value w
  live-walked (AssignStmt at x path e) ends w = live-assign x path e w
  live-walked (CallStmt at routine args) ends w = live-marked_all args w
  live-walked (ReturnStmt at value) ends w = live-return value w
  live-walked (AssertStmt at e) ends w = refl
  live-walked (BreakStmt at) ends w = refl
  live-walked (ContinueStmt at) ends w = refl
  live-walked (SkipStmt at) ends w = refl
  live-walked (FailStmt at) ends w = refl
  live-walked (IfStmt at e first second) ends w =
      let two = walked_all second ends w in let one = walked_all first ends (with_live w.live two) in
      live-marked e (forked one two)
      ∙ ap (before e) (joined_both one.live two.live (live_all first w.live ends) (live_all second w.live ends) (live-walked_all first ends (with_live w.live two)) (live-walked_all second ends w))
  live-walked (WhileStmt at e invariants body) ends w = refl

  live-walked_all : (ss : Stmts ℕ) (ends : Ends) (w : Walk) → (walked_all ss ends w).live ≡ live_all ss w.live ends
  live-walked_all NoStmts ends w = refl
  live-walked_all (MoreStmts st rest) ends w = live-walked st ends (walked_all rest ends w) ∙ ap (λ s. live st s ends) (live-walked_all rest ends w)

-- ---- what a set tells of what follows

-- the set has the variables that are used later
abbrev pub Tells : Variables → Later → Type 0
Tells s after = (x : ℕ) → (In s x → after x) × (after x → In s x)

tells_as : (s t : Variables) (after : Later) → s ≡ t → Tells t after → Tells s after
tells_as s t after e h = subst (λ z. Tells z after) (sym e) h

tells_used : (occur : ℕ → Bool) (s t : Variables) (after : Later) → ((x : ℕ) → has t x ≡ (occur x || has s x)) → Tells s after → Tells t (then_later occur after)
tells_used occur s t after is h x = (
  (λ p. either (λ u. inl u) (λ q. inr ((h x).0 q)) (in_used (occur x) s t x (is x) p)),
  (λ p. used_in (occur x) s t x (is x) (either (λ u. inl u) (λ q. inr ((h x).1 q)) p)),
)

tells_without : (s : Variables) (y : ℕ) (after : Later) → Tells s after → Tells (without s y) (assigned_later y after)
tells_without s y after h x = (
  (λ p. let q = and_not (x == y) (has s x) (sym (has-without s x y) ∙ p) in (q.0, (h x).0 q.1)),
  (λ p. has-without s x y ∙ not_and (x == y) (has s x) (p.0, (h x).1 p.1)),
)

tells_with : (s : Variables) (y : ℕ) (after : Later) → Tells s after → Tells (with s y) (updated_later y after)
tells_with s y after h x = (
  (λ p. either (λ u. inl u) (λ q. inr ((h x).0 q)) (in_used (x == y) s (with s y) x (has-with s x y) p)),
  (λ p. used_in (x == y) s (with s y) x (has-with s x y) (either (λ u. inl u) (λ q. inr ((h x).1 q)) p)),
)

tells_turned : (s : Variables) (y : ℕ) (body : Expr ℕ) (after : Later) → Tells s after → Tells (turned y body s) (turn_later y body after)
tells_turned s y body after h x = (
  (λ p. either (λ u. inl (and_not (x == y) (occurs body x) u)) (λ q. inr ((h x).0 q)) (or_cases (not (x == y) && occurs body x) (has s x) (sym (has-turned y body s x) ∙ p))),
  (λ p. has-turned y body s x ∙ or_true (not (x == y) && occurs body x) (has s x) (either (λ u. inl (not_and (x == y) (occurs body x) u)) (λ q. inr ((h x).1 q)) p)),
)

tells_nothing : Tells [] nothing_later
tells_nothing x = ((λ p. never p), (λ p. absurd p))

abbrev either_later : Later → Later → Later
either_later f g x = f x ⊎ g x

tells_joined : (s t : Variables) (f g : Later) → Tells s f → Tells t g → Tells (joined s t) (either_later f g)
tells_joined s t f g h i x = (
  (λ p. either (λ u. inl ((h x).0 u)) (λ q. inr ((i x).0 q)) (or_cases (has s x) (has t x) (sym (has-joined s t x) ∙ p))),
  (λ p. has-joined s t x ∙ or_true (has s x) (has t x) (either (λ u. inl ((h x).1 u)) (λ q. inr ((i x).1 q)) p)),
)

tells_live : (st : Stmt ℕ) (s : Variables) (ends : Ends) (after exit again : Later) → Tells s after → Tells ends.exit exit → Tells ends.again again → Tells (live st s ends) (λ x. IsLive st x (after x) (exit x) (again x))
tells_live st s ends after exit again f g h x = (
  (λ p. live_more st x (In s x) (after x) (In ends.exit x) (exit x) (In ends.again x) (again x) (f x).0 (g x).0 (h x).0 (to_path st s ends x p)),
  (λ p. of_path st s ends x (live_more st x (after x) (In s x) (exit x) (In ends.exit x) (again x) (In ends.again x) (f x).1 (g x).1 (h x).1 p)),
)

tells_lives : (ss : Stmts ℕ) (s : Variables) (ends : Ends) (after exit again : Later) → Tells s after → Tells ends.exit exit → Tells ends.again again → Tells (live_all ss s ends) (λ x. AreLive ss x (after x) (exit x) (again x))
tells_lives ss s ends after exit again f g h x = (
  (λ p. lives_more ss x (In s x) (after x) (In ends.exit x) (exit x) (In ends.again x) (again x) (f x).0 (g x).0 (h x).0 (to_paths ss s ends x p)),
  (λ p. of_paths ss s ends x (lives_more ss x (after x) (In s x) (exit x) (In ends.exit x) (again x) (In ends.again x) (f x).1 (g x).1 (h x).1 p)),
)

tells_head : (e : Expr ℕ) (body : Stmts ℕ) (s : Variables) (after : Later) → Tells s after → Tells (head_live e body s) (head_later e body after)
tells_head e body s after h = tells_live (WhileStmt 0 e [] body) s nothing after nothing_later nothing_later h tells_nothing tells_nothing

-- ---- marks

last_is : (b : Bool) (A : Type 0) → (b ≡ true → A) × (A → b ≡ true) → (not b ≡ true → A → ⊥) × ((A → ⊥) → not b ≡ true)
last_is true A h = ((λ e a. never e), (λ none. absurd (none (h.0 refl))))
last_is false A h = ((λ e a. never (h.1 a)), (λ none. refl))

tells_before : (e : Expr ℕ) (w : Walk) (after : Later) → Tells w.live after → Tells (marked e w).live (then_later (occurs e) after)
tells_before e w after h = tells_as (marked e w).live (before e w.live) (then_later (occurs e) after) (live-marked e w) (tells_used (occurs e) w.live (before e w.live) after (has-before e w.live) h)

mutual
  expr_marks : (e : Expr ℕ) (w : Walk) (after : Later) → Tells w.live after → ExprMarks e after (marked e w).marks w.marks
  expr_marks (NullExpr at) w after h = refl
  expr_marks (BoolExpr at truth) w after h = refl
  expr_marks (IntExpr at number) w after h = refl
  expr_marks (VarExpr at x) w after h = let p = last_is (has w.live x) (after x) (h x) in (not (has w.live x), refl, p.0, p.1)
  expr_marks (CallExpr at routine args) w after h = exprs_marks args w after h
  expr_marks (NegExpr at a) w after h = expr_marks a w after h
  expr_marks (NotExpr at a) w after h = expr_marks a w after h
  expr_marks (LenExpr at a) w after h = expr_marks a w after h
  expr_marks (BinaryExpr at op a b) w after h = ((marked b w).marks, expr_marks a (marked b w) (then_later (occurs b) after) (tells_before b w after h), expr_marks b w after h)
  expr_marks (IsExpr at a ty) w after h = expr_marks a w after h
  expr_marks (IndexExpr at a b) w after h = ((marked b w).marks, expr_marks a (marked b w) (then_later (occurs b) after) (tells_before b w after h), expr_marks b w after h)
  expr_marks (FieldExpr at a name) w after h = expr_marks a w after h
  expr_marks (ListExpr at items) w after h = exprs_marks items w after h
  expr_marks (RepeatExpr at a b) w after h = ((marked b w).marks, expr_marks a (marked b w) (then_later (occurs b) after) (tells_before b w after h), expr_marks b w after h)
  expr_marks (RecordExpr at fs) w after h = fields_marks fs w after h
  expr_marks (QuantExpr at all x a b body) w after h =
      let v = body_marked x body w in let t = tells_turned w.live x body after h in (
        (marked b v).marks,
        v.marks,
        expr_marks a (marked b v) (then_later (occurs b) (turn_later x body after)) (tells_before b v (turn_later x body after) t),
        expr_marks b v (turn_later x body after) t,
        expr_marks body (with_live (turned x body w.live) w) (turn_later x body after) t,
      )

  exprs_marks : (es : Exprs ℕ) (w : Walk) (after : Later) → Tells w.live after → ExprsMarks es after (marked_all es w).marks w.marks
  exprs_marks NoExprs w after h = refl
  exprs_marks (MoreExprs e es) w after h = (
    (marked_all es w).marks,
    expr_marks e (marked_all es w) (then_later (any_occurs es) after)
        (tells_as (marked_all es w).live (before_all es w.live) (then_later (any_occurs es) after) (live-marked_all es w) (tells_used (any_occurs es) w.live (before_all es w.live) after (has-before_all es w.live) h)),
    exprs_marks es w after h,
  )

  fields_marks : (fs : Fields ℕ) (w : Walk) (after : Later) → Tells w.live after → FieldsMarks fs after (marked_fields fs w).marks w.marks
  fields_marks NoFields w after h = refl
  fields_marks (MoreFields name e fs) w after h = (
    (marked_fields fs w).marks,
    expr_marks e (marked_fields fs w) (then_later (any_field_occurs fs) after)
        (tells_as (marked_fields fs w).live (before_fields fs w.live) (then_later (any_field_occurs fs) after) (live-marked_fields fs w) (tells_used (any_field_occurs fs) w.live (before_fields fs w.live) after (has-before_fields fs w.live) h)),
    fields_marks fs w after h,
  )

step_marks : (step : Step ℕ) (w : Walk) (after : Later) → Tells w.live after → StepMarks step after (marked_step step w).marks w.marks
step_marks (IndexStep at e) w after h = expr_marks e w after h
step_marks (FieldStep at name) w after h = refl

steps_marks : (steps : List (Step ℕ)) (w : Walk) (after : Later) → Tells w.live after → StepsMarks steps after (marked_steps steps w).marks w.marks
steps_marks [] w after h = refl
steps_marks (step ∷ steps) w after h = (
  (marked_steps steps w).marks,
  step_marks step (marked_steps steps w) (then_later (any_step_occurs steps) after)
      (tells_as (marked_steps steps w).live (before_steps steps w.live) (then_later (any_step_occurs steps) after) (live-marked_steps steps w) (tells_used (any_step_occurs steps) w.live (before_steps steps w.live) after (has-before_steps steps w.live) h)),
  steps_marks steps w after h,
)

declare_marks : (x : ℕ) (value : Option (Expr ℕ)) (w : Walk) (after : Later) → Tells w.live after → DeclareMarks x value after (declare_walked x value w).marks w.marks
declare_marks x None w after h = refl
declare_marks x (Some e) w after h = expr_marks e (with_live (without w.live x) w) (assigned_later x after) (tells_without w.live x after h)

assign_marks : (x : ℕ) (path : List (Step ℕ)) (e : Expr ℕ) (w : Walk) (after : Later) → Tells w.live after → AssignMarks x path e after (assign_walked x path e w).marks w.marks
assign_marks x [] e w after h = expr_marks e (with_live (without w.live x) w) (assigned_later x after) (tells_without w.live x after h)
assign_marks x (step ∷ steps) e w after h =
    let v = with_live (with w.live x) w in let t = tells_with w.live x after h in
    ((marked e v).marks, steps_marks (step ∷ steps) (marked e v) (then_later (occurs e) (updated_later x after)) (tells_before e v (updated_later x after) t), expr_marks e v (updated_later x after) t)

return_marks : (value : Option (Expr ℕ)) (w : Walk) → ReturnMarks value (return_walked value w).marks w.marks
return_marks None w = refl
return_marks (Some e) w = expr_marks e (with_live [] w) nothing_later tells_nothing

mutual
  stmt_marks : (st : Stmt ℕ) (ends : Ends) (w : Walk) (after exit again : Later) → Tells w.live after → Tells ends.exit exit → Tells ends.again again → StmtMarks st after exit again (walked st ends w).marks w.marks
  stmt_marks (DeclareStmt at ty x value) ends w after exit again f g h = declare_marks x value w after f
  stmt_marks (AssignStmt at x path e) ends w after exit again f g h = assign_marks x path e w after f
  stmt_marks (CallStmt at routine args) ends w after exit again f g h = exprs_marks args w after f
  stmt_marks (ReturnStmt at value) ends w after exit again f g h = return_marks value w
  stmt_marks (AssertStmt at e) ends w after exit again f g h = refl
  stmt_marks (BreakStmt at) ends w after exit again f g h = refl
  stmt_marks (ContinueStmt at) ends w after exit again f g h = refl
  stmt_marks (SkipStmt at) ends w after exit again f g h = refl
  stmt_marks (FailStmt at) ends w after exit again f g h = refl
  stmt_marks (IfStmt at e first second) ends w after exit again f g h =
      let two = walked_all second ends w in let one = walked_all first ends (with_live w.live two) in (
        one.marks,
        two.marks,
        expr_marks e (forked one two) (if_later first second after exit again)
            (tells_joined one.live two.live (λ x. AreLive first x (after x) (exit x) (again x)) (λ x. AreLive second x (after x) (exit x) (again x))
            (tells_as one.live (live_all first w.live ends) (λ x. AreLive first x (after x) (exit x) (again x)) (live-walked_all first ends (with_live w.live two)) (tells_lives first w.live ends after exit again f g h))
            (tells_as two.live (live_all second w.live ends) (λ x. AreLive second x (after x) (exit x) (again x)) (live-walked_all second ends w) (tells_lives second w.live ends after exit again f g h))),
        stmts_marks first ends (with_live w.live two) after exit again f g h,
        stmts_marks second ends w after exit again f g h,
      )
  stmt_marks (WhileStmt at e invariants body) ends w after exit again f g h =
      let head = head_live e body w.live in let t = tells_head e body w.live after f in let inside = walked_all body (around w.live head) (with_live head w) in (
        inside.marks,
        expr_marks e (entered invariants w.live inside) (test_later e body after)
            (tells_joined inside.live w.live (λ x. AreLive body x (head_later e body after x) (after x) (head_later e body after x)) after
            (tells_as inside.live (live_all body head (around w.live head)) (λ x. AreLive body x (head_later e body after x) (after x) (head_later e body after x)) (live-walked_all body (around w.live head) (with_live head w))
            (tells_lives body head (around w.live head) (head_later e body after) after (head_later e body after) t f t)) f),
        stmts_marks body (around w.live head) (with_live head w) (head_later e body after) after (head_later e body after) t f t,
      )

  stmts_marks : (ss : Stmts ℕ) (ends : Ends) (w : Walk) (after exit again : Later) → Tells w.live after → Tells ends.exit exit → Tells ends.again again → StmtsMarks ss after exit again (walked_all ss ends w).marks w.marks
  stmts_marks NoStmts ends w after exit again f g h = refl
  stmts_marks (MoreStmts st rest) ends w after exit again f g h =
      let v = walked_all rest ends w in (
        v.marks,
        stmt_marks st ends v (λ x. AreLive rest x (after x) (exit x) (again x)) exit again
            (tells_as v.live (live_all rest w.live ends) (λ x. AreLive rest x (after x) (exit x) (again x)) (live-walked_all rest ends w) (tells_lives rest w.live ends after exit again f g h)) g h,
        stmts_marks rest ends w after exit again f g h,
      )

decl_marks : (d : Decl ℕ) (rest : List Bool) → DeclMarks d (decl_walked d rest) rest
decl_marks (AliasDecl a) rest = exprs_marks (tree.exprs_of a.clauses) (ended rest) nothing_later tells_nothing
decl_marks (RoutineDecl r) rest = ((walked_all r.body nothing (ended rest)).marks, refl, stmts_marks r.body nothing (ended rest) nothing_later nothing_later nothing_later tells_nothing tells_nothing tells_nothing)

decls_marks : (core : Core ℕ) (rest : List Bool) → DeclsMarks core (decls_walked core rest) rest
decls_marks [] rest = refl
decls_marks (d ∷ ds) rest = (decls_walked ds rest, decl_marks d (decls_walked ds rest), decls_marks ds rest)

pub are_last : (core : Core ℕ) → AreLast core (last_of core)
are_last core = decls_marks core []
