-- What is live at each point and the marks of uses, by a walk from the end of a body to its beginning in which a loop's body is first gone through alone.
use Rattle.std.specs.Prelude.{ℕ, Bool, not, List, [], ◌∷◌, Option, Some, None}
use Rattle.wy_core.specs.CoreTree as tree
use Rattle.wy_core.specs.CoreTree.{Expr, NullExpr, BoolExpr, IntExpr, VarExpr, CallExpr, NegExpr, NotExpr, LenExpr, BinaryExpr, IsExpr, IndexExpr, FieldExpr, ListExpr, RepeatExpr, RecordExpr, QuantExpr, Exprs, NoExprs, MoreExprs, Fields, NoFields, MoreFields, Step, IndexStep, FieldStep, Stmt, DeclareStmt, AssignStmt, CallStmt, ReturnStmt, AssertStmt, BreakStmt, ContinueStmt, SkipStmt, FailStmt, IfStmt, WhileStmt, Stmts, NoStmts, MoreStmts, Decl, AliasDecl, RoutineDecl, Core}
use Rattle.wy_live.specs.Sets.{Variables, has, with, without, restored, joined}
use Rattle.wy_live.specs.LastUses.{unused, clauses_unused}
use Rattle.wy_live.specs.declared.walk.Ends.{Ends}
use Rattle.wy_live.specs.declared.walk.Walk.{Walk}

abbrev mutual
  -- what is live before the expression, where this is live behind it
  pub before : Expr ℕ → Variables → Variables
  before (NullExpr at) s = s
  before (BoolExpr at truth) s = s
  before (IntExpr at number) s = s
  before (VarExpr at x) s = with s x
  before (CallExpr at routine args) s = before_all args s
  before (NegExpr at a) s = before a s
  before (NotExpr at a) s = before a s
  before (LenExpr at a) s = before a s
  before (BinaryExpr at op a b) s = before a (before b s)
  before (IsExpr at a ty) s = before a s
  before (IndexExpr at a b) s = before a (before b s)
  before (FieldExpr at a name) s = before a s
  before (ListExpr at items) s = before_all items s
  before (RepeatExpr at a b) s = before a (before b s)
  before (RecordExpr at fs) s = before_fields fs s
  before (QuantExpr at all x a b body) s = before a (before b (restored (has s x) (before body s) x))

  pub before_all : Exprs ℕ → Variables → Variables
  before_all NoExprs s = s
  before_all (MoreExprs e es) s = before e (before_all es s)

  pub before_fields : Fields ℕ → Variables → Variables
  before_fields NoFields s = s
  before_fields (MoreFields name e fs) s = before e (before_fields fs s)

-- behind the body of a quantifier
abbrev pub turned : ℕ → Expr ℕ → Variables → Variables
turned x body s = restored (has s x) (before body s) x

-- a use is the last where its variable isn't live behind it
abbrev pub used : ℕ → Walk → Walk
used x w = record { live = with w.live x; marks = not (has w.live x) ∷ w.marks }

-- the same walk with this live
abbrev pub with_live : Variables → Walk → Walk
with_live s w = record w { live = s }

abbrev pub with_marks : List Bool → Walk → Walk
with_marks ms w = record w { marks = ms }

abbrev mutual
  -- from behind the expression to before it
  pub marked : Expr ℕ → Walk → Walk
  marked (NullExpr at) w = w
  marked (BoolExpr at truth) w = w
  marked (IntExpr at number) w = w
  marked (VarExpr at x) w = used x w
  marked (CallExpr at routine args) w = marked_all args w
  marked (NegExpr at a) w = marked a w
  marked (NotExpr at a) w = marked a w
  marked (LenExpr at a) w = marked a w
  marked (BinaryExpr at op a b) w = marked a (marked b w)
  marked (IsExpr at a ty) w = marked a w
  marked (IndexExpr at a b) w = marked a (marked b w)
  marked (FieldExpr at a name) w = marked a w
  marked (ListExpr at items) w = marked_all items w
  marked (RepeatExpr at a b) w = marked a (marked b w)
  marked (RecordExpr at fs) w = marked_fields fs w
  marked (QuantExpr at all x a b body) w = marked a (marked b (with_live (turned x body w.live) (marked body (with_live (turned x body w.live) w))))

  pub marked_all : Exprs ℕ → Walk → Walk
  marked_all NoExprs w = w
  marked_all (MoreExprs e es) w = marked e (marked_all es w)

  pub marked_fields : Fields ℕ → Walk → Walk
  marked_fields NoFields w = w
  marked_fields (MoreFields name e fs) w = marked e (marked_fields fs w)

-- the body of a quantifier, of which any number of turns may follow
abbrev pub body_marked : ℕ → Expr ℕ → Walk → Walk
body_marked x body w = with_live (turned x body w.live) (marked body (with_live (turned x body w.live) w))

abbrev pub before_step : Step ℕ → Variables → Variables
before_step (IndexStep at e) s = before e s
before_step (FieldStep at name) s = s

abbrev pub before_steps : List (Step ℕ) → Variables → Variables
before_steps [] s = s
before_steps (step ∷ steps) s = before_step step (before_steps steps s)

abbrev pub marked_step : Step ℕ → Walk → Walk
marked_step (IndexStep at e) w = marked e w
marked_step (FieldStep at name) w = w

abbrev pub marked_steps : List (Step ℕ) → Walk → Walk
marked_steps [] w = w
marked_steps (step ∷ steps) w = marked_step step (marked_steps steps w)

-- ---- what is live before a statement

abbrev pub declare_live : ℕ → Option (Expr ℕ) → Variables → Variables
declare_live x None s = s
declare_live x (Some e) s = before e (without s x)

abbrev pub assign_live : ℕ → List (Step ℕ) → Expr ℕ → Variables → Variables
assign_live x [] e s = before e (without s x)
assign_live x (step ∷ steps) e s = before_steps (step ∷ steps) (before e (with s x))

abbrev pub return_live : Option (Expr ℕ) → Variables
return_live None = []
return_live (Some e) = before e []

-- in a loop behind which this is live, where nothing is known of its head
abbrev pub alone : Variables → Ends
alone s = record { exit = s; again = [] }

abbrev mutual
  pub live : Stmt ℕ → Variables → Ends → Variables
  live (DeclareStmt at ty x value) s ends = declare_live x value s
  live (AssignStmt at x path e) s ends = assign_live x path e s
  live (CallStmt at routine args) s ends = before_all args s
  live (ReturnStmt at value) s ends = return_live value
  live (AssertStmt at e) s ends = s
  live (BreakStmt at) s ends = ends.exit
  live (ContinueStmt at) s ends = ends.again
  live (SkipStmt at) s ends = s
  live (FailStmt at) s ends = []
  live (IfStmt at e first second) s ends = before e (joined (live_all first s ends) (live_all second s ends))
  live (WhileStmt at e invariants body) s ends = before e (joined (live_all body [] (alone s)) s)

  pub live_all : Stmts ℕ → Variables → Ends → Variables
  live_all NoStmts s ends = s
  live_all (MoreStmts st rest) s ends = live st (live_all rest s ends) ends

-- before a test, behind which one of two is live
abbrev pub fork_live : Expr ℕ → Variables → Variables → Variables
fork_live e s t = before e (joined s t)

-- at the head of a loop: one turn is enough
abbrev pub head_live : Expr ℕ → Stmts ℕ → Variables → Variables
head_live e body s = before e (joined (live_all body [] (alone s)) s)

-- ---- the walk through a statement

abbrev pub declare_walked : ℕ → Option (Expr ℕ) → Walk → Walk
declare_walked x None w = w
declare_walked x (Some e) w = marked e (with_live (without w.live x) w)

abbrev pub assign_walked : ℕ → List (Step ℕ) → Expr ℕ → Walk → Walk
assign_walked x [] e w = marked e (with_live (without w.live x) w)
assign_walked x (step ∷ steps) e w = marked_steps (step ∷ steps) (marked e (with_live (with w.live x) w))

abbrev pub return_walked : Option (Expr ℕ) → Walk → Walk
return_walked None w = with_live [] w
return_walked (Some e) w = marked e (with_live [] w)

-- in a loop with this head, behind which this is live
abbrev pub around : Variables → Variables → Ends
around s head = record { exit = s; again = head }

-- behind the test of an `if`, where its blocks begin so
abbrev pub forked : Walk → Walk → Walk
forked first second = record { live = joined first.live second.live; marks = first.marks }

-- behind the test of a loop, whose body begins so
abbrev pub entered : List (Expr ℕ) → Variables → Walk → Walk
entered invariants s inside = record { live = joined inside.live s; marks = clauses_unused invariants inside.marks }

abbrev mutual
  pub walked : Stmt ℕ → Ends → Walk → Walk
  walked (DeclareStmt at ty x value) ends w = declare_walked x value w
  walked (AssignStmt at x path e) ends w = assign_walked x path e w
  walked (CallStmt at routine args) ends w = marked_all args w
  walked (ReturnStmt at value) ends w = return_walked value w
  walked (AssertStmt at e) ends w = with_marks (unused e w.marks) w
  walked (BreakStmt at) ends w = with_live ends.exit w
  walked (ContinueStmt at) ends w = with_live ends.again w
  walked (SkipStmt at) ends w = w
  walked (FailStmt at) ends w = with_live [] w
  walked (IfStmt at e first second) ends w =
      marked e (forked (walked_all first ends (with_live w.live (walked_all second ends w))) (walked_all second ends w))
  walked (WhileStmt at e invariants body) ends w =
      with_live (head_live e body w.live)
      (marked e (entered invariants w.live (walked_all body (around w.live (head_live e body w.live)) (with_live (head_live e body w.live) w))))

  pub walked_all : Stmts ℕ → Ends → Walk → Walk
  walked_all NoStmts ends w = w
  walked_all (MoreStmts st rest) ends w = walked st ends (walked_all rest ends w)

abbrev pub assert_walked : Expr ℕ → Walk → Walk
assert_walked e w = with_marks (unused e w.marks) w

-- before the test of an `if`, whose first block begins so, and where this is live at the second
abbrev pub if_ended : Expr ℕ → Walk → Variables → Walk
if_ended e first s = marked e (record first { live = joined first.live s })

-- before a loop, whose body begins so
abbrev pub loop_ended : Expr ℕ → List (Expr ℕ) → Ends → Walk → Walk
loop_ended e invariants ends inside = with_live ends.again (marked e (entered invariants ends.exit inside))

-- ---- programs

-- nothing is live
abbrev pub nothing : Ends
nothing = record { exit = []; again = [] }

-- at the end, where nothing is live
abbrev pub ended : List Bool → Walk
ended rest = record { live = []; marks = rest }

abbrev pub alias_walked : tree.Alias ℕ → List Bool → List Bool
alias_walked a rest = (marked_all (tree.exprs_of a.clauses) (ended rest)).marks

abbrev pub routine_walked : tree.Routine ℕ → List Bool → List Bool
routine_walked r rest = clauses_unused r.preconditions (clauses_unused r.postconditions (walked_all r.body nothing (ended rest)).marks)

abbrev pub decl_walked : Decl ℕ → List Bool → List Bool
decl_walked (AliasDecl a) rest = alias_walked a rest
decl_walked (RoutineDecl r) rest = routine_walked r rest

abbrev pub decls_walked : Core ℕ → List Bool → List Bool
decls_walked [] rest = rest
decls_walked (d ∷ ds) rest = decl_walked d (decls_walked ds rest)

-- the marks of a program
abbrev pub last_of : Core ℕ → List Bool
last_of core = decls_walked core []
