-- The code of a statement. The registers from n on are free; the variables have those below.
use Rattle.std.specs.Prelude.{ℕ, suc, ◌+◌, List, [], ◌∷◌, ◌++◌, length, Bool, true, false, ◌&&◌, cond, Option, Some, None}
use Rattle.wy_core.specs.CoreTree.{Expr, Exprs, Step, IndexStep, FieldStep, Stmt, DeclareStmt, AssignStmt, CallStmt, ReturnStmt, AssertStmt, BreakStmt, ContinueStmt, SkipStmt, FailStmt, IfStmt, WhileStmt, Stmts, NoStmts, MoreStmts}
use Rattle.wy_live.specs.Sets.{Variables, has, with, without, joined}
use Rattle.wy_live.specs.Walks.{before, before_steps, live_all, head_live, around}
use Rattle.wy_live.specs.declared.walk.Ends.{Ends}
use Rattle.wy_code.specs.declared.instructions.Scalar.TheVariants as scalar
use Rattle.wy_code.specs.declared.instructions.Slot.{Slot}
use Rattle.wy_code.specs.declared.instructions.Slot.TheVariants as slot
use Rattle.wy_code.specs.declared.instructions.Instr.TheVariants as instr
use Rattle.wy_code_spec.specs.declared.tables.context.Context.{Context}
use Rattle.wy_code_spec.specs.declared.tables.targets.Target.{Target}
use Rattle.wy_code_spec.specs.declared.tables.targets.Target.TheVariants.{Declared, Prints, PrintsInt, Nothing}
use Rattle.wy_code.specs.declared.pieces.steps.Step as steps
use Rattle.wy_code.specs.declared.pieces.steps.Step.TheVariants.{Does, GoesOn}
use Rattle.wy_code.specs.pieces.Steps.{clear, fork, over, turns, registers_from}
use Rattle.wy_code_spec.specs.tables.Tables.{target, number_of}
use Rattle.wy_code_spec.specs.compiled.Operands.{read, standing, unless_read}
use Rattle.wy_code_spec.specs.compiled.Expressions.{released, is_plain, release_unless, count_of, code, codes}
use Rattle.wy_code_spec.specs.compiled.Straight.{is_straight, into}

-- a value goes from a register into its variable, or is released where the variable isn't live behind
abbrev pub store : ℕ → Variables → ℕ → Bool → List steps.Step
store x s r plain = cond (has s x) (Does (instr.Move x r) ∷ []) (release_unless plain r)

-- the value of a variable: where the variable is live behind, it comes straight into its register if it may
abbrev pub set : Context → ℕ → Expr ℕ → Variables → ℕ → List steps.Step
set c x e s n = cond (has s x && is_straight e (without s x)) (into c e (without s x) n x) (code c e (without s x) n ++ store x s n (is_plain e))

abbrev pub declare : Context → ℕ → Option (Expr ℕ) → Variables → ℕ → List steps.Step
declare c x None s n = []
declare c x (Some e) s n = set c x e s n

-- ---- paths

-- how many registers the indices of a path take
abbrev pub index_count : List (Step ℕ) → ℕ
index_count [] = 0
index_count (IndexStep at e ∷ path) = suc (index_count path)
index_count (FieldStep at name ∷ path) = index_count path

-- the slots of a path whose indices are in the registers from r on, but for variables that are live behind the update, which are read in their own
abbrev pub slots : Context → List (Step ℕ) → Variables → ℕ → List Slot
slots c [] s r = []
slots c (IndexStep at e ∷ path) s r = slot.Item (standing (read e s) r) ∷ slots c path s (suc r)
slots c (FieldStep at name ∷ path) s r = slot.Field (number_of name c.table.names) ∷ slots c path s r

-- the indices of a path, each into a register behind that of the one before: b is live behind them, and s behind the update
abbrev pub indices : Context → List (Step ℕ) → Variables → Variables → ℕ → List steps.Step
indices c [] b s r = []
indices c (IndexStep at e ∷ path) b s r = unless_read (read e s) (code c e (before_steps path b) r) ++ indices c path b s (suc r)
indices c (FieldStep at name ∷ path) b s r = indices c path b s r

-- where the variable isn't live behind an update, what it holds is released
abbrev pub kept : ℕ → Variables → List steps.Step
kept x s = cond (has s x) [] (clear (x ∷ []))

-- the indices, the value, and the update
abbrev pub update : Context → ℕ → List (Step ℕ) → Expr ℕ → Variables → ℕ → List steps.Step
update c x path e s n =
    indices c path (before e (with s x)) s n
    ++ (code c e (with s x) (n + index_count path) ++ Does (instr.Put x (slots c path s n) (n + index_count path)) ∷ kept x s)

abbrev pub assign : Context → ℕ → List (Step ℕ) → Expr ℕ → Variables → ℕ → List steps.Step
assign c x [] e s n = set c x e s n
assign c x (step ∷ path) e s n = update c x (step ∷ path) e s n

-- ---- calls and returns

abbrev pub release_where : Bool → ℕ → List steps.Step
release_where true r = clear (r ∷ [])
release_where false r = []

-- a call on the arguments in these registers, whose result is released
abbrev pub call_step : Target → ℕ → ℕ → ℕ → List steps.Step
call_step (Declared gives) f n count = Does (instr.Call n f (registers_from n count)) ∷ release_where gives n
call_step Prints f n count = Does (instr.Print n) ∷ release_where true n
call_step PrintsInt f n count = Does (instr.PrintInt n) ∷ []
call_step Nothing f n count = []

abbrev pub call : Context → ℕ → Exprs ℕ → Variables → ℕ → List steps.Step
call c f args s n = codes c args s n ++ call_step (target c.results f) f n (count_of args)

-- without a value, null is given
abbrev pub gives_null : ℕ → List steps.Step
gives_null n = Does (instr.Const n scalar.Null) ∷ Does (instr.Return n) ∷ []

abbrev pub give : Context → Option (Expr ℕ) → ℕ → List steps.Step
give c None n = gives_null n
give c (Some e) n = code c e [] n ++ Does (instr.Return n) ∷ []

-- ---- blocks

-- what is live behind the test of an `if`
abbrev pub choice : Stmts ℕ → Stmts ℕ → Variables → Ends → Variables
choice first second s ends = joined (live_all first s ends) (live_all second s ends)

-- what is live at the start of the body of a loop, and behind its test
abbrev pub inside : Expr ℕ → Stmts ℕ → Variables → Variables
inside e body s = live_all body (head_live e body s) (around s (head_live e body s))

abbrev pub turn : Expr ℕ → Stmts ℕ → Variables → Variables
turn e body s = joined (inside e body s) s

-- what stands for the first block where the second one has no code: where the first has none either, nothing asks for the value of the test, which is released
abbrev pub only_first : ℕ → Bool → List steps.Step → List steps.Step
only_first r plain [] = release_unless plain r
only_first r plain (s ∷ first) = fork r (s ∷ first) []

-- the two blocks of an `if`, the value of whose test is in the register
abbrev pub branches : ℕ → Bool → List steps.Step → List steps.Step → List steps.Step
branches r plain first [] = only_first r plain first
branches r plain first (s ∷ second) = fork r first (s ∷ second)

abbrev mutual
  -- the code of a statement behind which this is live; so many steps stand between its end and the end of the loop around, and between its end and that loop's step back
  pub stmt_code : Context → Stmt ℕ → Variables → Ends → ℕ → ℕ → ℕ → List steps.Step
  stmt_code c (DeclareStmt at ty x value) s ends n exit again = declare c x value s n
  stmt_code c (AssignStmt at x path e) s ends n exit again = assign c x path e s n
  stmt_code c (CallStmt at f args) s ends n exit again = call c f args s n
  stmt_code c (ReturnStmt at value) s ends n exit again = give c value n
  stmt_code c (AssertStmt at e) s ends n exit again = []
  stmt_code c (BreakStmt at) s ends n exit again = GoesOn exit ∷ []
  stmt_code c (ContinueStmt at) s ends n exit again = GoesOn again ∷ []
  stmt_code c (SkipStmt at) s ends n exit again = []
  -- no path goes on behind it
  stmt_code c (FailStmt at) s ends n exit again = gives_null n
  -- what only the other block uses is released before each block
  stmt_code c (IfStmt at e first second) s ends n exit again =
      let both = choice first second s ends in
      let two = released both (live_all second s ends) ++ stmts_code c second s ends n exit again in
      let one = released both (live_all first s ends) ++ stmts_code c first s ends n (over two + exit) (over two + again) in
      code c e both n ++ branches n (is_plain e) one two
  -- what only the turns use is released behind them, and what only the code behind uses before a turn
  stmt_code c (WhileStmt at e invariants body) s ends n exit again =
      let head = head_live e body s in let both = turn e body s in
      let gone = released both s in
      turns (code c e both n) n (released both (inside e body s) ++ stmts_code c body head (around s head) n (length gone + 1) 0) ++ gone

  pub stmts_code : Context → Stmts ℕ → Variables → Ends → ℕ → ℕ → ℕ → List steps.Step
  stmts_code c NoStmts s ends n exit again = []
  stmts_code c (MoreStmts st rest) s ends n exit again =
      let after = stmts_code c rest s ends n exit again in stmt_code c st (live_all rest s ends) ends n (length after + exit) (length after + again) ++ after
