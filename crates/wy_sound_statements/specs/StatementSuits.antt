-- What the run of a statement meets is of the kinds that it asks for: its expressions suit, values are of the types of the variables that they come into where these aren't asked about, clauses fit, and tests are truth values; and so for each statement that follows, from each store that may come to it.
use Rattle.std.specs.Prelude.{◌≡◌, ℕ, zero, suc, List, [], ◌∷◌, Bool, true, false, ◌⊎◌, Option, Some, None, pos}
use Rattle.wy_value.specs.Datum.{Datum, Truth, Whole, Array, Record, Data, Fields}
use Rattle.wy_value.specs.Values.{Rise, names_of}
use Rattle.wy_core.specs.Types.{Ty}
use Rattle.wy_core.specs.CoreTree as tree
use Rattle.wy_core.specs.CoreTree.{Expr, Step, IndexStep, FieldStep, Stmt, DeclareStmt, AssignStmt, CallStmt, ReturnStmt, AssertStmt, BreakStmt, ContinueStmt, SkipStmt, FailStmt, IfStmt, WhileStmt, Stmts, NoStmts, MoreStmts}
use Rattle.wy_sound_kinds.specs.wy_sem.Meter.{Meter, Done}
use Rattle.wy_sound_kinds.specs.wy_sem.Operations.{is_index, item_at, find, Slot, updated}
use Rattle.wy_sound_kinds.specs.wy_sem.Expressions as sem
use Rattle.wy_sound_kinds.specs.wy_sem.Expressions.{Store, slot, eval, eval_all}
use Rattle.wy_sound_kinds.specs.wy_sem.Statements as run
use Rattle.wy_sound_kinds.specs.wy_sem.Statements.{Exit, Went, Broke, Continued, Gave, Frame, type_at}
use Rattle.wy_term.specs.declared.cond.CondKind.TheVariants as kind
use Rattle.wy_sound_kinds.specs.wy_vc_spec.Numbered.{Node}
use Rattle.wy_sound_kinds.specs.wy_vc_spec.Clauses.{owe_clauses}
use Rattle.wy_sound_kinds.specs.wy_vc_spec.Spots.{Spot, is_set, with_hyps}
use Rattle.wy_sound_kinds.specs.wy_vc_spec.Statements.{Body, words, expr, renew, walk_clauses, where_true, where_false, exec, exec_all}
use Rattle.wy_sound_kinds.specs.wy_sound_terms.operations.Kinds.{IsWhole, IsTruth, IsArray}
use Rattle.wy_sound_kinds.specs.wy_sound_walks.expressions.Suits.{Kinds, Each, Suits, AllSuit}
use Rattle.wy_sound_kinds.specs.wy_sound_walks.clauses.Clauses.{Fits, AllFit}
use Rattle.wy_sound_statements.specs.calls.CallLaws.{ComesAs}
use Rattle.wy_sound_kinds.specs.frames.Frames.{unsets_in}

-- a value that is given a type: a program may hold it, and where it isn't asked about it is in the type
abbrev pub IsFree : Body Node → (ℕ → Datum → Bool) → Ty → Datum → Type 0
IsFree b members t d = ComesAs b.program.setting members t d

abbrev pub ReturnSuits : Kinds Node → Body Node → (ℕ → Datum → Bool) → Option (Expr Node) → Spot → Store → Type 0
ReturnSuits w b members None p s = b.routine.result ≡ None
ReturnSuits w b members (Some e) p s = Suits w false (is_set p.set) e s × ((out : tree.Output) × (b.routine.result ≡ Some out) × Each w e s (IsFree b members out.ty))

-- the steps of a path into a datum: indices are numbers, of arrays, and where one is that of an item the path goes on there; and the records whose fields are taken have them, and their names rise
abbrev pub PathSuits : Kinds Node → (ℕ → Bool) → List (Step Node) → Datum → Store → Type 0
PathSuits w seen [] d s = Unit {0}
PathSuits w seen (IndexStep at e ∷ steps) d s =
    Suits w false seen e s × IsArray d × Each w e s (λ c. IsWhole c × ((ds : Data) (i : ℕ) → d ≡ Array ds → c ≡ Whole (pos i) → is_index (pos i) ds ≡ true → PathSuits w seen steps (item_at ds i) s))
PathSuits w seen (FieldStep at name ∷ steps) d s = (fs : Fields) × (d ≡ Record fs) × Rise (names_of fs) × ((part : Datum) × (find fs name ≡ Some part) × PathSuits w seen steps part s)

-- an update of a part of a variable
abbrev pub UpdateSuits : Kinds Node → Body Node → (ℕ → Datum → Bool) → ℕ → List (Step Node) → Expr Node → Spot → Store → Type 0
UpdateSuits w b members x path e p s =
    (is_set p.set x ≡ true)
    × ((d : Datum) × (slot s x ≡ Some d) × PathSuits w (is_set p.set) path d s × Suits w false (is_set p.set) e s
    × ((slots : List Slot) (v : Datum) (m k i j : Meter) → run.path_of w.setting s path d m ≡ Done slots k → eval w.setting w.paid e s i ≡ Done v j → IsFree b members (type_at b.types x) (updated d slots v)))

-- the test has the answer true
abbrev pub IsTested : Kinds Node → Expr Node → Store → Type 0
IsTested w e s = (m : Meter) × (k : Meter) × (eval w.setting w.paid e s m ≡ Done (Truth true) k)

-- from the store, where the test is true, another turn begins at the other one
abbrev pub Leads : Kinds Node → Frame Node → Expr Node → Stmts Node → Store → Store → Type 0
Leads w fr e body s t = IsTested w e s × ((m : Meter) × (k : Meter) × ((run.exec_all w.setting fr body s m ≡ Done (Went t) k) ⊎ ((from : ℕ) × (run.exec_all w.setting fr body s m ≡ Done (Continued from t) k))))

-- so at the store, and at each to which at most so many turns lead
abbrev pub AtTurns : (Store → Type 0) → (Store → Store → Type 0) → ℕ → Store → Type 0
AtTurns Here Next zero s = Here s
AtTurns Here Next (suc j) s = Here s × ((t : Store) → Next s t → AtTurns Here Next j t)

-- at the end of a turn the invariants fit
abbrev pub KeepFits : sem.Setting Node → Body Node → (ℕ → Datum → Bool) → List (Expr Node) → Option Spot → Store → Type 0
KeepFits w b members invariants None s = Unit {0}
KeepFits w b members invariants (Some q) s = AllFit w b.program.setting members (is_set q.set) invariants s

-- what follows fits each store that comes to it
abbrev pub Behind : (Spot → Store → Type 0) → Option Spot → Store → Type 0
Behind Next None t = Unit {0}
Behind Next (Some q) t = Next q t

abbrev mutual
  -- at the point, with so many names made, in a loop with these invariants, from the store
  pub StmtSuits : Kinds Node → Frame Node → Body Node → (ℕ → Datum → Bool) → (ℕ → List Datum → Type 0) → List (Expr Node) → Stmt Node → Spot → ℕ → Store → Type 0
  StmtSuits w fr b members calls around (DeclareStmt at t x None) p n s = Unit {0}
  StmtSuits w fr b members calls around (DeclareStmt at t x (Some e)) p n s = Suits w false (is_set p.set) e s × (type_at b.types x ≡ t) × Each w e s (IsFree b members t)
  StmtSuits w fr b members calls around (AssignStmt at x [] e) p n s = Suits w false (is_set p.set) e s × Each w e s (IsFree b members (type_at b.types x))
  StmtSuits w fr b members calls around (AssignStmt at x (step ∷ steps) e) p n s = UpdateSuits w b members x (step ∷ steps) e p s
  StmtSuits w fr b members calls around (CallStmt at f es) p n s = AllSuit w false (is_set p.set) es s × ((vs : List Datum) (m k : Meter) → eval_all w.setting w.paid es s m ≡ Done vs k → calls f vs)
  StmtSuits w fr b members calls around (ReturnStmt at value) p n s = ReturnSuits w b members value p s
  StmtSuits w fr b members calls around (AssertStmt at e) p n s = Fits w.setting b.program.setting members (is_set p.set) e s
  StmtSuits w fr b members calls around (BreakStmt at) p n s = Unit {0}
  StmtSuits w fr b members calls around (ContinueStmt at) p n s = AllFit w.setting b.program.setting members (is_set p.set) around s
  StmtSuits w fr b members calls around (SkipStmt at) p n s = Unit {0}
  StmtSuits w fr b members calls around (FailStmt at) p n s = Unit {0}
  StmtSuits w fr b members calls around (IfStmt at e first second) p n s =
      let v = expr b e p.vars p.hyps n in
      let one = exec_all b around first (where_true v p) v.count in
      Suits w false (is_set p.set) e s × Each w e s IsTruth
      × Each w e s (λ d. d ≡ Truth true → BlockSuits w fr b members calls around first (where_true v p) v.count s)
      × Each w e s (λ d. d ≡ Truth false → BlockSuits w fr b members calls around second (where_false v p) one.count s)
  StmtSuits w fr b members calls around (WhileStmt at e invariants body) p n s =
      let entry = owe_clauses b.program.setting kind.Entry at (words b) invariants p.vars p.hyps n in
      let head = renew b body (with_hyps entry.hyps p) entry.count in
      let inside = walk_clauses b.program (words b) invariants head.spot.vars head.spot.hyps head.count in
      let v = expr b e head.spot.vars inside.hyps inside.count in
      let turn = exec_all b invariants body (where_true v head.spot) v.count in
      AllFit w.setting b.program.setting members (is_set p.set) invariants s
      × ((x : ℕ) → is_set p.set x ≡ true → (unsets_in x body ≡ false) × ((d : Datum) × (slot s x ≡ Some d)))
      × ((j : ℕ) → AtTurns
      (λ t.
      AllFit w.setting b.program.setting members (is_set head.spot.set) invariants t
      × Suits w false (is_set head.spot.set) e t × Each w e t IsTruth
      × Each w e t (λ d. d ≡ Truth true → BlockSuits w fr b members calls invariants body (where_true v head.spot) v.count t)
      × (IsTested w e t → (u : Store) (m k : Meter) → run.exec_all w.setting fr body t m ≡ Done (Went u) k → KeepFits w.setting b members invariants turn.ends u))
      (Leads w fr e body) j s)

  pub BlockSuits : Kinds Node → Frame Node → Body Node → (ℕ → Datum → Bool) → (ℕ → List Datum → Type 0) → List (Expr Node) → Stmts Node → Spot → ℕ → Store → Type 0
  BlockSuits w fr b members calls around NoStmts p n s = Unit {0}
  BlockSuits w fr b members calls around (MoreStmts first rest) p n s =
      let one = exec b around first p n in
      StmtSuits w fr b members calls around first p n s
      × ((t : Store) (m k : Meter) → run.exec w.setting fr first s m ≡ Done (Went t) k → Behind (λ q u. BlockSuits w fr b members calls around rest q one.count u) one.ends t)
