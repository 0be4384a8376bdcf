-- Code that keeps nothing dead: from a place on, where at most these registers hold lists or records, each that does so is live wherever the next instruction is no `Clear`.
use Rattle.std.specs.Prelude.{◌≡◌, ◌≢◌, ◌<◌, ◌⊎◌, ℕ, zero, suc, ◌+◌, List, [], ◌∷◌, Bool, true, false, Some, slice_get}
use Rattle.wy_value.specs.Datum.{Datum}
use Rattle.wy_code.specs.declared.instructions.Instr.{Instr}
use Rattle.wy_code.specs.declared.instructions.Instr.TheVariants as instr
use Rattle.wy_code.specs.declared.routines.Routine.{Routine}
use Rattle.wy_code.specs.declared.routines.Code.{Code}
use Rattle.wy_code.specs.pieces.Placing.{slot_registers}
use Rattle.wy_gen_laws.specs.wy_sem.Expressions.{slot}
use Rattle.wy_gen_laws.specs.wy_code_spec.step.Step.{State, Runs, Ended, Stuck, Frame, Caller, start, after}
use Rattle.wy_gen_sources.specs.code.Large.{HoldsLarge, IsNone}
use Rattle.wy_gen_sources.specs.code.Alive.{LiveAt, is_clear}

-- the registers that hold no list and no record behind an instruction that went on, but for what comes into its target: those that it empties, and those whose values must be numbers or truth values
abbrev pub gone : Instr → List ℕ
gone (instr.Const d c) = d ∷ []
gone (instr.Move d r) = d ∷ r ∷ []
gone (instr.Share d r) = d ∷ []
gone (instr.Clear rs) = rs
gone (instr.Arith d op a b) = d ∷ a ∷ b ∷ []
gone (instr.Compare d op a b) = d ∷ a ∷ b ∷ []
gone (instr.Equal d a b) = d ∷ []
gone (instr.Not d a) = d ∷ a ∷ []
gone (instr.Jump t) = []
gone (instr.Branch r t) = r ∷ []
gone (instr.Array d rs) = d ∷ rs
gone (instr.Record d k rs) = d ∷ rs
gone (instr.Fill d v n) = d ∷ v ∷ n ∷ []
gone (instr.Len d a) = d ∷ []
gone (instr.Get d a i) = d ∷ i ∷ []
gone (instr.Field d a f) = d ∷ []
gone (instr.Put a path v) = a ∷ v ∷ slot_registers path
gone (instr.Kind d a k) = d ∷ []
gone (instr.Call d f rs) = rs
gone (instr.Return r) = []
gone (instr.Print a) = []
gone (instr.PrintInt a) = a ∷ []

-- whether each routine may give a list or a record
abbrev pub Gives : Type 0
Gives = (routine : ℕ) → Bool

-- such a value may come into this register
abbrev pub Into : Gives → Instr → (ℕ → Type 0) → ℕ → Type 0
Into t (instr.Const d c) P r = ⊥
Into t (instr.Move d s) P r = (r ≡ d) × P s
Into t (instr.Share d s) P r = (r ≡ d) × P s
Into t (instr.Clear rs) P r = ⊥
Into t (instr.Arith d op a b) P r = ⊥
Into t (instr.Compare d op a b) P r = ⊥
Into t (instr.Equal d a b) P r = ⊥
Into t (instr.Not d a) P r = ⊥
Into t (instr.Jump p) P r = ⊥
Into t (instr.Branch s p) P r = ⊥
Into t (instr.Array d rs) P r = r ≡ d
Into t (instr.Record d k rs) P r = r ≡ d
Into t (instr.Fill d v n) P r = r ≡ d
Into t (instr.Len d a) P r = ⊥
Into t (instr.Get d a i) P r = r ≡ d
Into t (instr.Field d a k) P r = r ≡ d
Into t (instr.Put a path v) P r = r ≡ a
Into t (instr.Kind d a k) P r = ⊥
Into t (instr.Call d g rs) P r = (r ≡ d) × (t g ≡ true)
Into t (instr.Return s) P r = ⊥
Into t (instr.Print a) P r = ⊥
Into t (instr.PrintInt a) P r = ⊥

-- the registers that may hold a list or a record behind an instruction, where at most these do so in front of it
abbrev pub After : Gives → Instr → (ℕ → Type 0) → ℕ → Type 0
After t i P r = (P r × IsNone r (gone i)) ⊎ Into t i P r

-- how it goes on, where K is said of each next place. While a frame waits, nothing is in the register that the result comes into
abbrev pub Onward : Gives → ℕ → (ℕ → (ℕ → Type 0) → Type 0) → ℕ → Instr → (ℕ → Type 0) → Type 0
Onward t f K p (instr.Const d c) P = K (p + 1) (After t (instr.Const d c) P)
Onward t f K p (instr.Move d s) P = K (p + 1) (After t (instr.Move d s) P)
Onward t f K p (instr.Share d s) P = K (p + 1) (After t (instr.Share d s) P)
Onward t f K p (instr.Clear rs) P = K (p + 1) (After t (instr.Clear rs) P)
Onward t f K p (instr.Arith d op a b) P = K (p + 1) (After t (instr.Arith d op a b) P)
Onward t f K p (instr.Compare d op a b) P = K (p + 1) (After t (instr.Compare d op a b) P)
Onward t f K p (instr.Equal d a b) P = K (p + 1) (After t (instr.Equal d a b) P)
Onward t f K p (instr.Not d a) P = K (p + 1) (After t (instr.Not d a) P)
Onward t f K p (instr.Jump q) P = K q (After t (instr.Jump q) P)
Onward t f K p (instr.Branch s q) P = K (p + 1) (After t (instr.Branch s q) P) × K q (After t (instr.Branch s q) P)
Onward t f K p (instr.Array d rs) P = K (p + 1) (After t (instr.Array d rs) P)
Onward t f K p (instr.Record d k rs) P = K (p + 1) (After t (instr.Record d k rs) P)
Onward t f K p (instr.Fill d v n) P = K (p + 1) (After t (instr.Fill d v n) P)
Onward t f K p (instr.Len d a) P = K (p + 1) (After t (instr.Len d a) P)
Onward t f K p (instr.Get d a i) P = K (p + 1) (After t (instr.Get d a i) P)
Onward t f K p (instr.Field d a k) P = K (p + 1) (After t (instr.Field d a k) P)
Onward t f K p (instr.Put a path v) P = K (p + 1) (After t (instr.Put a path v) P)
Onward t f K p (instr.Kind d a k) P = K (p + 1) (After t (instr.Kind d a k) P)
Onward t f K p (instr.Call d g rs) P = ((r : ℕ) → P r → IsNone r rs → r ≢ d) × K (p + 1) (After t (instr.Call d g rs) P)
Onward t f K p (instr.Return s) P = P s → t f ≡ true
Onward t f K p (instr.Print a) P = K (p + 1) (After t (instr.Print a) P)
Onward t f K p (instr.PrintInt a) P = K (p + 1) (After t (instr.PrintInt a) P)

-- each of these registers is live, where the next instruction is no `Clear`
abbrev pub Fine : List Instr → ℕ → Instr → (ℕ → Type 0) → Type 0
Fine body p i P = is_clear i ≡ false → (r : ℕ) → P r → LiveAt body p r

-- for so many instructions from the place of the routine on, where at most these registers hold lists or records
abbrev pub Safe : Gives → ℕ → List Instr → ℕ → ℕ → (ℕ → Type 0) → Type 0
Safe t f body zero p P = Unit {0}
Safe t f body (suc n) p P = (i : Instr) → slice_get body p ≡ Some i → Fine body p i P × Onward t f (Safe t f body n) p i P

-- each routine is safe from its entry on, where its arguments hold what they like
abbrev pub SafeCode : Gives → Code → Type 0
SafeCode t code = (f : ℕ) (r : Routine) → slice_get code.routines f ≡ Some r → (n : ℕ) → Safe t f r.body n 0 (λ x. x < r.params)

-- ---- states

-- of a frame in this routine: wherever its next instruction is no `Clear`, each register that holds a list or a record is live
abbrev pub FrameKeeps : Code → Frame → Type 0
FrameKeeps code fr = (r : Routine) → slice_get code.routines fr.routine ≡ Some r → (i : Instr) → slice_get r.body fr.at ≡ Some i → is_clear i ≡ false → (x : ℕ) → HoldsLarge (slot fr.registers x) → LiveAt r.body fr.at x

-- so of each frame that waits, and nothing is in the register that the result comes into
abbrev pub CallersKeep : Code → List Caller → Type 0
CallersKeep code [] = Unit {0}
CallersKeep code (c ∷ callers) = FrameKeeps code c.frame × ((x : ℕ) → HoldsLarge (slot c.frame.registers x) → x ≢ c.target) × CallersKeep code callers

-- of the frame that runs, and of each that waits
abbrev pub KeepsNothing : Code → State → Type 0
KeepsNothing code (Runs fr callers output) = FrameKeeps code fr × CallersKeep code callers
KeepsNothing code (Ended v output) = Unit {0}
KeepsNothing code Stuck = Unit {0}

-- each run of safe code
abbrev pub SafeRunsKeepNothing : Type 0
SafeRunsKeepNothing = (t : Gives) (code : Code) → SafeCode t code → (f : ℕ) (vs : List Datum) (n : ℕ) → KeepsNothing code (after code n (start code f vs))
