-- Which registers are live at a place of code: a path from there reads the register before anything comes into it or it is emptied.
use Rattle.std.specs.Prelude.{◌≡◌, ◌⊎◌, ℕ, zero, suc, ◌+◌, List, [], ◌∷◌, Bool, true, false, Some, slice_get}
use Rattle.wy_code.specs.declared.instructions.Instr.{Instr}
use Rattle.wy_code.specs.declared.instructions.Instr.TheVariants as instr
use Rattle.wy_code.specs.pieces.Placing.{slot_registers}
use Rattle.wy_gen_sources.specs.code.Large.{IsNone}

-- the number is one of these
abbrev pub IsOne : ℕ → List ℕ → Type 0
IsOne x [] = ⊥
IsOne x (r ∷ rs) = (x ≡ r) ⊎ IsOne x rs

-- the registers that an instruction reads; `Clear` reads none
abbrev pub reads : Instr → List ℕ
reads (instr.Const d c) = []
reads (instr.Move d r) = r ∷ []
reads (instr.Share d r) = r ∷ []
reads (instr.Clear rs) = []
reads (instr.Arith d op a b) = a ∷ b ∷ []
reads (instr.Compare d op a b) = a ∷ b ∷ []
reads (instr.Equal d a b) = a ∷ b ∷ []
reads (instr.Not d a) = a ∷ []
reads (instr.Jump t) = []
reads (instr.Branch r t) = r ∷ []
reads (instr.Array d rs) = rs
reads (instr.Record d k rs) = rs
reads (instr.Fill d v n) = v ∷ n ∷ []
reads (instr.Len d a) = a ∷ []
reads (instr.Get d a i) = a ∷ i ∷ []
reads (instr.Field d a f) = a ∷ []
reads (instr.Put a path v) = a ∷ v ∷ slot_registers path
reads (instr.Kind d a k) = a ∷ []
reads (instr.Call d f rs) = rs
reads (instr.Return r) = r ∷ []
reads (instr.Print a) = a ∷ []
reads (instr.PrintInt a) = a ∷ []

-- the registers that it puts something into or empties
abbrev pub changes : Instr → List ℕ
changes (instr.Const d c) = d ∷ []
changes (instr.Move d r) = d ∷ r ∷ []
changes (instr.Share d r) = d ∷ []
changes (instr.Clear rs) = rs
changes (instr.Arith d op a b) = d ∷ []
changes (instr.Compare d op a b) = d ∷ []
changes (instr.Equal d a b) = d ∷ []
changes (instr.Not d a) = d ∷ []
changes (instr.Jump t) = []
changes (instr.Branch r t) = []
changes (instr.Array d rs) = d ∷ rs
changes (instr.Record d k rs) = d ∷ rs
changes (instr.Fill d v n) = d ∷ v ∷ []
changes (instr.Len d a) = d ∷ []
changes (instr.Get d a i) = d ∷ []
changes (instr.Field d a f) = d ∷ []
changes (instr.Put a path v) = a ∷ v ∷ []
changes (instr.Kind d a k) = d ∷ []
changes (instr.Call d f rs) = d ∷ rs
changes (instr.Return r) = []
changes (instr.Print a) = []
changes (instr.PrintInt a) = []

-- the places at which it may go on: either side of a branch, where a jump leads, behind a call
abbrev pub nexts : ℕ → Instr → List ℕ
nexts p (instr.Const d c) = (p + 1) ∷ []
nexts p (instr.Move d r) = (p + 1) ∷ []
nexts p (instr.Share d r) = (p + 1) ∷ []
nexts p (instr.Clear rs) = (p + 1) ∷ []
nexts p (instr.Arith d op a b) = (p + 1) ∷ []
nexts p (instr.Compare d op a b) = (p + 1) ∷ []
nexts p (instr.Equal d a b) = (p + 1) ∷ []
nexts p (instr.Not d a) = (p + 1) ∷ []
nexts p (instr.Jump t) = t ∷ []
nexts p (instr.Branch r t) = (p + 1) ∷ t ∷ []
nexts p (instr.Array d rs) = (p + 1) ∷ []
nexts p (instr.Record d k rs) = (p + 1) ∷ []
nexts p (instr.Fill d v n) = (p + 1) ∷ []
nexts p (instr.Len d a) = (p + 1) ∷ []
nexts p (instr.Get d a i) = (p + 1) ∷ []
nexts p (instr.Field d a f) = (p + 1) ∷ []
nexts p (instr.Put a path v) = (p + 1) ∷ []
nexts p (instr.Kind d a k) = (p + 1) ∷ []
nexts p (instr.Call d f rs) = (p + 1) ∷ []
nexts p (instr.Return r) = []
nexts p (instr.Print a) = (p + 1) ∷ []
nexts p (instr.PrintInt a) = (p + 1) ∷ []

-- a path of at most so many instructions from the place on ends in one that reads the register, and none before that one changes it
abbrev pub ReadWithin : List Instr → (most place register : ℕ) → Type 0
ReadWithin body zero p r = ⊥
ReadWithin body (suc n) p r = (i : Instr) × (slice_get body p ≡ Some i) × (IsOne r (reads i) ⊎ (IsNone r (changes i) × ((q : ℕ) × IsOne q (nexts p i) × ReadWithin body n q r)))

-- the register is live at the place of a routine with these instructions
abbrev pub LiveAt : List Instr → (place register : ℕ) → Type 0
LiveAt body p r = (n : ℕ) × ReadWithin body n p r

-- whether an instruction is a release
abbrev pub is_clear : Instr → Bool
is_clear (instr.Const d c) = false
is_clear (instr.Move d r) = false
is_clear (instr.Share d r) = false
is_clear (instr.Clear rs) = true
is_clear (instr.Arith d op a b) = false
is_clear (instr.Compare d op a b) = false
is_clear (instr.Equal d a b) = false
is_clear (instr.Not d a) = false
is_clear (instr.Jump t) = false
is_clear (instr.Branch r t) = false
is_clear (instr.Array d rs) = false
is_clear (instr.Record d k rs) = false
is_clear (instr.Fill d v n) = false
is_clear (instr.Len d a) = false
is_clear (instr.Get d a i) = false
is_clear (instr.Field d a f) = false
is_clear (instr.Put a path v) = false
is_clear (instr.Kind d a k) = false
is_clear (instr.Call d f rs) = false
is_clear (instr.Return r) = false
is_clear (instr.Print a) = false
is_clear (instr.PrintInt a) = false
