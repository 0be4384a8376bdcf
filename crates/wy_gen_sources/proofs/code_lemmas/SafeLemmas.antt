-- What is safe stays so for fewer instructions, and for fewer registers.
use Rattle.std.proofs.Common.{inl, inr, ℕ, zero, suc, ◌+◌, List}
use Rattle.wy_code.specs.declared.instructions.Instr.{Instr}
use Rattle.wy_code.specs.declared.instructions.Instr.TheVariants as instr
use Rattle.wy_gen_sources.specs.code.Safe.{Gives, Into, After, Onward, Safe}

-- the registers of the one set are in the other
abbrev pub Within : (ℕ → Type 0) → (ℕ → Type 0) → Type 0
Within P Q = (r : ℕ) → P r → Q r

module _ (t : Gives) (f : ℕ) where
  into_less : (i : Instr) (P Q : ℕ → Type 0) → Within P Q → (r : ℕ) → Into t i P r → Into t i Q r
  into_less (instr.Const d c) P Q h r k = k
  into_less (instr.Move d s) P Q h r k = (k.0, h s k.1)
  into_less (instr.Share d s) P Q h r k = (k.0, h s k.1)
  into_less (instr.Clear rs) P Q h r k = k
  into_less (instr.Arith d op a b) P Q h r k = k
  into_less (instr.Compare d op a b) P Q h r k = k
  into_less (instr.Equal d a b) P Q h r k = k
  into_less (instr.Not d a) P Q h r k = k
  into_less (instr.Jump p) P Q h r k = k
  into_less (instr.Branch s p) P Q h r k = k
  into_less (instr.Array d rs) P Q h r k = k
  into_less (instr.Record d n rs) P Q h r k = k
  into_less (instr.Fill d v n) P Q h r k = k
  into_less (instr.Len d a) P Q h r k = k
  into_less (instr.Get d a i) P Q h r k = k
  into_less (instr.Field d a n) P Q h r k = k
  into_less (instr.Put a path v) P Q h r k = k
  into_less (instr.Kind d a n) P Q h r k = k
  into_less (instr.Call d g rs) P Q h r k = k
  into_less (instr.Return s) P Q h r k = k
  into_less (instr.Print a) P Q h r k = k
  into_less (instr.PrintInt a) P Q h r k = k

  after_less : (i : Instr) (P Q : ℕ → Type 0) → Within P Q → Within (After t i P) (After t i Q)
  after_less i P Q h r (inl k) = inl (h r k.0, k.1)
  after_less i P Q h r (inr k) = inr (into_less i P Q h r k)

  module _ (body : List Instr) where
    onward_less : (n p : ℕ) (i : Instr) (P Q : ℕ → Type 0) → Within P Q
        → ((q : ℕ) (A B : ℕ → Type 0) → Within A B → Safe t f body n q B → Safe t f body n q A)
        → Onward t f (Safe t f body n) p i Q → Onward t f (Safe t f body n) p i P
    onward_less n p (instr.Const d c) P Q h go k = go (p + 1) (After t (instr.Const d c) P) (After t (instr.Const d c) Q) (after_less (instr.Const d c) P Q h) k
    onward_less n p (instr.Move d s) P Q h go k = go (p + 1) (After t (instr.Move d s) P) (After t (instr.Move d s) Q) (after_less (instr.Move d s) P Q h) k
    onward_less n p (instr.Share d s) P Q h go k = go (p + 1) (After t (instr.Share d s) P) (After t (instr.Share d s) Q) (after_less (instr.Share d s) P Q h) k
    onward_less n p (instr.Clear rs) P Q h go k = go (p + 1) (After t (instr.Clear rs) P) (After t (instr.Clear rs) Q) (after_less (instr.Clear rs) P Q h) k
    onward_less n p (instr.Arith d op a b) P Q h go k = go (p + 1) (After t (instr.Arith d op a b) P) (After t (instr.Arith d op a b) Q) (after_less (instr.Arith d op a b) P Q h) k
    onward_less n p (instr.Compare d op a b) P Q h go k = go (p + 1) (After t (instr.Compare d op a b) P) (After t (instr.Compare d op a b) Q) (after_less (instr.Compare d op a b) P Q h) k
    onward_less n p (instr.Equal d a b) P Q h go k = go (p + 1) (After t (instr.Equal d a b) P) (After t (instr.Equal d a b) Q) (after_less (instr.Equal d a b) P Q h) k
    onward_less n p (instr.Not d a) P Q h go k = go (p + 1) (After t (instr.Not d a) P) (After t (instr.Not d a) Q) (after_less (instr.Not d a) P Q h) k
    onward_less n p (instr.Jump q) P Q h go k = go q (After t (instr.Jump q) P) (After t (instr.Jump q) Q) (after_less (instr.Jump q) P Q h) k
    onward_less n p (instr.Branch s q) P Q h go k = (
      go (p + 1) (After t (instr.Branch s q) P) (After t (instr.Branch s q) Q) (after_less (instr.Branch s q) P Q h) k.0,
      go q (After t (instr.Branch s q) P) (After t (instr.Branch s q) Q) (after_less (instr.Branch s q) P Q h) k.1,
    )
    onward_less n p (instr.Array d rs) P Q h go k = go (p + 1) (After t (instr.Array d rs) P) (After t (instr.Array d rs) Q) (after_less (instr.Array d rs) P Q h) k
    onward_less n p (instr.Record d m rs) P Q h go k = go (p + 1) (After t (instr.Record d m rs) P) (After t (instr.Record d m rs) Q) (after_less (instr.Record d m rs) P Q h) k
    onward_less n p (instr.Fill d v m) P Q h go k = go (p + 1) (After t (instr.Fill d v m) P) (After t (instr.Fill d v m) Q) (after_less (instr.Fill d v m) P Q h) k
    onward_less n p (instr.Len d a) P Q h go k = go (p + 1) (After t (instr.Len d a) P) (After t (instr.Len d a) Q) (after_less (instr.Len d a) P Q h) k
    onward_less n p (instr.Get d a i) P Q h go k = go (p + 1) (After t (instr.Get d a i) P) (After t (instr.Get d a i) Q) (after_less (instr.Get d a i) P Q h) k
    onward_less n p (instr.Field d a m) P Q h go k = go (p + 1) (After t (instr.Field d a m) P) (After t (instr.Field d a m) Q) (after_less (instr.Field d a m) P Q h) k
    onward_less n p (instr.Put a path v) P Q h go k = go (p + 1) (After t (instr.Put a path v) P) (After t (instr.Put a path v) Q) (after_less (instr.Put a path v) P Q h) k
    onward_less n p (instr.Kind d a m) P Q h go k = go (p + 1) (After t (instr.Kind d a m) P) (After t (instr.Kind d a m) Q) (after_less (instr.Kind d a m) P Q h) k
    onward_less n p (instr.Call d g rs) P Q h go k =
        ((λ r l none. k.0 r (h r l) none), go (p + 1) (After t (instr.Call d g rs) P) (After t (instr.Call d g rs) Q) (after_less (instr.Call d g rs) P Q h) k.1)
    onward_less n p (instr.Return s) P Q h go k = λ l. k (h s l)
    onward_less n p (instr.Print a) P Q h go k = go (p + 1) (After t (instr.Print a) P) (After t (instr.Print a) Q) (after_less (instr.Print a) P Q h) k
    onward_less n p (instr.PrintInt a) P Q h go k = go (p + 1) (After t (instr.PrintInt a) P) (After t (instr.PrintInt a) Q) (after_less (instr.PrintInt a) P Q h) k

    -- fewer registers
    pub safe_less : (n p : ℕ) (P Q : ℕ → Type 0) → Within P Q → Safe t f body n p Q → Safe t f body n p P
    safe_less zero p P Q h k = tt
    safe_less (suc n) p P Q h k = λ i e. ((λ c r l. (k i e).0 c r (h r l)), onward_less n p i P Q h (λ q A B g l. safe_less n q A B g l) (k i e).1)

    onward_sooner : (n p : ℕ) (i : Instr) (P : ℕ → Type 0) → ((q : ℕ) (A : ℕ → Type 0) → Safe t f body (suc n) q A → Safe t f body n q A)
        → Onward t f (Safe t f body (suc n)) p i P → Onward t f (Safe t f body n) p i P
    onward_sooner n p (instr.Const d c) P go k = go (p + 1) (After t (instr.Const d c) P) k
    onward_sooner n p (instr.Move d s) P go k = go (p + 1) (After t (instr.Move d s) P) k
    onward_sooner n p (instr.Share d s) P go k = go (p + 1) (After t (instr.Share d s) P) k
    onward_sooner n p (instr.Clear rs) P go k = go (p + 1) (After t (instr.Clear rs) P) k
    onward_sooner n p (instr.Arith d op a b) P go k = go (p + 1) (After t (instr.Arith d op a b) P) k
    onward_sooner n p (instr.Compare d op a b) P go k = go (p + 1) (After t (instr.Compare d op a b) P) k
    onward_sooner n p (instr.Equal d a b) P go k = go (p + 1) (After t (instr.Equal d a b) P) k
    onward_sooner n p (instr.Not d a) P go k = go (p + 1) (After t (instr.Not d a) P) k
    onward_sooner n p (instr.Jump q) P go k = go q (After t (instr.Jump q) P) k
    onward_sooner n p (instr.Branch s q) P go k = (go (p + 1) (After t (instr.Branch s q) P) k.0, go q (After t (instr.Branch s q) P) k.1)
    onward_sooner n p (instr.Array d rs) P go k = go (p + 1) (After t (instr.Array d rs) P) k
    onward_sooner n p (instr.Record d m rs) P go k = go (p + 1) (After t (instr.Record d m rs) P) k
    onward_sooner n p (instr.Fill d v m) P go k = go (p + 1) (After t (instr.Fill d v m) P) k
    onward_sooner n p (instr.Len d a) P go k = go (p + 1) (After t (instr.Len d a) P) k
    onward_sooner n p (instr.Get d a i) P go k = go (p + 1) (After t (instr.Get d a i) P) k
    onward_sooner n p (instr.Field d a m) P go k = go (p + 1) (After t (instr.Field d a m) P) k
    onward_sooner n p (instr.Put a path v) P go k = go (p + 1) (After t (instr.Put a path v) P) k
    onward_sooner n p (instr.Kind d a m) P go k = go (p + 1) (After t (instr.Kind d a m) P) k
    onward_sooner n p (instr.Call d g rs) P go k = (k.0, go (p + 1) (After t (instr.Call d g rs) P) k.1)
    onward_sooner n p (instr.Return s) P go k = k
    onward_sooner n p (instr.Print a) P go k = go (p + 1) (After t (instr.Print a) P) k
    onward_sooner n p (instr.PrintInt a) P go k = go (p + 1) (After t (instr.PrintInt a) P) k

    -- one instruction less
    pub safe_sooner : (n p : ℕ) (P : ℕ → Type 0) → Safe t f body (suc n) p P → Safe t f body n p P
    safe_sooner zero p P k = tt
    safe_sooner (suc n) p P k = λ i e. ((k i e).0, onward_sooner n p i P (λ q A l. safe_sooner n q A l) (k i e).1)
