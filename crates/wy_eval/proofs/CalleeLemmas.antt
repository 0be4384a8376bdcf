-- Declarations by their numbers, and how many there are.
use Rattle.std.proofs.Common.{◌≡◌, ℕ, zero, suc, ◌+◌, List, [], ◌∷◌, map, length, drop, refl, ap, arith}
use Rattle.wy_core.specs.CoreSeen.{seen_decl}
use Rattle.wy_core.specs.CoreTree as tree
use Rattle.wy_core.specs.CoreTree.{routines_of}
use Rattle.wy_core.specs.declared.declarations.Decl.{Decl}
use Rattle.wy_core.specs.declared.declarations.Routine.{Routine}
use Rattle.wy_sem.specs.Evaluation.{Undeclared, callee}

-- the declared functions and methods from a place on
abbrev pub routines_from : ℕ → List Decl → List (tree.Routine ℕ)
routines_from i ds = routines_of (map seen_decl (drop i ds))

abbrev pub FindLeft : ℕ → List Decl → ℕ → ℕ → Type 0
FindLeft i ds left number = (callee (routines_from i ds) left ≡ callee (routines_of (map seen_decl ds)) number) × (length (routines_from i ds) + number ≡ length (routines_of (map seen_decl ds)) + left)

abbrev pub CountLeft : ℕ → List Decl → ℕ → Type 0
CountLeft i ds count = count + length (routines_from i ds) ≡ length (routines_of (map seen_decl ds))

-- ---- behind the last

pub callee_behind : (rs : List (tree.Routine ℕ)) (n k : ℕ) → n ≡ length rs + k → callee rs n ≡ callee [] k
callee_behind [] n k is =
    let sum : n ≡ 0 + k = is in
    let same : n ≡ k = omega arith in
    ap (λ j. callee [] j) same
callee_behind (r ∷ rs) zero k is =
    let l = length rs in
    let sum : 0 ≡ suc l + k = is in
    let none : ⊥ = omega arith in
    absurd none
callee_behind (r ∷ rs) (suc n) k is =
    let l = length rs in
    let sum : suc n ≡ suc l + k = is in
    let fewer : n ≡ l + k = omega arith in
    callee_behind rs n k fewer

pub undeclared : (k : ℕ) → (k ≡ 0 → ⊥) → (k ≡ 1 → ⊥) → callee {N = ℕ} [] k ≡ Undeclared
undeclared zero none one = absurd (none refl)
undeclared (suc zero) none one = absurd (one refl)
undeclared (suc (suc k)) none one = refl
