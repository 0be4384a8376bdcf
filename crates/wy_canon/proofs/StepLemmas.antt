-- A term's conjuncts and sides, one step down.
use Rattle.std.proofs.Common.{◌≡◌, ℕ, zero, suc, ◌-◌, List, Bool, refl, ap, ◌∙◌, arith}
use Rattle.wy_types.specs.declared.conjuncts.Signed.{Signed}
use Rattle.wy_types.specs.declared.table.Node.{Node}
use Rattle.wy_types.specs.declared.table.Table.{Table}
use Rattle.wy_types.specs.Membership.{node_of}
use Rattle.wy_types.specs.Conjuncts.{node_sides, with_sides, node_dnf, dnf, narrow_node, narrow}

pub with_sides-step : (table : Table) (k : ℕ) (p : List (Signed ℕ)) (up inside : Bool) (t : ℕ) (n : Node) → (k ≡ 0 → ⊥) → n ≡ node_of table t
    → node_sides (with_sides table (k - 1)) p up inside t n ≡ with_sides table k p up inside t
with_sides-step table zero p up inside t n h e = absurd (h refl)
with_sides-step table (suc k) p up inside t n h e =
    ap (λ j. node_sides (with_sides table j) p up inside t n) less ∙ ap (λ m. node_sides (with_sides table k) p up inside t m) e
  where
    less : suc k - 1 ≡ k
    less = omega arith

pub dnf-step : (table : Table) (sides k : ℕ) (up inside : Bool) (t : ℕ) (n : Node) → (k ≡ 0 → ⊥) → n ≡ node_of table t
    → node_dnf table sides (dnf table sides (k - 1)) up inside n ≡ dnf table sides k up inside t
dnf-step table sides zero up inside t n h e = absurd (h refl)
dnf-step table sides (suc k) up inside t n h e =
    ap (λ j. node_dnf table sides (dnf table sides j) up inside n) less ∙ ap (λ m. node_dnf table sides (dnf table sides k) up inside m) e
  where
    less : suc k - 1 ≡ k
    less = omega arith

pub narrow-step : (table : Table) (sides k : ℕ) (up inside : Bool) (t : ℕ) (n : Node) → (k ≡ 0 → ⊥) → n ≡ node_of table t
    → narrow_node table (dnf table sides (k - 1)) (narrow table sides (k - 1)) up inside n ≡ narrow table sides k up inside t
narrow-step table sides zero up inside t n h e = absurd (h refl)
narrow-step table sides (suc k) up inside t n h e =
    ap (λ j. narrow_node table (dnf table sides j) (narrow table sides j) up inside n) less ∙ ap (λ m. narrow_node table (dnf table sides k) (narrow table sides k) up inside m) e
  where
    less : suc k - 1 ≡ k
    less = omega arith
