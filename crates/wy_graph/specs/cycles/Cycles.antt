-- Which nodes lead to which, and what labels tell of cycles.
use Rattle.std.specs.Prelude.{◌≡◌, ◌≤◌, ◌↔◌, ℕ, List, Option, Some, None, slice_get}
use Rattle.wy_graph.specs.declared.cycles.graph.Arrow.{Arrow}

-- arrows lead from the first node to the second: they are one node, or an arrow goes from the first to a node that leads to the second
pub data Leads (arrows : List Arrow) : ℕ → ℕ → Type 0 where
  stays : {a b : ℕ} → a ≡ b → Leads arrows a b
  goes : {a b : ℕ} (i : ℕ) (arrow : Arrow) → slice_get arrows i ≡ Some arrow → arrow.from ≡ a → Leads arrows arrow.to b → Leads arrows a b

abbrev pub or_zero : Option ℕ → ℕ
or_zero None = 0
or_zero (Some n) = n

-- the label of a node
abbrev pub label : List ℕ → ℕ → ℕ
label labels v = or_zero (slice_get labels v)

-- an arrow lies on a cycle, that is, its end leads to its beginning, exactly where both have one label
pub record TellCycles (arrows : List Arrow) (labels : List ℕ) : Type 0 where
  pub tells : (i : ℕ) (arrow : Arrow) → slice_get arrows i ≡ Some arrow → (label labels arrow.from ≡ label labels arrow.to) ↔ Leads arrows arrow.to arrow.from

-- no arrow leads to a lesser label
pub record Rise (arrows : List Arrow) (labels : List ℕ) : Type 0 where
  pub rises : (i : ℕ) (arrow : Arrow) → slice_get arrows i ≡ Some arrow → label labels arrow.from ≤ label labels arrow.to
