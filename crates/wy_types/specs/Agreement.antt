-- A table that says of a datum what the types do for which its numbers stand.
use Rattle.std.specs.Prelude.{◌≡◌, ℕ, List, [], ◌∷◌, Bool}
use Rattle.wy_core.specs.Types.{Ty}
use Rattle.wy_types.specs.declared.table.Node.{Node}
use Rattle.wy_types.specs.Shape.{Shape, NullShape, BoolShape, IntShape, ArrayShape, RecordShape}
use Rattle.wy_types.specs.Standing.{Stands}

-- a reader of numbers tells what a reader of types does
abbrev pub Agrees : List Node → (Bool → ℕ → Bool) → (Bool → Ty → Bool) → Type 0
Agrees ns r s = (up : Bool) (t : Ty) (n : ℕ) → Stands ns t n → r up n ≡ s up t

-- so one by one
abbrev pub AllAgree : List Node → List (Bool → ℕ → Bool) → List (Bool → Ty → Bool) → Type 0
AllAgree ns [] [] = Unit {0}
AllAgree ns (r ∷ rs) (s ∷ ss) = Agrees ns r s × AllAgree ns rs ss
AllAgree ns [] (s ∷ ss) = ⊥
AllAgree ns (r ∷ rs) [] = ⊥

-- so for what the parts of a value tell
pub data ShapesAgree (ns : List Node) : Shape ℕ → Shape Ty → Type 0 where
  nulls : ShapesAgree ns NullShape NullShape
  bools : ShapesAgree ns BoolShape BoolShape
  ints : ShapesAgree ns IntShape IntShape
  arrays : (rs : List (Bool → ℕ → Bool)) (ss : List (Bool → Ty → Bool)) → AllAgree ns rs ss → ShapesAgree ns (ArrayShape rs) (ArrayShape ss)
  records : (names : List (List ℕ)) (rs : List (Bool → ℕ → Bool)) (ss : List (Bool → Ty → Bool)) → AllAgree ns rs ss → ShapesAgree ns (RecordShape names rs) (RecordShape names ss)
