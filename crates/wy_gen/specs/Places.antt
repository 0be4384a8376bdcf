-- Where the indices of a path are read.
use Rattle.std.specs.Prelude.{ℕ, List, map, Option, None}
use Rattle.wy_core.specs.CoreTree.{Step, IndexStep, FieldStep}
use Rattle.wy_live.specs.Sets.{Variables}
use Rattle.wy_code_spec.specs.compiled.Operands.{read}

-- the variable in whose register the index of a step is read, of an update behind which this is live
abbrev pub place_of : Step ℕ → Variables → Option ℕ
place_of (IndexStep at e) s = read e s
place_of (FieldStep at name) s = None

-- the same of each step of a path
abbrev pub places : List (Step ℕ) → Variables → List (Option ℕ)
places path s = map (λ y. place_of y s) path
