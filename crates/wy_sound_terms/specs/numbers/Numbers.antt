-- A program whose expressions have numbers does what it does without them.
use Rattle.std.specs.Prelude.{◌≡◌, ℕ, List}
use Rattle.wy_term_subst.specs.wy_value.Datum.{Datum}
use Rattle.wy_vc_spec.specs.wy_core.CoreTree.{Core}
use Rattle.wy_vc_spec.specs.wy_sem.Evaluation.{evaluate}
use Rattle.wy_vc_spec.specs.Numbered.{Node, numbered_core}

-- where nodes have the places of their expressions
abbrev pub place_of : (ℕ → ℕ) → Node → ℕ
place_of place k = place k.at

abbrev pub NumbersChangeNothing : Type 0
NumbersChangeNothing = (place : ℕ → ℕ) (core : Core ℕ) (f : ℕ) (vs : List Datum) (ticks : ℕ) → evaluate (place_of place) (numbered_core core) f vs ticks ≡ evaluate place core f vs ticks
