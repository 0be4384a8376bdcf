-- What holds of an answer behind a walk.
use Rattle.std.specs.Prelude.{ℕ, List, Bool}
use Rattle.wy_value.specs.Datum.{Datum}
use Rattle.wy_term.specs.Term.{Term}
use Rattle.wy_term.specs.Sorts.{val_sort}
use Rattle.wy_term.specs.Meaning.{Names}
use Rattle.wy_term_subst.specs.kept_sorts.SortKept.{HasSort}
use Rattle.wy_sound_walks.specs.expressions.Names.{Known, Means, Goes}

-- there are names behind the walk, at which its hypotheses hold and its term means the answer
pub record Ok (q : Bool) (n : ℕ) (names : Names) (m : ℕ) (hyps : List Term) (term : Term) (d : Datum) : Type 0 where
  pub later : Names
  pub goes : Goes q n names later
  pub known : Known m later hyps
  pub means : Means m later term d
  pub is : HasSort term val_sort
