-- What an exact reader promises of every whole text.
use Rattle.std.specs.Prelude.{◌≡◌, ℕ, List, [], length, Ok, Err}
use Rattle.wy_reading.specs.declared.stop.Stop.{Stop}
use Rattle.wy_reading.specs.declared.stop.Stop.TheVariants.{Fault}
use Rattle.wy_reading.specs.Mode.{Mode}
use Rattle.wy_reading.specs.Rule.{Rule}
use Rattle.wy_reading.specs.Reader.{Reader}
use Rattle.wy_reading.specs.Places.{IsText, IsPlace, Within}

-- In the mode n the reader q of whole texts keeps to the rules R.
pub record Promise {S X A : Type 0} (n : Mode) (R : Mode → Rule S X A) (q : Mode → Reader S X A) : Type 0 where
  -- what is read is spelled so
  pub spells : (i : List S) (a : A) (j : List S) → q n i ≡ Ok (a, j) → IsText R n i a
  -- what is spelled so is read
  pub reads : (i : List S) (a : A) → IsText R n i a → q n i ≡ Ok (a, [])
  -- a text spells one value
  pub one_value : (i : List S) (a b : A) → IsText R n i a → IsText R n i b → a ≡ b
  -- a stop stands where the rules put it: at the first symbol after which no text goes on, or where its fault is met
  pub place : (i : List S) (y : Stop X) → q n i ≡ Err y → IsPlace R n i y
  -- a fault that is met is named, so a text meets one at most, and what meets one is no text
  pub names : (i : List S) (x : X) (k : ℕ) → (R n).meets i x k → q n i ≡ Err (Fault x k)
  -- no stop counts more symbols than there are
  pub within : (i : List S) (y : Stop X) → q n i ≡ Err y → Within (length i) y
