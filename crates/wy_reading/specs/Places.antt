-- Where the reading of a whole text stops.
use Rattle.std.specs.Prelude.{◌≡◌, ◌≢◌, ◌≤◌, ℕ, List, [], ◌∷◌, ◌++◌, length, ⊤, Result, Ok, Err}
use Rattle.wy_reading.specs.declared.stop.Stop.{Stop}
use Rattle.wy_reading.specs.declared.stop.Stop.TheVariants.{Unexpected, Fault, NoMemory}
use Rattle.wy_reading.specs.Mode.{Mode, Looser}
use Rattle.wy_reading.specs.Rule.{Rule}

module _ {S X A : Type 0} (R : Mode → Rule S X A) where
  -- the symbols are a text of the rule, which spells a
  abbrev pub IsText : Mode → List S → A → Type 0
  IsText n i a = (R n).reads i a []

  -- the symbols begin a text of the rule, in this mode or in a looser one
  abbrev pub CanGoOn : Mode → List S → Type 0
  CanGoOn n i = (m : Mode) × Looser n m × (more : List S) × (a : A) × IsText m (i ++ more) a

  -- no text begins with the front and the first symbol behind it, in any looser mode; the end counts as a symbol
  abbrev pub IsDead : Mode → List S → List S → Type 0
  IsDead n front [] = (m : Mode) → Looser n m → (a : A) → IsText m front a → ⊥
  IsDead n front (bad ∷ rest) = CanGoOn n (front ++ bad ∷ []) → ⊥

  -- what stands before the place begins a text, and with the symbol at the place it begins none
  pub record FirstBad (n : Mode) (i : List S) (left : ℕ) : Type 0 where
    pub front : List S
    pub back : List S
    pub cut : i ≡ front ++ back
    pub left_is : left ≡ length back
    pub alive : CanGoOn n front
    pub dead : IsDead n front back

  -- the stop stands where the rules put it
  abbrev pub IsPlace : Mode → List S → Stop X → Type 0
  IsPlace n i (Unexpected left) = FirstBad n i left
  IsPlace n i (Fault x left) = (R n).meets i x left
  IsPlace n i NoMemory = ⊤

-- no more symbols are left than there are
abbrev pub Within : {X : Type 0} → ℕ → Stop X → Type 0
Within all (Unexpected left) = left ≤ all
Within all (Fault x left) = left ≤ all
Within all NoMemory = ⊤

-- the answer that is wanted, or want of memory, which is the error `none`
abbrev pub Answers : {A Y : Type 0} → Y → Result A Y → Result A Y → Type 0
Answers none wanted (Ok a) = wanted ≡ Ok a
Answers none wanted (Err e) = e ≢ none → wanted ≡ Err e
