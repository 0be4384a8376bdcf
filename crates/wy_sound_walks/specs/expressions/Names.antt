-- What terms mean at names, and at all names that agree with these below a number: walks give new names the numbers from there on.
use Rattle.std.specs.Prelude.{◌≡◌, ℕ, ◌<◌, ◌==◌, List, [], ◌∷◌, Bool, true, false, ◌||◌, Some}
use Rattle.wy_value.specs.Datum.{Datum}
use Rattle.wy_term.specs.Term.{Term}
use Rattle.wy_term.specs.Meaning.{Names, sense}
use Rattle.wy_term.specs.Condition.{AllTrue}
use Rattle.wy_sound_terms.specs.wy_sem.Expressions.{Store, slot}
use Rattle.wy_sound_terms.specs.wy_vc_spec.Variables.{Vars}
use Rattle.wy_sound_terms.specs.wy_vc_spec.Values.{variable}

-- the second names stand for the same as the first where their numbers are below the count, and named types for the same data
pub record Agree (n : ℕ) (v w : Names) : Type 0 where
  pub datum_of : (word : List ℕ) (m : ℕ) → m < n → w.datum_of word m ≡ v.datum_of word m
  pub number_of : (word : List ℕ) (m : ℕ) → m < n → w.number_of word m ≡ v.number_of word m
  pub is_member : w.is_member ≡ v.is_member

-- the formulas hold, whatever names from the count on stand for
abbrev pub Known : ℕ → Names → List Term → Type 0
Known n v hyps = (w : Names) → Agree n v w → AllTrue w hyps

-- the term means the datum, whatever names from the count on stand for
abbrev pub Means : ℕ → Names → Term → Datum → Type 0
Means n v t d = (w : Names) → Agree n v w → (sense w t).datum ≡ d

abbrev pub AllMean : ℕ → Names → List Term → List Datum → Type 0
AllMean n v [] [] = Unit {0}
AllMean n v [] (d ∷ ds) = ⊥
AllMean n v (t ∷ ts) [] = ⊥
AllMean n v (t ∷ ts) (d ∷ ds) = Means n v t d × AllMean n v ts ds

-- each variable that may be used and has a value has a term that means it
abbrev pub Stand : ℕ → Names → Vars → (ℕ → Bool) → Store → Type 0
Stand n v vars seen s = (x : ℕ) (d : Datum) → seen x ≡ true → slot s x ≡ Some d → Means n v (variable vars x) d

-- one more variable may be used
abbrev pub also : ℕ → (ℕ → Bool) → ℕ → Bool
also x seen y = (x == y) || seen y

-- behind a step: where nothing is called no name changes, and else those from the count on may
abbrev pub Goes : Bool → ℕ → Names → Names → Type 0
Goes true n v w = w ≡ v
Goes false n v w = Agree n v w
