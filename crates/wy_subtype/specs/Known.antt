-- What is known of the parts and conjuncts that a question reaches.
use Rattle.std.specs.Prelude.{◌≡◌, ◌≤◌, ℕ, List, [], ◌∷◌, ◌++◌, true, Some, slice_get, length, Ok, Err}
use Rattle.std.specs.declared.result.Result.{Result}
use Rattle.wy_canon.specs.declared.fault.TypeFault.{TypeFault}
use Rattle.wy_canon.specs.declared.fault.TypeFault.TheVariants.{TypeWide, NoMemory}
use Rattle.wy_canon.specs.wy_types.declared.conjuncts.Signed.{Signed}
use Rattle.wy_canon.specs.wy_types.declared.conjuncts.Conjunct.{Conjunct}
use Rattle.wy_canon.specs.wy_types.declared.table.Table.{Table}
use Rattle.wy_canon.specs.wy_types.Claims.{EachOf, AreDifferent}
use Rattle.wy_canon.specs.wy_types.Conjuncts.{dnf_part, narrow_part}
use Rattle.wy_canon.specs.wy_types.Asks as asks
use Rattle.wy_canon.specs.wy_types.Asks.{few_ways}
use Rattle.wy_canon.specs.wy_types.Reach.{Reaches}
use Rattle.wy_subtype.specs.declared.reach.Interned.{Interned}
use Rattle.wy_subtype.specs.declared.reach.InternedAll.{InternedAll}
use Rattle.wy_subtype.specs.declared.reach.Reach.{Reach}
use Rattle.wy_subtype.specs.declared.reach.Added.{Added}
use Rattle.wy_subtype.specs.declared.reach.AddedList.{AddedList}
use Rattle.wy_subtype.specs.declared.reach.AddedEach.{AddedEach}
use Rattle.wy_subtype.specs.declared.reach.AddedOptions.{AddedOptions}
use Rattle.wy_subtype.specs.Numbers.{Keeps, AreAt, AreEachAt, AreAllAt}

-- refused as wide only where this holds
abbrev pub WideOnly : {X : Type 0} → Result X TypeFault → Type 0 → Type 0
WideOnly (Ok x) W = Unit {0}
WideOnly (Err TypeWide) W = W
WideOnly (Err NoMemory) W = Unit {0}

-- what a conjunct asks
abbrev pub options_of : Table → ℕ → Conjunct ℕ → List (List (List (List (Signed ℕ))))
options_of table k c = asks.options_of table k c.positive c.negatives

pub record IsInterned (table : Table) (k : ℕ) (first : List (Signed ℕ)) (old : List (Conjunct ℕ)) (c : Conjunct ℕ) (x : Interned) : Type 0 where
  pub keeps : Keeps old x.conjuncts
  pub at : slice_get x.conjuncts x.number ≡ Some c
  pub different : AreDifferent x.conjuncts
  pub reached : EachOf (Reaches table k first) x.conjuncts

pub record AreInterned (table : Table) (k : ℕ) (first : List (Signed ℕ)) (old cs : List (Conjunct ℕ)) (x : InternedAll) : Type 0 where
  pub keeps : Keeps old x.conjuncts
  pub at : AreAt x.conjuncts x.numbers cs
  pub different : AreDifferent x.conjuncts
  pub reached : EachOf (Reaches table k first) x.conjuncts

-- the parts have the numbers of their conjuncts, and the first conjuncts those of what they ask and few ways
pub record IsKnown (table : Table) (k : ℕ) (first : List (Signed ℕ)) (r : Reach) : Type 0 where
  pub different : AreDifferent r.conjuncts
  pub reached : EachOf (Reaches table k first) r.conjuncts
  pub early : length r.asks ≤ length r.conjuncts
  pub counted : length r.heads ≡ length r.parts
  pub headed : (i : ℕ) (p : List (Signed ℕ)) (h : List ℕ) → slice_get r.parts i ≡ Some p → slice_get r.heads i ≡ Some h → AreAt r.conjuncts h (dnf_part table k p)
  pub narrow : (i : ℕ) (p : List (Signed ℕ)) → slice_get r.parts i ≡ Some p → narrow_part table k p ≡ true
  pub asked : (j : ℕ) (c : Conjunct ℕ) (a : List (List (List ℕ))) → slice_get r.conjuncts j ≡ Some c → slice_get r.asks j ≡ Some a → AreAllAt r.parts a (options_of table k c)
  pub few : (j : ℕ) (c : Conjunct ℕ) (a : List (List (List ℕ))) → slice_get r.conjuncts j ≡ Some c → slice_get r.asks j ≡ Some a → few_ways c ≡ true

pub record Grows (old new : Reach) : Type 0 where
  pub parts : Keeps old.parts new.parts
  pub conjuncts : Keeps old.conjuncts new.conjuncts
  pub asks : new.asks ≡ old.asks

pub record IsAdded (table : Table) (k : ℕ) (first : List (Signed ℕ)) (old : Reach) (p : List (Signed ℕ)) (x : Added) : Type 0 where
  pub known : IsKnown table k first x.reach
  pub grows : Grows old x.reach
  pub at : slice_get x.reach.parts x.number ≡ Some p

pub record AreAdded (table : Table) (k : ℕ) (first : List (Signed ℕ)) (old : Reach) (ps : List (List (Signed ℕ))) (x : AddedList) : Type 0 where
  pub known : IsKnown table k first x.reach
  pub grows : Grows old x.reach
  pub at : AreAt x.reach.parts x.numbers ps

pub record AreEachAdded (table : Table) (k : ℕ) (first : List (Signed ℕ)) (old : Reach) (ps : List (List (List (Signed ℕ)))) (x : AddedEach) : Type 0 where
  pub known : IsKnown table k first x.reach
  pub grows : Grows old x.reach
  pub at : AreEachAt x.reach.parts x.numbers ps

pub record AreAllAdded (table : Table) (k : ℕ) (first : List (Signed ℕ)) (old : Reach) (ps : List (List (List (List (Signed ℕ))))) (x : AddedOptions) : Type 0 where
  pub known : IsKnown table k first x.reach
  pub grows : Grows old x.reach
  pub at : AreAllAt x.reach.parts x.numbers ps

-- the same, with what the next conjunct asks
abbrev pub asking : Reach → List (List (List ℕ)) → Reach
asking r numbers = record { parts = r.parts; heads = r.heads; conjuncts = r.conjuncts; asks = r.asks ++ numbers ∷ [] }

-- all that the part reaches, with its own number
pub record IsReach (table : Table) (k : ℕ) (first : List (Signed ℕ)) (r : Reach) (n : ℕ) : Type 0 where
  pub known : IsKnown table k first r
  pub full : length r.asks ≡ length r.conjuncts
  pub few : length r.conjuncts ≤ 16384
  pub begins : slice_get r.parts n ≡ Some first
