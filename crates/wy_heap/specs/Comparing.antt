-- Whether two parts stand for one datum, and what a comparison has left to do.
use Rattle.std.specs.Prelude.{◌≡◌, ◌≢◌, ℕ, ◌+◌, ◌*◌, ◌≤◌, ◌<◌, Bool as Boolean, true, false, List, [], ◌∷◌, ◌++◌, length, drop, ⊤}
use Rattle.wy_value.specs.Datum.{Datum}
use Rattle.wy_heap.specs.declared.part.Part.{Part}
use Rattle.wy_heap.specs.declared.part.Part.TheVariants.{Key}
use Rattle.wy_heap.specs.Nodes.{Map, at, form_in, parts_in}
use Rattle.wy_heap.specs.Meaning.{Means, IsMeant}
use Rattle.wy_heap.specs.Slots.{part_of}
use Rattle.wy_heap.specs.Weighing.{total, weight}

-- both stand for the same datum
abbrev pub Same : Map → Part → Part → Type 0
Same m a b = (d e : Datum) → Means m d a → Means m e b → d ≡ e

-- they stand for two data
abbrev pub Differ : Map → Part → Part → Type 0
Differ m a b = (d e : Datum) → Means m d a → Means m e b → d ≢ e

-- the answer is whether they stand for the same datum
abbrev pub Tells : Map → Part → Part → Boolean → Type 0
Tells m a b true = Same m a b
Tells m a b false = Differ m a b

-- two nodes, of which the parts from a place on are still to be compared
abbrev pub Pair : Type 0
Pair = ℕ × ℕ × ℕ

-- both nodes stand for a datum, and they have one form and as many parts
pub record IsPair (m : Map) (pair : Pair) : Type 0 where
  pub left : IsMeant m (Key pair.0)
  pub right : IsMeant m (Key pair.1)
  pub form : form_in (at m pair.0) ≡ form_in (at m pair.1)
  pub long : length (parts_in (at m pair.0)) ≡ length (parts_in (at m pair.1))

-- the parts from the place on stand for the same data
abbrev pub SameFrom : Map → Pair → Type 0
SameFrom m pair = (n : ℕ) → pair.2 ≤ n → Same m (part_of (at m pair.0) n) (part_of (at m pair.1) n)

abbrev pub ArePairs : Map → List Pair → Type 0
ArePairs m [] = ⊤
ArePairs m (pair ∷ pairs) = IsPair m pair × ArePairs m pairs

abbrev pub AreSame : Map → List Pair → Type 0
AreSame m [] = ⊤
AreSame m (pair ∷ pairs) = SameFrom m pair × AreSame m pairs

-- the work of comparing the parts of a node from the place on
abbrev pub pair_work : Map → Pair → ℕ
pair_work m pair = 1 + 2 * total (weight m) (drop pair.2 (parts_in (at m pair.0)))

abbrev pub pair_works : Map → List Pair → ℕ
pair_works m [] = 0
pair_works m (pair ∷ pairs) = pair_work m pair + pair_works m pairs

-- the claim is left to these pairs, which are less work
pub record Leaves (m : Map) (claim : Type 0) (most : ℕ) (old new : List Pair) : Type 0 where
  pub more : List Pair
  pub is : new ≡ old ++ more
  pub back : AreSame m more → claim
  pub forth : claim → AreSame m more
  pub pairs : ArePairs m more
  pub less : pair_works m more < most

-- the claim is left to pairs, or it is false
abbrev pub Compares : Map → Type 0 → ℕ → List Pair → List Pair → Boolean → Type 0
Compares m claim most old new true = Leaves m claim most old new
Compares m claim most old new false = claim → ⊥
