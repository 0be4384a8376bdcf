-- What the map and the counts are after a change at one key.
use Rattle.std.proofs.Common.{◌≡◌, ◌≢◌, ◌⊎◌, ℕ, zero, suc, ◌≤◌, ◌<◌, List, [], ◌∷◌, map, get_or, set, Option, Some, None, IsSome, refl, sym, ◌∙◌, ap, subst, arith, inl, inr, count_by, is_some, cond}
use Rattle.std.proofs.lemmas.List.{map-set, set-get_or}
use Rattle.std.proofs.lemmas.List.Sums.{sum_by-cons}
use Rattle.slab.specs.Slab.{get, slab_len, ContainsKey, with_value}
use Rattle.wy_value.specs.declared.shapes.Shapes.{Shapes}
use Rattle.wy_heap.specs.declared.part.Part.{Part}
use Rattle.wy_heap.specs.declared.part.Part.TheVariants.{Null, Bool, Int, Key}
use Rattle.wy_heap.specs.declared.node.Node.{Node}
use Rattle.wy_heap.specs.declared.heap.Heap.{Heap}
use Rattle.wy_heap.specs.Nodes.{Body, Map, body_of, map_of, at, count_of, count_at, size}
use Rattle.wy_heap.specs.Parts.{IsThere, IsBelow}
use Rattle.wy_heap.specs.Changing.{Changes}

get_or-map_to : {X Y : Type 0} (f : X → Y) (xs : List X) (i : ℕ) (d : X) → get_or (map f xs) i (f d) ≡ f (get_or xs i d)
get_or-map_to f [] i d = refl
get_or-map_to f (x ∷ xs) zero d = refl
get_or-map_to f (x ∷ xs) (suc i) d = get_or-map_to f xs i d

pub at-map_of : (h : Heap) (k : ℕ) → at (map_of h) k ≡ body_of h.shapes (get h.nodes k)
at-map_of h k = get_or-map_to (body_of h.shapes) h.nodes.slots k None

module _ (h n : Heap) (key : ℕ) (slot : Option Node) (changes : Changes h n key slot) where
  body-changed : (k : ℕ) → at (map_of n) k ≡ body_of h.shapes (get n.nodes k)
  body-changed k = at-map_of n k ∙ ap (λ (t : Shapes). body_of t (get n.nodes k)) changes.shapes

  pub at_changed : at (map_of n) key ≡ body_of h.shapes slot
  at_changed = body-changed key ∙ ap (body_of h.shapes) changes.updates.changed

  pub at_others : (k : ℕ) → k ≢ key → at (map_of n) k ≡ at (map_of h) k
  at_others k differ = body-changed k ∙ ap (body_of h.shapes) (changes.updates.others k differ) ∙ sym (at-map_of h k)

  pub count_changed : count_at n key ≡ count_of slot
  count_changed = ap count_of changes.updates.changed

  pub count_others : (k : ℕ) → k ≢ key → count_at n k ≡ count_at h k
  count_others k differ = ap count_of (changes.updates.others k differ)

-- a write of the count or of the link alone keeps the map
pub map_of-recounted : (h : Heap) (key : ℕ) (old new : Node) → get h.nodes key ≡ Some old → body_of h.shapes (Some new) ≡ body_of h.shapes (Some old) → map (body_of h.shapes) (with_value h.nodes key new).slots ≡ map_of h
map_of-recounted h key old new was same =
    map-set (body_of h.shapes) h.nodes.slots key (Some new)
    ∙ ap (λ b. set (map_of h) key b) (same ∙ ap (body_of h.shapes) (sym was) ∙ sym (at-map_of h key))
    ∙ set-get_or (map_of h) key None

node_is : (t : Shapes) (o : Option Node) → IsSome (body_of t o) → IsSome o
node_is t None some = some
node_is t (Some n) some = refl

body_is : (t : Shapes) (o : Option Node) → IsSome o → IsSome (body_of t o)
body_is t None some = some
body_is t (Some n) some = refl

-- a key has a node exactly where the map has one
pub contains_from_at : (h : Heap) (k : ℕ) → IsSome (at (map_of h) k) → ContainsKey h.nodes k
contains_from_at h k some = node_is h.shapes (get h.nodes k) (subst IsSome (at-map_of h k) some)

pub at_from_contains : (h : Heap) (k : ℕ) → ContainsKey h.nodes k → IsSome (at (map_of h) k)
at_from_contains h k some = subst IsSome (sym (at-map_of h k)) (body_is h.shapes (get h.nodes k) some)

pub contains_same : (h n : Heap) (k : ℕ) → map_of n ≡ map_of h → ContainsKey h.nodes k → ContainsKey n.nodes k
contains_same h n k same some = contains_from_at n k (subst (λ (m : Map). IsSome (at m k)) (sym same) (at_from_contains h k some))

-- a key with a count has a node
node_counts : (t : Shapes) (o : Option Node) → 1 ≤ count_of o → IsSome (body_of t o)
node_counts t None some = absurd (omega arith)
node_counts t (Some n) some = refl

pub count_there : (h : Heap) (k : ℕ) → 1 ≤ count_at h k → IsSome (at (map_of h) k)
count_there h k some = subst IsSome (sym (at-map_of h k)) (node_counts h.shapes (get h.nodes k) some)

none_from_body : (t : Shapes) (o : Option Node) → body_of t o ≡ None → o ≡ None
none_from_body t None none = refl
none_from_body t (Some n) none = absurd (cc)

pub none_from_at : (h : Heap) (k : ℕ) → at (map_of h) k ≡ None → get h.nodes k ≡ None
none_from_at h k none = none_from_body h.shapes (get h.nodes k) (sym (at-map_of h k) ∙ none)

pub at_none : (h : Heap) (k : ℕ) → get h.nodes k ≡ None → at (map_of h) k ≡ None
at_none h k none = at-map_of h k ∙ ap (body_of h.shapes) none

pub count_none : (h : Heap) (k : ℕ) → at (map_of h) k ≡ None → count_at h k ≡ 0
count_none h k none = ap count_of (none_from_at h k none)

pub not_there : (o : Option Body) → o ≡ None → IsSome o → ⊥
not_there None e some = cc
not_there (Some b) e some = cc

pub some_or_none : (o : Option Body) → ((b : Body) × (o ≡ Some b)) ⊎ (o ≡ None)
some_or_none None = inr refl
some_or_none (Some b) = inl (b, refl)

pub there_from : (h : Heap) (p : Part) → ((k : ℕ) → p ≡ Key k → ContainsKey h.nodes k) → IsThere h p
there_from h Null from = tt
there_from h (Bool b) from = tt
there_from h (Int n) from = tt
there_from h (Key k) from = from k refl

pub below_from : (h : Heap) (most : ℕ) (p : Part) → ((k : ℕ) → p ≡ Key k → count_at h k < most) → IsBelow h most p
below_from h most Null from = tt
below_from h most (Bool b) from = tt
below_from h most (Int n) from = tt
below_from h most (Key k) from = from k refl

size_slots : (t : Shapes) (slots : List (Option Node)) → count_by is_some slots ≡ size (map (body_of t) slots)
size_slots t [] = refl
size_slots t (None ∷ rest) = omega (arith, size_slots t rest, sum_by-cons (λ (o : Option Node). cond (is_some o) 1 0) None rest)
size_slots t (Some n ∷ rest) = omega (arith, size_slots t rest, sum_by-cons (λ (o : Option Node). cond (is_some o) 1 0) (Some n) rest)

pub size-map_of : (h : Heap) → slab_len h.nodes ≡ size (map_of h)
size-map_of h = size_slots h.shapes h.nodes.slots
