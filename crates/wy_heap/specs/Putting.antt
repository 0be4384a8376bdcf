-- What a write at a path does to the nodes, key by key.
use Rattle.std.specs.Prelude.{◌≡◌, ◌⊎◌, ℕ, ◌+◌, ◌≤◌, List, [], ◌∷◌, length, Option, Some, None, IsSome, slice_set, ⊤}
use Rattle.wy_heap.specs.declared.part.Part.{Part}
use Rattle.wy_heap.specs.declared.part.Part.TheVariants.{Null, Key}
use Rattle.wy_heap.specs.declared.heap.Heap.{Heap}
use Rattle.wy_heap.specs.Nodes.{Body, Map, map_of, at, count_at, held, form_in, parts_in}
use Rattle.wy_heap.specs.Slots.{Step, place_in, part_at}
use Rattle.wy_heap.specs.Copying.{raised, CopiesAsMany}

-- the part holds no node, or one with one holder
abbrev pub IsSole : Heap → Part → Type 0
IsSole h p = (k : ℕ) → p ≡ Key k → count_at h k ≡ 1

-- each node on the path has one holder
abbrev pub Sole : Heap → Part → List Step → Type 0
Sole h p [] = ⊤
Sole h p (s ∷ path) = IsSole h p × Sole h (part_at (map_of h) p s) path

-- where each node on the path has one holder no copy is counted; else no node goes, and as many come as
-- copies are counted
pub record CountsCopies (old new : Heap) (whole : Part) (path : List Step) : Type 0 where
  pub none : Sole old whole path → new.copies ≡ old.copies
  pub some : (Sole old whole path → ⊥) → CopiesAsMany old new

-- the node with another part where the step leads
abbrev pub with_step : Option Body → Step → Part → Option Body
with_step None s p = None
with_step (Some b) s p = Some (record { form = b.form; parts = slice_set b.parts (place_in b.form s) p })

-- the node was copied to a new key, with a part where the step leads from which the rest goes on
pub record CopiesTo (m n : Map) (whole : Part) (s : Step) (made : Part) (rest : Part → Type 0) : Type 0 where
  pub key : ℕ
  pub whole_is : whole ≡ Key key
  pub fresh : ℕ
  pub made_is : made ≡ Key fresh
  pub vacant : at m fresh ≡ None
  pub below : Part
  pub is : at n fresh ≡ with_step (at m key) s below
  pub goes_on : rest below

-- each node on the path was copied, with the next copy in its slot, and with the part in the last
abbrev pub CopiedAlong : Map → Map → Part → List Step → Part → Part → Type 0
CopiedAlong m n whole [] part made = made ≡ part
CopiedAlong m n whole (s ∷ path) part made = CopiesTo m n whole s made (CopiedAlong m n (part_at m whole s) path part)

-- the node was written in place, with a part where the step leads from which the rest goes on
pub record WritesIn (old : Heap) (new : Map) (whole : Part) (s : Step) (made : Part) (rest : Part → Type 0) : Type 0 where
  pub key : ℕ
  pub whole_is : whole ≡ Key key
  pub one : count_at old key ≡ 1
  pub made_is : made ≡ whole
  pub below : Part
  pub is : at new key ≡ with_step (at (map_of old) key) s below
  pub goes_on : rest below

-- the node has a second holder, and it and those below it on the path were copied
pub record CopiesFrom (old : Heap) (new : Map) (whole : Part) (path : List Step) (part made : Part) (copies : ℕ) : Type 0 where
  pub many : IsSole old whole → ⊥
  pub copied : CopiedAlong (map_of old) new whole path part made
  pub as_many : copies ≡ length path

-- the nodes on the path were written in place up to the first with a second holder, and so many copied from there on
abbrev pub PutAlong : Heap → Map → Part → List Step → Part → ℕ → Part → Type 0
PutAlong h n whole [] part copies made = (made ≡ part) × (copies ≡ 0)
PutAlong h n whole (s ∷ path) part copies made =
    WritesIn h n whole s made (PutAlong h n (part_at (map_of h) whole s) path part copies)
    ⊎ CopiesFrom h n whole (s ∷ path) part made copies

-- the key's node is on the path, before the first with a second holder
abbrev pub IsInPlace : Heap → ℕ → Part → List Step → Type 0
IsInPlace h k whole [] = ⊥
IsInPlace h k whole (s ∷ path) = IsSole h whole × ((whole ≡ Key k) ⊎ IsInPlace h k (part_at (map_of h) whole s) path)

-- the whole write: what was made is put together along the path, every other node is as before or went, and
-- as many copies were counted as were made
pub record Puts (old new : Heap) (whole : Part) (path : List Step) (part made : Part) : Type 0 where
  pub copies : ℕ
  pub along : PutAlong old (map_of new) whole path part copies made
  pub others : (k : ℕ) → IsSome (at (map_of old) k) → (at (map_of new) k ≡ None) ⊎ (at (map_of new) k ≡ at (map_of old) k) ⊎ IsInPlace old k whole path
  pub counted : new.copies ≡ raised old.copies copies

-- the parts that a copy of the node shares, where the one where the step leads is left out
abbrev pub left_in : Map → Part → Step → List Part
left_in m (Key k) s = slice_set (parts_in (at m k)) (place_in (form_in (at m k)) s) Null
left_in m _ s = []

-- how many holds on a key the copies of all nodes on the path add
abbrev pub copied_holds : ℕ → Map → Part → List Step → ℕ
copied_holds k m whole [] = 0
copied_holds k m whole (s ∷ path) = held k (left_in m whole s) + copied_holds k m (part_at m whole s) path

-- the copies of all nodes on the path take no key past the cap
abbrev pub RoomForCopies : Heap → Part → List Step → Type 0
RoomForCopies h whole path = (k : ℕ) → 1 ≤ copied_holds k (map_of h) whole path → count_at h k + copied_holds k (map_of h) whole path ≤ h.cap

-- the copies from the first node with a second holder on take no key past the cap
abbrev pub RoomAlong : Heap → Part → List Step → Type 0
RoomAlong h whole [] = ⊤
RoomAlong h whole (s ∷ path) =
    (IsSole h whole → RoomAlong h (part_at (map_of h) whole s) path)
    × ((IsSole h whole → ⊥) → RoomForCopies h whole (s ∷ path))

-- each node on the path was copied, and as many were counted
pub record CopiesAlong (old new : Heap) (whole : Part) (path : List Step) (part made : Part) : Type 0 where
  pub along : CopiedAlong (map_of old) (map_of new) whole path part made
  pub counted : new.copies ≡ raised old.copies (length path)
