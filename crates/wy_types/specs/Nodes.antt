-- Which nodes are the same, and lists that have each node once, in which a number names a term.
use Rattle.std.specs.Prelude.{◌≡◌, ℕ, ◌<◌, List, [], ◌∷◌, ◌++◌, Bool, true, false, ◌&&◌, ◌==◌, Some, slice_get, if◌then◌else◌, length}
use Rattle.std.specs.Hash as fed
use Rattle.std.specs.List.{list_any, position_or_len}
use Rattle.std.specs.Str.{bytes_eq}
use Rattle.wy_types.specs.declared.conjuncts.Signed.{Signed}
use Rattle.wy_types.specs.declared.conjuncts.Part.{Part}
use Rattle.wy_types.specs.declared.conjuncts.Atom.{Atom}
use Rattle.wy_types.specs.declared.conjuncts.Atom.TheVariants as atom
use Rattle.wy_types.specs.declared.conjuncts.Conjunct.{Conjunct}
use Rattle.wy_types.specs.declared.table.Node.{Node}
use Rattle.wy_types.specs.declared.table.Node.TheVariants as node
use Rattle.wy_types.specs.Conjuncts.{same_term}
use Rattle.wy_types.specs.Same.{same_conjuncts}

-- which form a node has
abbrev pub form_of : Node → ℕ
form_of node.Null = 0
form_of node.Bool = 1
form_of node.Int = 2
form_of node.Any = 3
form_of node.Void = 4
form_of (node.Record fs) = 5
form_of (node.Array t) = 6
form_of (node.Union a b) = 7
form_of (node.Inter a b) = 8
form_of (node.Not a) = 9
form_of (node.Named n) = 10
form_of (node.Normal cs) = 11

-- its one number, or the first of two; 0 where it has none
abbrev pub left_of : Node → ℕ
left_of (node.Array t) = t
left_of (node.Union a b) = a
left_of (node.Inter a b) = a
left_of (node.Not a) = a
left_of (node.Named n) = n
left_of _ = 0

-- the second of its two numbers
abbrev pub right_of : Node → ℕ
right_of (node.Union a b) = b
right_of (node.Inter a b) = b
right_of _ = 0

-- the fields of a record
abbrev pub fields_of : Node → List (List ℕ × ℕ)
fields_of (node.Record fs) = fs
fields_of _ = []

-- the conjuncts of a normal type
abbrev pub conjuncts_of : Node → List (Conjunct ℕ)
conjuncts_of (node.Normal cs) = cs
conjuncts_of _ = []

-- the same names with the same numbers
abbrev pub same_numbers : List (List ℕ × ℕ) → List (List ℕ × ℕ) → Bool
same_numbers [] [] = true
same_numbers (x ∷ xs) (y ∷ ys) = bytes_eq x.0 y.0 && ((x.1 == y.1) && same_numbers xs ys)
same_numbers _ _ = false

-- the two nodes are the same
abbrev pub same_node : Node → Node → Bool
same_node m n =
    (form_of m == form_of n)
    && ((left_of m == left_of n) && ((right_of m == right_of n) && (same_numbers (fields_of m) (fields_of n) && same_conjuncts same_term (conjuncts_of m) (conjuncts_of n))))

-- what a hash of the node reads
abbrev pub hash_input : Node → fed.HashWrites
hash_input n = fed.u32 (form_of n) ++ fed.u32 (left_of n) ++ fed.u32 (right_of n) ++ fed.slice (λ (f : List ℕ × ℕ). fed.str f.0 ++ fed.u32 f.1) (fields_of n) ++ fed.usize (length (conjuncts_of n))

-- the nodes with this one, which goes last where it isn't there
abbrev pub with_node : List Node → Node → List Node
with_node ns n = if list_any (same_node n) ns then ns else ns ++ n ∷ []

-- where the node stands in them
unfoldable pub place_of : List Node → Node → ℕ
place_of ns n = position_or_len (same_node n) ns

-- what has a number keeps it
abbrev pub Keeps : {X : Type 0} → List X → List X → Type 0
Keeps {X} old new = (i : ℕ) (x : X) → slice_get old i ≡ Some x → slice_get new i ≡ Some x

-- no node stands twice
abbrev pub AreOnce : List Node → Type 0
AreOnce ns = (i j : ℕ) (n : Node) → slice_get ns i ≡ Some n → slice_get ns j ≡ Some n → i ≡ j

-- the terms have numbers below this one
abbrev pub AreTermsBelow : ℕ → List (Signed ℕ) → Type 0
AreTermsBelow i [] = Unit {0}
AreTermsBelow i (s ∷ ss) = (s.term < i) × AreTermsBelow i ss

-- so for the parts of a record
abbrev pub ArePartsBelow : ℕ → List (List ℕ × Part ℕ) → Type 0
ArePartsBelow i [] = Unit {0}
ArePartsBelow i (f ∷ fs) = AreTermsBelow i f.1.terms × ArePartsBelow i fs

-- so for an atom
abbrev pub IsAtomBelow : ℕ → Atom ℕ → Type 0
IsAtomBelow i (atom.Array p) = AreTermsBelow i p.terms
IsAtomBelow i (atom.Record fs) = ArePartsBelow i fs
IsAtomBelow i _ = Unit {0}

-- so for atoms
abbrev pub AreAtomsBelow : ℕ → List (Atom ℕ) → Type 0
AreAtomsBelow i [] = Unit {0}
AreAtomsBelow i (a ∷ more) = IsAtomBelow i a × AreAtomsBelow i more

-- so for conjuncts
abbrev pub AreConjunctsBelow : ℕ → List (Conjunct ℕ) → Type 0
AreConjunctsBelow i [] = Unit {0}
AreConjunctsBelow i (c ∷ cs) = IsAtomBelow i c.positive × (AreAtomsBelow i c.negatives × AreConjunctsBelow i cs)

-- so for the fields of a record type
abbrev pub AreFieldsBelow : ℕ → List (List ℕ × ℕ) → Type 0
AreFieldsBelow i [] = Unit {0}
AreFieldsBelow i (f ∷ fs) = (f.1 < i) × AreFieldsBelow i fs

-- the parts of the node stand before it
abbrev pub IsAfterParts : ℕ → Node → Type 0
IsAfterParts i (node.Record fs) = AreFieldsBelow i fs
IsAfterParts i (node.Array t) = t < i
IsAfterParts i (node.Union a b) = (a < i) × (b < i)
IsAfterParts i (node.Inter a b) = (a < i) × (b < i)
IsAfterParts i (node.Not a) = a < i
IsAfterParts i (node.Normal cs) = AreConjunctsBelow i cs
IsAfterParts i _ = Unit {0}

-- so for each node
abbrev pub AreGrounded : List Node → Type 0
AreGrounded ns = (i : ℕ) (n : Node) → slice_get ns i ≡ Some n → IsAfterParts i n
