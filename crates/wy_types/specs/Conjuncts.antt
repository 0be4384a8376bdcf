-- The conjuncts of terms and of parts, and the width of the merges on the way to them.
use Rattle.std.specs.Prelude.{ℕ, zero, suc, List, [], ◌∷◌, Bool, true, false, cond, not, ◌&&◌, ◌||◌, ◌==◌, Option, Some, None}
use Rattle.wy_types.specs.declared.conjuncts.Signed.{Signed}
use Rattle.wy_types.specs.declared.conjuncts.Part.{Part}
use Rattle.wy_types.specs.declared.conjuncts.Atom.TheVariants as atom
use Rattle.wy_types.specs.declared.conjuncts.Conjunct.{Conjunct}
use Rattle.wy_types.specs.declared.table.Node.{Node}
use Rattle.wy_types.specs.declared.table.Node.TheVariants as node
use Rattle.wy_types.specs.declared.table.Definition.{Definition}
use Rattle.wy_types.specs.declared.table.Table.{Table}
use Rattle.wy_types.specs.Membership.{node_of, definition_of}
use Rattle.wy_types.specs.Same as same
use Rattle.wy_types.specs.Merge as merging
use Rattle.wy_types.specs.Merge.{part, nothing_or_all, all_or_nothing, atom_or_out, few_pairs, narrow_either, kinds}

-- two numbers are the same term
abbrev pub same_term : ℕ → ℕ → Bool
same_term x y = x == y

-- a term with a reading and a sign
abbrev pub signed : ℕ → Bool → Bool → Signed ℕ
signed t up inside = record { term = t; up = up; inside = inside }

-- the terms, and the sides of a node: a negation stands as what it denies, an intersection taken in and a union taken out as both of theirs,
-- and what is always so is dropped
abbrev pub node_sides : (List (Signed ℕ) → Bool → Bool → ℕ → List (Signed ℕ)) → List (Signed ℕ) → Bool → Bool → ℕ → Node → List (Signed ℕ)
node_sides at p up true t node.Any = p
node_sides at p up true t (node.Inter a b) = at (at p up true a) up true b
node_sides at p up false t (node.Union a b) = at (at p up false a) up false b
node_sides at p up inside t (node.Not a) = at p (not up) (not inside) a
node_sides at p up inside t _ = same.with_signed same_term p (signed t up inside)

-- the terms, and the sides of a term, taken apart no deeper than the number
abbrev pub with_sides : Table → ℕ → List (Signed ℕ) → Bool → Bool → ℕ → List (Signed ℕ)
with_sides table zero p up inside t = same.with_signed same_term p (signed t up inside)
with_sides table (suc k) p up inside t = node_sides (with_sides table k) p up inside t (node_of table t)

-- the fields of a record, each with the part that its term is
abbrev pub parts_of : Table → ℕ → Bool → List (List ℕ × ℕ) → List (List ℕ × Part ℕ)
parts_of table k up [] = []
parts_of table k up (f ∷ fs) = (f.0, part (with_sides table k [] up true f.1)) ∷ parts_of table k up fs

-- the conjuncts of what a name stands for
abbrev pub named_dnf : (Bool → Bool → ℕ → List (Conjunct ℕ)) → Bool → Bool → Option Definition → List (Conjunct ℕ)
named_dnf at up inside None = nothing_or_all inside
named_dnf at up inside (Some d) = cond (up || not d.constrained) (at up inside d.term) (nothing_or_all inside)

-- the conjuncts of a node, by those of other terms
abbrev pub node_dnf : Table → ℕ → (Bool → Bool → ℕ → List (Conjunct ℕ)) → Bool → Bool → Node → List (Conjunct ℕ)
node_dnf table k at up inside node.Null = atom_or_out inside atom.Null
node_dnf table k at up inside node.Bool = atom_or_out inside atom.Bool
node_dnf table k at up inside node.Int = atom_or_out inside atom.Int
node_dnf table k at up inside node.Any = all_or_nothing inside
node_dnf table k at up inside node.Void = nothing_or_all inside
node_dnf table k at up inside (node.Record fs) = atom_or_out inside (atom.Record (parts_of table k up fs))
node_dnf table k at up inside (node.Array t) = atom_or_out inside (atom.Array (part (with_sides table k [] up true t)))
node_dnf table k at up inside (node.Union a b) = merging.either same_term inside (at up inside a) (at up inside b)
node_dnf table k at up inside (node.Inter a b) = merging.either same_term (not inside) (at up inside a) (at up inside b)
node_dnf table k at up inside (node.Not a) = at (not up) (not inside) a
node_dnf table k at up inside (node.Named n) = named_dnf at up inside (definition_of table n)
node_dnf table k at up inside (node.Normal cs) = merging.normal_or_out same_term inside cs

-- the conjuncts of a term, names unfolded no deeper than the second number, parts taken apart no deeper than the first
abbrev pub dnf : Table → ℕ → ℕ → Bool → Bool → ℕ → List (Conjunct ℕ)
dnf table sides zero up inside t = nothing_or_all inside
dnf table sides (suc k) up inside t = node_dnf table sides (dnf table sides k) up inside (node_of table t)

-- the list merged with the conjuncts of each term
abbrev pub dnf_more : Table → ℕ → List (Conjunct ℕ) → List (Signed ℕ) → List (Conjunct ℕ)
dnf_more table k cs [] = cs
dnf_more table k cs (s ∷ ss) = dnf_more table k (merging.merge same_term cs (dnf table k k s.up s.inside s.term)) ss

-- the conjuncts of a part: those of its terms, merged from the left
abbrev pub dnf_part : Table → ℕ → List (Signed ℕ) → List (Conjunct ℕ)
dnf_part table k [] = kinds
dnf_part table k (s ∷ ss) = dnf_more table k (dnf table k k s.up s.inside s.term) ss

-- each merge on the way to what a name stands for has few pairs
abbrev pub narrow_named : (Bool → Bool → ℕ → Bool) → Bool → Bool → Option Definition → Bool
narrow_named n up inside None = true
narrow_named n up inside (Some d) = cond (up || not d.constrained) (n up inside d.term) true

-- each merge on the way to the conjuncts of a node has few pairs
abbrev pub narrow_node : Table → (Bool → Bool → ℕ → List (Conjunct ℕ)) → (Bool → Bool → ℕ → Bool) → Bool → Bool → Node → Bool
narrow_node table at n up inside node.Null = true
narrow_node table at n up inside node.Bool = true
narrow_node table at n up inside node.Int = true
narrow_node table at n up inside node.Any = true
narrow_node table at n up inside node.Void = true
narrow_node table at n up inside (node.Record fs) = true
narrow_node table at n up inside (node.Array t) = true
narrow_node table at n up inside (node.Union a b) = n up inside a && (n up inside b && narrow_either inside (at up inside a) (at up inside b))
narrow_node table at n up inside (node.Inter a b) = n up inside a && (n up inside b && narrow_either (not inside) (at up inside a) (at up inside b))
narrow_node table at n up inside (node.Not a) = n (not up) (not inside) a
narrow_node table at n up inside (node.Named m) = narrow_named n up inside (definition_of table m)
narrow_node table at n up inside (node.Normal cs) = merging.narrow_normal same_term inside cs

-- each merge on the way to the conjuncts of a term has few pairs
abbrev pub narrow : Table → ℕ → ℕ → Bool → Bool → ℕ → Bool
narrow table sides zero up inside t = true
narrow table sides (suc k) up inside t = narrow_node table (dnf table sides k) (narrow table sides k) up inside (node_of table t)

-- so for the terms behind the first ones
abbrev pub narrow_more : Table → ℕ → List (Conjunct ℕ) → List (Signed ℕ) → Bool
narrow_more table k cs [] = true
narrow_more table k cs (s ∷ ss) =
    narrow table k k s.up s.inside s.term
    && (few_pairs cs (dnf table k k s.up s.inside s.term) && narrow_more table k (merging.merge same_term cs (dnf table k k s.up s.inside s.term)) ss)

-- each merge on the way to the conjuncts of a part has few pairs
abbrev pub narrow_part : Table → ℕ → List (Signed ℕ) → Bool
narrow_part table k [] = true
narrow_part table k (s ∷ ss) = narrow table k k s.up s.inside s.term && narrow_more table k (dnf table k k s.up s.inside s.term) ss
