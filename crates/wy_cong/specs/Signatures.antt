-- Numbers that are equal for congruent terms, and the classes of the terms that have them.
use Rattle.std.specs.Prelude.{◌≡◌, ℕ, ◌+◌, ◌*◌, ◌%◌, ◌^◌, ◌<◌, List, [], ◌∷◌, map, length, nat_eq, Bool, true, false, Option, Some, None, slice_index, ◌==◌, if◌then◌else◌, is_some, option_map}
use Rattle.std.specs.HashMap.{get}
use Rattle.wy_term.specs.Term as term
use Rattle.wy_term.specs.Term.{Symbol, Term}
use Rattle.wy_term.specs.Nodes.{Plain, grown, node_at, tree_at, HasPartsBelow}
use Rattle.wy_term.specs.Rewriting.{as_constant}
use Rattle.wy_search_spec.specs.Classes.{label_of, place_from}
use Rattle.wy_check_splits.specs.Constants.{datum_of}
use Rattle.wy_check_splits.specs.declared.constants.Constant.{Constant}
use Rattle.wy_cong.specs.Heads.{tag_of}
use Rattle.wy_cong.specs.declared.groups.Group.{Group}
use Rattle.wy_cong.specs.declared.groups.Group.TheVariants.{One, Several}
use Rattle.wy_cong.specs.declared.groups.Groups.{Groups}

-- ---- the class of a term as a number

-- the class with a label, or that of a number alone
abbrev pub class_or : Option ℕ → ℕ → ℕ
class_or None k = k * 2 + 1
class_or (Some l) k = l * 2

-- the class of the term that a number names, where `at` gives the term of a number
abbrev pub class_at : List Term → List ℕ → (ℕ → Term) → ℕ → ℕ
class_at ts labels at k = class_or (label_of labels (place_from ts (at k) 0)) k

-- ---- signatures

-- a number that hangs on two
abbrev pub mixed : ℕ → ℕ → ℕ
mixed key n = ((key * 11400714819323198485) % 2 ^ 64 + n) % 2 ^ 64

abbrev pub mixed_all : ℕ → List ℕ → ℕ
mixed_all key [] = key
mixed_all key (n ∷ ns) = mixed_all (mixed key n) ns

abbrev pub mixed_names : ℕ → List (List ℕ) → ℕ
mixed_names key [] = key
mixed_names key (n ∷ ns) = mixed_names (mixed_all key n) ns

-- the names of fields in a symbol
abbrev pub fields_in : Symbol → List (List ℕ)
fields_in (term.fields ns) = ns
fields_in (term.field n) = n ∷ []
fields_in (term.set_field n) = n ∷ []
fields_in symbol = []

abbrev pub head_number : Symbol → ℕ
head_number symbol = mixed_names (tag_of symbol) (fields_in symbol)

-- a number for the symbol of a node and the classes of its parts
abbrev pub signature : List Term → List ℕ → (ℕ → Term) → Plain → ℕ
signature ts labels at p = mixed_all (head_number p.symbol) (map (class_at ts labels at) p.parts)

-- the symbol is a name, a number, a truth value or null
abbrev pub is_leaf : Symbol → Bool
is_leaf (term.number z) = true
is_leaf (term.int_name w n) = true
is_leaf (term.val_name w n) = true
is_leaf term.null = true
is_leaf (term.truth b) = true
is_leaf symbol = false

-- ---- classes by signature

-- the class is among those that are noted
abbrev pub covers : Option Group → ℕ → Bool
covers None c = false
covers (Some (One d)) c = nat_eq d c
covers (Some Several) c = true

abbrev pub are_several : Option Group → Bool
are_several None = false
are_several (Some (One d)) = false
are_several (Some Several) = true

-- those that are noted, and one more
abbrev pub with_class : Option Group → ℕ → Group
with_class None c = One c
with_class (Some (One d)) c = if d == c then One d else Several
with_class (Some Several) c = Several

-- what was noted is noted
abbrev pub Keeps : (ℕ → Option Group) → (ℕ → Option Group) → Type 0
Keeps old new = (k c : ℕ) → covers (old k) c ≡ true → covers (new k) c ≡ true

-- the map with another group at a key
abbrev pub PutsGroup : (ℕ → Option Group) → (ℕ → Option Group) → ℕ → Group → Type 0
PutsGroup old new key group = (k : ℕ) → new k ≡ (if key == k then Some group else old k)

-- where it isn't said that a signature has several classes, none has
abbrev pub IsTold : Groups → Type 0
IsTold g = g.parted ≡ false → (k : ℕ) → are_several (get nat_eq g.found k) ≡ false

-- the term's class is noted with its signature, unless it has no parts
pub record IsGrouped (nodes : List Plain) (ts : List Term) (labels : List ℕ) (found : ℕ → Option Group) (k : ℕ) : Type 0 where
  pub within : k < length nodes
  pub tree : tree_at nodes k ≡ grown (tree_at nodes) (node_at nodes k)
  pub parts : HasPartsBelow (length nodes) (node_at nodes k)
  pub leaf : is_leaf (node_at nodes k).symbol ≡ true → (node_at nodes k).parts ≡ []
  pub noted : is_leaf (node_at nodes k).symbol ≡ false → covers (found (signature ts labels (tree_at nodes) (node_at nodes k))) (class_at ts labels (tree_at nodes) k) ≡ true

-- so for each of these numbers, of which no two name one term
pub record AreGrouped (nodes : List Plain) (ts : List Term) (labels : List ℕ) (ks : List ℕ) (g : Groups) : Type 0 where
  pub one : (s t : ℕ) → s < length nodes → t < length nodes → tree_at nodes s ≡ tree_at nodes t → s ≡ t
  pub each : (j : ℕ) → j < length ks → IsGrouped nodes ts labels (get nat_eq g.found) (slice_index ks j)
  pub told : IsTold g

-- the term's number is noted with its class, if it is a constant
pub record IsNoted (nodes : List Plain) (ts : List Term) (labels : List ℕ) (found : ℕ → Option Group) (k : ℕ) : Type 0 where
  pub within : k < length nodes
  pub constant : (c : Option Constant) × (option_map datum_of c ≡ as_constant (tree_at nodes k))
  pub noted : is_some (as_constant (tree_at nodes k)) ≡ true → covers (found (class_at ts labels (tree_at nodes) k)) k ≡ true
