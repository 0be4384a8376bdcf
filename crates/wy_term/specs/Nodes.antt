-- Which tree a number names in a list of nodes, each made of earlier ones.
use Rattle.std.specs.Prelude.{◌≡◌, ℕ, suc, ◌<◌, List, [], ◌∷◌, ◌++◌, All, length, Bool, ◌&&◌, bytes_eq, pos, map, slice_index_or}
use Rattle.wy_term.specs.declared.node.Kind.{Kind}
use Rattle.wy_term.specs.declared.node.Kind.TheVariants as kind
use Rattle.wy_term.specs.declared.node.Node.{Node}
use Rattle.wy_term.specs.declared.node.Node.TheVariants as node
use Rattle.wy_term.specs.Term.{DataKind, null_kind, bool_kind, int_kind, array_kind, record_kind, Symbol, Term, Of, Parts, no_parts, part, Number}
use Rattle.wy_term.specs.Term as term
use Rattle.wy_term.specs.Same.{same_symbol}

-- a node as plain data: its symbol, and its parts by their numbers
pub record Plain : Type 0 where
  pub symbol : Symbol
  pub parts : List ℕ

abbrev pub of : Symbol → List ℕ → Plain
of symbol parts = record { symbol = symbol; parts = parts }

-- the plain data of a kind
abbrev pub plain_kind : Kind → DataKind
plain_kind kind.Null = null_kind
plain_kind kind.Bool = bool_kind
plain_kind kind.Int = int_kind
plain_kind kind.Array = array_kind
plain_kind (kind.Record fields) = record_kind fields.items

-- the plain data of a node
abbrev pub plain : Node → Plain
plain (node.Number z) = of (term.number z) []
plain (node.IntName word n) = of (term.int_name word n) []
plain (node.Add s t) = of term.add (s ∷ t ∷ [])
plain (node.Sub s t) = of term.sub (s ∷ t ∷ [])
plain (node.Neg s) = of term.neg (s ∷ [])
plain (node.Mul s t) = of term.mul (s ∷ t ∷ [])
plain (node.Div s t) = of term.div (s ∷ t ∷ [])
plain (node.Mod s t) = of term.rem (s ∷ t ∷ [])
plain (node.Num v) = of term.num (v ∷ [])
plain (node.Len v) = of term.len (v ∷ [])
plain (node.ValName word n) = of (term.val_name word n) []
plain node.Null = of term.null []
plain (node.Bool b) = of (term.truth b) []
plain (node.Int s) = of term.int (s ∷ [])
plain (node.Truth f) = of term.bool (f ∷ [])
plain (node.Array vs) = of term.array vs.items
plain (node.Repeat v s) = of term.repeat (v ∷ s ∷ [])
plain (node.Update v s w) = of term.update (v ∷ s ∷ w ∷ [])
plain (node.Get v s) = of term.get (v ∷ s ∷ [])
plain (node.Record fields) = of (term.fields (map (λ p. p.0) fields.items)) (map (λ p. p.1) fields.items)
plain (node.Field v name) = of (term.field name) (v ∷ [])
plain (node.SetField v name w) = of (term.set_field name) (v ∷ w ∷ [])
plain (node.AtMost s t) = of term.at_most (s ∷ t ∷ [])
plain (node.Equal v w) = of term.equal (v ∷ w ∷ [])
plain (node.Kind v k) = of (term.of_kind (plain_kind k)) (v ∷ [])
plain (node.In v n) = of (term.in_type n) (v ∷ [])
plain (node.All q) = of (term.every q.word q.number) (q.from ∷ q.below ∷ q.body ∷ [])
plain (node.Some q) = of (term.exists q.word q.number) (q.from ∷ q.below ∷ q.body ∷ [])
plain (node.Not f) = of term.denied (f ∷ [])
plain (node.And fs) = of term.all_of fs.items
plain (node.Or fs) = of term.any_of fs.items

-- the parts of a node are numbers below a bound
abbrev pub HasPartsBelow : ℕ → Plain → Type 0
HasPartsBelow bound n = All (λ k. k < bound) n.parts

-- the nodes, which have the numbers from this one on, are made of earlier ones
abbrev pub AreGrounded : ℕ → List Plain → Type 0
AreGrounded from [] = Unit {0}
AreGrounded from (n ∷ ns) = HasPartsBelow from n × AreGrounded (suc from) ns

-- the node with this number
abbrev pub node_at : List Plain → ℕ → Plain
node_at nodes t = slice_index_or nodes t (of (term.number (pos 0)) [])

-- the tree with this number in a list of trees
abbrev pub pick : List Term → ℕ → Term
pick trees t = slice_index_or trees t (Number (pos 0))

-- the trees of these numbers as parts, where `at` gives the trees
abbrev pub parts_at : (ℕ → Term) → List ℕ → Parts
parts_at at [] = no_parts
parts_at at (k ∷ ks) = part (at k) (parts_at at ks)

-- the tree of a node, where `at` gives the trees of its parts
abbrev pub grown : (ℕ → Term) → Plain → Term
grown at n = Of n.symbol (parts_at at n.parts)

-- these trees, and behind them those of the nodes that follow
abbrev pub trees_after : List Term → List Plain → List Term
trees_after trees [] = trees
trees_after trees (n ∷ ns) = trees_after (trees ++ grown (pick trees) n ∷ []) ns

-- the tree that a number names
unfoldable pub tree_at : List Plain → ℕ → Term
tree_at nodes t = pick (trees_after [] nodes) t

-- different numbers have different nodes
abbrev pub AreDistinct : List Plain → Type 0
AreDistinct nodes = (s t : ℕ) → s < length nodes → t < length nodes → node_at nodes s ≡ node_at nodes t → s ≡ t

-- each node is made of earlier ones, and none stands twice
pub record AreNodes (nodes : List Plain) : Type 0 where
  pub grounded : AreGrounded 0 nodes
  pub distinct : AreDistinct nodes

-- the old nodes, and behind them others
abbrev pub Extends : List Plain → List Plain → Type 0
Extends old new = (more : List Plain) × (new ≡ old ++ more)

-- where the node with this number is n; it stood there, or stands last
pub record Adds (old new : List Plain) (n : Plain) (t : ℕ) : Type 0 where
  pub within : t < length new
  pub here : node_at new t ≡ n
  pub extends : Extends old new
  pub nodes : (AreNodes old → HasPartsBelow (length old) n → AreNodes new)

-- the two nodes are equal
abbrev pub same_plain : Plain → Plain → Bool
same_plain p q = same_symbol p.symbol q.symbol && bytes_eq p.parts q.parts
