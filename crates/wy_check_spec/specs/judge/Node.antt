-- What a node of a certificate's tree has: literals, and formulas that are pending.
use Rattle.std.specs.Prelude.{List, [], ◌∷◌, ◌++◌, Bool, true, false, ◌&&◌, not, if◌then◌else◌}
use Rattle.std.specs.Bool.{beq}
use Rattle.wy_lin.specs.wy_term.Term.{Symbol, Term, Of, Parts, no_parts, part, Not, at_most, equal, of_kind, in_type, every, exists, denied, all_of, any_of}
use Rattle.wy_lin.specs.wy_term.Same.{same_term}
use Rattle.wy_lin.specs.wy_term.Condition.{Condition}

-- an atom, and whether it holds
pub record Literal : Type 0 where
  pub atom : Term
  pub holds : Bool

-- the two literals are equal
abbrev pub same_literal : Literal → Literal → Bool
same_literal l k = same_term l.atom k.atom && beq l.holds k.holds

-- the literal is one of the list
abbrev pub has_literal : List Literal → Literal → Bool
has_literal [] l = false
has_literal (k ∷ ks) l = if same_literal k l then true else has_literal ks l

-- the formula is one of the list
abbrev pub has_formula : List Term → Term → Bool
has_formula [] f = false
has_formula (g ∷ gs) f = if same_term g f then true else has_formula gs f

pub record Node : Type 0 where
  pub literals : List Literal
  pub pending : List Term

-- nothing is there yet
abbrev pub bare : Node
bare = record { literals = []; pending = [] }

-- one literal more, unless it is there
abbrev pub with_literal : Node → Literal → Node
with_literal node l = if has_literal node.literals l then node else record { literals = node.literals ++ l ∷ []; pending = node.pending }

-- one pending formula more, unless it is there
abbrev pub with_pending : Node → Term → Node
with_pending node f = if has_formula node.pending f then node else record { literals = node.literals; pending = node.pending ++ f ∷ [] }

-- a formula that is taken apart no further
abbrev pub is_atomic : Symbol → Bool
is_atomic at_most = true
is_atomic equal = true
is_atomic (of_kind kind) = true
is_atomic (in_type n) = true
is_atomic (every word n) = true
is_atomic (exists word n) = true
is_atomic symbol = false

abbrev pub is_atom : Term → Bool
is_atom (Of symbol ps) = is_atomic symbol

-- an atom becomes a literal with this sign; another formula becomes pending
abbrev pub with_atom : Node → Term → Bool → Term → Node
with_atom node f holds whole = if is_atom f then with_literal node (record { atom = f; holds = holds }) else with_pending node whole

abbrev mutual
  -- a formula more: the members of an `and` and the denied members of a denied `or` one after the other; an atom or its denial as a literal; any other as pending
  pub added : Node → Term → Node
  added node (Of all_of ps) = added_all node ps
  added node (Of denied (part f no_parts)) = added_denial node f
  added node t = with_atom node t true t

  -- the denial of a formula that is no denial
  pub added_denial : Node → Term → Node
  added_denial node (Of any_of ps) = denied_all node ps
  added_denial node t = with_atom node t false (Not t)

  -- the denial of a formula, where a denial of a denial is the formula
  pub denied_one : Node → Term → Node
  denied_one node (Of denied (part f no_parts)) = added node f
  denied_one node (Of any_of ps) = denied_all node ps
  denied_one node t = with_atom node t false (Not t)

  pub added_all : Node → Parts → Node
  added_all node no_parts = node
  added_all node (part f fs) = added_all (added node f) fs

  pub denied_all : Node → Parts → Node
  denied_all node no_parts = node
  denied_all node (part f fs) = denied_all (denied_one node f) fs

abbrev pub with_formulas : Node → List Term → Node
with_formulas node [] = node
with_formulas node (f ∷ fs) = with_formulas (added node f) fs

-- the node in which a certificate of the condition begins: the hypotheses in order, and then the denied goal
abbrev pub first_node : Condition → Node
first_node c = denied_one (with_formulas bare c.hyps) c.goal
