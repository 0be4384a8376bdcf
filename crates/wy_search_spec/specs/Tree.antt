-- The tree of the search, and its verdict.
use Rattle.std.specs.Prelude.{◌≡◌, ℕ, zero, suc, List, [], ◌∷◌, length, ◌==◌, nat_lt, Bool, ◌||◌, if◌then◌else◌, Option, Some, None}
use Rattle.wy_check_spec.specs.wy_term.Term.{Term}
use Rattle.wy_check_spec.specs.wy_term.Condition.{Entry, Condition}
use Rattle.wy_check_spec.specs.judge.Node.{Literal, Node, added, denied_one, first_node}
use Rattle.wy_check_spec.specs.valid.Literals.{is_shut}
use Rattle.wy_search_spec.specs.Classes.{clashes}
use Rattle.wy_search_spec.specs.Bounds.{Ending, refuted, consistent, crowded, wide, ending}
use Rattle.wy_search_spec.specs.Splitting.{next_atom}
use Rattle.wy_search_spec.specs.Expansion.{Spot, with_node, expanded}

-- why a leaf is open
pub data Why : Type 0 where
  still : Why
  is_crowded : Why
  is_wide : Why

-- what becomes of a node: it is closed, it is an open leaf, it splits, or it goes on expanded
pub data Next : Type 0 where
  closed : Next
  stays_open : Why → Next
  splits : Spot → Spot → Next
  goes_on : Spot → Next

abbrev pub why_open : Ending → Why
why_open refuted = still
why_open consistent = still
why_open crowded = is_crowded
why_open wide = is_wide

-- the round added something
abbrev pub is_more : Node → Node → Bool
is_more old new = nat_lt (length old.literals) (length new.literals) || nat_lt (length old.pending) (length new.pending)

abbrev pub unless_same : Spot → Spot → Ending → Next
unless_same old new e = if is_more old.node new.node then goes_on new else stays_open (why_open e)

-- at most two rounds on a path
abbrev pub on_expansion : List Entry → Spot → Ending → Next
on_expansion types p e = if nat_lt p.rounds 2 then unless_same p (expanded types p) e else stays_open (why_open e)

-- the true side first
abbrev pub on_atom : List Entry → Spot → Ending → Option Term → Next
on_atom types p e None = on_expansion types p e
on_atom types p e (Some a) = splits (with_node p (added p.node a)) (with_node p (denied_one p.node a))

abbrev pub by_ending : List Entry → Spot → Ending → Next
by_ending types p refuted = closed
by_ending types p consistent = on_atom types p consistent (next_atom p.node)
by_ending types p crowded = on_atom types p crowded (next_atom p.node)
by_ending types p wide = on_atom types p wide (next_atom p.node)

-- what becomes of a node, judged anew from its literals and pending formulas
abbrev pub next : List Entry → Spot → Next
next types p = if is_shut p.node || clashes p.node then closed else by_ending types p (ending p.node)

pub data Verdict : Type 0 where
  found : (leaves : ℕ) → Verdict
  open_leaf : (leaf : ℕ) (why : Why) (literals : List Literal) → Verdict
  spent : Verdict

-- what follows at a node when n leaves were passed, where the rest goes on by this
abbrev pub follows : Next → ℕ → Spot → List Spot → (ℕ → List Spot → Option Verdict) → Option Verdict
follows closed n p ps go = go (suc n) ps
follows (stays_open why) n p ps go = Some (open_leaf (suc n) why p.node.literals)
follows (splits left right) n p ps go = go n (left ∷ right ∷ ps)
follows (goes_on q) n p ps go = go n (q ∷ ps)

abbrev pub one_turn : List Entry → ℕ → ℕ → List Spot → (ℕ → List Spot → Option Verdict) → Option Verdict
one_turn types budget n [] go = Some (found n)
one_turn types budget n (p ∷ ps) go = if n == budget then Some spent else follows (next types p) n p ps go

-- So many leaves were passed, none of them open, and these nodes are to come, from left to right: the verdict, where so many turns are enough for it.
abbrev pub searched : List Entry → ℕ → ℕ → ℕ → List Spot → Option Verdict
searched types budget zero n ps = None
searched types budget (suc turns) n ps = one_turn types budget n ps (λ m qs. searched types budget turns m qs)

-- the node in which the search of a condition begins
abbrev pub first_spot : Condition → Spot
first_spot c = record { node = first_node c; had = []; names = []; rounds = 0 }

-- the verdict of the search of a condition: that of as many turns as it takes
abbrev pub IsVerdict : Condition → ℕ → Verdict → Type 0
IsVerdict c budget v = (turns : ℕ) × (searched c.types budget turns 0 (first_spot c ∷ []) ≡ Some v)

-- a condition has one verdict at a budget
abbrev pub OneVerdict : Type 0
OneVerdict = (c : Condition) (budget : ℕ) (v w : Verdict) → IsVerdict c budget v → IsVerdict c budget w → v ≡ w
