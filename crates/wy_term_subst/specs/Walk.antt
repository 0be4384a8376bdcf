-- Where a walk is, and what it has made already.
use Rattle.std.specs.Prelude.{◌≡◌, ℕ, zero, suc, ◌+◌, ◌<◌, ◌≤◌, List, [], ◌∷◌, ◌++◌, All, length, map, drop, Bool, false, ◌&&◌, Option, Some, None, nat_eq, slice_index_or}
use Rattle.std.specs.HashSet.{contains}
use Rattle.std.specs.HashMap.{get}
use Rattle.wy_term.specs.Term.{Symbol, Term, Of, Parts, part}
use Rattle.wy_term.specs.Nodes.{Plain, tree_at, parts_at}
use Rattle.wy_term.specs.ReplacingView.{seen_pairs, AreBelow, is_name}
use Rattle.wy_term_subst.specs.declared.names.IntNames.{IntNames}
use Rattle.wy_term_subst.specs.declared.names.Taken.{Taken}
use Rattle.wy_term_subst.specs.declared.scope.Scope.{Scope}
use Rattle.wy_term_subst.specs.declared.walk.Open.{Open}
use Rattle.wy_term_subst.specs.declared.walk.Walk.{Walk}
use Rattle.wy_term_subst.specs.declared.walk.Next.{Next}
use Rattle.wy_term_subst.specs.declared.walk.Next.TheVariants as next
use Rattle.wy_term_subst.specs.Names.{stands_in}
use Rattle.wy_term_subst.specs.View.{symbol_at, Counts, same_name}
use Rattle.wy_term_subst.specs.Substitution.{Entered, env_at, finished, Put, put_of, put, put_parts}

-- ---- scopes

-- the pairs of the scope with this number
abbrev pub pairs_in : List Scope → ℕ → List (ℕ × ℕ)
pairs_in [] s = []
pairs_in (scope ∷ scopes) zero = scope.pairs.items
pairs_in (scope ∷ scopes) (suc s) = pairs_in scopes s

-- what names stand for there
abbrev pub env_in : List Plain → List Scope → ℕ → List (Term × Term)
env_in nodes scopes s = seen_pairs (tree_at nodes) (pairs_in scopes s)

-- the numbers in the scopes are below a bound
abbrev pub AreScopes : ℕ → List Scope → Type 0
AreScopes n [] = Unit {0}
AreScopes n (scope ∷ scopes) = AreBelow n scope.pairs.items × AreScopes n scopes

-- the old scopes, and behind them others
abbrev pub Grows : List Scope → List Scope → Type 0
Grows old new = (more : List Scope) × (new ≡ old ++ more)

-- the new scope with this number has these pairs
pub record Enters (old new : List Scope) (s : ℕ) (pairs : List (ℕ × ℕ)) : Type 0 where
  pub grows : Grows old new
  pub within : s < length new
  pub has : pairs_in new s ≡ pairs
  pub below : (n : ℕ) → AreBelow n pairs → AreScopes n old → AreScopes n new

-- ---- open terms

-- the number of the next part
abbrev pub next_of : Open → ℕ
next_of o = slice_index_or o.parts.items (length o.images.items) 0

pub record IsOpen (nodes : List Plain) (scopes : ℕ) (o : Open) : Type 0 where
  pub term : o.term < length nodes
  pub name : is_name (symbol_at nodes o.term) ≡ false
  pub parts : All (λ k. k < length nodes) o.parts.items
  pub images : All (λ k. k < length nodes) o.images.items
  pub count : length o.images.items ≤ length o.parts.items
  pub outer : o.outer < scopes
  pub inner : o.inner < scopes
  pub tree : tree_at nodes o.term ≡ Of (symbol_at nodes o.term) (parts_at (tree_at nodes) o.parts.items)

-- each of them has a part that isn't made yet
abbrev pub AreWaiting : List Plain → ℕ → List Open → Type 0
AreWaiting nodes scopes [] = Unit {0}
AreWaiting nodes scopes (o ∷ os) = IsOpen nodes scopes o × (length o.images.items < length o.parts.items) × AreWaiting nodes scopes os

-- these terms, and behind them parts
abbrev pub followed_by : List Term → Parts → Parts
followed_by [] ps = ps
followed_by (t ∷ ts) ps = part t (followed_by ts ps)

-- what comes of a term of which these parts are made, and those are not
abbrev pub completed : Term → Symbol → List (Term × Term) → List (Term × Term) → ℕ → List Term → Parts → List ℕ → Put
completed t symbol env inner number made rest taken =
    let all = put_parts t rest (length made) env inner taken in
    record { term = finished symbol env number (followed_by made all.parts); taken = all.taken }

-- what comes of an open term
abbrev pub outcome : List Plain → List Scope → Term → Open → List ℕ → Put
outcome nodes scopes t o taken =
    completed t (symbol_at nodes o.term) (env_in nodes scopes o.outer) (env_in nodes scopes o.inner) o.number (map (tree_at nodes) o.images.items) (parts_at (tree_at nodes) (drop (length o.images.items) o.parts.items)) taken

-- ---- what is asked

-- which term is to be made anew, what its names stand for, and which numbers are taken
pub record Ask : Type 0 where
  pub term : Term
  pub env : List (Term × Term)
  pub taken : List ℕ

abbrev pub ask_of : Term → List (Term × Term) → List ℕ → Ask
ask_of term env taken = record { term = term; env = env; taken = taken }

abbrev pub answer : Term → Ask → Put
answer t a = put t a.term a.env a.taken

-- what is asked of the next part
abbrev pub next_ask : List Plain → List Scope → Open → List ℕ → Ask
next_ask nodes scopes o taken = ask_of (tree_at nodes (next_of o)) (env_at (length o.images.items) (env_in nodes scopes o.outer) (env_in nodes scopes o.inner)) taken

-- what comes of the open term is what is asked
pub record Answers (nodes : List Plain) (scopes : List Scope) (t : Term) (base : ℕ) (o : Open) (ask : Ask) (now : List ℕ) : Type 0 where
  pub value : answer t ask ≡ outcome nodes scopes t o now
  pub term : ask.term ≡ tree_at nodes o.term
  pub env : ask.env ≡ env_in nodes scopes o.outer
  pub count : length ask.taken ≡ base + o.before

-- the first of these answers the first ask, each other what the one before it asks, and the last one asks for this
abbrev pub Waits : List Plain → List Scope → Term → ℕ → List Open → Ask → Ask → Type 0
Waits nodes scopes t base [] first ask = first ≡ ask
Waits nodes scopes t base (o ∷ os) first ask = (now : List ℕ) × Answers nodes scopes t base o first now × Waits nodes scopes t base os (next_ask nodes scopes o now) ask

-- ---- what was made

-- the term becomes this one, whatever numbers are taken, and takes none
abbrev pub IsStill : List Plain → Term → Term → List (Term × Term) → ℕ → Type 0
IsStill nodes t f env r = (ns : List ℕ) → put t f env ns ≡ put_of (tree_at nodes r) ns

abbrev pub same_place : ℕ × ℕ → ℕ × ℕ → Bool
same_place p q = nat_eq p.0 q.0 && nat_eq p.1 q.1

abbrev pub AreMadeBelow : ℕ → ℕ → (ℕ × ℕ → Option ℕ) → Type 0
AreMadeBelow nodes scopes lookup = (q s r : ℕ) → lookup (q, s) ≡ Some r → (q < nodes) × (s < scopes) × (r < nodes)

abbrev pub Remembers : List Plain → List Scope → Term → (ℕ × ℕ → Option ℕ) → Type 0
Remembers nodes scopes t lookup = (q s r : ℕ) → lookup (q, s) ≡ Some r → IsStill nodes t (tree_at nodes q) (env_in nodes scopes s) r

-- ---- the walk

-- all numbers in it are there
pub record Fits (nodes : List Plain) (w : Walk) : Type 0 where
  pub scopes : AreScopes (length nodes) w.scopes.items
  pub waiting : AreWaiting nodes (length w.scopes.items) w.waiting.items
  pub made : AreMadeBelow (length nodes) (length w.scopes.items) (get same_place w.made)

-- the names to be avoided are those that stand in the term
abbrev pub Avoids : IntNames → Term → Type 0
Avoids avoided t = (word : List ℕ) (n : ℕ) → contains same_name avoided.names (word, n) ≡ stands_in word n t

-- the walk waits for what is asked, and these numbers are taken
pub record Stands (nodes : List Plain) (w : Walk) (t : Term) (base : ℕ) (first ask : Ask) (now : List ℕ) : Type 0 where
  pub counts : Counts w.taken now
  pub count : length now ≡ base + w.new_names
  pub waits : Waits nodes w.scopes.items t base w.waiting.items first ask
  pub remembers : Remembers nodes w.scopes.items t (get same_place w.made)

-- a number, a scope and the numbers that are taken are those of a term that is gone into
pub record Bounds (nodes : List Plain) (w : Walk) (base : ℕ) (e : Entered) (n scope : ℕ) : Type 0 where
  pub number : n ≡ e.number
  pub inner : env_in nodes w.scopes.items scope ≡ e.inner
  pub counts : Counts w.taken e.taken
  pub count : length e.taken ≡ base + w.new_names

-- an open term with which the walk goes on
pub record GoesOn (nodes : List Plain) (w : Walk) (t : Term) (base : ℕ) (first : Ask) (o : Open) : Type 0 where
  pub ask : Ask
  pub now : List ℕ
  pub stands : Stands nodes w t base first ask now
  pub answers : Answers nodes w.scopes.items t base o ask now

-- what comes next is there
abbrev pub NextFits : List Plain → Walk → Next → Type 0
NextFits nodes w (next.Part o) = Fits nodes w × IsOpen nodes (length w.scopes.items) o
NextFits nodes w (next.Whole r) = r < length nodes

-- what comes next leads to what was asked first
abbrev pub Leads : List Plain → Walk → Term → ℕ → Ask → Next → Type 0
Leads nodes w t base first (next.Part o) = GoesOn nodes w t base first o
Leads nodes w t base first (next.Whole r) = tree_at nodes r ≡ (answer t first).term

-- the walk has other scopes behind the old ones, one of them the inner one, and is as it was else
pub record Enlarges (nodes : List Plain) (old new : Walk) (scope : ℕ) : Type 0 where
  pub grows : Grows old.scopes.items new.scopes.items
  pub inner : scope < length new.scopes.items
  pub scopes : AreScopes (length nodes) new.scopes.items
  pub waiting : new.waiting ≡ old.waiting
  pub made : new.made ≡ old.made

-- the open term answers the ask
pub record Opens (nodes : List Plain) (w : Walk) (t : Term) (base : ℕ) (o : Open) (ask : Ask) : Type 0 where
  pub now : List ℕ
  pub answers : Answers nodes w.scopes.items t base o ask now
  pub counts : Counts w.taken now
  pub count : length now ≡ base + w.new_names

-- nothing is made yet
pub record Begins (scope : Scope) (numbers : Taken) (w : Walk) : Type 0 where
  pub scopes : w.scopes.items ≡ scope ∷ []
  pub waiting : w.waiting.items ≡ []
  pub made : (p : ℕ × ℕ) → get same_place w.made p ≡ None
  pub taken : w.taken ≡ numbers
  pub new_names : w.new_names ≡ 0
