-- What a quantifier states of one number, and which names a node has.
use Rattle.std.specs.Prelude.{ℕ, List, [], ◌∷◌, ◌++◌, Bool, true, false, if◌then◌else◌, Option, Some, None}
use Rattle.wy_facts.specs.Schema.{only_if}
use Rattle.wy_lin.specs.wy_term.Term.{Term, Of, no_parts, part, leaf, int_name, every, exists}
use Rattle.wy_lin.specs.wy_term.Sorts.{Sort, int_sort, val_sort, formula_sort, sort_in}
use Rattle.wy_lin.specs.Linear.{◌>>=◌}
use Rattle.wy_facts.specs.Made.{is_at_most, denial, one_of_three}
use Rattle.wy_facts.specs.wy_term_subst.Names.{numbers_in, new_number}
use Rattle.wy_facts.specs.wy_term_subst.Substitution.{substituted}
use Rattle.wy_check_spec.specs.judge.Node.{Literal, Node}
use Rattle.wy_check_spec.specs.valid.Literals.{literal_at}

-- ---- quantifiers

-- a bound name, its bounds, and the formula of which they are the range
pub record Range : Type 0 where
  pub word : List ℕ
  pub number : ℕ
  pub lower : Term
  pub upper : Term
  pub body : Term

abbrev pub as_every : Term → Option Range
as_every (Of (every w n) (part s (part t (part f no_parts)))) = Some (record { word = w; number = n; lower = s; upper = t; body = f })
as_every a = None

abbrev pub as_exists : Term → Option Range
as_exists (Of (exists w n) (part s (part t (part f no_parts)))) = Some (record { word = w; number = n; lower = s; upper = t; body = f })
as_exists a = None

-- the range of a true `all` or of a false `some`
abbrev pub of_each : Literal → Option Range
of_each l = if l.holds then as_every l.atom else as_exists l.atom

-- the range of a true `some` or of a false `all`
abbrev pub of_one : Literal → Option Range
of_one l = if l.holds then as_exists l.atom else as_every l.atom

-- a formula, or its denial
abbrev pub said : Bool → Term → Term
said true f = f
said false f = denial f

-- the body, or its denial, at an Int term
abbrev pub body_at : Bool → Range → Term → Term
body_at holds r t = said holds (substituted r.body (leaf (int_name r.word r.number)) t)

-- the term isn't in the range, or the body, or its denial, holds at it
abbrev pub instance_at : Bool → Range → Term → Term
instance_at holds r t = one_of_three (denial (is_at_most r.lower t)) (is_at_most r.upper t) (body_at holds r t)

abbrev pub is_int_sort : Sort → Bool
is_int_sort int_sort = true
is_int_sort val_sort = false
is_int_sort formula_sort = false

abbrev pub is_int : Term → Bool
is_int t = is_int_sort (sort_in t)

-- what the literal with this number states at an Int term
abbrev pub instance_stated : List Literal → ℕ → Term → Option Term
instance_stated ls i t = literal_at ls i >>= λ l. of_each l >>= λ r. only_if (is_int t) (Some (instance_at l.holds r t))

-- ---- names of a node

abbrev pub numbers_in_literals : List Literal → List ℕ
numbers_in_literals [] = []
numbers_in_literals (l ∷ ls) = numbers_in l.atom ++ numbers_in_literals ls

abbrev pub numbers_in_formulas : List Term → List ℕ
numbers_in_formulas [] = []
numbers_in_formulas (f ∷ fs) = numbers_in f ++ numbers_in_formulas fs

-- the numbers of the names in a node, free or bound
abbrev pub numbers_in_node : Node → List ℕ
numbers_in_node node = numbers_in_literals node.literals ++ numbers_in_formulas node.pending

-- the bound name with a number that no name of the node has
abbrev pub witness : Node → Range → Term
witness node r = leaf (int_name r.word (new_number (numbers_in_node node)))

-- a term is in the range, and the body, or its denial, holds at it
abbrev pub witnessed_at : Bool → Range → Term → List Term
witnessed_at holds r x = is_at_most r.lower x ∷ denial (is_at_most r.upper x) ∷ body_at holds r x ∷ []

-- what the literal with this number states of its witness
abbrev pub witness_stated : Node → ℕ → Option (List Term)
witness_stated node i = literal_at node.literals i >>= λ l. of_one l >>= λ r. Some (witnessed_at l.holds r (witness node r))
