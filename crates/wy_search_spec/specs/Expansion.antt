-- What one round of expansion adds to a node.
use Rattle.std.specs.Prelude.{ℕ, zero, suc, ◌==◌, List, [], ◌∷◌, ◌++◌, Bool, true, false, ◌&&◌, ◌||◌, not, if◌then◌else◌, ℤ, pos, unsigned_abs, int_lt, Option, Some, None, is_some}
use Rattle.std.specs.Bool.{beq}
use Rattle.wy_check_spec.specs.wy_term.Term.{DataKind, null_kind, bool_kind, int_kind, array_kind, record_kind, Symbol, Term, Of, Parts, no_parts, part, leaf, one, Number, num, len, bool, array, update, get, int, of_kind, truth, null}
use Rattle.wy_check_spec.specs.wy_term.Data.{quotient_down}
use Rattle.wy_check_spec.specs.wy_term.Same.{same_term}
use Rattle.wy_check_spec.specs.wy_term.Condition.{Entry}
use Rattle.wy_check_spec.specs.wy_lin.Linear.{◌>>=◌, Linear}
use Rattle.wy_check_spec.specs.wy_lin.TermForm.{form_of, form_of_literal}
use Rattle.wy_check_spec.specs.wy_facts.Made.{made_one, is_equal, implies, either}
use Rattle.wy_check_spec.specs.wy_facts.Schema.{as_equation}
use Rattle.wy_check_spec.specs.judge.Node.{Literal, Node, has_literal, has_formula, added, with_formulas}
use Rattle.wy_check_spec.specs.valid.Literals.{formula_of}
use Rattle.wy_check_spec.specs.valid.Ranges.{Range, is_int, of_each, of_one, instance_at, witness, witnessed_at}
use Rattle.wy_check_spec.specs.valid.Membership.{fact_among}
use Rattle.wy_check_spec.specs.valid.Sums.{all_zero}
use Rattle.wy_check_spec.specs.valid.Products.{Affine, affine, as_product, product_of}
use Rattle.wy_search_spec.specs.Standing.{Standing, standing, standing_in, with_unbound, in_literals, in_formulas}

-- a node on a path of the search: the literals that had a witness and the names that were made for them, and how many rounds were made
pub record Spot : Type 0 where
  pub node : Node
  pub had : List Literal
  pub names : List Term
  pub rounds : ℕ

-- ---- 1: witnesses

abbrev pub with_witness : Spot → Literal → Option Range → Spot
with_witness p l None = p
with_witness p l (Some r) =
    if has_literal p.had l then p
    else record {
      node = with_formulas p.node (witnessed_at l.holds r (witness p.node r));
      had = p.had ++ l ∷ [];
      names = p.names ++ witness p.node r ∷ [];
      rounds = p.rounds;
    }

-- for each literal that calls for one and had none
abbrev pub with_witnesses : Spot → List Literal → Spot
with_witnesses p [] = p
with_witnesses p (l ∷ ls) = with_witnesses (with_witness p l (of_one l)) ls

-- ---- 2: instances

-- an index at its place
abbrev pub index_at : List Term → Term → List Standing
index_at around (Of get (part v (part i no_parts))) = record { what = i; around = around } ∷ []
index_at around (Of update (part v (part i (part w no_parts)))) = record { what = i; around = around } ∷ []
index_at around t = []

abbrev pub indices_in : List Standing → List Standing
indices_in [] = []
indices_in (s ∷ ss) = index_at s.around s.what ++ indices_in ss

abbrev pub everything : Node → List Standing
everything node = in_literals node.literals ++ in_formulas node.pending

-- those of the first that are among the second
abbrev pub among : List Term → List Term → List Term
among [] us = []
among (t ∷ ts) us = if has_formula us t then t ∷ among ts us else among ts us

abbrev pub only_int : List Term → List Term
only_int [] = []
only_int (t ∷ ts) = if is_int t then t ∷ only_int ts else only_int ts

-- the Int terms that are an index without bound names, or the name of a witness, by first appearance
abbrev pub index_terms : Spot → List Term
index_terms p = only_int (among (standing p.node) (with_unbound [] (indices_in (everything p.node)) ++ p.names))

abbrev pub with_instances_of : Node → Bool → Range → List Term → Node
with_instances_of node holds r [] = node
with_instances_of node holds r (t ∷ ts) = with_instances_of (added node (instance_at holds r t)) holds r ts

abbrev pub with_instances_by : Node → Bool → Option Range → List Term → Node
with_instances_by node holds None ts = node
with_instances_by node holds (Some r) ts = with_instances_of node holds r ts

-- for each literal that calls for one, at each of these terms
abbrev pub with_instances : Node → List Literal → List Term → Node
with_instances node [] ts = node
with_instances node (l ∷ ls) ts = with_instances (with_instances_by node l.holds (of_each l) ts) ls ts

-- ---- 3: facts

abbrev pub with_some : Node → Option Term → Node
with_some node None = node
with_some node (Some f) = added node f

-- the facts of a schema whose one argument is one of these
abbrev pub with_facts_of_one : List Entry → ℕ → Node → List Term → Node
with_facts_of_one types n node [] = node
with_facts_of_one types n node (t ∷ ts) = with_facts_of_one types n (with_some node (fact_among types n (t ∷ []))) ts

-- schema 1: of what each length is
abbrev pub measured : Term → List Term
measured (Of len (part v no_parts)) = v ∷ []
measured t = []

abbrev pub all_measured : List Term → List Term
all_measured [] = []
all_measured (t ∷ ts) = measured t ++ all_measured ts

-- schema 4: an element read from an array that is written out, with each number of an element
abbrev pub read_from : Term → Parts
read_from (Of get (part (Of array vs) (part i no_parts))) = vs
read_from t = no_parts

abbrev pub with_elements : Node → Term → ℕ → Parts → Node
with_elements node t k no_parts = node
with_elements node t k (part v vs) = with_elements (with_some node (fact_among [] 4 (t ∷ Number (pos k) ∷ []))) t (suc k) vs

abbrev pub with_all_elements : Node → List Term → Node
with_all_elements node [] = node
with_all_elements node (t ∷ ts) = with_all_elements (with_elements node t 0 (read_from t)) ts

-- schema 8: each pair of two different elements of one array
abbrev pub with_pairs_of : Node → Term → List Term → Node
with_pairs_of node t [] = node
with_pairs_of node t (u ∷ us) = with_pairs_of (if same_term t u then node else with_some node (fact_among [] 8 (t ∷ u ∷ []))) t us

abbrev pub with_pairs : Node → List Term → List Term → Node
with_pairs node all [] = node
with_pairs node all (t ∷ ts) = with_pairs (with_pairs_of node t all) all ts

-- schema 14: what a term of a kind is
abbrev pub equal_to : Term → Symbol → Term
equal_to v symbol = is_equal v (leaf symbol)

abbrev pub kind_says : Term → DataKind → Option Term
kind_says v null_kind = Some (implies (one (of_kind null_kind) v) (equal_to v null))
kind_says v bool_kind = Some (implies (one (of_kind bool_kind) v) (either (equal_to v (truth true)) (equal_to v (truth false))))
kind_says v int_kind = Some (implies (one (of_kind int_kind) v) (is_equal v (made_one int (made_one num v))))
kind_says v array_kind = None
kind_says v (record_kind names) = None

abbrev pub is_whole_kind : DataKind → Bool
is_whole_kind int_kind = true
is_whole_kind kind = false

abbrev pub has_standing : List Standing → Term → Bool
has_standing [] v = false
has_standing (s ∷ ss) v = if same_term s.what v then true else has_standing ss v

-- the term stands in an equation
abbrev pub in_equation : List Standing → Term → Bool
in_equation [] v = false
in_equation (s ∷ ss) v = (is_some (as_equation s.what) && has_standing (standing_in s.what) v) || in_equation ss v

abbrev pub of_kind_literal : Node → Term → DataKind → Option Term
of_kind_literal node v kind = if is_whole_kind kind && not (in_equation (everything node) v) then None else kind_says v kind

-- of a formula as a datum the whole fact; of the term of a kind literal that isn't denied, what its kind says
abbrev pub kind_fact : Node → Term → Option Term
kind_fact node (Of bool (part f no_parts)) = fact_among [] 14 (one bool f ∷ [])
kind_fact node (Of (of_kind kind) (part v no_parts)) =
    if has_literal node.literals (record { atom = one (of_kind kind) v; holds = true }) then of_kind_literal node v kind else None
kind_fact node t = None

-- the node is read as the facts before leave it nowhere but in `done`
abbrev pub with_kind_facts : Node → Node → List Term → Node
with_kind_facts node done [] = done
with_kind_facts node done (t ∷ ts) = with_kind_facts node (with_some done (kind_fact node t)) ts

abbrev pub with_facts_by : List Entry → Node → List Term → ℕ → Node → Node
with_facts_by types node ts n done =
    if n == 1 then with_facts_of_one types 1 done (all_measured ts)
    else (if n == 4 then with_all_elements done ts
    else (if n == 8 then with_pairs done ts ts
    else (if n == 14 then with_kind_facts node done ts
    else with_facts_of_one types n done ts)))

-- the schemas from a number on
abbrev pub with_schemas : List Entry → Node → List Term → ℕ → ℕ → Node → Node
with_schemas types node ts n zero done = done
with_schemas types node ts n (suc left) done = with_schemas types node ts (suc n) left (with_facts_by types node ts n done)

-- the facts of all schemas, in their order, of what stands in the node
abbrev pub with_facts : List Entry → Node → Node
with_facts types node = with_schemas types node (standing node) 1 16 node

-- ---- 4: products of bounds

-- a bound of a factor, and the number at which it stops, but for its sign
abbrev pub tighter : Option (Affine × ℤ) → Affine → ℤ → Option (Affine × ℤ)
tighter None x at = Some (x, at)
tighter (Some b) x at = if int_lt at b.1 then Some (x, at) else Some b

abbrev pub with_bound : Bool → Option (Affine × ℤ) → Option Affine → Option (Affine × ℤ)
with_bound below best None = best
with_bound below best (Some x) = if beq (int_lt (pos 0) x.factor) below then tighter best x (quotient_down x.more (unsigned_abs x.factor)) else best

-- the bound that a literal is of a factor with this form
abbrev pub bound_by_literal : Linear Term → Literal → Option Affine
bound_by_literal f l = form_of_literal (formula_of l) >>= λ h. affine f h

-- the tightest lower or upper bound, the first of equals
abbrev pub best_bound : Bool → Linear Term → Option (Affine × ℤ) → List Literal → Option (Affine × ℤ)
best_bound below f best [] = best
best_bound below f best (l ∷ ls) = best_bound below f (with_bound below best (bound_by_literal f l)) ls

abbrev pub bound_of : Node → Bool → Linear Term → Option Affine
bound_of node below f = best_bound below f None node.literals >>= λ b. Some b.0

abbrev pub with_product : Term → Term → Term → Node → Option Affine → Option Affine → Node
with_product p s t done None y = done
with_product p s t done (Some x) None = done
with_product p s t done (Some x) (Some y) = with_some done (product_of p s t x y)

abbrev pub with_four : Node → Term → Term → Term → Linear Term → Linear Term → Node → Node
with_four node p s t f g done =
    with_product p s t
    (with_product p s t
    (with_product p s t (with_product p s t done (bound_of node true f) (bound_of node true g)) (bound_of node true f) (bound_of node false g))
    (bound_of node false f) (bound_of node true g))
    (bound_of node false f) (bound_of node false g)

abbrev pub with_forms : Node → Term → Term → Term → Option (Linear Term) → Option (Linear Term) → Node → Node
with_forms node p s t None g done = done
with_forms node p s t (Some f) None done = done
with_forms node p s t (Some f) (Some g) done = if all_zero f.parts || all_zero g.parts then done else with_four node p s t f g done

abbrev pub with_products_of : Node → Term → Option (Term × Term) → Node → Node
with_products_of node p None done = done
with_products_of node p (Some u) done = with_forms node p u.0 u.1 (form_of u.0) (form_of u.1) done

abbrev pub with_products_by : Node → List Term → Node → Node
with_products_by node [] done = done
with_products_by node (t ∷ ts) done = with_products_by node ts (with_products_of node t (as_product t) done)

-- for each product that stands in the node, whose bounds are read from the node as it is
abbrev pub with_products : Node → Node
with_products node = with_products_by node (standing node) node

-- ---- a round

abbrev pub with_node : Spot → Node → Spot
with_node p node = record { node = node; had = p.had; names = p.names; rounds = p.rounds }

abbrev pub after_witnesses : List Entry → Spot → Spot
after_witnesses types p = with_node p (with_products (with_facts types (with_instances p.node p.node.literals (index_terms p))))

-- one round: witnesses, instances, facts, products, each read from the node as the item before left it
abbrev pub expanded : List Entry → Spot → Spot
expanded types p =
    let q = after_witnesses types (with_witnesses p p.node.literals) in
    record { node = q.node; had = q.had; names = q.names; rounds = suc p.rounds }
