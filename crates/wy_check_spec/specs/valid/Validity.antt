-- Which steps are valid at a node, to which nodes they lead, and which certificates are valid.
use Rattle.std.specs.Prelude.{◌≡◌, ℕ, ◌+◌, List, [], ◌∷◌, ◌++◌, Bool, Option, Some, None}
use Rattle.wy_facts.specs.Schema.{only_if}
use Rattle.wy_lin.specs.wy_term.Term.{Term}
use Rattle.wy_lin.specs.wy_term.Sorts.{Sort, int_sort, val_sort, formula_sort, sort_in}
use Rattle.wy_lin.specs.wy_term.Condition.{Entry, Condition}
use Rattle.wy_lin.specs.Linear.{◌>>=◌}
use Rattle.wy_facts.specs.Made.{is_at_most, is_equal}
use Rattle.wy_check_spec.specs.judge.Node.{Literal, Node, is_atom, added, denied_one, with_formulas, first_node}
use Rattle.wy_cert.specs.Steps.{Written, split, shut, chain, clash, sum_of, cut, inst, wit, fact, prod}
use Rattle.wy_check_spec.specs.valid.Literals.{literal_at, is_shut, is_chain, last_of}
use Rattle.wy_check_spec.specs.valid.Kinds.{clashes_alone, clash_together}
use Rattle.wy_check_spec.specs.valid.Sums.{summed, is_refuting, cut_of}
use Rattle.wy_check_spec.specs.valid.Ranges.{instance_stated, witness_stated}
use Rattle.wy_check_spec.specs.valid.Membership.{fact_among}
use Rattle.wy_check_spec.specs.valid.Products.{product_stated}

-- no node is left to be closed
abbrev pub closed : Option (List Node)
closed = Some []

-- the node with these formulas more is left
abbrev pub left_with : Node → List Term → Option (List Node)
left_with node fs = Some (with_formulas node fs ∷ [])

-- the node with this formula more is left
abbrev pub left_with_one : Node → Term → Option (List Node)
left_with_one node f = left_with node (f ∷ [])

-- two equal terms of this sort: an equation of Val terms, two bounds of Int terms
abbrev pub equality_of : Sort → Term → Term → Option (List Term)
equality_of val_sort s t = Some (is_equal s t ∷ [])
equality_of int_sort s t = Some (is_at_most s t ∷ is_at_most t s ∷ [])
equality_of formula_sort s t = None

-- what a chain of terms states: that its ends are equal
abbrev pub chain_stated : List Literal → List Term → Option (List Term)
chain_stated ls [] = None
chain_stated ls (t ∷ ts) = only_if (is_chain ls t ts) (equality_of (sort_in t) t (last_of t ts))

-- one literal, or two, can't be
abbrev pub is_clash : List Literal → ℕ → Option ℕ → Option Bool
is_clash ls i None = literal_at ls i >>= λ l. Some (clashes_alone l)
is_clash ls i (Some j) = literal_at ls i >>= λ l. literal_at ls j >>= λ k. Some (clash_together ls l k)

-- The nodes to which a step that is no product leads, where it is valid. The named types are those of the condition.
abbrev pub after_plain : List Entry → Node → Written → Option (List Node)
after_plain types node (split f) = only_if (is_atom f) (Some (added node f ∷ denied_one node f ∷ []))
after_plain types node shut = only_if (is_shut node) closed
after_plain types node (chain ts) = chain_stated node.literals ts >>= left_with node
after_plain types node (clash i other) = is_clash node.literals i other >>= λ b. only_if b closed
after_plain types node (sum_of pairs) = only_if (is_refuting (summed node.literals pairs)) closed
after_plain types node (cut d pairs) = summed node.literals pairs >>= λ f. cut_of d f >>= left_with_one node
after_plain types node (inst i t) = instance_stated node.literals i t >>= left_with_one node
after_plain types node (wit i) = witness_stated node i >>= left_with node
after_plain types node (fact n ts) = fact_among types n ts >>= left_with_one node
after_plain types node (prod i j p) = None

-- The same for each step.
abbrev pub after : List Entry → Node → Written → Option (List Node)
after types node (prod i j p) = product_stated node.literals i j p >>= left_with_one node
after types node step = after_plain types node step

-- ---- certificates

-- the number of a step that isn't valid, or else what is told of the nodes to which it leads
abbrev pub or_bad : ℕ → Option (List Node) → (List Node → Option ℕ) → Option ℕ
or_bad k None told = Some k
or_bad k (Some nodes) told = told nodes

-- Where these nodes are to be closed one after the other, each by a tree of steps in prefix order, and the next step has the number k: the number of the first step that isn't valid, or of the first one behind the last tree, or the one above the last where a tree isn't complete; None where all are closed.
abbrev pub first_bad_by : (Node → Written → Option (List Node)) → ℕ → List Node → List Written → Option ℕ
first_bad_by next k [] [] = None
first_bad_by next k [] (s ∷ steps) = Some k
first_bad_by next k (node ∷ nodes) [] = Some k
first_bad_by next k (node ∷ nodes) (s ∷ steps) = or_bad k (next node s) (λ below. first_bad_by next (k + 1) (below ++ nodes) steps)

-- the number of the first bad step of a certificate of the condition, from 1
abbrev pub first_bad : Condition → List Written → Option ℕ
first_bad c steps = first_bad_by (after c.types) 1 (first_node c ∷ []) steps

-- the same where no product is a step
abbrev pub first_bad_plain : Condition → List Written → Option ℕ
first_bad_plain c steps = first_bad_by (after_plain c.types) 1 (first_node c ∷ []) steps

-- the certificate with these steps is valid for the condition
abbrev pub IsValid : Condition → List Written → Type 0
IsValid c steps = first_bad c steps ≡ None
