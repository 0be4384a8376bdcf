-- Which terms can be written, and their numbers in another list.
use Rattle.std.proofs.Common.{◌≡◌, ◌∙◌, ℕ, suc, List, [], ◌∷◌, All, Option, Some, None, Result, Ok, Err, ap, refl, sym, subst, arith}
use Rattle.std.proofs.lemmas.List.Elements.{All-cons, All-head, All-nil, All-tail}
use Rattle.std.specs.Prelude.{IfOk}
use Rattle.wy_term.specs.Term.{Symbol, Term, Of}
use Rattle.wy_term.specs.Folding.{folded}
use Rattle.wy_term.specs.Nodes.{Plain, grown, of, parts_at, plain, tree_at}
use Rattle.wy_term.specs.Sorts.{sort_in}
use Rattle.wy_term.specs.declared.node.Node.{Node}
use Rattle.wy_term_subst.specs.sorted.Sorted.{IsSorted}
use Rattle.wy_term_text.specs.spell.Grammar.{IsInRange, layout}
use Rattle.wy_term_text.specs.reread.Folded.{AreFolded}
use Rattle.wy_prove_writable.specs.Listed.{ArePartsCopied, CanBeWritten, IsCopy, IsFoldedThere}
use Rattle.wy_prove_writable.proofs.LaidLemmas.{AreOwn, node_of, own_parts, sorted_of}

-- ---- parts

folded_parts : (at : ℕ → Term) (ks : List ℕ) → All (λ k. CanBeWritten (at k)) ks → AreFolded (parts_at at ks)
folded_parts at [] can = tt
folded_parts at (k ∷ ks) can = ((All-head (λ (i : ℕ). CanBeWritten (at i)) k ks can).0, folded_parts at ks (All-tail (λ (i : ℕ). CanBeWritten (at i)) k ks can))

own_of_all : (at : ℕ → Term) (ks : List ℕ) → All (λ k. CanBeWritten (at k)) ks → AreOwn (parts_at at ks)
own_of_all at [] can = tt
own_of_all at (k ∷ ks) can = ((All-head (λ (i : ℕ). CanBeWritten (at i)) k ks can).1, own_of_all at ks (All-tail (λ (i : ℕ). CanBeWritten (at i)) k ks can))

all_can : (at : ℕ → Term) (ks : List ℕ) → AreFolded (parts_at at ks) → AreOwn (parts_at at ks) → All (λ k. CanBeWritten (at k)) ks
all_can at [] folded own = All-nil (λ (i : ℕ). CanBeWritten (at i))
all_can at (k ∷ ks) folded own = All-cons (λ (i : ℕ). CanBeWritten (at i)) k ks (folded.0, own.0) (all_can at ks folded.1 own.1)

-- ---- nodes

pub can_by_parts : (at : ℕ → Term) (n : Node) → IsInRange (plain n).symbol → IsSorted (grown at (plain n)) → All (λ k. CanBeWritten (at k)) (plain n).parts → folded (grown at (plain n)) ≡ grown at (plain n) → CanBeWritten (grown at (plain n))
can_by_parts at n ranges sorted can is =
    ((is, folded_parts at (plain n).parts can), node_of at n ranges sorted (own_of_all at (plain n).parts can))

pub parts_can : (at : ℕ → Term) (p : Plain) → CanBeWritten (grown at p) → All (λ k. CanBeWritten (at k)) p.parts
parts_can at p can = all_can at p.parts can.0.1 (own_parts (parts_at at p.parts) (layout p.symbol) can.1.2)

pub can_sorted : (t : Term) → CanBeWritten t → IsSorted t
can_sorted t can = sorted_of t (sort_in t) can.1

pub can_folded : (t : Term) → CanBeWritten t → folded t ≡ t
can_folded (Of symbol ps) can = can.0.0

-- ---- copies

copy_of : (again : List Plain) (t : Term) (o : Option ℕ) → (folded t ≡ t → CanBeWritten t) → IsFoldedThere again t o → IsCopy again t o
copy_of again t None can there = λ written. there (can_folded t written)
copy_of again t (Some n) can there = (there.0, there.1, can there.2)

pub copy_if : (again : List Plain) (t : Term) {E : Type 0} (r : Result (Option ℕ) E) → (folded t ≡ t → CanBeWritten t) → IfOk r (IsFoldedThere again t) → IfOk r (IsCopy again t)
copy_if again t (Ok o) can there = copy_of again t o can there
copy_if again t (Err e) can there = tt

-- the parts of a node in the other list
copied_parts : (nodes again : List Plain) (parts numbers : List ℕ) → ArePartsCopied nodes again parts numbers → parts_at (tree_at again) numbers ≡ parts_at (tree_at nodes) parts
copied_parts nodes again [] [] are = refl
copied_parts nodes again [] (n ∷ ns) are = absurd (omega (arith, are.many))
copied_parts nodes again (k ∷ ks) [] are = absurd (omega (arith, are.many))
copied_parts nodes again (k ∷ ks) (n ∷ ns) are =
    let first : tree_at again n ≡ tree_at nodes k = (are.each 0 (omega arith)).1 in
    let rest : parts_at (tree_at again) ns ≡ parts_at (tree_at nodes) ks = copied_parts nodes again ks ns (record { many = omega (arith, are.many); each = λ j lt. are.each (suc j) (omega (arith, lt)) }) in
    cc

pub copied_tree : (nodes again : List Plain) (symbol : Symbol) (parts numbers : List ℕ) → ArePartsCopied nodes again parts numbers → grown (tree_at again) (of symbol numbers) ≡ grown (tree_at nodes) (of symbol parts)
copied_tree nodes again symbol parts numbers are = ap (Of symbol) (copied_parts nodes again parts numbers are)

pub all_copied : (nodes again : List Plain) (parts numbers : List ℕ) → ArePartsCopied nodes again parts numbers → All (λ k. CanBeWritten (tree_at nodes k)) parts
all_copied nodes again [] numbers are = All-nil (λ (k : ℕ). CanBeWritten (tree_at nodes k))
all_copied nodes again (k ∷ ks) [] are = absurd (omega (arith, are.many))
all_copied nodes again (k ∷ ks) (n ∷ ns) are =
    All-cons (λ (i : ℕ). CanBeWritten (tree_at nodes i)) k ks (are.each 0 (omega arith)).2
    (all_copied nodes again ks ns (record { many = omega (arith, are.many); each = λ j lt. are.each (suc j) (omega (arith, lt)) }))

-- a node with the numbers of its parts there
pub copied_node : (nodes again : List Plain) (t : ℕ) (p : Plain) (parts seen numbers : List ℕ) → tree_at nodes t ≡ grown (tree_at nodes) p → parts ≡ p.parts → seen ≡ numbers → ArePartsCopied nodes again parts numbers → grown (tree_at again) (of p.symbol seen) ≡ tree_at nodes t
copied_node nodes again t p parts seen numbers tree is_parts is_numbers are =
    ap (λ (ks : List ℕ). grown (tree_at again) (of p.symbol ks)) is_numbers
    ∙ (copied_tree nodes again p.symbol parts numbers are ∙ (ap (λ (ks : List ℕ). grown (tree_at nodes) (of p.symbol ks)) is_parts ∙ sym tree))

pub can_if : (nodes again : List Plain) (t : ℕ) (n : Node) (parts numbers : List ℕ) → tree_at nodes t ≡ grown (tree_at nodes) (plain n) → parts ≡ (plain n).parts → IsInRange (plain n).symbol → IsSorted (tree_at nodes t) → ArePartsCopied nodes again parts numbers → folded (tree_at nodes t) ≡ tree_at nodes t → CanBeWritten (tree_at nodes t)
can_if nodes again t n parts numbers tree is_parts ranges sorted are is =
    subst CanBeWritten (sym tree)
    (can_by_parts (tree_at nodes) n ranges (subst IsSorted tree sorted) (subst (λ (ks : List ℕ). All (λ k. CanBeWritten (tree_at nodes k)) ks) is_parts (all_copied nodes again parts numbers are)) (subst (λ (u : Term). folded u ≡ u) tree is))
