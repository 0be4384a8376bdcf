use Rattle.std.proofs.Common.{◌≡◌, ◌∙◌, All, IsTrue, List, false, true, ℕ, rules, sym, subst}
use Rattle.std.specs.Prelude.{IfOk}
use Rattle.wy_term.specs.Term.{Term}
use Rattle.wy_term.specs.Nodes.{plain, tree_at}
use Rattle.wy_prove_writable.specs.Listed.{ArePartsCopied, CanBeWritten, IsFoldedThere}
use Rattle.wy_prove_writable.proofs.CopyLemmas.{can_if, can_sorted, copied_node, copy_if, parts_can}
use Rattle.wy_prove_writable.proofs.listed.copied.Goals as goal

pub returns-then-not-sorted-clause-value : goal.returns-then-not-sorted-clause-value
returns-then-not-sorted-clause-value c = λ can.
    let both : false ≡ true = sym c.if-not-sorted.true ∙ c.requires.sorted.1 (can_sorted (tree_at c.args.terms.now c.args.number) can) in
    absurd cc

pub returns-in-None-clause-value : goal.returns-in-None-clause-value
returns-in-None-clause-value c = λ can.
    let none = rw c.in-None.is at c.in_ok-copied_parts.ensures.value in
    let parts : c.deref.result.now ≡ (plain c.node-node.result.now).parts = c.deref.ensures.value ∙ c.in_ok-parts.ensures.value in
    none (subst (λ (ks : List ℕ). All (λ k. CanBeWritten (tree_at c.args.terms.now k)) ks) (sym parts)
    (parts_can (tree_at c.args.terms.now) (plain c.node-node.result.now) (subst CanBeWritten c.node-node.ensures.tree can)))

pub returns-clause-value : goal.returns-clause-value
returns-clause-value c =
    let are : ArePartsCopied c.args.terms.now c.args.again.now c.deref.result.now c.in-Some.numbers.items = rw c.in-Some.is at c.in_ok-copied_parts.ensures.value in
    let parts : c.deref.result.now ≡ (plain c.node-node.result.now).parts = c.deref.ensures.value ∙ c.in_ok-parts.ensures.value in
    let in_range : IsTrue c.in_ok-is_in_range.field-0 = search rules in
    let sorted : IsTrue c.args.sorted = search rules in
    copy_if c.made_again.new.again (tree_at c.args.terms.now c.args.number) c.made_again.result
    (can_if c.args.terms.now c.args.again.now c.args.number c.node-node.result.now c.deref.result.now c.in-Some.numbers.items c.node-node.ensures.tree parts (c.in_ok-is_in_range.ensures.exactly.0 in_range) (c.requires.sorted.0 sorted) are)
    (subst (λ (u : Term). IfOk c.made_again.result (IsFoldedThere c.made_again.new.again u))
    (copied_node c.args.terms.now c.args.again.now c.args.number (plain c.node-node.result.now) c.deref.result.now c.deref-in-Some.result.now c.in-Some.numbers.items c.node-node.ensures.tree parts c.deref-in-Some.ensures.value are)
    c.made_again.ensures.value)
