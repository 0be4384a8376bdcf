use Rattle.std.proofs.Common.{◌≡◌, ◌∙◌, true, false, sym}
use Rattle.wy_term.specs.Nodes.{grown, plain, tree_at}
use Rattle.wy_term.specs.contracts.node.NodePartialEq.TheImpl.{eq-value}
use Rattle.wy_prove_writable.proofs.FoldedLemmas.{same_of_tree, tree_of_same}
use Rattle.wy_prove_writable.proofs.folding.folded_to_itself.Goals as goal

pub returns-then-eq : goal.returns-then-eq
returns-then-eq c =
    let equal : eq-value.it c.node.result.now c.args.node.now ≡ true = sym c.eq.ensures ∙ c.if-eq.true in
    let here : tree_at c.args.again.now c.args.number ≡ grown (tree_at c.args.again.now) (plain c.args.node.now) =
    tree_of_same c.args.again.now c.args.number c.node.result.now c.args.node.now c.node.ensures.tree equal in
    record { value = (c.requires.within, here, sym c.requires.value ∙ here) }

pub returns-else-eq : goal.returns-else-eq
returns-else-eq c = record {
  value = λ folded.
      let equal : eq-value.it c.node.result.now c.args.node.now ≡ true =
      same_of_tree c.args.again.now c.args.number c.node.result.now c.args.node.now c.one_number_for_each_term.ensures.one c.requires.within c.node.ensures.tree c.node.ensures.within c.requires.parts (c.requires.value ∙ folded) in
      let both : false ≡ true = sym c.if-eq.false ∙ (c.eq.ensures ∙ equal) in
      absurd cc;
}
