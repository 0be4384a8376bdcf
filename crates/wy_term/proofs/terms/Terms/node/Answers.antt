use Rattle.std.proofs.Common.{◌≡◌, sym, rules}
use Rattle.wy_term.specs.Nodes.{plain, node_at}
use Rattle.wy_term.proofs.NodesLemmas.{AreNodes-same, tree_of_read, parts_of_read}
use Rattle.wy_term.proofs.terms.Terms.node.Goals as goal

pub returns-clause-tree : goal.returns-clause-tree
returns-clause-tree c =
    let read : plain c.node_at.result.now ≡ node_at c.args.self.now c.args.term = search rules in
    tree_of_read c.args.self.now _ _ (AreNodes-same _ _ (sym c.self.view_is) c.self.invariant) c.requires read

pub returns-clause-within : goal.returns-clause-within
returns-clause-within c =
    let read : plain c.node_at.result.now ≡ node_at c.args.self.now c.args.term = search rules in
    parts_of_read c.args.self.now _ _ (AreNodes-same _ _ (sym c.self.view_is) c.self.invariant) c.requires read
