use Rattle.std.proofs.Common.{◌≡◌, ◌∙◌, ap, sym, length, List, ℕ, rules}
use Rattle.wy_check_nodes.specs.wy_term.Nodes.{plain, tree_at}
use Rattle.wy_check_splits.proofs.ChainLemmas.{other_length}
use Rattle.wy_check_splits.proofs.alike.are_alike.Goals as goal

pub returns-then-len : goal.returns-then-len
returns-then-len c = λ ls notes.
    let apart : length c.in_ok-ss.ss.items ≡ length c.in_ok-ts.ts.items → ⊥ = search rules in
    other_length ls (tree_at c.args.terms.now) (tree_at c.args.terms.now c.args.s) (tree_at c.args.terms.now c.args.t) (plain c.node.result.now) (plain c.node-2.result.now) c.node.ensures.tree c.node-2.ensures.tree
    (λ e. apart (ap (λ (ks : List ℕ). length ks) c.in_ok-ss.ensures.value ∙ (e ∙ sym (ap (λ (ks : List ℕ). length ks) c.in_ok-ts.ensures.value))))
