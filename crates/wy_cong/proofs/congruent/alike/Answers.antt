use Rattle.std.proofs.Common.{◌≡◌, ◌∙◌, ap, sym, length, List, ℕ, rules}
use Rattle.wy_term.specs.Nodes.{plain, tree_at}
use Rattle.wy_cong.specs.Seen.{terms_of}
use Rattle.wy_cong.proofs.HeadLemmas.{other_length}
use Rattle.wy_cong.proofs.congruent.alike.Goals as goal

pub returns-then-len : goal.returns-then-len
returns-then-len c =
    let at = tree_at c.args.terms.now in
    let apart : length c.in_ok-ss.ss.items ≡ length c.in_ok-ts.ts.items → ⊥ = search rules in
    other_length (terms_of at c.args.present.now) c.args.labels.now at (at c.args.s) (at c.args.t) (plain c.node.result.now) (plain c.node-2.result.now) c.node.ensures.tree c.node-2.ensures.tree
    (λ e. apart (ap (λ (ks : List ℕ). length ks) c.in_ok-ss.ensures.value ∙ (e ∙ sym (ap (λ (ks : List ℕ). length ks) c.in_ok-ts.ensures.value))))
