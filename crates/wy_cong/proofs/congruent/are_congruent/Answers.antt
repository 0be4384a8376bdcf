use Rattle.std.proofs.Common.{◌≡◌, rules}
use Rattle.wy_term.specs.Nodes.{plain, tree_at}
use Rattle.wy_cong.specs.Heads.{tag_of}
use Rattle.wy_cong.specs.Seen.{terms_of}
use Rattle.wy_cong.proofs.HeadLemmas.{other_tag}
use Rattle.wy_cong.proofs.congruent.are_congruent.Goals as goal

pub returns-then-tag : goal.returns-then-tag
returns-then-tag c =
    let at = tree_at c.args.terms.now in
    let apart : tag_of (plain c.node.result.now).symbol ≡ tag_of (plain c.node-2.result.now).symbol → ⊥ = search rules in
    other_tag (terms_of at c.args.present.now) c.args.labels.now at (at c.args.s) (at c.args.t) (plain c.node.result.now) (plain c.node-2.result.now) c.node.ensures.tree c.node-2.ensures.tree apart
