use Rattle.wy_cong.proofs.HeadLemmas.{other_first}
use Rattle.wy_cong.proofs.congruent.are_parted.Goals as goal
use Rattle.wy_cong.specs.Seen.{terms_of}
use Rattle.wy_term.specs.Nodes.{plain, tree_at}

pub returns-in-Some-Some : goal.returns-in-Some-Some
returns-in-Some-Some c =
    let at = tree_at c.args.terms.now in
    λ e. other_first (terms_of at c.args.present.now) c.args.labels.now at (at c.args.s) (at c.args.t) (plain c.node.result.now) (plain c.node-2.result.now) c.in-Some-Some.p c.in-Some-Some.q c.in_one_class.result c.node.ensures.tree c.node-2.ensures.tree c.in-Some-Some.ensures c.in-Some-Some.ensures' c.in_one_class.ensures e
