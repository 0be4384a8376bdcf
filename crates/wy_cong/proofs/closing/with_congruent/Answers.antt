use Rattle.std.proofs.Common.{◌≡◌, true, rules}
use Rattle.wy_cong.proofs.HeadLemmas.{bare_stays}
use Rattle.wy_cong.proofs.closing.with_congruent.Goals as goal
use Rattle.wy_cong.specs.Seen.{terms_of}
use Rattle.wy_term.specs.Nodes.{plain, tree_at}

pub returns-then-is_bare : goal.returns-then-is_bare
returns-then-is_bare c =
    let at = tree_at c.args.terms.now in
    let ts = terms_of at c.args.present.now in
    let up : c.is_bare.result ≡ true = search rules in
    bare_stays ts c.args.labels.items at (at c.args.s) (plain c.node.result.now) ts c.node.ensures.tree (c.is_bare.ensures.parts up)
