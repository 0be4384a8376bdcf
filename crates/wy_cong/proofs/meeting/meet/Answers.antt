use Rattle.std.proofs.Common.{◌≡◌, ◌∙◌, true, sym, rules}
use Rattle.wy_cong.proofs.AnyLemmas.{kinds_meet}
use Rattle.wy_cong.proofs.meeting.meet.Goals as goal
use Rattle.wy_cong.specs.Seen.{terms_of}
use Rattle.wy_term.specs.Nodes.{plain_kind, tree_at}

pub returns : goal.returns
returns c =
    let at = tree_at c.args.terms.now in
    let up : c.kinds_are.result ≡ true = search rules in
    kinds_meet c.args.same (terms_of at c.args.present.now) c.args.labels.now (at c.args.p.now.term) (at c.args.q.now.term) (plain_kind c.args.p.now.kind) (plain_kind c.args.q.now.kind) c.in_one_class.result (sym c.kinds_are.ensures ∙ up) c.in_one_class.ensures
