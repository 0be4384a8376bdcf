use Rattle.std.proofs.Common.{◌≡◌, true, false, rules}
use Rattle.wy_check_nodes.specs.wy_term.Nodes.{plain_kind}
use Rattle.wy_check_nodes.specs.wy_facts.Seen.{terms_at}
use Rattle.wy_check_splits.proofs.CommonLemmas.{pair_apart, if_common}
use Rattle.wy_check_splits.proofs.meeting.group_meets.Goals as goal

pub returns-then-not-kinds_are : goal.returns-then-not-kinds_are
returns-then-not-kinds_are c =
    let un : c.kinds_are.result ≡ false = search rules in
    pair_apart c.args.same (plain_kind c.args.g.now.kind) (plain_kind c.args.h.now.kind) (terms_at c.args.terms.now c.args.g.now.terms.items) (terms_at c.args.terms.now c.args.h.now.terms.items) c.kinds_are.result c.kinds_are.ensures un

pub returns : goal.returns
returns c =
    let up : c.kinds_are.result ≡ true = search rules in
    if_common c.args.same (plain_kind c.args.g.now.kind) (plain_kind c.args.h.now.kind) (terms_at c.args.terms.now c.args.g.now.terms.items) (terms_at c.args.terms.now c.args.h.now.terms.items) c.kinds_are.result c.have_common.result c.kinds_are.ensures up (search rules)
