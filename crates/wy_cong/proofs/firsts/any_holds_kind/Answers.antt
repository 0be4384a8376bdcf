use Rattle.std.proofs.Common.{◌≡◌, arith, false, nat_eq, rules}
use Rattle.std.specs.HashMap.{get}
use Rattle.wy_term.specs.Nodes.{tree_at}
use Rattle.wy_cong.specs.Seen.{terms_of}
use Rattle.wy_cong.proofs.FirstKindLemmas.{others_more}
use Rattle.wy_cong.proofs.firsts.any_holds_kind.Goals as goal

pub loop-i-init : goal.loop-i-init
loop-i-init c = λ j l. absurd (omega (arith, l))

pub loop-i-preserved : goal.loop-i-preserved
loop-i-preserved c =
    let at = tree_at c.args.terms.now in
    let un : c.holds_kind.result ≡ false = search rules in
    others_more (terms_of at c.args.present.now) c.args.labels.now at c.args.kinds.now (get nat_eq c.args.firsts.now) c.args.denied.now c.loop-i.i c.loop-i.invariant (c.holds_kind.ensures un)

pub returns : goal.returns
returns c = λ e j l. c.loop-i.invariant j (omega (arith, l))
