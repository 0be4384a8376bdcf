use Rattle.std.proofs.Common.{◌≡◌, arith, false, nat_eq, rules}
use Rattle.std.specs.HashMap.{get}
use Rattle.wy_term.specs.Nodes.{tree_at}
use Rattle.wy_cong.specs.Seen.{terms_of}
use Rattle.wy_cong.proofs.FirstKindLemmas.{kinds_more}
use Rattle.wy_cong.proofs.firsts.first_kinds.Goals as goal

pub loop-i-init : goal.loop-i-init
loop-i-init c = λ i l. absurd (omega (arith, l))

pub loop-i-preserved : goal.loop-i-preserved
loop-i-preserved c =
    let at = tree_at c.args.terms.now in
    let un : c.in_ok-note_place.field-0 ≡ false = search rules in
    kinds_more (terms_of at c.args.present.now) c.args.labels.now at c.args.kinds.now (get nat_eq c.loop-i.firsts) (get nat_eq c.note_place.new.firsts) c.loop-i.i c.in_ok-note_place.ensures.kept c.loop-i.invariant (c.in_ok-note_place.ensures.here un)

pub returns : goal.returns
returns c = λ i l. c.loop-i.invariant i (omega (arith, l))
