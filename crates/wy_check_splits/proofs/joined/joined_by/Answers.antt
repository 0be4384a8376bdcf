use Rattle.std.proofs.Common.{◌+◌, map, take, length, sym, subst, true, false}
use Rattle.wy_check_nodes.specs.wy_term.Nodes.{tree_at}
use Rattle.wy_check_nodes.specs.Seen.{seen_literal}
use Rattle.wy_check_splits.specs.Joined.{Notes}
use Rattle.wy_check_splits.proofs.JoinedLemmas.{signed_here, notes_more, notes_skip}
use Rattle.wy_check_splits.proofs.joined.joined_by.Goals as goal
use Rattle.wy_check_splits.proofs.joined.joined_by.Goals.{then-holds+in_ok-note, else-holds}

pub loop-i-preserved : goal.loop-i-preserved
loop-i-preserved c =
    let at = tree_at c.args.terms.now in
    let n = length c.args.terms.now in
    let ps = c.args.branch.now.literals.keys in
    let i = c.loop-i.i in
    let p = c.nth_literal-atom.result in
    elim c.if-holds.branch [
      | then-holds+in_ok-note w ↦ subst (Notes at n (map (seen_literal at) (take (i + 1) ps))) (sym w.joined-is) (notes_more at n ps i p.0 c.loop-i.joined w.note.new.joined (signed_here ps i p true c.nth_literal-atom.ensures.value w.if-holds.true) w.in_ok-note.ensures c.loop-i.invariant)
      | else-holds w ↦ subst (Notes at n (map (seen_literal at) (take (i + 1) ps))) (sym w.joined-is) (notes_skip at n ps i p.0 c.loop-i.joined (signed_here ps i p false c.nth_literal-atom.ensures.value w.if-holds.false) c.loop-i.invariant)
    ]
