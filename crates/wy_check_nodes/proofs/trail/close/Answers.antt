use Rattle.std.proofs.Common.{◌∙◌, ap, sym, subst, length}
use Rattle.wy_check_spec.specs.wy_term.Nodes.{tree_at}
use Rattle.wy_check_nodes.specs.Trail.{second_nodes, open_nodes, AreWaiting}
use Rattle.wy_check_nodes.proofs.TrailLemmas.{closed_nodes, closed_waiting}
use Rattle.wy_check_nodes.proofs.trail.close.Goals as goal

pub add-requires-clause-branch : goal.add-requires-clause-branch
add-requires-clause-branch c = c.back_to.ensures.branch c.args.terms.now c.requires.trail.branch

pub returns-in_ok-add-in-Some-clause-nodes : goal.returns-in_ok-add-in-Some-clause-nodes
returns-in_ok-add-in-Some-clause-nodes c =
    let at = tree_at c.args.terms.now in
    let n = length c.args.terms.now in
    let b = c.args.trail.branch in
    let cut = c.back_to.new.branch in
    let made = c.add.new.branch in
    let ws = c.pop_front.new.self.items in
    let are = subst (AreWaiting n (length b.literals.keys) (length b.pending.keys)) c.in-Some.ensures.items c.requires.trail.waiting in
    ap (open_nodes at made ws) c.requires.«open» ∙ (closed_nodes at n b cut made c.in-Some.next ws (c.back_to.ensures.literals, c.back_to.ensures.pending) c.in_ok-add-in-Some.ensures.value c.in_ok-add-in-Some.ensures.grows are ∙ ap (second_nodes at b) (sym c.in-Some.ensures.items))

pub returns-in_ok-add-in-Some-clause-trail : goal.returns-in_ok-add-in-Some-clause-trail
returns-in_ok-add-in-Some-clause-trail c =
    let n = length c.args.terms.now in
    let b = c.args.trail.branch in
    let cut = c.back_to.new.branch in
    let made = c.add.new.branch in
    let ws = c.pop_front.new.self.items in
    let are = subst (AreWaiting n (length b.literals.keys) (length b.pending.keys)) c.in-Some.ensures.items c.requires.trail.waiting in
    record {
      branch = c.in_ok-add-in-Some.ensures.branch;
      waiting = closed_waiting n b cut made c.in-Some.next ws (c.back_to.ensures.literals, c.back_to.ensures.pending) c.in_ok-add-in-Some.ensures.grows are;
    }
