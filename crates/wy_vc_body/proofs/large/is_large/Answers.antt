use Rattle.wy_vc_body.proofs.LargeLemmas.{seen_next, wide_found, past_found, past_none, either_read}
use Rattle.wy_vc_body.proofs.large.is_large.Goals as goal

pub returns-then-pending-gt-MOST_NODES : goal.returns-then-pending-gt-MOST_NODES
returns-then-pending-gt-MOST_NODES c =
    let s = seen_next c.args.terms.now c.args.term c.loop-next.count c.in-Some.next c.loop-next.named c.either-named.result c.loop-next.left.items c.pop.new.self.items c.extend_from_slice.new.self.items c.in_ok-parts.parts.items c.as_slice.result.now _
    c.loop-next.invariant.0 c.in-Some.ensures.items c.node-node.ensures.tree c.node-node.ensures.within c.in_ok-parts.ensures.value c.as_slice.ensures.value c.in_ok-extend_from_slice.ensures.items
    (either_read _ _ _ _ c.either-named.ensures.value c.is_name.ensures.value) in
    record { value = wide_found _ _ _ _ _ _ s c.as_slice-pending.ensures.value c.if-pending-gt-MOST_NODES.true }

pub returns-then-is_past : goal.returns-then-is_past
returns-then-is_past c =
    let s = seen_next c.args.terms.now c.args.term c.loop-next.count c.in-Some.next c.loop-next.named c.either-named.result c.loop-next.left.items c.pop.new.self.items c.extend_from_slice.new.self.items c.in_ok-parts.parts.items c.as_slice.result.now _
    c.loop-next.invariant.0 c.in-Some.ensures.items c.node-node.ensures.tree c.node-node.ensures.within c.in_ok-parts.ensures.value c.as_slice.ensures.value c.in_ok-extend_from_slice.ensures.items
    (either_read _ _ _ _ c.either-named.ensures.value c.is_name.ensures.value) in
    record { value = past_found _ _ _ _ _ _ s c.as_slice-pending.ensures.value c.if-is_past.ensures.value }

pub loop-next-preserved : goal.loop-next-preserved
loop-next-preserved c =
    let s = seen_next c.args.terms.now c.args.term c.loop-next.count c.in-Some.next c.loop-next.named c.either-named.result c.loop-next.left.items c.pop.new.self.items c.extend_from_slice.new.self.items c.in_ok-parts.parts.items c.as_slice.result.now _
    c.loop-next.invariant.0 c.in-Some.ensures.items c.node-node.ensures.tree c.node-node.ensures.within c.in_ok-parts.ensures.value c.as_slice.ensures.value c.in_ok-extend_from_slice.ensures.items
    (either_read _ _ _ _ c.either-named.ensures.value c.is_name.ensures.value) in
    let few = past_none _ _ _ c.if-is_past.ensures.value in
    (s, few.0, few.1)
