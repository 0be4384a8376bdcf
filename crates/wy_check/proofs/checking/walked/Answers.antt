use Rattle.std.proofs.Common.{◌≡◌, ◌<◌, ◌+◌, [], ◌∷◌, List, None, map, drop, length, sym, ap, subst, ◌∙◌, arith}
use Rattle.std.specs.Prelude.{IfSome}
use Rattle.wy_facts.proofs.SharedLemmas.{types_stay}
use Rattle.wy_lemmas.proofs.Choices.{not_false as open_if, not_true as closed_if}
use Rattle.wy_term.specs.Condition.{Entry, condition_of}
use Rattle.wy_term.specs.Nodes.{tree_at}
use Rattle.wy_vc_laws.specs.wy_check_spec.judge.Node.{Node}
use Rattle.wy_facts.proofs.StepLemmas.{stays_same, stays_on}
use Rattle.wy_check_splits.specs.wy_check_nodes.Seen.{seen_branch}
use Rattle.wy_cert.specs.Steps.{written}
use Rattle.wy_vc_laws.specs.wy_check_spec.valid.Validity.{after, first_bad_by}
use Rattle.wy_check_splits.specs.wy_check_nodes.Trail.{nodes_of, second_nodes, IsTrail}
use Rattle.wy_check.specs.Led.{IsTurned}
use Rattle.wy_check.proofs.TrailLemmas.{nodes_open, nodes_closed}
use Rattle.wy_check.proofs.WalkLemmas.{walk_closed, walk_invalid, walk_on, steps_at}
use Rattle.wy_check.proofs.checking.walked.Goals as goal

pub loop-step-init : goal.loop-step-init
loop-step-init c =
    let old = c.args.terms.now in
    let next = after (condition_of old c.args.cond.now).types in
    let steps = map (written (tree_at c.args.cert.now.terms)) c.args.cert.now.steps.items in
    record {
      so_far = ap (λ (ns : List Node). first_bad_by next 1 ns steps) (c.one_node-trail.ensures.nodes old ∙ ap (λ (n : Node). n ∷ []) c.in_ok-branch.ensures.value);
      trail = c.one_node-trail.ensures.trail old c.in_ok-branch.ensures.branch;
      stays = stays_same old;
    }

pub returns-then-not-trail-clause-value : goal.returns-then-not-trail-clause-value
returns-then-not-trail-clause-value c =
    let old = c.args.terms.now in
    let now = c.loop-step.terms in
    let at = tree_at now in
    let t = c.loop-step.trail in
    let next = after (condition_of old c.args.cond.now).types in
    let items = c.args.cert.now.steps.items in
    let i = c.loop-step.step-index in
    let w = written (tree_at c.args.cert.now.terms) in
    let s = c.step-item.result in
    let here : i < length c.deref-step-items.result.now = omega (arith, c.loop-step-test.true, ap length c.deref-step-items.ensures.value) in
    let is = steps_at (tree_at c.args.cert.now.terms) items c.deref-step-items.result.now i s c.deref-step-items.ensures.value here c.step-item.is in
    sym (walk_closed next c.loop-step.number (nodes_of at t) (w s) (map w (drop i items)) (map w (drop (i + 1) items)) (nodes_closed at t (closed_if t.«open» c.if-not-trail.true)) is) ∙ c.loop-step.invariant.so_far

pub returns-in-None-clause-value : goal.returns-in-None-clause-value
returns-in-None-clause-value c =
    let old = c.args.terms.now in
    let now = c.loop-step.terms in
    let at = tree_at now in
    let t = c.loop-step.trail in
    let next = after (condition_of old c.args.cond.now).types in
    let items = c.args.cert.now.steps.items in
    let i = c.loop-step.step-index in
    let w = written (tree_at c.args.cert.now.terms) in
    let s = c.step-item.result in
    let here : i < length c.deref-step-items.result.now = omega (arith, c.loop-step-test.true, ap length c.deref-step-items.ensures.value) in
    let is = steps_at (tree_at c.args.cert.now.terms) items c.deref-step-items.result.now i s c.deref-step-items.ensures.value here c.step-item.is in
    let node = seen_branch at t.branch in
    let rest = second_nodes at t.branch t.waiting.items in
    let there = nodes_open at t (open_if t.«open» c.if-not-trail.false) in
    let same = types_stay old now c.args.cond.now c.loop-step.invariant.stays c.requires.types in
    let turn = subst (IsTurned (tree_at c.turned.new.terms) (after (condition_of now c.args.cond.now).types node (w s)) rest) c.in-None.is c.in_ok-next.ensures.value in
    let gave : next node (w s) ≡ None = sym (ap (λ (es : List Entry). after es node (w s)) same) ∙ turn in
    sym (walk_invalid next c.loop-step.number (nodes_of at t) node rest (w s) (map w (drop i items)) (map w (drop (i + 1) items)) there is gave) ∙ c.loop-step.invariant.so_far

pub loop-step-preserved : goal.loop-step-preserved
loop-step-preserved c =
    let old = c.args.terms.now in
    let now = c.loop-step.terms in
    let at = tree_at now in
    let t = c.loop-step.trail in
    let next = after (condition_of old c.args.cond.now).types in
    let items = c.args.cert.now.steps.items in
    let i = c.loop-step.step-index in
    let w = written (tree_at c.args.cert.now.terms) in
    let s = c.step-item.result in
    let here : i < length c.deref-step-items.result.now = omega (arith, c.loop-step-test.true, ap length c.deref-step-items.ensures.value) in
    let is = steps_at (tree_at c.args.cert.now.terms) items c.deref-step-items.result.now i s c.deref-step-items.ensures.value here c.step-item.is in
    let node = seen_branch at t.branch in
    let rest = second_nodes at t.branch t.waiting.items in
    let there = nodes_open at t (open_if t.«open» c.if-not-trail.false) in
    let same = types_stay old now c.args.cond.now c.loop-step.invariant.stays c.requires.types in
    let new = c.turned.new.terms in
    let turn = subst (IsTurned (tree_at new) (after (condition_of now c.args.cond.now).types node (w s)) rest) c.in-Some.is c.in_ok-next.ensures.value in
    let gave = sym (ap (λ (es : List Entry). after es node (w s)) same) ∙ turn.1 in
    record {
      so_far = walk_on next c.loop-step.number (nodes_of at t) node rest turn.0 (nodes_of (tree_at new) c.in-Some.next) (w s) (map w (drop i items)) (map w (drop (i + 1) items)) there is gave turn.2 ∙ c.loop-step.invariant.so_far;
      trail = subst (λ o. IfSome o (IsTrail new)) c.in-Some.is c.in_ok-next.ensures.trail;
      stays = stays_on old now new c.loop-step.invariant.stays c.in_ok-next.ensures.stays;
    }
