use Rattle.std.proofs.Common.{◌≡◌, ◌∷◌, ◌∙◌, ap, length, List, rules}
use Rattle.wy_check_spec.specs.wy_term.Nodes.{tree_at}
use Rattle.wy_check_spec.specs.judge.Node.{Node, added}
use Rattle.wy_check_nodes.specs.Seen.{seen_branch}
use Rattle.wy_check_nodes.specs.declared.trail.Waiting.{Waiting}
use Rattle.wy_check_nodes.specs.Trail.{open_nodes, second_nodes}
use Rattle.wy_check_nodes.proofs.TrailLemmas.{grown_nodes, second_here, waiting_here}
use Rattle.wy_check_nodes.proofs.trail.split.Goals as goal

pub returns-clause-nodes : goal.returns-clause-nodes
returns-clause-nodes c =
    let at = tree_at c.args.terms.now in
    let n = length c.args.terms.now in
    let b = c.args.trail.branch in
    let made = c.add.new.branch in
    let ws = c.args.trail.waiting.items in
    let w : Waiting = record { literals = c.len.result; pending = c.len-2.result; atom = c.args.atom } in
    let ls : w.literals ≡ length b.literals.keys = search rules in
    let ps : w.pending ≡ length b.pending.keys = search rules in
    let put : c.push_front.new.self.items ≡ w ∷ ws = search rules in
    ap (open_nodes at made c.push_front.new.self.items) c.requires.«open»
    ∙ (ap (λ (vs : List Waiting). seen_branch at made ∷ second_nodes at made vs) put
    ∙ (grown_nodes at n b made (added (seen_branch at b) (at c.args.atom)) (w ∷ ws) c.in_ok-add.ensures.value c.in_ok-add.ensures.grows (waiting_here n b w ws ls ps c.requires.atom c.requires.trail.waiting)
    ∙ ap (λ (x : Node). added (seen_branch at b) (at c.args.atom) ∷ x ∷ second_nodes at b ws) (second_here at b w ls ps)))
