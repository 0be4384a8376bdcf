use Rattle.std.proofs.Common.{◌∙◌, ap, length}
use Rattle.wy_check_spec.specs.wy_term.Nodes.{tree_at}
use Rattle.wy_check_nodes.specs.Trail.{open_nodes}
use Rattle.wy_check_nodes.proofs.TrailLemmas.{grown_nodes, waiting_grow}
use Rattle.wy_check_nodes.proofs.trail.grow.Goals as goal

pub returns-clause-nodes : goal.returns-clause-nodes
returns-clause-nodes c =
    let at = tree_at c.args.terms.now in
    let n = length c.args.terms.now in
    ap (open_nodes at c.add_all.new.branch c.args.trail.waiting.items) c.requires.«open» ∙ grown_nodes at n c.args.trail.branch c.add_all.new.branch _ c.args.trail.waiting.items c.in_ok-add_all.ensures.value c.in_ok-add_all.ensures.grows c.requires.trail.waiting

pub returns-clause-trail : goal.returns-clause-trail
returns-clause-trail c = record {
  branch = c.in_ok-add_all.ensures.branch;
  waiting = waiting_grow (length c.args.terms.now) c.args.trail.branch c.add_all.new.branch c.args.trail.waiting.items c.in_ok-add_all.ensures.grows c.requires.trail.waiting;
}
