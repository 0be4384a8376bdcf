use Rattle.wy_check_nodes.proofs.adding.first_branch.Goals as goal

pub add_all-requires-clause-branch : goal.add_all-requires-clause-branch
add_all-requires-clause-branch c = c.in_ok-branch.ensures.branch c.args.terms.now
