use Rattle.std.proofs.Common.{ap, false, length}
use Rattle.wy_search_bounds.proofs.BoundLemmas.{bounds_at}
use Rattle.wy_search_bounds.proofs.products.bounds_by.Goals as goal
use Rattle.wy_cong.specs.wy_check_spec.judge.Node.{Node}
use Rattle.wy_cong.specs.wy_check_nodes.Seen.{seen_branch}
use Rattle.wy_lin.specs.Seen.{seen_form}
use Rattle.wy_cong.proofs.wy_check_nodes_proofs.SumsBranchLemmas.{branch_stays, node_stays}
use Rattle.wy_cong.proofs.wy_check_nodes_proofs.FormLemmas.{form_kept, form_up}
use Rattle.wy_term.specs.Nodes.{tree_at}

pub bound_of-requires-2-clause-branch : goal.bound_of-requires-2-clause-branch
bound_of-requires-2-clause-branch c = branch_stays c.args.terms.now c.bound_of.new.terms c.args.branch.now c.in_ok-lower.ensures.stays c.requires.branch

pub bound_of-requires-2-clause-form : goal.bound_of-requires-2-clause-form
bound_of-requires-2-clause-form c = form_up (length c.args.terms.now) (length c.bound_of.new.terms) c.args.form.now c.in_ok-lower.ensures.stays.grows c.requires.form

pub returns-clause-value : goal.returns-clause-value
returns-clause-value c =
    let old = c.args.terms.now in
    let now = c.bound_of.new.terms in
    let stays = c.in_ok-lower.ensures.stays in
    record {
      lower = c.in_ok-lower.ensures.value;
      upper = bounds_at (seen_branch (tree_at now) c.args.branch.now).literals (seen_branch (tree_at old) c.args.branch.now).literals (seen_form (tree_at now) c.args.form.now) (seen_form (tree_at old) c.args.form.now) false c.in_ok-upper.upper
          (ap (λ (n : Node). n.literals) (node_stays old now c.args.branch.now stays c.requires.branch)) (form_kept old now c.args.form.now stays c.requires.form) c.in_ok-upper.ensures.value;
    }
