use Rattle.std.proofs.Common.{ap, subst, sym}
use Rattle.wy_term.specs.Nodes.{tree_at}
use Rattle.wy_cong.specs.wy_check_spec.judge.Node.{Node}
use Rattle.wy_cong.specs.wy_check_nodes.Seen.{seen_branch}
use Rattle.wy_cong.proofs.wy_facts_proofs.StepLemmas.{stays_on}
use Rattle.wy_cong.proofs.wy_check_nodes_proofs.SumsBranchLemmas.{branch_stays, node_stays}
use Rattle.wy_cong.specs.Seen.{terms_of}
use Rattle.wy_search_bounds.proofs.GatherLemmas.{gathers_next, terms_stay}
use Rattle.wy_search_bounds.specs.Firsts.{AreFirsts}
use Rattle.wy_search_bounds.proofs.gathering.gather.Goals as goal

pub take_literal-requires-clause-branch : goal.take_literal-requires-clause-branch
take_literal-requires-clause-branch c = branch_stays c.args.terms.now c.loop-i.terms c.args.branch.now c.loop-i.invariant.stays c.requires.branch

pub take_literal-requires-clause-firsts : goal.take_literal-requires-clause-firsts
take_literal-requires-clause-firsts c = subst (AreFirsts c.args.labels.now) (sym c.deref.ensures.value) c.in_ok-firsts.ensures

pub loop-i-preserved : goal.loop-i-preserved
loop-i-preserved c =
    let old = c.args.terms.now in
    let now = c.loop-i.terms in
    record {
      gathers = gathers_next (terms_of (tree_at old) c.args.present.now) (terms_of (tree_at now) c.args.present.now) c.args.labels.now (seen_branch (tree_at old) c.args.branch.now).literals (seen_branch (tree_at now) c.args.branch.now).literals c.loop-i.i c.loop-i.gathered c.take_literal.new.gathered
          (terms_stay old now c.args.present.now c.loop-i.invariant.stays c.requires.present)
          (ap (λ (n : Node). n.literals) (node_stays old now c.args.branch.now c.loop-i.invariant.stays c.requires.branch))
          c.in_ok-take_literal.ensures.value c.loop-i.invariant.gathers;
      known = c.in_ok-take_literal.ensures.known;
      stays = stays_on old now c.take_literal.new.terms c.loop-i.invariant.stays c.in_ok-take_literal.ensures.stays;
    }
