use Rattle.wy_term.specs.Nodes.{tree_at}
use Rattle.wy_cert.specs.Steps.{written}
use Rattle.wy_check_nodes.specs.Seen.{seen_branch}
use Rattle.wy_prove_drafts.proofs.DraftLemmas.{put_seen, put_below}
use Rattle.wy_prove_drafts.proofs.putting.put.Goals as goal

pub returns-clause-value : goal.returns-clause-value
returns-clause-value c =
    let d = c.args.draft.now in
    let at = tree_at c.args.terms.now in
    put_seen d.terms c.own_step.new.own d.steps.items c.push.new.self.items c.in_ok-own.own (written at c.args.step) (seen_branch at d.branch) c.in_ok-own.ensures.stays c.requires.draft.steps c.in_ok-push.ensures.items c.in_ok-own.ensures.value

pub returns-clause-draft : goal.returns-clause-draft
returns-clause-draft c =
    let d = c.args.draft.now in
    record {
      steps = put_below d.terms c.own_step.new.own d.steps.items c.push.new.self.items c.in_ok-own.own c.in_ok-own.ensures.stays c.requires.draft.steps c.in_ok-push.ensures.items c.in_ok-own.ensures.within;
      branch = c.requires.draft.branch;
    }
