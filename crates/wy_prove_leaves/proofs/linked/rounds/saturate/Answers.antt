use Rattle.std.proofs.Common.{[]}
use Rattle.wy_term.specs.Nodes.{tree_at}
use Rattle.wy_facts.proofs.StepLemmas.{stays_on}
use Rattle.wy_prove_drafts.specs.Draft.{seen_draft}
use Rattle.wy_prove_drafts.proofs.ProgressLemmas.{goes_on}
use Rattle.wy_prove_leaves.specs.linked.Links.{IsSaturated}
use Rattle.wy_prove_leaves.proofs.linked_lemmas.GrownLemmas.{grown_still}
use Rattle.wy_prove_leaves.proofs.linked_lemmas.LinkLemmas.{are_present_stay}
use Rattle.wy_prove_leaves.proofs.linked.rounds.saturate.Goals as goal

pub loop-round-preserved : goal.loop-round-preserved
loop-round-preserved c =
    let old = c.args.terms.now in
    let now = c.loop-round.terms in
    let new = c.link_all.new.terms in
    let stays = c.loop-round.invariant.stays in
    record {
      draft = c.in_ok-link_all.ensures.draft;
      stays = stays_on old now new stays c.in_ok-link_all.ensures.stays;
      goes = λ types ts are.
          goes_on types (seen_draft (tree_at old) c.args.draft.now) (seen_draft (tree_at now) c.loop-round.draft) (seen_draft (tree_at new) c.link_all.new.draft)
          (c.loop-round.invariant.goes types ts are)
          (c.in_ok-link_all.ensures.value types ts (are_present_stay old now c.args.labelled.now.present ts stays c.requires.present are)).goes;
    }

pub returns-then-not-branch-clause-goes : goal.returns-then-not-branch-clause-goes
returns-then-not-branch-clause-goes c = λ types ts are.
    let old = c.args.terms.now in
    let now = c.loop-round.terms in
    goes_on types (seen_draft (tree_at old) c.args.draft.now) (seen_draft (tree_at now) c.loop-round.draft) (seen_draft (tree_at c.link_all.new.terms) c.link_all.new.draft)
    (c.loop-round.invariant.goes types ts are)
    (c.in_ok-link_all.ensures.value types ts (are_present_stay old now c.args.labelled.now.present ts c.loop-round.invariant.stays c.requires.present are)).goes

pub returns-then-not-branch-clause-saturated : goal.returns-then-not-branch-clause-saturated
returns-then-not-branch-clause-saturated c = λ ts are.
    let old = c.args.terms.now in
    let now = c.loop-round.terms in
    grown_still [] (IsSaturated ts c.args.labelled.now.labels.items) (seen_draft (tree_at now) c.loop-round.draft) (seen_draft (tree_at c.link_all.new.terms) c.link_all.new.draft) c.in_ok-link_all.field-0 c.if-not-branch.true
    (c.in_ok-link_all.ensures.value [] ts (are_present_stay old now c.args.labelled.now.present ts c.loop-round.invariant.stays c.requires.present are))
