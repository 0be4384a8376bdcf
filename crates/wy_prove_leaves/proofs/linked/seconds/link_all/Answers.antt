use Rattle.std.proofs.Common.{arith}
use Rattle.std.specs.Prelude.{slice_index}
use Rattle.wy_term.specs.Nodes.{tree_at}
use Rattle.wy_facts.proofs.StepLemmas.{stays_on}
use Rattle.wy_prove_drafts.specs.Draft.{seen_draft}
use Rattle.wy_prove_leaves.specs.linked.Links.{SecondsAddNothing}
use Rattle.wy_prove_leaves.proofs.linked_lemmas.LinkLemmas.{are_present_stay, nth_of, up_to_next, up_to_all}
use Rattle.wy_prove_leaves.proofs.linked.seconds.link_all.Goals as goal

pub loop-i-preserved : goal.loop-i-preserved
loop-i-preserved c =
    let old = c.args.terms.now in
    let now = c.loop-i.terms in
    let new = c.link_seconds.new.terms in
    let p = c.args.labelled.now.present in
    let i = c.loop-i.i in
    let stays = c.loop-i.invariant.stays in
    record {
      draft = c.in_ok-more.ensures.draft;
      stays = stays_on old now new stays c.in_ok-more.ensures.stays;
      grows = λ types ts are.
          up_to_next types (SecondsAddNothing ts c.args.labelled.now.labels.items) (tree_at old) p.numbers.items i (seen_draft (tree_at old) c.args.draft.now) (seen_draft (tree_at now) c.loop-i.draft) (seen_draft (tree_at new) c.link_seconds.new.draft) c.loop-i.grew c.in_ok-more.more
          (c.loop-i.invariant.grows types ts are)
          (c.in_ok-more.ensures.value types ts (tree_at old (slice_index p.numbers.items i)) (are_present_stay old now p ts stays c.requires.present are)
          (nth_of old now p ts i c.index.result.now stays c.requires.present are (omega arith) c.index.ensures));
    }

pub returns-clause-value : goal.returns-clause-value
returns-clause-value c = λ types ts are.
    let old = c.args.terms.now in
    let p = c.args.labelled.now.present in
    up_to_all types (SecondsAddNothing ts c.args.labelled.now.labels.items) old p ts c.loop-i.i (seen_draft (tree_at old) c.args.draft.now) (seen_draft (tree_at c.loop-i.terms) c.loop-i.draft) c.loop-i.grew are (omega arith) (c.loop-i.invariant.grows types ts are)
