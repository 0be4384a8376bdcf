use Rattle.std.proofs.Common.{arith}
use Rattle.std.specs.Prelude.{slice_index}
use Rattle.wy_term.specs.Nodes.{tree_at}
use Rattle.wy_facts.proofs.StepLemmas.{stays_on}
use Rattle.wy_prove_drafts.specs.Draft.{seen_draft}
use Rattle.wy_prove_leaves.specs.linked.Links.{ThirdAddsNothing}
use Rattle.wy_prove_leaves.proofs.linked_lemmas.LinkLemmas.{are_present_stay, one_stays, nth_of, up_to_next, up_to_all}
use Rattle.wy_prove_leaves.proofs.linked.thirds.link_thirds.Goals as goal

pub loop-k-preserved : goal.loop-k-preserved
loop-k-preserved c =
    let old = c.args.terms.now in
    let now = c.loop-k.terms in
    let new = c.link_third.new.terms in
    let p = c.args.labelled.now.present in
    let k = c.loop-k.k in
    let stays = c.loop-k.invariant.stays in
    record {
      draft = c.in_ok-more.ensures.draft;
      stays = stays_on old now new stays c.in_ok-more.ensures.stays;
      grows = λ types ts v w are s t.
          up_to_next types (ThirdAddsNothing ts c.args.labelled.now.labels.items v w) (tree_at old) p.numbers.items k (seen_draft (tree_at old) c.args.draft.now) (seen_draft (tree_at now) c.loop-k.draft) (seen_draft (tree_at new) c.link_third.new.draft) c.loop-k.grew c.in_ok-more.more
          (c.loop-k.invariant.grows types ts v w are s t)
          (c.in_ok-more.ensures.value types ts v w (tree_at old (slice_index p.numbers.items k)) (are_present_stay old now p ts stays c.requires.present are) (one_stays old now ts c.args.s v stays c.requires.first s) (one_stays old now ts c.args.t w stays c.requires.second t)
          (nth_of old now p ts k c.index.result.now stays c.requires.present are (omega arith) c.index.ensures));
    }

pub returns-clause-value : goal.returns-clause-value
returns-clause-value c = λ types ts v w are s t.
    let old = c.args.terms.now in
    let p = c.args.labelled.now.present in
    up_to_all types (ThirdAddsNothing ts c.args.labelled.now.labels.items v w) old p ts c.loop-k.k (seen_draft (tree_at old) c.args.draft.now) (seen_draft (tree_at c.loop-k.terms) c.loop-k.draft) c.loop-k.grew are (omega arith) (c.loop-k.invariant.grows types ts v w are s t)
