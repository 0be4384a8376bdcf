use Rattle.std.proofs.Common.{arith}
use Rattle.std.specs.Prelude.{slice_index}
use Rattle.wy_term.specs.Nodes.{tree_at}
use Rattle.wy_facts.proofs.StepLemmas.{stays_on}
use Rattle.wy_prove_drafts.specs.Draft.{seen_draft}
use Rattle.wy_prove_leaves.specs.linked.Links.{SecondAddsNothing}
use Rattle.wy_prove_leaves.proofs.linked_lemmas.LinkLemmas.{are_present_stay, one_stays, nth_of, up_to_next, up_to_all}
use Rattle.wy_prove_leaves.proofs.linked.seconds.link_seconds.Goals as goal

pub loop-j-preserved : goal.loop-j-preserved
loop-j-preserved c =
    let old = c.args.terms.now in
    let now = c.loop-j.terms in
    let new = c.link_second.new.terms in
    let p = c.args.labelled.now.present in
    let j = c.loop-j.j in
    let stays = c.loop-j.invariant.stays in
    record {
      draft = c.in_ok-more.ensures.draft;
      stays = stays_on old now new stays c.in_ok-more.ensures.stays;
      grows = λ types ts v are s.
          up_to_next types (SecondAddsNothing ts c.args.labelled.now.labels.items v) (tree_at old) p.numbers.items j (seen_draft (tree_at old) c.args.draft.now) (seen_draft (tree_at now) c.loop-j.draft) (seen_draft (tree_at new) c.link_second.new.draft) c.loop-j.grew c.in_ok-more.more
          (c.loop-j.invariant.grows types ts v are s)
          (c.in_ok-more.ensures.value types ts v (tree_at old (slice_index p.numbers.items j)) (are_present_stay old now p ts stays c.requires.present are) (one_stays old now ts c.args.s v stays c.requires.first s)
          (nth_of old now p ts j c.index.result.now stays c.requires.present are (omega arith) c.index.ensures));
    }

pub returns-clause-value : goal.returns-clause-value
returns-clause-value c = λ types ts v are s.
    let old = c.args.terms.now in
    let p = c.args.labelled.now.present in
    up_to_all types (SecondAddsNothing ts c.args.labelled.now.labels.items v) old p ts c.loop-j.j (seen_draft (tree_at old) c.args.draft.now) (seen_draft (tree_at c.loop-j.terms) c.loop-j.draft) c.loop-j.grew are (omega arith) (c.loop-j.invariant.grows types ts v are s)
