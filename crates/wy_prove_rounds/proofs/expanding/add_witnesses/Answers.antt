use Rattle.std.proofs.Common.{◌∙◌, ap, subst, sym}
use Rattle.std.proofs.lemmas.Result.{IfOk-weaker}
use Rattle.wy_search.proofs.wy_search_bounds_proofs.KnownLemmas.{on_ok_anyway}
use Rattle.wy_prove_drafts.specs.Draft.{seen_draft}
use Rattle.wy_prove_drafts.specs.Progress.{Progress}
use Rattle.wy_prove_drafts.proofs.DraftLemmas.{draft_stays, seen_draft_stays}
use Rattle.wy_facts.proofs.StepLemmas.{stays_on}
use Rattle.wy_prove_drafts.specs.wy_search_spec.Expansion.{Spot, with_witnesses}
use Rattle.wy_search.proofs.SpotLemmas.{seen_stays, spot_stays}
use Rattle.wy_search.specs.wy_search_facts.Seen.{seen_spot}
use Rattle.wy_term.specs.Nodes.{tree_at}
use Rattle.wy_prove_rounds.specs.Moving.{Reaches}
use Rattle.wy_prove_rounds.proofs.RoundLemmas.{beside_along, witnesses_reach}
use Rattle.wy_prove_rounds.proofs.expanding.add_witnesses.Goals as goal

pub with_witnesses-requires : goal.with_witnesses-requires
with_witnesses-requires c = spot_stays c.args.terms.now c.write_witnesses.new.terms c.args.spot c.in_ok-write_witnesses.ensures.stays c.requires.spot

pub returns-clause-seen : goal.returns-clause-seen
returns-clause-seen c =
    let same = seen_stays c.args.terms.now c.write_witnesses.new.terms c.args.spot c.in_ok-write_witnesses.ensures.stays c.requires.spot in
    IfOk-weaker c.with_witnesses.result _ _ (λ q is. is ∙ ap (λ (p : Spot). with_witnesses p p.node.literals) same) c.with_witnesses.ensures.value

pub returns-clause-value : goal.returns-clause-value
returns-clause-value c = λ types beside.
    let old = c.args.terms.now in
    let mid = c.write_witnesses.new.terms in
    let new = c.with_witnesses.new.terms in
    let p = seen_spot (tree_at old) c.args.spot in
    let first = seen_draft (tree_at old) c.args.draft.now in
    let second = seen_draft (tree_at mid) c.write_witnesses.new.draft in
    let kept = seen_draft_stays mid new c.write_witnesses.new.draft c.with_witnesses.ensures.stays c.in_ok-write_witnesses.ensures.draft in
    on_ok_anyway _ c.with_witnesses.result
    (subst (λ (d : Progress). Reaches types (with_witnesses p p.node.literals) first d) (sym kept)
    (witnesses_reach types p first second beside (c.in_ok-write_witnesses.ensures.value types (beside_along types p first beside))))

pub returns-clause-draft : goal.returns-clause-draft
returns-clause-draft c = on_ok_anyway _ c.with_witnesses.result (draft_stays c.write_witnesses.new.terms c.with_witnesses.new.terms c.write_witnesses.new.draft c.with_witnesses.ensures.stays c.in_ok-write_witnesses.ensures.draft)

pub returns-clause-stays : goal.returns-clause-stays
returns-clause-stays c = stays_on c.args.terms.now c.write_witnesses.new.terms c.with_witnesses.new.terms c.in_ok-write_witnesses.ensures.stays c.with_witnesses.ensures.stays
