use Rattle.std.proofs.Common.{length, subst, sym}
use Rattle.std.specs.Prelude.{is_some}
use Rattle.wy_cert.specs.Steps.{fact}
use Rattle.wy_prove_drafts.specs.Draft.{seen_draft}
use Rattle.wy_prove_drafts.specs.Progress.{Writes}
use Rattle.wy_prove_drafts.proofs.DraftLemmas.{draft_stays}
use Rattle.wy_prove_drafts.proofs.StatingLemmas.{answered, fact_written}
use Rattle.wy_facts.specs.Seen.{AreBelow, terms_at}
use Rattle.wy_facts.proofs.StepLemmas.{below_kept}
use Rattle.wy_term.specs.Condition.{condition_of}
use Rattle.wy_term.specs.Nodes.{tree_at}
use Rattle.wy_prove_drafts.proofs.stating.write_fact.Goals as goal

pub state_one-requires-clause-draft : goal.state_one-requires-clause-draft
state_one-requires-clause-draft c = draft_stays c.args.terms.now c.fact_stated.new.terms c.args.draft.now c.in_ok-stated.ensures.stays c.requires.draft

pub state_one-requires-clause-step : goal.state_one-requires-clause-step
state_one-requires-clause-step c =
    let new = c.fact_stated.new.terms in
    subst (AreBelow (length new)) (sym c.in_ok-named.ensures.items) (below_kept c.args.terms.now new c.args.all.now c.in_ok-stated.ensures.stays c.requires.terms)

pub returns-clause-value : goal.returns-clause-value
returns-clause-value c =
    let old = c.args.terms.now in
    let new = c.fact_stated.new.terms in
    let d = c.args.draft.now in
    let e = c.state_one.new.draft in
    let types = (condition_of old c.args.cond.now).types in
    answered c.state_one.result _ (is_some c.in_ok-stated.stated) (Writes types (fact c.args.schema (terms_at old c.args.all.now)) (seen_draft (tree_at old) d) (seen_draft (tree_at new) e))
    (fact_written types old new d e c.in_ok-stated.ensures.stays c.requires.draft c.args.schema c.args.all.now c.in_ok-named.named.items c.in_ok-stated.stated c.requires.terms c.in_ok-named.ensures.items c.in_ok-stated.ensures.value)
    c.state_one.ensures.value c.state_one.ensures.stated
