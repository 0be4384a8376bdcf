use Rattle.std.proofs.Common.{length, subst, sym}
use Rattle.std.specs.Prelude.{is_some}
use Rattle.wy_cert.specs.Steps.{chain}
use Rattle.wy_prove_drafts.specs.Draft.{seen_draft}
use Rattle.wy_prove_drafts.specs.Progress.{Writes}
use Rattle.wy_prove_drafts.proofs.DraftLemmas.{draft_stays}
use Rattle.wy_prove_drafts.proofs.StatingLemmas.{answered, chain_written}
use Rattle.wy_facts.specs.Seen.{AreBelow, terms_at}
use Rattle.wy_facts.proofs.StepLemmas.{below_kept}
use Rattle.wy_term.specs.Nodes.{tree_at}
use Rattle.wy_prove_drafts.proofs.stating.write_chain.Goals as goal

pub state_all-requires-clause-draft : goal.state_all-requires-clause-draft
state_all-requires-clause-draft c = draft_stays c.args.terms.now c.chain_stated.new.terms c.args.draft.now c.in_ok-stated.ensures.stays c.requires.draft

pub state_all-requires-clause-step : goal.state_all-requires-clause-step
state_all-requires-clause-step c =
    let new = c.chain_stated.new.terms in
    subst (AreBelow (length new)) (sym c.in_ok-named.ensures.items) (below_kept c.args.terms.now new c.args.all.now c.in_ok-stated.ensures.stays c.requires.terms)

pub returns-clause-value : goal.returns-clause-value
returns-clause-value c = λ types.
    let old = c.args.terms.now in
    let new = c.chain_stated.new.terms in
    let d = c.args.draft.now in
    let e = c.state_all.new.draft in
    answered c.state_all.result _ (is_some c.in_ok-stated.stated) (Writes types (chain (terms_at old c.args.all.now)) (seen_draft (tree_at old) d) (seen_draft (tree_at new) e))
    (chain_written types old new d e c.in_ok-stated.ensures.stays c.requires.draft c.args.all.now c.in_ok-named.named.items c.in_ok-stated.stated c.requires.terms c.in_ok-named.ensures.items c.in_ok-stated.ensures.value)
    c.state_all.ensures.value c.state_all.ensures.stated
