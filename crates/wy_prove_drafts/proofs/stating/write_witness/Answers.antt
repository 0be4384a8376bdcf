use Rattle.std.specs.Prelude.{is_some}
use Rattle.wy_cert.specs.Steps.{wit}
use Rattle.wy_prove_drafts.specs.Draft.{seen_draft}
use Rattle.wy_prove_drafts.specs.Progress.{Writes}
use Rattle.wy_prove_drafts.proofs.DraftLemmas.{draft_stays}
use Rattle.wy_prove_drafts.proofs.StatingLemmas.{answered, witness_written}
use Rattle.wy_term.specs.Nodes.{tree_at}
use Rattle.wy_prove_drafts.proofs.stating.write_witness.Goals as goal

pub state_all-requires-clause-draft : goal.state_all-requires-clause-draft
state_all-requires-clause-draft c = draft_stays c.args.terms.now c.witness_stated.new.terms c.args.draft.now c.in_ok-stated.ensures.stays c.requires.draft

pub returns-clause-value : goal.returns-clause-value
returns-clause-value c = λ types.
    let old = c.args.terms.now in
    let new = c.witness_stated.new.terms in
    let d = c.args.draft.now in
    let e = c.state_all.new.draft in
    answered c.state_all.result _ (is_some c.in_ok-stated.stated) (Writes types (wit c.args.i) (seen_draft (tree_at old) d) (seen_draft (tree_at new) e))
    (witness_written types old new d e c.in_ok-stated.ensures.stays c.requires.draft c.args.i c.in_ok-stated.stated c.in_ok-stated.ensures.value)
    c.state_all.ensures.value c.state_all.ensures.stated
