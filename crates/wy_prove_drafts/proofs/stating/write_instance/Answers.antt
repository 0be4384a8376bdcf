use Rattle.std.specs.Prelude.{is_some}
use Rattle.wy_cert.specs.Steps.{inst}
use Rattle.wy_prove_drafts.specs.Draft.{seen_draft}
use Rattle.wy_prove_drafts.specs.Progress.{Writes}
use Rattle.wy_prove_drafts.proofs.DraftLemmas.{draft_stays}
use Rattle.wy_prove_drafts.proofs.StatingLemmas.{answered, instance_written}
use Rattle.wy_term.specs.Nodes.{tree_at}
use Rattle.wy_prove_drafts.proofs.stating.write_instance.Goals as goal

pub state_one-requires-clause-draft : goal.state_one-requires-clause-draft
state_one-requires-clause-draft c = draft_stays c.args.terms.now c.instance_stated.new.terms c.args.draft.now c.in_ok-stated.ensures.stays c.requires.draft

pub returns-clause-value : goal.returns-clause-value
returns-clause-value c = λ types.
    let old = c.args.terms.now in
    let new = c.instance_stated.new.terms in
    let d = c.args.draft.now in
    let e = c.state_one.new.draft in
    answered c.state_one.result _ (is_some c.in_ok-stated.stated) (Writes types (inst c.args.i (tree_at old c.args.t)) (seen_draft (tree_at old) d) (seen_draft (tree_at new) e))
    (instance_written types old new d e c.in_ok-stated.ensures.stays c.requires.draft c.args.i c.args.t c.in_ok-stated.stated c.requires.term c.in_ok-stated.ensures.value)
    c.state_one.ensures.value c.state_one.ensures.stated
