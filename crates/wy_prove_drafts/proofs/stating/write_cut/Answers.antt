use Rattle.wy_cert.specs.Steps.{cut}
use Rattle.wy_prove_drafts.proofs.DraftLemmas.{draft_stays}
use Rattle.wy_prove_drafts.proofs.StatingLemmas.{cut_written, formula_added}
use Rattle.wy_prove_drafts.proofs.stating.write_cut.Goals as goal

pub state_one-requires-clause-draft : goal.state_one-requires-clause-draft
state_one-requires-clause-draft c = draft_stays c.args.terms.now c.cut_stated.new.terms c.args.draft.now c.in_ok-stated.ensures.stays c.requires.draft

pub returns-clause-value : goal.returns-clause-value
returns-clause-value c = λ types.
    let new = c.cut_stated.new.terms in
    cut_written types c.args.terms.now new c.args.draft.now c.state_one.new.draft c.in_ok-stated.ensures.stays c.requires.draft c.args.d c.deref.result.now c.args.pairs.items c.in_ok-stated.stated c.deref.ensures.value c.in_ok-stated.ensures.value c.in_ok-state_one.ensures.value

pub returns-clause-adds : goal.returns-clause-adds
returns-clause-adds c = formula_added c.args.terms.now c.cut_stated.new.terms c.args.draft.now c.state_one.new.draft (cut c.args.d c.args.pairs.items) c.in_ok-stated.stated c.in_ok-stated.ensures.stays c.requires.draft c.in_ok-state_one.ensures.value
