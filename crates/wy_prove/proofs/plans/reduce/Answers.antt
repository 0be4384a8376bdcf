use Rattle.std.proofs.Common.{subst}
use Rattle.std.specs.Prelude.{OnOk}
use Rattle.wy_term.specs.Nodes.{tree_at}
use Rattle.wy_prove_rounds.specs.wy_prove_drafts.Draft.{seen_draft}
use Rattle.wy_prove_rounds.specs.wy_prove_drafts.Progress.{Progress, Goes}
use Rattle.wy_prove_rounds.proofs.wy_prove_drafts_proofs.DraftLemmas.{draft_stays, seen_draft_stays}
use Rattle.wy_prove.proofs.plans.reduce.Goals as goal

pub cut-requires : goal.cut-requires
cut-requires c = record { draft = draft_stays c.args.terms.now c.divisor_of.new.terms c.args.draft.now c.in_ok-d.ensures c.requires.draft }

pub returns-clause-value : goal.returns-clause-value
returns-clause-value c = λ types.
    subst (λ (a : Progress). OnOk c.cut.result (Goes types a (seen_draft (tree_at c.cut.new.terms) c.cut.new.draft)))
    (seen_draft_stays c.args.terms.now c.divisor_of.new.terms c.args.draft.now c.in_ok-d.ensures c.requires.draft) (c.cut.ensures.value types)
