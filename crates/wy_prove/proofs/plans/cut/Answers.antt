use Rattle.std.specs.Prelude.{is_some}
use Rattle.wy_term.specs.Nodes.{tree_at}
use Rattle.wy_cert.specs.Steps.{cut}
use Rattle.wy_prove_rounds.specs.wy_prove_drafts.Draft.{seen_draft}
use Rattle.wy_prove_rounds.proofs.wy_prove_drafts_proofs.ProgressLemmas.{writes_goes}
use Rattle.wy_prove.proofs.plans.cut.Goals as goal

pub returns-clause-value : goal.returns-clause-value
returns-clause-value c = λ types.
    writes_goes types (cut c.args.d c.args.pairs.items) (seen_draft (tree_at c.args.terms.now) c.args.draft.now) (seen_draft (tree_at c.write_cut.new.terms) c.write_cut.new.draft) (is_some c.in_ok-formula.formula) tt (c.in_ok-formula.ensures.value types)
