use Rattle.wy_term.specs.Nodes.{tree_at}
use Rattle.wy_cert.specs.Steps.{clash}
use Rattle.wy_prove_rounds.specs.wy_prove_drafts.Draft.{seen_draft}
use Rattle.wy_prove.proofs.LeafLemmas.{closes_ok}
use Rattle.wy_prove.proofs.plans.clash.Goals as goal

pub returns-in-Some-clause-value : goal.returns-in-Some-clause-value
returns-in-Some-clause-value c = λ types.
    let at = tree_at c.args.terms.now in
    closes_ok c.close_by_clash.result types (clash c.in-Some.first c.in-Some.second) (seen_draft at c.args.draft.now) (seen_draft at c.close_by_clash.new.draft) tt (c.close_by_clash.ensures.value types)
