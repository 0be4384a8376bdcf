use Rattle.wy_term.specs.Nodes.{tree_at}
use Rattle.wy_cert.specs.Steps.{sum_of}
use Rattle.wy_prove_rounds.specs.wy_prove_drafts.Draft.{seen_draft}
use Rattle.wy_prove.proofs.LeafLemmas.{closes_ok}
use Rattle.wy_prove.proofs.plans.sum.Goals as goal

pub returns-in-Some-clause-value : goal.returns-in-Some-clause-value
returns-in-Some-clause-value c = λ types.
    closes_ok c.close_by_sum.result types (sum_of c.in-Some.pairs.items) (seen_draft (tree_at c.args.terms.now) c.args.draft.now) (seen_draft (tree_at c.close_by_sum.new.terms) c.close_by_sum.new.draft) tt (c.close_by_sum.ensures.value types)
