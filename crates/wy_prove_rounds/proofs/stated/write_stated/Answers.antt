use Rattle.wy_facts.specs.Seen.{terms_at}
use Rattle.wy_term.specs.Condition.{condition_of}
use Rattle.wy_term.specs.Nodes.{tree_at}
use Rattle.wy_prove_drafts.specs.Draft.{seen_draft}
use Rattle.wy_prove_rounds.proofs.StepMoves.{fact_moves}
use Rattle.wy_prove_rounds.proofs.stated.write_stated.Goals as goal

pub returns-clause-value : goal.returns-clause-value
returns-clause-value c = λ base are.
    fact_moves (condition_of c.args.terms.now c.args.cond.now).types base c.args.schema (terms_at c.args.terms.now c.args.all.now) (seen_draft (tree_at c.args.terms.now) c.args.draft.now) (seen_draft (tree_at c.write_fact.new.terms) c.write_fact.new.draft) _ c.in_ok-write_fact.ensures.value are
