use Rattle.std.proofs.Common.{◌∙◌}
use Rattle.wy_term.specs.Condition.{condition_of}
use Rattle.wy_facts.specs.Seen.{terms_at}
use Rattle.wy_check.proofs.FactLemmas.{facts_are}
use Rattle.wy_check.proofs.steps.fact_stated.Goals as goal

pub returns-in-Ok-clause-value : goal.returns-in-Ok-clause-value
returns-in-Ok-clause-value c = c.in-Ok.ensures.value ∙ facts_are (condition_of c.args.terms.now c.args.cond.now).types c.args.n (terms_at c.args.terms.now c.args.arguments.now)
