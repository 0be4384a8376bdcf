use Rattle.std.proofs.Common.{◌∙◌, sym}
use Rattle.wy_facts.specs.Seen.{terms_at}
use Rattle.wy_search_facts.proofs.SameLemmas.{same_facts}
use Rattle.wy_search_facts.proofs.made.fact_stated.Goals as goal
use Rattle.wy_term.specs.Condition.{condition_of}

pub returns-in-Ok-clause-value : goal.returns-in-Ok-clause-value
returns-in-Ok-clause-value c = c.in-Ok.ensures.value ∙ sym (same_facts (condition_of c.args.terms.now c.args.cond.now).types c.args.schema (terms_at c.args.terms.now c.args.arguments.now))
