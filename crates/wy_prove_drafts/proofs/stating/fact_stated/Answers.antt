use Rattle.std.proofs.Common.{◌∙◌}
use Rattle.wy_search_laws.proofs.wy_check_proofs.FactLemmas.{facts_are}
use Rattle.wy_facts.specs.Seen.{terms_at}
use Rattle.wy_term.specs.Condition.{condition_of}
use Rattle.wy_prove_drafts.proofs.stating.fact_stated.Goals as goal

pub returns-in-Ok-clause-value : goal.returns-in-Ok-clause-value
returns-in-Ok-clause-value c = c.in-Ok.ensures.value ∙ facts_are (condition_of c.args.terms.now c.args.cond.now).types c.args.schema (terms_at c.args.terms.now c.args.all.now)
