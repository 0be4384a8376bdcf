use Rattle.std.proofs.Common.{rules}
use Rattle.wy_term_subst.specs.wy_term.Condition.{condition_of}
use Rattle.wy_term_subst.specs.wy_term.Nodes.{tree_at}
use Rattle.wy_facts.specs.Seen.{terms_at}
use Rattle.wy_facts.proofs.MembershipLemmas.{plain_holds}
use Rattle.wy_facts.proofs.facts.fact.Goals as goal

pub returns-in-Ok-Some-clause-holds : goal.returns-in-Ok-Some-clause-holds
returns-in-Ok-Some-clause-holds c = λ other. plain_holds (condition_of c.args.terms.now c.args.cond.now).types c.args.schema (terms_at c.args.terms.now c.args.args.now) (tree_at c.fact_made.new.terms c.in-Ok-Some.f) other (search rules)
