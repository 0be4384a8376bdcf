use Rattle.std.proofs.Common.{IfOk, subst}
use Rattle.wy_term.specs.Term.{Term}
use Rattle.wy_vc_operations.specs.Growing.{Makes}
use Rattle.wy_vc_terms.proofs.MadeLemmas.{no_variable, variable_at}
use Rattle.wy_vc_terms.proofs.words.variable.Goals as goal

pub returns-in-None-clause-made : goal.returns-in-None-clause-made
returns-in-None-clause-made c = λ slots at.
    subst (λ (x : Term). IfOk c.null.result (λ r. Makes c.args.terms.now c.null.new.terms r x)) (no_variable c.args.terms.now c.args.vars.now slots c.args.variable at c.in-None.ensures.value) c.null.ensures.made

pub returns-then-term-len-clause-made : goal.returns-then-term-len-clause-made
returns-then-term-len-clause-made c = λ slots at.
    variable_at c.args.terms.now c.args.vars.now slots c.args.variable c.in-Some.term at c.in-Some.ensures.value
