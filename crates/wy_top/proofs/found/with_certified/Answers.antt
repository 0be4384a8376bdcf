use Rattle.std.specs.Prelude.{Option}
use Rattle.std.proofs.Common.{subst}
use Rattle.wy_cert.specs.declared.step.Cert.{Cert}
use Rattle.wy_prove.specs.Answers.{AnswersWhatIsFound}
use Rattle.wy_term.specs.Condition.{condition_of}
use Rattle.wy_top.proofs.FoundLemmas.{named_more}
use Rattle.wy_top.proofs.found.with_certified.Goals as goal

pub returns-in_ok-push-in-Some-clause-named : goal.returns-in_ok-push-in-Some-clause-named
returns-in_ok-push-in-Some-clause-named c =
    named_more c.args.number c.args.certs.list.items c.push.new.self.items c.in_ok-made.made c.in-Some.cert c.in-Some.is c.in_ok-made.ensures.names c.in_ok-push-in-Some.ensures.items c.requires.certs

pub returns-in-None-clause-lacking : goal.returns-in-None-clause-lacking
returns-in-None-clause-lacking c = λ none. subst (λ (o : Option Cert). AnswersWhatIsFound (condition_of c.args.terms.now c.args.cond.now) c.args.budget o) c.in-None.is c.in_ok-made.ensures.exactly
