use Rattle.std.proofs.Common.{◌≡◌, ◌∙◌, ◌<◌, ℕ, List, Option, length, get_or, sym, ap, subst, arith}
use Rattle.std.specs.Prelude.{IfOk}
use Rattle.wy_batch.proofs.IndexLemmas.{none_for, some_for}
use Rattle.wy_cert.specs.Steps.{NamesItsTerms, Written}
use Rattle.wy_cert.specs.declared.step.Cert.{Cert}
use Rattle.wy_check.specs.Verdicts.{verdict_on}
use Rattle.wy_term.specs.Condition.{condition_of}
use Rattle.wy_batch.proofs.judging.given_for.Goals as goal

pub returns-in-None-clause-value : goal.returns-in-None-clause-value
returns-in-None-clause-value c =
    ap (verdict_on (condition_of c.args.terms.now c.args.cond.now)) (sym (none_for c.args.certs.now.list.items 0 c.args.number (sym (c.requires.places c.args.number) ∙ sym c.in-None.ensures)))

pub index-requires : goal.index-requires
index-requires c =
    let there = some_for c.args.certs.now.list.items 0 c.args.number c.in-Some.place (sym (c.requires.places c.args.number) ∙ sym c.in-Some.ensures) in
    omega (arith, there.is, there.within, c.args.certs.now.list.ok.0)

pub given_by-requires-clause-cert : goal.given_by-requires-clause-cert
given_by-requires-clause-cert c =
    let there = some_for c.args.certs.now.list.items 0 c.args.number c.in-Some.place (sym (c.requires.places c.args.number) ∙ sym c.in-Some.ensures) in
    let e = c.index.result.now in
    let lt : c.in-Some.place < length c.args.certs.now.list.items = omega (arith, there.is, there.within) in
    subst (λ (x : ℕ × Cert). NamesItsTerms x.1) (sym c.index.ensures) (c.requires.certs c.in-Some.place e lt)

pub returns-in-Some-clause-value : goal.returns-in-Some-clause-value
returns-in-Some-clause-value c =
    let items = c.args.certs.now.list.items in
    let there = some_for items 0 c.args.number c.in-Some.place (sym (c.requires.places c.args.number) ∙ sym c.in-Some.ensures) in
    let e = c.index.result.now in
    let same : c.in-Some.place ≡ there.behind = omega (arith, there.is) in
    let at = c.index.ensures ∙ ap (λ (k : ℕ). get_or items k e) same in
    subst (λ (o : Option (List Written)). IfOk c.given_by.result (λ g. g ≡ verdict_on (condition_of c.args.terms.now c.args.cond.now) o)) (sym (there.steps e at)) c.given_by.ensures.value
