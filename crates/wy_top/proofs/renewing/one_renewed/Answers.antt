use Rattle.std.proofs.Common.{◌≡◌, ◌∙◌, ℕ, All, length, rules, sym, ap, subst}
use Rattle.std.proofs.lemmas.List.Elements.{All-take}
use Rattle.wy_batch.specs.Known.{supplied}
use Rattle.wy_batch.specs.Seen.{seen_end}
use Rattle.wy_cache.proofs.KeptLemmas.{last_has}
use Rattle.wy_cert.specs.declared.step.Cert.{Cert}
use Rattle.wy_term.specs.Condition.{condition_of}
use Rattle.wy_top.specs.Taken.{IsWritten}
use Rattle.wy_top.proofs.RenewLemmas.{found_made, kept_made, none_waits, other_made, passed, popped}
use Rattle.wy_top.proofs.renewing.one_renewed.Goals as goal

pub returns-in-Some-clause-made : goal.returns-in-Some-clause-made
returns-in-Some-clause-made c = λ es n cs ks k is h.
    let end : k.end ≡ supplied = sym is ∙ ap seen_end c.in-Supplied.is in
    let d = condition_of c.args.terms.now c.args.cond.now in
    let x : ℕ × Cert = (c.in-Some._number, c.in-Some.cert) in
    let p = popped es c.args.budget n d k cs ks c.args.left.now.items c.pop.new.self.items x c.in-Some.ensures.items end h in
    let written = last_has (λ (e : ℕ × Cert). IsWritten e.1) c.pop.new.self.items c.args.left.now.items x c.in-Some.ensures.items c.requires.written in
    kept_made es d k.end c.in-Some.cert end p.kept written.writable

pub returns-in-Some-clause-taken : goal.returns-in-Some-clause-taken
returns-in-Some-clause-taken c = λ es n cs ks k is h.
    let end : k.end ≡ supplied = sym is ∙ ap seen_end c.in-Supplied.is in
    let p = popped es c.args.budget n (condition_of c.args.terms.now c.args.cond.now) k cs ks c.args.left.now.items c.pop.new.self.items (c.in-Some._number, c.in-Some.cert) c.in-Some.ensures.items end h in
    p.rest

pub returns-in-Some-clause-named : goal.returns-in-Some-clause-named
returns-in-Some-clause-named c =
    let written = last_has (λ (e : ℕ × Cert). IsWritten e.1) c.pop.new.self.items c.args.left.now.items (c.in-Some._number, c.in-Some.cert) c.in-Some.ensures.items c.requires.written in
    written.named

pub returns-in-Some-clause-left : goal.returns-in-Some-clause-left
returns-in-Some-clause-left c = subst (All (λ (e : ℕ × Cert). IsWritten e.1)) (sym c.pop.ensures.rest) (All-take (λ (e : ℕ × Cert). IsWritten e.1) _ c.args.left.now.items c.requires.written)

pub returns-in-None-clause-made : goal.returns-in-None-clause-made
returns-in-None-clause-made c = λ es n cs ks k is h.
    let end : k.end ≡ supplied = sym is ∙ ap seen_end c.in-Supplied.is in
    let none : length c.args.left.now.items ≡ 0 = search rules in
    absurd (none_waits es c.args.budget n (condition_of c.args.terms.now c.args.cond.now) k cs ks c.args.left.now.items none end h)

pub returns-in-None-clause-taken : goal.returns-in-None-clause-taken
returns-in-None-clause-taken c = λ es n cs ks k is h.
    let end : k.end ≡ supplied = sym is ∙ ap seen_end c.in-Supplied.is in
    let none : length c.args.left.now.items ≡ 0 = search rules in
    absurd (none_waits es c.args.budget n (condition_of c.args.terms.now c.args.cond.now) k cs ks c.args.left.now.items none end h)
