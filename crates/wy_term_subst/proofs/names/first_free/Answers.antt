use Rattle.std.proofs.Common.{◌≡◌, ◌∙◌, ◌+◌, ◌-◌, ℕ, sym, ap, true, false, nat_eq, rules}
use Rattle.std.specs.HashSet.{contains}
use Rattle.wy_term_subst.specs.Names.{top, is_in}
use Rattle.wy_term_subst.proofs.NameLemmas.{free_more, free_here}
use Rattle.wy_term_subst.proofs.names.first_free.Goals as goal

pub loop-least-preserved : goal.loop-least-preserved
loop-least-preserved c = λ ns counts.
    let e : c.from-number.result ≡ c.loop-least.least = search rules in
    let taken : contains nat_eq c.args.taken.now.numbers c.from-number.result ≡ true = search rules in
    let in_ns : is_in c.loop-least.least ns ≡ true = ap (λ (k : ℕ). is_in k ns) (sym e) ∙ (sym (counts.numbers c.from-number.result) ∙ taken) in
    sym (free_more ns c.loop-least.least in_ns) ∙ c.loop-least.invariant ns counts

pub returns-then-not-contains : goal.returns-then-not-contains
returns-then-not-contains c = λ ns counts.
    let e : c.from-number.result ≡ c.loop-least.least = search rules in
    let free : contains nat_eq c.args.taken.now.numbers c.from-number.result ≡ false = search rules in
    let not_in : is_in c.loop-least.least ns ≡ false = ap (λ (k : ℕ). is_in k ns) (sym e) ∙ (sym (counts.numbers c.from-number.result) ∙ free) in
    e ∙ (sym (free_here ns (top ns + 1 - c.loop-least.least) c.loop-least.least not_in) ∙ c.loop-least.invariant ns counts)
