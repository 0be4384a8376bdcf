use Rattle.std.proofs.Common.{◌<◌, ℕ, List, All, length, subst, sym}
use Rattle.wy_facts.proofs.membership.unfolded.Goals as goal

pub subst-requires-clause-formula : goal.subst-requires-clause-formula
subst-requires-clause-formula c =
    let n = length c.args.terms.now in
    let all = subst (λ (es : List (ℕ × ℕ × ℕ)). All (λ (e : ℕ × ℕ × ℕ). (e.1 < n) × (e.2 < n)) es) (sym c.deref.ensures.value) c.requires.types in
    (c.in-Some-entry_for.ensures.within n all).1

pub subst-requires-clause-name : goal.subst-requires-clause-name
subst-requires-clause-name c =
    let n = length c.args.terms.now in
    let all = subst (λ (es : List (ℕ × ℕ × ℕ)). All (λ (e : ℕ × ℕ × ℕ). (e.1 < n) × (e.2 < n)) es) (sym c.deref.ensures.value) c.requires.types in
    (c.in-Some-entry_for.ensures.within n all).0
