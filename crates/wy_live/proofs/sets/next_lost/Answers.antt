use Rattle.std.proofs.Common.{◌≡◌, true, ℕ, List, length, ◌∙◌, ap, sym, subst, arith}
use Rattle.wy_live.specs.declared.words.Word.{Word}
use Rattle.wy_live.specs.Apart.{IsNext}
use Rattle.wy_live.specs.Lost.{is_lost, NoneLost}
use Rattle.wy_live.specs.Sets.{Variables}
use Rattle.wy_live.specs.Words.{in_words}
use Rattle.wy_live.proofs.ShownLemmas.{length_shown}
use Rattle.wy_live.proofs.KeptLemmas.{next_within, next_lost_so, none_between}
use Rattle.wy_live.proofs.sets.next_lost.Goals as goal

-- what was said of slices is so of the words of both sets
apart_in : (a b c d : List Word) → c ≡ a → d ≡ b → (from x : ℕ) → IsNext c d from x → IsNext a b from x
apart_in a b c d p q from x next = subst (λ (l : List Word). IsNext l b from x) p (subst (λ (l : List Word). IsNext c l from x) q next)

-- what is so of what they show is so of the sets
none_in : (s t u v : Variables) → s ≡ u → t ≡ v → (from to : ℕ) → NoneLost s t from to → NoneLost u v from to
none_in s t u v p q from to none = subst (λ (z : Variables). NoneLost z v from to) p (subst (λ (z : Variables). NoneLost s z from to) q none)

lost_in : (s t u v : Variables) → s ≡ u → t ≡ v → (x : ℕ) → is_lost s t x ≡ true → is_lost u v x ≡ true
lost_in s t u v p q x so = subst (λ (z : Variables). is_lost z v x ≡ true) p (subst (λ (z : Variables). is_lost s z x ≡ true) q so)

pub returns-in-Some-clause-within : goal.returns-in-Some-clause-within
returns-in-Some-clause-within c =
    let a = c.one.inside.words.items in
    let b = c.other.inside.words.items in
    let next = apart_in a b _ _ c.as_slice.ensures.value c.as_slice-2.ensures.value c.args.from c.in-Some.variable c.in-Some.ensures.found in
    let l = next_within a b c.one.inside.count c.other.inside.count c.one.invariant c.other.invariant c.args.from c.in-Some.variable next in
    let e = ap length (sym c.one.view_is) ∙ length_shown a c.one.inside.count in
    omega (arith, l, e)

pub returns-in-Some-clause-between : goal.returns-in-Some-clause-between
returns-in-Some-clause-between c =
    let a = c.one.inside.words.items in
    let b = c.other.inside.words.items in
    let next = apart_in a b _ _ c.as_slice.ensures.value c.as_slice-2.ensures.value c.args.from c.in-Some.variable c.in-Some.ensures.found in
    none_in _ _ _ _ c.one.view_is c.other.view_is c.args.from c.in-Some.variable
    (none_between a b c.one.inside.count c.other.inside.count c.one.invariant c.other.invariant c.args.from c.in-Some.variable next.between)

pub returns-in-Some-clause-found : goal.returns-in-Some-clause-found
returns-in-Some-clause-found c =
    let a = c.one.inside.words.items in
    let b = c.other.inside.words.items in
    let next = apart_in a b _ _ c.as_slice.ensures.value c.as_slice-2.ensures.value c.args.from c.in-Some.variable c.in-Some.ensures.found in
    λ _. lost_in _ _ _ _ c.one.view_is c.other.view_is c.in-Some.variable
    (next_lost_so a b c.one.inside.count c.other.inside.count c.one.invariant c.other.invariant c.args.from c.in-Some.variable next)

pub returns-in-None-clause-behind : goal.returns-in-None-clause-behind
returns-in-None-clause-behind c =
    let e = ap length (sym c.one.view_is) ∙ length_shown c.one.inside.words.items c.one.inside.count in
    let w = c.requires.within in
    omega (arith, e, w)

pub returns-in-None-clause-within : goal.returns-in-None-clause-within
returns-in-None-clause-within c =
    let e = ap length (sym c.one.view_is) ∙ length_shown c.one.inside.words.items c.one.inside.count in
    omega (arith, e)

pub returns-in-None-clause-between : goal.returns-in-None-clause-between
returns-in-None-clause-between c =
    let a = c.one.inside.words.items in
    let b = c.other.inside.words.items in
    none_in _ _ _ _ c.one.view_is c.other.view_is c.args.from c.one.inside.count
    (none_between a b c.one.inside.count c.other.inside.count c.one.invariant c.other.invariant c.args.from c.one.inside.count
    (λ y l _ is. sym (ap (λ l. in_words l y) c.as_slice-2.ensures.value) ∙ c.in-None.ensures.none y l (ap (λ l. in_words l y) c.as_slice.ensures.value ∙ is)))

pub returns-in-None-clause-found : goal.returns-in-None-clause-found
returns-in-None-clause-found c =
    let e = ap length (sym c.one.view_is) ∙ length_shown c.one.inside.words.items c.one.inside.count in
    λ l. absurd (omega (arith, e, l))
