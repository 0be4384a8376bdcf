use Rattle.std.proofs.Common.{◌≡◌, ◌<◌, ◌+◌, ℕ, suc, length, map, sym, ap, ◌∙◌, arith}
use Rattle.wy_lin.specs.Seen.{linear_form}
use Rattle.wy_lin.specs.Combination.{form_at}
use Rattle.wy_lin_eliminate.specs.Elimination.{given, goes_on, refuted}
use Rattle.wy_lin_eliminate.specs.Seen.{seen_table, seen_turn}
use Rattle.wy_lin_eliminate.proofs.StartLemmas.{given_next, starts_on}
use Rattle.wy_lin_eliminate.proofs.given.given.Goals as goal

pub returns-in-Refuted : goal.returns-in-Refuted
returns-in-Refuted c =
    let fs = c.args.table.all.items in
    let s = seen_table c.loop-i.table in
    let i = c.loop-i.i in
    let lt : i < length fs = omega (arith, c.len-count.ensures) in
    let next : i + 1 ≡ suc i = omega arith in
    let turn : refuted c.in-Refuted.steps ≡ given s i (form_at s.all i) = ap seen_turn (sym c.in-Refuted.is) ∙ c.in_ok-next.ensures.value ∙ ap (λ (k : ℕ). given s k (form_at s.all k)) c.in_ok-place.ensures.value in
    record { value = sym (given_next fs s i (i + 1) (refuted c.in-Refuted.steps) c.loop-i.invariant.first lt next turn) ∙ c.loop-i.invariant.rest }

pub loop-i-preserved : goal.loop-i-preserved
loop-i-preserved c =
    let fs = c.args.table.all.items in
    let s = seen_table c.loop-i.table in
    let t = seen_table c.in-GoesOn.next in
    let i = c.loop-i.i in
    let lt : i < length fs = omega (arith, c.len-count.ensures) in
    let next : i + 1 ≡ suc i = omega arith in
    let turn : goes_on t ≡ given s i (form_at s.all i) = ap seen_turn (sym c.in-GoesOn.is) ∙ c.in_ok-next.ensures.value ∙ ap (λ (k : ℕ). given s k (form_at s.all k)) c.in_ok-place.ensures.value in
    record {
      rest = sym (given_next fs s i (i + 1) (goes_on t) c.loop-i.invariant.first lt next turn) ∙ c.loop-i.invariant.rest;
      first = starts_on (map linear_form fs) s t i (form_at s.all i) turn c.loop-i.invariant.first;
    }
