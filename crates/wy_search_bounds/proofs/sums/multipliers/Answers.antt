use Rattle.std.proofs.Common.{◌≡◌, ◌∙◌, ◌+◌, ◌*◌, ◌<◌, ◌≤◌, ◌^◌, ap, arith, rules}
use Rattle.wy_search_bounds.specs.declared.removal.Taking.{Taking}
use Rattle.wy_search_bounds.proofs.SumLemmas.{multiplier_more, fit_more, fit_never, one_longer}
use Rattle.wy_search_bounds.proofs.sums.multipliers.Goals as goal

pub returns-in-None : goal.returns-in-None
returns-in-None c =
    let t = c.taking-item.result in
    let le : 2 ^ 127 ≤ c.args.k * t.times = search rules in
    let bound = c.loop-taking-test.true in
    fit_never c.args.k c.args.takings.now c.loop-taking.taking-index t c.loop-taking.made.items _ bound (omega (arith, le, ap (λ (u : Taking). c.args.k * u.times) c.taking-item.is)) c.loop-taking.invariant.left

pub loop-taking-preserved : goal.loop-taking-preserved
loop-taking-preserved c =
    let i = c.loop-taking.taking-index in
    let t = c.taking-item.result in
    let m = c.in-Some.m in
    let is : m ≡ c.args.k * t.times = search rules in
    let small : m < 2 ^ 127 = search rules in
    let place : c.in_ok-number-in-Some.number ≡ i + 1 = search (rules, c.loop-taking.invariant.count) in
    let put = c.in_ok-push-in-Some.ensures.items in
    record {
      count = one_longer c.loop-taking.made.items c.push-in-Some.new.self.items m c.in_ok-number-in-Some.number i put c.loop-taking.invariant.count;
      left = multiplier_more c.args.k c.args.takings.now i t m c.in_ok-number-in-Some.number c.loop-taking.made.items c.push-in-Some.new.self.items _ c.loop-taking-test.true (is ∙ ap (λ (u : Taking). c.args.k * u.times) c.taking-item.is) place put c.loop-taking.invariant.left;
      fit = fit_more c.loop-taking.made.items c.push-in-Some.new.self.items m c.in_ok-number-in-Some.number put small c.loop-taking.invariant.fit;
    }
