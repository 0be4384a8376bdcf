use Rattle.std.proofs.Common.{◌≡◌, ◌∙◌, List, Option, Some, ap, cond, length, refl, rules, arith}
use Rattle.std.specs.Prelude.{ℕ, nat_eq}
use Rattle.wy_search_bounds.proofs.KnownLemmas.{there_pushed, there_set}
use Rattle.wy_search_bounds.proofs.lasting.put.Goals as goal
use Rattle.wy_search_bounds.specs.Known.{place_there}

pub loop-places-init : goal.loop-places-init
loop-places-init c = λ a. refl

pub loop-places-preserved : goal.loop-places-preserved
loop-places-preserved c = λ a.
    ap (λ (os : List (Option (Option ℕ))). place_there os a) c.in_ok-push.ensures.items ∙ (there_pushed c.loop-places.places.items a ∙ c.loop-places.invariant a)

pub returns : goal.returns
returns c = λ a.
    let same : length c.loop-places.places.items ≡ c.len.result = search rules in
    there_set c.loop-places.places.items c.args.atom c.args.place a (omega (arith, same, c.loop-places-test.false))
    ∙ ap (λ (o : Option (Option ℕ)). cond (nat_eq c.args.atom a) (Some c.args.place) o) (c.loop-places.invariant a)
