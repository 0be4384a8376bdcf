use Rattle.std.proofs.Common.{◌<ℤ◌, ◌≤ℤ◌, Option, rules, subst}
use Rattle.wy_search_bounds.proofs.BoundLemmas.{first_bound, new_bound, old_bound}
use Rattle.wy_search_bounds.proofs.tightest.tighter.Goals as goal
use Rattle.wy_search_bounds.specs.Bounds.{AreBounds}
use Rattle.wy_search_bounds.specs.declared.tightest.Bound.{Bound}

pub returns-then-one-b : goal.returns-then-one-b
returns-then-one-b c = λ ls f below given y at old new.
    let lt : c.args.one.at <ℤ c.in-Some.b.at = search rules in
    new_bound ls f below c.in-Some.b c.args.one given y at (subst (λ (o : Option Bound). AreBounds ls f below o given) c.in-Some.is old) new lt

pub returns-else-one-b : goal.returns-else-one-b
returns-else-one-b c = λ ls f below given y at old new.
    let le : c.in-Some.b.at ≤ℤ c.args.one.at = search rules in
    old_bound ls f below c.in-Some.b c.args.one given y at (subst (λ (o : Option Bound). AreBounds ls f below o given) c.in-Some.is old) new le

pub returns-in-None : goal.returns-in-None
returns-in-None c = λ ls f below given y at old new.
    first_bound ls f below c.args.one given y at (subst (λ (o : Option Bound). AreBounds ls f below o given) c.in-None.is old) new
