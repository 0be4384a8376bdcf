use Rattle.std.proofs.Common.{◌∙◌, ◌++◌, ℕ, List, ap}
use Rattle.wy_vc.proofs.StandingLemmas.{types_told}
use Rattle.wy_vc.proofs.standing.types_behind.Goals as goal

pub returns-clause-value : goal.returns-clause-value
returns-clause-value c =
    types_told c.args.terms.now c.turn_to.new.standing c.args.hyps.now c.in_ok-own.own.items c.in_ok-types.types.items c.args.goal (c.in_ok-types.ensures.value ∙ ap (λ (l : List ℕ). c.turn_to.new.standing.types.items ++ l) c.as_slice.ensures.value)
    c.in_ok-turn_to.ensures.hyps c.in_ok-own.ensures.value c.in_ok-turn_to.ensures.stands
