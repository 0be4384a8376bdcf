use Rattle.std.proofs.Common.{◌-◌, length, arith, rules}
use Rattle.wy_parse_grammar.specs.Sorts.{is, AMPERSAND}
use Rattle.wy_parse_grammar.specs.TypeReading as spec
use Rattle.wy_parse_grammar.proofs.StepLemmas.{turn_stops}
use Rattle.wy_parse_grammar.proofs.types.Types.inters.Goals as goal

pub returns-in_err-more : goal.returns-in_err-more
returns-in_err-more g c =
    let levels = c.args.self.now.levels in
    turn_stops (is AMPERSAND) (spec.and_suffix levels (spec.tight levels)) (length c.args.tokens.now - c.loop-turn._turn) c.loop-turn.made c.loop-turn.rest.now _ c.in_err-more.field-0.0 c.from_residual.result
    (search rules) c.loop-turn.invariant (omega arith) (search rules) c.in_err-more.ensures
