use Rattle.std.proofs.Common.{arith, rules}
use Rattle.wy_parse_grammar.specs.Sorts.{is, COMMA}
use Rattle.wy_parse_grammar.specs.TypeReading as spec
use Rattle.wy_parse_grammar.proofs.StepLemmas.{turn_stops}
use Rattle.wy_parse_grammar.proofs.types.Types.fields.Goals as goal

pub returns-in_err-more : goal.returns-in_err-more
returns-in_err-more g c =
    let levels = c.args.self.now.levels in
    turn_stops (is COMMA) (spec.next_field levels (spec.tight levels)) _ c.loop-turn.made c.loop-turn.rest.now _ c.in_err-more.field-0.0 c.from_residual-in_err-more.result
    (search rules) c.loop-turn.invariant (omega arith) (search rules) c.in_err-more.ensures
