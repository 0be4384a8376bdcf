use Rattle.wy_term.proofs.FoldLemmas.{field_within}
use Rattle.wy_term.proofs.fold.part_of.Goals as goal

pub returns-then-is-clause-within : goal.returns-then-is-clause-within
returns-then-is-clause-within c = field_within c.args.fields.now _ c.requires c.loop-field.field-index c.loop-field-item.result c.loop-field-test.true c.loop-field-item.is
