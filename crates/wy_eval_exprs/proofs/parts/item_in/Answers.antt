use Rattle.std.proofs.Common.{sym, ◌∙◌}
use Rattle.wy_value.proofs.SeenLemmas.{seen_null}
use Rattle.wy_eval_exprs.proofs.PartLemmas.{no_item_there}
use Rattle.wy_eval_exprs.proofs.parts.item_in.Goals as goal

pub returns-then-place-items : goal.returns-then-place-items
returns-then-place-items c = record { value = seen_null ∙ sym (no_item_there c.args.items.now c.args.place c.if-place-items.true) }
