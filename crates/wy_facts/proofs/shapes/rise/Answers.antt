use Rattle.std.proofs.Common.{sym, ◌∙◌}
use Rattle.wy_facts.proofs.StepLemmas.{rise_end}
use Rattle.wy_facts.proofs.shapes.rise.Goals as goal

pub returns : goal.returns
returns c = record { value = sym (sym c.loop-i.invariant.so_far ∙ rise_end c.args.names.now c.loop-i.i c.loop-i.invariant.from c.loop-i-test.false) }
