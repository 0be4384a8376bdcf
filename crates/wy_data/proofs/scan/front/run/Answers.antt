use Rattle.std.proofs.Common.{rules, arith}
use Rattle.std.proofs.lemmas.Grind.{common_steps}
use Rattle.wy_data.specs.scan.Front.{is_word_byte}
use Rattle.wy_data.proofs.scan_lemmas.FrontLemmas.{pass_more}
use Rattle.wy_data.proofs.scan.front.run.Goals as goal

pub loop-end-preserved : goal.loop-end-preserved
loop-end-preserved c = pass_more is_word_byte c.args.text.now c.loop-end.end (first_of (search rules, grind (arith, common_steps))) c.loop-end.invariant (first_of (search rules, cc, grind (arith, common_steps)))
