use Rattle.wy_cache_text.proofs.LineLemmas.{no_more_lines, one_line_more}
use Rattle.wy_cache_text.proofs.line.lines.Goals as goal

pub returns-in-None : goal.returns-in-None
returns-in-None c =
    let so_far = c.loop-line.invariant in
    record { value = no_more_lines c.loop-line._line c.args.count c.args.text.now so_far.front c.loop-line.rest.now c.loop-line-test.true so_far.lines c.in-None.ensures.value }

pub loop-line-preserved : goal.loop-line-preserved
loop-line-preserved c = one_line_more c.loop-line._line c.args.text.now c.loop-line.rest.now c.in-Some.more.now c.loop-line.invariant c.in-Some.ensures.value
