use Rattle.wy_parse.proofs.StepLemmas.{inside_below}
use Rattle.wy_parse.proofs.blocks.with_cases.Goals as goal

pub case-requires : goal.case-requires
case-requires g c = c.requires.nests c.inside.result (rw c.inside.ensures (inside_below c.args.levels c.requires.some))
