use Rattle.wy_vc_body.proofs.PathLemmas.{max_first, max_second}
use Rattle.wy_vc_body.proofs.paths.larger.Goals as goal

pub returns-then-a-b : goal.returns-then-a-b
returns-then-a-b c = record { value = max_second c.args.a c.args.b c.if-a-b.true }

pub returns-else-a-b : goal.returns-else-a-b
returns-else-a-b c = record { value = max_first c.args.a c.args.b c.if-a-b.false }
