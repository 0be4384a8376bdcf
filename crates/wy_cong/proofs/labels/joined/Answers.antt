use Rattle.wy_cong.proofs.LabelLemmas.{joined_self}
use Rattle.wy_cong.proofs.labels.joined.Goals as goal

pub returns-then-from-into : goal.returns-then-from-into
returns-then-from-into c = joined_self c.args.labels.items c.in-Some-Some.from c.in-Some-Some.into c.args.a c.args.b c.in-Some-Some.is-0 c.in-Some-Some.is-1 c.if-from-into.true
