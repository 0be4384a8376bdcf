use Rattle.wy_lin_eliminate.proofs.DivisionLemmas.{gcd_found, gcd_kept, gcd_one}
use Rattle.wy_lin_eliminate.proofs.division.gcd.Goals as goal

pub loop-y-preserved : goal.loop-y-preserved
loop-y-preserved c = gcd_kept c.args.a c.args.b c.loop-y.x c.loop-y.y c.loop-y.invariant

pub returns : goal.returns
returns c = record { value = gcd_found c.args.a c.args.b c.loop-y.x c.loop-y.y c.loop-y-test.false c.loop-y.invariant }

pub returns-then-y-eq1 : goal.returns-then-y-eq1
returns-then-y-eq1 c = record { value = gcd_one c.args.a c.args.b c.loop-y.x c.loop-y.y c.if-y-eq1.true c.loop-y.invariant }
