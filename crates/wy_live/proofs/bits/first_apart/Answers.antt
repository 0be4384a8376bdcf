use Rattle.std.proofs.Common.{arith}
use Rattle.wy_live.proofs.BitLemmas.{none_apart, within_word, first_found, none_before}
use Rattle.wy_live.proofs.bits.first_apart.Goals as goal

pub returns-then-apart-eq0-clause-between : goal.returns-then-apart-eq0-clause-between
returns-then-apart-eq0-clause-between c = λ i l r. none_apart c.args.one c.args.other c.args.least (omega arith) c.if-apart-eq0.true i l r

pub returns-clause-bound : goal.returns-clause-bound
returns-clause-bound c = let w = within_word c.args.one c.args.other c.args.least (omega arith) (omega arith) (omega arith) in omega (arith, w)

pub returns-clause-between : goal.returns-clause-between
returns-clause-between c = none_before c.args.one c.args.other c.args.least (omega arith) (omega arith) (omega arith)

pub returns-clause-found : goal.returns-clause-found
returns-clause-found c = λ _. first_found c.args.one c.args.other c.args.least (omega arith) (omega arith) (omega arith)
