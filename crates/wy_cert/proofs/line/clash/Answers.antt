use Rattle.std.proofs.Common.{rules}
use Rattle.wy_cert.specs.Only.{IsTheOne}
use Rattle.wy_cert.specs.Numbers.{IsPlaceAt}
use Rattle.wy_cert.specs.Lines.{IsOther}
use Rattle.wy_cert.proofs.BodyLemmas.{clash_here}
use Rattle.wy_cert.proofs.line.clash.Goals as goal

pub returns-in-Some-2-clause-value : goal.returns-in-Some-2-clause-value
returns-in-Some-2-clause-value c =
    let place : IsPlaceAt c.args.text.now c.in-Some.i c.in-Some.rest.now = search rules in
    let other : IsTheOne (IsOther c.in-Some.rest.now) c.in-Some-2.other = search rules in
    λ at. clash_here c.args.text.now c.in-Some.rest.now c.in-Some.i c.in-Some-2.other place other
