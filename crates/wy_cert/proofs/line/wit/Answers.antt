use Rattle.std.proofs.Common.{rules, []}
use Rattle.wy_cert.specs.Numbers.{IsPlaceAt}
use Rattle.wy_cert.proofs.BodyLemmas.{wit_here}
use Rattle.wy_cert.proofs.line.wit.Goals as goal

pub returns-in-Some-clause-value : goal.returns-in-Some-clause-value
returns-in-Some-clause-value c =
    let place : IsPlaceAt c.args.text.now c.in-Some.i [] = search rules in
    λ at. wit_here c.args.text.now c.in-Some.i place
