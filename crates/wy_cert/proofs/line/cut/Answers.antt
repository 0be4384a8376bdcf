use Rattle.std.proofs.Common.{rules, arith, ◌≡◌, ◌<◌, ◌≤◌, length}
use Rattle.std.proofs.lemmas.Grind.{common_steps}
use Rattle.wy_cert.specs.Only.{IsTheOne}
use Rattle.wy_cert.specs.Numbers.{IsMultiplierAt, ArePairs}
use Rattle.wy_cert.proofs.BodyLemmas.{cut_empty, cut_here}
use Rattle.wy_cert.proofs.line.cut.Goals as goal

pub returns-then-is_empty-clause-value : goal.returns-then-is_empty-clause-value
returns-then-is_empty-clause-value c =
    let number : IsMultiplierAt c.args.text.now c.in-Some.divisor c.in-Some.rest.now = search rules in
    let pairs : IsTheOne (ArePairs c.in-Some.rest.now) c.in-Some-2.pairs.items = search rules in
    let empty : length c.in-Some-2.pairs.items ≡ 0 = first_of (omega arith, search rules, grind (arith, common_steps)) in
    λ at. cut_empty c.args.text.now c.in-Some.rest.now c.in-Some.divisor c.in-Some-2.pairs.items number pairs empty

pub returns-else-is_empty-clause-value : goal.returns-else-is_empty-clause-value
returns-else-is_empty-clause-value c =
    let number : IsMultiplierAt c.args.text.now c.in-Some.divisor c.in-Some.rest.now = search rules in
    let pairs : IsTheOne (ArePairs c.in-Some.rest.now) c.in-Some-2.pairs.items = search rules in
    let large : 2 ≤ c.in-Some.divisor = first_of (omega arith, search rules) in
    let some : 0 < length c.in-Some-2.pairs.items = first_of (omega arith, search rules, grind (arith, common_steps)) in
    λ at. cut_here c.args.text.now c.in-Some.rest.now c.in-Some.divisor c.in-Some-2.pairs.items number large pairs some
