use Rattle.std.proofs.Common.{rules, codes}
use Rattle.wy_data.specs.scan.Front.{IsBehind, NotBehind}
use Rattle.wy_cert.specs.Numbers.{IsMultiplierAt, NoPlace}
use Rattle.wy_cert.proofs.NumberLemmas.{pair_no_gap, pair_no_place}
use Rattle.wy_cert.proofs.numbers.pair.Goals as goal

pub returns-in_default-behind : goal.returns-in_default-behind
returns-in_default-behind c =
    let space : IsBehind (codes " ") c.args.text.now c.in-Some.start.now = search rules in
    let here : IsMultiplierAt c.in-Some.start.now c.in-Some-2.m c.in-Some-2.rest.now = search rules in
    let never : NotBehind (codes " ") c.in-Some-2.rest.now = search rules in
    record { value = pair_no_gap c.args.text.now c.in-Some.start.now c.in-Some-2.rest.now c.in-Some-2.m space here never }

pub returns-in-None : goal.returns-in-None
returns-in-None c =
    let space : IsBehind (codes " ") c.args.text.now c.in-Some.start.now = search rules in
    let here : IsMultiplierAt c.in-Some.start.now c.in-Some-2.m c.in-Some-2.rest.now = search rules in
    let gap : IsBehind (codes " ") c.in-Some-2.rest.now c.in-Some-behind.between.now = search rules in
    let never : NoPlace c.in-Some-behind.between.now = search rules in
    record { value = pair_no_place c.args.text.now c.in-Some.start.now c.in-Some-2.rest.now c.in-Some-behind.between.now c.in-Some-2.m space here gap never }
