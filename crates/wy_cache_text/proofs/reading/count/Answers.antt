use Rattle.std.proofs.Common.{rules, ◌<◌}
use Rattle.wy_data.specs.scan.Numbers.{IsNaturalAt, NoNatural}
use Rattle.wy_cache_text.specs.Files.{most}
use Rattle.wy_cache_text.proofs.FileLemmas.{count_no_number, count_no_end, count_large}
use Rattle.wy_cache_text.proofs.reading.count.Goals as goal

pub returns-in_default-2 : goal.returns-in_default-2
returns-in_default-2 c =
    let never : NoNatural c.in-Some.digits.now = search rules in
    record { value = count_no_number c.args.word.now c.args.text.now c.in-Some.digits.now c.in-Some.ensures.value never }

pub returns-in_default-behind : goal.returns-in_default-behind
returns-in_default-behind c =
    let here : IsNaturalAt c.in-Some.digits.now c.in-Some-2.number c.in-Some-2.end.now = search rules in
    record { value = count_no_end c.args.word.now c.args.text.now c.in-Some.digits.now c.in-Some-2.number c.in-Some-2.end.now c.in-Some.ensures.value here c.in_default-behind.ensures.value }

pub returns-then-number-gt-MOST : goal.returns-then-number-gt-MOST
returns-then-number-gt-MOST c =
    let here : IsNaturalAt c.in-Some.digits.now c.in-Some-2.number c.in-Some-2.end.now = search rules in
    let large : most < c.in-Some-2.number = search rules in
    record { value = count_large c.args.word.now c.args.text.now c.in-Some.digits.now c.in-Some-2.number c.in-Some-2.end.now c.in-Some.ensures.value here large }
