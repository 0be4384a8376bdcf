use Rattle.std.proofs.Common.{rules, arith}
use Rattle.std.proofs.lemmas.Grind.{common_steps}
use Rattle.wy_lemmas.proofs.Choices.{unlike as true_false}
use Rattle.wy_data.proofs.scan_lemmas.NumberLemmas.{no_parse, too_large, written_apart}
use Rattle.wy_data.proofs.scan_lemmas.WordLemmas.{from_true}
use Rattle.wy_data.proofs.scan.numbers.unsigned.Goals as goal

pub returns-in_default-parse : goal.returns-in_default-parse
returns-in_default-parse c = record { value = no_parse _ _ c.in-Ok.front.now c.parse.result c.in_default-parse.field-0 (first_of (search rules, cc)) c.in_default-parse.is c.parse.ensures.value.0 }

pub returns-then-number-ge170141183460469231731687303715884105728 : goal.returns-then-number-ge170141183460469231731687303715884105728
returns-then-number-ge170141183460469231731687303715884105728 c = record {
  value = too_large _ _ c.in-Ok.front.now c.parse.result c.in-Ok-parse.number (first_of (search rules, cc)) c.in-Ok-parse.is c.parse.ensures.value.0 c.if-number-ge170141183460469231731687303715884105728.true;
}

pub returns : goal.returns
returns c = record {
  value = written_apart _ _ c.in-Ok.front.now c.as_bytes.result.now c.parse.result c.in-Ok-parse.number (first_of (search rules, cc)) c.in-Ok-parse.is c.parse.ensures.value.0 (first_of (search rules, cc, grind (arith, common_steps)))
      (λ h. true_false c.same_bytes.result (from_true c.same_bytes.result (c.same_bytes.ensures.complete.1 (first_of (search rules, cc)))) (first_of (search rules, cc)));
}
