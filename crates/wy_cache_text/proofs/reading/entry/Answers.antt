use Rattle.std.proofs.Common.{rules, ◌≡◌, codes}
use Rattle.wy_cache_text.specs.Files.{IsCountAt, NoCount}
use Rattle.wy_cache_text.proofs.FileLemmas.{entry_no_key, entry_no_by, entry_no_number, entry_no_steps}
use Rattle.wy_cache_text.proofs.reading.entry.Goals as goal

pub returns-in_default-lines : goal.returns-in_default-lines
returns-in_default-lines c =
    let opens : IsCountAt (codes "for ") c.args.text.now c.in-Some.hypotheses c.in-Some.rest.now = search rules in
    record { value = entry_no_key c.args.text.now c.in-Some.hypotheses c.in-Some.rest.now opens c.in_default-lines.ensures.value }

pub returns-in_default-2 : goal.returns-in_default-2
returns-in_default-2 c =
    let opens : IsCountAt (codes "for ") c.args.text.now c.in-Some.hypotheses c.in-Some.rest.now = search rules in
    let never : NoCount (codes "by ") c.in-Some-lines.rest.now = search rules in
    record { value = entry_no_by c.args.text.now c.in-Some.hypotheses c.in-Some.rest.now opens c.in-Some-lines.key.now c.in-Some-lines.rest.now c.in-Some-lines.ensures.value never }

pub returns-then-number-eq0 : goal.returns-then-number-eq0
returns-then-number-eq0 c =
    let opens : IsCountAt (codes "for ") c.args.text.now c.in-Some.hypotheses c.in-Some.rest.now = search rules in
    let goes_on : IsCountAt (codes "by ") c.in-Some-lines.rest.now c.in-Some-2.number c.in-Some-2.rest.now = search rules in
    let zero : c.in-Some-2.number ≡ 0 = search rules in
    record {
      value = entry_no_number c.args.text.now c.in-Some.hypotheses c.in-Some.rest.now opens c.in-Some-lines.key.now c.in-Some-lines.rest.now c.in-Some-lines.ensures.value c.in-Some-2.number c.in-Some-2.rest.now goes_on zero;
    }

pub returns-in_default-lines-2 : goal.returns-in_default-lines-2
returns-in_default-lines-2 c =
    let opens : IsCountAt (codes "for ") c.args.text.now c.in-Some.hypotheses c.in-Some.rest.now = search rules in
    let goes_on : IsCountAt (codes "by ") c.in-Some-lines.rest.now c.in-Some-2.number c.in-Some-2.rest.now = search rules in
    record {
      value = entry_no_steps c.args.text.now c.in-Some.hypotheses c.in-Some.rest.now opens c.in-Some-lines.key.now c.in-Some-lines.rest.now c.in-Some-lines.ensures.value c.in-Some-2.number c.in-Some-2.rest.now goes_on
          c.in_default-lines-2.ensures.value;
    }
