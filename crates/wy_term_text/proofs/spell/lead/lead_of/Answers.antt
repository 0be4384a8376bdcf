use Rattle.std.proofs.Common.{arith, ◌<◌, length}
use Rattle.wy_term_text.specs.spell.Heads.{lead_at}
use Rattle.wy_term_text.proofs.spell_lemmas.CodeLemmas.{row_found, row_passed}
use Rattle.wy_term_text.proofs.spell.lead.lead_of.Goals as goal

pub returns-in-Some : goal.returns-in-Some
returns-in-Some c =
    let rows = c.as_slice-row-items.result.now in
    let lt : c.loop-row.row-index < length c.as_slice-row-items.result.now = omega arith in
    record { value = row_found rows c.loop-row.row-index c.args.text.now c.as_bytes.result.now c.in-Some.rest.now (lead_at c.args.text.now) _ lt c.as_bytes.ensures.value c.in-Some.ensures.value c.loop-row.invariant }

pub loop-row-preserved : goal.loop-row-preserved
loop-row-preserved c =
    let rows = c.as_slice-row-items.result.now in
    let lt : c.loop-row.row-index < length c.as_slice-row-items.result.now = omega arith in
    row_passed rows c.loop-row.row-index c.args.text.now c.as_bytes.result.now (lead_at c.args.text.now) _ lt c.as_bytes.ensures.value c.in_default.ensures.value c.loop-row.invariant
