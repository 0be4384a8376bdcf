use Rattle.std.proofs.Common.{◌≡◌, ◌≤◌, None, sym, ◌∙◌, arith, rules}
use Rattle.wy_heap.proofs.RowLemmas.{first_meant}
use Rattle.wy_mach.proofs.ItemLemmas.{item_there}
use Rattle.wy_mach.proofs.TextLemmas.{no_text, has_text}
use Rattle.wy_mach.proofs.texts.text_length.Goals as goal

pub code-requires-clause-there : goal.code-requires-clause-there
code-requires-clause-there c =
    item_there c.args.heap.now c.args.place.now c.requires.held.0 c.in-Some.count c.loop-i.i c.requires.held.1 (λ d means. sym c.in-Some.is ∙ c.items.ensures.value d means) c.loop-i-test.true

pub returns-in_default-code : goal.returns-in_default-code
returns-in_default-code c =
    let none : c.code.result ≡ None = search rules in
    let there_is = item_there c.args.heap.now c.args.place.now c.requires.held.0 c.in-Some.count c.loop-i.i c.requires.held.1 (λ d means. sym c.in-Some.is ∙ c.items.ensures.value d means) c.loop-i-test.true in
    record { value = λ d means. no_text c.args.heap.now c.args.place.now c.loop-i.i c.code.result there_is none c.code.ensures.value d means }

pub returns : goal.returns
returns c =
    let h = c.args.heap.now in
    let p = c.args.place.now in
    let meant = first_meant h p c.requires.held.0 c.requires.held.1 in
    let past : c.in-Some.count ≤ c.loop-i.i = search rules in
    record {
      value = has_text h p c.in-Some.count meant.0 meant.1 (λ e means. sym c.in-Some.is ∙ c.items.ensures.value e means) (λ e means k below. c.loop-i.invariant e means k (omega (arith, below, past)));
    }
