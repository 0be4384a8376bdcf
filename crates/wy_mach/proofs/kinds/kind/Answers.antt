use Rattle.std.proofs.Common.{◌≡◌, None, sym, ap, ◌∙◌, rules}
use Rattle.wy_heap.specs.Nodes.{holds}
use Rattle.wy_mach.proofs.RegisterLemmas.{scalar_turns}
use Rattle.wy_mach.proofs.KindLemmas.{kind_goes, kind_none, kind_beyond}
use Rattle.wy_mach.proofs.ShareLemmas.{puts_scalar}
use Rattle.wy_mach.proofs.kinds.kind.Goals as goal

pub returns-in_default-clause-stuck : goal.returns-in_default-clause-stuck
returns-in_default-clause-stuck c =
    kind_beyond c.args.heap.now c.args.registers.now c.args.shapes.now c.args.to c.args.from c.args.asked c.in_default.ensures

pub returns-in_default-told-clause-stuck : goal.returns-in_default-told-clause-stuck
returns-in_default-told-clause-stuck c =
    let none : c.told.result ≡ None = search rules in
    kind_none c.args.heap.now c.args.registers.now c.args.shapes.now c.args.to c.args.from c.args.asked c.in-Some.kind c.requires.table c.requires.held.1.table c.requires.extends c.in-Some.ensures.1 (sym c.told.ensures ∙ none)

pub returns-clause-turns : goal.returns-clause-turns
returns-clause-turns c =
    scalar_turns c.args.heap.now c.put.new.heap c.args.registers.now c.put.new.registers c.scalar.result (λ k. ap (holds k) c.scalar.ensures.value) c.put.ensures.acts

pub returns-clause-value : goal.returns-clause-value
returns-clause-value c =
    kind_goes c.args.heap.now c.put.new.heap c.args.registers.now c.put.new.registers c.args.shapes.now c.args.to c.args.from c.args.asked c.in-Some.kind c.in-Some-told.answer c.scalar.result c.requires.held c.requires.table c.requires.held.1.table c.requires.extends c.in-Some.ensures.1
    (sym c.told.ensures ∙ c.in-Some-told.is) c.scalar.ensures.value c.put.ensures.acts c.put.ensures.registers

pub returns-clause-shares : goal.returns-clause-shares
returns-clause-shares c =
    puts_scalar c.args.heap.now c.put.new.heap c.args.registers.now c.put.new.registers c.args.to c.scalar.result (λ k. ap (holds k) c.scalar.ensures.value) c.put.ensures.registers c.put.ensures.lasts c.put.ensures.copies
