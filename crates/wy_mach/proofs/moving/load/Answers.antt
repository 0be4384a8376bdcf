use Rattle.wy_mach.proofs.RegisterLemmas.{scalar_turns, scalar_free}
use Rattle.wy_mach.proofs.MoveLemmas.{const_goes}
use Rattle.std.proofs.Common.{ap, refl, ◌∙◌}
use Rattle.wy_heap.specs.Parts.{scalar_part}
use Rattle.wy_mach.specs.Showing.{scalar_kind}
use Rattle.wy_mach.proofs.ShareLemmas.{puts_in}
use Rattle.wy_mach.proofs.moving.load.Goals as goal

pub returns-clause-turns : goal.returns-clause-turns
returns-clause-turns c =
    scalar_turns c.args.heap.now c.put.new.heap c.args.registers.now c.put.new.registers c.scalar.result (scalar_free c.scalar.result c.in-Some.kind c.scalar.ensures.value) c.put.ensures.acts

pub returns-clause-value : goal.returns-clause-value
returns-clause-value c shapes =
    const_goes c.args.heap.now c.put.new.heap c.args.registers.now c.put.new.registers c.args.to c.args.constant c.in-Some.kind c.scalar.result c.requires.held c.in-Some.ensures.1 c.scalar.ensures.value c.put.ensures.acts c.put.ensures.registers

pub returns-clause-shares : goal.returns-clause-shares
returns-clause-shares c =
    let h = c.args.heap.now in
    let ps = c.args.registers.now in
    puts_in h h c.put.new.heap ps ps c.put.new.registers c.args.to (scalar_part (scalar_kind c.args.constant)) c.scalar.result refl refl refl (c.scalar.ensures.value ∙ ap scalar_part c.in-Some.ensures.1) c.put.ensures.registers c.put.ensures.lasts c.put.ensures.copies
