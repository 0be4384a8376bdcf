use Rattle.std.proofs.Common.{◌≡◌, ap}
use Rattle.wy_heap.specs.declared.part.Part.TheVariants as part
use Rattle.wy_heap.specs.Nodes.{holds}
use Rattle.wy_mach.proofs.RegisterLemmas.{scalar_turns}
use Rattle.wy_mach.proofs.EqualLemmas.{equal_goes}
use Rattle.wy_mach.proofs.ShareLemmas.{puts_scalar}
use Rattle.wy_mach.proofs.comparing.equal.Goals as goal

pub returns-clause-turns : goal.returns-clause-turns
returns-clause-turns c =
    let is : c.scalar.result ≡ part.Bool c.in_ok-same.same = c.scalar.ensures.value in
    scalar_turns c.args.heap.now c.put.new.heap c.args.registers.now c.put.new.registers c.scalar.result (λ k. ap (holds k) is) c.put.ensures.acts

pub returns-clause-value : goal.returns-clause-value
returns-clause-value c shapes =
    equal_goes c.args.heap.now c.put.new.heap c.args.registers.now c.put.new.registers c.args.to c.args.left c.args.right c.in_ok-same.same c.scalar.result c.requires.held c.in_ok-same.ensures.value c.scalar.ensures.value c.put.ensures.acts c.put.ensures.registers

pub returns-clause-shares : goal.returns-clause-shares
returns-clause-shares c =
    let is : c.scalar.result ≡ part.Bool c.in_ok-same.same = c.scalar.ensures.value in
    puts_scalar c.args.heap.now c.put.new.heap c.args.registers.now c.put.new.registers c.args.to c.scalar.result (λ k. ap (holds k) is) c.put.ensures.registers c.put.ensures.lasts c.put.ensures.copies
