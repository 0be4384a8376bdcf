use Rattle.std.proofs.Common.{◌≡◌, Bool, not, Option, subst, ap, rules}
use Rattle.wy_heap.specs.declared.part.Part.TheVariants as part
use Rattle.wy_mach.specs.Operands.{Reads, truth_in}
use Rattle.wy_heap.specs.Nodes.{holds}
use Rattle.wy_mach.proofs.RegisterLemmas.{scalar_turns}
use Rattle.wy_mach.proofs.NumberLemmas.{negate_goes}
use Rattle.wy_mach.proofs.ShareLemmas.{puts_scalar}
use Rattle.wy_mach.proofs.numbers.negate.Goals as goal

pub returns-clause-turns : goal.returns-clause-turns
returns-clause-turns c =
    let is : c.scalar.result ≡ part.Bool (not c.in-Some.b) = search rules in
    scalar_turns c.args.heap.now c.put.new.heap c.args.registers.now c.put.new.registers c.scalar.result (λ k. ap (holds k) is) c.put.ensures.acts

pub returns-clause-value : goal.returns-clause-value
returns-clause-value c shapes =
    let h = c.args.heap.now in
    let ps = c.args.registers.now in
    let reads = subst (λ (r : Option Bool). Reads h ps c.args.from truth_in r) c.in-Some.is c.truth.ensures in
    let is : c.scalar.result ≡ part.Bool (not c.in-Some.b) = search rules in
    negate_goes h c.put.new.heap ps c.put.new.registers c.args.to c.args.from c.in-Some.b c.scalar.result c.requires.held reads is c.put.ensures.acts c.put.ensures.registers

pub returns-clause-shares : goal.returns-clause-shares
returns-clause-shares c =
    let is : c.scalar.result ≡ part.Bool (not c.in-Some.b) = search rules in
    puts_scalar c.args.heap.now c.put.new.heap c.args.registers.now c.put.new.registers c.args.to c.scalar.result (λ k. ap (holds k) is) c.put.ensures.registers c.put.ensures.lasts c.put.ensures.copies
