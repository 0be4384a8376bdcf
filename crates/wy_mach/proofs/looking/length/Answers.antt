use Rattle.std.proofs.Common.{◌≡◌, ℕ, Option, pos, subst, ap, rules}
use Rattle.wy_heap.specs.declared.part.Part.TheVariants.{Int}
use Rattle.wy_mach.specs.Operands.{Reads}
use Rattle.wy_mach.specs.Looking.{length_in}
use Rattle.wy_heap.specs.Nodes.{holds}
use Rattle.wy_mach.proofs.RegisterLemmas.{scalar_turns}
use Rattle.wy_mach.proofs.LookLemmas.{length_goes}
use Rattle.wy_mach.proofs.ShareLemmas.{puts_scalar}
use Rattle.wy_mach.proofs.looking.length.Goals as goal

pub returns-clause-turns : goal.returns-clause-turns
returns-clause-turns c =
    scalar_turns c.args.heap.now c.put.new.heap c.args.registers.now c.put.new.registers c.scalar.result (λ k. ap (holds k) c.scalar.ensures.value) c.put.ensures.acts

pub returns-clause-value : goal.returns-clause-value
returns-clause-value c shapes =
    let h = c.args.heap.now in
    let ps = c.args.registers.now in
    let reads = subst (λ (r : Option ℕ). Reads h ps c.args.from length_in r) c.in-Some.is c.count.ensures in
    let is : c.scalar.result ≡ Int (pos c.in-Some.count) = search rules in
    length_goes h c.put.new.heap ps c.put.new.registers c.args.to c.args.from c.in-Some.count c.scalar.result c.requires.held reads is c.put.ensures.acts c.put.ensures.registers

pub returns-clause-shares : goal.returns-clause-shares
returns-clause-shares c =
    puts_scalar c.args.heap.now c.put.new.heap c.args.registers.now c.put.new.registers c.args.to c.scalar.result (λ k. ap (holds k) c.scalar.ensures.value) c.put.ensures.registers c.put.ensures.lasts c.put.ensures.copies
