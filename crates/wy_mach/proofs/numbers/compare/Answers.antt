use Rattle.std.proofs.Common.{◌≡◌, Option, ℤ, to_z, of_z, subst, ap, ◌∙◌, rules}
use Rattle.std.specs.Int.{w128}
use Rattle.std.proofs.lemmas.Int.{to_z-of_z}
use mir.Val.{SFits}
use Rattle.wy_code_spec.specs.step.Step.{compares}
use Rattle.wy_heap.specs.Nodes.{holds}
use Rattle.wy_heap.specs.declared.part.Part.TheVariants as part
use Rattle.wy_mach.specs.Operands.{Reads, number_in}
use Rattle.wy_mach.proofs.RegisterLemmas.{scalar_turns}
use Rattle.wy_mach.proofs.NumberLemmas.{compare_goes}
use Rattle.wy_mach.proofs.ShareLemmas.{puts_scalar}
use Rattle.wy_mach.proofs.numbers.compare.Goals as goal

pub returns-clause-turns : goal.returns-clause-turns
returns-clause-turns c =
    let is : c.scalar.result ≡ part.Bool c.compared.result = c.scalar.ensures.value in
    scalar_turns c.args.heap.now c.put.new.heap c.args.registers.now c.put.new.registers c.scalar.result (λ k. ap (holds k) is) c.put.ensures.acts

pub returns-clause-value : goal.returns-clause-value
returns-clause-value c shapes =
    let h = c.args.heap.now in
    let ps = c.args.registers.now in
    let left = subst (λ (r : Option ℤ). Reads h ps c.args.left number_in r) c.in-Some.is c.number.ensures in
    let right = subst (λ (r : Option ℤ). Reads h ps c.args.right number_in r) c.in-Some-number.is c.number-2.ensures in
    let x = c.in-Some.x in
    let y = c.in-Some-number.y in
    let fits_x : SFits w128 x = search rules in
    let fits_y : SFits w128 y = search rules in
    let told = c.compared.ensures ∙ ap (λ (v : ℤ). compares c.args.op v (to_z w128 (of_z w128 y))) (to_z-of_z w128 x fits_x) ∙ ap (λ (w : ℤ). compares c.args.op x w) (to_z-of_z w128 y fits_y) in
    compare_goes h c.put.new.heap ps c.put.new.registers c.args.to c.args.left c.args.right c.args.op c.in-Some.x c.in-Some-number.y c.compared.result c.scalar.result c.requires.held left right told c.scalar.ensures.value c.put.ensures.acts c.put.ensures.registers

pub returns-clause-shares : goal.returns-clause-shares
returns-clause-shares c =
    let is : c.scalar.result ≡ part.Bool c.compared.result = c.scalar.ensures.value in
    puts_scalar c.args.heap.now c.put.new.heap c.args.registers.now c.put.new.registers c.args.to c.scalar.result (λ k. ap (holds k) is) c.put.ensures.registers c.put.ensures.lasts c.put.ensures.copies
