use Rattle.std.proofs.Common.{◌≡◌, Option, None, ℤ, to_z, of_z, subst, ap, ◌∙◌, rules}
use Rattle.std.specs.Int.{w128}
use Rattle.std.proofs.lemmas.Int.{to_z-of_z}
use mir.Val.{SFits}
use Rattle.wy_value.specs.Numbers.{is_int}
use Rattle.wy_heap.specs.Nodes.{holds}
use Rattle.wy_heap.specs.declared.part.Part.TheVariants as part
use Rattle.wy_code_spec.specs.step.Step.{Effect, computes, where_so, there}
use Rattle.wy_mach.specs.Operands.{Reads, number_in}
use Rattle.wy_mach.proofs.RegisterLemmas.{scalar_turns}
use Rattle.wy_mach.proofs.NumberLemmas.{computed_at, result_stuck, arith_goes}
use Rattle.wy_mach.proofs.ShareLemmas.{puts_scalar}
use Rattle.wy_mach.proofs.numbers.arith.Goals as goal

pub returns-in_default-computed-clause-stuck : goal.returns-in_default-computed-clause-stuck
returns-in_default-computed-clause-stuck c shapes =
    let h = c.args.heap.now in
    let ps = c.args.registers.now in
    let left = subst (λ (r : Option ℤ). Reads h ps c.args.left number_in r) c.in-Some.is c.number.ensures in
    let right = subst (λ (r : Option ℤ). Reads h ps c.args.right number_in r) c.in-Some-number.is c.number-2.ensures in
    let none : c.computed.result ≡ None = search rules in
    let x = c.in-Some.x in
    let y = c.in-Some-number.y in
    let fits_x : SFits w128 x = search rules in
    let fits_y : SFits w128 y = search rules in
    let exact = computed_at c.args.op x y (to_z w128 (of_z w128 x)) (to_z w128 (of_z w128 y)) c.computed.result (to_z-of_z w128 x fits_x) (to_z-of_z w128 y fits_y) c.computed.ensures.value in
    let told = subst (λ (r : Option ℤ). (next : ℤ → Effect) → computes c.args.op x y (λ z. where_so (is_int z) (next z)) ≡ there r next) none exact in
    result_stuck h ps c.args.to c.args.left c.args.right c.args.op c.in-Some.x c.in-Some-number.y left right told

pub returns-clause-turns : goal.returns-clause-turns
returns-clause-turns c =
    scalar_turns c.args.heap.now c.put.new.heap c.args.registers.now c.put.new.registers c.scalar.result (λ k. ap (holds k) c.scalar.ensures.value) c.put.ensures.acts

pub returns-clause-value : goal.returns-clause-value
returns-clause-value c shapes =
    let h = c.args.heap.now in
    let ps = c.args.registers.now in
    let left = subst (λ (r : Option ℤ). Reads h ps c.args.left number_in r) c.in-Some.is c.number.ensures in
    let right = subst (λ (r : Option ℤ). Reads h ps c.args.right number_in r) c.in-Some-number.is c.number-2.ensures in
    let x = c.in-Some.x in
    let y = c.in-Some-number.y in
    let z = c.in-Some-computed.z in
    let fits_x : SFits w128 x = search rules in
    let fits_y : SFits w128 y = search rules in
    let fits_z : SFits w128 z = search rules in
    let exact = computed_at c.args.op x y (to_z w128 (of_z w128 x)) (to_z w128 (of_z w128 y)) c.computed.result (to_z-of_z w128 x fits_x) (to_z-of_z w128 y fits_y) c.computed.ensures.value in
    let told = subst (λ (r : Option ℤ). (next : ℤ → Effect) → computes c.args.op x y (λ n. where_so (is_int n) (next n)) ≡ there r next) c.in-Some-computed.is exact in
    arith_goes h c.put.new.heap ps c.put.new.registers c.args.to c.args.left c.args.right c.args.op c.in-Some.x c.in-Some-number.y c.in-Some-computed.z c.scalar.result c.requires.held left right told (c.scalar.ensures.value ∙ ap (λ (n : ℤ). part.Int n) (to_z-of_z w128 z fits_z)) c.put.ensures.acts c.put.ensures.registers

pub returns-clause-shares : goal.returns-clause-shares
returns-clause-shares c =
    puts_scalar c.args.heap.now c.put.new.heap c.args.registers.now c.put.new.registers c.args.to c.scalar.result (λ k. ap (holds k) c.scalar.ensures.value) c.put.ensures.registers c.put.ensures.lasts c.put.ensures.copies
