use Rattle.std.proofs.Common.{◌≡◌, ℕ, List, sym, subst, ap, ◌∙◌}
use Rattle.std.specs.Prelude.{OnOk, OnErr}
use Rattle.wy_lemmas.proofs.Options.{on_ok}
use Rattle.wy_value.specs.declared.shapes.Shapes.{Shapes}
use Rattle.wy_heap.specs.Nodes.{map_of}
use Rattle.wy_code.specs.declared.instructions.Instr.{Instr}
use Rattle.wy_code.specs.declared.instructions.Instr.TheVariants as instr
use Rattle.wy_code_spec.specs.step.Step.{effect}
use Rattle.wy_mach.specs.Showing.{WentOn, HasNone, IsNoInt}
use Rattle.wy_mach.specs.Running.{HasInt}
use Rattle.wy_mach.proofs.TurnLemmas.{on_err, none_moves}
use Rattle.wy_mach.specs.SharedTurns.{SharesIn}
use Rattle.wy_mach.proofs.plain.moving.Goals as goal

pub returns-in-Const-clause-value : goal.returns-in-Const-clause-value
returns-in-Const-clause-value c =
    let h = c.args.heap.now in
    let n = c.load.new.heap in
    let ps = c.args.registers.now in
    let qs = c.load.new.registers in
    let t = c.args.shapes.now in
    let is : c.args.instr.now ≡ instr.Const c.in-Const.to c.in-Const.constant = c.in-Const.is in
    subst (λ (i : Instr). OnOk c.load.result (WentOn (map_of h) (map_of n) ps qs (effect t i))) (sym is)
    (on_ok c.load.result ((shapes : Shapes) → WentOn (map_of h) (map_of n) ps qs (effect shapes (instr.Const c.in-Const.to c.in-Const.constant))) (WentOn (map_of h) (map_of n) ps qs (effect t (instr.Const c.in-Const.to c.in-Const.constant))) (λ f. f t) c.load.ensures.value)

pub returns-in-Const-clause-stuck : goal.returns-in-Const-clause-stuck
returns-in-Const-clause-stuck c =
    on_err c.load.result (IsNoInt c.in-Const.constant) (HasNone (map_of c.args.heap.now) c.args.registers.now (effect c.args.shapes.now c.args.instr.now))
    (λ no. absurd (subst HasInt c.in-Const.is c.requires.int no)) c.load.ensures.stuck

pub returns-in-Move-clause-value : goal.returns-in-Move-clause-value
returns-in-Move-clause-value c =
    let h = c.args.heap.now in
    let n = c.move_to.new.heap in
    let ps = c.args.registers.now in
    let qs = c.move_to.new.registers in
    let t = c.args.shapes.now in
    let is : c.args.instr.now ≡ instr.Move c.in-Move.to c.in-Move.from = c.in-Move.is in
    subst (λ (i : Instr). OnOk c.move_to.result (WentOn (map_of h) (map_of n) ps qs (effect t i))) (sym is)
    (on_ok c.move_to.result ((shapes : Shapes) → WentOn (map_of h) (map_of n) ps qs (effect shapes (instr.Move c.in-Move.to c.in-Move.from))) (WentOn (map_of h) (map_of n) ps qs (effect t (instr.Move c.in-Move.to c.in-Move.from))) (λ f. f t) c.move_to.ensures.value)

pub returns-in-Move-clause-stuck : goal.returns-in-Move-clause-stuck
returns-in-Move-clause-stuck c =
    let h = c.args.heap.now in
    let n = c.move_to.new.heap in
    let ps = c.args.registers.now in
    let qs = c.move_to.new.registers in
    let t = c.args.shapes.now in
    let is : c.args.instr.now ≡ instr.Move c.in-Move.to c.in-Move.from = c.in-Move.is in
    subst (λ (i : Instr). OnErr c.move_to.result (HasNone (map_of h) ps (effect t i))) (sym is)
    (on_err c.move_to.result ((shapes : Shapes) → HasNone (map_of h) ps (effect shapes (instr.Move c.in-Move.to c.in-Move.from))) (HasNone (map_of h) ps (effect t (instr.Move c.in-Move.to c.in-Move.from))) (λ f. f t) c.move_to.ensures.stuck)

pub returns-in-Clear-clause-value : goal.returns-in-Clear-clause-value
returns-in-Clear-clause-value c =
    let h = c.args.heap.now in
    let n = c.clear.new.heap in
    let ps = c.args.registers.now in
    let qs = c.clear.new.registers in
    let t = c.args.shapes.now in
    let is : c.args.instr.now ≡ instr.Clear c.as_slice.result.now = c.in-Clear.is ∙ ap (λ (l : List ℕ). instr.Clear l) (sym c.as_slice.ensures) in
    subst (λ (i : Instr). WentOn (map_of h) (map_of n) ps qs (effect t i)) (sym is) (c.clear.ensures.value t)

pub returns-in-Arith-clause-value : goal.returns-in-Arith-clause-value
returns-in-Arith-clause-value c =
    let h = c.args.heap.now in
    let n = c.arith.new.heap in
    let ps = c.args.registers.now in
    let qs = c.arith.new.registers in
    let t = c.args.shapes.now in
    let is : c.args.instr.now ≡ instr.Arith c.in-Arith.to c.in-Arith.op c.in-Arith.left c.in-Arith.right = c.in-Arith.is in
    subst (λ (i : Instr). OnOk c.arith.result (WentOn (map_of h) (map_of n) ps qs (effect t i))) (sym is)
    (on_ok c.arith.result ((shapes : Shapes) → WentOn (map_of h) (map_of n) ps qs (effect shapes (instr.Arith c.in-Arith.to c.in-Arith.op c.in-Arith.left c.in-Arith.right))) (WentOn (map_of h) (map_of n) ps qs (effect t (instr.Arith c.in-Arith.to c.in-Arith.op c.in-Arith.left c.in-Arith.right))) (λ f. f t) c.arith.ensures.value)

pub returns-in-Arith-clause-stuck : goal.returns-in-Arith-clause-stuck
returns-in-Arith-clause-stuck c =
    let h = c.args.heap.now in
    let n = c.arith.new.heap in
    let ps = c.args.registers.now in
    let qs = c.arith.new.registers in
    let t = c.args.shapes.now in
    let is : c.args.instr.now ≡ instr.Arith c.in-Arith.to c.in-Arith.op c.in-Arith.left c.in-Arith.right = c.in-Arith.is in
    subst (λ (i : Instr). OnErr c.arith.result (HasNone (map_of h) ps (effect t i))) (sym is)
    (on_err c.arith.result ((shapes : Shapes) → HasNone (map_of h) ps (effect shapes (instr.Arith c.in-Arith.to c.in-Arith.op c.in-Arith.left c.in-Arith.right))) (HasNone (map_of h) ps (effect t (instr.Arith c.in-Arith.to c.in-Arith.op c.in-Arith.left c.in-Arith.right))) (λ f. f t) c.arith.ensures.stuck)

pub returns-in-Compare-clause-value : goal.returns-in-Compare-clause-value
returns-in-Compare-clause-value c =
    let h = c.args.heap.now in
    let n = c.compare.new.heap in
    let ps = c.args.registers.now in
    let qs = c.compare.new.registers in
    let t = c.args.shapes.now in
    let is : c.args.instr.now ≡ instr.Compare c.in-Compare.to c.in-Compare.op c.in-Compare.left c.in-Compare.right = c.in-Compare.is in
    subst (λ (i : Instr). OnOk c.compare.result (WentOn (map_of h) (map_of n) ps qs (effect t i))) (sym is)
    (on_ok c.compare.result ((shapes : Shapes) → WentOn (map_of h) (map_of n) ps qs (effect shapes (instr.Compare c.in-Compare.to c.in-Compare.op c.in-Compare.left c.in-Compare.right))) (WentOn (map_of h) (map_of n) ps qs (effect t (instr.Compare c.in-Compare.to c.in-Compare.op c.in-Compare.left c.in-Compare.right))) (λ f. f t) c.compare.ensures.value)

pub returns-in-Compare-clause-stuck : goal.returns-in-Compare-clause-stuck
returns-in-Compare-clause-stuck c =
    let h = c.args.heap.now in
    let n = c.compare.new.heap in
    let ps = c.args.registers.now in
    let qs = c.compare.new.registers in
    let t = c.args.shapes.now in
    let is : c.args.instr.now ≡ instr.Compare c.in-Compare.to c.in-Compare.op c.in-Compare.left c.in-Compare.right = c.in-Compare.is in
    subst (λ (i : Instr). OnErr c.compare.result (HasNone (map_of h) ps (effect t i))) (sym is)
    (on_err c.compare.result ((shapes : Shapes) → HasNone (map_of h) ps (effect shapes (instr.Compare c.in-Compare.to c.in-Compare.op c.in-Compare.left c.in-Compare.right))) (HasNone (map_of h) ps (effect t (instr.Compare c.in-Compare.to c.in-Compare.op c.in-Compare.left c.in-Compare.right))) (λ f. f t) c.compare.ensures.stuck)

pub returns-in-Not-clause-value : goal.returns-in-Not-clause-value
returns-in-Not-clause-value c =
    let h = c.args.heap.now in
    let n = c.negate.new.heap in
    let ps = c.args.registers.now in
    let qs = c.negate.new.registers in
    let t = c.args.shapes.now in
    let is : c.args.instr.now ≡ instr.Not c.in-Not.to c.in-Not.from = c.in-Not.is in
    subst (λ (i : Instr). OnOk c.negate.result (WentOn (map_of h) (map_of n) ps qs (effect t i))) (sym is)
    (on_ok c.negate.result ((shapes : Shapes) → WentOn (map_of h) (map_of n) ps qs (effect shapes (instr.Not c.in-Not.to c.in-Not.from))) (WentOn (map_of h) (map_of n) ps qs (effect t (instr.Not c.in-Not.to c.in-Not.from))) (λ f. f t) c.negate.ensures.value)

pub returns-in-Not-clause-stuck : goal.returns-in-Not-clause-stuck
returns-in-Not-clause-stuck c =
    let h = c.args.heap.now in
    let n = c.negate.new.heap in
    let ps = c.args.registers.now in
    let qs = c.negate.new.registers in
    let t = c.args.shapes.now in
    let is : c.args.instr.now ≡ instr.Not c.in-Not.to c.in-Not.from = c.in-Not.is in
    subst (λ (i : Instr). OnErr c.negate.result (HasNone (map_of h) ps (effect t i))) (sym is)
    (on_err c.negate.result ((shapes : Shapes) → HasNone (map_of h) ps (effect shapes (instr.Not c.in-Not.to c.in-Not.from))) (HasNone (map_of h) ps (effect t (instr.Not c.in-Not.to c.in-Not.from))) (λ f. f t) c.negate.ensures.stuck)

pub returns-in-Len-clause-value : goal.returns-in-Len-clause-value
returns-in-Len-clause-value c =
    let h = c.args.heap.now in
    let n = c.length.new.heap in
    let ps = c.args.registers.now in
    let qs = c.length.new.registers in
    let t = c.args.shapes.now in
    let is : c.args.instr.now ≡ instr.Len c.in-Len.to c.in-Len.from = c.in-Len.is in
    subst (λ (i : Instr). OnOk c.length.result (WentOn (map_of h) (map_of n) ps qs (effect t i))) (sym is)
    (on_ok c.length.result ((shapes : Shapes) → WentOn (map_of h) (map_of n) ps qs (effect shapes (instr.Len c.in-Len.to c.in-Len.from))) (WentOn (map_of h) (map_of n) ps qs (effect t (instr.Len c.in-Len.to c.in-Len.from))) (λ f. f t) c.length.ensures.value)

pub returns-in-Len-clause-stuck : goal.returns-in-Len-clause-stuck
returns-in-Len-clause-stuck c =
    let h = c.args.heap.now in
    let n = c.length.new.heap in
    let ps = c.args.registers.now in
    let qs = c.length.new.registers in
    let t = c.args.shapes.now in
    let is : c.args.instr.now ≡ instr.Len c.in-Len.to c.in-Len.from = c.in-Len.is in
    subst (λ (i : Instr). OnErr c.length.result (HasNone (map_of h) ps (effect t i))) (sym is)
    (on_err c.length.result ((shapes : Shapes) → HasNone (map_of h) ps (effect shapes (instr.Len c.in-Len.to c.in-Len.from))) (HasNone (map_of h) ps (effect t (instr.Len c.in-Len.to c.in-Len.from))) (λ f. f t) c.length.ensures.stuck)

pub returns-in-Kind-clause-value : goal.returns-in-Kind-clause-value
returns-in-Kind-clause-value c =
    let h = c.args.heap.now in
    let n = c.kind.new.heap in
    let ps = c.args.registers.now in
    let qs = c.kind.new.registers in
    let t = c.args.shapes.now in
    let is : c.args.instr.now ≡ instr.Kind c.in-Kind.to c.in-Kind.from c.in-Kind.asked = c.in-Kind.is in
    subst (λ (i : Instr). OnOk c.kind.result (WentOn (map_of h) (map_of n) ps qs (effect t i))) (sym is)
    (on_ok c.kind.result (WentOn (map_of h) (map_of n) ps qs (effect t (instr.Kind c.in-Kind.to c.in-Kind.from c.in-Kind.asked))) (WentOn (map_of h) (map_of n) ps qs (effect t (instr.Kind c.in-Kind.to c.in-Kind.from c.in-Kind.asked))) (λ f. f) c.kind.ensures.value)

pub returns-in-Kind-clause-stuck : goal.returns-in-Kind-clause-stuck
returns-in-Kind-clause-stuck c =
    let h = c.args.heap.now in
    let n = c.kind.new.heap in
    let ps = c.args.registers.now in
    let qs = c.kind.new.registers in
    let t = c.args.shapes.now in
    let is : c.args.instr.now ≡ instr.Kind c.in-Kind.to c.in-Kind.from c.in-Kind.asked = c.in-Kind.is in
    subst (λ (i : Instr). OnErr c.kind.result (HasNone (map_of h) ps (effect t i))) (sym is)
    (on_err c.kind.result (HasNone (map_of h) ps (effect t (instr.Kind c.in-Kind.to c.in-Kind.from c.in-Kind.asked))) (HasNone (map_of h) ps (effect t (instr.Kind c.in-Kind.to c.in-Kind.from c.in-Kind.asked))) (λ f. f) c.kind.ensures.stuck)

pub unreachable-requires : goal.unreachable-requires
unreachable-requires c =
    none_moves c.args.instr.now c.requires.moving c.in_default.not-Const c.in_default.not-Move c.in_default.not-Clear c.in_default.not-Arith c.in_default.not-Compare c.in_default.not-Not c.in_default.not-Len c.in_default.not-Kind

pub returns-in-Const-clause-shares : goal.returns-in-Const-clause-shares
returns-in-Const-clause-shares c =
    let h = c.args.heap.now in
    let n = c.load.new.heap in
    let ps = c.args.registers.now in
    let qs = c.load.new.registers in
    let is : c.args.instr.now ≡ instr.Const c.in-Const.to c.in-Const.constant = c.in-Const.is in
    subst (λ (i : Instr). OnOk c.load.result (SharesIn i h n ps qs)) (sym is) c.load.ensures.shares

pub returns-in-Move-clause-shares : goal.returns-in-Move-clause-shares
returns-in-Move-clause-shares c =
    let h = c.args.heap.now in
    let n = c.move_to.new.heap in
    let ps = c.args.registers.now in
    let qs = c.move_to.new.registers in
    let is : c.args.instr.now ≡ instr.Move c.in-Move.to c.in-Move.from = c.in-Move.is in
    subst (λ (i : Instr). OnOk c.move_to.result (SharesIn i h n ps qs)) (sym is) c.move_to.ensures.shares

pub returns-in-Clear-clause-shares : goal.returns-in-Clear-clause-shares
returns-in-Clear-clause-shares c =
    let h = c.args.heap.now in
    let n = c.clear.new.heap in
    let ps = c.args.registers.now in
    let qs = c.clear.new.registers in
    let is : c.args.instr.now ≡ instr.Clear c.as_slice.result.now = c.in-Clear.is ∙ ap (λ (l : List ℕ). instr.Clear l) (sym c.as_slice.ensures) in
    subst (λ (i : Instr). SharesIn i h n ps qs) (sym is) (c.clear.ensures.shares, record { lasts = c.clear.ensures.lasts; copies = c.clear.ensures.copies })

pub returns-in-Arith-clause-shares : goal.returns-in-Arith-clause-shares
returns-in-Arith-clause-shares c =
    let h = c.args.heap.now in
    let n = c.arith.new.heap in
    let ps = c.args.registers.now in
    let qs = c.arith.new.registers in
    let is : c.args.instr.now ≡ instr.Arith c.in-Arith.to c.in-Arith.op c.in-Arith.left c.in-Arith.right = c.in-Arith.is in
    subst (λ (i : Instr). OnOk c.arith.result (SharesIn i h n ps qs)) (sym is) c.arith.ensures.shares

pub returns-in-Compare-clause-shares : goal.returns-in-Compare-clause-shares
returns-in-Compare-clause-shares c =
    let h = c.args.heap.now in
    let n = c.compare.new.heap in
    let ps = c.args.registers.now in
    let qs = c.compare.new.registers in
    let is : c.args.instr.now ≡ instr.Compare c.in-Compare.to c.in-Compare.op c.in-Compare.left c.in-Compare.right = c.in-Compare.is in
    subst (λ (i : Instr). OnOk c.compare.result (SharesIn i h n ps qs)) (sym is) c.compare.ensures.shares

pub returns-in-Not-clause-shares : goal.returns-in-Not-clause-shares
returns-in-Not-clause-shares c =
    let h = c.args.heap.now in
    let n = c.negate.new.heap in
    let ps = c.args.registers.now in
    let qs = c.negate.new.registers in
    let is : c.args.instr.now ≡ instr.Not c.in-Not.to c.in-Not.from = c.in-Not.is in
    subst (λ (i : Instr). OnOk c.negate.result (SharesIn i h n ps qs)) (sym is) c.negate.ensures.shares

pub returns-in-Len-clause-shares : goal.returns-in-Len-clause-shares
returns-in-Len-clause-shares c =
    let h = c.args.heap.now in
    let n = c.length.new.heap in
    let ps = c.args.registers.now in
    let qs = c.length.new.registers in
    let is : c.args.instr.now ≡ instr.Len c.in-Len.to c.in-Len.from = c.in-Len.is in
    subst (λ (i : Instr). OnOk c.length.result (SharesIn i h n ps qs)) (sym is) c.length.ensures.shares

pub returns-in-Kind-clause-shares : goal.returns-in-Kind-clause-shares
returns-in-Kind-clause-shares c =
    let h = c.args.heap.now in
    let n = c.kind.new.heap in
    let ps = c.args.registers.now in
    let qs = c.kind.new.registers in
    let is : c.args.instr.now ≡ instr.Kind c.in-Kind.to c.in-Kind.from c.in-Kind.asked = c.in-Kind.is in
    subst (λ (i : Instr). OnOk c.kind.result (SharesIn i h n ps qs)) (sym is) c.kind.ensures.shares
