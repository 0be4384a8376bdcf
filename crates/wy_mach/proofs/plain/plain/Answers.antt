use Rattle.std.proofs.Common.{◌≡◌, ℕ, List, sym, subst, ap, ◌∙◌}
use Rattle.std.specs.Prelude.{OnOk, IfErr, vec_capacity}
use Rattle.wy_lemmas.proofs.Options.{on_ok, if_err}
use Rattle.wy_value.specs.declared.shapes.Shapes.{Shapes}
use Rattle.wy_heap.specs.Nodes.{map_of}
use Rattle.wy_heap.specs.Extending.{Extends}
use Rattle.wy_code.specs.declared.instructions.Slot.{Slot}
use Rattle.wy_code.specs.declared.instructions.Instr.{Instr}
use Rattle.wy_code.specs.declared.instructions.Instr.TheVariants as instr
use Rattle.wy_code_spec.specs.step.Step.{effect}
use Rattle.wy_mach.specs.declared.stop.Stop.{Stop}
use Rattle.wy_mach.specs.declared.stop.Stop.TheVariants as stop
use Rattle.wy_mach.specs.Showing.{WentOn, IsStop}
use Rattle.wy_mach.proofs.MakeLemmas.{ok_pair}
use Rattle.wy_mach.specs.Running.{MayTakeMemory}
use Rattle.wy_mach.proofs.TurnLemmas.{all_err, ok_of_stop, err_of_stop, not_memory, is_moving}
use Rattle.wy_mach.specs.SharedTurns.{SharesIn, WantsIn}
use Rattle.wy_mach.proofs.plain.plain.Goals as goal

pub returns-in-Share-clause-value : goal.returns-in-Share-clause-value
returns-in-Share-clause-value c =
    let h = c.args.heap.now in
    let n = c.share.new.heap in
    let ps = c.args.registers.now in
    let qs = c.share.new.registers in
    let t = c.args.shapes.now in
    let is : c.args.instr.now ≡ instr.Share c.in-Share.to c.in-Share.from = c.in-Share.is in
    subst (λ (i : Instr). OnOk c.share.result (WentOn (map_of h) (map_of n) ps qs (effect t i))) (sym is)
    (on_ok c.share.result ((shapes : Shapes) → WentOn (map_of h) (map_of n) ps qs (effect shapes (instr.Share c.in-Share.to c.in-Share.from))) (WentOn (map_of h) (map_of n) ps qs (effect t (instr.Share c.in-Share.to c.in-Share.from))) (λ f. f t) c.share.ensures.value)

pub returns-in-Share-clause-stop : goal.returns-in-Share-clause-stop
returns-in-Share-clause-stop c =
    let h = c.args.heap.now in
    let n = c.share.new.heap in
    let ps = c.args.registers.now in
    let qs = c.share.new.registers in
    let t = c.args.shapes.now in
    let is : c.args.instr.now ≡ instr.Share c.in-Share.to c.in-Share.from = c.in-Share.is in
    subst (λ (i : Instr). IfErr c.share.result (IsStop (map_of h) ps (effect t i))) (sym is)
    (if_err c.share.result (λ (e : Stop). (shapes : Shapes) → IsStop (map_of h) ps (effect shapes (instr.Share c.in-Share.to c.in-Share.from)) e) (IsStop (map_of h) ps (effect t (instr.Share c.in-Share.to c.in-Share.from))) (λ e f. f t) c.share.ensures.stop)

pub returns-in-Share-clause-memory : goal.returns-in-Share-clause-memory
returns-in-Share-clause-memory c =
    all_err c.share.result (λ (e : Stop). e ≡ stop.NoMemory → MayTakeMemory c.args.instr.now) (λ e no. subst MayTakeMemory (sym c.in-Share.is) tt)

pub returns-in-Equal-clause-value : goal.returns-in-Equal-clause-value
returns-in-Equal-clause-value c =
    let h = c.args.heap.now in
    let n = c.equal.new.heap in
    let ps = c.args.registers.now in
    let qs = c.equal.new.registers in
    let t = c.args.shapes.now in
    let is : c.args.instr.now ≡ instr.Equal c.in-Equal.to c.in-Equal.left c.in-Equal.right = c.in-Equal.is in
    subst (λ (i : Instr). OnOk c.equal.result (WentOn (map_of h) (map_of n) ps qs (effect t i))) (sym is)
    (on_ok c.equal.result ((shapes : Shapes) → WentOn (map_of h) (map_of n) ps qs (effect shapes (instr.Equal c.in-Equal.to c.in-Equal.left c.in-Equal.right))) (WentOn (map_of h) (map_of n) ps qs (effect t (instr.Equal c.in-Equal.to c.in-Equal.left c.in-Equal.right))) (λ f. f t) c.equal.ensures.value)

pub returns-in-Equal-clause-stop : goal.returns-in-Equal-clause-stop
returns-in-Equal-clause-stop c =
    let h = c.args.heap.now in
    let n = c.equal.new.heap in
    let ps = c.args.registers.now in
    let qs = c.equal.new.registers in
    let t = c.args.shapes.now in
    let is : c.args.instr.now ≡ instr.Equal c.in-Equal.to c.in-Equal.left c.in-Equal.right = c.in-Equal.is in
    subst (λ (i : Instr). IfErr c.equal.result (IsStop (map_of h) ps (effect t i))) (sym is)
    (if_err c.equal.result (λ (e : Stop). (shapes : Shapes) → IsStop (map_of h) ps (effect shapes (instr.Equal c.in-Equal.to c.in-Equal.left c.in-Equal.right)) e) (IsStop (map_of h) ps (effect t (instr.Equal c.in-Equal.to c.in-Equal.left c.in-Equal.right))) (λ e f. f t) c.equal.ensures.stop)

pub returns-in-Equal-clause-memory : goal.returns-in-Equal-clause-memory
returns-in-Equal-clause-memory c =
    all_err c.equal.result (λ (e : Stop). e ≡ stop.NoMemory → MayTakeMemory c.args.instr.now) (λ e no. subst MayTakeMemory (sym c.in-Equal.is) tt)

pub returns-in-Array-clause-value : goal.returns-in-Array-clause-value
returns-in-Array-clause-value c =
    let h = c.args.heap.now in
    let n = c.array.new.heap in
    let ps = c.args.registers.now in
    let qs = c.array.new.registers in
    let t = c.args.shapes.now in
    let is : c.args.instr.now ≡ instr.Array c.in-Array.to c.as_slice.result.now = c.in-Array.is ∙ ap (λ (l : List ℕ). instr.Array c.in-Array.to l) (sym c.as_slice.ensures) in
    subst (λ (i : Instr). OnOk c.array.result (WentOn (map_of h) (map_of n) ps qs (effect t i))) (sym is)
    (on_ok c.array.result ((shapes : Shapes) → WentOn (map_of h) (map_of n) ps qs (effect shapes (instr.Array c.in-Array.to c.as_slice.result.now))) (WentOn (map_of h) (map_of n) ps qs (effect t (instr.Array c.in-Array.to c.as_slice.result.now))) (λ f. f t) c.array.ensures.value)

pub returns-in-Array-clause-stop : goal.returns-in-Array-clause-stop
returns-in-Array-clause-stop c =
    let h = c.args.heap.now in
    let n = c.array.new.heap in
    let ps = c.args.registers.now in
    let qs = c.array.new.registers in
    let t = c.args.shapes.now in
    let is : c.args.instr.now ≡ instr.Array c.in-Array.to c.as_slice.result.now = c.in-Array.is ∙ ap (λ (l : List ℕ). instr.Array c.in-Array.to l) (sym c.as_slice.ensures) in
    subst (λ (i : Instr). IfErr c.array.result (IsStop (map_of h) ps (effect t i))) (sym is)
    (if_err c.array.result (λ (e : Stop). (shapes : Shapes) → IsStop (map_of h) ps (effect shapes (instr.Array c.in-Array.to c.as_slice.result.now)) e) (IsStop (map_of h) ps (effect t (instr.Array c.in-Array.to c.as_slice.result.now))) (λ e f. f t) c.array.ensures.stop)

pub returns-in-Array-clause-memory : goal.returns-in-Array-clause-memory
returns-in-Array-clause-memory c =
    all_err c.array.result (λ (e : Stop). e ≡ stop.NoMemory → MayTakeMemory c.args.instr.now) (λ e no. subst MayTakeMemory (sym c.in-Array.is) tt)

pub returns-in-Record-clause-value : goal.returns-in-Record-clause-value
returns-in-Record-clause-value c =
    let h = c.args.heap.now in
    let n = c.record.new.heap in
    let ps = c.args.registers.now in
    let qs = c.record.new.registers in
    let t = c.args.shapes.now in
    let is : c.args.instr.now ≡ instr.Record c.in-Record.to c.in-Record.shape c.as_slice-in-Record.result.now = c.in-Record.is ∙ ap (λ (l : List ℕ). instr.Record c.in-Record.to c.in-Record.shape l) (sym c.as_slice-in-Record.ensures) in
    subst (λ (i : Instr). OnOk c.record.result (WentOn (map_of h) (map_of n) ps qs (effect t i))) (sym is)
    (on_ok c.record.result (WentOn (map_of h) (map_of n) ps qs (effect t (instr.Record c.in-Record.to c.in-Record.shape c.as_slice-in-Record.result.now))) (WentOn (map_of h) (map_of n) ps qs (effect t (instr.Record c.in-Record.to c.in-Record.shape c.as_slice-in-Record.result.now))) (λ f. f) c.record.ensures.value)

pub returns-in-Record-clause-stop : goal.returns-in-Record-clause-stop
returns-in-Record-clause-stop c =
    let h = c.args.heap.now in
    let n = c.record.new.heap in
    let ps = c.args.registers.now in
    let qs = c.record.new.registers in
    let t = c.args.shapes.now in
    let is : c.args.instr.now ≡ instr.Record c.in-Record.to c.in-Record.shape c.as_slice-in-Record.result.now = c.in-Record.is ∙ ap (λ (l : List ℕ). instr.Record c.in-Record.to c.in-Record.shape l) (sym c.as_slice-in-Record.ensures) in
    subst (λ (i : Instr). IfErr c.record.result (IsStop (map_of h) ps (effect t i))) (sym is)
    (if_err c.record.result (λ (e : Stop). IsStop (map_of h) ps (effect t (instr.Record c.in-Record.to c.in-Record.shape c.as_slice-in-Record.result.now)) e) (IsStop (map_of h) ps (effect t (instr.Record c.in-Record.to c.in-Record.shape c.as_slice-in-Record.result.now))) (λ e f. f) c.record.ensures.stop)

pub returns-in-Record-clause-memory : goal.returns-in-Record-clause-memory
returns-in-Record-clause-memory c =
    all_err c.record.result (λ (e : Stop). e ≡ stop.NoMemory → MayTakeMemory c.args.instr.now) (λ e no. subst MayTakeMemory (sym c.in-Record.is) tt)

pub returns-in-Fill-clause-value : goal.returns-in-Fill-clause-value
returns-in-Fill-clause-value c =
    let h = c.args.heap.now in
    let n = c.fill.new.heap in
    let ps = c.args.registers.now in
    let qs = c.fill.new.registers in
    let t = c.args.shapes.now in
    let is : c.args.instr.now ≡ instr.Fill c.in-Fill.to c.in-Fill.from c.in-Fill.count = c.in-Fill.is in
    subst (λ (i : Instr). OnOk c.fill.result (WentOn (map_of h) (map_of n) ps qs (effect t i))) (sym is)
    (on_ok c.fill.result ((shapes : Shapes) → WentOn (map_of h) (map_of n) ps qs (effect shapes (instr.Fill c.in-Fill.to c.in-Fill.from c.in-Fill.count))) (WentOn (map_of h) (map_of n) ps qs (effect t (instr.Fill c.in-Fill.to c.in-Fill.from c.in-Fill.count))) (λ f. f t) c.fill.ensures.value)

pub returns-in-Fill-clause-stop : goal.returns-in-Fill-clause-stop
returns-in-Fill-clause-stop c =
    let h = c.args.heap.now in
    let n = c.fill.new.heap in
    let ps = c.args.registers.now in
    let qs = c.fill.new.registers in
    let t = c.args.shapes.now in
    let is : c.args.instr.now ≡ instr.Fill c.in-Fill.to c.in-Fill.from c.in-Fill.count = c.in-Fill.is in
    subst (λ (i : Instr). IfErr c.fill.result (IsStop (map_of h) ps (effect t i))) (sym is)
    (if_err c.fill.result (λ (e : Stop). (shapes : Shapes) → IsStop (map_of h) ps (effect shapes (instr.Fill c.in-Fill.to c.in-Fill.from c.in-Fill.count)) e) (IsStop (map_of h) ps (effect t (instr.Fill c.in-Fill.to c.in-Fill.from c.in-Fill.count))) (λ e f. f t) c.fill.ensures.stop)

pub returns-in-Fill-clause-memory : goal.returns-in-Fill-clause-memory
returns-in-Fill-clause-memory c =
    all_err c.fill.result (λ (e : Stop). e ≡ stop.NoMemory → MayTakeMemory c.args.instr.now) (λ e no. subst MayTakeMemory (sym c.in-Fill.is) tt)

pub returns-in-Get-clause-value : goal.returns-in-Get-clause-value
returns-in-Get-clause-value c =
    let h = c.args.heap.now in
    let n = c.item.new.heap in
    let ps = c.args.registers.now in
    let qs = c.item.new.registers in
    let t = c.args.shapes.now in
    let is : c.args.instr.now ≡ instr.Get c.in-Get.to c.in-Get.from c.in-Get.index = c.in-Get.is in
    subst (λ (i : Instr). OnOk c.item.result (WentOn (map_of h) (map_of n) ps qs (effect t i))) (sym is)
    (on_ok c.item.result ((shapes : Shapes) → WentOn (map_of h) (map_of n) ps qs (effect shapes (instr.Get c.in-Get.to c.in-Get.from c.in-Get.index))) (WentOn (map_of h) (map_of n) ps qs (effect t (instr.Get c.in-Get.to c.in-Get.from c.in-Get.index))) (λ f. f t) c.item.ensures.value)

pub returns-in-Get-clause-stop : goal.returns-in-Get-clause-stop
returns-in-Get-clause-stop c =
    let h = c.args.heap.now in
    let n = c.item.new.heap in
    let ps = c.args.registers.now in
    let qs = c.item.new.registers in
    let t = c.args.shapes.now in
    let is : c.args.instr.now ≡ instr.Get c.in-Get.to c.in-Get.from c.in-Get.index = c.in-Get.is in
    subst (λ (i : Instr). IfErr c.item.result (IsStop (map_of h) ps (effect t i))) (sym is)
    (if_err c.item.result (λ (e : Stop). (shapes : Shapes) → IsStop (map_of h) ps (effect shapes (instr.Get c.in-Get.to c.in-Get.from c.in-Get.index)) e) (IsStop (map_of h) ps (effect t (instr.Get c.in-Get.to c.in-Get.from c.in-Get.index))) (λ e f. f t) c.item.ensures.stop)

pub returns-in-Get-clause-memory : goal.returns-in-Get-clause-memory
returns-in-Get-clause-memory c =
    all_err c.item.result (λ (e : Stop). e ≡ stop.NoMemory → MayTakeMemory c.args.instr.now) (λ e no. subst MayTakeMemory (sym c.in-Get.is) tt)

pub returns-in-Field-clause-value : goal.returns-in-Field-clause-value
returns-in-Field-clause-value c =
    let h = c.args.heap.now in
    let n = c.field.new.heap in
    let ps = c.args.registers.now in
    let qs = c.field.new.registers in
    let t = c.args.shapes.now in
    let is : c.args.instr.now ≡ instr.Field c.in-Field.to c.in-Field.from c.in-Field.name = c.in-Field.is in
    subst (λ (i : Instr). OnOk c.field.result (WentOn (map_of h) (map_of n) ps qs (effect t i))) (sym is)
    (on_ok c.field.result ((shapes : Shapes) → Extends shapes h.shapes → WentOn (map_of h) (map_of n) ps qs (effect shapes (instr.Field c.in-Field.to c.in-Field.from c.in-Field.name))) (WentOn (map_of h) (map_of n) ps qs (effect t (instr.Field c.in-Field.to c.in-Field.from c.in-Field.name))) (λ f. f t c.requires.extends) c.field.ensures.value)

pub returns-in-Field-clause-stop : goal.returns-in-Field-clause-stop
returns-in-Field-clause-stop c =
    let h = c.args.heap.now in
    let n = c.field.new.heap in
    let ps = c.args.registers.now in
    let qs = c.field.new.registers in
    let t = c.args.shapes.now in
    let is : c.args.instr.now ≡ instr.Field c.in-Field.to c.in-Field.from c.in-Field.name = c.in-Field.is in
    subst (λ (i : Instr). IfErr c.field.result (IsStop (map_of h) ps (effect t i))) (sym is)
    (if_err c.field.result (λ (e : Stop). (shapes : Shapes) → Extends shapes h.shapes → IsStop (map_of h) ps (effect shapes (instr.Field c.in-Field.to c.in-Field.from c.in-Field.name)) e) (IsStop (map_of h) ps (effect t (instr.Field c.in-Field.to c.in-Field.from c.in-Field.name))) (λ e f. f t c.requires.extends) c.field.ensures.stop)

pub returns-in-Field-clause-memory : goal.returns-in-Field-clause-memory
returns-in-Field-clause-memory c =
    all_err c.field.result (λ (e : Stop). e ≡ stop.NoMemory → MayTakeMemory c.args.instr.now) (λ e no. subst MayTakeMemory (sym c.in-Field.is) tt)

pub returns-in-Put-clause-value : goal.returns-in-Put-clause-value
returns-in-Put-clause-value c =
    let h = c.args.heap.now in
    let n = c.update.new.heap in
    let ps = c.args.registers.now in
    let qs = c.update.new.registers in
    let t = c.args.shapes.now in
    let is : c.args.instr.now ≡ instr.Put c.in-Put.whole c.as_slice-in-Put.result.now c.in-Put.from = c.in-Put.is ∙ ap (λ (l : List Slot). instr.Put c.in-Put.whole l c.in-Put.from) (sym c.as_slice-in-Put.ensures) in
    subst (λ (i : Instr). OnOk c.update.result (WentOn (map_of h) (map_of n) ps qs (effect t i))) (sym is)
    (on_ok c.update.result ((shapes : Shapes) → Extends shapes h.shapes → WentOn (map_of h) (map_of n) ps qs (effect shapes (instr.Put c.in-Put.whole c.as_slice-in-Put.result.now c.in-Put.from))) (WentOn (map_of h) (map_of n) ps qs (effect t (instr.Put c.in-Put.whole c.as_slice-in-Put.result.now c.in-Put.from))) (λ f. f t c.requires.extends) c.update.ensures.value)

pub returns-in-Put-clause-stop : goal.returns-in-Put-clause-stop
returns-in-Put-clause-stop c =
    let h = c.args.heap.now in
    let n = c.update.new.heap in
    let ps = c.args.registers.now in
    let qs = c.update.new.registers in
    let t = c.args.shapes.now in
    let is : c.args.instr.now ≡ instr.Put c.in-Put.whole c.as_slice-in-Put.result.now c.in-Put.from = c.in-Put.is ∙ ap (λ (l : List Slot). instr.Put c.in-Put.whole l c.in-Put.from) (sym c.as_slice-in-Put.ensures) in
    subst (λ (i : Instr). IfErr c.update.result (IsStop (map_of h) ps (effect t i))) (sym is)
    (if_err c.update.result (λ (e : Stop). (shapes : Shapes) → Extends shapes h.shapes → IsStop (map_of h) ps (effect shapes (instr.Put c.in-Put.whole c.as_slice-in-Put.result.now c.in-Put.from)) e) (IsStop (map_of h) ps (effect t (instr.Put c.in-Put.whole c.as_slice-in-Put.result.now c.in-Put.from))) (λ e f. f t c.requires.extends) c.update.ensures.stop)

pub returns-in-Put-clause-memory : goal.returns-in-Put-clause-memory
returns-in-Put-clause-memory c =
    all_err c.update.result (λ (e : Stop). e ≡ stop.NoMemory → MayTakeMemory c.args.instr.now) (λ e no. subst MayTakeMemory (sym c.in-Put.is) tt)

pub moving-requires-clause-moving : goal.moving-requires-clause-moving
moving-requires-clause-moving c =
    is_moving c.args.instr.now c.requires.plain c.in_default.not-Share c.in_default.not-Equal c.in_default.not-Array c.in_default.not-Record c.in_default.not-Fill c.in_default.not-Get c.in_default.not-Field c.in_default.not-Put

pub returns-in_default-clause-value : goal.returns-in_default-clause-value
returns-in_default-clause-value c =
    let h = c.args.heap.now in
    let n = c.moving.new.heap in
    ok_of_stop c.moving.result c.stop_of.result (WentOn (map_of h) (map_of n) c.args.registers.now c.moving.new.registers (effect c.args.shapes.now c.args.instr.now)) c.stop_of.ensures c.moving.ensures.value

pub returns-in_default-clause-stop : goal.returns-in_default-clause-stop
returns-in_default-clause-stop c =
    err_of_stop c.moving.result c.stop_of.result (IsStop (map_of c.args.heap.now) c.args.registers.now (effect c.args.shapes.now c.args.instr.now)) c.stop_of.ensures c.moving.ensures.stuck

pub returns-in_default-clause-memory : goal.returns-in_default-clause-memory
returns-in_default-clause-memory c = not_memory c.moving.result c.stop_of.result (MayTakeMemory c.args.instr.now) c.stop_of.ensures

pub returns-in-Share-clause-shares : goal.returns-in-Share-clause-shares
returns-in-Share-clause-shares c =
    let h = c.args.heap.now in
    let n = c.share.new.heap in
    let ps = c.args.registers.now in
    let qs = c.share.new.registers in
    let is : c.args.instr.now ≡ instr.Share c.in-Share.to c.in-Share.from = c.in-Share.is in
    subst (λ (i : Instr). OnOk c.share.result (SharesIn i h n ps qs)) (sym is) (ok_pair c.share.result _ _ c.share.ensures.shares c.share.ensures.counts)

pub returns-in-Equal-clause-shares : goal.returns-in-Equal-clause-shares
returns-in-Equal-clause-shares c =
    let h = c.args.heap.now in
    let n = c.equal.new.heap in
    let ps = c.args.registers.now in
    let qs = c.equal.new.registers in
    let is : c.args.instr.now ≡ instr.Equal c.in-Equal.to c.in-Equal.left c.in-Equal.right = c.in-Equal.is in
    subst (λ (i : Instr). OnOk c.equal.result (SharesIn i h n ps qs)) (sym is) c.equal.ensures.shares

pub returns-in-Array-clause-shares : goal.returns-in-Array-clause-shares
returns-in-Array-clause-shares c =
    let h = c.args.heap.now in
    let n = c.array.new.heap in
    let ps = c.args.registers.now in
    let qs = c.array.new.registers in
    let is : c.args.instr.now ≡ instr.Array c.in-Array.to c.as_slice.result.now = c.in-Array.is ∙ ap (λ (l : List ℕ). instr.Array c.in-Array.to l) (sym c.as_slice.ensures) in
    subst (λ (i : Instr). OnOk c.array.result (SharesIn i h n ps qs)) (sym is) c.array.ensures.shares

pub returns-in-Record-clause-shares : goal.returns-in-Record-clause-shares
returns-in-Record-clause-shares c =
    let h = c.args.heap.now in
    let n = c.record.new.heap in
    let ps = c.args.registers.now in
    let qs = c.record.new.registers in
    let is : c.args.instr.now ≡ instr.Record c.in-Record.to c.in-Record.shape c.as_slice-in-Record.result.now = c.in-Record.is ∙ ap (λ (l : List ℕ). instr.Record c.in-Record.to c.in-Record.shape l) (sym c.as_slice-in-Record.ensures) in
    subst (λ (i : Instr). OnOk c.record.result (SharesIn i h n ps qs)) (sym is) c.record.ensures.shares

pub returns-in-Fill-clause-shares : goal.returns-in-Fill-clause-shares
returns-in-Fill-clause-shares c =
    let h = c.args.heap.now in
    let n = c.fill.new.heap in
    let ps = c.args.registers.now in
    let qs = c.fill.new.registers in
    let is : c.args.instr.now ≡ instr.Fill c.in-Fill.to c.in-Fill.from c.in-Fill.count = c.in-Fill.is in
    subst (λ (i : Instr). OnOk c.fill.result (SharesIn i h n ps qs)) (sym is) (ok_pair c.fill.result _ _ c.fill.ensures.shares c.fill.ensures.counts)

pub returns-in-Get-clause-shares : goal.returns-in-Get-clause-shares
returns-in-Get-clause-shares c =
    let h = c.args.heap.now in
    let n = c.item.new.heap in
    let ps = c.args.registers.now in
    let qs = c.item.new.registers in
    let is : c.args.instr.now ≡ instr.Get c.in-Get.to c.in-Get.from c.in-Get.index = c.in-Get.is in
    subst (λ (i : Instr). OnOk c.item.result (SharesIn i h n ps qs)) (sym is) (ok_pair c.item.result _ _ c.item.ensures.shares c.item.ensures.counts)

pub returns-in-Field-clause-shares : goal.returns-in-Field-clause-shares
returns-in-Field-clause-shares c =
    let h = c.args.heap.now in
    let n = c.field.new.heap in
    let ps = c.args.registers.now in
    let qs = c.field.new.registers in
    let is : c.args.instr.now ≡ instr.Field c.in-Field.to c.in-Field.from c.in-Field.name = c.in-Field.is in
    subst (λ (i : Instr). OnOk c.field.result (SharesIn i h n ps qs)) (sym is) (ok_pair c.field.result _ _ c.field.ensures.shares c.field.ensures.counts)

pub returns-in-Put-clause-shares : goal.returns-in-Put-clause-shares
returns-in-Put-clause-shares c =
    let h = c.args.heap.now in
    let n = c.update.new.heap in
    let ps = c.args.registers.now in
    let qs = c.update.new.registers in
    let is : c.args.instr.now ≡ instr.Put c.in-Put.whole c.as_slice-in-Put.result.now c.in-Put.from = c.in-Put.is ∙ ap (λ (l : List Slot). instr.Put c.in-Put.whole l c.in-Put.from) (sym c.as_slice-in-Put.ensures) in
    subst (λ (i : Instr). OnOk c.update.result (SharesIn i h n ps qs)) (sym is) c.update.ensures.shares

pub returns-in_default-clause-shares : goal.returns-in_default-clause-shares
returns-in_default-clause-shares c =
    ok_of_stop c.moving.result c.stop_of.result (SharesIn c.args.instr.now c.args.heap.now c.moving.new.heap c.args.registers.now c.moving.new.registers) c.stop_of.ensures c.moving.ensures.shares

pub returns-in-Share-clause-wants : goal.returns-in-Share-clause-wants
returns-in-Share-clause-wants c =
    let h = c.args.heap.now in
    let ps = c.args.registers.now in
    let is : c.args.instr.now ≡ instr.Share c.in-Share.to c.in-Share.from = c.in-Share.is in
    let room = vec_capacity c.args.path.now in
    subst (λ (i : Instr). IfErr c.share.result (λ (e : Stop). e ≡ stop.NoMemory → WantsIn i h ps room)) (sym is) c.share.ensures.memory

pub returns-in-Equal-clause-wants : goal.returns-in-Equal-clause-wants
returns-in-Equal-clause-wants c =
    let h = c.args.heap.now in
    let ps = c.args.registers.now in
    let is : c.args.instr.now ≡ instr.Equal c.in-Equal.to c.in-Equal.left c.in-Equal.right = c.in-Equal.is in
    let room = vec_capacity c.args.path.now in
    all_err c.equal.result (λ (e : Stop). e ≡ stop.NoMemory → WantsIn c.args.instr.now h ps room) (λ e no. subst (λ (i : Instr). WantsIn i h ps room) (sym is) tt)

pub returns-in-Array-clause-wants : goal.returns-in-Array-clause-wants
returns-in-Array-clause-wants c =
    let h = c.args.heap.now in
    let ps = c.args.registers.now in
    let is : c.args.instr.now ≡ instr.Array c.in-Array.to c.as_slice.result.now = c.in-Array.is ∙ ap (λ (l : List ℕ). instr.Array c.in-Array.to l) (sym c.as_slice.ensures) in
    let room = vec_capacity c.args.path.now in
    all_err c.array.result (λ (e : Stop). e ≡ stop.NoMemory → WantsIn c.args.instr.now h ps room) (λ e no. subst (λ (i : Instr). WantsIn i h ps room) (sym is) tt)

pub returns-in-Record-clause-wants : goal.returns-in-Record-clause-wants
returns-in-Record-clause-wants c =
    let h = c.args.heap.now in
    let ps = c.args.registers.now in
    let is : c.args.instr.now ≡ instr.Record c.in-Record.to c.in-Record.shape c.as_slice-in-Record.result.now = c.in-Record.is ∙ ap (λ (l : List ℕ). instr.Record c.in-Record.to c.in-Record.shape l) (sym c.as_slice-in-Record.ensures) in
    let room = vec_capacity c.args.path.now in
    all_err c.record.result (λ (e : Stop). e ≡ stop.NoMemory → WantsIn c.args.instr.now h ps room) (λ e no. subst (λ (i : Instr). WantsIn i h ps room) (sym is) tt)

pub returns-in-Fill-clause-wants : goal.returns-in-Fill-clause-wants
returns-in-Fill-clause-wants c =
    let h = c.args.heap.now in
    let ps = c.args.registers.now in
    let is : c.args.instr.now ≡ instr.Fill c.in-Fill.to c.in-Fill.from c.in-Fill.count = c.in-Fill.is in
    let room = vec_capacity c.args.path.now in
    all_err c.fill.result (λ (e : Stop). e ≡ stop.NoMemory → WantsIn c.args.instr.now h ps room) (λ e no. subst (λ (i : Instr). WantsIn i h ps room) (sym is) tt)

pub returns-in-Get-clause-wants : goal.returns-in-Get-clause-wants
returns-in-Get-clause-wants c =
    let h = c.args.heap.now in
    let ps = c.args.registers.now in
    let is : c.args.instr.now ≡ instr.Get c.in-Get.to c.in-Get.from c.in-Get.index = c.in-Get.is in
    let room = vec_capacity c.args.path.now in
    subst (λ (i : Instr). IfErr c.item.result (λ (e : Stop). e ≡ stop.NoMemory → WantsIn i h ps room)) (sym is) c.item.ensures.memory

pub returns-in-Field-clause-wants : goal.returns-in-Field-clause-wants
returns-in-Field-clause-wants c =
    let h = c.args.heap.now in
    let ps = c.args.registers.now in
    let is : c.args.instr.now ≡ instr.Field c.in-Field.to c.in-Field.from c.in-Field.name = c.in-Field.is in
    let room = vec_capacity c.args.path.now in
    subst (λ (i : Instr). IfErr c.field.result (λ (e : Stop). e ≡ stop.NoMemory → WantsIn i h ps room)) (sym is) c.field.ensures.memory

pub returns-in-Put-clause-wants : goal.returns-in-Put-clause-wants
returns-in-Put-clause-wants c =
    let h = c.args.heap.now in
    let ps = c.args.registers.now in
    let is : c.args.instr.now ≡ instr.Put c.in-Put.whole c.as_slice-in-Put.result.now c.in-Put.from = c.in-Put.is ∙ ap (λ (l : List Slot). instr.Put c.in-Put.whole l c.in-Put.from) (sym c.as_slice-in-Put.ensures) in
    let room = vec_capacity c.args.path.now in
    subst (λ (i : Instr). IfErr c.update.result (λ (e : Stop). e ≡ stop.NoMemory → WantsIn i h ps room)) (sym is) c.update.ensures.memory

pub returns-in_default-clause-wants : goal.returns-in_default-clause-wants
returns-in_default-clause-wants c = not_memory c.moving.result c.stop_of.result (WantsIn c.args.instr.now c.args.heap.now c.args.registers.now (vec_capacity c.args.path.now)) c.stop_of.ensures
