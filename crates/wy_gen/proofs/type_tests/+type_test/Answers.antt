use Rattle.std.proofs.Common.{◌≡◌, ◌∙◌, List, ◌∷◌, ◌++◌, IfOk, map, suc, ap, subst, sym, arith, drop, length, append_assoc}
use Rattle.wy_core.specs.CoreSeen.{field_tys_of, seen_ty}
use Rattle.wy_core.specs.declared.types.TyKind as kind
use Rattle.wy_code.specs.declared.pieces.steps.Step.{Step}
use Rattle.wy_code.specs.declared.pieces.steps.Step.TheVariants.{GoesBack}
use Rattle.wy_code_spec.specs.compiled.TypeTests as spec
use Rattle.wy_gen.proofs.LoopLemmas.{fields_turn}
use Rattle.wy_gen.proofs.PieceLemmas.{items_same}
use Rattle.wy_gen.proofs.TypeLemmas.{record_test_same, array_test_same, union_test_same, inter_test_same, not_test_same}
use Rattle.wy_gen.proofs.type_tests.+type_test.Goals as goal

pub test-returns-in_ok-steps-in-Record : goal.test-returns-in_ok-steps-in-Record
test-returns-in_ok-steps-in-Record t c = record {
  value =
      let fs = c.as_slice-fields.result.now in
      subst (λ (z : List Step). IfOk c.begin_record.result (λ s. s ≡ z))
      (record_test_same c.args.context.now c.args.ty.now fs c.args.value c.args.answer c.args.free c.args.steps (c.in-Record.is ∙ ap kind.Record (sym c.as_slice-fields.ensures)))
      (c.begin_record.ensures.value (spec.fields_test c.args.context.now (field_tys_of (map (λ f. (f.0, seen_ty f.1)) fs)) c.args.value c.args.answer c.args.free) c.args.steps c.in_ok-steps-in-Record.ensures.value (sym c.len-end.ensures.value));
}

pub test-returns-in_ok-steps-in-Array : goal.test-returns-in_ok-steps-in-Array
test-returns-in_ok-steps-in-Array t c = record {
  value =
      let a = c.get.result.now in
      subst (λ (z : List Step). IfOk c.begin_array.result (λ s. s ≡ z))
      (array_test_same c.args.context.now c.args.ty.now a c.args.value c.args.answer c.args.free c.args.steps (c.in-Array.is ∙ ap kind.Array (sym c.get.ensures)))
      (c.begin_array.ensures.value (spec.items_test c.args.value c.args.answer c.args.free (spec.test c.args.context.now (seen_ty a) (suc (suc c.args.free)) c.args.answer (suc (suc (suc c.args.free))))) c.args.steps c.in_ok-steps-in-Array.ensures.value (sym c.len-end-in-Array.ensures.value));
}

pub test-returns-in_ok-steps-in-Union-2 : goal.test-returns-in_ok-steps-in-Union-2
test-returns-in_ok-steps-in-Union-2 t c = record {
  value =
      let b = c.get-in-Union.result.now in let a = c.get-in-Union-2.result.now in
      subst (λ (z : List Step). IfOk c.test-in-Union.result (λ s. s ≡ z))
      (union_test_same c.args.context.now c.args.ty.now a b c.args.value c.args.answer c.args.free c.args.steps c.in_ok-steps-in-Union-2.steps
      (let p = sym c.get-in-Union-2.ensures in let q = sym c.get-in-Union.ensures in c.in-Union.is ∙ (λ i. kind.Union (p i) (q i)))
      (c.in_ok-steps-in-Union-2.ensures.value (spec.test c.args.context.now (seen_ty b) c.args.value c.args.answer c.args.free) c.args.steps c.in_ok-steps-in-Union.ensures.value (sym c.len-end-in-Union.ensures.value)))
      c.test-in-Union.ensures.value;
}

pub test-returns-in_ok-steps-in-Inter-2 : goal.test-returns-in_ok-steps-in-Inter-2
test-returns-in_ok-steps-in-Inter-2 t c = record {
  value =
      let b = c.get-in-Inter.result.now in let a = c.get-in-Inter-2.result.now in
      subst (λ (z : List Step). IfOk c.test-in-Inter-2.result (λ s. s ≡ z))
      (inter_test_same c.args.context.now c.args.ty.now a b c.args.value c.args.answer c.args.free c.args.steps c.in_ok-steps-in-Inter-2.steps
      (let p = sym c.get-in-Inter-2.ensures in let q = sym c.get-in-Inter.ensures in c.in-Inter.is ∙ (λ i. kind.Inter (p i) (q i)))
      (c.in_ok-steps-in-Inter-2.ensures.value (spec.test c.args.context.now (seen_ty b) c.args.value c.args.answer c.args.free) c.args.steps c.in_ok-steps-in-Inter.ensures.value (sym c.len-end-in-Inter.ensures.value)))
      c.test-in-Inter-2.ensures.value;
}

pub test-returns-in_ok-steps-in-Not : goal.test-returns-in_ok-steps-in-Not
test-returns-in_ok-steps-in-Not t c = record {
  value =
      let a = c.get-in-Not.result.now in
      subst (λ (z : List Step). IfOk c.test-in-Not.result (λ s. s ≡ z))
      (not_test_same c.args.context.now c.args.ty.now a c.args.value c.args.answer c.args.free c.args.steps c.in_ok-steps-in-Not.steps
      (c.in-Not.is ∙ ap kind.Not (sym c.get-in-Not.ensures)) c.in_ok-steps-in-Not.ensures.value)
      c.test-in-Not.ensures.value;
}

pub test_fields-loop-left-preserved : goal.test_fields-loop-left-preserved
test_fields-loop-left-preserved t c =
    let l = c.loop-left in
    record {
      within = omega (arith, l.invariant.within);
      value = fields_turn c.args.context.now c.args.fields.now l.left c.index-fields-left.result c.args.value c.args.answer c.args.free c.in_ok-inner.inner c.in_ok-number.number c.args.steps c.in_ok-steps.steps c.in_ok-steps-2.steps c.in_ok-steps-3.steps
          c.loop-left-test.true l.invariant.within c.index-fields-left.is c.in_ok-inner.ensures.value c.in_ok-number.ensures.value
          (c.in_ok-steps.ensures.value (spec.fields_test c.args.context.now (field_tys_of (map (λ f. (f.0, seen_ty f.1)) (drop l.left c.args.fields.now))) c.args.value c.args.answer c.args.free) c.args.steps l.invariant.value (sym c.len-end.ensures.value))
          c.in_ok-steps-2.ensures.value c.in_ok-steps-3.ensures.value;
    }

pub test_items-returns : goal.test_items-returns
test_items-returns t c = record {
  value =
      let v = c.args.value in let r = c.args.answer in let f = c.args.free in
      let yes = spec.yes r in
      let one = spec.test c.args.context.now (seen_ty c.args.item.now) c.in_ok-part.part r c.in_ok-inner.inner in
      let last = spec.item_end r f in
      let old = yes ++ c.args.steps in
      subst (λ (z : List Step). IfOk c.item_turns.result (λ s. s ≡ z))
      (items_same c.args.context.now (seen_ty c.args.item.now) v r f c.in_ok-part.part c.in_ok-inner.inner c.args.steps (c.in_ok-part.ensures.value ∙ ap suc c.in_ok-next.ensures.value) c.in_ok-inner.ensures.value)
      (c.item_turns.ensures.value (one ++ last) old
      (c.in_ok-steps-3.ensures.value ∙ ap (λ (l : List Step). one ++ l) (c.in_ok-steps-2.ensures.value ∙ ap (λ (l : List Step). last ++ l) (c.in_ok-begin_turns.ensures.value ∙ ap (λ (l : List Step). GoesBack 0 ∷ l) c.in_ok-steps.ensures.value))
      ∙ sym (append_assoc one last (GoesBack 0 ∷ old)))
      (ap length (sym c.in_ok-steps.ensures.value) ∙ sym c.len-done.ensures.value));
}
