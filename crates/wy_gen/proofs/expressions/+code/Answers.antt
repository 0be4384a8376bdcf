use Rattle.std.proofs.Common.{◌≡◌, ◌∙◌, List, [], ◌∷◌, ◌++◌, IfOk, ℕ, ap, subst, sym, length, append_assoc, arith}
use Rattle.wy_core.specs.CoreSeen.{seen_expr}
use Rattle.wy_core.specs.declared.expressions.Expr.{Expr}
use Rattle.wy_core.specs.declared.expressions.ExprKind as kind
use Rattle.wy_live.specs.Sets.{Variables}
use Rattle.wy_live.specs.Walks as lives
use Rattle.wy_core.specs.declared.expressions.Op.{Op}
use Rattle.wy_code.specs.declared.pieces.steps.Step.{Step}
use Rattle.wy_code.specs.declared.pieces.steps.Step.TheVariants.{GoesBack}
use Rattle.wy_code.specs.pieces.Steps.{fork}
use Rattle.wy_code_spec.specs.tables.Tables.{target}
use Rattle.wy_code_spec.specs.compiled.Expressions as spec
use Rattle.wy_code_spec.specs.compiled.Operands as operands
use Rattle.wy_code_spec.proofs.compiled_lemmas.StraightLemmas.{code_is_into}
use Rattle.wy_gen.proofs.ExpressionLemmas.{neg_same, not_same, len_same, is_same, field_same, binary_same, index_same, repeat_same, repeat_live, quant_same, quant_live, call_same, call_live, list_same, list_live, record_code_same, record_code_live}
use Rattle.wy_gen.proofs.LoopLemmas.{codes_turn, codes_turn_live, field_codes_turn, field_codes_turn_live, place_back}
use Rattle.wy_gen.proofs.PieceLemmas.{quantify_same}
use Rattle.wy_gen.proofs.OperatorLemmas.{right_made}
use Rattle.wy_gen.proofs.expressions.+code.Goals as goal

pub into-returns-in_ok-behind-in-Neg-clause-value : goal.into-returns-in_ok-behind-in-Neg-clause-value
into-returns-in_ok-behind-in-Neg-clause-value t c =
    let a = c.get-operand.result.now in
    let b = c.in_ok-behind-in-Neg.behind in
    subst (λ (z : List Step). IfOk c.operand_code.result (λ m. m.steps ≡ z))
    (neg_same c.args.context.now c.args.expr.now a b.live c.args.behind.live c.args.register c.args.target c.args.behind.steps b.steps c.in_ok-behind-in-Neg.ensures.live c.variable_in-place.result c.standing.result
    (c.in-Neg.is ∙ ap kind.Neg (sym c.get-operand.ensures)) c.variable_in-place.ensures.value c.standing.ensures.value c.in_ok-behind-in-Neg.ensures.value)
    c.operand_code.ensures.value

pub into-returns-in_ok-behind-in-Not-clause-value : goal.into-returns-in_ok-behind-in-Not-clause-value
into-returns-in_ok-behind-in-Not-clause-value t c =
    let a = c.get-operand-in-Not.result.now in
    let b = c.in_ok-behind-in-Not.behind in
    subst (λ (z : List Step). IfOk c.operand_code-in-Not.result (λ m. m.steps ≡ z))
    (not_same c.args.context.now c.args.expr.now a b.live c.args.behind.live c.args.register c.args.target c.args.behind.steps b.steps c.in_ok-behind-in-Not.ensures.live c.variable_in-place-in-Not.result c.standing-in-Not.result
    (c.in-Not.is ∙ ap kind.Not (sym c.get-operand-in-Not.ensures)) c.variable_in-place-in-Not.ensures.value c.standing-in-Not.ensures.value c.in_ok-behind-in-Not.ensures.value)
    c.operand_code-in-Not.ensures.value

pub into-returns-in_ok-behind-in-Len-clause-value : goal.into-returns-in_ok-behind-in-Len-clause-value
into-returns-in_ok-behind-in-Len-clause-value t c =
    let a = c.get-operand-in-Len.result.now in
    let b = c.in_ok-behind-in-Len.behind in
    subst (λ (z : List Step). IfOk c.operand_code-in-Len.result (λ m. m.steps ≡ z))
    (len_same c.args.context.now c.args.expr.now a b.live c.args.behind.live c.args.register c.args.target c.args.behind.steps b.steps c.in_ok-behind-in-Len.ensures.live c.read-place.result c.standing-in-Len.result
    (c.in-Len.is ∙ ap kind.Len (sym c.get-operand-in-Len.ensures)) c.read-place.ensures.value c.standing-in-Len.ensures.value c.in_ok-behind-in-Len.ensures.value)
    c.operand_code-in-Len.ensures.value

pub into-returns-in_ok-behind-in-Is-clause-value : goal.into-returns-in_ok-behind-in-Is-clause-value
into-returns-in_ok-behind-in-Is-clause-value t c =
    let a = c.get-operand-in-Is.result.now in
    let b = c.in_ok-behind-in-Is.behind in
    subst (λ (z : List Step). IfOk c.operand_code-in-Is.result (λ m. m.steps ≡ z))
    (is_same c.args.context.now c.args.expr.now a b.live c.args.behind.live c.args.register c.args.target c.args.behind.steps b.steps c.in_ok-behind-in-Is.ensures.live c.in-Is.ty c.tested_read-place.result
    (c.in-Is.is ∙ ap (λ (z : Expr). kind.Is z c.in-Is.ty) (sym c.get-operand-in-Is.ensures)) c.tested_read-place.ensures.value c.in_ok-behind-in-Is.ensures.value)
    c.operand_code-in-Is.ensures.value

pub into-returns-in_ok-behind-in-Field-clause-value : goal.into-returns-in_ok-behind-in-Field-clause-value
into-returns-in_ok-behind-in-Field-clause-value t c =
    let a = c.get-whole.result.now in
    let b = c.in_ok-behind-in-Field.behind in
    subst (λ (z : List Step). IfOk c.operand_code-in-Field.result (λ m. m.steps ≡ z))
    (field_same c.args.context.now c.args.expr.now a b.live c.args.behind.live c.args.register c.args.target c.args.behind.steps b.steps c.in_ok-behind-in-Field.ensures.live c.in-Field.name c.in_ok-number-in-Field.number c.standing-in-Field.result c.read-place-in-Field.result
    (c.in-Field.is ∙ ap (λ (z : Expr). kind.Field z c.in-Field.name) (sym c.get-whole.ensures)) c.read-place-in-Field.ensures.value c.standing-in-Field.ensures.value c.in_ok-number-in-Field.ensures.value c.in_ok-behind-in-Field.ensures.value)
    c.operand_code-in-Field.ensures.value

pub into-returns-in_ok-behind-in-Binary-clause-value : goal.into-returns-in_ok-behind-in-Binary-clause-value
into-returns-in_ok-behind-in-Binary-clause-value t c =
    let a = c.get-left.result.now in
    let b = c.get-right.result.now in
    let m = c.in_ok-behind-in-Binary.behind in
    let p = sym c.get-left.ensures in
    let q = sym c.get-right.ensures in
    subst (λ (z : List Step). IfOk c.operand_code-in-Binary.result (λ m. m.steps ≡ z))
    (binary_same c.args.context.now c.args.expr.now a b c.args.behind.live c.args.register c.args.target c.args.behind.steps m.live m.steps c.in-Binary.op c.first_read-place.result c.standing-first.result
    (c.in-Binary.is ∙ (λ i. kind.Binary c.in-Binary.op (p i) (q i))) c.first_read-place.ensures.value c.standing-first.ensures.value c.in_ok-behind-in-Binary.ensures.live c.in_ok-behind-in-Binary.ensures.value)
    c.operand_code-in-Binary.ensures.value

pub into-returns-in_ok-behind-in-Index-2-clause-value : goal.into-returns-in_ok-behind-in-Index-2-clause-value
into-returns-in_ok-behind-in-Index-2-clause-value t c =
    let a = c.get-array.result.now in
    let b = c.get-index.result.now in
    let one = c.in_ok-behind-in-Index.behind in
    let two = c.in_ok-behind-in-Index-2.behind in
    let p = sym c.get-array.ensures in
    let q = sym c.get-index.ensures in
    subst (λ (z : List Step). IfOk c.operand_code-in-Index-2.result (λ m. m.steps ≡ z))
    (index_same c.args.context.now c.args.expr.now a b c.args.behind.live c.args.register c.args.target c.args.behind.steps two.live two.steps c.read-whole.result c.variable_in-place-in-Index.result c.standing-in-Index.result c.standing-in-Index-2.result one.live c.in_ok-free-in-Index.free one.steps
    (c.in-Index.is ∙ (λ i. kind.Index (p i) (q i))) c.read-whole.ensures.value c.standing-in-Index.ensures.value c.variable_in-place-in-Index.ensures.value c.standing-in-Index-2.ensures.value c.in_ok-free-in-Index.ensures.value c.in_ok-behind-in-Index.ensures.live
    c.in_ok-behind-in-Index.ensures.value c.in_ok-behind-in-Index-2.ensures.live c.in_ok-behind-in-Index-2.ensures.value)
    c.operand_code-in-Index-2.ensures.value

pub into-returns-in_ok-behind-in-Repeat-2 : goal.into-returns-in_ok-behind-in-Repeat-2
into-returns-in_ok-behind-in-Repeat-2 t c = record {
  value =
      let b = c.get.result.now in let a = c.get-in-Repeat.result.now in
      subst (λ (z : List Step). IfOk c.code-in-Repeat.result (λ m. m.steps ≡ z))
      (repeat_same c.args.context.now c.args.expr.now a b c.args.behind.live c.args.register c.args.target c.args.behind.steps c.in_ok-behind-in-Repeat-2.behind.live c.in_ok-behind-in-Repeat-2.behind.steps c.in_ok-behind-in-Repeat.behind.live c.in_ok-free-in-Repeat.free c.in_ok-behind-in-Repeat.behind.steps (let p = sym c.get-in-Repeat.ensures in let q = sym c.get.ensures in c.in-Repeat.is ∙ (λ i. kind.Repeat (p i) (q i))) c.in_ok-free-in-Repeat.ensures.value c.in_ok-behind-in-Repeat.ensures.live c.in_ok-behind-in-Repeat.ensures.value c.in_ok-behind-in-Repeat-2.ensures.live c.in_ok-behind-in-Repeat-2.ensures.value)
      c.code-in-Repeat.ensures.value;
  live =
      let b = c.get.result.now in let a = c.get-in-Repeat.result.now in
      subst (λ (z : Variables). IfOk c.code-in-Repeat.result (λ m. m.live ≡ z))
      (repeat_live c.args.context.now c.args.expr.now a b c.args.behind.live c.args.register c.args.target c.args.behind.steps c.in_ok-behind-in-Repeat-2.behind.live c.in_ok-behind-in-Repeat-2.behind.steps c.in_ok-behind-in-Repeat.behind.live (let p = sym c.get-in-Repeat.ensures in let q = sym c.get.ensures in c.in-Repeat.is ∙ (λ i. kind.Repeat (p i) (q i))) c.in_ok-behind-in-Repeat.ensures.live c.in_ok-behind-in-Repeat-2.ensures.live)
      c.code-in-Repeat.ensures.live;
}

pub into-returns-in_ok-behind-in-Quant-2 : goal.into-returns-in_ok-behind-in-Quant-2
into-returns-in_ok-behind-in-Quant-2 t c = record {
  value =
      let body = c.get-body.result.now in let b = c.get-in-Quant.result.now in let a = c.get-in-Quant-2.result.now in
      subst (λ (z : List Step). IfOk c.code-in-Quant-2.result (λ m. m.steps ≡ z))
      (quant_same c.args.context.now c.args.expr.now c.in-Quant.all c.in-Quant.variable a b body c.args.behind.live c.in_ok-behind-in-Quant-2.behind.live c.in_ok-behind-in-Quant.behind.live c.args.register c.args.target c.in_ok-free-in-Quant.free c.args.behind.steps c.in_ok-behind-in-Quant.behind.steps c.in_ok-behind-in-Quant-2.behind.steps (let p = sym c.get-in-Quant-2.ensures in let q = sym c.get-in-Quant.ensures in let r = sym c.get-body.ensures in c.in-Quant.is ∙ (λ i. kind.Quant c.in-Quant.all c.in-Quant.variable (p i) (q i) (r i))) c.in_ok-behind-in-Quant.ensures.live c.in_ok-behind-in-Quant-2.ensures.live c.in_ok-free-in-Quant.ensures.value c.in_ok-behind-in-Quant.ensures.value c.in_ok-behind-in-Quant-2.ensures.value)
      c.code-in-Quant-2.ensures.value;
  live =
      let body = c.get-body.result.now in let b = c.get-in-Quant.result.now in let a = c.get-in-Quant-2.result.now in
      subst (λ (z : Variables). IfOk c.code-in-Quant-2.result (λ m. m.live ≡ z))
      (quant_live c.args.context.now c.args.expr.now c.in-Quant.all c.in-Quant.variable a b body c.args.behind.live c.in_ok-behind-in-Quant-2.behind.live c.in_ok-behind-in-Quant.behind.live c.args.register c.args.target c.in_ok-free-in-Quant.free c.args.behind.steps c.in_ok-behind-in-Quant.behind.steps c.in_ok-behind-in-Quant-2.behind.steps (let p = sym c.get-in-Quant-2.ensures in let q = sym c.get-in-Quant.ensures in let r = sym c.get-body.ensures in c.in-Quant.is ∙ (λ i. kind.Quant c.in-Quant.all c.in-Quant.variable (p i) (q i) (r i))) c.in_ok-behind-in-Quant.ensures.live c.in_ok-behind-in-Quant-2.ensures.live)
      c.code-in-Quant-2.ensures.live;
}

pub into-returns-in_ok-behind-in-Call : goal.into-returns-in_ok-behind-in-Call
into-returns-in_ok-behind-in-Call t c = record {
  value =
      let es = c.as_slice.result.now in
      subst (λ (z : List Step). IfOk c.codes.result (λ m. m.steps ≡ z))
      (call_same c.args.context.now c.args.expr.now es c.in_ok-behind-in-Call.behind.live c.args.behind.live c.args.register c.args.target c.args.behind.steps c.in_ok-behind-in-Call.behind.steps c.in_ok-behind-in-Call.ensures.live c.in-Call.routine (c.in-Call.is ∙ ap (λ (z : List Expr). kind.Call c.in-Call.routine z) (sym c.as_slice.ensures)) (c.in_ok-behind-in-Call.ensures.value ∙ ap (λ (n : ℕ). spec.call (target c.args.context.now.results c.in-Call.routine) c.in-Call.routine c.args.register n ++ c.args.behind.steps) (c.len.ensures ∙ ap length (sym c.as_slice.ensures))))
      c.codes.ensures.value;
  live =
      let es = c.as_slice.result.now in
      subst (λ (z : Variables). IfOk c.codes.result (λ m. m.live ≡ z))
      (call_live c.args.context.now c.args.expr.now es c.in_ok-behind-in-Call.behind.live c.args.behind.live c.args.register c.args.target c.args.behind.steps c.in_ok-behind-in-Call.behind.steps c.in_ok-behind-in-Call.ensures.live c.in-Call.routine (c.in-Call.is ∙ ap (λ (z : List Expr). kind.Call c.in-Call.routine z) (sym c.as_slice.ensures)))
      c.codes.ensures.live;
}

pub into-returns-in_ok-behind-in-List : goal.into-returns-in_ok-behind-in-List
into-returns-in_ok-behind-in-List t c = record {
  value =
      let es = c.as_slice-in-List.result.now in
      subst (λ (z : List Step). IfOk c.codes-in-List.result (λ m. m.steps ≡ z))
      (list_same c.args.context.now c.args.expr.now es c.in_ok-behind-in-List.behind.live c.args.behind.live c.args.register c.args.target c.args.behind.steps c.in_ok-behind-in-List.behind.steps c.in_ok-behind-in-List.ensures.live (c.in-List.is ∙ ap kind.List (sym c.as_slice-in-List.ensures)) (c.in_ok-behind-in-List.ensures.value ∙ ap (λ (n : ℕ). spec.list n c.args.register ++ c.args.behind.steps) (c.len-in-List.ensures ∙ ap length (sym c.as_slice-in-List.ensures))))
      c.codes-in-List.ensures.value;
  live =
      let es = c.as_slice-in-List.result.now in
      subst (λ (z : Variables). IfOk c.codes-in-List.result (λ m. m.live ≡ z))
      (list_live c.args.context.now c.args.expr.now es c.in_ok-behind-in-List.behind.live c.args.behind.live c.args.register c.args.target c.args.behind.steps c.in_ok-behind-in-List.behind.steps c.in_ok-behind-in-List.ensures.live (c.in-List.is ∙ ap kind.List (sym c.as_slice-in-List.ensures)))
      c.codes-in-List.ensures.live;
}

pub into-returns-in_ok-behind-in-Record : goal.into-returns-in_ok-behind-in-Record
into-returns-in_ok-behind-in-Record t c = record {
  value =
      let fs = c.as_slice-fields.result.now in
      subst (λ (z : List Step). IfOk c.field_codes.result (λ m. m.steps ≡ z))
      (record_code_same c.args.context.now c.args.expr.now fs c.in_ok-behind-in-Record.behind.live c.args.behind.live c.args.register c.args.target c.args.behind.steps c.in_ok-behind-in-Record.behind.steps (c.in-Record.is ∙ ap kind.Record (sym c.as_slice-fields.ensures)) c.in_ok-behind-in-Record.ensures.live c.in_ok-behind-in-Record.ensures.value)
      c.field_codes.ensures.value;
  live =
      let fs = c.as_slice-fields.result.now in
      subst (λ (z : Variables). IfOk c.field_codes.result (λ m. m.live ≡ z))
      (record_code_live c.args.context.now c.args.expr.now fs c.in_ok-behind-in-Record.behind.live c.args.behind.live c.args.register c.args.target c.args.behind.steps c.in_ok-behind-in-Record.behind.steps (c.in-Record.is ∙ ap kind.Record (sym c.as_slice-fields.ensures)) c.in_ok-behind-in-Record.ensures.live)
      c.field_codes.ensures.live;
}

pub right_side-returns-in_ok-made-in-And : goal.right_side-returns-in_ok-made-in-And
right_side-returns-in_ok-made-in-And t c =
    let b = seen_expr c.args.right.now in
    let s = c.args.behind.live in
    let second = spec.released (lives.before b s) s in
    let live : c.in_ok-start-in-And.start.live ≡ s = c.in_ok-start-in-And.ensures.live in
    let steps : c.in_ok-start-in-And.start.steps ≡ second ++ c.args.behind.steps = c.in_ok-start-in-And.ensures.value in
    let first = spec.code c.args.context.now b s c.args.register in
    record {
      value = subst (λ (o : Op). IfOk c.end_and.result (λ m. m.steps ≡ spec.operate o c.args.target c.args.left (operands.standing (operands.second_read o b s) (spec.right_register o c.args.register)) (operands.unless_read (operands.second_read o b s) (spec.code c.args.context.now b s (spec.right_register o c.args.register))) second (operands.plain_or_read (operands.second_read o b s) (spec.is_plain b)) ++ c.args.behind.steps))
          (sym c.in-And.is)
          (subst (λ (z : List Step). IfOk c.end_and.result (λ m. m.steps ≡ z)) (sym (append_assoc (fork c.args.target first []) second c.args.behind.steps))
          (c.end_and.ensures.value first (second ++ c.args.behind.steps)
          (c.in_ok-made-in-And.ensures.value ∙ (λ i. spec.code c.args.context.now b (live i) c.args.register ++ steps i))
          (ap length (sym steps) ∙ sym c.len-end.ensures.value)));
      live = subst (λ (z : Variables). IfOk c.end_and.result (λ m. m.live ≡ z)) (c.in_ok-made-in-And.ensures.live ∙ ap (λ (v : Variables). lives.before b v) live) c.end_and.ensures.live;
    }

pub right_side-returns-in_ok-made-in-Or : goal.right_side-returns-in_ok-made-in-Or
right_side-returns-in_ok-made-in-Or t c =
    let b = seen_expr c.args.right.now in
    let s = c.args.behind.live in
    let second = spec.code c.args.context.now b s c.args.register in
    let after : c.in_ok-after-in-Or.after ≡ s = c.in_ok-after-in-Or.ensures.value in
    let live : c.in_ok-made-in-Or.made.live ≡ lives.before b s = c.in_ok-made-in-Or.ensures.live in
    record {
      value = subst (λ (o : Op). IfOk c.end_or.result (λ m. m.steps ≡ spec.operate o c.args.target c.args.left (operands.standing (operands.second_read o b s) (spec.right_register o c.args.register)) (operands.unless_read (operands.second_read o b s) (spec.code c.args.context.now b s (spec.right_register o c.args.register))) (spec.released (lives.before b s) s) (operands.plain_or_read (operands.second_read o b s) (spec.is_plain b)) ++ c.args.behind.steps))
          (sym c.in-Or.is)
          (subst (λ (z : List Step). IfOk c.end_or.result (λ m. m.steps ≡ z)) (λ i. fork c.args.target (spec.released (live i) (after i)) second ++ c.args.behind.steps)
          (c.end_or.ensures.value second c.args.behind.steps c.in_ok-made-in-Or.ensures.value (sym c.len-end-in-Or.ensures.value)));
      live = subst (λ (z : Variables). IfOk c.end_or.result (λ m. m.live ≡ z)) live c.end_or.ensures.live;
    }

pub quantify-returns : goal.quantify-returns
quantify-returns t c =
    let b = seen_expr c.args.body.now in
    let s = c.args.behind.live in
    let g = c.in_ok-begun.begun in
    let gone = spec.released g.live s in
    let first = spec.code c.args.context.now b g.start.live g.free in
    let last = spec.turn_end c.args.all c.args.register gone in
    let old = spec.ends c.args.all c.args.register gone ++ c.args.behind.steps in
    record {
      value = subst (λ (z : List Step). IfOk c.end_quantifier.result (λ m. m.steps ≡ z))
          (quantify_same c.args.context.now c.args.all c.args.variable b s g.live g.start.live c.args.register g.free c.args.behind.steps c.in_ok-begun.ensures.live c.in_ok-begun.ensures.inside c.in_ok-begun.ensures.free)
          (c.end_quantifier.ensures.value (first ++ last) old
          (c.in_ok-made.ensures.value ∙ ap (λ (l : List Step). first ++ l) c.in_ok-begun.ensures.value ∙ sym (append_assoc first last (GoesBack 0 ∷ old)))
          (sym c.in_ok-begun.ensures.done));
      live = subst (λ (z : Variables). IfOk c.end_quantifier.result (λ m. m.live ≡ z)) c.in_ok-begun.ensures.live c.end_quantifier.ensures.live;
    }

pub codes-loop-left-preserved : goal.codes-loop-left-preserved
codes-loop-left-preserved t c =
    let l = c.loop-left in
    let es = c.args.exprs.now in
    let x = c.index-exprs-left.result in
    record {
      within = omega (arith, l.invariant.within);
      place = place_back c.args.register l.left l.here c.in_ok-here-2.here c.loop-left-test.true l.invariant.place c.in_ok-here-2.ensures.value;
      live = codes_turn_live c.args.context.now es l.left x c.args.behind.live l.made.live c.loop-left-test.true l.invariant.within c.index-exprs-left.is l.invariant.live c.in_ok-made.made.live c.in_ok-made.ensures.live;
      value = codes_turn c.args.context.now es l.left x c.args.behind.live l.made.live c.loop-left-test.true l.invariant.within c.index-exprs-left.is l.invariant.live l.here c.in_ok-here-2.here c.args.behind.steps l.made.steps c.in_ok-made.made.steps c.in_ok-here-2.ensures.value l.invariant.value c.in_ok-made.ensures.value;
    }

pub field_codes-loop-left-preserved : goal.field_codes-loop-left-preserved
field_codes-loop-left-preserved t c =
    let l = c.loop-left in
    let fs = c.args.fields.now in
    let x = c.index-fields-left.result in
    record {
      within = omega (arith, l.invariant.within);
      place = place_back c.args.register l.left l.here c.in_ok-here-2.here c.loop-left-test.true l.invariant.place c.in_ok-here-2.ensures.value;
      live = field_codes_turn_live c.args.context.now fs l.left x c.args.behind.live l.made.live c.loop-left-test.true l.invariant.within c.index-fields-left.is l.invariant.live c.in_ok-made.made.live c.in_ok-made.ensures.live;
      value = field_codes_turn c.args.context.now fs l.left x c.args.behind.live l.made.live c.loop-left-test.true l.invariant.within c.index-fields-left.is l.invariant.live l.here c.in_ok-here-2.here c.args.behind.steps l.made.steps c.in_ok-made.made.steps c.in_ok-here-2.ensures.value l.invariant.value c.in_ok-made.ensures.value;
    }

pub right_side-returns-in_ok-behind-in_default-clause-value : goal.right_side-returns-in_ok-behind-in_default-clause-value
right_side-returns-in_ok-behind-in_default-clause-value t c =
    let b = seen_expr c.args.right.now in
    let s = c.args.behind.live in
    let place = c.second_read-place.result in
    let m = c.in_ok-behind-in_default.behind in
    subst (λ (z : List Step). IfOk c.operand_code.result (λ m. m.steps ≡ z))
    (right_made c.args.context.now b c.args.register c.args.target c.args.left c.in_ok-free-in_default.free s m.live c.args.behind.steps m.steps c.in_ok-free-in_default.ensures.value c.in_ok-behind-in_default.ensures.live
    c.args.op (spec.released (lives.before b s) s) place c.standing-second.result c.plain_or_read-is_plain.result c.in_default.not-And c.in_default.not-Or c.second_read-place.ensures.value c.standing-second.ensures.value
    (c.plain_or_read-is_plain.ensures.value ∙ ap (operands.plain_or_read place) c.is_plain.ensures.value) c.in_ok-behind-in_default.ensures.value)
    c.operand_code.ensures.value

pub code-returns-clause-value : goal.code-returns-clause-value
code-returns-clause-value t c =
    let s = c.args.behind.live in
    subst (λ (z : List Step). IfOk c.into.result (λ m. m.steps ≡ z ++ c.args.behind.steps)) (sym (code_is_into c.args.context.now (seen_expr c.args.expr.now) s c.args.register)) c.into.ensures.value
