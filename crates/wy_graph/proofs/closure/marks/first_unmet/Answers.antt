use Rattle.std.proofs.Common.{◌≡◌, ◌∙◌, ◌+◌, ℕ, suc, false, true, length, take, Some, refl, ap, sym, subst, arith}
use Rattle.std.specs.Prelude.{slice_get}
use Rattle.std.proofs.lemmas.Option.{slice_get_read}
use Rattle.wy_graph.specs.closure.Marks as marking
use Rattle.wy_graph.proofs.closure_lemmas.MetLemmas.{met_more, unmet_at}
use Rattle.wy_graph.proofs.closure.marks.first_unmet.Goals as goal

pub returns-then-not-any_marked-clause-unmet : goal.returns-then-not-any_marked-clause-unmet
returns-then-not-any_marked-clause-unmet c =
    let ns = c.index-lists-first.result in
    let here : slice_get c.args.lists.now c.loop-first.first ≡ Some ns = slice_get_read c.args.lists.now (length c.args.lists.now) c.loop-first.first ns refl c.loop-first-test.true c.index-lists-first.is in
    let e : marking.any_marked c.args.marks.now ns ≡ false = ap (marking.any_marked c.args.marks.now) (sym c.as_slice.ensures) ∙ sym c.any_marked.ensures.value ∙ c.if-not-any_marked.true in
    λ lt. unmet_at c.args.marks.now c.args.lists.now c.loop-first.first ns here e

pub loop-first-preserved : goal.loop-first-preserved
loop-first-preserved c =
    let ns = c.index-lists-first.result in
    let here : slice_get c.args.lists.now c.loop-first.first ≡ Some ns = slice_get_read c.args.lists.now (length c.args.lists.now) c.loop-first.first ns refl c.loop-first-test.true c.index-lists-first.is in
    let e : marking.any_marked c.args.marks.now ns ≡ true = ap (marking.any_marked c.args.marks.now) (sym c.as_slice.ensures) ∙ sym c.any_marked.ensures.value ∙ c.if-not-any_marked.false in
    let next : suc c.loop-first.first ≡ c.loop-first.first + 1 = omega arith in
    subst (λ (n : ℕ). marking.each_marked c.args.marks.now (take n c.args.lists.now) ≡ true) next (met_more c.args.marks.now c.args.lists.now c.loop-first.first ns here e c.loop-first.invariant)
