use Rattle.std.proofs.Common.{◌≡◌, ◌∙◌, ◌+◌, List, [], ◌∷◌, ◌++◌, IfOk, length, ap, subst}
use Rattle.wy_code.specs.declared.instructions.Comparison.TheVariants as comparison
use Rattle.wy_code.specs.declared.instructions.Instr.TheVariants as instr
use Rattle.wy_code.specs.declared.pieces.steps.Step.{Step}
use Rattle.wy_code.specs.declared.pieces.steps.Step.TheVariants.{Does, GoesBack, GoesOnUnless}
use Rattle.wy_gen.proofs.PieceLemmas.{item_turns_same}
use Rattle.wy_gen.proofs.type_tests.item_turns.Goals as goal

pub returns : goal.returns
returns c = record {
  value = λ rest old h e.
      let read = Does (instr.Get c.in_ok-part.part c.args.value c.in_ok-index.index) in
      let test = Does (instr.Compare c.args.answer comparison.Less c.in_ok-index.index c.args.free) in
      let one : c.in_ok-steps.steps ≡ read ∷ rest ++ GoesBack 0 ∷ old = c.in_ok-steps.ensures.value ∙ ap (λ (l : List Step). read ∷ l) h in
      let two : c.in_ok-steps-2.steps ≡ GoesOnUnless c.args.answer (length (read ∷ rest) + 1) ∷ (read ∷ rest ++ GoesBack 0 ∷ old) = c.in_ok-steps-2.ensures.value (read ∷ rest) old one e in
      let three : c.in_ok-steps-3.steps ≡ test ∷ GoesOnUnless c.args.answer (length (read ∷ rest) + 1) ∷ (read ∷ rest ++ GoesBack 0 ∷ old) = c.in_ok-steps-3.ensures.value ∙ ap (λ (l : List Step). test ∷ l) two in
      subst (λ (z : List Step). IfOk c.end_turns.result (λ s. s ≡ z)) (item_turns_same c.args.value c.args.answer c.args.free c.in_ok-index.index c.in_ok-part.part rest old c.in_ok-index.ensures.value c.in_ok-part.ensures.value)
      (c.end_turns.ensures.value (test ∷ []) (read ∷ rest) old c.args.answer three e);
}
