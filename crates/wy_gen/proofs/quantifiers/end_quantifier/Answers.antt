use Rattle.std.proofs.Common.{◌≡◌, ◌∙◌, ◌+◌, List, [], ◌∷◌, ◌++◌, length, ap}
use Rattle.wy_code.specs.declared.instructions.Comparison.TheVariants as comparison
use Rattle.wy_code.specs.declared.instructions.Instr.TheVariants as instr
use Rattle.wy_code.specs.declared.pieces.steps.Step.{Step}
use Rattle.wy_code.specs.declared.pieces.steps.Step.TheVariants.{Does, GoesBack, GoesOnUnless}
use Rattle.wy_gen.proofs.PieceLemmas.{number_turns_same}
use Rattle.wy_gen.proofs.quantifiers.end_quantifier.Goals as goal

pub returns-clause-value : goal.returns-clause-value
returns-clause-value c = λ rest old h e.
    let share = Does (instr.Share c.args.variable c.args.register) in
    let test = Does (instr.Compare c.in_ok-free.free comparison.Less c.args.register c.in_ok-to.to) in
    let one : c.in_ok-steps.steps ≡ share ∷ rest ++ GoesBack 0 ∷ old = c.in_ok-steps.ensures.value ∙ ap (λ (l : List Step). share ∷ l) h in
    let two : c.in_ok-steps-2.steps ≡ GoesOnUnless c.in_ok-free.free (length (share ∷ rest) + 1) ∷ (share ∷ rest ++ GoesBack 0 ∷ old) = c.in_ok-steps-2.ensures.value (share ∷ rest) old one e in
    let three : c.in_ok-steps-3.steps ≡ test ∷ GoesOnUnless c.in_ok-free.free (length (share ∷ rest) + 1) ∷ (share ∷ rest ++ GoesBack 0 ∷ old) = c.in_ok-steps-3.ensures.value ∙ ap (λ (l : List Step). test ∷ l) two in
    c.in_ok-steps-4.ensures.value (test ∷ []) (share ∷ rest) old c.in_ok-free.free three e
    ∙ number_turns_same c.args.variable c.args.register c.in_ok-to.to c.in_ok-free.free rest old c.in_ok-to.ensures.value c.in_ok-free.ensures.value
