use Rattle.std.proofs.Common.{◌≡◌, ◌+◌, ◌-◌, ℕ, List, ◌∷◌, ◌++◌, IfOk, length, subst, ap, ◌∙◌}
use Rattle.wy_code.specs.declared.pieces.steps.Step.{Step}
use Rattle.wy_code.specs.declared.pieces.steps.Step.TheVariants.{GoesBack, GoesOnUnless}
use Rattle.wy_code.proofs.pieces_lemmas.StepLemmas.{body_length}
use Rattle.wy_code.proofs.pieces.steps.leave_turns.Goals as goal

left_turns : (r n : ℕ) (steps body old : List Step) (end : ℕ) → steps ≡ body ++ GoesBack 0 ∷ old → length old ≡ end → n ≡ length steps - end → GoesOnUnless r n ∷ steps ≡ GoesOnUnless r (length body + 1) ∷ (body ++ GoesBack 0 ∷ old)
left_turns r n steps body old end h e is = let m = body_length body old steps end n h e is in ap (λ (k : ℕ). GoesOnUnless r k ∷ steps) m ∙ ap (λ (l : List Step). GoesOnUnless r (length body + 1) ∷ l) h

pub returns : goal.returns
returns c = record {
  value = λ body old h e. subst (λ (z : List Step). IfOk c.prepend.result (λ s. s ≡ z)) (left_turns c.args.register c.in_ok-over.over c.args.steps body old c.args.done h e c.in_ok-over.ensures.value) c.prepend.ensures.value;
}
