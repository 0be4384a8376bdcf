use Rattle.std.proofs.Common.{◌≡◌, ◌+◌, List, ◌∷◌, ◌++◌, IfOk, length, subst, ◌∙◌}
use Rattle.wy_code.specs.declared.pieces.steps.Step.{Step}
use Rattle.wy_code.specs.declared.pieces.steps.Step.TheVariants.{GoesBack, GoesOnUnless}
use Rattle.wy_code.proofs.pieces_lemmas.StepLemmas.{turns_before, turns_apart}
use Rattle.wy_code.proofs.pieces.steps.end_turns.Goals as goal

pub returns : goal.returns
returns c = record {
  value = λ test body old r h e. subst (λ (z : List Step). IfOk c.goes_back.result (λ s. s ≡ z)) (turns_before test body old r)
      (c.goes_back.ensures.value (test ++ GoesOnUnless r (length body + 1) ∷ body) old (GoesBack 0) (h ∙ turns_apart test body old r) e);
}
