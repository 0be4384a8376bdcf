use Rattle.std.proofs.Common.{◌≡◌, ℕ, drop}
use Rattle.wy_term_text.specs.wy_term.Term.{Term}
use Rattle.wy_cert.specs.Steps.{written}
use Rattle.wy_cert.specs.writing.Text.{some_pass, is_product}
use Rattle.wy_cert.proofs.writing.write.have_product.Given as goal

abbrev pub invariant-loop-step : goal.invariant-loop-step
invariant-loop-step l = (at : ℕ → Term) → some_pass (λ s. is_product (written at s)) (drop l.step-index l.steps) ≡ some_pass (λ s. is_product (written at s)) l.steps
