use Rattle.std.proofs.Common.{◌≡◌, ◌++◌, drop}
use Rattle.wy_term_text.specs.wy_term.Nodes.{tree_at}
use Rattle.wy_cert.specs.Steps.{written}
use Rattle.wy_cert.specs.writing.Text.{texts, line_text}
use Rattle.wy_cert.proofs.writing.write.put_steps.Given as goal

abbrev pub invariant-loop-step : goal.invariant-loop-step
invariant-loop-step l = l.out.items ++ texts (λ s. line_text (written (tree_at l.terms) s)) (drop l.step-index l.steps) ≡ l.initial.out.items ++ texts (λ s. line_text (written (tree_at l.terms) s)) l.steps
