use Rattle.std.proofs.Common.{◌≡◌, drop}
use Rattle.wy_cert.specs.Steps.{steps_of}
use Rattle.wy_cert.specs.writing.Text.{some_pass, is_product}
use Rattle.wy_cert.proofs.writing.write.some_have_product.Given as goal

abbrev pub invariant-loop-entry : goal.invariant-loop-entry
invariant-loop-entry l = some_pass (λ e. some_pass is_product (steps_of e.1)) (drop l.entry-index l.list) ≡ some_pass (λ e. some_pass is_product (steps_of e.1)) l.list
