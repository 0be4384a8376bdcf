use Rattle.std.proofs.Common.{◌≡◌, ◌++◌, drop}
use Rattle.wy_cert.specs.Steps.{steps_of}
use Rattle.wy_cert.specs.writing.Text.{texts, certificate_text}
use Rattle.wy_cert.proofs.writing.write.put_certs.Given as goal

abbrev pub invariant-loop-entry : goal.invariant-loop-entry
invariant-loop-entry l = l.out.items ++ texts (λ e. certificate_text (e.0, steps_of e.1)) (drop l.entry-index l.list) ≡ l.initial.out.items ++ texts (λ e. certificate_text (e.0, steps_of e.1)) l.list
