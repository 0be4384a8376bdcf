use Rattle.std.proofs.Common.{◌≡◌, ℕ, List, subst}
use Rattle.std.specs.Prelude.{IfOk}
use Rattle.std.specs.String.{string_bytes}
use Rattle.wy_link_load.proofs.FileLemmas.{located}
use Rattle.wy_link_load.proofs.file.fault_line.Goals as goal

pub returns : goal.returns
returns c =
    let place = c.locate-place.result in
    let same = located c.args.name.now c.args.bytes.now place.line place.column c.args.at c.args.word.now c.locate-place.ensures.value in
    record { value = subst (λ (t : List ℕ). IfOk c.source_fault.result (λ s. string_bytes s ≡ t)) same c.source_fault.ensures.value }
