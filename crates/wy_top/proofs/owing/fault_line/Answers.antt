use Rattle.std.proofs.Common.{◌≡◌, List, ℕ, subst}
use Rattle.std.specs.Prelude.{IfOk}
use Rattle.std.specs.String.{string_bytes}
use Rattle.wy_top.specs.Faults.{offset, word}
use Rattle.wy_top_probe.proofs.PlaceLemmas.{located}
use Rattle.wy_top.proofs.owing.fault_line.Goals as goal

pub returns : goal.returns
returns c =
    let place = c.locate-place.result in
    let same = located c.args.name.now c.args.bytes.now place.line place.column c.offset.result (offset c.args.fault) c.word.result.now (word c.args.fault) c.locate-place.ensures.value c.offset.ensures.value c.word.ensures.value in
    record { value = subst (λ (t : List ℕ). IfOk c.source_fault.result (λ s. string_bytes s ≡ t)) same c.source_fault.ensures.value }
