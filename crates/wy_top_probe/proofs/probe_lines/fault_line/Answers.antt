use Rattle.std.proofs.Common.{◌∙◌, ap}
use Rattle.wy_top_probe.proofs.LineLemmas.{fault_written}
use Rattle.wy_top_probe.proofs.probe_lines.fault_line.Goals as goal

pub returns : goal.returns
returns c =
    record {
      value = fault_written c.args.bytes.now c.word.result.now c.args.args.now c.args.kind c.args.at c.locate-place.result.line c.locate-place.result.column _ _ _ _ c.locate-place.ensures.value c.word.ensures.value (ap (λ v. v.items) c.into_bytes-text.ensures.value ∙ c.in_ok-head.ensures.value)
          (c.as_slice.ensures.value ∙ c.in_ok-shown.ensures.value) c.in_ok-extend_from_slice.ensures.items c.in_ok-extend_from_slice-2.ensures.items;
    }
