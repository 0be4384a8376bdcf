use Rattle.std.proofs.Common.{◌≡◌, ◌++◌, drop}
use Rattle.wy_value.specs.Seen.{seen_items}
use Rattle.wy_value.specs.Shown.{more_items, shown_items}
use Rattle.wy_top_probe.proofs.probe_lines.arguments_text.Given as goal

-- what is left completes what is written
abbrev pub invariant-loop-arg : goal.invariant-loop-arg
invariant-loop-arg l = l.text.items ++ more_items (seen_items (drop l.arg-index l.rest)) ≡ shown_items (seen_items l.fn.args)
