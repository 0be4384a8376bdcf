use Rattle.std.proofs.Common.{◌≡◌, ◌++◌, drop}
use Rattle.wy_code.specs.Listing.{body_text}
use Rattle.wy_code.proofs.listing.write_body.Given as goal

-- what is left completes what is written
abbrev pub invariant-loop-instr : goal.invariant-loop-instr
invariant-loop-instr l = l.text.items ++ body_text (drop l.instr-index l.body) ≡ l.fn.text.items ++ body_text l.fn.body
