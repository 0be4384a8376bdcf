use Rattle.std.proofs.Common.{◌≡◌, take}
use Rattle.wy_names_lower.proofs.templates.copied.Given as goal

abbrev pub invariant-loop-name : goal.invariant-loop-name
invariant-loop-name l = l.made ≡ take l.name-index l.names
