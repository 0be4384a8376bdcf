use Rattle.std.proofs.Common.{◌≡◌, ◌≤◌, ◌+◌, drop}
use Rattle.wy_parse_front.specs.Places.{place_behind}
use Rattle.wy_parse_front.proofs.place.locate.Given as goal

-- what is left leads on from here
abbrev pub invariant-loop-byte : goal.invariant-loop-byte
invariant-loop-byte l = record {
  placed : place_behind l.line l.column (drop l.byte-index l.before) ≡ place_behind 1 1 l.before;
  line_within : l.line ≤ l.byte-index + 1;
  column_within : l.column ≤ l.byte-index + 1;
}
