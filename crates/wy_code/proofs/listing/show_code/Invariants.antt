use Rattle.std.proofs.Common.{◌≡◌, ◌++◌, drop}
use Rattle.wy_code.specs.Listing.{routines_text}
use Rattle.wy_code.proofs.listing.show_code.Given as goal

-- what is left completes what is written, and the number is that of the next routine
abbrev pub invariant-loop-routine : goal.invariant-loop-routine
invariant-loop-routine l = record {
  number : l.number ≡ l.routine-index;
  text : l.text.items ++ routines_text l.number (drop l.routine-index l.code.routines) ≡ routines_text 0 l.code.routines;
}
