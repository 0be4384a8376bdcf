use Rattle.std.proofs.Common.{◌≡◌, drop}
use Rattle.wy_items.specs.few.Places.{number_place}
use Rattle.wy_items.proofs.few.numbers.place_among_few.Given as goal

-- what is left has the number's place, and so many are passed
abbrev pub invariant-loop-number : goal.invariant-loop-number
invariant-loop-number l = record {
  counted : l.place ≡ l.number-index;
  left : number_place (drop l.number-index l.numbers) l.k l.number-index ≡ number_place l.numbers l.k 0;
}
