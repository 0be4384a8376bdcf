use Rattle.std.proofs.Common.{◌≡◌, ◌<◌, ◌≤◌, ◌^◌, drop, length}
use Rattle.std.specs.Str.{all_ascii_digits}
use Rattle.std.specs.Str.Parse.{digits_value, digits_value_after}
use Rattle.wy_top_words.proofs.number.number.Given as goal

-- what is left decides whether all are digits, and which number they write
abbrev pub invariant-loop-byte : goal.invariant-loop-byte
invariant-loop-byte l = record {
  digits : all_ascii_digits l.bytes ≡ all_ascii_digits (drop l.byte-index l.bytes);
  number : digits_value 10 l.bytes ≡ digits_value_after 10 l.value (drop l.byte-index l.bytes);
  small : l.value < 10 ^ l.byte-index;
  most : length l.bytes ≤ 13;
}
