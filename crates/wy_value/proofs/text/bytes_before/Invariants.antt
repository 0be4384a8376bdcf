use Rattle.std.proofs.Common.{◌≡◌, ◌≤◌, ◌*◌, length, take}
use Rattle.std.specs.Str.{encode_utf8_all}
use Rattle.wy_value.proofs.text.bytes_before.Given as goal

-- the bytes of the characters that were gone through
abbrev pub invariant-loop-c : goal.invariant-loop-c
invariant-loop-c l = (l.bytes ≡ length (encode_utf8_all (take l.c-index l.c-items))) × (l.bytes ≤ 4 * l.c-index)
