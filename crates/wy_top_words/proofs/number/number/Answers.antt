use Rattle.std.proofs.Common.{rules, arith}
use Rattle.wy_top_words.proofs.NumberLemmas.{below_most}
use Rattle.wy_top_words.proofs.number.number.Goals as goal

pub overflow_mul-value : goal.overflow_mul-value
overflow_mul-value c =
    let small = below_most c.loop-byte.byte-index _ c.loop-byte.value c.loop-byte.invariant.most c.loop-byte.invariant.small (search rules) in
    omega arith

pub overflow_add-value : goal.overflow_add-value
overflow_add-value c =
    let small = below_most c.loop-byte.byte-index _ c.loop-byte.value c.loop-byte.invariant.most c.loop-byte.invariant.small (search rules) in
    omega arith
