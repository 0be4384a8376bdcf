use Rattle.std.proofs.Common.{◌∙◌, ◌++◌, ap}
use Rattle.std.specs.String.{string_bytes}
use Rattle.wy_top_big.proofs.SourceLemmas.{one_more_drawn, one_more_written}
use Rattle.wy_top_big.proofs.source.functions.Goals as goal

pub loop-number-preserved : goal.loop-number-preserved
loop-number-preserved c =
    let drawn = one_more_drawn c.loop-number.number c.args.seed c.loop-number.state c.next-state.result c.loop-number.invariant.drawn c.next-state.ensures.value in
    let put = c.in_ok-push_str.ensures.bytes ∙ ap (λ t. string_bytes c.loop-number.text ++ t) c.as_str.ensures.value in
    record {
      written = one_more_written c.loop-number.number c.args.seed c.next-state.result
          (string_bytes c.loop-number.text) (string_bytes c.in_ok-function.function) (string_bytes c.push_str.new.self) (string_bytes c.push_str-in-loop-number.new.self)
          c.loop-number.invariant.written drawn c.in_ok-function.ensures.value put c.in_ok-push_str-2.ensures.bytes;
      drawn = drawn;
    }
