use Rattle.std.proofs.Common.{◌∙◌, ap}
use Rattle.wy_top_big.specs.Source.{entry, function}
use Rattle.wy_top_big.proofs.source.main_function.Goals as goal

pub returns : goal.returns
returns c = record {
  value =
      c.in_ok-text.ensures.value
      ∙ ap (λ name. function name c.as_str.result.now) c.entry.ensures.value
      ∙ ap (λ body. function entry body) (c.as_str.ensures.value ∙ c.in_ok-body.ensures.value);
}
