use Rattle.std.proofs.Common.{◌||◌, ◌∙◌, ap}
use Rattle.wy_live.specs.Sets.{joined}
use Rattle.wy_live.specs.Words.{in_words, shown}
use Rattle.wy_live.proofs.KeptLemmas.{shown_joined}
use Rattle.wy_live.proofs.sets.joined.Goals as goal

pub returns : goal.returns
returns c =
    let a = c.first.inside.words.items in
    let b = c.second.inside.words.items in
    let words = c.in_ok-words.words.items in
    record {
      value = ap (λ k. shown words k) c.longer.ensures.value
          ∙ (shown_joined a b c.first.inside.count c.second.inside.count c.first.invariant c.second.invariant words
          (λ y. c.in_ok-words.ensures.value y ∙ (ap (λ l. in_words l y || in_words c.as_slice-2.result.now y) c.as_slice.ensures.value ∙ ap (λ l. in_words a y || in_words l y) c.as_slice-2.ensures.value))
          ∙ (ap (λ s. joined s (shown b c.second.inside.count)) c.first.view_is ∙ ap (λ s. joined c.args.first.now s) c.second.view_is));
    }
