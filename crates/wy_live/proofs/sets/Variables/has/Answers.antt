use Rattle.std.proofs.Common.{◌∙◌, ap, sym}
use Rattle.wy_live.specs.Sets.{has}
use Rattle.wy_live.specs.Words.{in_words}
use Rattle.wy_live.proofs.ShownLemmas.{has_shown}
use Rattle.wy_live.proofs.sets.Variables.has.Goals as goal

pub returns : goal.returns
returns c = record {
  value = c.is_in.ensures.value
      ∙ (ap (λ l. in_words l c.args.variable) c.as_slice.ensures.value
      ∙ (sym (has_shown c.self.inside.words.items c.self.inside.count c.self.invariant.within c.args.variable) ∙ ap (λ s. has s c.args.variable) c.self.view_is));
}
