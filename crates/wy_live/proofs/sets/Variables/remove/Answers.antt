use Rattle.std.proofs.Common.{◌∙◌, ap}
use Rattle.wy_live.specs.Sets.{without}
use Rattle.wy_live.proofs.KeptLemmas.{shown_without}
use Rattle.wy_live.proofs.sets.Variables.remove.Goals as goal

pub returns : goal.returns
returns c = record {
  value = shown_without c.self.inside.words.items c.self.inside.count c.self.invariant c.take.new.words.items c.args.variable c.take.ensures.value
      ∙ ap (λ s. without s c.args.variable) c.self.view_is;
}
