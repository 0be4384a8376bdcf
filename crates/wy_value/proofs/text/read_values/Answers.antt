use Rattle.std.proofs.Common.{◌∙◌, sym, subst}
use Rattle.wy_value.specs.ArgumentText.{MeetsAt}
use Rattle.wy_value.proofs.text.read_values.Goals as goal

pub returns-in-Ok-clause-exact : goal.returns-in-Ok-clause-exact
returns-in-Ok-clause-exact c = λ x at m. c.values.ensures.exact x at (subst (λ i. MeetsAt i x at) (sym (c.as_slice.ensures ∙ c.in-Ok.ensures.value)) m)
