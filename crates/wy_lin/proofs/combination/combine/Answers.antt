use Rattle.std.proofs.Common.{map}
use Rattle.wy_lin.specs.Combination.{combined}
use Rattle.wy_lin.specs.Worth.{IsTotal}
use Rattle.wy_lin.specs.Seen.{linear_form}
use Rattle.wy_lin.proofs.WorkLemmas.{plain_answer}
use Rattle.wy_lin.proofs.WorthLemmas.{worth-combined}
use Rattle.wy_lin.proofs.combination.combine.Goals as goal

pub returns-clause-exact : goal.returns-clause-exact
returns-clause-exact c =
    let forms = map linear_form c.args.forms.now in
    plain_answer c.sum_of.result c.answered.result (combined forms c.args.multipliers.now) (λ f. IsTotal f forms c.args.multipliers.now) c.sum_of.ensures.gives c.answered.ensures.value (λ h e values. worth-combined values forms c.args.multipliers.now h e)
