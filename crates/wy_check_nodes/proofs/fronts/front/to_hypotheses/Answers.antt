use Rattle.std.proofs.Common.{refl}
use Rattle.wy_check_nodes.proofs.fronts_lemmas.FrontLemmas.{front_of_first}
use Rattle.wy_check_nodes.proofs.fronts.front.to_hypotheses.Goals as goal

pub returns : goal.returns
returns c = λ nodes first.
    front_of_first nodes c.args.front.now (record { branch = c.back_to.new.branch; hyps = c.args.front.now.hyps; sizes = c.args.front.now.sizes }) c.args.size first refl refl c.back_to.ensures.literals c.back_to.ensures.pending (c.back_to.ensures.branch nodes first.branch)
