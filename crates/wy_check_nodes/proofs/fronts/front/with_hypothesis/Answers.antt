use Rattle.std.proofs.Common.{◌≡◌, ◌∷◌, rules}
use Rattle.wy_check_nodes.proofs.fronts_lemmas.FrontLemmas.{more_front}
use Rattle.wy_check_nodes.proofs.fronts.front.with_hypothesis.Goals as goal

pub returns-clause-front : goal.returns-clause-front
returns-clause-front c =
    let sizes : c.push_front.new.self.items ≡ c.size_of-size.result ∷ c.args.front.now.sizes.items = search rules in
    more_front c.args.terms.now c.args.front.now (record { branch = c.add.new.branch; hyps = c.push.new.self; sizes = c.push_front.new.self }) c.size_of-size.result c.args.h c.requires.front c.requires.hypothesis sizes c.in_ok-push.ensures.items c.size_of-size.ensures.literals c.size_of-size.ensures.pending c.in_ok-add.ensures.grows c.in_ok-add.ensures.value c.in_ok-add.ensures.branch
