use Rattle.std.proofs.Common.{◌≡◌, ◌∷◌, length, refl, rules, take}
use Rattle.wy_check_nodes.proofs.fronts_lemmas.FrontLemmas.{less_front}
use Rattle.wy_check_nodes.proofs.fronts.front.without_last.Goals as goal

pub returns-in-Some-clause-front : goal.returns-in-Some-clause-front
returns-in-Some-clause-front c =
    let ss = c.pop_front.new.self.items in
    let was : c.args.front.now.sizes.items ≡ c.in-Some.size ∷ ss = search rules in
    let hyps : c.truncate.new.self.items ≡ take (length ss) c.args.front.now.hyps.items = search rules in
    less_front c.args.terms.now c.args.front.now (record { branch = c.back_to.new.branch; hyps = c.truncate.new.self; sizes = c.pop_front.new.self }) c.in-Some.size ss c.requires.front was refl hyps c.back_to.ensures.literals c.back_to.ensures.pending (c.back_to.ensures.branch c.args.terms.now c.requires.front.branch)
