use Rattle.std.proofs.Common.{◌≡◌, ◌++◌, [], ◌∷◌, true, false, nat_eq, rules}
use Rattle.std.specs.HashSet.{contains}
use Rattle.wy_vc.proofs.SeenLemmas.{seen_again, seen_new}
use Rattle.wy_vc.proofs.limits.see.Goals as goal

pub returns-then-contains : goal.returns-then-contains
returns-then-contains c =
    let is : contains nat_eq c.args.seen.now.noted c.args.term ≡ true = search rules in
    record { counted = λ ts lt counted. seen_again c.args.terms.now c.args.seen.now ts c.args.term is counted }

pub returns : goal.returns
returns c =
    let pushed : c.push.new.self.items ≡ c.args.seen.now.all.items ++ c.args.term ∷ [] = search rules in
    let new : contains nat_eq c.args.seen.now.noted c.args.term ≡ false = search rules in
    record { counted = λ ts lt counted. seen_new c.args.terms.now c.args.seen.now _ ts c.args.term lt new pushed c.in_ok-insert.ensures.updates.0 counted }
