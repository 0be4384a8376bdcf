use Rattle.std.proofs.Common.{◌≡◌, ◌++◌, ◌∷◌, [], ℕ, List, length, subst, rules}
use Rattle.wy_vc.specs.Standing.{AreJoined}
use Rattle.wy_vc.proofs.StandingLemmas.{stands_more}
use Rattle.wy_vc.proofs.standing.stand.Goals as goal

pub returns-clause-stands : goal.returns-clause-stands
returns-clause-stands c =
    let hyps : c.push-2.new.self.items ≡ c.args.standing.now.hyps.items ++ c.args.hyp ∷ [] = search rules in
    let counts : c.push.new.self.items ≡ c.args.standing.now.counts.items ++ length c.args.standing.now.types.items ∷ [] = search rules in
    stands_more c.args.terms.now c.args.standing.now (record { hyps = c.push-2.new.self; types = c.put_all_new.new.types; counts = c.push.new.self }) c.in_ok-own.own.items c.args.hyp
    (subst (λ (l : List ℕ). AreJoined c.args.standing.now.types.items l c.put_all_new.new.types.items) c.as_slice.ensures.value c.in_ok-put_all_new.ensures.value) c.in_ok-own.ensures.value hyps counts c.requires.stands
