use Rattle.std.proofs.Common.{◌≡◌, ◌∙◌, ◌+◌, ℕ, [], nat_eq, refl, rules, subst, sym}
use Rattle.std.specs.HashMap.{get}
use Rattle.wy_search_bounds.proofs.FirstLemmas.{count_more, firsts_more, no_firsts, none_noted}
use Rattle.wy_search_bounds.proofs.firsts.first_places.Goals as goal
use Rattle.wy_search_bounds.specs.Firsts.{AreNoted}

pub loop-i-init : goal.loop-i-init
loop-i-init c =
    let none : c.new-firsts.result.items ≡ [] = search rules in
    record {
      noted = none_noted c.args.labels.now (get nat_eq c.new-found.result) (λ q. rw c.new-found.ensures.empty refl);
      count = rw none refl;
      firsts = no_firsts c.args.labels.now c.new-firsts.result.items none;
    }

pub note_first-requires-clause-found : goal.note_first-requires-clause-found
note_first-requires-clause-found c = subst (AreNoted c.args.labels.now (get nat_eq c.loop-i.found)) (sym c.in_ok-v.ensures) c.loop-i.invariant.noted

pub loop-i-preserved : goal.loop-i-preserved
loop-i-preserved c = record {
  noted = subst (λ (n : ℕ). AreNoted c.args.labels.now (get nat_eq c.note_first.new.found) (n + 1)) c.in_ok-v.ensures c.in_ok-first.ensures.found;
  count = count_more c.loop-i.firsts.items c.push.new.self.items c.in_ok-first.first c.loop-i.i c.in_ok-push.ensures.items c.loop-i.invariant.count;
  firsts = firsts_more c.args.labels.now c.loop-i.firsts.items c.push.new.self.items c.in_ok-v.v c.in_ok-first.first (c.loop-i.invariant.count ∙ sym c.in_ok-v.ensures) c.in_ok-first.ensures.value c.in_ok-push.ensures.items c.loop-i.invariant.firsts;
}
