use Rattle.std.proofs.Common.{◌≡◌, ◌∙◌, drop, length, rules}
use Rattle.wy_vc.proofs.SeenLemmas.{HasGathered, bounded_held, bounded_over, fresh_seen, fresh_under, roots_below}
use Rattle.wy_vc.proofs.limits.count.Goals as goal

pub gather-requires : goal.gather-requires
gather-requires c = record { within = roots_below c.args.terms.now c.args.cond.now c.args.front c.as_slice.result.now c.requires.within (c.as_slice.ensures.value ∙ c.in_ok-roots.ensures.value) }

pub returns : goal.returns
returns c =
    let k : HasGathered c.args.terms.now c.args.cond.now c.args.gathered c.gather.new.gathered = record {
      front = c.args.front;
      roots = c.as_slice.result.now;
      is = c.as_slice.ensures.value ∙ c.in_ok-roots.ensures.value;
      one = c.one_number_for_each_term.ensures.one;
      grown = c.in_ok-gather.ensures.grows;
      more = c.in_ok-gather.ensures.gathered;
    } in
    let count : c.len-before.result ≡ length c.args.gathered.all.items = search rules in
    let fresh : c.behind-fresh.result.now ≡ drop (length c.args.gathered.all.items) c.gather.new.gathered.all.items = search rules in
    record {
      held = λ last ts same held. bounded_held c.args.terms.now c.args.cond.now c.args.gathered c.gather.new.gathered c.in_ok-kept.kept last ts k same held c.in_ok-kept.ensures.value;
      seen = λ last ts same held counted.
          fresh_seen c.args.terms.now c.see_all.new.seen c.args.cond.now c.args.gathered c.gather.new.gathered last ts k same held c.behind-fresh.result.now fresh
          (c.in_ok-see_all.ensures.counted (fresh_under c.args.terms.now c.args.cond.now c.args.gathered c.gather.new.gathered last ts k held c.behind-fresh.result.now fresh) ts counted);
      over = λ last ts same held. bounded_over c.args.terms.now c.args.cond.now c.args.gathered c.gather.new.gathered c.in_ok-kept.kept last ts k same held c.in_ok-kept.ensures.value;
    }
