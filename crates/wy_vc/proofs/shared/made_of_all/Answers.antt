use Rattle.std.proofs.Common.{[], inl}
use Rattle.wy_vc.proofs.SharedLemmas.{listed_count, listed_value, whole}
use Rattle.wy_vc.proofs.shared.made_of_all.Goals as goal

pub returns : goal.returns
returns c =
    let listed = c.in_ok-gather.ensures.gathered [] (c.nothing_gathered-gathered.ensures.gathered c.args.terms.now) in
    record {
      count = listed_count c.args.terms.now c.args.roots.now _ _ c.one_number_for_each_term.ensures.one listed;
      whole = whole c.args.terms.now c.args.roots.now _ _ listed;
      below = λ k h. listed.below k (inl h);
      value = listed_value c.args.terms.now c.args.roots.now _ _ c.one_number_for_each_term.ensures.one listed;
    }
