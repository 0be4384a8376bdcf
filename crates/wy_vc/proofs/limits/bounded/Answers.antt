use Rattle.std.proofs.Common.{◌≤◌, ℕ, List, [], inl, inr, length, refl, subst, ◌∙◌, rules}
use Rattle.wy_vc_spec.specs.Limits.{most_terms}
use Rattle.wy_vc.specs.Gathered.{AreGathered}
use Rattle.wy_vc.proofs.SeenLemmas.{roots_below}
use Rattle.wy_vc.proofs.limits.bounded.Goals as goal

pub returns-then-few : goal.returns-then-few
returns-then-few c =
    let within : length c.args.gathered.all.items ≤ most_terms = search rules in
    record { value = inl (refl, within) }

pub gather-requires : goal.gather-requires
gather-requires c = record { within = roots_below c.args.terms.now c.args.cond.now 0 c.as_slice.result.now c.requires.within (c.as_slice.ensures.value ∙ c.in_ok-roots.ensures.value) }

pub returns : goal.returns
returns c = record {
  value = inr (subst (λ (l : List ℕ). AreGathered c.args.terms.now l c.gather.new.gathered) (c.as_slice.ensures.value ∙ c.in_ok-roots.ensures.value) (c.in_ok-gather.ensures.gathered [] (c.nothing_gathered-own.ensures.gathered c.args.terms.now)));
}
