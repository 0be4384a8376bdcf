use Rattle.std.proofs.Common.{◌≡◌, ◌∙◌, true, sym, arith}
use Rattle.std.specs.Prelude.{nat_eq}
use Rattle.std.specs.List.{list_any}
use Rattle.wy_prove.proofs.PlanLemmas.{all_more}
use Rattle.wy_prove.proofs.plans.are_among.Goals as goal

pub loop-k-preserved : goal.loop-k-preserved
loop-k-preserved c =
    all_more (λ v. list_any (λ x. nat_eq x v) c.args.known.now ≡ true) c.args.all.now c.loop-k.k-index c.loop-k-test.true (sym c.contains.ensures.value ∙ c.if-not-contains.false) c.loop-k.invariant

pub returns : goal.returns
returns c = λ yes i d lt. c.loop-k.invariant i d (omega (arith, lt))
