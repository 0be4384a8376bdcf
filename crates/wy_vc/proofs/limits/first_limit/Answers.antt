use Rattle.std.proofs.Common.{◌≡◌, ℕ, List, length, nat_lt, take, refl, sym, ◌∙◌, ap, rules}
use Rattle.wy_vc_spec.specs.Limits as limits
use Rattle.wy_vc.proofs.SeenLemmas.{HasCounted, cond_at, passing_begin, passing_end, passing_large, passing_many, passing_turn}
use Rattle.wy_vc.proofs.limits.first_limit.Goals as goal

pub loop-index-init : goal.loop-index-init
loop-index-init c = passing_begin c.args.terms.now c.nothing_seen-seen.result c.nothing_gathered-gathered.result _ c.args.conds.now refl (c.nothing_seen-seen.ensures.value c.args.terms.now) (c.nothing_gathered-gathered.ensures.gathered c.args.terms.now)

pub returns-then-many : goal.returns-then-many
returns-then-many c = record {
  value = passing_many c.args.terms.now c.loop-index.seen c.loop-index.gathered c.loop-index.last.now c.args.conds.now c.loop-index.index c.index-conds-index.result _ c.loop-index-test.true c.index-conds-index.is (sym c.are_too_many-many.ensures.value ∙ c.if-many.true) c.loop-index.invariant;
}

pub count-requires : goal.count-requires
count-requires c = record { within = cond_at c.args.terms.now c.args.conds.now c.loop-index.index c.index-conds-index.result c.loop-index-test.true c.index-conds-index.is c.requires.within }

pub returns-then-over : goal.returns-then-over
returns-then-over c =
    let same : take c.shared_front-front.result c.loop-index.last.now ≡ take c.shared_front-front.result c.index-conds-index.result.hyps.items = c.shared_front-front.ensures.same ∙ ap (λ (l : List ℕ). take c.shared_front-front.result l) c.as_slice-hyps.ensures.value in
    let all : c.len-one.result ≡ length c.in_ok-kept.kept.all.items = search rules in
    let k : HasCounted c.args.terms.now c.loop-index.seen c.count.new.seen c.loop-index.gathered c.in_ok-kept.kept c.index-conds-index.result c.loop-index.last.now c.len-one.result c.how_many-all.result c.is_over-over.result = record {
      holds = λ ts held. c.in_ok-kept.ensures.held c.loop-index.last.now ts same held;
      sees = λ ts held counted. c.in_ok-kept.ensures.seen c.loop-index.last.now ts same held counted;
      one_over = λ ts held. ap (λ (n : ℕ). nat_lt limits.most_terms n) all ∙ c.in_ok-kept.ensures.over c.loop-index.last.now ts same held;
      total_is = c.how_many-all.ensures.value;
      over_is = c.is_over-over.ensures.value;
    } in
    record {
      value = ap (λ (n : ℕ). limits.TooLarge n) c.number_at.ensures.value
          ∙ passing_large c.args.terms.now c.loop-index.seen c.count.new.seen c.loop-index.gathered c.in_ok-kept.kept c.args.conds.now c.loop-index.index c.index-conds-index.result c.loop-index.last.now c.len-one.result c.how_many-all.result c.is_over-over.result _ c.loop-index-test.true c.index-conds-index.is
          (sym c.are_too_many-many.ensures.value ∙ c.if-many.false) k c.if-over.true c.loop-index.invariant;
    }

pub loop-index-preserved : goal.loop-index-preserved
loop-index-preserved c =
    let same : take c.shared_front-front.result c.loop-index.last.now ≡ take c.shared_front-front.result c.index-conds-index.result.hyps.items = c.shared_front-front.ensures.same ∙ ap (λ (l : List ℕ). take c.shared_front-front.result l) c.as_slice-hyps.ensures.value in
    let all : c.len-one.result ≡ length c.in_ok-kept.kept.all.items = search rules in
    let k : HasCounted c.args.terms.now c.loop-index.seen c.count.new.seen c.loop-index.gathered c.in_ok-kept.kept c.index-conds-index.result c.loop-index.last.now c.len-one.result c.how_many-all.result c.is_over-over.result = record {
      holds = λ ts held. c.in_ok-kept.ensures.held c.loop-index.last.now ts same held;
      sees = λ ts held counted. c.in_ok-kept.ensures.seen c.loop-index.last.now ts same held counted;
      one_over = λ ts held. ap (λ (n : ℕ). nat_lt limits.most_terms n) all ∙ c.in_ok-kept.ensures.over c.loop-index.last.now ts same held;
      total_is = c.how_many-all.ensures.value;
      over_is = c.is_over-over.ensures.value;
    } in
    passing_turn c.args.terms.now c.loop-index.seen c.count.new.seen c.loop-index.gathered c.in_ok-kept.kept c.args.conds.now c.loop-index.index c.index-conds-index.result c.loop-index.last.now c.as_slice-hyps.result.now c.len-one.result c.how_many-all.result c.is_over-over.result _ c.loop-index-test.true c.index-conds-index.is
    (sym c.are_too_many-many.ensures.value ∙ c.if-many.false) k c.if-over.false c.as_slice-hyps.ensures.value c.loop-index.invariant

pub returns : goal.returns
returns c = record { value = passing_end c.args.terms.now c.loop-index.seen c.loop-index.gathered c.loop-index.last.now c.args.conds.now c.loop-index.index _ c.loop-index-test.false c.loop-index.invariant }
