use Rattle.std.proofs.Common.{◌≡◌, ◌∙◌, ◌-◌, ◌+◌, ◌++◌, ℕ, List, length, map, refl, rules, sym, ap, subst, arith}
use Rattle.std.proofs.lemmas.List.{reverse-reverse}
use Rattle.std.specs.Prelude.{reverse}
use Rattle.wy_batch.specs.Seen.{NameTerms, known}
use Rattle.wy_batch.specs.declared.verdict.Verdict.{Verdict}
use Rattle.wy_top.specs.Taken.{beside, known_kept, pairs}
use Rattle.wy_top.proofs.OthersLemmas.{beside_all, beside_kept, beside_none, beside_some, names_more, names_none, names_popped, names_turned}
use Rattle.wy_top.proofs.others.beside.Goals as goal

pub loop-i-init : goal.loop-i-init
loop-i-init c =
    let certs = pairs c.args.kept.now in
    let turned = c.reverse.new.self.items in
    let whole : c.args.count - 0 ≡ c.args.count = omega arith in
    record {
      value =
          ap (λ (list : List Verdict). map known list ++ beside known_kept 1 certs (c.args.count - 0) (map known (reverse turned))) c.new-list.ensures.items
          ∙ ap (λ (n : ℕ). beside known_kept 1 certs n (map known (reverse turned))) whole
          ∙ ap (λ (vs : List Verdict). beside known_kept 1 certs c.args.count (map known vs)) (ap reverse c.reverse.ensures.items ∙ reverse-reverse c.args.verdicts.items);
      named = λ h. (subst NameTerms (sym c.new-list.ensures.items) tt, names_turned c.args.verdicts.items turned c.reverse.ensures.items h);
    }

pub loop-i-preserved-in-Some : goal.loop-i-preserved-in-Some
loop-i-preserved-in-Some c =
    let next = c.in-Some.ensures.value in
    let pushed = c.in_ok-push.ensures.items in
    let list = c.loop-i.list.items in
    record {
      value = beside_kept c.args.count c.loop-i.i c.loop-i-test.true (pairs c.loop-i.left.now) list c.push.new.self.items _ (map known (reverse c.loop-i.waiting.items)) (pairs c.in-Some.more.now) _ next.0 next.1 refl pushed c.loop-i.invariant.value;
      named = λ h. let n = c.loop-i.invariant.named h in (names_more list c.push.new.self.items _ n.0 tt pushed, n.1);
    }

pub loop-i-preserved-in_default-pop : goal.loop-i-preserved-in_default-pop
loop-i-preserved-in_default-pop c =
    let none : length c.loop-i.waiting.items ≡ 0 = search rules in
    record {
      value = beside_none c.args.count c.loop-i.i c.loop-i-test.true (pairs c.loop-i.left.now) c.loop-i.list.items c.loop-i.waiting.items c.pop.new.self.items _ _ c.in_default.ensures.value none c.pop.ensures.rest c.loop-i.invariant.value;
      named = λ h. let n = c.loop-i.invariant.named h in (n.0, names_none c.loop-i.waiting.items c.pop.new.self.items _ none c.pop.ensures.rest);
    }

pub loop-i-preserved : goal.loop-i-preserved
loop-i-preserved c =
    let pushed = c.in_ok-push-2.ensures.items in
    let popped = c.in-Some-pop.ensures.items in
    let list = c.loop-i.list.items in
    record {
      value = beside_some c.args.count c.loop-i.i c.loop-i-test.true (pairs c.loop-i.left.now) list c.push-in-loop-i.new.self.items c.loop-i.waiting.items c.pop.new.self.items c.in-Some-pop.verdict _ c.in_default.ensures.value popped pushed c.loop-i.invariant.value;
      named = λ h. let n = c.loop-i.invariant.named h in let both = names_popped c.loop-i.waiting.items c.pop.new.self.items c.in-Some-pop.verdict popped n.1 in (names_more list c.push-in-loop-i.new.self.items c.in-Some-pop.verdict n.0 both.1 pushed, both.0);
    }
