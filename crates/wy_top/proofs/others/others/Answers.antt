use Rattle.std.proofs.Common.{◌≡◌, ◌<◌, ◌≤◌, ◌+◌, ◌++◌, ◌∷◌, [], All, length, map, sym, ap, subst, arith}
use Rattle.std.proofs.lemmas.List.{length-append}
use Rattle.std.proofs.lemmas.List.Elements.{All-push}
use Rattle.wy_batch.proofs.JudgedLemmas.{within_at}
use Rattle.wy_batch.specs.wy_check.Within.{IsWithin}
use Rattle.wy_term.specs.Condition.{condition_of}
use Rattle.wy_term.specs.declared.cond.Cond.{Cond}
use Rattle.wy_top.specs.Taken.{others_of, pairs}
use Rattle.wy_top.proofs.OthersLemmas.{others_all, others_kept, others_left}
use Rattle.wy_top.proofs.others.others.Goals as goal

pub loop-i-preserved-in-Some : goal.loop-i-preserved-in-Some
loop-i-preserved-in-Some c =
    let i = c.loop-i.i in
    let conds = c.args.conds.now in
    let next = c.in-Some.ensures.value in
    record {
      value = λ nodes. others_kept (condition_of nodes) conds i c.loop-i-test.true (pairs c.loop-i.left.now) (map (condition_of nodes) c.loop-i.list.items)
          (others_of 1 (pairs c.args.kept.now) (map (condition_of nodes) conds)) (pairs c.in-Some.more.now) next.0 next.1 (c.loop-i.invariant.value nodes);
      within = c.loop-i.invariant.within;
      count = omega (arith, c.loop-i.invariant.count);
    }

pub loop-i-preserved : goal.loop-i-preserved
loop-i-preserved c =
    let i = c.loop-i.i in
    let conds = c.args.conds.now in
    let cond = c.index-conds-i.result in
    let copy = c.in_ok-copied.field-0 in
    let pushed = c.in_ok-push.ensures.items in
    let lt = c.loop-i-test.true in
    record {
      value = λ nodes. others_left (condition_of nodes) conds i cond lt c.index-conds-i.is (pairs c.loop-i.left.now) c.loop-i.list.items c.push.new.self.items copy
          (others_of 1 (pairs c.args.kept.now) (map (condition_of nodes) conds)) c.in_default.ensures.value (c.in_ok-copied.ensures.value nodes) pushed (c.loop-i.invariant.value nodes);
      within = λ n all. subst (All (IsWithin n)) (sym pushed) (All-push (IsWithin n) c.loop-i.list.items copy (c.loop-i.invariant.within n all) (c.in_ok-copied.ensures.within n (within_at n conds i cond all lt c.index-conds-i.is)));
      count = omega (arith, c.loop-i.invariant.count, ap (λ (list : _). length list) pushed, length-append c.loop-i.list.items (copy ∷ []));
    }
