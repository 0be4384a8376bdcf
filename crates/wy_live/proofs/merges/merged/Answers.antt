use Rattle.std.proofs.Common.{List, sym, subst}
use Rattle.wy_live.specs.declared.words.Word.{Word}
use Rattle.wy_live.proofs.MergeLemmas.{Merging, merging_more}
use Rattle.wy_live.proofs.merges.merged.Goals as goal

pub loop-i-preserved : goal.loop-i-preserved
loop-i-preserved c =
    let one = c.args.one.now in
    let other = c.args.other.now in
    let so = c.loop-i.invariant in
    let f = c.next_word-front.result in
    let is = c.next_word-front.ensures.value in
    let more = merging_more one other c.loop-i.made.items c.loop-i.i c.loop-i.j f (record { order = so.order; before_one = so.before_one; before_other = so.before_other; value = so.value }) is in
    let now : Merging one other c.push.new.self.items f.one f.other = subst (λ (l : List Word). Merging one other l f.one f.other) (sym c.in_ok-push.ensures.items) more in
    record { one_within = is.one_within; other_within = is.other_within; order = now.order; before_one = now.before_one; before_other = now.before_other; value = now.value }
