use Rattle.std.proofs.Common.{◌≡◌, ◌∙◌, ◌<◌, ℕ, List, ap, arith, false, length, refl, rules, slice_index, subst, sym, true}
use Rattle.std.proofs.lemmas.List.{get_or_read}
use Rattle.wy_search_spec.specs.Classes.{with_all_congruent, with_congruent}
use Rattle.wy_term.specs.Nodes.{tree_at}
use Rattle.wy_cong.specs.Seen.{terms_of}
use Rattle.wy_cong.specs.Signatures.{AreGrouped}
use Rattle.wy_cong.proofs.ClosingLemmas.{all_next}
use Rattle.wy_cong.proofs.SignatureLemmas.{round_stays}
use Rattle.wy_cong.proofs.closing.with_all_congruent.Goals as goal
use Rattle.wy_cong.proofs.closing.with_all_congruent.Goals.{then-not-branch+in_ok-labels+in_ok-groups, else-not-branch}

pub returns-then-not-groups : goal.returns-then-not-groups
returns-then-not-groups c =
    let un : c.loop-i.groups.parted ≡ false = search rules in
    sym (round_stays c.args.terms.now (terms_of (tree_at c.args.terms.now) c.args.present.now) c.loop-i.labels.items c.args.present.now.numbers.items c.loop-i.groups c.loop-i.i c.loop-i.invariant.groups refl un) ∙ c.loop-i.invariant.left

pub loop-i-preserved : goal.loop-i-preserved
loop-i-preserved c =
    let at = tree_at c.args.terms.now in
    let ts = terms_of at c.args.present.now in
    let ks = c.args.present.now.numbers.items in
    let old = c.loop-i.labels.items in
    let total = with_all_congruent ts c.args.labels.items ts in
    let lt : c.loop-i.i < length ks = omega arith in
    record {
      left = elim c.if-not-branch.branch [
        | then-not-branch+in_ok-labels+in_ok-groups w ↦
            let is : w.index.result.now ≡ slice_index ks c.loop-i.i = get_or_read ks c.loop-i.i w.index.result.now lt w.index.ensures 0 in
            rw w.labels-is (all_next ts at ks c.loop-i.i old w.in_ok-labels.labels.items total lt (w.in_ok-labels.ensures ∙ ap (λ (k : ℕ). with_congruent ts old (at k) ts) is) c.loop-i.invariant.left)
        | else-not-branch w ↦
            let up : c.in_ok-is_settled.field-0 ≡ true = search rules in
            let stays : with_congruent ts old (at (slice_index ks c.loop-i.i)) ts ≡ old = subst (λ (ls : List ℕ). with_congruent ts ls (at (slice_index ks c.loop-i.i)) ts ≡ ls) c.deref.ensures.value (c.in_ok-is_settled.ensures up) in
            rw w.labels-is (all_next ts at ks c.loop-i.i old old total lt (sym stays) c.loop-i.invariant.left)
      ];
      groups = elim c.if-not-branch.branch [
        | then-not-branch+in_ok-labels+in_ok-groups w ↦ rw (w.labels-is, w.groups-is) (subst (λ (ls : List ℕ). AreGrouped c.args.terms.now ts ls ks w.in_ok-groups.groups) w.deref-then-not-branch.ensures.value w.in_ok-groups.ensures)
        | else-not-branch w ↦ rw (w.labels-is, w.groups-is) c.loop-i.invariant.groups
      ];
    }
