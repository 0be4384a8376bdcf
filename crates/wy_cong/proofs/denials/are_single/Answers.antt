use Rattle.std.proofs.Common.{◌≡◌, ◌<◌, ℕ, arith, false, length, nat_eq, refl, rules, slice_index, subst}
use Rattle.std.proofs.lemmas.List.{get_or_read}
use Rattle.std.specs.HashMap.{get}
use Rattle.wy_term.specs.Nodes.{tree_at}
use Rattle.wy_cong.specs.Seen.{terms_of}
use Rattle.wy_cong.specs.Signatures.{IsNoted}
use Rattle.wy_cong.proofs.ConstantLemmas.{none_apart_in, noted_next}
use Rattle.wy_cong.proofs.SignatureLemmas.{OneNumber}
use Rattle.wy_cong.proofs.denials.are_single.Goals as goal

pub loop-i-preserved : goal.loop-i-preserved
loop-i-preserved c =
    let ts = terms_of (tree_at c.args.terms.now) c.args.present.now in
    let ks = c.args.present.now.numbers.items in
    let is : c.index.result.now ≡ slice_index ks c.loop-i.i = get_or_read ks c.loop-i.i c.index.result.now (omega arith) c.index.ensures 0 in
    let here : IsNoted c.args.terms.now ts c.args.labels.now (get nat_eq c.note_constant.new.groups.found) (slice_index ks c.loop-i.i) = subst (λ (k : ℕ). IsNoted c.args.terms.now ts c.args.labels.now (get nat_eq c.note_constant.new.groups.found) k) is c.in_ok-note_constant.ensures.here in
    record {
      each = noted_next c.args.terms.now ts c.args.labels.now ks (get nat_eq c.loop-i.groups.found) (get nat_eq c.note_constant.new.groups.found) c.loop-i.i c.in_ok-note_constant.ensures.kept c.loop-i.invariant.each here;
      told = c.in_ok-note_constant.ensures.told c.loop-i.invariant.told;
    }

pub returns : goal.returns
returns c =
    let nodes = c.args.terms.now in
    let ks = c.args.present.now.numbers.items in
    let one : OneNumber (tree_at nodes) (length nodes) = λ s t ls lt e. (c.one_number_for_each_term.ensures.one s t ls lt).1 e in
    let each : (j : ℕ) → j < length ks → IsNoted nodes (terms_of (tree_at nodes) c.args.present.now) c.args.labels.now (get nat_eq c.loop-i.groups.found) (slice_index ks j) = λ j l. c.loop-i.invariant.each j (omega (arith, l)) in
    λ e.
    let un : c.loop-i.groups.parted ≡ false = search rules in
    none_apart_in nodes one (terms_of (tree_at nodes) c.args.present.now) c.args.labels.now (get nat_eq c.loop-i.groups.found) (c.loop-i.invariant.told un) ks ks refl each each
