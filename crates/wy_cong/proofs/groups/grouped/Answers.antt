use Rattle.std.proofs.Common.{◌≡◌, ℕ, arith, nat_eq, slice_index, subst}
use Rattle.std.proofs.lemmas.List.{get_or_read}
use Rattle.std.specs.HashMap.{get}
use Rattle.wy_term.specs.Nodes.{tree_at}
use Rattle.wy_cong.specs.Seen.{terms_of}
use Rattle.wy_cong.specs.Signatures.{IsGrouped}
use Rattle.wy_cong.proofs.SignatureLemmas.{each_next}
use Rattle.wy_cong.proofs.groups.grouped.Goals as goal

pub loop-i-preserved : goal.loop-i-preserved
loop-i-preserved c =
    let ts = terms_of (tree_at c.args.terms.now) c.args.present.now in
    let ks = c.args.present.now.numbers.items in
    let is : c.index.result.now ≡ slice_index ks c.loop-i.i = get_or_read ks c.loop-i.i c.index.result.now (omega arith) c.index.ensures 0 in
    let here : IsGrouped c.args.terms.now ts c.args.labels.now (get nat_eq c.note_term.new.groups.found) (slice_index ks c.loop-i.i) = subst (λ (k : ℕ). IsGrouped c.args.terms.now ts c.args.labels.now (get nat_eq c.note_term.new.groups.found) k) is c.in_ok-note_term.ensures.here in
    record {
      each = each_next c.args.terms.now ts c.args.labels.now ks (get nat_eq c.loop-i.groups.found) (get nat_eq c.note_term.new.groups.found) c.loop-i.i c.in_ok-note_term.ensures.kept c.loop-i.invariant.each here;
      told = c.in_ok-note_term.ensures.told c.loop-i.invariant.told;
    }

pub returns : goal.returns
returns c = record {
  one = λ s t ls lt e. (c.one_number_for_each_term.ensures.one s t ls lt).1 e;
  each = λ j l. c.loop-i.invariant.each j (omega (arith, l));
  told = c.loop-i.invariant.told;
}
