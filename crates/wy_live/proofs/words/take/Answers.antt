use Rattle.std.proofs.Common.{◌≡◌, ◌≢◌, ◌<◌, ◌∙◌, ◌&&◌, not, ◌==◌, ◌/◌, ◌%◌, List, length, ap, sym, subst, refl, arith}
use Rattle.std.proofs.lemmas.List.{get_or_default}
use Rattle.wy_live.specs.declared.words.Word.{Word}
use Rattle.wy_live.specs.Words.{is_set, no_word, place_at, bits_at, BeginsAt}
use Rattle.wy_live.proofs.BitLemmas.{none_set}
use Rattle.wy_live.proofs.WordLemmas.{begun_there, begun_elsewhere}
use Rattle.wy_live.proofs.ChangeLemmas.{take_value, take_none}
use Rattle.wy_live.proofs.words.take.Goals as goal
use Rattle.wy_live.proofs.words.take.Goals.{else-at-len-via-then-at-len+else-index-place, else-at-len-via-else-at-len}

pub returns-then-index-place-clause-value : goal.returns-then-index-place-clause-value
returns-then-index-place-clause-value c =
    let ws = c.args.words.now.items in
    let v = c.args.variable in
    let at = c.begin-at.result in
    let within : at < length ws = (let h = c.if-at-len.true in omega (arith, h)) in
    let bits_is : c.index-then-index-place.result.now.bits ≡ bits_at ws at = ap (λ (w : Word). w.bits) (c.index-then-index-place.ensures ∙ get_or_default ws at c.index-then-index-place.result.now no_word within) in
    let place_is : place_at ws at ≡ v / 64 = sym (ap (λ (w : Word). w.place) (c.index.ensures ∙ get_or_default ws at c.index.result.now no_word within)) ∙ c.if-index-place.true in
    take_value ws c.rewrite.new.words.items v (place_at ws at) (bits_at ws at) c.without_bit-bits.result c.rewrite.ensures.value place_is
    (λ x is. begun_there ws at x (place_at ws at) c.requires.order within refl is)
    (λ k h. c.without_bit-bits.ensures.value k h ∙ ap (λ z. not (k == v % 64) && is_set z k) bits_is)

pub returns-else-at-len-clause-value : goal.returns-else-at-len-clause-value
returns-else-at-len-clause-value c =
    let ws = c.args.words.now.items in
    let v = c.args.variable in
    let at = c.begin-at.result in
    let begins : BeginsAt ws (v / 64) at = subst (λ (l : List Word). BeginsAt l (v / 64) at) c.as_slice.ensures.value c.begin-at.ensures.value in
    let other : at < length ws → place_at ws at ≢ v / 64 = elim c.else-at-len.branch [
      | else-at-len-via-then-at-len+else-index-place b ↦ λ r e. b.if-index-place.false (ap (λ (w : Word). w.place) (b.index.ensures ∙ get_or_default ws at b.index.result.now no_word r) ∙ e)
      | else-at-len-via-else-at-len b ↦ λ h. let g = b.if-at-len.false in absurd (omega (arith, h, g))
    ] in
    take_none ws v (begun_elsewhere ws at v (v / 64) c.requires.order begins other refl ∙ none_set (v % 64))
