use Rattle.std.proofs.Common.{◌≡◌, ◌≢◌, ◌<◌, ◌∙◌, ◌||◌, ◌==◌, ◌/◌, ℕ, List, length, ap, sym, subst, refl, arith}
use Rattle.std.proofs.lemmas.List.{get_or_default}
use Rattle.wy_live.specs.declared.words.Word.{Word}
use Rattle.wy_live.specs.Words.{no_word, place_at, in_words, BeginsAt}
use Rattle.wy_live.proofs.ChangeLemmas.{insert_changed, put_value}
use Rattle.wy_live.proofs.words.put.Goals as goal
use Rattle.wy_live.proofs.words.put.Goals.{else-at-len-via-then-at-len+else-index-place, else-at-len-via-else-at-len}

pub returns-clause-value : goal.returns-clause-value
returns-clause-value c =
    let ws = c.args.words.now.items in
    let v = c.args.variable in
    let at = c.begin-at.result in
    let w : Word = record { place = v / 64; bits = c.with_bit-bits.result } in
    let begins : BeginsAt ws (v / 64) at = subst (λ (l : List Word). BeginsAt l (v / 64) at) c.as_slice.ensures.value c.begin-at.ensures.value in
    let other : at < length ws → place_at ws at ≢ v / 64 = elim c.else-at-len.branch [
      | else-at-len-via-then-at-len+else-index-place b ↦ λ r e. b.if-index-place.false (ap (λ (w : Word). w.place) (b.index.ensures ∙ get_or_default ws at b.index.result.now no_word r) ∙ e)
      | else-at-len-via-else-at-len b ↦ λ h. let g = b.if-at-len.false in absurd (omega (arith, h, g))
    ] in
    subst (λ (l : List Word). (x : ℕ) → in_words l x ≡ (x == v || in_words ws x)) (sym c.in_ok-insert.ensures.items)
    (put_value ws _ v (v / 64) c.bits_of.result c.with_bit-bits.result (insert_changed ws at w c.requires.order begins other) refl
    (λ x is. ap (λ l. in_words l x) (sym c.as_slice-2.ensures.value) ∙ c.bits_of.ensures.value x is) c.with_bit-bits.ensures.value)
