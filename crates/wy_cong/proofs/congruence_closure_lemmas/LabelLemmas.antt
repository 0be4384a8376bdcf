-- Joining two classes of nodes that are equal in each congruence keeps classes so, and the least congruence is found where nothing is left to join.
use Rattle.std.proofs.Common.{◌≡◌, ◌<◌, ◌↔◌, ℕ, zero, suc, List, [], ◌∷◌, map, length, Bool, true, false, cond, Some, refl, sym, ap, subst, ◌∙◌, arith}
use Rattle.std.specs.Prelude.{nat_eq, slice_get, IsTrue}
use Rattle.std.proofs.lemmas.Bool.{eqb-true, eq-eqb}
use Rattle.std.proofs.lemmas.List.{get_or-map, length-map}
use Rattle.std.proofs.lemmas.Option.{slice_get_within}
use Rattle.wy_cong.specs.declared.congruence_closure.nodes.Shape.{Shape}
use Rattle.wy_cong.specs.declared.congruence_closure.nodes.Shape.TheVariants.{Apply}
use Rattle.wy_cong.specs.congruence_closure.Congruence.{IsCongruence, Same, label_at, is_same, AreWithin, AreBetween, IsSound}
use Rattle.wy_cong.specs.congruence_closure.Found.{moved, key_of, IsApart, IsClosed, AreJoined, KeepsClasses, join_of, joined_by}

-- ---- a class joins another

pub label-moved : (labels : List ℕ) (from into i : ℕ) → i < length labels → label_at (map (moved from into) labels) i ≡ moved from into (label_at labels i)
label-moved labels from into i lt = get_or-map (moved from into) labels i 0 0 lt

pub moved_from : (from into l : ℕ) → l ≡ from → moved from into l ≡ into
moved_from from into l e = by (nat_eq l from) (eq-eqb l from e)
  where
    by : (b : Bool) → b ≡ true → cond b into l ≡ into
    by true f = refl
    by false f = absurd cc

pub moved_self : (from into : ℕ) → moved from into into ≡ into
moved_self from into = by (nat_eq into from)
  where
    by : (b : Bool) → cond b into into ≡ into
    by true = refl
    by false = refl

module _ (shapes : List Shape) (equations : List (ℕ × ℕ)) (R : ℕ → ℕ → Bool) (is : IsCongruence shapes equations R) (labels : List ℕ) (s t : ℕ) where
  respects_joined :
      s < length labels → t < length labels → R s t ≡ true
      → ((i j : ℕ) → i < length labels → j < length labels → label_at labels i ≡ label_at labels j → R i j ≡ true)
      → (i j : ℕ) → i < length labels → j < length labels
      → moved (label_at labels s) (label_at labels t) (label_at labels i) ≡ moved (label_at labels s) (label_at labels t) (label_at labels j)
      → R i j ≡ true
  respects_joined ls lt given known i j li lj h = by (nat_eq (label_at labels i) (label_at labels s)) (nat_eq (label_at labels j) (label_at labels s)) refl refl h
    where
      by : (b c : Bool) → nat_eq (label_at labels i) (label_at labels s) ≡ b → nat_eq (label_at labels j) (label_at labels s) ≡ c → cond b (label_at labels t) (label_at labels i) ≡ cond c (label_at labels t) (label_at labels j) → R i j ≡ true
      by true true e f g = known i j li lj (eqb-true (label_at labels i) (label_at labels s) e ∙ sym (eqb-true (label_at labels j) (label_at labels s) f))
      by true false e f g =
          is.transitive i s j (known i s li ls (eqb-true (label_at labels i) (label_at labels s) e))
          (is.transitive s t j given (known t j lt lj g))
      by false true e f g =
          is.transitive i t j (known i t li lt g)
          (is.transitive t s j (is.symmetric s t given) (known s j ls lj (sym (eqb-true (label_at labels j) (label_at labels s) f))))
      by false false e f g = known i j li lj g

pub sound_joined : (shapes : List Shape) (equations : List (ℕ × ℕ)) (labels : List ℕ) (s t : ℕ) → s < length labels → t < length labels → Same shapes equations s t → IsSound shapes equations labels → (made : List ℕ) → made ≡ map (moved (label_at labels s) (label_at labels t)) labels → length made ≡ length labels → IsSound shapes equations made
sound_joined shapes equations labels s t ls lt same sound made e long i j li lj h R is =
    let si : i < length labels = omega (arith, long, li) in
    let sj : j < length labels = omega (arith, long, lj) in
    let at_i = ap (λ (m : List ℕ). label_at m i) e ∙ label-moved labels (label_at labels s) (label_at labels t) i si in
    let at_j = ap (λ (m : List ℕ). label_at m j) e ∙ label-moved labels (label_at labels s) (label_at labels t) j sj in
    respects_joined shapes equations R is labels s t ls lt (same R is) (λ k n lk ln g. sound k n lk ln g R is) i j si sj (sym at_i ∙ h ∙ at_j)

pub kept_joined : (labels : List ℕ) (from into : ℕ) (made : List ℕ) → made ≡ map (moved from into) labels → KeepsClasses labels made
kept_joined labels from into made e i j li lj h =
    ap (λ (m : List ℕ). label_at m i) e ∙ label-moved labels from into i li
    ∙ ap (moved from into) h
    ∙ sym (ap (λ (m : List ℕ). label_at m j) e ∙ label-moved labels from into j lj)

pub both_joined : (labels : List ℕ) (s t : ℕ) → s < length labels → t < length labels → (made : List ℕ) → made ≡ map (moved (label_at labels s) (label_at labels t)) labels → label_at made s ≡ label_at made t
both_joined labels s t ls lt made e =
    ap (λ (m : List ℕ). label_at m s) e ∙ label-moved labels (label_at labels s) (label_at labels t) s ls
    ∙ moved_from (label_at labels s) (label_at labels t) (label_at labels s) refl
    ∙ sym (ap (λ (m : List ℕ). label_at m t) e ∙ label-moved labels (label_at labels s) (label_at labels t) t lt ∙ moved_self (label_at labels s) (label_at labels t))

-- ---- the first classes

pub sound_first : (shapes : List Shape) (equations : List (ℕ × ℕ)) (labels : List ℕ) (n : ℕ) → length labels ≡ n → ((i : ℕ) → i < n → label_at labels i ≡ i) → IsSound shapes equations labels
sound_first shapes equations labels n long own i j li lj h R is =
    let si : i < n = omega (arith, long, li) in
    let sj : j < n = omega (arith, long, lj) in
    let e : i ≡ j = sym (own i si) ∙ h ∙ own j sj in
    subst (λ (k : ℕ). R i k ≡ true) e (is.reflexive i)

-- ---- equations

equation_same : (shapes : List Shape) (equations : List (ℕ × ℕ)) (n : ℕ) (e : ℕ × ℕ) → slice_get equations n ≡ Some e → Same shapes equations e.0 e.1
equation_same shapes equations n e at R is = is.has n e at

pub length_joined : (labels : List ℕ) (s t : ℕ) → length (join_of labels s t) ≡ length labels
length_joined labels s t = length-map labels (moved (label_at labels s) (label_at labels t))

pub length_by : (labels : List ℕ) (es : List (ℕ × ℕ)) → length (joined_by labels es) ≡ length labels
length_by labels [] = refl
length_by labels (e ∷ es) = length_by (join_of labels e.0 e.1) es ∙ length_joined labels e.0 e.1

keeps_on : (a b c : List ℕ) → length b ≡ length a → KeepsClasses a b → KeepsClasses b c → KeepsClasses a c
keeps_on a b c long first second i j li lj h = second i j (omega (arith, long, li)) (omega (arith, long, lj)) (first i j li lj h)

keeps_by : (labels : List ℕ) (es : List (ℕ × ℕ)) → KeepsClasses labels (joined_by labels es)
keeps_by labels [] i j li lj h = h
keeps_by labels (e ∷ es) i j li lj h =
    keeps_on labels (join_of labels e.0 e.1) (joined_by (join_of labels e.0 e.1) es) (length_joined labels e.0 e.1)
    (kept_joined labels (label_at labels e.0) (label_at labels e.1) (join_of labels e.0 e.1) refl)
    (keeps_by (join_of labels e.0 e.1) es) i j li lj h

between_next : (n m : ℕ) (e : ℕ × ℕ) (es : List (ℕ × ℕ)) → m ≡ n → AreBetween n (e ∷ es) → AreBetween m es
between_next n m e es is between k d at =
    let h = between (suc k) d at in
    (omega (arith, h.0, is), omega (arith, h.1, is))

pub joined_each : (labels : List ℕ) (es : List (ℕ × ℕ)) → AreBetween (length labels) es → AreJoined (length es) es (joined_by labels es)
joined_each labels [] between k d lt at = absurd (omega (arith, lt))
joined_each labels (e ∷ es) between zero d lt at =
    let is : e ≡ d = cc in
    let h = between 0 e refl in
    let next = join_of labels e.0 e.1 in
    let long = length_joined labels e.0 e.1 in
    let now : label_at next e.0 ≡ label_at next e.1 = both_joined labels e.0 e.1 h.0 h.1 next refl in
    let kept : label_at (joined_by next es) e.0 ≡ label_at (joined_by next es) e.1 = keeps_by next es e.0 e.1 (omega (arith, long, h.0)) (omega (arith, long, h.1)) now in
    subst (λ (x : ℕ × ℕ). label_at (joined_by next es) x.0 ≡ label_at (joined_by next es) x.1) is kept
joined_each labels (e ∷ es) between (suc k) d lt at =
    joined_each (join_of labels e.0 e.1) es (between_next (length labels) (length (join_of labels e.0 e.1)) e es (length_joined labels e.0 e.1) between) k d (omega (arith, lt)) at

pub sound_join : (shapes : List Shape) (equations : List (ℕ × ℕ)) (labels : List ℕ) (s t : ℕ) → s < length labels → t < length labels → Same shapes equations s t → IsSound shapes equations labels → IsSound shapes equations (join_of labels s t)
sound_join shapes equations labels s t ls lt same sound = sound_joined shapes equations labels s t ls lt same sound (join_of labels s t) refl (length_joined labels s t)

-- equations of the list, each at a place from a number on
sound_by : (shapes : List Shape) (equations : List (ℕ × ℕ)) (labels : List ℕ) (es : List (ℕ × ℕ)) → AreBetween (length labels) es → ((k : ℕ) (e : ℕ × ℕ) → slice_get es k ≡ Some e → Same shapes equations e.0 e.1) → IsSound shapes equations labels → IsSound shapes equations (joined_by labels es)
sound_by shapes equations labels [] between same sound = sound
sound_by shapes equations labels (e ∷ es) between same sound =
    let h = between 0 e refl in
    sound_by shapes equations (join_of labels e.0 e.1) es
    (between_next (length labels) (length (join_of labels e.0 e.1)) e es (length_joined labels e.0 e.1) between)
    (λ k d at. same (suc k) d at)
    (sound_join shapes equations labels e.0 e.1 h.0 h.1 (same 0 e refl) sound)

pub sound_each : (shapes : List Shape) (equations : List (ℕ × ℕ)) (labels : List ℕ) → AreBetween (length labels) equations → IsSound shapes equations labels → IsSound shapes equations (joined_by labels equations)
sound_each shapes equations labels between sound = sound_by shapes equations labels equations between (equation_same shapes equations) sound

pub joined_kept : (equations : List (ℕ × ℕ)) (labels : List ℕ) (n s t : ℕ) → AreBetween (length labels) equations → AreJoined n equations labels → AreJoined n equations (join_of labels s t)
joined_kept equations labels n s t between joined k d lt at =
    kept_joined labels (label_at labels s) (label_at labels t) (join_of labels s t) refl d.0 d.1 (between k d at).0 (between k d at).1 (joined k d lt at)

-- ---- applications with the same labels

pub apart_first : (shapes : List Shape) (labels : List ℕ) (p : ℕ × ℕ) → IsApart shapes labels p → (p.0 < length shapes) × (p.1 < length shapes)
apart_first shapes labels p x = (slice_get_within shapes p.0 (Apply x.1.0 x.1.1) x.1.2, slice_get_within shapes p.1 (Apply x.2.0 x.2.1) x.2.2)

pub apart_same : (shapes : List Shape) (equations : List (ℕ × ℕ)) (labels : List ℕ) (p : ℕ × ℕ) → AreWithin shapes → length labels ≡ length shapes → IsSound shapes equations labels → IsApart shapes labels p → Same shapes equations p.0 p.1
apart_same shapes equations labels p within long sound x R is =
    let a = x.1.0 in
    let b = x.1.1 in
    let c = x.2.0 in
    let d = x.2.1 in
    let wi = within p.0 a b x.1.2 in
    let wj = within p.1 c d x.2.2 in
    let same : key_of labels a b ≡ key_of labels c d = x.1.3 ∙ sym x.2.3 in
    let first : label_at labels a ≡ label_at labels c = ap (λ (q : ℕ × ℕ). q.0) same in
    let second : label_at labels b ≡ label_at labels d = ap (λ (q : ℕ × ℕ). q.1) same in
    let la : a < length labels = omega (arith, long, wi.0) in
    let lb : b < length labels = omega (arith, long, wi.1) in
    let lc : c < length labels = omega (arith, long, wj.0) in
    let ld : d < length labels = omega (arith, long, wj.1) in
    is.congruent p.0 p.1 a b c d x.1.2 x.2.2 (sound a c la lc first R is) (sound b d lb ld second R is)

-- joining two such applications
pub apart_sound : (shapes : List Shape) (equations : List (ℕ × ℕ)) (labels : List ℕ) (p : ℕ × ℕ) → AreWithin shapes → length labels ≡ length shapes → IsSound shapes equations labels → IsApart shapes labels p → IsSound shapes equations (join_of labels p.0 p.1)
apart_sound shapes equations labels p within long sound x =
    let h = apart_first shapes labels p x in
    sound_join shapes equations labels p.0 p.1 (omega (arith, long, h.0)) (omega (arith, long, h.1)) (apart_same shapes equations labels p within long sound x) sound

-- ---- the least congruence

pub classes_congruence : (shapes : List Shape) (equations : List (ℕ × ℕ)) (labels : List ℕ) → AreJoined (length equations) equations labels → IsClosed shapes labels → IsCongruence shapes equations (is_same labels)
classes_congruence shapes equations labels joined closed = record {
  reflexive = λ i. eq-eqb (label_at labels i) (label_at labels i) refl;
  symmetric = λ i j h. eq-eqb (label_at labels j) (label_at labels i) (sym (eqb-true (label_at labels i) (label_at labels j) h));
  transitive = λ i j k h g. eq-eqb (label_at labels i) (label_at labels k) (eqb-true (label_at labels i) (label_at labels j) h ∙ eqb-true (label_at labels j) (label_at labels k) g);
  has = λ n e at. eq-eqb (label_at labels e.0) (label_at labels e.1) (joined n e (slice_get_within equations n e at) at);
  congruent = λ i j a b c d at_i at_j h g. eq-eqb (label_at labels i) (label_at labels j) (closed i j a b c d at_i at_j (eqb-true (label_at labels a) (label_at labels c) h) (eqb-true (label_at labels b) (label_at labels d) g));
}

pub least : (shapes : List Shape) (equations : List (ℕ × ℕ)) (labels : List ℕ) → length labels ≡ length shapes → IsSound shapes equations labels → AreJoined (length equations) equations labels → IsClosed shapes labels → (i j : ℕ) → i < length shapes → j < length shapes → IsTrue (is_same labels i j) ↔ Same shapes equations i j
least shapes equations labels long sound joined closed i j li lj =
    let si : i < length labels = omega (arith, long, li) in
    let sj : j < length labels = omega (arith, long, lj) in
    (λ h. sound i j si sj (eqb-true (label_at labels i) (label_at labels j) h), λ same. same (is_same labels) (classes_congruence shapes equations labels joined closed))
