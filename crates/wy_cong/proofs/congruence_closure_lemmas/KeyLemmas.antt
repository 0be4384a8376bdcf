-- Applications that are found by the labels of what they are of.
use Rattle.std.proofs.Common.{◌≡◌, ◌<◌, ◌+◌, ℕ, List, Bool, true, false, cond, ◌⊎◌, inl, inr, Option, Some, None, refl, sym, ap, subst, ◌∙◌, arith}
use Rattle.std.specs.Prelude.{nat_eq, slice_get}
use Rattle.std.proofs.lemmas.Bool.{eqb-true, eq-eqb}
use Rattle.wy_cong.specs.declared.congruence_closure.nodes.Shape.{Shape}
use Rattle.wy_cong.specs.declared.congruence_closure.nodes.Shape.TheVariants.{Apply}
use Rattle.wy_cong.specs.congruence_closure.Congruence.{label_at}
use Rattle.wy_cong.specs.congruence_closure.Found.{same_pair, key_of, HasKey, AllFound, AreKeyed, IsApart}
use Rattle.wy_lemmas.proofs.Choices.{and-left as and_first, and-right as and_second, both_true, less_more}
use Rattle.wy_lemmas.proofs.Options.{some}

abbrev pub pair_of : ℕ → ℕ → ℕ × ℕ
pair_of a b = (a, b)

pub pair_is : (a b c d : ℕ) → a ≡ c → b ≡ d → pair_of a b ≡ pair_of c d
pair_is a b c d e f = ap (λ (x : ℕ). pair_of x b) e ∙ ap (pair_of c) f

pub same_pair-true : (p q : ℕ × ℕ) → same_pair p q ≡ true → p ≡ q
same_pair-true p q e =
    let first : p.0 ≡ q.0 = eqb-true p.0 q.0 (and_first (nat_eq p.0 q.0) (nat_eq p.1 q.1) e) in
    let second : p.1 ≡ q.1 = eqb-true p.1 q.1 (and_second (nat_eq p.0 q.0) (nat_eq p.1 q.1) e) in
    pair_is p.0 p.1 q.0 q.1 first second

pub same_pair-self : (p : ℕ × ℕ) → same_pair p p ≡ true
same_pair-self p = both_true (nat_eq p.0 p.0) (nat_eq p.1 p.1) (eq-eqb p.0 p.0 refl) (eq-eqb p.1 p.1 refl)

one_shape : (a b c d : ℕ) → some (Apply a b) ≡ some (Apply c d) → (a ≡ c) × (b ≡ d)
one_shape a b c d e = (cc, cc)

key_is : (labels : List ℕ) (a b c d : ℕ) → a ≡ c → b ≡ d → key_of labels a b ≡ key_of labels c d
key_is labels a b c d e f = pair_is (label_at labels a) (label_at labels b) (label_at labels c) (label_at labels d) (ap (label_at labels) e) (ap (label_at labels) f)

module _ (shapes : List Shape) (labels : List ℕ) (found : ℕ × ℕ → Option ℕ) where
  -- one node more, for which this is found
  pub found_one : (n : ℕ) → AllFound shapes labels found n → ((a b : ℕ) → slice_get shapes n ≡ Some (Apply a b) → (j : ℕ) × (found (key_of labels a b) ≡ Some j) × (label_at labels j ≡ label_at labels n)) → AllFound shapes labels found (n + 1)
  found_one n before here i a b lt at = by (less_more i n (omega (arith, lt)))
    where
      by : (i < n) ⊎ (i ≡ n) → (j : ℕ) × (found (key_of labels a b) ≡ Some j) × (label_at labels j ≡ label_at labels i)
      by (inl f) = before i a b f at
      by (inr f) =
          let at_n : slice_get shapes n ≡ Some (Apply a b) = subst (λ (m : ℕ). slice_get shapes m ≡ Some (Apply a b)) f at in
          let h = here a b at_n in
          (h.0, h.1, h.2 ∙ ap (label_at labels) (sym f))

  -- an application is found in its class
  pub found_met : (n a b j : ℕ) → slice_get shapes n ≡ Some (Apply a b) → found (key_of labels a b) ≡ Some j → label_at labels n ≡ label_at labels j → AllFound shapes labels found n → AllFound shapes labels found (n + 1)
  found_met n a b j here is same before = found_one n before
      (λ c d at.
      let e = one_shape a b c d (sym here ∙ at) in
      (j, subst (λ (k : ℕ × ℕ). found k ≡ Some j) (key_is labels a b c d e.0 e.1) is, sym same))

  -- an application is in another class than one with the same labels
  pub apart_met : (n a b j : ℕ) → slice_get shapes n ≡ Some (Apply a b) → found (key_of labels a b) ≡ Some j → AreKeyed shapes labels found → IsApart shapes labels (n, j)
  apart_met n a b j here is keyed = (key_of labels a b, (a, b, here, refl), keyed (key_of labels a b) j is)

module _ (shapes : List Shape) (labels : List ℕ) (found : ℕ × ℕ → Option ℕ) where
  -- an application is noted
  module _ (new : ℕ × ℕ → Option ℕ) (n a b : ℕ) (here : slice_get shapes n ≡ Some (Apply a b)) (puts : (k : ℕ × ℕ) → new k ≡ cond (same_pair (key_of labels a b) k) (some n) (found k)) where
    pub keyed_more : AreKeyed shapes labels found → AreKeyed shapes labels new
    keyed_more keyed k j e = by (same_pair (key_of labels a b) k) refl (sym (puts k) ∙ e)
      where
        by : (t : Bool) → same_pair (key_of labels a b) k ≡ t → cond t (some n) (found k) ≡ some j → HasKey shapes labels k j
        by true t f =
            let is : n ≡ j = cc in
            (a, b, subst (λ (m : ℕ). slice_get shapes m ≡ Some (Apply a b)) is here, same_pair-true (key_of labels a b) k t)
        by false t f = keyed k j f

    kept_at : (k : ℕ × ℕ) (j : ℕ) → found (key_of labels a b) ≡ None → found k ≡ Some j → new k ≡ Some j
    kept_at k j none is = puts k ∙ by (same_pair (key_of labels a b) k) refl
      where
        by : (t : Bool) → same_pair (key_of labels a b) k ≡ t → cond t (some n) (found k) ≡ some j
        by true t =
            let e = ap found (same_pair-true (key_of labels a b) k t) in
            absurd cc
        by false t = is

    noted : new (key_of labels a b) ≡ Some n
    noted = puts (key_of labels a b) ∙ ap (λ (t : Bool). cond t (some n) (found (key_of labels a b))) (same_pair-self (key_of labels a b))

    all_kept : found (key_of labels a b) ≡ None → AllFound shapes labels found n → AllFound shapes labels new n
    all_kept none all i c d lt at =
        let h = all i c d lt at in
        (h.0, kept_at (key_of labels c d) h.0 none h.1, h.2)

    pub found_more : found (key_of labels a b) ≡ None → AllFound shapes labels found n → AllFound shapes labels new (n + 1)
    found_more none all = found_met shapes labels new n a b n here noted refl (all_kept none all)
