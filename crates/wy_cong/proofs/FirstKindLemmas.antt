-- Kinds that are noted for classes.
use Rattle.std.proofs.Common.{◌≡◌, ◌∙◌, ◌+◌, ◌<◌, ◌&&◌, ◌||◌, ◌⊎◌, inl, inr, ℕ, zero, suc, List, [], ◌∷◌, length, Bool, true, false, not, cond, eqb, option_map, Option, Some, None, refl, sym, ap, subst, arith}
use Rattle.std.specs.Prelude.{slice_get}
use Rattle.std.proofs.lemmas.Bool.{eqb-true}
use Rattle.std.proofs.lemmas.Option.{slice_get_within}
use Rattle.wy_lemmas.proofs.Choices.{and_false, eqb_itself as eqb_self, less_more}
use Rattle.wy_term.proofs.FoldingLemmas.{some_kind}
use Rattle.wy_term.specs.Term.{DataKind, Term}
use Rattle.wy_term.specs.Nodes.{plain_kind}
use Rattle.wy_term.specs.Same.{same_kind, same_term}
use Rattle.wy_term.proofs.SameLemmas.{kinds_are, kinds_self}
use Rattle.wy_search_spec.specs.wy_check_spec.valid.Kinds as valid
use Rattle.wy_search_spec.specs.Classes.{in_one_class, kinds_with, any_kinds}
use Rattle.wy_cong.specs.declared.kinds.Kinded.{Kinded}
use Rattle.wy_cong.specs.Firsts.{kind_at, kind_in, HaveKinds, IsFirst, IsOther, KeepsKinds}
use Rattle.wy_cong.specs.Kinded.{kinded, seen_kinded, AreKinded}
use Rattle.wy_cong.specs.Pairs.{meets}
use Rattle.wy_cong.specs.Signatures.{class_at}
use Rattle.wy_cong.proofs.SignatureLemmas.{OneNumber, class_same}

abbrev some_place : ℕ → Option ℕ
some_place i = Some i

no_kind : (k : DataKind) → None ≡ some_kind k → ⊥
no_kind k e = cc

-- ---- one place more

module _ (ks : List Kinded) (f g : ℕ → Option ℕ) (class place : ℕ) (kind : DataKind) (here : kind_at ks (Some place) ≡ Some kind) (puts : (k : ℕ) → g k ≡ cond (eqb class k) (some_place place) (f k)) where
  pub put_here : kind_at ks (g class) ≡ Some kind
  put_here = ap (kind_at ks) (puts class ∙ ap (λ (x : Bool). cond x (some_place place) (f class)) (eqb_self class)) ∙ here

  pub put_kept : f class ≡ None → KeepsKinds ks f g
  put_kept none k l h = ap (kind_at ks) (puts k) ∙ by (eqb class k) refl
    where
      by : (x : Bool) → eqb class k ≡ x → kind_at ks (cond x (some_place place) (f k)) ≡ Some l
      by true e =
          let no : f k ≡ None = ap f (sym (eqb-true class k e)) ∙ none in
          absurd (no_kind l (ap (kind_at ks) (sym no) ∙ h))
      by false e = h

-- ---- places, one after the other

pub place_kind : (ks : List Kinded) (i : ℕ) (p : Kinded) → slice_get ks i ≡ Some p → kind_at ks (Some i) ≡ Some (plain_kind p.kind)
place_kind ks i p e = ap (option_map kind_in) e

pub kind_found : (ks : List Kinded) (i : ℕ) (p : Kinded) (kind : DataKind) → slice_get ks i ≡ Some p → same_kind (plain_kind p.kind) kind ≡ true → kind_at ks (Some i) ≡ Some kind
kind_found ks i p kind e h = place_kind ks i p e ∙ ap (λ (k : DataKind). some_kind k) (kinds_are (plain_kind p.kind) kind h)

pub place_below : (n : ℕ) (ks : List Kinded) (i : ℕ) (p : Kinded) → AreKinded n ks → slice_get ks i ≡ Some p → p.term < n
place_below n [] i p below e = absurd cc
place_below n (k ∷ ks) zero p below e =
    let is : k ≡ p = cc in
    subst (λ (q : Kinded). q.term < n) is (below 0 k (omega arith))
place_below n (k ∷ ks) (suc i) p below e = place_below n ks i p (λ j d l. below (suc j) d (omega (arith, l))) e

one_kinded : (p q : Kinded) (o : Option Kinded) → o ≡ Some p → o ≡ Some q → p ≡ q
one_kinded p q o e f = cc

module _ (ts : List Term) (labels : List ℕ) (at : ℕ → Term) (ks : List Kinded) where
  pub first_is : (f : ℕ → Option ℕ) (i : ℕ) (p : Kinded) → slice_get ks i ≡ Some p → kind_at ks (f (class_at ts labels at p.term)) ≡ Some (plain_kind p.kind) → IsFirst ts labels at ks f i
  first_is f i p e h q g = subst (λ (r : Kinded). kind_at ks (f (class_at ts labels at r.term)) ≡ Some (plain_kind r.kind)) (one_kinded p q (slice_get ks i) e g) h

  pub first_none : (f : ℕ → Option ℕ) (i : ℕ) → slice_get ks i ≡ None → IsFirst ts labels at ks f i
  first_none f i e q g = absurd cc

  pub kinds_more : (f g : ℕ → Option ℕ) (n : ℕ) → KeepsKinds ks f g → HaveKinds ts labels at ks f n → IsFirst ts labels at ks g n → HaveKinds ts labels at ks g (n + 1)
  kinds_more f g n keeps before here i l = by (less_more i n (omega (arith, l)))
    where
      by : (i < n) ⊎ (i ≡ n) → IsFirst ts labels at ks g i
      by (inl lt) = λ p e. keeps (class_at ts labels at p.term) (plain_kind p.kind) (before i lt p e)
      by (inr e) = subst (λ (m : ℕ). IsFirst ts labels at ks g m) (sym e) here

-- ---- pairs of kinds

with_none : (test : valid.Kinded → valid.Kinded → Bool) (ts : List Term) (labels : List ℕ) (at : ℕ → Term) (p : Kinded) (qs : List Kinded) → ((j : ℕ) (q : Kinded) → slice_get qs j ≡ Some q → meets test ts labels (seen_kinded at p) (seen_kinded at q) ≡ false) → kinds_with test ts labels (seen_kinded at p) (kinded at qs) ≡ false
with_none test ts labels at p [] none = refl
with_none test ts labels at p (q ∷ qs) none =
    ap (λ (b : Bool). b || kinds_with test ts labels (seen_kinded at p) (kinded at qs)) (none 0 q refl)
    ∙ with_none test ts labels at p qs (λ j r e. none (suc j) r e)

any_none : (test : valid.Kinded → valid.Kinded → Bool) (ts : List Term) (labels : List ℕ) (at : ℕ → Term) (ps qs : List Kinded) → ((i j : ℕ) (p q : Kinded) → slice_get ps i ≡ Some p → slice_get qs j ≡ Some q → meets test ts labels (seen_kinded at p) (seen_kinded at q) ≡ false) → any_kinds test ts labels (kinded at ps) (kinded at qs) ≡ false
any_none test ts labels at [] qs none = refl
any_none test ts labels at (p ∷ ps) qs none =
    ap (λ (b : Bool). b || any_kinds test ts labels (kinded at ps) (kinded at qs)) (with_none test ts labels at p qs (λ j q e. none 0 j p q refl e))
    ∙ any_none test ts labels at ps qs (λ i j r q e g. none (suc i) j r q e g)

one_some : (k l : DataKind) (o : Option DataKind) → o ≡ Some k → o ≡ Some l → k ≡ l
one_some k l o e f = cc

module _ (at : ℕ → Term) (n : ℕ) (one : OneNumber at n) (ts : List Term) (labels : List ℕ) (ks : List Kinded) (below : AreKinded n ks) (f : ℕ → Option ℕ) (have : HaveKinds ts labels at ks f (length ks)) where
  first_at : (i : ℕ) (p : Kinded) → slice_get ks i ≡ Some p → kind_at ks (f (class_at ts labels at p.term)) ≡ Some (plain_kind p.kind)
  first_at i p e = have i (slice_get_within ks i p e) p e

  -- no class has two kinds
  pub none_in_two : any_kinds valid.in_two_kinds ts labels (kinded at ks) (kinded at ks) ≡ false
  none_in_two = any_none valid.in_two_kinds ts labels at ks ks (λ i j p q e g. by i j p q e g (in_one_class ts labels (at p.term) (at q.term)) refl)
    where
      by : (i j : ℕ) (p q : Kinded) → slice_get ks i ≡ Some p → slice_get ks j ≡ Some q → (x : Bool) → in_one_class ts labels (at p.term) (at q.term) ≡ x → (x && (same_term (at p.term) (at p.term) && not (same_kind (plain_kind p.kind) (plain_kind q.kind)))) ≡ false
      by i j p q e g false h = refl
      by i j p q e g true h =
          let class = class_same at n one ts labels p.term q.term (place_below n ks i p below e) (place_below n ks j q below g) h in
          let kind : plain_kind p.kind ≡ plain_kind q.kind = one_some (plain_kind p.kind) (plain_kind q.kind) (kind_at ks (f (class_at ts labels at p.term))) (first_at i p e) (ap (λ (c : ℕ). kind_at ks (f c)) class ∙ first_at j q g) in
          let same : same_kind (plain_kind p.kind) (plain_kind q.kind) ≡ true = ap (λ (k : DataKind). same_kind k (plain_kind q.kind)) kind ∙ kinds_self (plain_kind q.kind) in
          ap (λ (b : Bool). same_term (at p.term) (at p.term) && not b) same ∙ and_false (same_term (at p.term) (at p.term))

  -- no class has a kind that is denied
  pub none_in_one : (ds : List Kinded) → AreKinded n ds → ((j : ℕ) → j < length ds → IsOther ts labels at ks f ds j) → any_kinds valid.in_one_kind ts labels (kinded at ks) (kinded at ds) ≡ false
  none_in_one ds under others = any_none valid.in_one_kind ts labels at ks ds (λ i j p q e g. by i j p q e g (in_one_class ts labels (at p.term) (at q.term)) refl)
    where
      by : (i j : ℕ) (p q : Kinded) → slice_get ks i ≡ Some p → slice_get ds j ≡ Some q → (x : Bool) → in_one_class ts labels (at p.term) (at q.term) ≡ x → (x && (same_term (at p.term) (at p.term) && same_kind (plain_kind p.kind) (plain_kind q.kind))) ≡ false
      by i j p q e g false h = refl
      by i j p q e g true h =
          let class = class_same at n one ts labels p.term q.term (place_below n ks i p below e) (place_below n ds j q under g) h in
          let un : same_kind (plain_kind p.kind) (plain_kind q.kind) ≡ false = others j (slice_get_within ds j q g) q g (plain_kind p.kind) (ap (λ (c : ℕ). kind_at ks (f c)) (sym class) ∙ first_at i p e) in
          ap (λ (b : Bool). same_term (at p.term) (at p.term) && b) un ∙ and_false (same_term (at p.term) (at p.term))

-- ---- places that are looked at

pub other_here : (ts : List Term) (labels : List ℕ) (at : ℕ → Term) (ks : List Kinded) (f : ℕ → Option ℕ) (qs : List Kinded) (i : ℕ) (q : Kinded) → slice_get qs i ≡ Some q → ((k : DataKind) → kind_at ks (f (class_at ts labels at q.term)) ≡ Some k → same_kind k (plain_kind q.kind) ≡ false) → IsOther ts labels at ks f qs i
other_here ts labels at ks f qs i q e h r g = subst (λ (s : Kinded). (k : DataKind) → kind_at ks (f (class_at ts labels at s.term)) ≡ Some k → same_kind k (plain_kind s.kind) ≡ false) (one_kinded q r (slice_get qs i) e g) h

pub others_more : (ts : List Term) (labels : List ℕ) (at : ℕ → Term) (ks : List Kinded) (f : ℕ → Option ℕ) (qs : List Kinded) (n : ℕ) → ((j : ℕ) → j < n → IsOther ts labels at ks f qs j) → IsOther ts labels at ks f qs n → (j : ℕ) → j < n + 1 → IsOther ts labels at ks f qs j
others_more ts labels at ks f qs n before here j l = by (less_more j n (omega (arith, l)))
  where
    by : (j < n) ⊎ (j ≡ n) → IsOther ts labels at ks f qs j
    by (inl lt) = before j lt
    by (inr e) = subst (λ (m : ℕ). IsOther ts labels at ks f qs m) (sym e) here
