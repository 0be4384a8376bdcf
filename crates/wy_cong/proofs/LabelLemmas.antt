-- Labels that are joined.
use Rattle.std.proofs.Common.{◌≡◌, ◌∙◌, ◌+◌, ◌<◌, ℕ, zero, suc, List, [], ◌∷◌, ◌++◌, map, take, get_or, length, Bool, true, false, cond, eqb, Option, Some, None, refl, sym, ap, arith}
use Rattle.std.specs.Prelude.{slice_get, slice_index}
use Rattle.std.proofs.lemmas.Bool.{eqb-true}
use Rattle.std.proofs.lemmas.List.{get_or-map, length-map, take_more}
use Rattle.wy_term.specs.Term.{Term}
use Rattle.wy_search_spec.specs.Classes.{numbers_from, joined}
use Rattle.wy_cong.specs.Heads.{moved, own_labels}

-- ---- a label

pub label_lost : (labels : List ℕ) (k : ℕ) → slice_get labels k ≡ None → 0 ≡ slice_index labels k
label_lost [] k e = refl
label_lost (l ∷ ls) zero e = absurd cc
label_lost (l ∷ ls) (suc k) e = label_lost ls k e

-- ---- a class that joins itself

moved_self : (a l : ℕ) → moved a a l ≡ l
moved_self a l = by (eqb l a) refl
  where
    by : (b : Bool) → eqb l a ≡ b → cond b a l ≡ l
    by true e = sym (eqb-true l a e)
    by false e = refl

relabelled_self : (a : ℕ) (labels : List ℕ) → map (moved a a) labels ≡ labels
relabelled_self a [] = refl
relabelled_self a (l ∷ ls) = ap (λ (m : ℕ). m ∷ map (moved a a) ls) (moved_self a l) ∙ ap (λ (ms : List ℕ). l ∷ ms) (relabelled_self a ls)

-- where the labels of two classes are equal, nothing changes
pub joined_self : (labels : List ℕ) (from into : ℕ) (a b : Option ℕ) → a ≡ Some from → b ≡ Some into → from ≡ into → labels ≡ joined labels a b
joined_self labels from into a b isa isb e =
    sym (ap (λ (o : Option ℕ). joined labels o b) isa
    ∙ (ap (joined labels (Some from)) isb ∙ (ap (λ (m : ℕ). map (moved from m) labels) (sym e) ∙ relabelled_self from labels)))

-- one label more
pub moved_next : (from into : ℕ) (ls : List ℕ) (i x : ℕ) (old new : List ℕ) → i < length ls → x ≡ moved from into (get_or ls i 0) → new ≡ old ++ x ∷ [] → old ≡ take i (map (moved from into) ls) → new ≡ take (i + 1) (map (moved from into) ls)
moved_next from into ls i x old new lt isx is so =
    let long : i < length (map (moved from into) ls) = omega (arith, lt, length-map ls (moved from into)) in
    is
    ∙ (ap (λ (ms : List ℕ). ms ++ x ∷ []) so
    ∙ (ap (λ (m : ℕ). take i (map (moved from into) ls) ++ m ∷ []) (isx ∙ sym (get_or-map (moved from into) ls i 0 0 lt))
    ∙ sym (take_more (map (moved from into) ls) i 0 long)))

-- ---- first labels

pub own_last : (k n : ℕ) → own_labels k (suc n) ≡ own_labels k n ++ (k + n) ∷ []
own_last k zero = ap (λ (m : ℕ). m ∷ []) (let e : k ≡ k + 0 = omega arith in e)
own_last k (suc n) = ap (λ (ls : List ℕ). k ∷ ls) (own_last (suc k) n ∙ ap (λ (m : ℕ). own_labels (suc k) n ++ m ∷ []) (let e : suc k + n ≡ k + suc n = omega arith in e))

pub own_next : (n l : ℕ) (made new : List ℕ) → new ≡ made ++ l ∷ [] → made ≡ own_labels 0 n → l ≡ n → new ≡ own_labels 0 (n + 1)
own_next n l made new pushed is e =
    let zero_more : l ≡ 0 + n = omega (arith, e) in
    let next : suc n ≡ n + 1 = omega arith in
    pushed
    ∙ (ap (λ (ls : List ℕ). ls ++ l ∷ []) is
    ∙ (ap (λ (m : ℕ). own_labels 0 n ++ m ∷ []) zero_more ∙ (sym (own_last 0 n) ∙ ap (own_labels 0) next)))

own_numbers : (k : ℕ) (ts : List Term) → own_labels k (length ts) ≡ numbers_from k ts
own_numbers k [] = refl
own_numbers k (t ∷ ts) = ap (λ (ls : List ℕ). k ∷ ls) (own_numbers (suc k) ts)

length_map : (at : ℕ → Term) (ks : List ℕ) → length ks ≡ length (map at ks)
length_map at [] = refl
length_map at (k ∷ ks) = ap suc (length_map at ks)

pub own_for_terms : (at : ℕ → Term) (ks : List ℕ) → own_labels 0 (length ks) ≡ numbers_from 0 (map at ks)
own_for_terms at ks = ap (own_labels 0) (length_map at ks) ∙ own_numbers 0 (map at ks)
