-- The first ` ; ` of a text.
use Rattle.std.proofs.Common.{◌≡◌, ℕ, zero, suc, ◌<◌, ◌≤◌, List, [], ◌∷◌, ◌++◌, length, take, drop, codes, Option, Some, None, refl, sym, ap, ◌∙◌, subst, arith, lt_of_not-le}
use native.Mathlib.Decide.{dec_le}
use Rattle.std.proofs.lemmas.List.{take-append-drop}
use Rattle.wy_data.specs.scan.Front.{IsBehind, NotBehind}
use Rattle.wy_cert.specs.Arguments.{IsCut, NoCut, IsPieceAt}

-- ---- one piece

pub tail_cut : (b : ℕ) (i front rest : List ℕ) → IsCut (b ∷ i) (b ∷ front) rest → IsCut i front rest
tail_cut b i front rest c = record { is = let e = c.is in cc; first = λ k lt. c.first (suc k) (omega (arith, lt)) }

pub record OnePiece (f g r s : List ℕ) : Type 0 where
  pub front : f ≡ g
  pub rest : r ≡ s

pub one_cut : (text f g r s : List ℕ) → IsCut text f r → IsCut text g s → OnePiece f g r s
one_cut text [] [] r s a b = record { front = refl; rest = let e : codes " ; " ++ r ≡ codes " ; " ++ s = sym a.is ∙ b.is in cc }
one_cut text [] (y ∷ g) r s a b = absurd (b.first 0 (omega arith) r (record { is = a.is }))
one_cut text (x ∷ f) [] r s a b = absurd (a.first 0 (omega arith) s (record { is = b.is }))
one_cut [] (x ∷ f) (y ∷ g) r s a b = absurd (let e = a.is in cc)
one_cut (z ∷ i) (x ∷ f) (y ∷ g) r s a b =
    let ex : x ≡ z = let e = a.is in cc in
    let ey : y ≡ z = let e = b.is in cc in
    let k = one_cut i f g r s (tail_cut z i f r (subst (λ w. IsCut (z ∷ i) (w ∷ f) r) ex a)) (tail_cut z i g s (subst (λ w. IsCut (z ∷ i) (w ∷ g) s) ey b)) in
    record { front = let e = k.front in cc; rest = k.rest }

pub tail_no_cut : (b : ℕ) (i : List ℕ) → NoCut (b ∷ i) → NoCut i
tail_no_cut b i never = record { none = λ k le. never.none (suc k) (omega (arith, le)) }

pub no_cut : (text f r : List ℕ) → NoCut text → IsCut text f r → ⊥
no_cut text [] r never c = never.none 0 (omega arith) r (record { is = c.is })
no_cut [] (x ∷ f) r never c = absurd (let e = c.is in cc)
no_cut (z ∷ i) (x ∷ f) r never c =
    let e : x ≡ z = let e = c.is in cc in
    no_cut i f r (tail_no_cut z i never) (tail_cut z i f r (subst (λ w. IsCut (z ∷ i) (w ∷ f) r) e c))

pub record OnePieceAt (f g : List ℕ) (o p : Option (List ℕ)) : Type 0 where
  pub front : f ≡ g
  pub more : o ≡ p

pub one_piece : (text f g : List ℕ) (o p : Option (List ℕ)) → IsPieceAt text f o → IsPieceAt text g p → OnePieceAt f g o p
one_piece text f g None None a b = record { front = a.1 ∙ sym b.1; more = refl }
one_piece text f g None (Some s) a b = absurd (no_cut text g s a.0 b)
one_piece text f g (Some r) None a b = absurd (no_cut text f r b.0 a)
one_piece text f g (Some r) (Some s) a b = let k = one_cut text f g r s a b in record { front = k.front; more = ap Some k.rest }

-- ---- the search for it

pub cut_here : (text rest : List ℕ) (n : ℕ) → n < length text → ((k : ℕ) → k < n → NotBehind (codes " ; ") (drop k text)) → IsBehind (codes " ; ") (drop n text) rest → IsCut text (take n text) rest
cut_here text rest n lt before here = record {
  is = sym (take-append-drop n text) ∙ ap (λ i. take n text ++ i) here.is;
  first = λ k h. before k (omega (arith, h, take_length n text));
}
  where
    take_length : (n : ℕ) (i : List ℕ) → length (take n i) ≤ n
    take_length zero i = omega arith
    take_length (suc n) [] = omega arith
    take_length (suc n) (b ∷ i) = omega (arith, take_length n i)

pub drop_all : (k : ℕ) (i : List ℕ) → length i ≤ k → drop k i ≡ []
drop_all zero [] le = refl
drop_all zero (b ∷ i) le = absurd (omega (arith, le))
drop_all (suc k) [] le = refl
drop_all (suc k) (b ∷ i) le = drop_all k i (omega (arith, le))

pub not_at_end : (i : List ℕ) → i ≡ [] → NotBehind (codes " ; ") i
not_at_end i none rest h = absurd (let e : i ≡ codes " ; " ++ rest = h.is in cc)

pub cut_nowhere : (text : List ℕ) (n : ℕ) → length text ≤ n → ((k : ℕ) → k < n → NotBehind (codes " ; ") (drop k text)) → NoCut text
cut_nowhere text n le before = record { none = λ k le_k. by k (dec_le n k) }
  where
    by : (k : ℕ) → Dec (n ≤ k) → NotBehind (codes " ; ") (drop k text)
    by k (yes ge) = not_at_end (drop k text) (drop_all k text (omega (arith, ge, le)))
    by k (no lt) = before k (lt_of_not-le lt)

pub ruleset cut_steps = (cut_here, cut_nowhere)
