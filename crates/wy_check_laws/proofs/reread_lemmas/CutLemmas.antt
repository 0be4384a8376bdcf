-- Where the text of arguments is cut, and that no line ends in it.
use Rattle.std.proofs.Common.{◌≡◌, ◌<◌, ℕ, zero, suc, List, [], ◌∷◌, ◌++◌, length, drop, get_or, Bool, true, false, cond, eqb, not, codes, Option, Some, None, refl, ap, not-suc-le-zero, le_of_suc-le-suc}
use Rattle.std.proofs.lemmas.Bool.{eq-eqb}
use Rattle.wy_lemmas.proofs.Choices.{off}
use Rattle.wy_data.specs.scan.Front.{AllPass}
use Rattle.wy_check_spec.specs.wy_cert.File.{is_inside}
use Rattle.wy_check_spec.specs.wy_cert.Arguments.{IsCut, NoCut}
use Rattle.wy_check_laws.proofs.reread_lemmas.NeatLemmas.{scan, IsNeat}

-- what a byte of a text that passes is
no_end_by : (x y z : Bool) (a : Option ℕ) (q : ℕ) → cond x None (cond y (cond z None a) a) ≡ Some q → (x ≡ false) × (a ≡ Some q)
no_end_by true y z a q e = absurd cc
no_end_by false true true a q e = absurd cc
no_end_by false true false a q e = (refl, e)
no_end_by false false z a q e = (refl, e)

no_both_by : (x y z : Bool) (a : Option ℕ) (q : ℕ) → cond x None (cond y (cond z None a) a) ≡ Some q → y ≡ true → z ≡ true → ⊥
no_both_by true y z a q e f g = absurd cc
no_both_by false true true a q e f g = absurd cc
no_both_by false true false a q e f g = absurd cc
no_both_by false false z a q e f g = absurd cc

inside : (b : ℕ) → eqb b 10 ≡ false → is_inside b ≡ true
inside b e = ap not e

-- no line ends in a text that passes
pub passes_inside : (p : ℕ) (xs : List ℕ) (q : ℕ) → scan p xs ≡ Some q → AllPass is_inside xs
passes_inside p [] q e = tt
passes_inside p (b ∷ bs) q e =
    let h = no_end_by (eqb b 10) (eqb b 59) (eqb p 32) (scan b bs) q e in
    (inside b h.0, passes_inside b bs q h.1)

-- ---- cuts

-- a semicolon behind this byte
second_is : (p b : ℕ) (bs : List ℕ) (q : ℕ) → scan p (b ∷ bs) ≡ Some q → p ≡ 32 → b ≡ 59 → ⊥
second_is p b bs q e f g = no_both_by (eqb b 10) (eqb b 59) (eqb p 32) (scan b bs) q e (eq-eqb b 59 g) (eq-eqb p 32 f)

rest_of : (p b : ℕ) (bs : List ℕ) (q : ℕ) → scan p (b ∷ bs) ≡ Some q → scan b bs ≡ Some q
rest_of p b bs q e = (no_end_by (eqb b 10) (eqb b 59) (eqb p 32) (scan b bs) q e).1

first_two : (b : ℕ) (bs rest : List ℕ) → b ∷ bs ≡ 32 ∷ 59 ∷ rest → (b ≡ 32) × (bs ≡ 59 ∷ rest)
first_two b bs rest e = (cc, cc)

-- a space isn't a semicolon
here_last : (b : ℕ) (rest tail : List ℕ) → b ∷ 32 ∷ rest ≡ 32 ∷ 59 ∷ tail → ⊥
here_last b rest tail is = off (ap (λ (xs : List ℕ). eqb (get_or xs 1 0) 32) is)

here_more : (p b c : ℕ) (cs : List ℕ) (q : ℕ) (more tail : List ℕ) → scan p (b ∷ c ∷ cs) ≡ Some q → b ∷ c ∷ more ≡ 32 ∷ 59 ∷ tail → ⊥
here_more p b c cs q more tail e is = second_is b c cs q (rest_of p b (c ∷ cs) q e) (ap (λ (xs : List ℕ). get_or xs 0 0) is) (ap (λ (xs : List ℕ). get_or xs 1 0) is)

cut_here : (p b : ℕ) (bs : List ℕ) (q : ℕ) (rest tail : List ℕ) → scan p (b ∷ bs) ≡ Some q → b ∷ (bs ++ (32 ∷ rest)) ≡ 32 ∷ 59 ∷ tail → ⊥
cut_here p b [] q rest tail e is = here_last b rest tail is
cut_here p b (c ∷ cs) q rest tail e is = here_more p b c cs q (cs ++ (32 ∷ rest)) tail e is

-- in a text that ends in no space, none is cut, whatever follows behind the next cut
no_cut_before : (p : ℕ) (front : List ℕ) (q : ℕ) (rest tail : List ℕ) (k : ℕ) → scan p front ≡ Some q → eqb q 32 ≡ false → k < length front → drop k (front ++ (32 ∷ rest)) ≡ 32 ∷ 59 ∷ tail → ⊥
no_cut_before p [] q rest tail k e n small is = absurd (not-suc-le-zero small)
no_cut_before p (b ∷ bs) q rest tail zero e n small is = cut_here p b bs q rest tail e is
no_cut_before p (b ∷ bs) q rest tail (suc k) e n small is = no_cut_before b bs q rest tail k (rest_of p b bs q e) n (le_of_suc-le-suc small) is

no_cut_in : (p : ℕ) (xs : List ℕ) (q : ℕ) (tail : List ℕ) (k : ℕ) → scan p xs ≡ Some q → drop k xs ≡ 32 ∷ 59 ∷ tail → ⊥
no_cut_in p [] q tail zero e is = absurd cc
no_cut_in p [] q tail (suc k) e is = absurd cc
no_cut_in p (b ∷ []) q tail zero e is =
    let two = first_two b [] tail is in
    let no : [] ≡ 59 ∷ tail = two.1 in
    absurd cc
no_cut_in p (b ∷ c ∷ cs) q tail zero e is =
    let two = first_two b (c ∷ cs) tail is in
    let c_is : c ≡ 59 = cc in
    second_is b c cs q (rest_of p b (c ∷ cs) q e) two.0 c_is
no_cut_in p (b ∷ bs) q tail (suc k) e is = no_cut_in b bs q tail k (rest_of p b bs q e) is

-- the text is cut behind the first argument
pub cut_behind : (front rest : List ℕ) → IsNeat front → IsCut (front ++ (codes " ; " ++ rest)) front rest
cut_behind front rest h =
    let a = h 0 in
    record { is = refl; first = λ k small tail behind. no_cut_before 0 front a.last (59 ∷ 32 ∷ rest) (32 ∷ tail) k a.runs a.no_space small behind.is }

-- the last argument isn't cut
pub never_cut : (text : List ℕ) → IsNeat text → NoCut text
never_cut text h =
    let a = h 0 in
    record { none = λ k within tail behind. no_cut_in 0 text a.last (32 ∷ tail) k a.runs behind.is }
