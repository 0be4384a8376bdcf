-- Terms in one class have one sense, where the node's literals are true.
use Rattle.std.proofs.Common.{◌≡◌, ◌∙◌, ◌+◌, ◌<◌, ◌&&◌, ◌||◌, ℕ, zero, suc, List, [], ◌∷◌, map, length, Bool, true, false, cond, eqb, ℤ, pos, Option, Some, None, refl, sym, ap, subst, arith}
use Rattle.std.specs.Prelude.{slice_index, slice_index_or}
use Rattle.std.proofs.lemmas.Bool.{eqb-true}
use Rattle.std.proofs.lemmas.List.{get_or-map, length-map}
use Rattle.wy_lemmas.proofs.Choices.{both_parts as and_both}
use Rattle.wy_lemmas.proofs.Numbers.{moved}
use Rattle.wy_lemmas.proofs.Options.{some_number_is as some_is}
use Rattle.wy_search_bounds.proofs.wy_search_spec_proofs.SharedLemmas.{length_numbers, number_at}
use Rattle.wy_search_bounds.specs.wy_term.Term.{Symbol, Term, Of, Parts, no_parts, part, equal}
use Rattle.wy_search_bounds.specs.wy_term.Same.{same_symbol, same_term}
use Rattle.wy_search_bounds.specs.wy_term.Sorts.{sort_in}
use Rattle.wy_search_bounds.specs.wy_term.Meaning.{Names, Sense, numeric, sense, senses_of, meaning}
use Rattle.wy_search_bounds.proofs.wy_term_proofs.SameLemmas.{symbols_are, terms_are}
use Rattle.wy_search_bounds.specs.wy_check_spec.judge.Node.{Literal}
use Rattle.wy_search_bounds.specs.wy_check_spec.judge.Told.{AllTold}
use Rattle.wy_search_bounds.specs.wy_search_spec.Classes.{place_from, label_of, same_label, in_one_class, arguments_equal, are_congruent, relabelled, joined, with_equal, with_literal, with_equations, with_congruent, with_all_congruent, rounds, numbers_from, classes}
use Rattle.wy_search_bounds.proofs.wy_check_laws_proofs.sound_lemmas.Basics.{or_cases}
use Rattle.wy_search_bounds.proofs.wy_check_laws_proofs.sound_lemmas.ChainLemmas.{data_are_equal, IsTermSort, senses_at, same_head}
use Rattle.wy_search_bounds.proofs.wy_check_laws_proofs.sound_lemmas.MadeLemmas.{IsFormula}
use Rattle.wy_search_laws.specs.sound.Closed.{AreLiterals}
use Rattle.wy_search_laws.proofs.sound_lemmas.SenseLemmas.{same_datum_same}

-- ---- places

-- the sense of the term at a place
abbrev pub placed : Names → List Term → ℕ → Sense
placed names ts i = slice_index_or (map (sense names) ts) i (numeric (pos 0))

-- the term stands so many places behind a number
pub record StandsBehind (names : Names) (ts : List Term) (t : Term) (k i : ℕ) : Type 0 where
  pub index : ℕ
  pub is : i ≡ k + index
  pub within : index < length ts
  pub one : placed names ts index ≡ sense names t

stands_behind : (names : Names) (ts : List Term) (t : Term) (k i : ℕ) → place_from ts t k ≡ Some i → StandsBehind names ts t k i
stands_behind names [] t k i e = absurd cc
stands_behind names (u ∷ us) t k i e = by (same_term u t) refl e (λ f. stands_behind names us t (suc k) i f)
  where
    by : (b : Bool) → same_term u t ≡ b → cond b (Some k) (place_from us t (suc k)) ≡ Some i → (place_from us t (suc k) ≡ Some i → StandsBehind names us t (suc k) i) → StandsBehind names (u ∷ us) t k i
    by true is f later =
        let here : k ≡ i = some_is k i f in
        record { index = 0; is = omega (arith, here); within = omega arith; one = ap (sense names) (terms_are u t is) }
    by false is f later =
        let rest = later f in
        record { index = suc rest.index; is = omega (arith, rest.is); within = omega (arith, rest.within); one = rest.one }

-- the term stands at the place
pub record StandsAt (names : Names) (ts : List Term) (t : Term) (i : ℕ) : Type 0 where
  pub within : i < length ts
  pub one : placed names ts i ≡ sense names t

pub stands_at : (names : Names) (ts : List Term) (t : Term) (i : ℕ) → place_from ts t 0 ≡ Some i → StandsAt names ts t i
stands_at names ts t i e =
    let h = stands_behind names ts t 0 i e in
    let same : i ≡ h.index = omega (arith, h.is) in
    record { within = omega (arith, h.within, same); one = ap (placed names ts) same ∙ h.one }

-- ---- labels

-- each of these is an Int term or a Val term
abbrev pub AreTerms : List Term → Type 0
AreTerms [] = Unit {0}
AreTerms (t ∷ ts) = IsTermSort (sort_in t) × AreTerms ts

-- there is a label for each term, and terms with one label have one sense
pub record Respects (names : Names) (ts : List Term) (labels : List ℕ) : Type 0 where
  pub long : length labels ≡ length ts
  pub same : (i j : ℕ) → i < length ts → j < length ts → slice_index labels i ≡ slice_index labels j → placed names ts i ≡ placed names ts j

module _ (names : Names) (ts : List Term) where
  one_label : (labels : List ℕ) → Respects names ts labels → (s t : Term) → same_label (label_of labels (place_from ts s 0)) (label_of labels (place_from ts t 0)) ≡ true → sense names s ≡ sense names t
  one_label labels known s t e = by (place_from ts s 0) (place_from ts t 0) refl refl e
    where
      by : (o p : Option ℕ) → place_from ts s 0 ≡ o → place_from ts t 0 ≡ p → same_label (label_of labels o) (label_of labels p) ≡ true → sense names s ≡ sense names t
      by None p f g h = absurd cc
      by (Some i) None f g h = absurd cc
      by (Some i) (Some j) f g h =
          let a = stands_at names ts s i f in
          let b = stands_at names ts t j g in
          sym a.one ∙ (known.same i j a.within b.within (eqb-true (slice_index labels i) (slice_index labels j) h) ∙ b.one)

  pub one_class : (labels : List ℕ) → Respects names ts labels → (s t : Term) → in_one_class ts labels s t ≡ true → sense names s ≡ sense names t
  one_class labels known s t e =
      or_cases (same_term s t) (same_label (label_of labels (place_from ts s 0)) (label_of labels (place_from ts t 0))) (sense names s ≡ sense names t) e
      (λ f. ap (sense names) (terms_are s t f))
      (λ f. one_label labels known s t f)

  arguments : (labels : List ℕ) → Respects names ts labels → (ps qs : Parts) → arguments_equal ts labels ps qs ≡ true → senses_at names (senses_of ps) ≡ senses_at names (senses_of qs)
  arguments labels known no_parts no_parts e = refl
  arguments labels known no_parts (part t qs) e = absurd cc
  arguments labels known (part s ps) no_parts e = absurd cc
  arguments labels known (part s ps) (part t qs) e =
      let h = and_both (in_one_class ts labels s t) (arguments_equal ts labels ps qs) e in
      ap (λ (x : Sense). x ∷ senses_at names (senses_of ps)) (one_class labels known s t h.0) ∙ ap (λ (xs : List Sense). sense names t ∷ xs) (arguments labels known ps qs h.1)

  alike : (labels : List ℕ) → Respects names ts labels → (s t : Term) → IsTermSort (sort_in s) → are_congruent ts labels s t ≡ true → sense names s ≡ sense names t
  alike labels known (Of a ps) (Of b qs) is e =
      let h = and_both (same_symbol a b) (arguments_equal ts labels ps qs) e in
      same_head a names (senses_of ps) (senses_of qs) is (arguments labels known ps qs h.1) ∙ ap (λ (x : Symbol). meaning x (senses_of qs) names) (symbols_are a b h.0)

  -- ---- one class joins another

  moved_at : (labels : List ℕ) (a b i : ℕ) → i < length labels → slice_index (relabelled a b labels) i ≡ moved a b (slice_index labels i)
  moved_at labels a b i lt = get_or-map (moved a b) labels i 0 0 lt

  respects_moved : (labels : List ℕ) → Respects names ts labels → (m n : ℕ) → m < length ts → n < length ts → placed names ts m ≡ placed names ts n → (i j : ℕ) → i < length ts → j < length ts → moved (slice_index labels m) (slice_index labels n) (slice_index labels i) ≡ moved (slice_index labels m) (slice_index labels n) (slice_index labels j) → placed names ts i ≡ placed names ts j
  respects_moved labels known m n lm ln given i j li lj h = by (eqb (slice_index labels i) (slice_index labels m)) (eqb (slice_index labels j) (slice_index labels m)) refl refl h
    where
      by : (b c : Bool) → eqb (slice_index labels i) (slice_index labels m) ≡ b → eqb (slice_index labels j) (slice_index labels m) ≡ c → cond b (slice_index labels n) (slice_index labels i) ≡ cond c (slice_index labels n) (slice_index labels j) → placed names ts i ≡ placed names ts j
      by true true e f g = known.same i j li lj (eqb-true (slice_index labels i) (slice_index labels m) e ∙ sym (eqb-true (slice_index labels j) (slice_index labels m) f))
      by true false e f g = known.same i m li lm (eqb-true (slice_index labels i) (slice_index labels m) e) ∙ (given ∙ known.same n j ln lj g)
      by false true e f g = known.same i n li ln g ∙ (sym given ∙ known.same m j lm lj (sym (eqb-true (slice_index labels j) (slice_index labels m) f)))
      by false false e f g = known.same i j li lj g

  respects_equal : (labels : List ℕ) → Respects names ts labels → (v w : Term) → sense names v ≡ sense names w → Respects names ts (with_equal ts labels v w)
  respects_equal labels known v w given = by (place_from ts v 0) (place_from ts w 0) refl refl
    where
      by : (o p : Option ℕ) → place_from ts v 0 ≡ o → place_from ts w 0 ≡ p → Respects names ts (joined labels (label_of labels o) (label_of labels p))
      by None p f g = known
      by (Some m) None f g = known
      by (Some m) (Some n) f g =
          let a = stands_at names ts v m f in
          let b = stands_at names ts w n g in
          record {
            long = length-map labels (moved (slice_index labels m) (slice_index labels n)) ∙ known.long;
            same = λ i j li lj h.
                let ki : i < length labels = omega (arith, known.long, li) in
                let kj : j < length labels = omega (arith, known.long, lj) in
                respects_moved labels known m n a.within b.within (a.one ∙ (given ∙ sym b.one)) i j li lj
                (sym (moved_at labels (slice_index labels m) (slice_index labels n) i ki) ∙ (h ∙ moved_at labels (slice_index labels m) (slice_index labels n) j kj));
          }

  -- ---- literals and congruent terms

  respects_literal : (labels : List ℕ) → Respects names ts labels → (holds : Bool) (a : Term) → (sense names a).truth ≡ holds → IsFormula a → Respects names ts (with_literal ts labels holds a)
  respects_literal labels known true (Of equal (part v (part w no_parts))) told is = respects_equal labels known v w (same_datum_same names v w is.0.0 is.0.2.0 (data_are_equal (sense names v).datum (sense names w).datum told))
  respects_literal labels known holds a told is = known

  respects_equations : (labels : List ℕ) → Respects names ts labels → (ls : List Literal) → AllTold names ls → AreLiterals ls → Respects names ts (with_equations ts labels ls)
  respects_equations labels known [] told are = known
  respects_equations labels known (l ∷ ls) told are = respects_equations (with_literal ts labels l.holds l.atom) (respects_literal labels known l.holds l.atom told.0 are.0) ls told.1 are.1

  respects_pair : (labels : List ℕ) → Respects names ts labels → (s t : Term) (b : Bool) → IsTermSort (sort_in s) → are_congruent ts labels s t ≡ b → Respects names ts (cond b (with_equal ts labels s t) labels)
  respects_pair labels known s t true is e = respects_equal labels known s t (alike labels known s t is e)
  respects_pair labels known s t false is e = known

  respects_congruent : (labels : List ℕ) → Respects names ts labels → (s : Term) (us : List Term) → IsTermSort (sort_in s) → Respects names ts (with_congruent ts labels s us)
  respects_congruent labels known s [] is = known
  respects_congruent labels known s (t ∷ us) is = respects_congruent (cond (are_congruent ts labels s t) (with_equal ts labels s t) labels) (respects_pair labels known s t (are_congruent ts labels s t) is refl) s us is

  respects_all : (labels : List ℕ) → Respects names ts labels → (us : List Term) → AreTerms us → Respects names ts (with_all_congruent ts labels us)
  respects_all labels known [] are = known
  respects_all labels known (s ∷ us) are = respects_all (with_congruent ts labels s ts) (respects_congruent labels known s ts are.0) us are.1

  respects_rounds : (n : ℕ) (labels : List ℕ) → AreTerms ts → Respects names ts labels → Respects names ts (rounds n ts labels)
  respects_rounds zero labels are known = known
  respects_rounds (suc n) labels are known = respects_rounds n (with_all_congruent ts labels ts) are (respects_all labels known ts are)

  respects_first : Respects names ts (numbers_from 0 ts)
  respects_first = record {
    long = length_numbers 0 ts;
    same = λ i j li lj h.
        let e : i ≡ j = omega (arith, number_at ts 0 i li, number_at ts 0 j lj, h) in
        ap (placed names ts) e;
  }

  -- the classes of a node
  pub classes_respect : (ls : List Literal) → AreTerms ts → AllTold names ls → AreLiterals ls → Respects names ts (classes ts ls)
  classes_respect ls are told literals = respects_rounds (length ts) (with_equations ts (numbers_from 0 ts) ls) are (respects_equations (numbers_from 0 ts) respects_first ls told literals)
