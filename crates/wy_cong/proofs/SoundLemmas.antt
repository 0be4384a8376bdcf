-- Terms in one class are equal in each congruence that has the equations.
use Rattle.std.proofs.Common.{◌≡◌, ◌∙◌, ◌+◌, ◌<◌, ◌&&◌, ◌||◌, ℕ, zero, suc, List, [], ◌∷◌, length, Bool, true, false, cond, eqb, Option, Some, None, refl, sym, ap, subst, arith}
use Rattle.std.specs.Prelude.{slice_index}
use Rattle.std.specs.Bool.{beq}
use Rattle.std.proofs.lemmas.Bool.{eqb-true}
use Rattle.std.proofs.lemmas.List.{get_or-map, length-map}
use Rattle.wy_lemmas.proofs.Choices.{both_parts as both}
use Rattle.wy_lemmas.proofs.Options.{below_step}
use Rattle.wy_search_spec.proofs.SharedLemmas.{length_numbers, number_at, place_above}
use Rattle.wy_term.proofs.SharedLemmas.{same_step}
use Rattle.wy_term.specs.Term.{Symbol, Term, Of, Parts, no_parts, part, two, equal}
use Rattle.wy_term.specs.Same.{same_symbol, same_term}
use Rattle.wy_term.proofs.SameLemmas.{symbols_are, terms_are, terms_self}
use Rattle.wy_search_spec.specs.wy_check_spec.judge.Node.{Literal, same_literal, has_literal}
use Rattle.wy_search_spec.specs.Classes.{place_from, label_of, same_label, in_one_class, arguments_equal, are_congruent, relabelled, joined, with_equal, with_literal, with_equations, with_congruent, with_all_congruent, rounds, numbers_from, classes}
use Rattle.wy_cong.specs.Heads.{moved}
use Rattle.wy_cong.specs.Congruence.{AreRelated, IsCongruence, ClassesAreSound}

-- ---- places

place_below : (ts : List Term) (t : Term) (k i : ℕ) → place_from ts t k ≡ Some i → i < k + length ts
place_below [] t k i e = absurd cc
place_below (u ∷ us) t k i e = below_step (same_term u t) k i (length us) (place_from us t (suc k)) (λ f. place_below us t (suc k) i f) e

-- two terms with one place are equal
place_same : (ts : List Term) (s t : Term) (k i : ℕ) → place_from ts s k ≡ Some i → place_from ts t k ≡ Some i → s ≡ t
place_same [] s t k i e f = absurd cc
place_same (u ∷ us) s t k i e f =
    same_step u s t k i (place_from us s (suc k)) (place_from us t (suc k)) (same_term u s) (same_term u t) refl refl
    (λ x. place_above us s (suc k) i x) (λ y. place_above us t (suc k) i y) (λ x y. place_same us s t (suc k) i x y) e f

-- ---- sound labels

abbrev label : List Term → List ℕ → Term → Option ℕ
label ts labels t = label_of labels (place_from ts t 0)

-- there is a label for each term, and terms with one label are related
record IsSound (R : Term → Term → Bool) (ts : List Term) (labels : List ℕ) : Type 0 where
  long : length labels ≡ length ts
  sound : (s t : Term) (i j : ℕ) → place_from ts s 0 ≡ Some i → place_from ts t 0 ≡ Some j → slice_index labels i ≡ slice_index labels j → R s t ≡ true

or_is : (a b : Bool) → (a || b) ≡ true → (P : Type 0) → (a ≡ true → P) → (b ≡ true → P) → P
or_is true b e P f g = f refl
or_is false b e P f g = g e

module _ (ls : List Literal) (R : Term → Term → Bool) (is : IsCongruence ls R) (ts : List Term) where
  one_label : (labels : List ℕ) → IsSound R ts labels → (s t : Term) → same_label (label ts labels s) (label ts labels t) ≡ true → R s t ≡ true
  one_label labels known s t e = by (place_from ts s 0) (place_from ts t 0) refl refl e
    where
      by : (o p : Option ℕ) → place_from ts s 0 ≡ o → place_from ts t 0 ≡ p → same_label (label_of labels o) (label_of labels p) ≡ true → R s t ≡ true
      by None p f g h = absurd cc
      by (Some i) None f g h = absurd cc
      by (Some i) (Some j) f g h = known.sound s t i j f g (eqb-true (slice_index labels i) (slice_index labels j) h)

  one_class : (labels : List ℕ) → IsSound R ts labels → (s t : Term) → in_one_class ts labels s t ≡ true → R s t ≡ true
  one_class labels known s t e =
      or_is (same_term s t) (same_label (label ts labels s) (label ts labels t)) e (R s t ≡ true)
      (λ f. subst (λ (u : Term). R s u ≡ true) (terms_are s t f) (is.reflexive s))
      (one_label labels known s t)

  arguments : (labels : List ℕ) → IsSound R ts labels → (ps qs : Parts) → arguments_equal ts labels ps qs ≡ true → AreRelated R ps qs
  arguments labels known no_parts no_parts e = tt
  arguments labels known no_parts (part t qs) e = absurd cc
  arguments labels known (part s ps) no_parts e = absurd cc
  arguments labels known (part s ps) (part t qs) e =
      let h = both (in_one_class ts labels s t) (arguments_equal ts labels ps qs) e in
      (one_class labels known s t h.0, arguments labels known ps qs h.1)

  alike : (labels : List ℕ) → IsSound R ts labels → (s t : Term) → are_congruent ts labels s t ≡ true → R s t ≡ true
  alike labels known (Of a ps) (Of b qs) e =
      let h = both (same_symbol a b) (arguments_equal ts labels ps qs) e in
      subst (λ (c : Symbol). R (Of a ps) (Of c qs) ≡ true) (symbols_are a b h.0) (is.congruent a ps qs (arguments labels known ps qs h.1))

  -- ---- one class joins another

  moved_at : (labels : List ℕ) (a b i : ℕ) → i < length labels → slice_index (relabelled a b labels) i ≡ moved a b (slice_index labels i)
  moved_at labels a b i lt = get_or-map (moved a b) labels i 0 0 lt

  respects : (labels : List ℕ) → IsSound R ts labels → (v w : Term) (m n : ℕ) → place_from ts v 0 ≡ Some m → place_from ts w 0 ≡ Some n → R v w ≡ true → (s t : Term) (i j : ℕ) → place_from ts s 0 ≡ Some i → place_from ts t 0 ≡ Some j → moved (slice_index labels m) (slice_index labels n) (slice_index labels i) ≡ moved (slice_index labels m) (slice_index labels n) (slice_index labels j) → R s t ≡ true
  respects labels known v w m n pv pw given s t i j ps pt h = by (eqb (slice_index labels i) (slice_index labels m)) (eqb (slice_index labels j) (slice_index labels m)) refl refl h
    where
      by : (b c : Bool) → eqb (slice_index labels i) (slice_index labels m) ≡ b → eqb (slice_index labels j) (slice_index labels m) ≡ c → cond b (slice_index labels n) (slice_index labels i) ≡ cond c (slice_index labels n) (slice_index labels j) → R s t ≡ true
      by true true e f g = known.sound s t i j ps pt (eqb-true (slice_index labels i) (slice_index labels m) e ∙ sym (eqb-true (slice_index labels j) (slice_index labels m) f))
      by true false e f g =
          is.transitive s v t (known.sound s v i m ps pv (eqb-true (slice_index labels i) (slice_index labels m) e))
          (is.transitive v w t given (known.sound w t n j pw pt g))
      by false true e f g =
          is.transitive s w t (known.sound s w i n ps pw g)
          (is.transitive w v t (is.symmetric v w given) (known.sound v t m j pv pt (sym (eqb-true (slice_index labels j) (slice_index labels m) f))))
      by false false e f g = known.sound s t i j ps pt g

  sound_equal : (labels : List ℕ) → IsSound R ts labels → (v w : Term) → R v w ≡ true → IsSound R ts (with_equal ts labels v w)
  sound_equal labels known v w given = by (place_from ts v 0) (place_from ts w 0) refl refl
    where
      by : (o p : Option ℕ) → place_from ts v 0 ≡ o → place_from ts w 0 ≡ p → IsSound R ts (joined labels (label_of labels o) (label_of labels p))
      by None p f g = known
      by (Some m) None f g = known
      by (Some m) (Some n) f g = record {
        long = length-map labels (moved (slice_index labels m) (slice_index labels n)) ∙ known.long;
        sound = λ s t i j ps pt h.
            let li : i < length labels = omega (arith, known.long, place_below ts s 0 i ps) in
            let lj : j < length labels = omega (arith, known.long, place_below ts t 0 j pt) in
            respects labels known v w m n f g given s t i j ps pt (sym (moved_at labels (slice_index labels m) (slice_index labels n) i li) ∙ (h ∙ moved_at labels (slice_index labels m) (slice_index labels n) j lj));
      }

  -- ---- literals and congruent terms

  sound_literal : (labels : List ℕ) → IsSound R ts labels → (holds : Bool) (a : Term) → ((v w : Term) → holds ≡ true → a ≡ two equal v w → R v w ≡ true) → IsSound R ts (with_literal ts labels holds a)
  sound_literal labels known true (Of equal (part v (part w no_parts))) given = sound_equal labels known v w (given v w refl refl)
  sound_literal labels known holds a given = known

  sound_equations : (labels : List ℕ) → IsSound R ts labels → (ks : List Literal) → ((v w : Term) → has_literal ks (record { atom = two equal v w; holds = true }) ≡ true → R v w ≡ true) → IsSound R ts (with_equations ts labels ks)
  sound_equations labels known [] given = known
  sound_equations labels known (k ∷ ks) given =
      sound_equations (with_literal ts labels k.holds k.atom)
      (sound_literal labels known k.holds k.atom (λ v w up e. given v w (here v w up e)))
      ks (λ v w e. given v w (later v w e))
    where
      here : (v w : Term) → k.holds ≡ true → k.atom ≡ two equal v w → has_literal (k ∷ ks) (record { atom = two equal v w; holds = true }) ≡ true
      here v w up e = by (same_literal k (record { atom = two equal v w; holds = true })) same
        where
          same : same_literal k (record { atom = two equal v w; holds = true }) ≡ true
          same = ap (λ (a : Term). same_term a (two equal v w) && beq k.holds true) e ∙ (ap (λ (b : Bool). same_term (two equal v w) (two equal v w) && beq b true) up ∙ ap (λ (b : Bool). b && true) (terms_self (two equal v w)))

          by : (b : Bool) → b ≡ true → cond b true (has_literal ks (record { atom = two equal v w; holds = true })) ≡ true
          by true f = refl
          by false f = absurd cc

      later : (v w : Term) → has_literal ks (record { atom = two equal v w; holds = true }) ≡ true → has_literal (k ∷ ks) (record { atom = two equal v w; holds = true }) ≡ true
      later v w e = by (same_literal k (record { atom = two equal v w; holds = true }))
        where
          by : (b : Bool) → cond b true (has_literal ks (record { atom = two equal v w; holds = true })) ≡ true
          by true = refl
          by false = e

  sound_pair : (labels : List ℕ) → IsSound R ts labels → (s t : Term) (b : Bool) → are_congruent ts labels s t ≡ b → IsSound R ts (cond b (with_equal ts labels s t) labels)
  sound_pair labels known s t true e = sound_equal labels known s t (alike labels known s t e)
  sound_pair labels known s t false e = known

  sound_congruent : (labels : List ℕ) → IsSound R ts labels → (s : Term) (us : List Term) → IsSound R ts (with_congruent ts labels s us)
  sound_congruent labels known s [] = known
  sound_congruent labels known s (t ∷ us) = sound_congruent (cond (are_congruent ts labels s t) (with_equal ts labels s t) labels) (sound_pair labels known s t (are_congruent ts labels s t) refl) s us

  sound_all : (labels : List ℕ) → IsSound R ts labels → (us : List Term) → IsSound R ts (with_all_congruent ts labels us)
  sound_all labels known [] = known
  sound_all labels known (s ∷ us) = sound_all (with_congruent ts labels s ts) (sound_congruent labels known s ts) us

  sound_rounds : (n : ℕ) (labels : List ℕ) → IsSound R ts labels → IsSound R ts (rounds n ts labels)
  sound_rounds zero labels known = known
  sound_rounds (suc n) labels known = sound_rounds n (with_all_congruent ts labels ts) (sound_all labels known ts)

  -- ---- the first classes

  sound_first : IsSound R ts (numbers_from 0 ts)
  sound_first = record {
    long = length_numbers 0 ts;
    sound = λ s t i j ps pt h.
        let li : i < length ts = omega (arith, place_below ts s 0 i ps) in
        let lj : j < length ts = omega (arith, place_below ts t 0 j pt) in
        let e : i ≡ j = omega (arith, number_at ts 0 i li, number_at ts 0 j lj, h) in
        subst (λ (u : Term). R s u ≡ true) (place_same ts s t 0 i ps (pt ∙ ap (λ (n : ℕ). Some n) (sym e))) (is.reflexive s);
  }

  sound_classes : (s t : Term) → in_one_class ts (classes ts ls) s t ≡ true → R s t ≡ true
  sound_classes s t e =
      one_class (classes ts ls)
      (sound_rounds (length ts) (with_equations ts (numbers_from 0 ts) ls) (sound_equations (numbers_from 0 ts) sound_first ls is.has))
      s t e

pub classes_sound : ClassesAreSound
classes_sound ts ls R is s t e = sound_classes ls R is ts s t e
