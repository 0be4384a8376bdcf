-- Terms in one class are related by each congruence on the terms present that has the equations, also by one whose relation is a type.
use Rattle.std.proofs.Common.{◌≡◌, ◌⊎◌, ◌∙◌, ◌<◌, ◌&&◌, ◌||◌, ℕ, zero, suc, List, [], ◌∷◌, length, Bool, true, false, cond, eqb, Option, Some, None, inl, inr, refl, sym, ap, subst, arith}
use Rattle.std.specs.Prelude.{slice_index}
use Rattle.std.specs.Bool.{beq}
use Rattle.std.proofs.lemmas.Bool.{eqb-true}
use Rattle.std.proofs.lemmas.List.{length-map}
use Rattle.wy_lemmas.proofs.Choices.{both_parts as both}
use Rattle.wy_lemmas.proofs.Numbers.{moved}
use Rattle.wy_search_spec.proofs.SharedLemmas.{length_numbers, number_at}
use Rattle.wy_check_spec.specs.wy_term.Term.{Symbol, Term, Of, Parts, no_parts, part, two, equal}
use Rattle.wy_check_spec.specs.wy_term.Same.{same_symbol, same_term}
use Rattle.wy_check_spec.proofs.wy_term_proofs.SameLemmas.{symbols_are, terms_are, terms_self}
use Rattle.wy_check_spec.specs.judge.Node.{Literal, same_literal, has_literal}
use Rattle.wy_search_spec.specs.Classes.{place_from, label_of, same_label, in_one_class, arguments_equal, are_congruent, joined, with_equal, with_literal, with_equations, with_congruent, with_all_congruent, rounds, numbers_from, classes}
use Rattle.wy_search_spec.specs.least.Least.{AreAlike, AreBoth, IsAmong, IsCongruence}
use Rattle.wy_search_spec.proofs.least_lemmas.PlaceLemmas.{among, place_below, place_same}
use Rattle.wy_search_spec.proofs.least_lemmas.SizeLemmas.{moved_at}

-- ---- congruences whose relation is a type

-- the two terms are of the list, and related
pub record ArePair (ts : List Term) (R : Term → Term → Type 0) (s t : Term) : Type 0 where
  pub first : IsAmong ts s
  pub second : IsAmong ts t
  pub related : R s t

-- as many parts of both, which are pairwise one term or two related ones of the list
abbrev pub ArePairs : List Term → (Term → Term → Type 0) → Parts → Parts → Type 0
ArePairs ts R no_parts no_parts = Unit {0}
ArePairs ts R no_parts (part t qs) = ⊥
ArePairs ts R (part s ps) no_parts = ⊥
ArePairs ts R (part s ps) (part t qs) = ((s ≡ t) ⊎ ArePair ts R s t) × ArePairs ts R ps qs

pub record Relates (ts : List Term) (ls : List Literal) (R : Term → Term → Type 0) : Type 0 where
  pub reflexive : (t : Term) → IsAmong ts t → R t t
  pub symmetric : (s t : Term) → IsAmong ts s → IsAmong ts t → R s t → R t s
  pub transitive : (s t u : Term) → IsAmong ts s → IsAmong ts t → IsAmong ts u → R s t → R t u → R s u
  pub has : (v w : Term) → IsAmong ts v → IsAmong ts w → has_literal ls (record { atom = two equal v w; holds = true }) ≡ true → R v w
  pub congruent : (a : Symbol) (ps qs : Parts) → IsAmong ts (Of a ps) → IsAmong ts (Of a qs) → ArePairs ts R ps qs → R (Of a ps) (Of a qs)

-- ---- labels

abbrev label : List Term → List ℕ → Term → Option ℕ
label ts labels t = label_of labels (place_from ts t 0)

-- there is a label for each term, and terms with one label are related
record IsSound (R : Term → Term → Type 0) (ts : List Term) (labels : List ℕ) : Type 0 where
  long : length labels ≡ length ts
  sound : (s t : Term) (i j : ℕ) → place_from ts s 0 ≡ Some i → place_from ts t 0 ≡ Some j → slice_index labels i ≡ slice_index labels j → R s t

module _ (ls : List Literal) (R : Term → Term → Type 0) (ts : List Term) (is : Relates ts ls R) where
  one_label : (labels : List ℕ) → IsSound R ts labels → (s t : Term) → same_label (label ts labels s) (label ts labels t) ≡ true → ArePair ts R s t
  one_label labels known s t e = by (place_from ts s 0) (place_from ts t 0) refl refl e
    where
      by : (o p : Option ℕ) → place_from ts s 0 ≡ o → place_from ts t 0 ≡ p → same_label (label_of labels o) (label_of labels p) ≡ true → ArePair ts R s t
      by None p f g h = absurd cc
      by (Some i) None f g h = absurd cc
      by (Some i) (Some j) f g h = record { first = among ts s i f; second = among ts t j g; related = known.sound s t i j f g (eqb-true (slice_index labels i) (slice_index labels j) h) }

  argument : (labels : List ℕ) → IsSound R ts labels → (s t : Term) → in_one_class ts labels s t ≡ true → (s ≡ t) ⊎ ArePair ts R s t
  argument labels known s t e = by (same_term s t) refl e
    where
      by : (b : Bool) → same_term s t ≡ b → (b || same_label (label ts labels s) (label ts labels t)) ≡ true → (s ≡ t) ⊎ ArePair ts R s t
      by true f h = inl (terms_are s t f)
      by false f h = inr (one_label labels known s t h)

  arguments : (labels : List ℕ) → IsSound R ts labels → (ps qs : Parts) → arguments_equal ts labels ps qs ≡ true → ArePairs ts R ps qs
  arguments labels known no_parts no_parts e = tt
  arguments labels known no_parts (part t qs) e = absurd cc
  arguments labels known (part s ps) no_parts e = absurd cc
  arguments labels known (part s ps) (part t qs) e =
      let h = both (in_one_class ts labels s t) (arguments_equal ts labels ps qs) e in
      (argument labels known s t h.0, arguments labels known ps qs h.1)

  alike : (labels : List ℕ) → IsSound R ts labels → (s t : Term) → IsAmong ts s → IsAmong ts t → are_congruent ts labels s t ≡ true → R s t
  alike labels known (Of a ps) (Of b qs) here there e =
      let h = both (same_symbol a b) (arguments_equal ts labels ps qs) e in
      let same : a ≡ b = symbols_are a b h.0 in
      subst (λ (c : Symbol). R (Of a ps) (Of c qs)) same
      (is.congruent a ps qs here (subst (λ (c : Symbol). IsAmong ts (Of c qs)) (sym same) there) (arguments labels known ps qs h.1))

  -- ---- one class joins another

  respects : (labels : List ℕ) → IsSound R ts labels → (v w : Term) (m n : ℕ) → place_from ts v 0 ≡ Some m → place_from ts w 0 ≡ Some n → R v w → (s t : Term) (i j : ℕ) → place_from ts s 0 ≡ Some i → place_from ts t 0 ≡ Some j
      → moved (slice_index labels m) (slice_index labels n) (slice_index labels i) ≡ moved (slice_index labels m) (slice_index labels n) (slice_index labels j) → R s t
  respects labels known v w m n pv pw given s t i j ps pt h = by (eqb (slice_index labels i) (slice_index labels m)) (eqb (slice_index labels j) (slice_index labels m)) refl refl h
    where
      av : IsAmong ts v
      av = among ts v m pv

      aw : IsAmong ts w
      aw = among ts w n pw

      here : IsAmong ts s
      here = among ts s i ps

      there : IsAmong ts t
      there = among ts t j pt

      by : (b c : Bool) → eqb (slice_index labels i) (slice_index labels m) ≡ b → eqb (slice_index labels j) (slice_index labels m) ≡ c → cond b (slice_index labels n) (slice_index labels i) ≡ cond c (slice_index labels n) (slice_index labels j) → R s t
      by true true e f g = known.sound s t i j ps pt (eqb-true (slice_index labels i) (slice_index labels m) e ∙ sym (eqb-true (slice_index labels j) (slice_index labels m) f))
      by true false e f g =
          is.transitive s v t here av there (known.sound s v i m ps pv (eqb-true (slice_index labels i) (slice_index labels m) e))
          (is.transitive v w t av aw there given (known.sound w t n j pw pt g))
      by false true e f g =
          is.transitive s w t here aw there (known.sound s w i n ps pw g)
          (is.transitive w v t aw av there (is.symmetric v w av aw given) (known.sound v t m j pv pt (sym (eqb-true (slice_index labels j) (slice_index labels m) f))))
      by false false e f g = known.sound s t i j ps pt g

  sound_equal : (labels : List ℕ) → IsSound R ts labels → (v w : Term) → (IsAmong ts v → IsAmong ts w → R v w) → IsSound R ts (with_equal ts labels v w)
  sound_equal labels known v w given = by (place_from ts v 0) (place_from ts w 0) refl refl
    where
      by : (o p : Option ℕ) → place_from ts v 0 ≡ o → place_from ts w 0 ≡ p → IsSound R ts (joined labels (label_of labels o) (label_of labels p))
      by None p f g = known
      by (Some m) None f g = known
      by (Some m) (Some n) f g = record {
        long = length-map labels (moved (slice_index labels m) (slice_index labels n)) ∙ known.long;
        sound = λ s t i j ps pt h.
            let li : i < length labels = omega (arith, known.long, place_below ts s i ps) in
            let lj : j < length labels = omega (arith, known.long, place_below ts t j pt) in
            respects labels known v w m n f g (given (among ts v m f) (among ts w n g)) s t i j ps pt (sym (moved_at labels (slice_index labels m) (slice_index labels n) i li) ∙ (h ∙ moved_at labels (slice_index labels m) (slice_index labels n) j lj));
      }

  -- ---- literals and congruent terms

  sound_literal : (labels : List ℕ) → IsSound R ts labels → (holds : Bool) (a : Term) → ((v w : Term) → holds ≡ true → a ≡ two equal v w → IsAmong ts v → IsAmong ts w → R v w) → IsSound R ts (with_literal ts labels holds a)
  sound_literal labels known true (Of equal (part v (part w no_parts))) given = sound_equal labels known v w (given v w refl refl)
  sound_literal labels known holds a given = known

  sound_equations : (labels : List ℕ) → IsSound R ts labels → (ks : List Literal) → ((v w : Term) → has_literal ks (record { atom = two equal v w; holds = true }) ≡ true → IsAmong ts v → IsAmong ts w → R v w) → IsSound R ts (with_equations ts labels ks)
  sound_equations labels known [] given = known
  sound_equations labels known (k ∷ ks) given =
      sound_equations (with_literal ts labels k.holds k.atom)
      (sound_literal labels known k.holds k.atom (λ v w up e. given v w (here v w up e)))
      ks (λ v w e. given v w (later v w e))
    where
      here : (v w : Term) → k.holds ≡ true → k.atom ≡ two equal v w → has_literal (k ∷ ks) (record { atom = two equal v w; holds = true }) ≡ true
      here v w up e = by (same_literal k (record { atom = two equal v w; holds = true })) same
        where
          same : same_literal k (record { atom = two equal v w; holds = true }) ≡ true
          same = ap (λ (a : Term). same_term a (two equal v w) && beq k.holds true) e ∙ (ap (λ (b : Bool). same_term (two equal v w) (two equal v w) && beq b true) up ∙ ap (λ (b : Bool). b && true) (terms_self (two equal v w)))

          by : (b : Bool) → b ≡ true → cond b true (has_literal ks (record { atom = two equal v w; holds = true })) ≡ true
          by true f = refl
          by false f = absurd cc

      later : (v w : Term) → has_literal ks (record { atom = two equal v w; holds = true }) ≡ true → has_literal (k ∷ ks) (record { atom = two equal v w; holds = true }) ≡ true
      later v w e = by (same_literal k (record { atom = two equal v w; holds = true }))
        where
          by : (b : Bool) → cond b true (has_literal ks (record { atom = two equal v w; holds = true })) ≡ true
          by true = refl
          by false = e

  sound_pair : (labels : List ℕ) → IsSound R ts labels → (s t : Term) (b : Bool) → are_congruent ts labels s t ≡ b → IsSound R ts (cond b (with_equal ts labels s t) labels)
  sound_pair labels known s t true e = sound_equal labels known s t (λ here there. alike labels known s t here there e)
  sound_pair labels known s t false e = known

  sound_congruent : (labels : List ℕ) → IsSound R ts labels → (s : Term) (us : List Term) → IsSound R ts (with_congruent ts labels s us)
  sound_congruent labels known s [] = known
  sound_congruent labels known s (t ∷ us) = sound_congruent (cond (are_congruent ts labels s t) (with_equal ts labels s t) labels) (sound_pair labels known s t (are_congruent ts labels s t) refl) s us

  sound_all : (labels : List ℕ) → IsSound R ts labels → (us : List Term) → IsSound R ts (with_all_congruent ts labels us)
  sound_all labels known [] = known
  sound_all labels known (s ∷ us) = sound_all (with_congruent ts labels s ts) (sound_congruent labels known s ts) us

  sound_rounds : (n : ℕ) (labels : List ℕ) → IsSound R ts labels → IsSound R ts (rounds n ts labels)
  sound_rounds zero labels known = known
  sound_rounds (suc n) labels known = sound_rounds n (with_all_congruent ts labels ts) (sound_all labels known ts)

  -- ---- the classes

  sound_first : IsSound R ts (numbers_from 0 ts)
  sound_first = record {
    long = length_numbers 0 ts;
    sound = λ s t i j ps pt h.
        let li : i < length ts = place_below ts s i ps in
        let lj : j < length ts = place_below ts t j pt in
        let e : i ≡ j = omega (arith, number_at ts 0 i li, number_at ts 0 j lj, h) in
        subst (λ (u : Term). R s u) (place_same ts s t i ps (pt ∙ ap (λ (n : ℕ). Some n) (sym e))) (is.reflexive s (among ts s i ps));
  }

  pub related_classes : (s t : Term) → IsAmong ts s → in_one_class ts (classes ts ls) s t ≡ true → R s t
  related_classes s t here e = by (argument (classes ts ls) (sound_rounds (length ts) (with_equations ts (numbers_from 0 ts) ls) (sound_equations (numbers_from 0 ts) sound_first ls (λ v w h av aw. is.has v w av aw h))) s t e)
    where
      by : (s ≡ t) ⊎ ArePair ts R s t → R s t
      by (inl same) = subst (λ (u : Term). R s u) same (is.reflexive s here)
      by (inr both) = both.related

-- ---- one that answers yes or no

alike_pairs : (ts : List Term) (R : Term → Term → Bool) (ps qs : Parts) → ArePairs ts (λ s t. R s t ≡ true) ps qs → AreAlike ts R ps qs
alike_pairs ts R no_parts no_parts h = tt
alike_pairs ts R no_parts (part t qs) h = absurd h
alike_pairs ts R (part s ps) no_parts h = absurd h
alike_pairs ts R (part s ps) (part t qs) h = (one h.0, alike_pairs ts R ps qs h.1)
  where
    one : (s ≡ t) ⊎ ArePair ts (λ v w. R v w ≡ true) s t → (s ≡ t) ⊎ AreBoth ts R s t
    one (inl same) = inl same
    one (inr pair) = inr (record { first = pair.first; second = pair.second; related = pair.related })

pub sound_classes : (ls : List Literal) (R : Term → Term → Bool) (ts : List Term) → IsCongruence ts ls R → (s t : Term) → IsAmong ts s → in_one_class ts (classes ts ls) s t ≡ true → R s t ≡ true
sound_classes ls R ts is s t here e =
    related_classes ls (λ v w. R v w ≡ true) ts
    (record {
      reflexive = is.reflexive;
      symmetric = is.symmetric;
      transitive = is.transitive;
      has = is.has;
      congruent = λ a ps qs first second pairs. is.congruent a ps qs first second (alike_pairs ts R ps qs pairs);
    })
    s t here e
