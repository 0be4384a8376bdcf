-- The classes are a congruence on the terms present, and the least one.
use Rattle.std.proofs.Common.{◌≡◌, ◌⊎◌, ◌∙◌, ◌≤◌, ◌&&◌, ◌||◌, ℕ, List, length, Bool, true, false, eqb, Option, Some, inl, inr, refl, sym, ap, subst, arith}
use Rattle.std.specs.Prelude.{slice_index}
use Rattle.std.proofs.lemmas.Bool.{eqb-true}
use Rattle.wy_lemmas.proofs.Choices.{or_right as either_second}
use Rattle.wy_lemmas.proofs.Options.{some_number_is as some_is}
use Rattle.wy_check_spec.specs.wy_term.Term.{Symbol, Term, Of, Parts, no_parts, part}
use Rattle.wy_check_spec.specs.wy_term.Same.{same_term}
use Rattle.wy_check_spec.proofs.wy_term_proofs.SameLemmas.{symbols_self, terms_are, terms_self}
use Rattle.wy_search_spec.specs.Classes.{place_from, label_of, same_label, in_one_class, arguments_equal, are_congruent, classes}
use Rattle.wy_search_spec.specs.least.Least.{AreAlike, AreBoth, ClassesAreCongruent, ClassesAreLeast, IsAmong}
use Rattle.wy_search_spec.proofs.least_lemmas.PlaceLemmas.{place_below, placed}
use Rattle.wy_search_spec.proofs.least_lemmas.RoundLemmas.{AreJoined, classes_closed, classes_joined}
use Rattle.wy_search_spec.proofs.least_lemmas.SoundLemmas.{sound_classes}

eqb_same : (m n : ℕ) → m ≡ n → eqb m n ≡ true
eqb_same m n e = grind (arith, e)

module _ (ts : List Term) (labels : List ℕ) where
  -- ---- one class is one label

  to_label : (s t : Term) → in_one_class ts labels s t ≡ true → AreJoined ts labels s t
  to_label s t e i j x y = by (same_term s t) refl e
    where
      by : (b : Bool) → same_term s t ≡ b → (b || same_label (label_of labels (place_from ts s 0)) (label_of labels (place_from ts t 0))) ≡ true → slice_index labels i ≡ slice_index labels j
      by true f g = ap (λ (k : ℕ). slice_index labels k) (some_is i j (sym x ∙ (ap (λ (u : Term). place_from ts u 0) (terms_are s t f) ∙ y)))
      by false f g =
          eqb-true (slice_index labels i) (slice_index labels j)
          (sym (ap (λ (o : Option ℕ). same_label (label_of labels o) (label_of labels (place_from ts t 0))) x ∙ ap (λ (o : Option ℕ). same_label (Some (slice_index labels i)) (label_of labels o)) y) ∙ g)

  from_label : (s t : Term) → IsAmong ts s → IsAmong ts t → AreJoined ts labels s t → in_one_class ts labels s t ≡ true
  from_label s t here there h =
      let p = placed ts s here in
      let q = placed ts t there in
      either_second (same_term s t) (same_label (label_of labels (place_from ts s 0)) (label_of labels (place_from ts t 0)))
      (ap (λ (o : Option ℕ). same_label (label_of labels o) (label_of labels (place_from ts t 0))) p.is
      ∙ (ap (λ (o : Option ℕ). same_label (Some (slice_index labels p.at)) (label_of labels o)) q.is
      ∙ eqb_same (slice_index labels p.at) (slice_index labels q.at) (h p.at q.at p.is q.is)))

  self : (t : Term) → in_one_class ts labels t t ≡ true
  self t = ap (λ (b : Bool). b || same_label (label_of labels (place_from ts t 0)) (label_of labels (place_from ts t 0))) (terms_self t)

  -- ---- it is an equivalence, and so are parts

  turned : (s t : Term) → IsAmong ts s → IsAmong ts t → in_one_class ts labels s t ≡ true → in_one_class ts labels t s ≡ true
  turned s t here there e = from_label t s there here (λ i j x y. sym (to_label s t e j i y x))

  passed : (s t u : Term) → IsAmong ts s → IsAmong ts t → IsAmong ts u → in_one_class ts labels s t ≡ true → in_one_class ts labels t u ≡ true → in_one_class ts labels s u ≡ true
  passed s t u here there last e f =
      let q = placed ts t there in
      from_label s u here last (λ i j x y. to_label s t e i q.at x q.is ∙ to_label t u f q.at j q.is y)

  arguments : (ps qs : Parts) → AreAlike ts (in_one_class ts labels) ps qs → arguments_equal ts labels ps qs ≡ true
  arguments no_parts no_parts h = refl
  arguments no_parts (part t qs) h = absurd h
  arguments (part s ps) no_parts h = absurd h
  arguments (part s ps) (part t qs) h = ap (λ (b : Bool). b && arguments_equal ts labels ps qs) (one h.0) ∙ arguments ps qs h.1
    where
      one : (s ≡ t) ⊎ AreBoth ts (in_one_class ts labels) s t → in_one_class ts labels s t ≡ true
      one (inl same) = subst (λ (u : Term). in_one_class ts labels s u ≡ true) same (self s)
      one (inr both) = both.related

  congruent : (a : Symbol) (ps qs : Parts) → AreAlike ts (in_one_class ts labels) ps qs → are_congruent ts labels (Of a ps) (Of a qs) ≡ true
  congruent a ps qs h = ap (λ (b : Bool). b && arguments_equal ts labels ps qs) (symbols_self a) ∙ arguments ps qs h

pub classes_congruent : ClassesAreCongruent
classes_congruent ts ls = record {
  reflexive = λ t here. self ts labels t;
  symmetric = turned ts labels;
  transitive = passed ts labels;
  has = λ v w here there h. from_label ts labels v w here there (classes_joined ts ls v w h);
  congruent = λ a ps qs here there h.
      let p = placed ts (Of a ps) here in
      let some : 1 ≤ length ts = omega (arith, place_below ts (Of a ps) p.at p.is) in
      from_label ts labels (Of a ps) (Of a qs) here there (classes_closed ts ls some (Of a ps) here (Of a qs) there (congruent ts labels a ps qs h));
}
  where
    labels : List ℕ
    labels = classes ts ls

pub classes_least : ClassesAreLeast
classes_least ts ls s t here there = record {
  sound = λ e R is. sound_classes ls R ts is s t here e;
  least = λ h. h (in_one_class ts (classes ts ls)) (classes_congruent ts ls);
}
