-- What a formula means in which a term is put for an Int name or a Val name.
use Rattle.std.proofs.Common.{◌≡◌, ℕ, List, [], ◌∷◌, Bool, true, false, cond, eqb, ◌&&◌, Some, None, refl, ap, ◌∙◌, subst}
use Rattle.std.proofs.lemmas.Bool.{eqb-true}
use Rattle.std.specs.Prelude.{bytes_eq}
use Rattle.wy_lemmas.proofs.Choices.{eqb_itself as eqb_self, both_parts as both, same_test as same_bools}
use Rattle.wy_lemmas.proofs.Lists.{bytes_self, bytes_are}
use Rattle.wy_check_spec.specs.wy_term.Term.{Term, Of, leaf, int_name, val_name}
use Rattle.wy_check_spec.specs.wy_term.Same.{same_term}
use Rattle.wy_check_spec.specs.wy_term.Scope.{free_names}
use Rattle.wy_check_spec.specs.wy_term.Sorts.{Sort, int_sort, val_sort, formula_sort, sort_in, Agree}
use Rattle.wy_check_spec.specs.wy_term.Meaning.{Names, with_number, with_datum, Sense, sense}
use Rattle.wy_check_spec.specs.wy_term.Folding.{found_or}
use Rattle.wy_check_spec.proofs.wy_term_subst_proofs.sorted_lemmas.SortedLemmas.{under, name_test}
use Rattle.wy_check_spec.specs.wy_term_subst.kept_sorts.SortKept.{HasSort}
use Rattle.wy_check_spec.specs.wy_term_subst.Substitution.{substituted}
use Rattle.wy_check_spec.proofs.wy_term_subst_proofs.substituted_lemmas.MeantLemmas.{substituted_kept}
use Rattle.wy_check_laws.proofs.sound_lemmas.FreeLemmas.{SameAt, AllSame, rests_on_free_names}

truth_agrees : (f : Term) (a b : Sense) → sort_in f ≡ formula_sort → Agree (sort_in f) a b → a.truth ≡ b.truth
truth_agrees f a b e g = subst (λ (s : Sort). Agree s a b) e g

-- two ways to say what names stand for
all_same : (names others : Names) → ((x : Term) → SameAt names others x) → (xs : List Term) → AllSame names others xs
all_same names others h [] = tt
all_same names others h (x ∷ xs) = (h x, all_same names others h xs)

-- ---- an Int name

number_choice : (names : Names) (t : Term) (v : List ℕ) (m : ℕ) (b : Bool) → (sense names (found_or (cond b (Some t) None) (leaf (int_name v m)))).number ≡ cond b (sense names t).number (names.number_of v m)
number_choice names t v m true = refl
number_choice names t v m false = refl

number_put : (names : Names) (w : List ℕ) (n : ℕ) (t x : Term) → SameAt (under ((leaf (int_name w n), t) ∷ []) names) (with_number names w n (sense names t).number) x
number_put names w n t (Of (int_name v m) ps) =
    ap (λ (b : Bool). (sense names (found_or (cond b (Some t) None) (leaf (int_name v m)))).number) (name_test w v n m)
    ∙ number_choice names t v m (bytes_eq v w && eqb m n)
number_put names w n t (Of (val_name v m) ps) = refl
number_put names w n t x = tt

-- the formula in which an Int term is put for an Int name is true where the formula is with the term's number for the name
pub truth_at_number : (names : Names) (w : List ℕ) (n : ℕ) (f t : Term) → HasSort f formula_sort → HasSort t int_sort → (sense names (substituted f (leaf (int_name w n)) t)).truth ≡ (sense (with_number names w n (sense names t).number) f).truth
truth_at_number names w n f t is_f is_t =
    truth_agrees f (sense names (substituted f (leaf (int_name w n)) t)) (sense (under ((leaf (int_name w n), t) ∷ []) names) f) is_f.1 (substituted_kept f (leaf (int_name w n)) t names is_f.0 is_t)
    ∙ ap (λ (s : Sense). s.truth) (rests_on_free_names f (under ((leaf (int_name w n), t) ∷ []) names) (with_number names w n (sense names t).number) refl (all_same (under ((leaf (int_name w n), t) ∷ []) names) (with_number names w n (sense names t).number) (number_put names w n t) (free_names f)))

-- ---- a Val name

datum_test : (w v : List ℕ) (n m : ℕ) → same_term (leaf (val_name w n)) (leaf (val_name v m)) ≡ (bytes_eq v w && eqb m n)
datum_test w v n m = same_bools (same_term (leaf (val_name w n)) (leaf (val_name v m))) (bytes_eq v w && eqb m n) there back
  where
    there : ((bytes_eq w v && eqb n m) && true) ≡ true → (bytes_eq v w && eqb m n) ≡ true
    there e =
        let h = both (bytes_eq w v && eqb n m) true e in
        let g = both (bytes_eq w v) (eqb n m) h.0 in
        rw (bytes_are w v g.0, eqb-true n m g.1, bytes_self v, eqb_self m) refl

    back : (bytes_eq v w && eqb m n) ≡ true → ((bytes_eq w v && eqb n m) && true) ≡ true
    back e =
        let g = both (bytes_eq v w) (eqb m n) e in
        rw (bytes_are v w g.0, eqb-true m n g.1, bytes_self w, eqb_self n) refl

datum_choice : (names : Names) (t : Term) (v : List ℕ) (m : ℕ) (b : Bool) → (sense names (found_or (cond b (Some t) None) (leaf (val_name v m)))).datum ≡ cond b (sense names t).datum (names.datum_of v m)
datum_choice names t v m true = refl
datum_choice names t v m false = refl

datum_put : (names : Names) (w : List ℕ) (n : ℕ) (t x : Term) → SameAt (under ((leaf (val_name w n), t) ∷ []) names) (with_datum names w n (sense names t).datum) x
datum_put names w n t (Of (int_name v m) ps) = refl
datum_put names w n t (Of (val_name v m) ps) =
    ap (λ (b : Bool). (sense names (found_or (cond b (Some t) None) (leaf (val_name v m)))).datum) (datum_test w v n m)
    ∙ datum_choice names t v m (bytes_eq v w && eqb m n)
datum_put names w n t x = tt

-- the formula in which a Val term is put for a Val name is true where the formula is with the term's datum for the name
pub truth_at_datum : (names : Names) (w : List ℕ) (n : ℕ) (f t : Term) → HasSort f formula_sort → HasSort t val_sort → (sense names (substituted f (leaf (val_name w n)) t)).truth ≡ (sense (with_datum names w n (sense names t).datum) f).truth
truth_at_datum names w n f t is_f is_t =
    truth_agrees f (sense names (substituted f (leaf (val_name w n)) t)) (sense (under ((leaf (val_name w n), t) ∷ []) names) f) is_f.1 (substituted_kept f (leaf (val_name w n)) t names is_f.0 is_t)
    ∙ ap (λ (s : Sense). s.truth) (rests_on_free_names f (under ((leaf (val_name w n), t) ∷ []) names) (with_datum names w n (sense names t).datum) refl (all_same (under ((leaf (val_name w n), t) ∷ []) names) (with_datum names w n (sense names t).datum) (datum_put names w n t) (free_names f)))
