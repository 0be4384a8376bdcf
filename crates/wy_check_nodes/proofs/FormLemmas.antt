-- Forms stand for the same where the list of terms grows; the form of a bound's denial.
use Rattle.std.proofs.Common.{◌≡◌, ◌<◌, ◌≤◌, ℕ, suc, List, [], ◌∷◌, ◌++◌, All, map, length, get_or, ℤ, refl, sym, ap, subst, ◌∙◌, arith}
use Rattle.wy_lemmas.proofs.Lists.{map_pushed, first_of, rest_of}
use Rattle.wy_check_spec.specs.wy_term.Term.{Term}
use Rattle.wy_check_spec.specs.wy_term.Nodes.{Plain, tree_at}
use Rattle.wy_check_spec.specs.wy_facts.Seen.{Stays}
use Rattle.wy_check_spec.specs.wy_lin.declared.linear.Form.{Form}
use Rattle.wy_check_spec.specs.wy_lin.Linear.{Linear}
use Rattle.wy_check_spec.specs.wy_lin.Seen.{IsOver, linear_form, seen_form, seen_part}
use Rattle.wy_check_spec.proofs.wy_lin_proofs.SeenLemmas.{all_none, all_more}

parts_kept : (old new : List Plain) (ps : List (ℤ × ℕ)) → Stays old new → All (λ (p : ℤ × ℕ). p.1 < length old) ps → map (seen_part (tree_at new)) ps ≡ map (seen_part (tree_at old)) ps
parts_kept old new [] stays all = refl
parts_kept old new (p ∷ ps) stays all = rw (stays.trees p.1 (first_of (λ (p : ℤ × ℕ). p.1 < length old) p ps all), parts_kept old new ps stays (rest_of (λ (p : ℤ × ℕ). p.1 < length old) p ps all)) refl

abbrev pub with_parts : ℤ → List (ℤ × Term) → Linear Term
with_parts z ps = record { parts = ps; constant = z }

pub form_kept : (old new : List Plain) (g : Form) → Stays old new → IsOver (length old) (linear_form g) → seen_form (tree_at new) g ≡ seen_form (tree_at old) g
form_kept old new g stays is = ap (with_parts g.constant) (parts_kept old new g.parts.items stays is)

pub form_up : (m n : ℕ) (g : Form) → m ≤ n → IsOver m (linear_form g) → IsOver n (linear_form g)
form_up m n g le is i d lt = omega (arith, is i d lt, le)

abbrev pub AreForms : ℕ → List Form → Type 0
AreForms n fs = All (λ (g : Form). IsOver n (linear_form g)) fs

pub forms_kept : (old new : List Plain) (fs : List Form) → Stays old new → AreForms (length old) fs → map (seen_form (tree_at new)) fs ≡ map (seen_form (tree_at old)) fs
forms_kept old new [] stays all = refl
forms_kept old new (g ∷ gs) stays all = rw (form_kept old new g stays (first_of (λ (h : Form). IsOver (length old) (linear_form h)) g gs all), forms_kept old new gs stays (rest_of (λ (h : Form). IsOver (length old) (linear_form h)) g gs all)) refl

pub forms_up : (m n : ℕ) (fs : List Form) → m ≤ n → AreForms m fs → AreForms n fs
forms_up m n fs le all i d lt = form_up m n (get_or fs i d) le (all i d lt)

-- ---- one form more

pub all_pushed : {A : Type 0} (P : A → Type 0) (xs : List A) (x : A) → All P xs → P x → All P (xs ++ x ∷ [])
all_pushed P [] x all one = all_more P x [] one (all_none P)
all_pushed P (y ∷ ys) x all one = all_more P y (ys ++ x ∷ []) (first_of P y ys all) (all_pushed P ys x (rest_of P y ys all) one)

pub forms_pushed : (old new : List Plain) (fs gs : List Form) (g : Form) → Stays old new → AreForms (length old) fs → gs ≡ fs ++ g ∷ [] → map (seen_form (tree_at new)) gs ≡ map (seen_form (tree_at old)) fs ++ seen_form (tree_at new) g ∷ []
forms_pushed old new fs gs g stays all is =
    ap (map (seen_form (tree_at new))) is
    ∙ (map_pushed (seen_form (tree_at new)) fs g ∙ ap (λ (hs : List (Linear Term)). hs ++ seen_form (tree_at new) g ∷ []) (forms_kept old new fs stays all))

pub pushed_over : (old new : List Plain) (fs gs : List Form) (g : Form) → Stays old new → AreForms (length old) fs → gs ≡ fs ++ g ∷ [] → IsOver (length new) (linear_form g) → AreForms (length new) gs
pushed_over old new fs gs g stays all is one = subst (AreForms (length new)) (sym is) (all_pushed (λ (h : Form). IsOver (length new) (linear_form h)) fs g (forms_up (length old) (length new) fs stays.grows all) one)

pub seen_length : (at : ℕ → Term) (fs : List Form) → length (map (seen_form at) fs) ≡ length fs
seen_length at [] = refl
seen_length at (f ∷ fs) = ap suc (seen_length at fs)
