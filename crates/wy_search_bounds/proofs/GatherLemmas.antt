-- What is left of forms, one literal after the other.
use Rattle.std.proofs.Common.{◌≡◌, ◌∙◌, ◌+◌, ◌<◌, ◌||◌, ℕ, zero, suc, List, [], ◌∷◌, ◌++◌, ◌-◌, map, take, length, get_or, Bool, true, false, cond, Option, Some, None, refl, sym, ap, subst, arith, append_assoc}
use Rattle.std.specs.Prelude.{slice_get}
use Rattle.std.proofs.lemmas.Bool.{ne_eqb}
use Rattle.std.proofs.lemmas.List.{append-nil}
use Rattle.wy_lemmas.proofs.Choices.{or_not, or_regrouped as or_assoc}
use Rattle.wy_term.specs.Term.{Term}
use Rattle.wy_term.specs.Nodes.{Plain, tree_at}
use Rattle.wy_cong.specs.wy_check_spec.judge.Node.{Literal}
use Rattle.wy_cong.specs.wy_check_nodes.Seen.{seen_literal}
use Rattle.wy_cong.specs.wy_facts.Seen.{Stays}
use Rattle.wy_cong.proofs.wy_facts_proofs.StepLemmas.{terms_kept, below_kept}
use Rattle.wy_lin.specs.Linear.{◌>>=◌, Linear}
use Rattle.wy_lin.specs.Seen.{linear_form}
use Rattle.wy_lin.specs.TermForm.{form_of_literal}
use Rattle.wy_cong.specs.wy_check_spec.valid.Literals.{formula_of}
use Rattle.wy_cong.specs.wy_check_spec.valid.Sums.{form_at}
use Rattle.wy_cong.specs.wy_search_spec.Bounds.{Replaced, gone, given, refutes, leaves, is_refuting, is_leaving, any_so, form_in, forms_in, replaced, numbered, with_form, replaced_forms}
use Rattle.wy_search_bounds.specs.declared.gathering.Gathered.{Gathered}
use Rattle.wy_search_bounds.specs.Gathered.{Gathers, TakesLiteral}
use Rattle.wy_cong.specs.declared.present.Present.{Present}
use Rattle.wy_cong.specs.Seen.{terms_of, IsPresent}

-- ---- one more

any_last : (test : Replaced → Bool) (rs : List Replaced) (r : Replaced) → any_so test (rs ++ r ∷ []) ≡ (any_so test rs || test r)
any_last test [] r = or_end (test r)
  where
    or_end : (b : Bool) → (b || false) ≡ b
    or_end true = refl
    or_end false = refl
any_last test (s ∷ rs) r = ap (λ (b : Bool). test s || b) (any_last test rs r) ∙ or_assoc (test s) (any_so test rs) (test r)

pub forms_last : (rs : List Replaced) (r : Replaced) → forms_in (rs ++ r ∷ []) ≡ forms_in rs ++ form_in r
forms_last [] r = append-nil (form_in r)
forms_last (s ∷ rs) r = ap (λ (fs : List (Linear ℕ)). form_in s ++ fs) (forms_last rs r) ∙ sym (append_assoc (form_in s) (forms_in rs) (form_in r))

or_so : (b : Bool) → true ≡ (b || true)
or_so true = refl
or_so false = refl

pub gathers_gone : (g : Gathered) (rs : List Replaced) → Gathers g rs → Gathers g (rs ++ gone ∷ [])
gathers_gone g rs was = record {
  refutes = was.refutes ∙ (or_not (any_so is_refuting rs) ∙ sym (any_last is_refuting rs gone));
  leaves = was.leaves ∙ (or_not (any_so is_leaving rs) ∙ sym (any_last is_leaving rs gone));
  forms = was.forms ∙ (sym (append-nil (forms_in rs)) ∙ sym (forms_last rs gone));
}

pub gathers_refutes : (g h : Gathered) (rs : List Replaced) → h.refutes ≡ true → h.leaves ≡ g.leaves → h.forms.items ≡ g.forms.items → Gathers g rs → Gathers h (rs ++ refutes ∷ [])
gathers_refutes g h rs up same fs was = record {
  refutes = up ∙ (or_so (any_so is_refuting rs) ∙ sym (any_last is_refuting rs refutes));
  leaves = same ∙ (was.leaves ∙ (or_not (any_so is_leaving rs) ∙ sym (any_last is_leaving rs refutes)));
  forms = ap (map linear_form) fs ∙ (was.forms ∙ (sym (append-nil (forms_in rs)) ∙ sym (forms_last rs refutes)));
}

pub gathers_leaves : (g h : Gathered) (rs : List Replaced) → h.leaves ≡ true → h.refutes ≡ g.refutes → h.forms.items ≡ g.forms.items → Gathers g rs → Gathers h (rs ++ leaves ∷ [])
gathers_leaves g h rs up same fs was = record {
  refutes = same ∙ (was.refutes ∙ (or_not (any_so is_refuting rs) ∙ sym (any_last is_refuting rs leaves)));
  leaves = up ∙ (or_so (any_so is_leaving rs) ∙ sym (any_last is_leaving rs leaves));
  forms = ap (map linear_form) fs ∙ (was.forms ∙ (sym (append-nil (forms_in rs)) ∙ sym (forms_last rs leaves)));
}

pub gathers_given : (g h : Gathered) (rs : List Replaced) (f : Linear ℕ) → h.refutes ≡ g.refutes → h.leaves ≡ g.leaves → map linear_form h.forms.items ≡ map linear_form g.forms.items ++ f ∷ [] → Gathers g rs → Gathers h (rs ++ given f ∷ [])
gathers_given g h rs f same still fs was = record {
  refutes = same ∙ (was.refutes ∙ (or_not (any_so is_refuting rs) ∙ sym (any_last is_refuting rs (given f))));
  leaves = still ∙ (was.leaves ∙ (or_not (any_so is_leaving rs) ∙ sym (any_last is_leaving rs (given f))));
  forms = fs ∙ (ap (λ (gs : List (Linear ℕ)). gs ++ f ∷ []) was.forms ∙ sym (forms_last rs (given f)));
}

-- ---- one literal more

abbrev one_form : List Term → List ℕ → Option (Linear Term) → List Replaced
one_form ts labels o = with_form ts labels [] o

form_rest : (ts : List Term) (labels : List ℕ) (rest : List Replaced) (o : Option (Linear Term)) → with_form ts labels rest o ≡ with_form ts labels [] o ++ rest
form_rest ts labels rest None = refl
form_rest ts labels rest (Some f) = refl

forms_append : (ts : List Term) (labels : List ℕ) (ls : List Literal) (l : Literal) → replaced_forms ts labels (ls ++ l ∷ []) ≡ replaced_forms ts labels ls ++ one_form ts labels (form_of_literal (formula_of l))
forms_append ts labels [] l = refl
forms_append ts labels (k ∷ ls) l =
    let o = form_of_literal (formula_of k) in
    form_rest ts labels (replaced_forms ts labels (ls ++ l ∷ [])) o
    ∙ (ap (λ (rs : List Replaced). with_form ts labels [] o ++ rs) (forms_append ts labels ls l)
    ∙ (sym (append_assoc (with_form ts labels [] o) (replaced_forms ts labels ls) (one_form ts labels (form_of_literal (formula_of l))))
    ∙ ap (λ (rs : List Replaced). rs ++ one_form ts labels (form_of_literal (formula_of l))) (sym (form_rest ts labels (replaced_forms ts labels ls) o))))

some_is : (x y : Literal) → Some x ≡ Some y → x ≡ y
some_is x y h = cc

take_next : (ls : List Literal) (i : ℕ) (l : Literal) → slice_get ls i ≡ Some l → take (suc i) ls ≡ take i ls ++ l ∷ []
take_next [] i l e = absurd cc
take_next (k ∷ ks) zero l e = ap (λ (x : Literal). x ∷ []) (some_is k l e)
take_next (k ∷ ks) (suc i) l e = ap (λ (xs : List Literal). k ∷ xs) (take_next ks i l e)

take_literal : (ls : List Literal) (i : ℕ) (l : Literal) → slice_get ls i ≡ Some l → take (i + 1) ls ≡ take i ls ++ l ∷ []
take_literal ls i l e = let next : i + 1 ≡ suc i = omega arith in ap (λ (j : ℕ). take j ls) next ∙ take_next ls i l e

-- the form of the literal with the number behind a place
pub form_behind : (ls : List Literal) (i n : ℕ) (l : Literal) → n ≡ i + 1 → slice_get ls i ≡ Some l → form_at ls n ≡ form_of_literal (formula_of l)
form_behind ls i n l is e =
    let less : n - 1 ≡ i = omega (arith, is) in
    ap (λ (o : Option Literal). o >>= λ k. form_of_literal (formula_of k))
    (ap (λ (b : Bool). cond b None (slice_get ls (n - 1))) (ne_eqb n 0 (λ zero_is. omega (arith, is, zero_is))) ∙ (ap (slice_get ls) less ∙ e))

pub literal_there : (at : ℕ → Term) (ps : List (ℕ × Bool)) (i : ℕ) (d : ℕ × Bool) → i < length ps → slice_get (map (seen_literal at) ps) i ≡ Some (seen_literal at (get_or ps i d))
literal_there at [] i d lt = absurd (omega (arith, lt))
literal_there at (p ∷ ps) zero d lt = refl
literal_there at (p ∷ ps) (suc i) d lt = literal_there at ps i d (omega (arith, lt))

-- a literal with a form
pub takes_form : (ts : List Term) (labels : List ℕ) (ls : List Literal) (i n : ℕ) (l : Literal) (rs : List Replaced) (g : Gathered) (f : Linear Term) (one : Replaced) → n ≡ i + 1 → slice_get ls i ≡ Some l → Some f ≡ form_at ls n → one ≡ replaced labels (numbered ts f) → Gathers g (rs ++ one ∷ []) → TakesLiteral ts labels ls i rs g
takes_form ts labels ls i n l rs g f one is here found made all = λ before.
    let form : form_of_literal (formula_of l) ≡ Some f = sym (form_behind ls i n l is here) ∙ sym found in
    let whole : rs ++ one ∷ [] ≡ replaced_forms ts labels (take (i + 1) ls) =
    ap (λ (qs : List Replaced). qs ++ one ∷ []) before
    ∙ (ap (λ (r : Replaced). replaced_forms ts labels (take i ls) ++ r ∷ []) made
    ∙ (ap (λ (o : Option (Linear Term)). replaced_forms ts labels (take i ls) ++ one_form ts labels o) (sym form)
    ∙ (sym (forms_append ts labels (take i ls) l) ∙ ap (replaced_forms ts labels) (sym (take_literal ls i l here))))) in
    subst (Gathers g) whole all

-- a literal without one
pub takes_none : (ts : List Term) (labels : List ℕ) (ls : List Literal) (i n : ℕ) (l : Literal) (rs : List Replaced) (g : Gathered) → n ≡ i + 1 → slice_get ls i ≡ Some l → None ≡ form_at ls n → Gathers g rs → TakesLiteral ts labels ls i rs g
takes_none ts labels ls i n l rs g is here found all = λ before.
    let form : form_of_literal (formula_of l) ≡ None = sym (form_behind ls i n l is here) ∙ sym found in
    let whole : rs ≡ replaced_forms ts labels (take (i + 1) ls) =
    before
    ∙ (sym (append-nil (replaced_forms ts labels (take i ls)))
    ∙ (ap (λ (o : Option (Linear Term)). replaced_forms ts labels (take i ls) ++ one_form ts labels o) (sym form)
    ∙ (sym (forms_append ts labels (take i ls) l) ∙ ap (replaced_forms ts labels) (sym (take_literal ls i l here))))) in
    subst (Gathers g) whole all

-- ---- terms made meanwhile

pub present_stays : (old new : List Plain) (p : Present) → Stays old new → IsPresent old p → IsPresent new p
present_stays old new p stays is = record { below = below_kept old new p.numbers.items stays is.below; places = is.places }

pub terms_stay : (old new : List Plain) (p : Present) → Stays old new → IsPresent old p → terms_of (tree_at new) p ≡ terms_of (tree_at old) p
terms_stay old new p stays is = terms_kept old new p.numbers.items stays is.below

-- ---- the whole list

pub gathers_next : (ts us : List Term) (labels : List ℕ) (ls ks : List Literal) (i : ℕ) (old new : Gathered) → us ≡ ts → ks ≡ ls → ((rs : List Replaced) → Gathers old rs → TakesLiteral us labels ks i rs new) → Gathers old (replaced_forms ts labels (take i ls)) → Gathers new (replaced_forms ts labels (take (i + 1) ls))
gathers_next ts us labels ls ks i old new terms literals took was =
    let before : replaced_forms ts labels (take i ls) ≡ replaced_forms us labels (take i ks) =
    sym (ap (λ (xs : List Term). replaced_forms xs labels (take i ks)) terms ∙ ap (λ (xs : List Literal). replaced_forms ts labels (take i xs)) literals) in
    subst (λ (xs : List Term). Gathers new (replaced_forms xs labels (take (i + 1) ls))) terms
    (subst (λ (xs : List Literal). Gathers new (replaced_forms us labels (take (i + 1) xs))) literals (took (replaced_forms ts labels (take i ls)) was before))
