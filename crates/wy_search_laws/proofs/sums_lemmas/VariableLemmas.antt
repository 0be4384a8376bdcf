-- The variables of a literal's form are their own forms and no numbers, its numbers fit 128 bits, and no variable has two parts.
use Rattle.std.proofs.Common.{◌≡◌, ◌∙◌, ◌&&◌, ◌||◌, List, [], ◌∷◌, Bool, true, false, cond, not, ℤ, pos, Option, Some, None, refl, sym, ap, subst}
use Rattle.std.specs.Prelude.{is_none}
use Rattle.wy_lemmas.proofs.Options.{some_same as some_is}
use Rattle.wy_search_bounds.specs.wy_term.Term as term
use Rattle.wy_search_bounds.specs.wy_term.Term.{Term, Of, Parts, no_parts, part, two}
use Rattle.wy_search_bounds.specs.wy_term.Same.{same_term}
use Rattle.wy_search_bounds.specs.wy_term.Rewriting.{fits, as_number}
use Rattle.wy_search_bounds.specs.wy_term.Sorts.{val_sort, sort_in}
use Rattle.wy_search_bounds.proofs.wy_term_proofs.SameLemmas.{terms_are, terms_self}
use Rattle.wy_search_bounds.specs.wy_lin.declared.arithmetic.Factor.{Factor}
use Rattle.wy_search_bounds.specs.wy_lin.declared.arithmetic.Factor.TheVariants.{Times, Scale, Minus}
use Rattle.wy_search_bounds.specs.wy_lin.Linear.{◌>>=◌, more, Linear, nothing, number_form, variable_form, coefficient, with_coefficient, plus_part, plus_parts}
use Rattle.wy_search_bounds.specs.wy_lin.TermForm.{with, multiple, form_of_product, form_of, difference, excess, form_of_denial, form_of_literal}
use Rattle.wy_search_bounds.proofs.wy_lin_proofs.OptionLemmas.{bind_some}
use Rattle.wy_search_bounds.specs.wy_check_spec.judge.Node.{Literal}
use Rattle.wy_search_bounds.specs.wy_check_spec.valid.Literals.{signed, formula_of}
use Rattle.wy_search_laws.proofs.sums_lemmas.TidyLemmas.{AreTidy, IsTidyBy, tidy_plus}
use Rattle.wy_search_laws.proofs.sums_lemmas.CutLemmas.{IsVariable}

-- ---- which terms are variables

-- none of the terms is a number
abbrev pub none_number : Parts → Bool
none_number no_parts = true
none_number (part t ps) = is_none (as_number t) && none_number ps

-- there is no part, there is one part, there are two
abbrev pub is_end : Parts → Bool
is_end no_parts = true
is_end (part t ps) = false

abbrev pub is_one : Parts → Bool
is_one no_parts = false
is_one (part t ps) = is_end ps

abbrev pub is_two : Parts → Bool
is_two no_parts = false
is_two (part t ps) = is_one ps

-- the term isn't taken apart where its form is made
abbrev pub is_variable : Term → Bool
is_variable (Of (term.number z) ps) = false
is_variable (Of term.add ps) = not (is_two ps)
is_variable (Of term.sub ps) = not (is_two ps)
is_variable (Of term.neg ps) = not (is_one ps)
is_variable (Of term.mul ps) = not (is_two ps) || none_number ps
is_variable t = true

product_alone : (t : Term) (a b : Option ℤ) (f g : Option (Linear Term)) → (is_none a && (is_none b && true)) ≡ true → form_of_product t a b f g ≡ Some (variable_form t)
product_alone t None None f g e = refl
product_alone t None (Some c) f g e = absurd cc
product_alone t (Some c) b f g e = absurd cc

pub variable_is : (t : Term) → is_variable t ≡ true → IsVariable t
variable_is (Of (term.number z) ps) e = absurd cc
variable_is (Of term.add no_parts) e = record { form = refl; free = refl }
variable_is (Of term.add (part s no_parts)) e = record { form = refl; free = refl }
variable_is (Of term.add (part s (part t no_parts))) e = absurd cc
variable_is (Of term.add (part s (part t (part u ps)))) e = record { form = refl; free = refl }
variable_is (Of term.sub no_parts) e = record { form = refl; free = refl }
variable_is (Of term.sub (part s no_parts)) e = record { form = refl; free = refl }
variable_is (Of term.sub (part s (part t no_parts))) e = absurd cc
variable_is (Of term.sub (part s (part t (part u ps)))) e = record { form = refl; free = refl }
variable_is (Of term.neg no_parts) e = record { form = refl; free = refl }
variable_is (Of term.neg (part s no_parts)) e = absurd cc
variable_is (Of term.neg (part s (part t ps))) e = record { form = refl; free = refl }
variable_is (Of term.mul no_parts) e = record { form = refl; free = refl }
variable_is (Of term.mul (part s no_parts)) e = record { form = refl; free = refl }
variable_is (Of term.mul (part s (part t no_parts))) e = record { form = product_alone (two term.mul s t) (as_number s) (as_number t) (form_of s) (form_of t) e; free = refl }
variable_is (Of term.mul (part s (part t (part u ps)))) e = record { form = refl; free = refl }
variable_is t e = record { form = refl; free = refl }

-- a Val term is a variable
pub record IsPlainVal (t : Term) : Type 0 where
  pub free : as_number t ≡ None
  pub variable : is_variable t ≡ true

pub val_is : (t : Term) → sort_in t ≡ val_sort → IsPlainVal t
val_is (Of (term.number z) ps) e = absurd cc
val_is (Of term.add ps) e = absurd cc
val_is (Of term.sub ps) e = absurd cc
val_is (Of term.neg ps) e = absurd cc
val_is (Of term.mul ps) e = absurd cc
val_is t e = record { free = refl; variable = refl }

-- ---- the parts of forms

-- each variable isn't taken apart
abbrev pub AreVariables : List (ℤ × Term) → Type 0
AreVariables [] = Unit {0}
AreVariables (p ∷ ps) = (is_variable p.1 ≡ true) × AreVariables ps

with_coefficient_variables : (ps : List (ℤ × Term)) (v : Term) (d : ℤ) → AreVariables ps → is_variable v ≡ true → AreVariables (with_coefficient same_term ps v d)
with_coefficient_variables [] v d h g = (g, tt)
with_coefficient_variables (p ∷ ps) v d h g = by (same_term v p.1) (with_coefficient_variables ps v d h.1 g)
  where
    by : (b : Bool) → AreVariables (with_coefficient same_term ps v d) → AreVariables (cond b ((d, p.1) ∷ ps) (p ∷ with_coefficient same_term ps v d))
    by true rest = (h.0, h.1)
    by false rest = (h.0, rest)

plus_part_variables : (ps : List (ℤ × Term)) (m : Factor) (c : ℤ) (v : Term) (qs : List (ℤ × Term)) → AreVariables ps → is_variable v ≡ true → plus_part same_term ps m c v ≡ Some qs → AreVariables qs
plus_part_variables ps m c v qs h g e =
    let a = bind_some (more (coefficient same_term ps v) m c) (λ d. Some (with_coefficient same_term ps v d)) qs e in
    subst AreVariables (some_is (with_coefficient same_term ps v a.0) qs a.2) (with_coefficient_variables ps v a.0 h g)

plus_parts_variables : (ps : List (ℤ × Term)) (m : Factor) (gs qs : List (ℤ × Term)) → AreVariables ps → AreVariables gs → plus_parts same_term ps m gs ≡ Some qs → AreVariables qs
plus_parts_variables ps m [] qs h g e = subst AreVariables (some_is ps qs e) h
plus_parts_variables ps m (k ∷ ks) qs h g e =
    let a = bind_some (plus_part same_term ps m k.0 k.1) (λ rs. plus_parts same_term rs m ks) qs e in
    plus_parts_variables a.0 m ks qs (plus_part_variables ps m k.0 k.1 a.0 h g.0 a.1) g.1 a.2

terms_turned : (s t : Term) → same_term s t ≡ false → same_term t s ≡ false
terms_turned s t e = by (same_term t s) refl
  where
    by : (b : Bool) → same_term t s ≡ b → b ≡ false
    by true f = absurd (let up : true ≡ false = sym (ap (λ (x : Term). same_term s x) (terms_are t s f) ∙ terms_self s) ∙ e in cc)
    by false f = refl

-- variables that aren't taken apart, and tidy parts
record IsMade (f : Linear Term) : Type 0 where
  variables : AreVariables f.parts
  tidy : AreTidy same_term f.parts

-- besides, the number fits 128 bits
pub record IsSum (f : Linear Term) : Type 0 where
  pub variables : AreVariables f.parts
  pub tidy : IsTidyBy same_term f

made_of : (f : Linear Term) → IsSum f → IsMade f
made_of f h = record { variables = h.variables; tidy = h.tidy.parts }

with_made : (f : Linear Term) (m : Factor) (g h : Linear Term) → IsMade f → IsMade g → with f m g ≡ Some h → IsSum h
with_made f m g h is_f is_g e =
    let a = bind_some (plus_parts same_term f.parts m g.parts) (λ ps. more f.constant m g.constant >>= λ c. Some (record { parts = ps; constant = c })) h e in
    let b = bind_some (more f.constant m g.constant) (λ c. Some (record { parts = a.0; constant = c })) h a.2 in
    let made : Linear Term = record { parts = a.0; constant = b.0 } in
    record {
      variables = subst (λ (x : Linear Term). AreVariables x.parts) (some_is made h b.2) (plus_parts_variables f.parts m g.parts a.0 is_f.variables is_g.variables a.1);
      tidy = tidy_plus same_term terms_turned f m g h is_f.tidy e;
    }

nothing_made : IsMade nothing
nothing_made = record { variables = tt; tidy = tt }

number_made : (z : ℤ) → IsMade (number_form z)
number_made z = record { variables = tt; tidy = tt }

multiple_made : (m : Factor) (f h : Linear Term) → IsMade f → multiple m f ≡ Some h → IsSum h
multiple_made m f h is_f e = with_made nothing m f h nothing_made is_f e

one_fits : fits (pos 1) ≡ true
one_fits = refl

variable_made : (t : Term) (f : Linear Term) → is_variable t ≡ true → Some (variable_form t) ≡ Some f → IsMade f
variable_made t f h e = subst IsMade (some_is (variable_form t) f e) (record { variables = (h, tt); tidy = (one_fits, tt, tt) })

product_made : (s t : Term) (a b : Option ℤ) (o p : Option (Linear Term)) (f : Linear Term) → as_number s ≡ a → as_number t ≡ b → ((g : Linear Term) → o ≡ Some g → IsMade g) → ((g : Linear Term) → p ≡ Some g → IsMade g) → form_of_product (two term.mul s t) a b o p ≡ Some f → IsMade f
product_made s t (Some c) b o p f is_a is_b first second e =
    let x = bind_some p (λ h. multiple (Scale c) h) f e in
    made_of f (multiple_made (Scale c) x.0 f (second x.0 x.1) x.2)
product_made s t None (Some c) o p f is_a is_b first second e =
    let x = bind_some o (λ h. multiple (Scale c) h) f e in
    made_of f (multiple_made (Scale c) x.0 f (first x.0 x.1) x.2)
product_made s t None None o p f is_a is_b first second e =
    variable_made (two term.mul s t) f (ap (λ (x : Option ℤ). is_none x && (is_none (as_number t) && true)) is_a ∙ ap (λ (x : Option ℤ). is_none x && true) is_b) e

form_made : (t : Term) (f : Linear Term) → form_of t ≡ Some f → IsMade f
form_made (Of (term.number z) ps) f e = subst IsMade (some_is (number_form z) f e) (number_made z)
form_made (Of term.add (part s (part t no_parts))) f e =
    let a = bind_some (form_of s) (λ f. form_of t >>= λ g. with f (Times 1) g) f e in
    let b = bind_some (form_of t) (λ g. with a.0 (Times 1) g) f a.2 in
    made_of f (with_made a.0 (Times 1) b.0 f (form_made s a.0 a.1) (form_made t b.0 b.1) b.2)
form_made (Of term.sub (part s (part t no_parts))) f e =
    let a = bind_some (form_of s) (λ f. form_of t >>= λ g. with f Minus g) f e in
    let b = bind_some (form_of t) (λ g. with a.0 Minus g) f a.2 in
    made_of f (with_made a.0 Minus b.0 f (form_made s a.0 a.1) (form_made t b.0 b.1) b.2)
form_made (Of term.neg (part s no_parts)) f e =
    let a = bind_some (form_of s) (λ f. multiple Minus f) f e in
    made_of f (multiple_made Minus a.0 f (form_made s a.0 a.1) a.2)
form_made (Of term.mul (part s (part t no_parts))) f e =
    product_made s t (as_number s) (as_number t) (form_of s) (form_of t) f refl refl (λ g is. form_made s g is) (λ g is. form_made t g is) e
form_made t f e = variable_made t f refl e

difference_made : (f g h : Linear Term) → IsMade f → IsMade g → difference f g ≡ Some h → IsSum h
difference_made f g h is_f is_g e =
    let a = bind_some (multiple (Scale (pos 0)) f) (λ z. with z (Times 1) g >>= λ h. with h Minus f) h e in
    let b = bind_some (with a.0 (Times 1) g) (λ h. with h Minus f) h a.2 in
    with_made b.0 Minus f h (made_of b.0 (with_made a.0 (Times 1) g b.0 (made_of a.0 (multiple_made (Scale (pos 0)) f a.0 is_f a.1)) is_g b.1)) is_f b.2

excess_made : (f g h : Linear Term) → IsMade f → IsMade g → excess f g ≡ Some h → IsSum h
excess_made f g h is_f is_g e =
    let a = bind_some (with f Minus g) (λ h. with h Minus (number_form (pos 1))) h e in
    with_made a.0 Minus (number_form (pos 1)) h (made_of a.0 (with_made f Minus g a.0 is_f is_g a.1)) (number_made (pos 1)) a.2

excess_of : (s t : Term) (h : Linear Term) → (form_of s >>= λ f. form_of t >>= λ g. excess f g) ≡ Some h → IsSum h
excess_of s t h e =
    let a = bind_some (form_of s) (λ f. form_of t >>= λ g. excess f g) h e in
    let b = bind_some (form_of t) (λ g. excess a.0 g) h a.2 in
    excess_made a.0 b.0 h (form_made s a.0 a.1) (form_made t b.0 b.1) b.2

denied_made : (a : Term) (h : Linear Term) → form_of_denial a ≡ Some h → IsSum h
denied_made (Of term.at_most (part s (part t no_parts))) h e = excess_of s t h e
denied_made a h e = absurd cc

atom_made : (b : Bool) (a : Term) (h : Linear Term) → form_of_literal (signed a b) ≡ Some h → IsSum h
atom_made true (Of term.at_most (part s (part t no_parts))) h e =
    let a = bind_some (form_of s) (λ f. form_of t >>= λ g. difference f g) h e in
    let b = bind_some (form_of t) (λ g. difference a.0 g) h a.2 in
    difference_made a.0 b.0 h (form_made s a.0 a.1) (form_made t b.0 b.1) b.2
atom_made false (Of term.at_most (part s (part t no_parts))) h e = excess_of s t h e
atom_made true (Of term.denied (part a no_parts)) h e = denied_made a h e
atom_made b a h e = absurd cc

pub literal_made : (l : Literal) (h : Linear Term) → form_of_literal (formula_of l) ≡ Some h → IsSum h
literal_made l h e = atom_made l.holds l.atom h e
