-- What forms are worth: sums are exact, the form of a term has its number, and that of a literal says as much.
use Rattle.std.proofs.Common.{◌≡◌, ℕ, List, [], ◌∷◌, Bool, true, false, cond, not, eqb, ℤ, pos, negsuc, ◌+ℤ◌, ◌-ℤ◌, ◌*ℤ◌, ◌≤ℤ◌, ◌<ℤ◌, neg_ℤ, Option, Some, None, refl, sym, ap, ◌∙◌, arith}
use Rattle.std.proofs.lemmas.Int.{ints}
use Rattle.std.proofs.Math.IntN.{*ℤ-zero, zero-*ℤ, *ℤ_comm}
use Rattle.std.proofs.lemmas.Bool.{eqb-true}
use Rattle.wy_term.proofs.wy_lemmas_proofs.Numbers.{zero_and as alone, one_times, distrib_right, distrib_left}
use Rattle.wy_term.proofs.wy_lemmas_proofs.Options.{some_same as some_is}
use Rattle.wy_term.specs.Term.{Term, Of, no_parts, part, two, number, add, sub, neg, mul}
use Rattle.wy_term.specs.Term as term
use Rattle.wy_term.specs.Same.{same_term}
use Rattle.wy_term.specs.Rewriting.{as_number, fitted}
use Rattle.wy_term.specs.Meaning.{Names, sense, at_most}
use Rattle.wy_lin.specs.declared.arithmetic.Factor.{Factor}
use Rattle.wy_lin.specs.declared.arithmetic.Factor.TheVariants.{Times, Scale, Minus}
use Rattle.wy_lin.specs.Linear.{◌>>=◌, more, Linear, nothing, number_form, variable_form, coefficient, with_coefficient, plus_part, plus_parts, plus}
use Rattle.wy_lin.specs.TermForm.{with, multiple, form_of, form_of_product, difference, excess, form_of_denial, form_of_literal}
use Rattle.wy_lin.specs.Combination.{form_at, combined_from, combined}
use Rattle.wy_lin.specs.Worth.{worth_of_parts, worth, number_of, SaysAsMuch, total}
use Rattle.wy_lin.proofs.OptionLemmas.{bind_some, fitted_is}
use Rattle.wy_term.proofs.SameLemmas.{terms_are}
use Rattle.wy_lin.proofs.Ring.{times_assoc, minus_times}

-- a factor as a number
abbrev pub factor_of : Factor → ℤ
factor_of (Times n) = pos n
factor_of (Scale c) = c
factor_of Minus = negsuc 0

through : (a d y c : ℤ) → c ≡ d → a +ℤ d ≡ y → y ≡ a +ℤ c
through a d y c e f = omega (arith, ints, e, f)

away : (a c y : ℤ) → a -ℤ c ≡ y → y ≡ a +ℤ negsuc 0 *ℤ c
away a c y e = let m = minus_times c in omega (arith, ints, e, m)

more_is : (a : ℤ) (m : Factor) (c d : ℤ) → more a m c ≡ Some d → d ≡ a +ℤ factor_of m *ℤ c
more_is a (Times n) c d e =
    let product = bind_some (fitted (pos n *ℤ c)) (λ x. fitted (a +ℤ x)) d e in
    through a product.0 d (pos n *ℤ c) (fitted_is _ _ product.1) (fitted_is _ _ product.2)
more_is a (Scale k) c d e =
    let product = bind_some (fitted (k *ℤ c)) (λ x. fitted (a +ℤ x)) d e in
    through a product.0 d (k *ℤ c) (fitted_is _ _ product.1) (fitted_is _ _ product.2)
more_is a Minus c d e = away a c d (fitted_is _ _ e)

-- ---- sums

module _ {V : Type 0} (same : V → V → Bool) (values : V → ℤ) (alike : (u v : V) → same u v ≡ true → values u ≡ values v) where
  new_part : (d x : ℤ) → d *ℤ x +ℤ pos 0 ≡ pos 0 +ℤ (d -ℤ pos 0) *ℤ x
  new_part d x =
      let none : d -ℤ pos 0 ≡ d = omega (arith, ints) in
      let h : (d -ℤ pos 0) *ℤ x ≡ d *ℤ x = ap (λ (y : ℤ). y *ℤ x) none in
      omega (arith, ints, h)

  old_part : (d a x y rest : ℤ) → x ≡ y → d *ℤ x +ℤ rest ≡ (a *ℤ x +ℤ rest) +ℤ (d -ℤ a) *ℤ y
  old_part d a x y rest e =
      let whole : a +ℤ (d -ℤ a) ≡ d = omega (arith, ints) in
      let apart : d *ℤ x ≡ a *ℤ x +ℤ (d -ℤ a) *ℤ x = ap (λ (z : ℤ). z *ℤ x) (sym whole) ∙ distrib_right a (d -ℤ a) x in
      let other : (d -ℤ a) *ℤ x ≡ (d -ℤ a) *ℤ y = ap (λ (z : ℤ). (d -ℤ a) *ℤ z) e in
      omega (arith, ints, apart, other)

  behind : (x rest a added : ℤ) → a ≡ rest +ℤ added → x +ℤ a ≡ (x +ℤ rest) +ℤ added
  behind x rest a added e = omega (arith, ints, e)

  -- another coefficient of a variable
  worth-with_coefficient : (ps : List (ℤ × V)) (v : V) (d : ℤ) → worth_of_parts values (with_coefficient same ps v d) ≡ worth_of_parts values ps +ℤ (d -ℤ coefficient same ps v) *ℤ values v
  worth-with_coefficient [] v d = new_part d (values v)
  worth-with_coefficient (p ∷ ps) v d = by (same v p.1) refl (worth-with_coefficient ps v d)
    where
      by : (b : Bool) → same v p.1 ≡ b → worth_of_parts values (with_coefficient same ps v d) ≡ worth_of_parts values ps +ℤ (d -ℤ coefficient same ps v) *ℤ values v → worth_of_parts values (cond b ((d, p.1) ∷ ps) (p ∷ with_coefficient same ps v d)) ≡ (p.0 *ℤ values p.1 +ℤ worth_of_parts values ps) +ℤ (d -ℤ cond b p.0 (coefficient same ps v)) *ℤ values v
      by true is rest = old_part d p.0 (values p.1) (values v) (worth_of_parts values ps) (sym (alike v p.1 is))
      by false is rest = behind (p.0 *ℤ values p.1) (worth_of_parts values ps) _ _ rest

  added_part : (total old d a m c x : ℤ) → total ≡ old +ℤ (d -ℤ a) *ℤ x → d ≡ a +ℤ m *ℤ c → total ≡ old +ℤ m *ℤ (c *ℤ x)
  added_part total old d a m c x e f =
      let gap : d -ℤ a ≡ m *ℤ c = omega (arith, ints, f) in
      let h : (d -ℤ a) *ℤ x ≡ m *ℤ (c *ℤ x) = ap (λ (z : ℤ). z *ℤ x) gap ∙ times_assoc m c x in
      omega (arith, ints, e, h)

  worth-plus_part : (ps : List (ℤ × V)) (m : Factor) (c : ℤ) (v : V) (qs : List (ℤ × V)) → plus_part same ps m c v ≡ Some qs → worth_of_parts values qs ≡ worth_of_parts values ps +ℤ factor_of m *ℤ (c *ℤ values v)
  worth-plus_part ps m c v qs e =
      let a = bind_some (more (coefficient same ps v) m c) (λ d. Some (with_coefficient same ps v d)) qs e in
      let made = ap (worth_of_parts values) (sym (some_is _ _ a.2)) ∙ worth-with_coefficient ps v a.0 in
      added_part (worth_of_parts values qs) (worth_of_parts values ps) a.0 (coefficient same ps v) (factor_of m) c (values v) made (more_is _ m c a.0 a.1)

  nothing_more : (m a : ℤ) → a ≡ a +ℤ m *ℤ pos 0
  nothing_more m a = let z = *ℤ-zero m in omega (arith, ints, z)

  more_parts : (m x a b total others : ℤ) → b ≡ a +ℤ m *ℤ x → total ≡ b +ℤ m *ℤ others → total ≡ a +ℤ m *ℤ (x +ℤ others)
  more_parts m x a b total others e f =
      let apart = distrib_left m x others in
      omega (arith, ints, e, f, apart)

  worth-plus_parts : (ps : List (ℤ × V)) (m : Factor) (gs qs : List (ℤ × V)) → plus_parts same ps m gs ≡ Some qs → worth_of_parts values qs ≡ worth_of_parts values ps +ℤ factor_of m *ℤ worth_of_parts values gs
  worth-plus_parts ps m [] qs e = ap (worth_of_parts values) (sym (some_is _ _ e)) ∙ nothing_more (factor_of m) (worth_of_parts values ps)
  worth-plus_parts ps m (g ∷ gs) qs e =
      let a = bind_some (plus_part same ps m g.0 g.1) (λ rs. plus_parts same rs m gs) qs e in
      more_parts (factor_of m) (g.0 *ℤ values g.1) (worth_of_parts values ps) (worth_of_parts values a.0) (worth_of_parts values qs) (worth_of_parts values gs) (worth-plus_part ps m g.0 g.1 a.0 a.1) (worth-plus_parts a.0 m gs qs a.2)

  with_constants : (fp fc gp gc m k p : ℤ) → p ≡ fp +ℤ m *ℤ gp → k ≡ fc +ℤ m *ℤ gc → p +ℤ k ≡ (fp +ℤ fc) +ℤ m *ℤ (gp +ℤ gc)
  with_constants fp fc gp gc m k p e f =
      let apart = distrib_left m gp gc in
      omega (arith, ints, e, f, apart)

  pub worth-plus : (f : Linear V) (m : Factor) (g h : Linear V) → plus same f m g ≡ Some h → worth values h ≡ worth values f +ℤ factor_of m *ℤ worth values g
  worth-plus f m g h e =
      let a = bind_some (plus_parts same f.parts m g.parts) (λ ps. more f.constant m g.constant >>= λ c. Some (record { parts = ps; constant = c })) h e in
      let b = bind_some (more f.constant m g.constant) (λ c. Some (record { parts = a.0; constant = c })) h a.2 in
      let made : Linear V = record { parts = a.0; constant = b.0 } in
      ap (worth values) (sym (some_is made h b.2)) ∙ with_constants (worth_of_parts values f.parts) f.constant (worth_of_parts values g.parts) g.constant (factor_of m) b.0 (worth_of_parts values a.0) (worth-plus_parts f.parts m g.parts a.0 a.1) (more_is f.constant m g.constant b.0 b.1)

-- ---- forms of terms

pub number_of_same : (names : Names) (u v : Term) → same_term u v ≡ true → number_of names u ≡ number_of names v
number_of_same names u v e = ap (number_of names) (terms_are u v e)

pub worth-with : (names : Names) (f : Linear Term) (m : Factor) (g h : Linear Term) → with f m g ≡ Some h → worth (number_of names) h ≡ worth (number_of names) f +ℤ factor_of m *ℤ worth (number_of names) g
worth-with names f m g h e = worth-plus same_term (number_of names) (number_of_same names) f m g h e

none_before : (m x y : ℤ) → y ≡ (pos 0 +ℤ pos 0) +ℤ m *ℤ x → y ≡ m *ℤ x
none_before m x y e = omega (arith, ints, e)

pub worth-multiple : (names : Names) (m : Factor) (f h : Linear Term) → multiple m f ≡ Some h → worth (number_of names) h ≡ factor_of m *ℤ worth (number_of names) f
worth-multiple names m f h e = none_before (factor_of m) (worth (number_of names) f) (worth (number_of names) h) (worth-with names nothing m f h e)

one_part : (x : ℤ) → (pos 1 *ℤ x +ℤ pos 0) +ℤ pos 0 ≡ x
one_part x = let one = one_times x in omega (arith, ints, one)

worth-variable : (names : Names) (t : Term) (f : Linear Term) → Some (variable_form t) ≡ Some f → worth (number_of names) f ≡ number_of names t
worth-variable names t f e = ap (worth (number_of names)) (sym (some_is (variable_form t) f e)) ∙ one_part (number_of names t)

added : (a b x y h : ℤ) → a ≡ x → b ≡ y → h ≡ a +ℤ pos 1 *ℤ b → h ≡ x +ℤ y
added a b x y h e f g = let one = one_times b in omega (arith, ints, e, f, g, one)

taken : (a b x y h : ℤ) → a ≡ x → b ≡ y → h ≡ a +ℤ negsuc 0 *ℤ b → h ≡ x -ℤ y
taken a b x y h e f g = let minus = minus_times b in omega (arith, ints, e, f, g, minus)

opposite : (a x h : ℤ) → a ≡ x → h ≡ negsuc 0 *ℤ a → h ≡ neg_ℤ x
opposite a x h e g = let minus = minus_times a in omega (arith, ints, e, g, minus)

number_is : (names : Names) (t : Term) (c : ℤ) → as_number t ≡ Some c → c ≡ number_of names t
number_is names (Of (number z) ps) c e = sym (some_is z c e)
number_is names t c e = absurd cc

times_number : (c x a h : ℤ) (n : ℤ) → c ≡ n → a ≡ x → h ≡ c *ℤ a → h ≡ n *ℤ x
times_number c x a h n e f g = g ∙ ap (λ (z : ℤ). z *ℤ a) e ∙ ap (λ (z : ℤ). n *ℤ z) f

worth-product : (names : Names) (s t : Term) (a b : Option ℤ) (o p : Option (Linear Term)) (f : Linear Term) → as_number s ≡ a → as_number t ≡ b → ((g : Linear Term) → o ≡ Some g → worth (number_of names) g ≡ number_of names s) → ((g : Linear Term) → p ≡ Some g → worth (number_of names) g ≡ number_of names t) → form_of_product (two mul s t) a b o p ≡ Some f → worth (number_of names) f ≡ number_of names s *ℤ number_of names t
worth-product names s t (Some c) b o p f is_a is_b first second e =
    let x = bind_some p (λ h. multiple (Scale c) h) f e in
    times_number c (number_of names t) (worth (number_of names) x.0) (worth (number_of names) f) (number_of names s) (number_is names s c is_a) (second x.0 x.1) (worth-multiple names (Scale c) x.0 f x.2)
worth-product names s t None (Some c) o p f is_a is_b first second e =
    let x = bind_some o (λ h. multiple (Scale c) h) f e in
    times_number c (number_of names s) (worth (number_of names) x.0) (worth (number_of names) f) (number_of names t) (number_is names t c is_b) (first x.0 x.1) (worth-multiple names (Scale c) x.0 f x.2) ∙ *ℤ_comm (number_of names t) (number_of names s)
worth-product names s t None None o p f is_a is_b first second e = worth-variable names (two mul s t) f e

pub worth-form_of : (names : Names) (t : Term) (f : Linear Term) → form_of t ≡ Some f → worth (number_of names) f ≡ number_of names t
worth-form_of names (Of (number z) ps) f e = ap (worth (number_of names)) (sym (some_is (number_form z) f e)) ∙ alone z
worth-form_of names (Of add (part s (part t no_parts))) h e =
    let a = bind_some (form_of s) (λ f. form_of t >>= λ g. with f (Times 1) g) h e in
    let b = bind_some (form_of t) (λ g. with a.0 (Times 1) g) h a.2 in
    added (worth (number_of names) a.0) (worth (number_of names) b.0) _ _ (worth (number_of names) h) (worth-form_of names s a.0 a.1) (worth-form_of names t b.0 b.1) (worth-with names a.0 (Times 1) b.0 h b.2)
worth-form_of names (Of sub (part s (part t no_parts))) h e =
    let a = bind_some (form_of s) (λ f. form_of t >>= λ g. with f Minus g) h e in
    let b = bind_some (form_of t) (λ g. with a.0 Minus g) h a.2 in
    taken (worth (number_of names) a.0) (worth (number_of names) b.0) _ _ (worth (number_of names) h) (worth-form_of names s a.0 a.1) (worth-form_of names t b.0 b.1) (worth-with names a.0 Minus b.0 h b.2)
worth-form_of names (Of neg (part s no_parts)) h e =
    let a = bind_some (form_of s) (λ f. multiple Minus f) h e in
    opposite (worth (number_of names) a.0) _ (worth (number_of names) h) (worth-form_of names s a.0 a.1) (worth-multiple names Minus a.0 h a.2)
worth-form_of names (Of mul (part s (part t no_parts))) h e =
    worth-product names s t (as_number s) (as_number t) (form_of s) (form_of t) h refl refl (λ g is. worth-form_of names s g is) (λ g is. worth-form_of names t g is) e
worth-form_of names t f e = worth-variable names t f e

-- ---- forms of literals

at_most_is : (a b : ℤ) → at_most a b ≡ true → a ≤ℤ b
at_most_is a b h = grind (arith, ints)

at_most_not : (a b : ℤ) → at_most a b ≡ false → b <ℤ a
at_most_not a b h = grind (arith, ints)

is_at_most : (a b : ℤ) → a ≤ℤ b → at_most a b ≡ true
is_at_most a b h = grind (arith, ints)

not_at_most : (a b : ℤ) → b <ℤ a → at_most a b ≡ false
not_at_most a b h = grind (arith, ints)

not_less : (x y h : ℤ) → x ≤ℤ y → h ≡ y -ℤ x → pos 0 ≤ℤ h
not_less x y h le e = omega (arith, ints, e, le)

is_less : (x y h : ℤ) → y <ℤ x → h ≡ y -ℤ x → h <ℤ pos 0
is_less x y h lt e = omega (arith, ints, e, lt)

-- y - x is at least 0 exactly where x is at most y
says_order : (x y h : ℤ) → h ≡ y -ℤ x → at_most (pos 0) h ≡ at_most x y
says_order x y h e = by (at_most x y) refl
  where
    by : (b : Bool) → at_most x y ≡ b → at_most (pos 0) h ≡ b
    by true is = is_at_most (pos 0) h (not_less x y h (at_most_is x y is) e)
    by false is = not_at_most (pos 0) h (is_less x y h (at_most_not x y is) e)

over : (x y k : ℤ) → y <ℤ x → k ≡ (x -ℤ y) -ℤ pos 1 → pos 0 ≤ℤ k
over x y k lt e = omega (arith, ints, e, lt)

not_over : (x y k : ℤ) → x ≤ℤ y → k ≡ (x -ℤ y) -ℤ pos 1 → k <ℤ pos 0
not_over x y k le e = omega (arith, ints, e, le)

-- x - y - 1 is at least 0 exactly where x isn't at most y
says_denial : (x y k : ℤ) → k ≡ (x -ℤ y) -ℤ pos 1 → at_most (pos 0) k ≡ not (at_most x y)
says_denial x y k e = by (at_most x y) refl
  where
    by : (b : Bool) → at_most x y ≡ b → at_most (pos 0) k ≡ not b
    by true is = not_at_most (pos 0) k (not_over x y k (at_most_is x y is) e)
    by false is = is_at_most (pos 0) k (over x y k (at_most_not x y is) e)

turned_around : (a b x y z h k : ℤ) → a ≡ x → b ≡ y → z ≡ pos 0 *ℤ a → h ≡ z +ℤ pos 1 *ℤ b → k ≡ h +ℤ negsuc 0 *ℤ a → k ≡ y -ℤ x
turned_around a b x y z h k e f p q r =
    let none = zero-*ℤ a in
    let one = one_times b in
    let minus = minus_times a in
    omega (arith, ints, e, f, p, q, r, none, one, minus)

pub worth-difference : (names : Names) (f g h : Linear Term) (x y : ℤ) → worth (number_of names) f ≡ x → worth (number_of names) g ≡ y → difference f g ≡ Some h → worth (number_of names) h ≡ y -ℤ x
worth-difference names f g h x y e_f e_g e =
    let a = bind_some (multiple (Scale (pos 0)) f) (λ z. with z (Times 1) g >>= λ h. with h Minus f) h e in
    let b = bind_some (with a.0 (Times 1) g) (λ h. with h Minus f) h a.2 in
    turned_around _ _ x y (worth (number_of names) a.0) (worth (number_of names) b.0) (worth (number_of names) h) e_f e_g (worth-multiple names (Scale (pos 0)) f a.0 a.1) (worth-with names a.0 (Times 1) g b.0 b.1) (worth-with names b.0 Minus f h b.2)

less_one : (a b x y h k : ℤ) → a ≡ x → b ≡ y → h ≡ a +ℤ negsuc 0 *ℤ b → k ≡ h +ℤ negsuc 0 *ℤ pos 1 → k ≡ (x -ℤ y) -ℤ pos 1
less_one a b x y h k e f p q =
    let minus = minus_times b in
    let one = minus_times (pos 1) in
    omega (arith, ints, e, f, p, q, minus, one)

pub worth-excess : (names : Names) (f g k : Linear Term) (x y : ℤ) → worth (number_of names) f ≡ x → worth (number_of names) g ≡ y → excess f g ≡ Some k → worth (number_of names) k ≡ (x -ℤ y) -ℤ pos 1
worth-excess names f g k x y e_f e_g e =
    let a = bind_some (with f Minus g) (λ h. with h Minus (number_form (pos 1))) k e in
    less_one _ _ x y (worth (number_of names) a.0) (worth (number_of names) k) e_f e_g (worth-with names f Minus g a.0 a.1) (worth-with names a.0 Minus (number_form (pos 1)) k a.2)

says-denial : (names : Names) (t : Term) (f : Linear Term) → form_of_denial t ≡ Some f → at_most (pos 0) (worth (number_of names) f) ≡ not (sense names t).truth
says-denial names (Of term.at_most (part s (part t no_parts))) k e =
    let a = bind_some (form_of s) (λ f. form_of t >>= λ g. excess f g) k e in
    let b = bind_some (form_of t) (λ g. excess a.0 g) k a.2 in
    says_denial (number_of names s) (number_of names t) (worth (number_of names) k) (worth-excess names a.0 b.0 k _ _ (worth-form_of names s a.0 a.1) (worth-form_of names t b.0 b.1) b.2)
says-denial names t f e = absurd cc

-- the form of a literal says what the literal says
pub says-form_of_literal : (t : Term) (f : Linear Term) → form_of_literal t ≡ Some f → SaysAsMuch f t
says-form_of_literal (Of term.at_most (part s (part t no_parts))) k e names =
    let a = bind_some (form_of s) (λ f. form_of t >>= λ g. difference f g) k e in
    let b = bind_some (form_of t) (λ g. difference a.0 g) k a.2 in
    says_order (number_of names s) (number_of names t) (worth (number_of names) k) (worth-difference names a.0 b.0 k _ _ (worth-form_of names s a.0 a.1) (worth-form_of names t b.0 b.1) b.2)
says-form_of_literal (Of term.denied (part t no_parts)) f e names = says-denial names t f e
says-form_of_literal t f e names = absurd cc

-- ---- sums of multiples

module _ (values : ℕ → ℤ) (forms : List (Linear ℕ)) where
  same_value : (u v : ℕ) → eqb u v ≡ true → values u ≡ values v
  same_value u v e = ap values (eqb-true u v e)

  one_more : (a m x b rest c : ℤ) → b ≡ a +ℤ m *ℤ x → c ≡ b +ℤ rest → c ≡ a +ℤ (m *ℤ x +ℤ rest)
  one_more a m x b rest c e f = omega (arith, ints, e, f)

  no_more : (a : ℤ) → a ≡ a +ℤ pos 0
  no_more a = omega (arith, ints)

  worth-combined_from : (f : Linear ℕ) (ms : List (ℕ × ℕ)) (h : Linear ℕ) → combined_from forms f ms ≡ Some h → worth values h ≡ worth values f +ℤ total values forms ms
  worth-combined_from f [] h e = ap (worth values) (sym (some_is f h e)) ∙ no_more (worth values f)
  worth-combined_from f (m ∷ ms) h e =
      let a = bind_some (plus eqb f (Times m.0) (form_at forms m.1)) (λ g. combined_from forms g ms) h e in
      one_more (worth values f) (pos m.0) (worth values (form_at forms m.1)) (worth values a.0) (total values forms ms) (worth values h) (worth-plus eqb values same_value f (Times m.0) (form_at forms m.1) a.0 a.1) (worth-combined_from a.0 ms h a.2)

  none_first : (a t : ℤ) → a ≡ (pos 0 +ℤ pos 0) +ℤ t → a ≡ t
  none_first a t e = omega (arith, ints, e)

  pub worth-combined : (ms : List (ℕ × ℕ)) (h : Linear ℕ) → combined forms ms ≡ Some h → worth values h ≡ total values forms ms
  worth-combined ms h e = none_first (worth values h) (total values forms ms) (worth-combined_from nothing ms h e)
