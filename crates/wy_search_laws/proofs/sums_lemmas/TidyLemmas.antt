-- Forms whose numbers fit 128 bits and in which no variable has two parts: sums are such, and what division leaves of them.
use Rattle.std.proofs.Common.{◌≡◌, ◌*◌, ◌+◌, ◌/◌, ◌<◌, ◌≤◌, ◌^◌, ◌∙◌, ℕ, zero, suc, List, [], ◌∷◌, ◌++◌, All, map, Bool, true, false, cond, eqb, ltb, ℤ, pos, negsuc, ◌+ℤ◌, ◌-ℤ◌, ◌*ℤ◌, Option, Some, None, refl, sym, ap, subst, arith, append_assoc}
use Rattle.std.specs.Prelude.{nat_eq, nat_lt, unsigned_abs, ◌==◌}
use Rattle.std.specs.Ordering.{int_eq}
use Rattle.std.proofs.lemmas.Bool.{eqb-true, eq-eqb, ltb-true, lt-ltb}
use Rattle.std.proofs.lemmas.Bool.Decides.{Decides-int_eq}
use Rattle.std.proofs.lemmas.List.{append-nil}
use Rattle.std.proofs.Math.Nat.{div-le_self}
use Rattle.wy_search_bounds.proofs.wy_lin_eliminate_proofs.ValidityLemmas.{some_form}
use Rattle.wy_lemmas.proofs.Choices.{both_true as still}
use Rattle.wy_lemmas.proofs.Lists.{some_parts}
use Rattle.wy_lemmas.proofs.Numbers.{zero_and, one_times}
use Rattle.wy_lemmas.proofs.Options.{some_same as some_is}
use Rattle.wy_search_bounds.specs.wy_term.Rewriting.{fits, fitted}
use Rattle.wy_search_bounds.specs.wy_lin.declared.arithmetic.Factor.{Factor}
use Rattle.wy_search_bounds.specs.wy_lin.declared.arithmetic.Factor.TheVariants.{Times, Scale, Minus}
use Rattle.wy_search_bounds.specs.wy_lin.Linear.{◌>>=◌, more, Linear, nothing, coefficient, with_coefficient, plus_part, plus_parts, plus}
use Rattle.wy_search_bounds.specs.wy_lin.Combination.{form_at, combined, combined_from}
use Rattle.wy_search_bounds.proofs.wy_lin_proofs.OptionLemmas.{bind_some, fitted_is}
use Rattle.wy_search_bounds.specs.wy_lin_eliminate.Division.{quotient, with_divided, divided_from, lowered}
use Rattle.wy_search_bounds.specs.wy_lin_eliminate.Validity.{is_bare, IsPlain}

-- ---- numbers of 128 bits

fits_if : (b : Bool) (z w : ℤ) → fits z ≡ b → cond b (Some z) None ≡ Some w → fits w ≡ true
fits_if true z w e f = subst (λ (x : ℤ). fits x ≡ true) (some_is z w f) e
fits_if false z w e f = absurd cc

pub fitted_fits : (z w : ℤ) → fitted z ≡ Some w → fits w ≡ true
fitted_fits z w e = fits_if (fits z) z w refl e

pub more_fits : (a : ℤ) (m : Factor) (c d : ℤ) → more a m c ≡ Some d → fits d ≡ true
more_fits a (Times m) c d e = let x = bind_some (fitted (pos m *ℤ c)) (λ (z : ℤ). fitted (a +ℤ z)) d e in fitted_fits (a +ℤ x.0) d x.2
more_fits a (Scale k) c d e = let x = bind_some (fitted (k *ℤ c)) (λ (z : ℤ). fitted (a +ℤ z)) d e in fitted_fits (a +ℤ x.0) d x.2
more_fits a Minus c d e = fitted_fits (a -ℤ c) d e

pub fits_fitted : (z : ℤ) → fits z ≡ true → fitted z ≡ Some z
fits_fitted z e = ap (λ (b : Bool). cond b (Some z) None) e

-- once a number, beside nothing
pub more_once : (c : ℤ) → fits c ≡ true → more (pos 0) (Times 1) c ≡ Some c
more_once c e =
    ap (λ (z : ℤ). fitted z >>= λ d. fitted (pos 0 +ℤ d)) (one_times c)
    ∙ (ap (λ (o : Option ℤ). o >>= λ d. fitted (pos 0 +ℤ d)) (fits_fitted c e)
    ∙ (ap fitted (zero_and c) ∙ fits_fitted c e))

-- ---- parts

pub eqb_turned : (a b : ℕ) → eqb a b ≡ false → eqb b a ≡ false
eqb_turned a b e = by (eqb b a) refl
  where
    by : (c : Bool) → eqb b a ≡ c → c ≡ false
    by true f = absurd (let up : true ≡ false = sym (eq-eqb a b (sym (eqb-true b a f))) ∙ e in cc)
    by false f = refl

-- no part has the variable
abbrev pub Absent : {V : Type 0} → (V → V → Bool) → V → List (ℤ × V) → Type 0
Absent same v [] = Unit {0}
Absent same v (p ∷ ps) = (same v p.1 ≡ false) × Absent same v ps

-- each coefficient fits 128 bits, and no variable has two parts
abbrev pub AreTidy : {V : Type 0} → (V → V → Bool) → List (ℤ × V) → Type 0
AreTidy same [] = Unit {0}
AreTidy same (p ∷ ps) = (fits p.0 ≡ true) × Absent same p.1 ps × AreTidy same ps

pub record IsTidyBy {V : Type 0} (same : V → V → Bool) (f : Linear V) : Type 0 where
  pub parts : AreTidy same f.parts
  pub constant : fits f.constant ≡ true

abbrev pub IsTidy : Linear ℕ → Type 0
IsTidy f = IsTidyBy eqb f

module _ {V : Type 0} (same : V → V → Bool) (turned : (a b : V) → same a b ≡ false → same b a ≡ false) where
  abbrev parts_of : List (ℤ × V) → Option (List (ℤ × V))
  parts_of ps = Some ps

  abbrev form_of_parts : List (ℤ × V) → ℤ → Linear V
  form_of_parts ps c = record { parts = ps; constant = c }

  abbrev form_as : Linear V → Option (Linear V)
  form_as f = Some f

  absent_with : (w : V) (ps : List (ℤ × V)) (v : V) (d : ℤ) → Absent same w ps → same w v ≡ false → Absent same w (with_coefficient same ps v d)
  absent_with w [] v d h e = (e, tt)
  absent_with w (p ∷ ps) v d h e = by (same v p.1) (absent_with w ps v d h.1 e)
    where
      by : (b : Bool) → Absent same w (with_coefficient same ps v d) → Absent same w (cond b ((d, p.1) ∷ ps) (p ∷ with_coefficient same ps v d))
      by true rest = (h.0, h.1)
      by false rest = (h.0, rest)

  tidy_with : (ps : List (ℤ × V)) (v : V) (d : ℤ) → AreTidy same ps → fits d ≡ true → AreTidy same (with_coefficient same ps v d)
  tidy_with [] v d h e = (e, tt, tt)
  tidy_with (p ∷ ps) v d h e = by (same v p.1) refl (tidy_with ps v d h.2 e)
    where
      by : (b : Bool) → same v p.1 ≡ b → AreTidy same (with_coefficient same ps v d) → AreTidy same (cond b ((d, p.1) ∷ ps) (p ∷ with_coefficient same ps v d))
      by true f rest = (e, h.1, h.2)
      by false f rest = (h.0, absent_with p.1 ps v d h.1 (turned v p.1 f), rest)

  tidy_part : (ps : List (ℤ × V)) (m : Factor) (c : ℤ) (v : V) (rs : List (ℤ × V)) → AreTidy same ps → plus_part same ps m c v ≡ Some rs → AreTidy same rs
  tidy_part ps m c v rs h e =
      let a = bind_some (more (coefficient same ps v) m c) (λ (d : ℤ). parts_of (with_coefficient same ps v d)) rs e in
      subst (λ (x : List (ℤ × V)). AreTidy same x) (some_is (with_coefficient same ps v a.0) rs a.2) (tidy_with ps v a.0 h (more_fits (coefficient same ps v) m c a.0 a.1))

  tidy_parts : (ps : List (ℤ × V)) (m : Factor) (qs rs : List (ℤ × V)) → AreTidy same ps → plus_parts same ps m qs ≡ Some rs → AreTidy same rs
  tidy_parts ps m [] rs h e = subst (λ (x : List (ℤ × V)). AreTidy same x) (some_is ps rs e) h
  tidy_parts ps m (q ∷ qs) rs h e =
      let a = bind_some (plus_part same ps m q.0 q.1) (λ (ss : List (ℤ × V)). plus_parts same ss m qs) rs e in
      tidy_parts a.0 m qs rs (tidy_part ps m q.0 q.1 a.0 h a.1) a.2

  -- a sum is tidy, where the first form's parts are
  pub tidy_plus : (f : Linear V) (m : Factor) (g h : Linear V) → AreTidy same f.parts → plus same f m g ≡ Some h → IsTidyBy same h
  tidy_plus f m g h tidy e =
      let a = bind_some (plus_parts same f.parts m g.parts) (λ (ps : List (ℤ × V)). more f.constant m g.constant >>= λ (c : ℤ). form_as (form_of_parts ps c)) h e in
      let b = bind_some (more f.constant m g.constant) (λ (c : ℤ). form_as (form_of_parts a.0 c)) h a.2 in
      subst (λ (x : Linear V). IsTidyBy same x) (some_is (form_of_parts a.0 b.0) h b.2) (record { parts = tidy_parts f.parts m g.parts a.0 tidy a.1; constant = more_fits f.constant m g.constant b.0 b.1 })

abbrev form_with : List (ℤ × ℕ) → ℤ → Linear ℕ
form_with ps c = record { parts = ps; constant = c }

pub tidy_combined : (all : List (Linear ℕ)) (f : Linear ℕ) (ms : List (ℕ × ℕ)) (h : Linear ℕ) → IsTidy f → combined_from all f ms ≡ Some h → IsTidy h
tidy_combined all f [] h tidy e = subst IsTidy (some_is f h e) tidy
tidy_combined all f (m ∷ ms) h tidy e =
    let a = bind_some (plus eqb f (Times m.0) (form_at all m.1)) (λ (g : Linear ℕ). combined_from all g ms) h e in
    tidy_combined all a.0 ms h (tidy_plus eqb eqb_turned f (Times m.0) (form_at all m.1) a.0 tidy.parts a.1) a.2

zero_fits : fits (pos 0) ≡ true
zero_fits = refl

pub nothing_tidy : IsTidy nothing
nothing_tidy = record { parts = tt; constant = zero_fits }

-- ---- a tidy form is its own sum

absent_none : (ps : List (ℤ × ℕ)) (v : ℕ) → Absent eqb v ps → coefficient eqb ps v ≡ pos 0
absent_none [] v h = refl
absent_none (p ∷ ps) v h = ap (λ (b : Bool). cond b p.0 (coefficient eqb ps v)) h.0 ∙ absent_none ps v h.1

absent_last : (ps : List (ℤ × ℕ)) (v : ℕ) (d : ℤ) → Absent eqb v ps → with_coefficient eqb ps v d ≡ ps ++ (d, v) ∷ []
absent_last [] v d h = refl
absent_last (p ∷ ps) v d h =
    ap (λ (b : Bool). cond b ((d, p.1) ∷ ps) (p ∷ with_coefficient eqb ps v d)) h.0 ∙ ap (λ (qs : List (ℤ × ℕ)). p ∷ qs) (absent_last ps v d h.1)

-- each of the second parts has a variable that the first ones don't have
abbrev pub AllAbsent : List (ℤ × ℕ) → List (ℤ × ℕ) → Type 0
AllAbsent done [] = Unit {0}
AllAbsent done (p ∷ ps) = Absent eqb p.1 done × AllAbsent done ps

absent_more : (v : ℕ) (ps : List (ℤ × ℕ)) (q : ℤ × ℕ) → Absent eqb v ps → eqb v q.1 ≡ false → Absent eqb v (ps ++ q ∷ [])
absent_more v [] q h e = (e, tt)
absent_more v (p ∷ ps) q h e = (h.0, absent_more v ps q h.1 e)

pub all_absent_more : (done : List (ℤ × ℕ)) (q : ℤ × ℕ) (ps : List (ℤ × ℕ)) → AllAbsent done ps → Absent eqb q.1 ps → AllAbsent (done ++ q ∷ []) ps
all_absent_more done q [] h a = tt
all_absent_more done q (p ∷ ps) h a = (absent_more p.1 done q h.0 (eqb_turned q.1 p.1 a.0), all_absent_more done q ps h.1 a.1)

pub none_absent : (ps : List (ℤ × ℕ)) → AllAbsent [] ps
none_absent [] = tt
none_absent (p ∷ ps) = (tt, none_absent ps)

pub part_put_last : (done : List (ℤ × ℕ)) (c : ℤ) (v : ℕ) → Absent eqb v done → fits c ≡ true → plus_part eqb done (Times 1) c v ≡ Some (done ++ (c, v) ∷ [])
part_put_last done c v h e =
    ap (λ (a : ℤ). more a (Times 1) c >>= λ (d : ℤ). some_parts (with_coefficient eqb done v d)) (absent_none done v h)
    ∙ (ap (λ (o : Option ℤ). o >>= λ (d : ℤ). some_parts (with_coefficient eqb done v d)) (more_once c e)
    ∙ ap some_parts (absent_last done v c h))

pub parts_put_last : (done ps : List (ℤ × ℕ)) → AreTidy eqb ps → AllAbsent done ps → plus_parts eqb done (Times 1) ps ≡ Some (done ++ ps)
parts_put_last done [] tidy absent = ap some_parts (sym (append-nil done))
parts_put_last done (p ∷ ps) tidy absent =
    ap (λ (o : Option (List (ℤ × ℕ))). o >>= λ (rs : List (ℤ × ℕ)). plus_parts eqb rs (Times 1) ps) (part_put_last done p.0 p.1 absent.0 tidy.0)
    ∙ (parts_put_last (done ++ p ∷ []) ps tidy.2 (all_absent_more done p ps absent.1 tidy.1) ∙ ap some_parts (append_assoc done (p ∷ []) ps))

pub tidy_plain : (f : Linear ℕ) → IsTidy f → IsPlain f
tidy_plain f tidy =
    ap (λ (o : Option (List (ℤ × ℕ))). o >>= λ (ps : List (ℤ × ℕ)). more (pos 0) (Times 1) f.constant >>= λ (c : ℤ). some_form (form_with ps c)) (parts_put_last [] f.parts tidy.parts (none_absent f.parts))
    ∙ ap (λ (o : Option ℤ). o >>= λ (c : ℤ). some_form (form_with f.parts c)) (more_once f.constant tidy.constant)

-- ---- division

less_fits : (m n b : ℕ) → m ≤ n → nat_lt n b ≡ true → nat_lt m b ≡ true
less_fits m n b le e = let lt : n < b = ltb-true n b e in lt-ltb m b (omega (arith, le, lt))

pub quotient_fits : (d : ℕ) (c : ℤ) → fits c ≡ true → fits (quotient d c) ≡ true
quotient_fits d (pos n) e = less_fits (n / d) n (2 ^ 127) (div-le_self n d) e
quotient_fits d (negsuc n) e = less_fits (n / d) n (2 ^ 127) (div-le_self n d) e

-- the divided parts, in their order
abbrev pub quotients : ℕ → List (ℤ × ℕ) → List (ℤ × ℕ)
quotients d [] = []
quotients d (p ∷ ps) = cond (int_eq p.0 (pos 0)) (quotients d ps) ((quotient d p.0, p.1) ∷ quotients d ps)

divided_is : (d : ℕ) (done ps : List (ℤ × ℕ)) → divided_from d done ps ≡ done ++ quotients d ps
divided_is d done [] = sym (append-nil done)
divided_is d done (p ∷ ps) = divided_is d (with_divided d done p) ps ∙ by (int_eq p.0 (pos 0))
  where
    by : (b : Bool) → cond b done (done ++ (quotient d p.0, p.1) ∷ []) ++ quotients d ps ≡ done ++ cond b (quotients d ps) ((quotient d p.0, p.1) ∷ quotients d ps)
    by true = refl
    by false = append_assoc done ((quotient d p.0, p.1) ∷ []) (quotients d ps)

pub lowered_is : (d : ℕ) (f : Linear ℕ) → lowered d f ≡ form_with (quotients d f.parts) (quotient d f.constant)
lowered_is d f = ap (λ (ps : List (ℤ × ℕ)). form_with ps (quotient d f.constant)) (divided_is d [] f.parts)

absent_quotients : (v d : ℕ) (ps : List (ℤ × ℕ)) → Absent eqb v ps → Absent eqb v (quotients d ps)
absent_quotients v d [] h = tt
absent_quotients v d (p ∷ ps) h = by (int_eq p.0 (pos 0)) (absent_quotients v d ps h.1)
  where
    by : (b : Bool) → Absent eqb v (quotients d ps) → Absent eqb v (cond b (quotients d ps) ((quotient d p.0, p.1) ∷ quotients d ps))
    by true rest = rest
    by false rest = (h.0, rest)

pub tidy_quotients : (d : ℕ) (ps : List (ℤ × ℕ)) → AreTidy eqb ps → AreTidy eqb (quotients d ps)
tidy_quotients d [] h = tt
tidy_quotients d (p ∷ ps) h = by (int_eq p.0 (pos 0)) (tidy_quotients d ps h.2)
  where
    by : (b : Bool) → AreTidy eqb (quotients d ps) → AreTidy eqb (cond b (quotients d ps) ((quotient d p.0, p.1) ∷ quotients d ps))
    by true rest = rest
    by false rest = (quotient_fits d p.0 h.0, absent_quotients p.1 d ps h.1, rest)

pub tidy_lowered : (d : ℕ) (f : Linear ℕ) → IsTidy f → IsTidy (lowered d f)
tidy_lowered d f h = subst IsTidy (sym (lowered_is d f)) (record { parts = tidy_quotients d f.parts h.parts; constant = quotient_fits d f.constant h.constant })

abs_none : (z : ℤ) → int_eq z (pos 0) ≡ true → unsigned_abs z ≡ 0
abs_none z e = ap unsigned_abs ((Decides-int_eq z (pos 0)).0 e)

-- a form of whose parts nothing is left has no variable
pub none_left : (d : ℕ) (ps : List (ℤ × ℕ)) → quotients d ps ≡ [] → is_bare ps ≡ true
none_left d [] e = refl
none_left d (p ∷ ps) e = by (λ f. none_left d ps f) (int_eq p.0 (pos 0)) refl e
  where
    by : (quotients d ps ≡ [] → is_bare ps ≡ true) → (b : Bool) → int_eq p.0 (pos 0) ≡ b → cond b (quotients d ps) ((quotient d p.0, p.1) ∷ quotients d ps) ≡ [] → is_bare (p ∷ ps) ≡ true
    by rest true f g = still (unsigned_abs p.0 == 0) (is_bare ps) (eq-eqb (unsigned_abs p.0) 0 (abs_none p.0 f)) (rest g)
    by rest false f g = absurd cc
