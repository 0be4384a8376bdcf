-- Sums of forms as valid steps of a certificate.
use Rattle.std.proofs.Common.{◌≡◌, ◌<◌, ◌*◌, ◌/◌, ◌%◌, ℕ, zero, suc, List, [], ◌∷◌, ◌++◌, length, Bool, true, false, cond, ℤ, pos, ◌+ℤ◌, ◌*ℤ◌, Option, Some, refl, sym, ap, subst, ◌∙◌, arith}
use Rattle.std.specs.Prelude.{nat_eq, nat_lt, ◌==◌, ◌&&◌, unsigned_abs}
use Rattle.std.specs.Int.{◌∣◌}
use Rattle.std.proofs.lemmas.Bool.{eq-eqb}
use Rattle.std.proofs.lemmas.Int.{ints, unsigned_abs-mul}
use Rattle.std.proofs.lemmas.Nat.Gcd.{dvd_refl, dvd_trans, le_of_dvd, mod-eq-zero_of_dvd}
use Rattle.std.proofs.Math.Nat.{eq-zero_of_zero-dvd}
use Rattle.std.proofs.lemmas.Nat.{le-div}
use Rattle.wy_lemmas.proofs.Choices.{both_true as and_true, less_is as lt-true}
use Rattle.wy_lemmas.proofs.Lists.{some_parts}
use Rattle.wy_lemmas.proofs.Numbers.{one_times, distrib_right, even_sum}
use Rattle.wy_lemmas.proofs.Options.{some_same as some_is}
use Rattle.wy_lin.specs.wy_term.Rewriting.{fitted}
use Rattle.wy_lin.specs.declared.arithmetic.Factor.TheVariants.{Times}
use Rattle.wy_lin.specs.Linear.{◌>>=◌, more, Linear, nothing, coefficient, with_coefficient, plus_part, plus_parts, plus}
use Rattle.wy_lin.specs.Combination.{form_at, combined, combined_from}
use Rattle.wy_lin.proofs.OptionLemmas.{bind_some, fitted_is}
use Rattle.wy_lin_eliminate.specs.Division.{gcd, common_from, common}
use Rattle.wy_lin_eliminate.specs.Validity.{are_named, divides, is_bare}
use Rattle.wy_lin_eliminate.proofs.DivisionLemmas.{gcd-is}

-- ---- the greatest common divisor divides

abbrev pub Divided : ℕ → List (ℤ × ℕ) → Type 0
Divided d [] = Unit {0}
Divided d (p ∷ ps) = (d ∣ unsigned_abs p.0) × Divided d ps

common_from-divides : (g : ℕ) (ps : List (ℤ × ℕ)) → (common_from g ps ∣ g) × Divided (common_from g ps) ps
common_from-divides g [] = (dvd_refl g, tt)
common_from-divides g (p ∷ ps) =
    let known = common_from-divides (gcd g (unsigned_abs p.0)) ps in
    let is = gcd-is g (unsigned_abs p.0) in
    (dvd_trans (common_from (gcd g (unsigned_abs p.0)) ps) known.0 is.0, (dvd_trans (common_from (gcd g (unsigned_abs p.0)) ps) known.0 is.1, known.1))

divided-divides : (d : ℕ) (ps : List (ℤ × ℕ)) → Divided d ps → divides d ps ≡ true
divided-divides d [] h = refl
divided-divides d (p ∷ ps) h = and_true (unsigned_abs p.0 % d == 0) (divides d ps) (eq-eqb (unsigned_abs p.0 % d) 0 (mod-eq-zero_of_dvd d h.0)) (divided-divides d ps h.1)

divided-bare : (ps : List (ℤ × ℕ)) → Divided 0 ps → is_bare ps ≡ true
divided-bare [] h = refl
divided-bare (p ∷ ps) h = and_true (unsigned_abs p.0 == 0) (is_bare ps) (eq-eqb (unsigned_abs p.0) 0 (eq-zero_of_zero-dvd h.0)) (divided-bare ps h.1)

pub common-divides : (ps : List (ℤ × ℕ)) → divides (common ps) ps ≡ true
common-divides ps = divided-divides (common ps) ps (common_from-divides 0 ps).1

pub common-bare : (ps : List (ℤ × ℕ)) → common ps ≡ 0 → is_bare ps ≡ true
common-bare ps e = divided-bare ps (subst (λ (d : ℕ). Divided d ps) e (common_from-divides 0 ps).1)

-- ---- twice a form has even coefficients

pub record IsEven (z : ℤ) : Type 0 where
  pub half : ℤ
  pub is : z ≡ half +ℤ half

abbrev pub AreEven : List (ℤ × ℕ) → Type 0
AreEven [] = Unit {0}
AreEven (p ∷ ps) = IsEven p.0 × AreEven ps

abbrev pub some_form : Linear ℕ → Option (Linear ℕ)
some_form f = Some f

abbrev pub form_with : List (ℤ × ℕ) → ℤ → Linear ℕ
form_with ps c = record { parts = ps; constant = c }

even_zero : IsEven (pos 0)
even_zero = record { half = pos 0; is = omega (arith, ints) }

even_more : (a : ℤ) (m : ℕ) (c d : ℤ) → IsEven a → more a (Times (2 * m)) c ≡ Some d → IsEven d
even_more a m c d even gives =
    let b = bind_some (fitted (pos (2 * m) *ℤ c)) (λ (e : ℤ). fitted (a +ℤ e)) d gives in
    record { half = even.half +ℤ (pos m *ℤ c); is = even_sum m a c d b.0 even.half even.is (fitted_is (pos (2 * m) *ℤ c) b.0 b.1) (fitted_is (a +ℤ b.0) d b.2) }

even_coefficient : (ps : List (ℤ × ℕ)) (v : ℕ) → AreEven ps → IsEven (coefficient nat_eq ps v)
even_coefficient [] v h = even_zero
even_coefficient (p ∷ ps) v h = by (nat_eq v p.1) h (even_coefficient ps v h.1)
  where
    by : (b : Bool) → AreEven (p ∷ ps) → IsEven (coefficient nat_eq ps v) → IsEven (cond b p.0 (coefficient nat_eq ps v))
    by true even rest = even.0
    by false even rest = rest

pub even_with : (ps : List (ℤ × ℕ)) (v : ℕ) (d : ℤ) → IsEven d → AreEven ps → AreEven (with_coefficient nat_eq ps v d)
even_with [] v d even h = (even, tt)
even_with (p ∷ ps) v d even h = by (nat_eq v p.1) (even_with ps v d even h.1)
  where
    by : (b : Bool) → AreEven (with_coefficient nat_eq ps v d) → AreEven (cond b ((d, p.1) ∷ ps) (p ∷ with_coefficient nat_eq ps v d))
    by true rest = (even, h.1)
    by false rest = (h.0, rest)

even_part : (ps : List (ℤ × ℕ)) (m : ℕ) (c : ℤ) (v : ℕ) (rs : List (ℤ × ℕ)) → AreEven ps → plus_part nat_eq ps (Times (2 * m)) c v ≡ Some rs → AreEven rs
even_part ps m c v rs h gives =
    let b = bind_some (more (coefficient nat_eq ps v) (Times (2 * m)) c) (λ (d : ℤ). some_parts (with_coefficient nat_eq ps v d)) rs gives in
    let is = some_is (with_coefficient nat_eq ps v b.0) rs b.2 in
    subst AreEven is (even_with ps v b.0 (even_more (coefficient nat_eq ps v) m c b.0 (even_coefficient ps v h) b.1) h)

even_parts : (ps : List (ℤ × ℕ)) (m : ℕ) (qs rs : List (ℤ × ℕ)) → AreEven ps → plus_parts nat_eq ps (Times (2 * m)) qs ≡ Some rs → AreEven rs
even_parts ps m [] rs h gives = subst AreEven (some_is ps rs gives) h
even_parts ps m (q ∷ qs) rs h gives =
    let b = bind_some (plus_part nat_eq ps (Times (2 * m)) q.0 q.1) (λ (ss : List (ℤ × ℕ)). plus_parts nat_eq ss (Times (2 * m)) qs) rs gives in
    even_parts b.0 m qs rs (even_part ps m q.0 q.1 b.0 h b.1) b.2

pub even_plus : (f : Linear ℕ) (m : ℕ) (g h : Linear ℕ) → AreEven f.parts → plus nat_eq f (Times (2 * m)) g ≡ Some h → AreEven h.parts
even_plus f m g h even gives =
    let b = bind_some (plus_parts nat_eq f.parts (Times (2 * m)) g.parts) (λ (ps : List (ℤ × ℕ)). more f.constant (Times (2 * m)) g.constant >>= λ (c : ℤ). some_form (form_with ps c)) h gives in
    let c = bind_some (more f.constant (Times (2 * m)) g.constant) (λ (c : ℤ). some_form (form_with b.0 c)) h b.2 in
    let is = ap (λ (k : Linear ℕ). k.parts) (some_is (form_with b.0 c.0) h c.2) in
    subst AreEven is (even_parts f.parts m g.parts b.0 even b.1)

even_combined : (all : List (Linear ℕ)) (m l n u : ℕ) (h : Linear ℕ) → combined all ((2 * m, l) ∷ (2 * n, u) ∷ []) ≡ Some h → AreEven h.parts
even_combined all m l n u h gives =
    let b = bind_some (plus nat_eq nothing (Times (2 * m)) (form_at all l)) (λ (g : Linear ℕ). combined_from all g ((2 * n, u) ∷ [])) h gives in
    let c = bind_some (plus nat_eq b.0 (Times (2 * n)) (form_at all u)) (λ (g : Linear ℕ). some_form g) h b.2 in
    let is = ap (λ (k : Linear ℕ). k.parts) (some_is c.0 h c.2) in
    subst AreEven is (even_plus b.0 n (form_at all u) c.0 (even_plus nothing m (form_at all l) b.0 tt b.1) c.1)

pub even_abs : (z : ℤ) → IsEven z → unsigned_abs z % 2 ≡ 0
even_abs z even =
    let two : pos 2 ≡ pos 1 +ℤ pos 1 = omega (arith, ints) in
    let whole : pos 2 *ℤ even.half ≡ pos 1 *ℤ even.half +ℤ pos 1 *ℤ even.half = ap (λ (y : ℤ). y *ℤ even.half) two ∙ distrib_right (pos 1) (pos 1) even.half in
    let one = one_times even.half in
    let twice : z ≡ pos 2 *ℤ even.half = omega (arith, ints, even.is, whole, one) in
    let size : unsigned_abs z ≡ 2 * unsigned_abs even.half = ap unsigned_abs twice ∙ unsigned_abs-mul (pos 2) even.half in
    omega (arith, size)

pub even_divides : (ps : List (ℤ × ℕ)) → AreEven ps → divides 2 ps ≡ true
even_divides [] h = refl
even_divides (p ∷ ps) h = and_true (unsigned_abs p.0 % 2 == 0) (divides 2 ps) (eq-eqb (unsigned_abs p.0 % 2) 0 (even_abs p.0 h.0)) (even_divides ps h.1)

pub twice-divides : (all : List (Linear ℕ)) (m l n u : ℕ) (h : Linear ℕ) → combined all ((2 * m, l) ∷ (2 * n, u) ∷ []) ≡ Some h → divides 2 h.parts ≡ true
twice-divides all m l n u h gives = even_divides h.parts (even_combined all m l n u h gives)

-- ---- multipliers and places

-- the form at a place has the variable
abbrev pub HasVariable : List (Linear ℕ) → ℕ → ℕ → Type 0
HasVariable all v i = 0 < unsigned_abs (coefficient nat_eq (form_at all i).parts v)

pub place_within : (all : List (Linear ℕ)) (v i : ℕ) → HasVariable all v i → i < length all
place_within [] v i h = absurd (omega (arith, h))
place_within (x ∷ xs) v zero h = omega arith
place_within (x ∷ xs) v (suc i) h =
    let rest = place_within xs v i h in
    omega (arith, rest)

pub form_before : (all more : List (Linear ℕ)) (i : ℕ) → i < length all → form_at (all ++ more) i ≡ form_at all i
form_before [] more i lt = absurd (omega (arith, lt))
form_before (x ∷ xs) more zero lt = refl
form_before (x ∷ xs) more (suc i) lt = form_before xs more i (omega (arith, lt))

pub variable_before : (all more : List (Linear ℕ)) (v i : ℕ) → HasVariable all v i → HasVariable (all ++ more) v i
variable_before all more v i h =
    let same = form_before all more i (place_within all v i h) in
    subst (λ (f : Linear ℕ). 0 < unsigned_abs (coefficient nat_eq f.parts v)) (sym same) h

pub share_first : (a b : ℕ) → 0 < a → 0 < a / gcd a b
share_first a b lt =
    let d = (gcd-is a b).0 in
    let le = le_of_dvd lt d in
    let up : 0 < gcd a b = above a (gcd a b) lt d in
    le-div 1 a (gcd a b) up (omega (arith, le))
  where
    above : (a g : ℕ) → 0 < a → g ∣ a → 0 < g
    above a zero lt d =
        let e = eq-zero_of_zero-dvd d in
        absurd (omega (arith, lt, e))
    above a (suc g) lt d = omega arith

pub share_second : (a b : ℕ) → 0 < b → 0 < b / gcd a b
share_second a b lt =
    let d = (gcd-is a b).1 in
    let le = le_of_dvd lt d in
    let up : 0 < gcd a b = above b (gcd a b) lt d in
    le-div 1 b (gcd a b) up (omega (arith, le))
  where
    above : (a g : ℕ) → 0 < a → g ∣ a → 0 < g
    above a zero lt d =
        let e = eq-zero_of_zero-dvd d in
        absurd (omega (arith, lt, e))
    above a (suc g) lt d = omega arith

pub named_one : (n m i : ℕ) → 0 < m → i < n → are_named n ((m, i) ∷ []) ≡ true
named_one n m i lm li = and_true (nat_lt 0 m && nat_lt i n) true (and_true (nat_lt 0 m) (nat_lt i n) (lt-true 0 m lm) (lt-true i n li)) refl

pub named_two : (n m l k u : ℕ) → 0 < m → l < n → 0 < k → u < n → are_named n ((m, l) ∷ (k, u) ∷ []) ≡ true
named_two n m l k u lm ll lk lu = and_true (nat_lt 0 m && nat_lt l n) (are_named n ((k, u) ∷ [])) (and_true (nat_lt 0 m) (nat_lt l n) (lt-true 0 m lm) (lt-true l n ll)) (named_one n k u lk lu)
