-- Bounds of a factor.
use Rattle.std.proofs.Common.{◌≡◌, ◌≢◌, ◌∙◌, ◌<◌, ◌≤◌, ◌+◌, ℕ, zero, suc, List, [], ◌∷◌, drop, length, map, Bool, true, false, not, cond, ℤ, pos, neg_ℤ, ◌+ℤ◌, ◌-ℤ◌, ◌*ℤ◌, ◌≤ℤ◌, ◌<ℤ◌, Option, Some, None, refl, sym, ap, subst, arith}
use Rattle.std.specs.Prelude.{slice_get, unsigned_abs, int_lt, IfSome}
use Rattle.std.specs.Bool.{beq}
use Rattle.std.proofs.Math.IntN.{*ℤ_comm}
use Rattle.std.proofs.lemmas.Int.{ints}
use Rattle.wy_search_bounds.proofs.QuotientLemmas.{quotient_more}
use Rattle.wy_search_bounds.specs.Bounds.{shift, AreBounds}
use Rattle.wy_search_bounds.specs.declared.tightest.Bound.{Bound}
use Rattle.wy_cong.proofs.wy_facts_proofs.QuotientLemmas.{times_opposite}
use Rattle.wy_cong.specs.wy_facts.Schema.{only_if}
use Rattle.wy_cong.specs.wy_check_spec.judge.Node.{Literal}
use Rattle.wy_lin.specs.Linear.{◌>>=◌, Linear, coefficient}
use Rattle.wy_lin.specs.TermForm.{form_of_literal}
use Rattle.wy_check.specs.Seen.{signed_number, AreAffine}
use Rattle.wy_check.specs.declared.affine.Affine.{Affine}
use Rattle.wy_cong.specs.wy_search_spec.Expansion.{best_bound, bound_by_literal, tighter, with_bound}
use Rattle.wy_term.specs.Data.{quotient_down}
use Rattle.wy_term.specs.Same.{same_term}
use Rattle.wy_term.specs.Term.{Term}
use Rattle.wy_cong.proofs.wy_check_spec_proofs.valid_lemmas.SharedLemmas.{numbered}
use Rattle.wy_cong.specs.wy_check_spec.valid.Literals.{formula_of}
use Rattle.wy_cong.specs.wy_check_spec.valid.Products as products
use Rattle.wy_cong.specs.wy_check_spec.valid.Products.{affine, is_multiple, leading, ratio}
use Rattle.wy_cong.specs.wy_check_spec.valid.Sums.{form_at}

-- ---- what an affine form adds

by_test : (b : Bool) (z y : products.Affine) → only_if b (Some z) ≡ Some y → z ≡ y
by_test true z y e = cc
by_test false z y e = absurd cc

abbrev two : ℤ → ℤ → products.Affine
two a c = record { factor = a; more = c }

by_ratio : (o : Option ℤ) (k : ℤ → Bool) (f g : Linear Term) (y : products.Affine) → (o >>= λ a. only_if (k a) (Some (two a (g.constant -ℤ a *ℤ f.constant)))) ≡ Some y → y.more ≡ g.constant -ℤ y.factor *ℤ f.constant
by_ratio None k f g y e = absurd cc
by_ratio (Some a) k f g y e = subst (λ (w : products.Affine). w.more ≡ g.constant -ℤ w.factor *ℤ f.constant) (by_test (k a) (two a (g.constant -ℤ a *ℤ f.constant)) y e) refl

by_leading : (o : Option (ℤ × Term)) (r : ℤ × Term → Option ℤ) (k : ℤ → Bool) (f g : Linear Term) (y : products.Affine) → (o >>= λ p. r p >>= λ a. only_if (k a) (Some (two a (g.constant -ℤ a *ℤ f.constant)))) ≡ Some y → y.more ≡ g.constant -ℤ y.factor *ℤ f.constant
by_leading None r k f g y e = absurd cc
by_leading (Some p) r k f g y e = by_ratio (r p) k f g y e

affine_more : (f g : Linear Term) (y : products.Affine) → affine f g ≡ Some y → y.more ≡ g.constant -ℤ y.factor *ℤ f.constant
affine_more f g y e = by_leading (leading f.parts) (λ p. ratio p.0 (coefficient same_term g.parts p.1)) (λ a. is_multiple a f g) f g y e

-- ---- tests

int_lt_is : (a b : ℤ) → int_lt a b ≡ true → a <ℤ b
int_lt_is a b h = grind (arith, ints)

int_lt_not : (a b : ℤ) → int_lt a b ≡ false → b ≤ℤ a
int_lt_not a b h = grind (arith, ints)

lt_is : (a b : ℤ) → a <ℤ b → int_lt a b ≡ true
lt_is a b lt = by (int_lt a b) refl
  where
    by : (t : Bool) → int_lt a b ≡ t → t ≡ true
    by true e = refl
    by false e = let le = int_lt_not a b e in absurd (omega (arith, ints, lt, le))

not_lt : (a b : ℤ) → b ≤ℤ a → int_lt a b ≡ false
not_lt a b le = by (int_lt a b) refl
  where
    by : (t : Bool) → int_lt a b ≡ t → t ≡ false
    by true e = let lt = int_lt_is a b e in absurd (omega (arith, ints, lt, le))
    by false e = refl

-- ---- signs

-- a number above 0 in size is above 0 unless it has a sign
sign_of : (n : Bool) (m : ℕ) → 0 < m → int_lt (pos 0) (signed_number n m) ≡ not n
sign_of true zero lt = absurd (omega (arith, lt))
sign_of true (suc m) lt = refl
sign_of false zero lt = absurd (omega (arith, lt))
sign_of false (suc m) lt = lt_is (pos 0) (pos (suc m)) (omega (arith, ints))

size_of : (n : Bool) (m : ℕ) → 0 < m → unsigned_abs (signed_number n m) ≡ m
size_of true zero lt = absurd (omega (arith, lt))
size_of true (suc m) lt = refl
size_of false m lt = refl

same_side : (n below : Bool) → n ≡ below → beq (not n) below ≡ false
same_side true true e = refl
same_side true false e = absurd cc
same_side false true e = absurd cc
same_side false false e = refl

other_side : (n below : Bool) → n ≢ below → beq (not n) below ≡ true
other_side true true e = absurd (e refl)
other_side true false e = refl
other_side false true e = refl
other_side false false e = absurd (e refl)

side_is : (n below : Bool) → n ≢ below → below ≡ not n
side_is true true e = absurd (e refl)
side_is true false e = refl
side_is false true e = refl
side_is false false e = absurd (e refl)

-- ---- where a bound stops

stops : (n : Bool) (m : ℕ) (c d : ℤ) → 0 < m → quotient_down d m ≡ quotient_down (d -ℤ signed_number n m *ℤ c) m +ℤ shift (not n) c
stops false m c d lt =
    let back : d ≡ (d -ℤ pos m *ℤ c) +ℤ pos m *ℤ c = omega (arith, ints) in
    ap (λ (z : ℤ). quotient_down z m) back ∙ quotient_more (d -ℤ pos m *ℤ c) c m lt
stops true m c d lt =
    let turned : neg_ℤ (pos m) *ℤ c ≡ neg_ℤ (pos m *ℤ c) = *ℤ_comm (neg_ℤ (pos m)) c ∙ (times_opposite c (pos m) ∙ ap neg_ℤ (*ℤ_comm c (pos m))) in
    let other : pos m *ℤ neg_ℤ c ≡ neg_ℤ (pos m *ℤ c) = times_opposite (pos m) c in
    let back : d ≡ (d -ℤ neg_ℤ (pos m) *ℤ c) +ℤ pos m *ℤ neg_ℤ c = omega (arith, ints, turned, other) in
    ap (λ (z : ℤ). quotient_down z m) back ∙ quotient_more (d -ℤ neg_ℤ (pos m) *ℤ c) (neg_ℤ c) m lt

pub bound_stops : (n : Bool) (m : ℕ) (f h : Linear Term) (y : products.Affine) (at : ℤ) (below : Bool) → 0 < m → n ≢ below → signed_number n m ≡ y.factor → affine f h ≡ Some y → at ≡ quotient_down h.constant m
    → at ≡ quotient_down y.more (unsigned_abs y.factor) +ℤ shift below f.constant
bound_stops n m f h y at below lt apart factor is stop =
    let size : unsigned_abs y.factor ≡ m = ap unsigned_abs (sym factor) ∙ size_of n m lt in
    let more : y.more ≡ h.constant -ℤ signed_number n m *ℤ f.constant = affine_more f h y is ∙ ap (λ (a : ℤ). h.constant -ℤ a *ℤ f.constant) (sym factor) in
    stop
    ∙ stops n m f.constant h.constant lt
    ∙ ap (λ (b : Bool). quotient_down (h.constant -ℤ signed_number n m *ℤ f.constant) m +ℤ shift b f.constant) (sym (side_is n below apart))
    ∙ ap (λ (z : ℤ). quotient_down z m +ℤ shift below f.constant) (sym more)
    ∙ ap (λ (k : ℕ). quotient_down y.more k +ℤ shift below f.constant) (sym size)

-- ---- the tighter one

lowered : (a b p q s : ℤ) → p ≡ a +ℤ s → q ≡ b +ℤ s → int_lt p q ≡ int_lt a b
lowered a b p q s e d = by (int_lt p q) (int_lt a b) refl refl
  where
    by : (t u : Bool) → int_lt p q ≡ t → int_lt a b ≡ u → t ≡ u
    by true true h g = refl
    by true false h g = let one = int_lt_is p q h in let other = int_lt_not a b g in absurd (omega (arith, ints, e, d, one, other))
    by false true h g = let one = int_lt_not p q h in let other = int_lt_is a b g in absurd (omega (arith, ints, e, d, one, other))
    by false false h g = refl

abbrev some_bound : products.Affine × ℤ → Option (products.Affine × ℤ)
some_bound x = Some x

same_some : (x y : products.Affine × ℤ) → some_bound x ≡ some_bound y → x ≡ y
same_some x y e = cc

pub first_bound : (ls : List Literal) (f : Linear Term) (below : Bool) (one : Bound) (given : Option (products.Affine × ℤ)) (y : products.Affine) (at : ℤ) → given ≡ None → AreBounds ls f below (Some one) (Some (y, at)) → AreBounds ls f below (Some one) (tighter given y at)
first_bound ls f below one given y at none is = subst (λ (g : Option (products.Affine × ℤ)). AreBounds ls f below (Some one) (tighter g y at)) (sym none) is

stop_of : (ls : List Literal) (f : Linear Term) (below : Bool) (one : Bound) (y : products.Affine) (at : ℤ) → AreBounds ls f below (Some one) (Some (y, at)) → one.at ≡ at +ℤ shift below f.constant
stop_of ls f below one y at is = is.2.at ∙ ap (λ (z : products.Affine × ℤ). z.1 +ℤ shift below f.constant) (same_some is.0 (y, at) (sym is.1))

chosen : (ls : List Literal) (f : Linear Term) (below : Bool) (b one : Bound) (given : Option (products.Affine × ℤ)) (y : products.Affine) (at : ℤ) (t : Bool) → (x : products.Affine × ℤ) → given ≡ Some x → int_lt at x.1 ≡ t → AreBounds ls f below (cond t (Some one) (Some b)) (cond t (Some (y, at)) (Some x)) → AreBounds ls f below (cond t (Some one) (Some b)) (tighter given y at)
chosen ls f below b one given y at t x is test so =
    subst (λ (g : Option (products.Affine × ℤ)). AreBounds ls f below (cond t (Some one) (Some b)) g)
    (sym (ap (λ (g : Option (products.Affine × ℤ)). tighter g y at) is ∙ ap (λ (u : Bool). cond u (some_bound (y, at)) (some_bound x)) test)) so

pub new_bound : (ls : List Literal) (f : Linear Term) (below : Bool) (b one : Bound) (given : Option (products.Affine × ℤ)) (y : products.Affine) (at : ℤ) → AreBounds ls f below (Some b) given → AreBounds ls f below (Some one) (Some (y, at)) → one.at <ℤ b.at → AreBounds ls f below (Some one) (tighter given y at)
new_bound ls f below b one given y at old new lt = chosen ls f below b one given y at true old.0 old.1 (sym (lowered at old.0.1 one.at b.at (shift below f.constant) (stop_of ls f below one y at new) old.2.at) ∙ lt_is one.at b.at lt) new

pub old_bound : (ls : List Literal) (f : Linear Term) (below : Bool) (b one : Bound) (given : Option (products.Affine × ℤ)) (y : products.Affine) (at : ℤ) → AreBounds ls f below (Some b) given → AreBounds ls f below (Some one) (Some (y, at)) → b.at ≤ℤ one.at → AreBounds ls f below (Some b) (tighter given y at)
old_bound ls f below b one given y at old new le = chosen ls f below b one given y at false old.0 old.1 (sym (lowered at old.0.1 one.at b.at (shift below f.constant) (stop_of ls f below one y at new) old.2.at) ∙ not_lt one.at b.at le) (old.0, refl, old.2)

-- ---- one literal more

pub no_affine : (ls : List Literal) (f h : Linear Term) (below : Bool) (best : Option Bound) (given : Option (products.Affine × ℤ)) → affine f h ≡ None → AreBounds ls f below best given → AreBounds ls f below best (with_bound below given (affine f h))
no_affine ls f h below best given none is = subst (λ (o : Option products.Affine). AreBounds ls f below best (with_bound below given o)) (sym none) is

bounded : (below : Bool) (given : Option (products.Affine × ℤ)) (y : products.Affine) (n : Bool) (m : ℕ) (t : Bool) → 0 < m → signed_number n m ≡ y.factor → beq (not n) below ≡ t → with_bound below given (Some y) ≡ cond t (tighter given y (quotient_down y.more (unsigned_abs y.factor))) given
bounded below given y n m t lt factor side =
    ap (λ (b : Bool). cond (beq b below) (tighter given y (quotient_down y.more (unsigned_abs y.factor))) given) (sym (ap (int_lt (pos 0)) factor) ∙ sign_of n m lt)
    ∙ ap (λ (b : Bool). cond b (tighter given y (quotient_down y.more (unsigned_abs y.factor))) given) side

pub other_bound : (ls : List Literal) (f h : Linear Term) (below : Bool) (best : Option Bound) (given : Option (products.Affine × ℤ)) (x : Affine) → AreAffine (Some x) (affine f h) → x.factor.negative ≡ below → AreBounds ls f below best given → AreBounds ls f below best (with_bound below given (affine f h))
other_bound ls f h below best given x is side are =
    subst (λ (o : Option products.Affine). AreBounds ls f below best (with_bound below given o)) (sym is.1)
    (subst (AreBounds ls f below best) (sym (bounded below given is.0 x.factor.negative x.factor.size false is.2.nonzero is.2.factor (same_side x.factor.negative below side))) are)

found_by : (ls : List Literal) (number : ℕ) (f h : Linear Term) (y : products.Affine) → form_at ls number ≡ Some h → affine f h ≡ Some y → (form_at ls number >>= λ g. affine f g) ≡ Some y
found_by ls number f h y here is = ap (λ (o : Option (Linear Term)). o >>= λ g. affine f g) here ∙ is

pub this_bound : (ls : List Literal) (f h : Linear Term) (below : Bool) (one : Bound) (best : Option Bound) (given : Option (products.Affine × ℤ)) (x : Affine) → form_at ls one.number ≡ Some h → AreAffine (Some x) (affine f h) → x.factor.negative ≢ below → one.at ≡ quotient_down h.constant x.factor.size
    → ((y : products.Affine) (at : ℤ) → AreBounds ls f below (Some one) (Some (y, at)) → AreBounds ls f below best (tighter given y at))
    → AreBounds ls f below best (with_bound below given (affine f h))
this_bound ls f h below one best given x here is apart stop so =
    let y = is.0 in
    let at = quotient_down y.more (unsigned_abs y.factor) in
    subst (λ (o : Option products.Affine). AreBounds ls f below best (with_bound below given o)) (sym is.1)
    (subst (AreBounds ls f below best) (sym (bounded below given y x.factor.negative x.factor.size true is.2.nonzero is.2.factor (other_side x.factor.negative below apart)))
    (so y at (
      (y, at),
      refl,
      record {
        bound = found_by ls one.number f h y here is.1;
        at = bound_stops x.factor.negative x.factor.size f h y one.at below is.2.nonzero apart is.2.factor is.1 stop;
      },
    )))

pub no_form : (ls : List Literal) (number i : ℕ) (f : Linear Term) (below : Bool) (best : Option Bound) (given : Option (products.Affine × ℤ)) → number ≡ i + 1 → form_at ls number ≡ None → AreBounds ls f below best given → AreBounds ls f below best (with_bound below given (form_at ls (i + 1) >>= λ h. affine f h))
no_form ls number i f below best given next none is = subst (λ (o : Option (Linear Term)). AreBounds ls f below best (with_bound below given (o >>= λ h. affine f h))) (sym (ap (form_at ls) (sym next) ∙ none)) is

pub some_form : (ls : List Literal) (number i : ℕ) (f h : Linear Term) (below : Bool) (best : Option Bound) (given : Option (products.Affine × ℤ)) → number ≡ i + 1 → form_at ls number ≡ Some h → AreBounds ls f below best (with_bound below given (affine f h)) → AreBounds ls f below best (with_bound below given (form_at ls (i + 1) >>= λ g. affine f g))
some_form ls number i f h below best given next here is = subst (λ (o : Option (Linear Term)). AreBounds ls f below best (with_bound below given (o >>= λ g. affine f g))) (sym (ap (form_at ls) (sym next) ∙ here)) is

-- ---- all literals

pub record IsNext (ls : List Literal) (i : ℕ) : Type 0 where
  pub literal : Literal
  pub here : slice_get ls i ≡ Some literal
  pub rest : drop i ls ≡ literal ∷ drop (suc i) ls

next_of : (ls : List Literal) (i : ℕ) → i < length ls → IsNext ls i
next_of [] i lt = absurd (omega (arith, lt))
next_of (l ∷ ls) zero lt = record { literal = l; here = refl; rest = refl }
next_of (l ∷ ls) (suc i) lt = let next = next_of ls i (omega (arith, lt)) in record { literal = next.literal; here = next.here; rest = next.rest }

pub best_more : (ls : List Literal) (i : ℕ) (f : Linear Term) (below : Bool) (given whole : Option (products.Affine × ℤ)) → i < length ls → best_bound below f given (drop i ls) ≡ whole → best_bound below f (with_bound below given (form_at ls (i + 1) >>= λ h. affine f h)) (drop (i + 1) ls) ≡ whole
best_more ls i f below given whole lt led =
    let next = next_of ls i lt in
    let one : i + 1 ≡ suc i = omega arith in
    let form : form_at ls (i + 1) ≡ form_of_literal (formula_of next.literal) = ap (form_at ls) one ∙ ap (λ (o : Option Literal). o >>= λ l. form_of_literal (formula_of l)) (numbered ls i ∙ next.here) in
    ap (λ (o : Option (Linear Term)). best_bound below f (with_bound below given (o >>= λ h. affine f h)) (drop (i + 1) ls)) form
    ∙ ap (λ (j : ℕ). best_bound below f (with_bound below given (bound_by_literal f next.literal)) (drop j ls)) one
    ∙ sym (ap (best_bound below f given) next.rest)
    ∙ led

drop_end : (ls : List Literal) (i : ℕ) → length ls ≤ i → drop i ls ≡ []
drop_end [] zero le = refl
drop_end [] (suc i) le = refl
drop_end (l ∷ ls) zero le = absurd (omega (arith, le))
drop_end (l ∷ ls) (suc i) le = drop_end ls i (omega (arith, le))

pub best_end : (ls : List Literal) (i : ℕ) (f : Linear Term) (below : Bool) (given whole : Option (products.Affine × ℤ)) → length ls ≤ i → best_bound below f given (drop i ls) ≡ whole → given ≡ whole
best_end ls i f below given whole le led = sym (ap (best_bound below f given) (drop_end ls i le)) ∙ led

pub count_seen : {A B : Type 0} (f : A → B) (xs : List A) → length (map f xs) ≡ length xs
count_seen f [] = refl
count_seen f (x ∷ xs) = ap suc (count_seen f xs)

-- what was found when more terms were there, by the literals and the form as they were
pub at_old : (below : Bool) (i : ℕ) (best made : Option Bound) (given : Option (products.Affine × ℤ)) (now old : List Literal) (g f : Linear Term) → now ≡ old → g ≡ f
    → (AreBounds now g below best given → AreBounds now g below made (with_bound below given (form_at now (i + 1) >>= λ h. affine g h)))
    → AreBounds old f below best given → AreBounds old f below made (with_bound below given (form_at old (i + 1) >>= λ h. affine f h))
at_old below i best made given now old g f same form so are =
    subst (λ (e : Linear Term). AreBounds old e below made (with_bound below given (form_at old (i + 1) >>= λ h. affine e h))) form
    (subst (λ (ls : List Literal). AreBounds ls g below made (with_bound below given (form_at ls (i + 1) >>= λ h. affine g h))) same
    (so (subst (λ (ls : List Literal). AreBounds ls g below best given) (sym same) (subst (λ (e : Linear Term). AreBounds old e below best given) (sym form) are))))

pub bounds_at : (now old : List Literal) (g f : Linear Term) (below : Bool) (b : Option Bound) → now ≡ old → g ≡ f → AreBounds now g below b (best_bound below g None now) → AreBounds old f below b (best_bound below f None old)
bounds_at now old g f below b same form are =
    subst (λ (e : Linear Term). AreBounds old e below b (best_bound below e None old)) form (subst (λ (ls : List Literal). AreBounds ls g below b (best_bound below g None ls)) same are)

pub affine_size : (o : Option Affine) (given : Option products.Affine) → AreAffine o given → IfSome o (λ (a : Affine). 0 < a.factor.size)
affine_size None given are = tt
affine_size (Some x) given are = are.2.nonzero

pub apart_of : (a b : Bool) → beq a b ≡ false → a ≢ b
apart_of true true e d = absurd cc
apart_of true false e d = absurd cc
apart_of false true e d = absurd cc
apart_of false false e d = absurd cc
