-- Whatever refutes the forms of a state refutes the given ones behind its steps, so the steps of a refutation are valid.
use Rattle.std.proofs.Common.{◌≡◌, ◌<◌, ◌*◌, ℕ, zero, suc, List, [], ◌∷◌, ◌++◌, length, drop, All, Bool, true, false, cond, pos, Option, Some, None, refl, sym, ap, subst, ◌∙◌, append_assoc, append-nil, length-append, arith}
use Rattle.std.specs.Prelude.{nat_eq, nat_lt, ◌==◌, ◌&&◌, unsigned_abs, int_lt, int_le, ◌+ℤ◌, ◌^◌}
use Rattle.std.proofs.lemmas.Bool.{eqb-true}
use Rattle.wy_lemmas.proofs.Choices.{large_one, above_zero, below_zero, both_true as and_true}
use Rattle.wy_lin.specs.declared.arithmetic.Factor.TheVariants.{Times}
use Rattle.wy_lin.specs.Linear.{◌>>=◌, Linear, nothing, plus}
use Rattle.wy_lin.specs.Combination.{form_at, combined}
use Rattle.wy_lin_eliminate.specs.declared.steps.LinStep.{LinStep}
use Rattle.wy_lin_eliminate.specs.declared.steps.LinStep.TheVariants.{Sum, Cut}
use Rattle.wy_lin_eliminate.specs.declared.steps.Elim.{Elim}
use Rattle.wy_lin_eliminate.specs.declared.steps.Elim.TheVariants.{Refuted, Crowded, Wide}
use Rattle.wy_lin_eliminate.specs.declared.steps.Steps.{Steps}
use Rattle.wy_lin_eliminate.specs.declared.sides.Sides.{Sides}
use Rattle.wy_lin_eliminate.specs.declared.sums.Pair.{Pair}
use Rattle.wy_lin_eliminate.specs.Division.{common, lowered}
use Rattle.wy_lin_eliminate.specs.Variables.{coefficient_at, opposite, with_side, sides_from, sides, variables, next_variable}
use Rattle.wy_lin_eliminate.specs.Sums.{Summed, refuting, dropped, beyond, cut, pair_by, doubled, multipliers, in_step, by_two, by_common, by_sum, summed}
use Rattle.wy_lin_eliminate.specs.Elimination.{State, is_crowded, is_new, room_for, with_place, with_cut, Turn, goes_on, refuted, and_then, unless_crowded, refuted_by, given, given_from, after_sum, over_uppers, over_lowers, turned, ended, without_next, eliminated, at_first, elimination}
use Rattle.wy_lin_eliminate.specs.Validity.{are_named, divides, is_bare, is_refuted, is_divided, refute, IsPlain}
use Rattle.wy_lin_eliminate.proofs.ValidityLemmas.{common-divides, common-bare, twice-divides, HasVariable, place_within, form_before, variable_before, share_first, share_second, named_one, named_two, some_form}

-- ---- single steps

refute_sum : (all : List (Linear ℕ)) (ms : List (ℕ × ℕ)) (f : Linear ℕ) → are_named (length all) ms ≡ true → combined all ms ≡ some_form f → is_bare f.parts ≡ true → int_lt f.constant (pos 0) ≡ true → refute all (Sum ms ∷ []) ≡ true
refute_sum all ms f named is bare negative =
    let whole : is_refuted (combined all ms) ≡ true = subst (λ (o : Option (Linear ℕ)). is_refuted o ≡ true) (sym is) (and_true (is_bare f.parts) (int_lt f.constant (pos 0)) bare negative) in
    and_true (are_named (length all) ms) (is_refuted (combined all ms)) named whole

refute_cut : (all : List (Linear ℕ)) (d : ℕ) (ms : List (ℕ × ℕ)) (f : Linear ℕ) → nat_lt 1 d ≡ true → are_named (length all) ms ≡ true → combined all ms ≡ some_form f → divides d f.parts ≡ true → (rest : List LinStep) → refute (all ++ lowered d f ∷ []) rest ≡ true → refute all (Cut d ms ∷ rest) ≡ true
refute_cut all d ms f large named is even rest h =
    let after : Linear ℕ → Bool = λ g. refute (all ++ g ∷ []) rest in
    let whole : is_divided d (combined all ms) after ≡ true = subst (λ (o : Option (Linear ℕ)). is_divided d o after ≡ true) (sym is) (and_true (divides d f.parts) (after (lowered d f)) even h) in
    and_true (nat_lt 1 d && are_named (length all) ms) (is_divided d (combined all ms) after) (and_true (nat_lt 1 d) (are_named (length all) ms) large named) whole

-- ---- the sum of a pair

abbrev ValidSum : List (Linear ℕ) → Summed → Type 0
ValidSum all (refuting ms) = refute all (Sum ms ∷ []) ≡ true
ValidSum all dropped = Unit {0}
ValidSum all beyond = Unit {0}
ValidSum all (cut d ms f) = (rest : List LinStep) → refute (all ++ f ∷ []) rest ≡ true → refute all (Cut d ms ∷ rest) ≡ true

pub in_step_some : (all : List (Linear ℕ)) (p : Pair) (f : Linear ℕ) → in_step all p ≡ some_form f → combined all (multipliers p) ≡ some_form f
in_step_some all p f e = by (nat_lt p.times_lower (2 ^ 127) && nat_lt p.times_upper (2 ^ 127)) e
  where
    by : (b : Bool) → cond b (combined all (multipliers p)) None ≡ some_form f → combined all (multipliers p) ≡ some_form f
    by true g = g
    by false g = absurd cc

module _ (all : List (Linear ℕ)) (p : Pair) (lower : p.lower < length all) (upper : p.upper < length all) (first : 0 < p.times_lower) (second : 0 < p.times_upper) where
  named : are_named (length all) (multipliers p) ≡ true
  named = named_two (length all) p.times_lower p.lower p.times_upper p.upper first lower second upper

  named_twice : are_named (length all) (multipliers (doubled p)) ≡ true
  named_twice = named_two (length all) (2 * p.times_lower) p.lower (2 * p.times_upper) p.upper (omega (arith, first)) lower (omega (arith, second)) upper

  valid_two : (o : Option (Linear ℕ)) → in_step all (doubled p) ≡ o → ValidSum all (by_two (doubled p) o)
  valid_two None e = tt
  valid_two (Some f) e = refute_cut all 2 (multipliers (doubled p)) f refl named_twice (in_step_some all (doubled p) f e) (twice-divides all p.times_lower p.lower p.times_upper p.upper f (in_step_some all (doubled p) f e))

  valid_common : (f : Linear ℕ) (d : ℕ) → in_step all p ≡ some_form f → common f.parts ≡ d → ValidSum all (by_common all p f d)
  valid_common f d e is = by (d == 0) (int_lt f.constant (pos 0)) (d == 1) refl refl refl
    where
      by : (a b c : Bool) → (d == 0) ≡ a → int_lt f.constant (pos 0) ≡ b → (d == 1) ≡ c → ValidSum all (cond a (cond b (refuting (multipliers p)) dropped) (cond c (by_two (doubled p) (in_step all (doubled p))) (cut d (multipliers p) (lowered d f))))
      by true true c none negative one = refute_sum all (multipliers p) f named (in_step_some all p f e) (common-bare f.parts (is ∙ eqb-true d 0 none)) negative
      by true false c none negative one = tt
      by false b true none negative one = valid_two (in_step all (doubled p)) refl
      by false b false none negative one = refute_cut all d (multipliers p) f (large_one d none one) named (in_step_some all p f e) (subst (λ (k : ℕ). divides k f.parts ≡ true) is (common-divides f.parts))

  valid_by : (o : Option (Linear ℕ)) → in_step all p ≡ o → ValidSum all (by_sum all p o)
  valid_by (Some f) e = valid_common f (common f.parts) e refl
  valid_by None e = by (opposite (form_at all p.lower).parts (form_at all p.upper).parts && int_le (pos 0) ((form_at all p.lower).constant +ℤ (form_at all p.upper).constant))
    where
      by : (b : Bool) → ValidSum all (cond b dropped beyond)
      by true = tt
      by false = tt

valid_sum : (all : List (Linear ℕ)) (v l u : ℕ) → HasVariable all v l → HasVariable all v u → ValidSum all (summed all v l u)
valid_sum all v l u has_l has_u =
    let a = unsigned_abs (coefficient_at all v l) in
    let b = unsigned_abs (coefficient_at all v u) in
    let p = pair_by l u a b in
    valid_by all p (place_within all v l has_l) (place_within all v u has_u) (share_second a b has_u) (share_first a b has_l) (in_step all p) refl

-- ---- states

abbrev Good : List (Linear ℕ) → State → Type 0
Good forms s = (rest : List LinStep) → refute s.all rest ≡ true → refute forms (s.steps ++ rest) ≡ true

pub record Grows (s t : State) : Type 0 where
  pub more : List (Linear ℕ)
  pub grown : t.all ≡ s.all ++ more

abbrev GoodTurn : List (Linear ℕ) → State → Turn → Type 0
GoodTurn forms s (goes_on t) = Good forms t × Grows s t
GoodTurn forms s (refuted steps) = refute forms steps ≡ true

pub no_growth : (s t : State) → t.all ≡ s.all → Grows s t
no_growth s t e = record { more = []; grown = e ∙ sym (append-nil s.all) }

pub grows_on : (s t u : State) → Grows s t → Grows t u → Grows s u
grows_on s t u a b = record { more = a.more ++ b.more; grown = b.grown ∙ ap (λ (l : List (Linear ℕ)). l ++ b.more) a.grown ∙ append_assoc s.all a.more b.more }

turn_on : (forms : List (Linear ℕ)) (s t : State) (x : Turn) → Grows s t → GoodTurn forms t x → GoodTurn forms s x
turn_on forms s t (goes_on u) a h = (h.0, grows_on s t u a h.1)
turn_on forms s t (refuted steps) a h = h

good_then : (forms : List (Linear ℕ)) (s : State) (x : Turn) (f : State → Turn) → GoodTurn forms s x → ((t : State) → Good forms t → Grows s t → GoodTurn forms t (f t)) → GoodTurn forms s (and_then x f)
good_then forms s (goes_on t) f h next = turn_on forms s t (f t) h.1 (next t h.0 h.1)
good_then forms s (refuted steps) f h next = h

pub variable_grown : (s t : State) (v i : ℕ) → Grows s t → HasVariable s.all v i → HasVariable t.all v i
variable_grown s t v i a h = subst (λ (l : List (Linear ℕ)). HasVariable l v i) (sym a.grown) (variable_before s.all a.more v i h)

module _ (forms : List (Linear ℕ)) (s : State) (good : Good forms s) where
  stays : GoodTurn forms s (goes_on s)
  stays = (good, no_growth s s refl)

  good_place : (i : ℕ) (f : Linear ℕ) → GoodTurn forms s (goes_on (with_place s i f))
  good_place i f = by (is_new s f)
    where
      by : (b : Bool) → GoodTurn forms s (goes_on (cond b (record s { standing = room_for s f ++ i ∷ [] }) s))
      by true = (good, record { more = []; grown = sym (append-nil s.all) })
      by false = stays

  good_cut : (d : ℕ) (ms : List (ℕ × ℕ)) (f : Linear ℕ) → ((rest : List LinStep) → refute (s.all ++ f ∷ []) rest ≡ true → refute s.all (Cut d ms ∷ rest) ≡ true) → GoodTurn forms s (goes_on (with_cut s d ms f))
  good_cut d ms f valid = by (is_new s f)
    where
      next : State
      next = record { all = s.all ++ f ∷ []; standing = room_for s f ++ length s.all ∷ []; steps = s.steps ++ Cut d ms ∷ []; wide = s.wide }

      by : (b : Bool) → GoodTurn forms s (goes_on (cond b (record { all = s.all ++ f ∷ []; standing = room_for s f ++ length s.all ∷ []; steps = s.steps ++ Cut d ms ∷ []; wide = s.wide }) s))
      by true = (
        λ rest h. subst (λ (l : List LinStep). refute forms l ≡ true) (sym (append_assoc s.steps (Cut d ms ∷ []) rest)) (good (Cut d ms ∷ rest) (valid rest h)),
        record { more = f ∷ []; grown = refl },
      )
      by false = stays

  good_unless : (t : State) → GoodTurn forms s (goes_on t) → GoodTurn forms s (unless_crowded s t)
  good_unless t h = by (is_crowded s)
    where
      by : (b : Bool) → GoodTurn forms s (cond b (goes_on s) (goes_on t))
      by true = stays
      by false = h

  good_sum : (x : Summed) → ValidSum s.all x → GoodTurn forms s (after_sum s x)
  good_sum (refuting ms) valid = good (Sum ms ∷ []) valid
  good_sum dropped valid = stays
  good_sum beyond valid = (good, record { more = []; grown = sym (append-nil s.all) })
  good_sum (cut d ms f) valid = good_unless (with_cut s d ms f) (good_cut d ms f valid)

-- ---- a variable goes

abbrev pub AllHave : List (Linear ℕ) → ℕ → List ℕ → Type 0
AllHave all v [] = Unit {0}
AllHave all v (i ∷ is) = HasVariable all v i × AllHave all v is

pub have_grown : (s t : State) (v : ℕ) (is : List ℕ) → Grows s t → AllHave s.all v is → AllHave t.all v is
have_grown s t v [] a h = tt
have_grown s t v (i ∷ is) a h = (variable_grown s t v i a h.0, have_grown s t v is a h.1)

pub have_more : (all : List (Linear ℕ)) (v : ℕ) (is : List ℕ) (i : ℕ) → AllHave all v is → HasVariable all v i → AllHave all v (is ++ i ∷ [])
have_more all v [] i h here = (here, tt)
have_more all v (j ∷ is) i h here = (h.0, have_more all v is i h.1 here)

module _ (all : List (Linear ℕ)) (v : ℕ) where
  pub side_have : (s : Sides) (i : ℕ) → AllHave all v s.lower → AllHave all v s.upper → AllHave all v (with_side all v s i).lower × AllHave all v (with_side all v s i).upper
  side_have s i lower upper = by (int_lt (pos 0) (coefficient_at all v i)) (int_lt (coefficient_at all v i) (pos 0)) refl refl
    where
      by : (a b : Bool) → int_lt (pos 0) (coefficient_at all v i) ≡ a → int_lt (coefficient_at all v i) (pos 0) ≡ b →
          AllHave all v (cond a (record s { lower = s.lower ++ i ∷ [] }) (cond b (record s { upper = s.upper ++ i ∷ [] }) (record s { without = s.without ++ i ∷ [] }))).lower
          × AllHave all v (cond a (record s { lower = s.lower ++ i ∷ [] }) (cond b (record s { upper = s.upper ++ i ∷ [] }) (record s { without = s.without ++ i ∷ [] }))).upper
      by true b e f = (have_more all v s.lower i lower (above_zero (coefficient_at all v i) e), upper)
      by false true e f = (lower, have_more all v s.upper i upper (below_zero (coefficient_at all v i) f))
      by false false e f = (lower, upper)

  pub sides_have : (s : Sides) (is : List ℕ) → AllHave all v s.lower → AllHave all v s.upper → AllHave all v (sides_from all v s is).lower × AllHave all v (sides_from all v s is).upper
  sides_have s [] lower upper = (lower, upper)
  sides_have s (i ∷ is) lower upper =
      let next = side_have s i lower upper in
      sides_have (with_side all v s i) is next.0 next.1

good_uppers : (forms : List (Linear ℕ)) (v l : ℕ) (s : State) (us : List ℕ) → Good forms s → HasVariable s.all v l → AllHave s.all v us → GoodTurn forms s (over_uppers v l s us)
good_uppers forms v l s [] good has_l have = stays forms s good
good_uppers forms v l s (u ∷ us) good has_l have =
    good_then forms s (after_sum s (summed s.all v l u)) (λ t. over_uppers v l t us)
    (good_sum forms s good (summed s.all v l u) (valid_sum s.all v l u has_l have.0))
    (λ t good_t grows. good_uppers forms v l t us good_t (variable_grown s t v l grows has_l) (have_grown s t v us grows have.1))

good_lowers : (forms : List (Linear ℕ)) (v : ℕ) (us : List ℕ) (s : State) (ls : List ℕ) → Good forms s → AllHave s.all v us → AllHave s.all v ls → GoodTurn forms s (over_lowers v us s ls)
good_lowers forms v us s [] good uppers lowers = stays forms s good
good_lowers forms v us s (l ∷ ls) good uppers lowers =
    good_then forms s (over_uppers v l s us) (λ t. over_lowers v us t ls)
    (good_uppers forms v l s us good lowers.0 uppers)
    (λ t good_t grows. good_lowers forms v us t ls good_t (have_grown s t v us grows uppers) (have_grown s t v ls grows lowers.1))

good_turned : (forms : List (Linear ℕ)) (v : ℕ) (s : State) → Good forms s → GoodTurn forms s (turned v s)
good_turned forms v s good =
    let none : Sides = record { lower = []; upper = []; without = [] } in
    let have = sides_have s.all v none s.standing tt tt in
    let parted = sides s.all v s.standing in
    let first : State = record s { standing = parted.without } in
    turn_on forms s first (over_lowers v parted.upper first parted.lower) (record { more = []; grown = sym (append-nil s.all) })
    (good_lowers forms v parted.upper first parted.lower good have.1 have.0)

-- ---- the given forms

abbrev pub AreAt : List (Linear ℕ) → ℕ → List (Linear ℕ) → Type 0
AreAt all i [] = Unit {0}
AreAt all i (f ∷ fs) = (form_at all i ≡ f) × (i < length all) × AreAt all (suc i) fs

pub at_grown : (all more : List (Linear ℕ)) (i : ℕ) (fs : List (Linear ℕ)) → AreAt all i fs → AreAt (all ++ more) i fs
at_grown all more i [] h = tt
at_grown all more i (f ∷ fs) h =
    let longer = length-append all more in
    (form_before all more i h.1 ∙ h.0, omega (arith, longer, h.1), at_grown all more (suc i) fs h.2)

pub first_dropped : (all : List (Linear ℕ)) (i : ℕ) (f : Linear ℕ) (fs : List (Linear ℕ)) → drop i all ≡ f ∷ fs → (form_at all i ≡ f) × (i < length all) × (drop (suc i) all ≡ fs)
first_dropped [] zero f fs e = absurd cc
first_dropped [] (suc i) f fs e = absurd cc
first_dropped (x ∷ xs) zero f fs e = (cc, omega arith, cc)
first_dropped (x ∷ xs) (suc i) f fs e =
    let known = first_dropped xs i f fs e in
    (known.0, omega (arith, known.1), known.2)

pub are_at : (all : List (Linear ℕ)) (i : ℕ) (fs : List (Linear ℕ)) → drop i all ≡ fs → AreAt all i fs
are_at all i [] e = tt
are_at all i (f ∷ fs) e =
    let known = first_dropped all i f fs e in
    (known.0, known.1, are_at all (suc i) fs known.2)

pub once_plain : (all : List (Linear ℕ)) (i : ℕ) (f : Linear ℕ) → form_at all i ≡ f → IsPlain f → combined all ((1, i) ∷ []) ≡ some_form f
once_plain all i f is plain =
    ap (λ (g : Linear ℕ). plus nat_eq nothing (Times 1) g >>= λ (h : Linear ℕ). some_form h) is
    ∙ ap (λ (o : Option (Linear ℕ)). o >>= λ (h : Linear ℕ). some_form h) plain

good_given : (forms : List (Linear ℕ)) (s : State) (i : ℕ) (f : Linear ℕ) → Good forms s → form_at s.all i ≡ f → i < length s.all → IsPlain f → GoodTurn forms s (given s i f)
good_given forms s i f good here lt plain = by (common f.parts == 0) (int_lt f.constant (pos 0)) (common f.parts == 1) refl refl refl
  where
    is : combined s.all ((1, i) ∷ []) ≡ some_form f
    is = once_plain s.all i f here plain

    named : are_named (length s.all) ((1, i) ∷ []) ≡ true
    named = named_one (length s.all) 1 i (omega arith) lt

    by : (a b c : Bool) → (common f.parts == 0) ≡ a → int_lt f.constant (pos 0) ≡ b → (common f.parts == 1) ≡ c →
        GoodTurn forms s (cond a (cond b (refuted_by s ((1, i) ∷ [])) (goes_on s)) (cond c (unless_crowded s (with_place s i f)) (unless_crowded s (with_cut s (common f.parts) ((1, i) ∷ []) (lowered (common f.parts) f)))))
    by true true c none negative one = good (Sum ((1, i) ∷ []) ∷ []) (refute_sum s.all ((1, i) ∷ []) f named is (common-bare f.parts (eqb-true (common f.parts) 0 none)) negative)
    by true false c none negative one = stays forms s good
    by false b true none negative one = good_unless forms s good (with_place s i f) (good_place forms s good i f)
    by false b false none negative one =
        good_unless forms s good (with_cut s (common f.parts) ((1, i) ∷ []) (lowered (common f.parts) f))
        (good_cut forms s good (common f.parts) ((1, i) ∷ []) (lowered (common f.parts) f)
        (refute_cut s.all (common f.parts) ((1, i) ∷ []) f (large_one (common f.parts) none one) named is (common-divides f.parts)))

abbrev pub ArePlain : List (Linear ℕ) → Type 0
ArePlain [] = Unit {0}
ArePlain (f ∷ fs) = IsPlain f × ArePlain fs

good_from : (forms : List (Linear ℕ)) (s : State) (i : ℕ) (fs : List (Linear ℕ)) → Good forms s → AreAt s.all i fs → ArePlain fs → GoodTurn forms s (given_from s i fs)
good_from forms s i [] good at plain = stays forms s good
good_from forms s i (f ∷ fs) good at plain =
    good_then forms s (given s i f) (λ t. given_from t (suc i) fs)
    (good_given forms s i f good at.0 at.1 plain.0)
    (λ t good_t grows. good_from forms t (suc i) fs good_t (subst (λ (l : List (Linear ℕ)). AreAt l (suc i) fs) (sym grows.grown) (at_grown s.all grows.more (suc i) fs at.2)) plain.1)

-- ---- the whole

abbrev Refutes : List (Linear ℕ) → Elim → Type 0
Refutes forms e = (steps : Steps) → e ≡ Refuted steps → refute forms steps.list ≡ true

refutes_ended : (forms : List (Linear ℕ)) (s : State) (x : Turn) (f : State → Elim) → GoodTurn forms s x → ((t : State) → Good forms t → Refutes forms (f t)) → Refutes forms (ended x f)
refutes_ended forms s (refuted list) f h next steps e =
    let whole : Steps = record { list = list } in
    let is : whole ≡ steps = cc in
    subst (λ (w : Steps). refute forms w.list ≡ true) is h
refutes_ended forms s (goes_on t) f h next steps e = by (is_crowded t) t.wide e
  where
    by : (a b : Bool) → cond a Crowded (cond b Wide (f t)) ≡ Refuted steps → refute forms steps.list ≡ true
    by true b g = absurd cc
    by false true g = absurd cc
    by false false g = next t h.0 steps g

refutes_next : (forms : List (Linear ℕ)) (o : Option (ℕ × ℕ)) (s : State) (f : State → Elim) → Good forms s → ((t : State) → Good forms t → Refutes forms (f t)) → Refutes forms (without_next o s f)
refutes_next forms None s f good next steps e = absurd cc
refutes_next forms (Some b) s f good next steps e = refutes_ended forms s (turned b.0 s) f (good_turned forms b.0 s good) next steps e

refutes_eliminated : (forms : List (Linear ℕ)) (n : ℕ) (s : State) → Good forms s → Refutes forms (eliminated n s)
refutes_eliminated forms zero s good steps e = absurd cc
refutes_eliminated forms (suc n) s good steps e = refutes_next forms (next_variable (variables s.all s.standing)) s (λ t. eliminated n t) good (λ t good_t. refutes_eliminated forms n t good_t) steps e

plain_each : (fs : List (Linear ℕ)) → All IsPlain fs → ArePlain fs
plain_each [] h = tt
plain_each (f ∷ fs) h = (h 0 f (omega arith), plain_each fs (λ i d lt. h (suc i) d (omega (arith, lt))))

pub elimination-refutes : (forms : List (Linear ℕ)) → All IsPlain forms → (steps : Steps) → elimination forms ≡ Refuted steps → refute forms steps.list ≡ true
elimination-refutes forms plain =
    let first = at_first forms in
    refutes_ended forms first (given_from first 0 forms) (λ s. eliminated (length (variables s.all s.standing)) s)
    (good_from forms first 0 forms (λ rest h. h) (are_at forms 0 forms refl) (plain_each forms plain))
    (λ t good_t. refutes_eliminated forms (length (variables t.all t.standing)) t good_t)
