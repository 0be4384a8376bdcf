-- Quantifiers, turn by turn.
use Rattle.std.proofs.Common.{◌≡◌, ℕ, zero, suc, ◌+◌, ◌<◌, ◌≤◌, List, [], ◌∷◌, ◌++◌, Bool, true, false, not, ◌&&◌, ◌||◌, ℤ, pos, negsuc, ◌+ℤ◌, ◌-ℤ◌, ◌≤ℤ◌, int_le, int_lt, refl, sym, ap, ◌∙◌, subst, arith}
use Rattle.std.proofs.lemmas.Int.{ints}
use Rattle.wy_value.specs.Datum.{Datum, Null, Truth, Whole, Array, Record}
use Rattle.wy_term.specs.Term as term
use Rattle.wy_term.specs.Term.{Term, Of, no_parts, part}
use Rattle.wy_term.specs.Sorts.{val_sort, formula_sort, int_sort}
use Rattle.wy_term.specs.Data.{number_in}
use Rattle.wy_term.specs.Meaning.{Names, with_number, sense, each_from, any_from, distance}
use Rattle.wy_term_subst.proofs.sorted_lemmas.SortedLemmas.{folding_kept}
use Rattle.wy_term_subst.specs.kept_sorts.SortKept.{HasSort}
use Rattle.wy_sound_terms.specs.wy_sem.Meter.{Meter, Outcome, Done, Run, ◌>>=◌, choose}
use Rattle.wy_sound_terms.specs.wy_sem.Operations.{nat_of, agrees, as_truth}
use Rattle.wy_sound_terms.specs.wy_sem.Expressions.{span, each}
use Rattle.wy_sound_terms.specs.wy_vc_spec.Making.{int_name, num, int, at_most, less_than, formula, bound}
use Rattle.wy_sound_terms.specs.wy_vc_spec.Operations as op
use Rattle.wy_sound_terms.specs.wy_vc_spec.Owed.{Owed, assume}
use Rattle.wy_sound_terms.proofs.formed_lemmas.MakingLemmas.{IsOf, num_sorted, formula_sorted, quantified_sorted}
use Rattle.wy_sound_terms.specs.operations.Kinds.{IsTruth}
use Rattle.wy_sound_terms.proofs.operations_lemmas.MadeLemmas.{holds, datum, number, num_means, int_means, value_means, at_most_means, less_means, formula_means}
use Rattle.wy_sound_walks.specs.expressions.Names.{Agree, Known, Means, Goes}
use Rattle.wy_sound_walks.specs.expressions.Truth.{Good}
use Rattle.wy_sound_walks.specs.expressions.Sound.{Ok}
use Rattle.wy_sound_walks.proofs.expressions_lemmas.NameLemmas.{agree_refl, agree_trans, agree_less, agree_number, number_at, agree_both, known_later, means_later}
use Rattle.wy_sound_walks.proofs.expressions_lemmas.GoodLemmas.{good_map, good_bind}
use Rattle.wy_sound_walks.proofs.expressions_lemmas.AssumeLemmas.{assumed_true}
use Rattle.wy_sound_walks.proofs.expressions_lemmas.FinishLemmas.{Two}

-- ---- from a number on and below another

-- there is room for so many numbers
abbrev pub Room : ℕ → ℤ → ℤ → Type 0
Room zero x y = Unit {0}
Room (suc j) x y = (x +ℤ pos (suc j)) ≤ℤ y

room_first : (j : ℕ) (x y : ℤ) → Room (suc j) x y → int_lt x y ≡ true
room_first j x y h = grind (arith, ints)

room_next : (j : ℕ) (x y : ℤ) → Room (suc j) x y → Room j (x +ℤ pos 1) y
room_next zero x y h = tt
room_next (suc j) x y h = omega (arith, ints)

pub room_start : (x y : ℤ) → Room (span x y) x y
room_start x y = by (y -ℤ x) refl where
  by : (d : ℤ) → (y -ℤ x) ≡ d → Room (nat_of d) x y
  by (pos zero) e = tt
  by (pos (suc n)) e = omega (arith, ints, e)
  by (negsuc n) e = tt

le_next : (x i : ℤ) → int_le x i ≡ true → int_le x (i +ℤ pos 1) ≡ true
le_next x i h = grind (arith, ints)

pub le_self : (x : ℤ) → int_le x x ≡ true
le_self x = grind (arith, ints)

-- ---- turns

-- the test holds of each of so many numbers, or of one
abbrev pub range : Bool → ℤ → ℕ → (ℤ → Bool) → Bool
range true x n test = each_from x n test
range false x n test = any_from x n test

-- what one turn gives: a truth value, which the body means where the number is bound
abbrev pub Turn : ℕ → Names → List ℕ → ℕ → Term → ℤ → Datum → Type 0
Turn m names word key f i v = (b : Bool) × (v ≡ Truth b) × ((u : Names) → Agree m names u → holds (with_number u word key i) (formula f) ≡ b)

abbrev pub AllTurns : Bool → ℕ → Names → List ℕ → ℕ → Term → ℤ → ℕ → Datum → Type 0
AllTurns all m names word key f x j v = (b : Bool) × (v ≡ Truth b) × ((u : Names) → Agree m names u → range all x j (λ i. holds (with_number u word key i) (formula f)) ≡ b)

module _ (A : Type 0) (m : ℕ) (names : Names) (word : List ℕ) (key : ℕ) (f : Term) (at : ℕ) (body : ℤ → Run Datum) where
  range_step : (all b : Bool) (u : Names) (x : ℤ) (j : ℕ) → holds (with_number u word key x) (formula f) ≡ b → agrees all b ≡ true → range all x (suc j) (λ i. holds (with_number u word key i) (formula f)) ≡ range all (x +ℤ pos 1) j (λ i. holds (with_number u word key i) (formula f))
  range_step true true u x j h e = rw h refl
  range_step false false u x j h e = rw h refl
  range_step true false u x j h e = absurd cc
  range_step false true u x j h e = absurd cc

  range_end : (all b : Bool) (u : Names) (x : ℤ) (j : ℕ) → holds (with_number u word key x) (formula f) ≡ b → agrees all b ≡ false → range all x (suc j) (λ i. holds (with_number u word key i) (formula f)) ≡ b
  range_end true false u x j h e = rw h refl
  range_end false true u x j h e = rw h refl
  range_end true true u x j h e = absurd cc
  range_end false false u x j h e = absurd cc

  step : (all b c : Bool) (x : ℤ) (j : ℕ) (rest : Run Datum) (k : Meter) → agrees all b ≡ c → ((u : Names) → Agree m names u → holds (with_number u word key x) (formula f) ≡ b)
      → Good A (rest k) (AllTurns all m names word key f (x +ℤ pos 1) j) → Good A (choose c rest (Done (Truth b)) k) (AllTurns all m names word key f x (suc j))
  step all b true x j rest k e h g =
      good_map A (rest k) (AllTurns all m names word key f (x +ℤ pos 1) j) (AllTurns all m names word key f x (suc j)) g (λ v l eq t. (t.0, t.1, λ u a. range_step all b u x j (h u a) e ∙ t.2 u a))
  step all b false x j rest k e h g = (b, refl, λ u a. range_end all b u x j (h u a) e)

  truth_step : (all : Bool) (v : Datum) (x : ℤ) (j : ℕ) (k : Meter) → Turn m names word key f x v → Good A (each all at body (x +ℤ pos 1) j k) (AllTurns all m names word key f (x +ℤ pos 1) j)
      → Good A (as_truth at v (λ b. choose (agrees all b) (each all at body (x +ℤ pos 1) j) (Done (Truth b))) k) (AllTurns all m names word key f x (suc j))
  truth_step all v x j k t g =
      subst (λ (d : Datum). Good A (as_truth at d (λ b. choose (agrees all b) (each all at body (x +ℤ pos 1) j) (Done (Truth b))) k) (AllTurns all m names word key f x (suc j))) (sym t.1)
      (step all t.0 (agrees all t.0) x j (each all at body (x +ℤ pos 1) j) k refl t.2 g)

  none_left : (all : Bool) (x : ℤ) → AllTurns all m names word key f x zero (Truth all)
  none_left true x = (true, refl, λ u a. refl)
  none_left false x = (false, refl, λ u a. refl)

  pub good_each : (all : Bool) (lo y : ℤ) → ((i : ℤ) → int_le lo i ≡ true → int_lt i y ≡ true → (k : Meter) → Good A (body i k) (Turn m names word key f i))
      → (j : ℕ) (x : ℤ) (k : Meter) → int_le lo x ≡ true → Room j x y → Good A (each all at body x j k) (AllTurns all m names word key f x j)
  good_each all lo y h zero x k le room = none_left all x
  good_each all lo y h (suc j) x k le room =
      good_bind A A A (body x k) (λ v. as_truth at v (λ b. choose (agrees all b) (each all at body (x +ℤ pos 1) j) (Done (Truth b)))) (Turn m names word key f x) (AllTurns all m names word key f x (suc j)) (λ a. a) (λ a. a)
      (h x le (room_first j x y room) k)
      (λ v l eq t. truth_step all v x j l t (good_each all lo y h j (x +ℤ pos 1) l (le_next lo x le) (room_next j x y room)))

-- ---- the body

module _ (n key : ℕ) (names later : Names) (word : List ℕ) (i : ℤ) (le : n ≤ key) (a : Agree n names later) where
  abbrev pub bound_at : Names
  bound_at = with_number later word key i

  pub name_means : Means (suc key) bound_at (int (int_name word key)) (Whole i)
  name_means u b = int_means u (int_name word key) ∙ ap Whole (b.number_of word key (omega arith) ∙ number_at later word key i)

  pub body_known : (hyps : List Term) (s t : Term) (x y : ℤ) → Known key later hyps → Means key later s (Whole x) → Means key later t (Whole y) → int_le x i ≡ true → int_lt i y ≡ true
      → Known (suc key) bound_at (assume (assume hyps (at_most (num s) (int_name word key))) (less_than (int_name word key) (num t)))
  body_known hyps s t x y h ms mt lo hi u b =
      let there : Agree key later u = agree_trans key (suc key) later bound_at u (omega arith) (agree_number key later word key i (omega arith)) b in
      let is : number u (int_name word key) ≡ i = b.number_of word key (omega arith) ∙ number_at later word key i in
      let low : holds u (at_most (num s) (int_name word key)) ≡ true =
      at_most_means u (num s) (int_name word key) ∙ ap (λ (z : ℤ). int_le z (number u (int_name word key))) (num_means u s ∙ ap number_in (ms u there)) ∙ ap (int_le x) is ∙ lo in
      let high : holds u (less_than (int_name word key) (num t)) ≡ true =
      less_means u (int_name word key) (num t) ∙ ap (λ (z : ℤ). int_lt z (number u (num t))) is ∙ ap (int_lt i) (num_means u t ∙ ap number_in (mt u there)) ∙ hi in
      assumed_true u (assume hyps (at_most (num s) (int_name word key))) (less_than (int_name word key) (num t)) (assumed_true u hyps (at_most (num s) (int_name word key)) (h u there) low) high

  -- what a turn of the body gives, where nothing is called
  pub body_turn : (m : ℕ) (hyps : List Term) (f : Term) (v : Datum) → IsTruth v → Ok true (suc key) bound_at m hyps f v → Turn m later word key f i v
  body_turn m hyps f (Truth c) h x = (c, refl, λ u b. formula_means (with_number u word key i) f c (x.means (with_number u word key i) (subst (λ (o : Names). Agree m o (with_number u word key i)) (sym x.goes) (agree_both m later u word key i b))))
  body_turn m hyps f Null h x = absurd h
  body_turn m hyps f (Whole z) h x = absurd h
  body_turn m hyps f (Array ds) h x = absurd h
  body_turn m hyps f (Record fs) h x = absurd h

-- ---- the end

pub bound_means : (all : Bool) (word : List ℕ) (n : ℕ) (s t f : Term) (u : Names) → IsOf int_sort s → IsOf int_sort t → IsOf formula_sort f
    → holds u (bound all word n s t f) ≡ range all (number u s) (distance (number u t -ℤ number u s)) (λ i. holds (with_number u word n i) f)
bound_means true word n s t f u a b c = folding_kept (Of (term.every word n) (part s (part t (part f no_parts)))) u (a.has.1, a.has.0, (b.has.1, b.has.0, (c.has.1, c.has.0, tt)))
bound_means false word n s t f u a b c = folding_kept (Of (term.exists word n) (part s (part t (part f no_parts)))) u (a.has.1, a.has.0, (b.has.1, b.has.0, (c.has.1, c.has.0, tt)))

span_is : (x y : ℤ) → distance (y -ℤ x) ≡ span x y
span_is x y = by (y -ℤ x) where
  by : (d : ℤ) → distance d ≡ nat_of d
  by (pos n) = refl
  by (negsuc n) = refl

pub end_each : (q : Bool) (n : ℕ) (names : Names) (m2 m3 : ℕ) (hyps : List Term) (all : Bool) (word : List ℕ) (s t f : Term) (c d v : Datum) (x y : ℤ) → (two : Two q n names m2 hyps s t c d) → HasSort f val_sort → c ≡ Whole x → d ≡ Whole y → m2 ≤ m3
    → AllTurns all m3 two.later word m2 f x (span x y) v → Ok q n names m3 hyps (op.quantified all word m2 s t f) v
end_each q n names m2 m3 hyps all word s t f c d v x y two f_is ec ed le turns =
    let first : IsOf val_sort s = record { has = two.first_is } in
    let second : IsOf val_sort t = record { has = two.second_is } in
    let third : IsOf val_sort f = record { has = f_is } in
    record {
      later = two.later;
      goes = two.goes;
      known = known_later m2 m3 two.later two.later hyps le (agree_refl m2 two.later) two.known;
      means = λ u a.
          let b : Agree m2 two.later u = agree_less m2 m3 two.later u le a in
          let low : number u (num s) ≡ x = num_means u s ∙ ap number_in (two.first u b ∙ ec) in
          let high : number u (num t) ≡ y = num_means u t ∙ ap number_in (two.second u b ∙ ed) in
          value_means u (bound all word m2 (num s) (num t) (formula f))
          ∙ ap Truth (bound_means all word m2 (num s) (num t) (formula f) u (num_sorted first) (num_sorted second) (formula_sorted third)
          ∙ ap (λ (z : ℤ). range all z (distance (number u (num t) -ℤ z)) (λ i. holds (with_number u word m2 i) (formula f))) low
          ∙ ap (λ (z : ℤ). range all x (distance (z -ℤ x)) (λ i. holds (with_number u word m2 i) (formula f))) high
          ∙ ap (λ (j : ℕ). range all x j (λ i. holds (with_number u word m2 i) (formula f))) (span_is x y)
          ∙ turns.2 u a)
          ∙ sym turns.1;
      is = (quantified_sorted all word m2 first second third).has;
    }
