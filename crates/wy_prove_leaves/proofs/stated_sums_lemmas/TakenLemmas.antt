-- Sums of a literal and of the bounds that take variables of its form away: what they refute or leave is what replacing gives.
use Rattle.std.proofs.Common.{◌≡◌, ◌∙◌, ◌<◌, ◌*◌, ◌&&◌, ◌^◌, ℕ, zero, suc, List, [], ◌∷◌, ◌++◌, length, get_or, Bool, true, false, cond, pos, Option, Some, None, refl, sym, ap, subst, arith, append_assoc}
use Rattle.std.proofs.lemmas.List.{append-nil}
use Rattle.std.specs.Prelude.{nat_lt, int_lt, ◌==◌}
use Rattle.std.proofs.lemmas.Bool.{eqb-true, ltb-true, lt-ltb}
use Rattle.wy_lin_eliminate.proofs.TurnLemmas.{AreAt, are_at}
use Rattle.wy_lemmas.proofs.Choices.{large_one, both_parts as both_of}
use Rattle.wy_lemmas.proofs.Numbers.{once_above, twice_above}
use Rattle.wy_term.specs.Condition.{Entry}
use Rattle.wy_lin.specs.Linear.{Linear}
use Rattle.wy_lin.specs.Combination.{combined}
use Rattle.wy_prove_drafts.specs.wy_check_spec.judge.Node.{Literal, Node}
use Rattle.wy_cert.specs.Steps.{sum_of}
use Rattle.wy_prove_drafts.specs.wy_check_spec.valid.Validity.{after, closed}
use Rattle.wy_lin_eliminate.specs.Division.{common, lowered}
use Rattle.wy_lin_eliminate.proofs.ValidityLemmas.{common-divides, common-bare}
use Rattle.wy_search_spec.specs.Bounds.{named_from, all_fit, stated_sum, gone, given, refutes, by_two, by_common, by_sum, replaced_by}
use Rattle.wy_prove_drafts.specs.wy_search_bounds.declared.removal.Taking.{Taking}
use Rattle.wy_prove_drafts.specs.wy_search_bounds.Seen.{seen_taking, seen_takings}
use Rattle.wy_prove_drafts.specs.Progress.{Progress, Closes}
use Rattle.wy_prove_drafts.proofs.ProgressLemmas.{closes_ends}
use Rattle.wy_prove_drafts.proofs.wy_search_laws_proofs.sums_lemmas.TwiceLemmas.{doubled_bare, doubled_even}
use Rattle.wy_prove_drafts.proofs.wy_search_laws_proofs.sums_lemmas.RefutingLemmas.{common_not_bare}
use Rattle.wy_prove_drafts.proofs.wy_search_laws_proofs.sums_lemmas.ReplacedLemmas.{taken, doubled_all, stated_is}
use Rattle.wy_prove_leaves.specs.stated_sums.Named.{IsNamed}
use Rattle.wy_prove_leaves.specs.stated_sums.Cuts.{twice, StatesBy, StatesCut, StatesDivided, Gives}
use Rattle.wy_prove_leaves.specs.stated_sums.Replacing.{AreBounds, AreTaken, AreSummands, IsReplaceable}
use Rattle.wy_prove_leaves.specs.stated_sums.Steps.{Closed}
use Rattle.wy_prove_leaves.specs.stated_sums.Named.{at}
use Rattle.wy_prove_leaves.proofs.stated_sums_lemmas.NamedLemmas.{Matches, matched_sum, sum_closes, cut_states, stated_gives}

-- ---- multipliers beside numbers

-- the second pairs have so many times the multipliers of the first
abbrev AreScaled : ℕ → List (ℕ × ℕ) → List (ℕ × ℕ) → Type 0
AreScaled k [] [] = Unit {0}
AreScaled k [] (q ∷ qs) = ⊥
AreScaled k (p ∷ ps) [] = ⊥
AreScaled k (p ∷ ps) (q ∷ qs) = (q.0 ≡ k * p.0) × (q.1 ≡ p.1) × AreScaled k ps qs

one_times : (n : ℕ) → n ≡ 1 * n
one_times n = omega arith

scaled_once : (ps : List (ℕ × ℕ)) → AreScaled 1 ps ps
scaled_once [] = tt
scaled_once (p ∷ ps) = (one_times p.0, refl, scaled_once ps)

scaled_twice : (ps : List (ℕ × ℕ)) → AreScaled 2 ps (twice ps)
scaled_twice [] = tt
scaled_twice (p ∷ ps) = (refl, refl, scaled_twice ps)

module _ (base : Node) (ls : List Literal) where
  taken_match : (all : List (Linear ℕ)) (k i : ℕ) (ts : List (ℕ × Linear ℕ)) (ps qs : List (ℕ × ℕ)) → ((x : ℕ) → 0 < x → 0 < k * x) → AreAt all i (taken ts) → AreBounds base ls ts → AreTaken base ls ts ps → AreScaled k ps qs → Matches base ls all (named_from k ts i) qs
  taken_match all k i [] [] [] above places bounds are scaled = tt
  taken_match all k i [] [] (q ∷ qs) above places bounds are scaled = absurd scaled
  taken_match all k i [] (p ∷ ps) qs above places bounds are scaled = absurd are
  taken_match all k i (t ∷ ts) [] qs above places bounds are scaled = absurd are
  taken_match all k i (t ∷ ts) (p ∷ ps) [] above places bounds are scaled = absurd scaled
  taken_match all k i (t ∷ ts) (p ∷ ps) (q ∷ qs) above places bounds are scaled = (
    scaled.0 ∙ ap (λ (x : ℕ). k * x) are.0,
    lt-ltb 0 (k * t.0) (above t.0 bounds.0),
    subst (λ (f : Linear ℕ). IsNamed base ls q.1 f) (sym places.0) (subst (λ (n : ℕ). IsNamed base ls n t.1) (sym scaled.1) are.1),
    taken_match all k (suc i) ts ps qs above places.2 bounds.2 are.2 scaled.2,
  )

  -- the literal itself, and the bounds
  whole_match : (own k : ℕ) (f : Linear ℕ) (ts : List (ℕ × Linear ℕ)) (ps qs : List (ℕ × ℕ)) → nat_lt 0 k ≡ true → ((x : ℕ) → 0 < x → 0 < k * x) → IsReplaceable base ls own f ts → AreTaken base ls ts ps → AreScaled k ps qs → Matches base ls (f ∷ taken ts) ((k, 0) ∷ named_from k ts 1) ((k, own) ∷ qs)
  whole_match own k f ts ps qs some above h are scaled = (
    refl,
    some,
    h.named,
    taken_match (f ∷ taken ts) k 1 ts ps qs above (are_at (f ∷ taken ts) 1 (taken ts) refl) h.bounds are scaled,
  )

  match_fits : (all : List (Linear ℕ)) (ms ps : List (ℕ × ℕ)) → Matches base ls all ms ps → all_fit ps ≡ all_fit ms
  match_fits all [] [] h = refl
  match_fits all [] (p ∷ ps) h = absurd h
  match_fits all (m ∷ ms) [] h = absurd h
  match_fits all (m ∷ ms) (p ∷ ps) h =
      ap (λ (k : ℕ). nat_lt k (2 ^ 127) && all_fit ps) h.0 ∙ ap (λ (b : Bool). nat_lt m.0 (2 ^ 127) && b) (match_fits all ms ps h.3)

-- ---- what replacing gives

abbrev once_sum : Linear ℕ → List (ℕ × Linear ℕ) → Option (Linear ℕ)
once_sum f ts = stated_sum (f ∷ taken ts) ((1, 0) ∷ named_from 1 ts 1)

abbrev twice_sum : Linear ℕ → List (ℕ × Linear ℕ) → Option (Linear ℕ)
twice_sum f ts = stated_sum (f ∷ taken ts) ((2, 0) ∷ named_from 2 ts 1)

-- the sum is a negative number
record IsNegative (f : Linear ℕ) (ts : List (ℕ × Linear ℕ)) : Type 0 where
  sum : Linear ℕ
  is : once_sum f ts ≡ Some sum
  none : (common sum.parts == 0) ≡ true
  negative : int_lt sum.constant (pos 0) ≡ true

-- what is left of the sum, which has a variable
abbrev IsLeft : Bool → Linear ℕ → Linear ℕ → List (ℕ × Linear ℕ) → Linear ℕ → Type 0
IsLeft true sum f ts g = (double : Linear ℕ) × (twice_sum f ts ≡ Some double) × (g ≡ lowered 2 double)
IsLeft false sum f ts g = g ≡ lowered (common sum.parts) sum

record IsGiven (f : Linear ℕ) (ts : List (ℕ × Linear ℕ)) (g : Linear ℕ) : Type 0 where
  sum : Linear ℕ
  is : once_sum f ts ≡ Some sum
  some : (common sum.parts == 0) ≡ false
  left : IsLeft (common sum.parts == 1) sum f ts g

given_is : (f g : Linear ℕ) → given f ≡ given g → f ≡ g
given_is f g e = cc

module _ (f : Linear ℕ) (ts : List (ℕ × Linear ℕ)) where
  negative_by : (sum : Linear ℕ) → once_sum f ts ≡ Some sum → by_common (twice_sum f ts) sum (common sum.parts) ≡ refutes → IsNegative f ts
  negative_by sum is e = by (common sum.parts == 0) (int_lt sum.constant (pos 0)) (common sum.parts == 1) (twice_sum f ts) refl refl e
    where
      by : (a b c : Bool) (o : Option (Linear ℕ)) → (common sum.parts == 0) ≡ a → int_lt sum.constant (pos 0) ≡ b → cond a (cond b refutes gone) (cond c (by_two o) (given (lowered (common sum.parts) sum))) ≡ refutes → IsNegative f ts
      by true true c o none negative h = record { sum = sum; is = is; none = none; negative = negative }
      by true false c o none negative h = absurd cc
      by false b true None none negative h = absurd cc
      by false b true (Some k) none negative h = absurd cc
      by false b false o none negative h = absurd cc

  negative_of : (o : Option (Linear ℕ)) → once_sum f ts ≡ o → by_sum (twice_sum f ts) o ≡ refutes → IsNegative f ts
  negative_of None is e = absurd cc
  negative_of (Some sum) is e = negative_by sum is e

  given_by : (g sum : Linear ℕ) → once_sum f ts ≡ Some sum → by_common (twice_sum f ts) sum (common sum.parts) ≡ given g → IsGiven f ts g
  given_by g sum is e = by (common sum.parts == 0) (int_lt sum.constant (pos 0)) refl e
    where
      left_by : (c : Bool) (o : Option (Linear ℕ)) → twice_sum f ts ≡ o → cond c (by_two o) (given (lowered (common sum.parts) sum)) ≡ given g → IsLeft c sum f ts g
      left_by true None is h = absurd cc
      left_by true (Some double) is h = (double, is, sym (given_is (lowered 2 double) g h))
      left_by false o is h = sym (given_is (lowered (common sum.parts) sum) g h)

      by : (a b : Bool) → (common sum.parts == 0) ≡ a → cond a (cond b refutes gone) (cond (common sum.parts == 1) (by_two (twice_sum f ts)) (given (lowered (common sum.parts) sum))) ≡ given g → IsGiven f ts g
      by true true none h = absurd cc
      by true false none h = absurd cc
      by false b some h = record { sum = sum; is = is; some = some; left = left_by (common sum.parts == 1) (twice_sum f ts) refl h }

  given_of : (g : Linear ℕ) (o : Option (Linear ℕ)) → once_sum f ts ≡ o → by_sum (twice_sum f ts) o ≡ given g → IsGiven f ts g
  given_of g None is e = absurd cc
  given_of g (Some sum) is e = given_by g sum is e

-- ---- the sum closes the node, or its cut gives the form

pub negative_closes : (types : List Entry) (base node : Node) (own : ℕ) (f : Linear ℕ) (ts : List (ℕ × Linear ℕ)) (rest : List (ℕ × ℕ)) → IsReplaceable base node.literals own f ts → AreTaken base node.literals ts rest → replaced_by f ts ≡ refutes → after types node (sum_of ((1, own) ∷ rest)) ≡ closed
negative_closes types base node own f [] rest h are e = absurd cc
negative_closes types base node own f (t ∷ ts) rest h are e =
    let r = negative_of f (t ∷ ts) (once_sum f (t ∷ ts)) refl e in
    let ms : List (ℕ × ℕ) = (1, 0) ∷ named_from 1 (t ∷ ts) 1 in
    sum_closes base node types (f ∷ taken (t ∷ ts)) ms ((1, own) ∷ rest) r.sum
    (whole_match base node.literals own 1 f (t ∷ ts) rest rest refl once_above h are (scaled_once rest))
    (stated_is (f ∷ taken (t ∷ ts)) ms r.sum r.is) (common-bare r.sum.parts (eqb-true (common r.sum.parts) 0 r.none)) r.negative

pub bounds_close : (types : List Entry) (base : Node) (old new : Progress) (own : ℕ) (f : Linear ℕ) (ts : List (ℕ × Linear ℕ)) (pairs : List (ℕ × ℕ)) (yes : Bool) → IsReplaceable base old.node.literals own f ts → AreSummands base old.node.literals own ts (Some pairs) → replaced_by f ts ≡ refutes → Closes types (sum_of pairs) old new yes → Closed types old new yes
bounds_close types base old new own f ts pairs true h are e closes = closes_ends types (sum_of pairs) old new tt closes
bounds_close types base old new own f ts pairs false h are e closes =
    let valid : after types old.node (sum_of pairs) ≡ closed = ap (λ (ps : List (ℕ × ℕ)). after types old.node (sum_of ps)) are.1 ∙ negative_closes types base old.node own f ts are.0 h are.2 e in
    let none : after types old.node (sum_of pairs) ≡ None = closes.0 in
    absurd cc

stated_fits : (forms : List (Linear ℕ)) (ms : List (ℕ × ℕ)) (f : Linear ℕ) → stated_sum forms ms ≡ Some f → all_fit ms ≡ true
stated_fits forms ms f e = by (all_fit ms) e
  where
    by : (b : Bool) → cond b (combined forms ms) None ≡ Some f → b ≡ true
    by true g = refl
    by false g = absurd cc

module _ (types : List Entry) (base : Node) (old new : Progress) (own : ℕ) (f : Linear ℕ) (ts : List (ℕ × Linear ℕ)) (rest : List (ℕ × ℕ)) (h : IsReplaceable base old.node.literals own f ts) (are : AreTaken base old.node.literals ts rest) (sum : Linear ℕ) (is : combined (f ∷ taken ts) ((1, 0) ∷ named_from 1 ts 1) ≡ Some sum) (some : (common sum.parts == 0) ≡ false) where
  once_matches : Matches base old.node.literals (f ∷ taken ts) ((1, 0) ∷ named_from 1 ts 1) ((1, own) ∷ rest)
  once_matches = whole_match base old.node.literals own 1 f ts rest rest refl once_above h are (scaled_once rest)

  twice_matches : Matches base old.node.literals (f ∷ taken ts) ((2, 0) ∷ named_from 2 ts 1) (twice ((1, own) ∷ rest))
  twice_matches = whole_match base old.node.literals own 2 f ts rest (twice rest) refl twice_above h are (scaled_twice rest)

  double_gives : (double : Linear ℕ) (o : Option ℕ) → stated_sum (f ∷ taken ts) ((2, 0) ∷ named_from 2 ts 1) ≡ Some double → (all_fit (twice ((1, own) ∷ rest)) ≡ true → StatesCut types 2 (twice ((1, own) ∷ rest)) old new o) → Gives types base (lowered 2 double) old new o
  double_gives double o stated states =
      let ms : List (ℕ × ℕ) = (1, 0) ∷ named_from 1 ts 1 in
      let ns : List (ℕ × ℕ) = (2, 0) ∷ named_from 2 ts 1 in
      let twice_is = stated_is (f ∷ taken ts) ns double stated in
      let fits : all_fit (twice ((1, own) ∷ rest)) ≡ true = match_fits base old.node.literals (f ∷ taken ts) ns (twice ((1, own) ∷ rest)) twice_matches ∙ stated_fits (f ∷ taken ts) ns double stated in
      stated_gives types base old new 2 (twice ((1, own) ∷ rest)) double o
      (cut_states base old.node (f ∷ taken ts) 2 ns (twice ((1, own) ∷ rest)) double twice_matches refl twice_is
      (doubled_even (f ∷ taken ts) ms ns sum double (doubled_all ts) is twice_is)
      (doubled_bare (f ∷ taken ts) ms ns sum double (doubled_all ts) is twice_is (common_not_bare sum.parts some)))
      (states fits)

  divided_gives : (o : Option ℕ) → (common sum.parts == 1) ≡ false → StatesCut types (common sum.parts) ((1, own) ∷ rest) old new o → Gives types base (lowered (common sum.parts) sum) old new o
  divided_gives o large states =
      stated_gives types base old new (common sum.parts) ((1, own) ∷ rest) sum o
      (cut_states base old.node (f ∷ taken ts) (common sum.parts) ((1, 0) ∷ named_from 1 ts 1) ((1, own) ∷ rest) sum once_matches (large_one (common sum.parts) some large) is (common-divides sum.parts) (common_not_bare sum.parts some))
      states

  left_gives : (g : Linear ℕ) (o : Option ℕ) (b : Bool) → (common sum.parts == 1) ≡ b → IsLeft b sum f ts g → StatesBy b types (common sum.parts) ((1, own) ∷ rest) old new o → Gives types base g old new o
  left_gives g o true one left states = subst (λ (x : Linear ℕ). Gives types base x old new o) (sym left.2) (double_gives left.0 o left.1 states)
  left_gives g o false one left states = subst (λ (x : Linear ℕ). Gives types base x old new o) (sym left) (divided_gives o one states)

cut_gives : (types : List Entry) (base : Node) (old new : Progress) (own : ℕ) (f g : Linear ℕ) (t : ℕ × Linear ℕ) (ts : List (ℕ × Linear ℕ)) (pairs : List (ℕ × ℕ)) (o : Option ℕ) → IsReplaceable base old.node.literals own f (t ∷ ts) → AreSummands base old.node.literals own (t ∷ ts) (Some pairs) → replaced_by f (t ∷ ts) ≡ given g → StatesDivided types pairs old new o → Gives types base g old new o
cut_gives types base old new own f g t ts pairs o h are e states =
    let r = given_of f (t ∷ ts) g (once_sum f (t ∷ ts)) refl e in
    let is = stated_is (f ∷ taken (t ∷ ts)) ((1, 0) ∷ named_from 1 (t ∷ ts) 1) r.sum r.is in
    let match = once_matches types base old new own f (t ∷ ts) are.0 h are.2 r.sum is r.some in
    let s = matched_sum base old.node (f ∷ taken (t ∷ ts)) ((1, 0) ∷ named_from 1 (t ∷ ts) 1) ((1, own) ∷ are.0) r.sum match is in
    let known : StatesDivided types ((1, own) ∷ are.0) old new o = subst (λ (ps : List (ℕ × ℕ)). StatesDivided types ps old new o) are.1 states in
    left_gives types base old new own f (t ∷ ts) are.0 h are.2 r.sum is r.some g o (common r.sum.parts == 1) refl r.left (known (at base) r.sum s.is)

-- ---- pairs as they are listed

twice_fit : (ps : List (ℕ × ℕ)) (i : ℕ) (d : ℕ × ℕ) → all_fit (twice ps) ≡ true → i < length ps → nat_lt (2 * (get_or ps i d).0) (2 ^ 127) ≡ true
twice_fit [] i d e lt = absurd (omega (arith, lt))
twice_fit (p ∷ ps) zero d e lt = (both_of (nat_lt (2 * p.0) (2 ^ 127)) (all_fit (twice ps)) e).0
twice_fit (p ∷ ps) (suc i) d e lt = twice_fit ps i d (both_of (nat_lt (2 * p.0) (2 ^ 127)) (all_fit (twice ps)) e).1 (omega (arith, lt))

-- the multipliers of the pairs fit when they are doubled
pub twice_below : (ps : List (ℕ × ℕ)) (i : ℕ) (d : ℕ × ℕ) → all_fit (twice ps) ≡ true → i < length ps → (get_or ps i d).0 * 2 < 2 ^ 128
twice_below ps i d e lt =
    let small = ltb-true (2 * (get_or ps i d).0) (2 ^ 127) (twice_fit ps i d e lt) in
    omega (arith, small)

-- a literal, and the bounds before those that are left, are listed; with those that are left they are all
pub record IsTaking (base : Node) (ls : List Literal) (own : ℕ) (pairs : List (ℕ × ℕ)) (all left : List (ℕ × Linear ℕ)) : Type 0 where
  pub rest : List (ℕ × ℕ)
  pub is : pairs ≡ (1, own) ∷ rest
  pub bounds : AreBounds base ls left
  pub behind : (more : List (ℕ × ℕ)) → AreTaken base ls left more → AreTaken base ls all (rest ++ more)

pub taking_next : (base : Node) (ls : List Literal) (own : ℕ) (pairs next : List (ℕ × ℕ)) (all left : List (ℕ × Linear ℕ)) (t : ℕ × Linear ℕ) (m k : ℕ) → next ≡ pairs ++ (m, k) ∷ [] → m ≡ t.0 → IsNamed base ls k t.1 → IsTaking base ls own pairs all (t ∷ left) → IsTaking base ls own next all left
taking_next base ls own pairs next all left t m k is times named h = record {
  rest = h.rest ++ (m, k) ∷ [];
  is = is ∙ ap (λ (ps : List (ℕ × ℕ)). ps ++ (m, k) ∷ []) h.is;
  bounds = h.bounds.2;
  behind = λ more g. subst (λ (ps : List (ℕ × ℕ)). AreTaken base ls all ps) (sym (append_assoc h.rest ((m, k) ∷ []) more)) (h.behind ((m, k) ∷ more) (times, named, g));
}

pub taking_ends : (base : Node) (ls : List Literal) (own : ℕ) (pairs : List (ℕ × ℕ)) (all : List (ℕ × Linear ℕ)) → IsTaking base ls own pairs all [] → AreSummands base ls own all (Some pairs)
taking_ends base ls own pairs all h = (h.rest, h.is, subst (λ (ps : List (ℕ × ℕ)). AreTaken base ls all ps) (append-nil h.rest) (h.behind [] tt))

-- ---- where something is taken away

takings_some : (ts : List Taking) → (length ts ≡ 0 → ⊥) → (t : ℕ × Linear ℕ) × (rest : List (ℕ × Linear ℕ)) × (seen_takings ts ≡ t ∷ rest)
takings_some [] h = absurd (h refl)
takings_some (t ∷ ts) h = (seen_taking t, seen_takings ts, refl)

pub taken_give : (types : List Entry) (base : Node) (old new : Progress) (own : ℕ) (f g : Linear ℕ) (ts : List Taking) (pairs : List (ℕ × ℕ)) (o : Option ℕ) → (length ts ≡ 0 → ⊥) → IsReplaceable base old.node.literals own f (seen_takings ts) → AreSummands base old.node.literals own (seen_takings ts) (Some pairs) → replaced_by f (seen_takings ts) ≡ given g → StatesDivided types pairs old new o → Gives types base g old new o
taken_give types base old new own f g ts pairs o some h are e states =
    let x = takings_some ts some in
    cut_gives types base old new own f g x.0 x.1 pairs o
    (subst (λ (us : List (ℕ × Linear ℕ)). IsReplaceable base old.node.literals own f us) x.2 h)
    (subst (λ (us : List (ℕ × Linear ℕ)). AreSummands base old.node.literals own us (Some pairs)) x.2 are)
    (ap (λ (us : List (ℕ × Linear ℕ)). replaced_by f us) (sym x.2) ∙ e) states
