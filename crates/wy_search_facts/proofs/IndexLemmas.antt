-- Which terms stand as an index.
use Rattle.std.proofs.Common.{◌≡◌, ◌∙◌, ◌≤◌, ◌<◌, ◌+◌, ◌||◌, ◌&&◌, ℕ, zero, suc, Option, None, Some, drop, length, arith, List, [], ◌∷◌, ◌++◌, map, take, Bool, true, false, not, cond, eqb, refl, subst, sym, ap, ap₂, append_assoc}
use Rattle.wy_lemmas.proofs.Choices.{or_none, eqb_itself as eqb_self, or_elim as or_cases, or_left, or_right as or_true, or_assoc, shuffled}
use Rattle.wy_lemmas.proofs.Lists.{drop_next_pair as drop_next}
use Rattle.wy_search_facts.specs.Indices.{AreNoted, Notes, WillBeNoted, catches, chosen_by, indexes, indexes_in, is_index_of, is_numbered, open_of}
use Rattle.wy_cong.specs.wy_check_spec.judge.Node.{has_formula}
use Rattle.std.proofs.lemmas.List.{append-nil}
use Rattle.std.specs.Prelude.{slice_get, IfSome}
use Rattle.wy_check_nodes.specs.Seen.{seen_formula, seen_literal, signed}
use Rattle.wy_cong.specs.wy_search_spec.Expansion.{among, index_at, indices_in, only_int}
use Rattle.wy_cong.specs.wy_search_spec.Standing.{Standing, all_parts, below, bound_by, have_common, in_formulas, in_literals, of_range, standing_in, standing_in_parts, with_unbound}
use Rattle.wy_check_nodes.proofs.JudgingLemmas.{below_up}
use Rattle.wy_check_nodes.specs.Seen.{AreBelow}
use Rattle.wy_cong.proofs.TaskLemmas.{below_taken}
use Rattle.wy_check_splits.proofs.WalkLemmas.{any_over-last}
use Rattle.wy_check_splits.specs.Free.{is_among, stands_free}
use Rattle.wy_check_splits.specs.Walk.{any_first, any_over}
use Rattle.wy_cong.proofs.BoundLemmas.{none_common}
use Rattle.wy_term.proofs.SameLemmas.{terms_are, terms_self}
use Rattle.wy_term.specs.declared.node.Node.{Node}
use Rattle.wy_term.specs.declared.node.Node.TheVariants as node
use Rattle.wy_term.specs.Nodes.{grown, parts_at, plain}
use Rattle.wy_term.specs.Same.{same_term}
use Rattle.wy_term.specs.Scope.{free_names}
use Rattle.wy_term.specs.Term.{Symbol, Term, Of, no_parts, part, Not, leaf, int_name, get, update}
use Rattle.wy_cong.specs.wy_check_spec.valid.Ranges.{is_int}

-- ---- what stands in a term, by its parts

indexes_append : (t : Term) (ss us : List Standing) → indexes_in t (ss ++ us) ≡ (indexes_in t ss || indexes_in t us)
indexes_append t [] us = refl
indexes_append t (s ∷ ss) us =
    let here = is_index_of t s.what && not (have_common (free_names t) s.around) in
    ap (λ (b : Bool). here || b) (indexes_append t ss us) ∙ sym (or_assoc here (indexes_in t ss) (indexes_in t us))

common_more : (x : Term) (names around : List Term) → have_common names (x ∷ around) ≡ (is_among x names || have_common names around)
common_more x [] around = refl
common_more x (f ∷ fs) around =
    ap (λ (b : Bool). cond (same_term x f) true (has_formula around f) || b) (common_more x fs around)
    ∙ shuffled (same_term x f) (has_formula around f) (is_among x fs) (have_common fs around)

apart : (a c d r : Bool) → ((a && not (c || d)) || (not c && r)) ≡ (not c && ((a && not d) || r))
apart true true d r = refl
apart false true d r = refl
apart a false d r = refl

indexes_bound : (t x : Term) (ss : List Standing) → indexes_in t (map (bound_by x) ss) ≡ (not (is_among x (free_names t)) && indexes_in t ss)
indexes_bound t x [] = and_false (not (is_among x (free_names t)))
  where
    and_false : (b : Bool) → false ≡ (b && false)
    and_false true = refl
    and_false false = refl
indexes_bound t x (s ∷ ss) =
    let names = free_names t in
    ap₂ (λ (a b : Bool). (is_index_of t s.what && not a) || b) (common_more x names s.around) (indexes_bound t x ss)
    ∙ apart (is_index_of t s.what) (is_among x names) (have_common names s.around) (indexes_in t ss)

indexes_parts : (t : Term) (at : ℕ → Term) (ks : List ℕ) → indexes_in t (all_parts (standing_in_parts (parts_at at ks))) ≡ any_over (indexes at t) ks
indexes_parts t at [] = refl
indexes_parts t at (k ∷ ks) = indexes_append t (standing_in (at k)) (all_parts (standing_in_parts (parts_at at ks))) ∙ ap (λ (b : Bool). indexes at t k || b) (indexes_parts t at ks)

open_bound : (free : ℕ → Bool) (b : Bool) (s t f : ℕ) → (free s || (free t || (not b && free f))) ≡ any_over free (open_of b (s ∷ t ∷ f ∷ []))
open_bound free true s t f = refl
open_bound free false s t f = ap (λ (a : Bool). free s || (free t || a)) (sym (or_none (free f)))

indexes_range : (t : Term) (at : ℕ → Term) (w : List ℕ) (n a b c : ℕ) → indexes_in t (of_range (leaf (int_name w n)) (standing_in_parts (parts_at at (a ∷ b ∷ c ∷ [])))) ≡ any_over (indexes at t) (open_of (stands_free w n t) (a ∷ b ∷ c ∷ []))
indexes_range t at w n a b c =
    let x = leaf (int_name w n) in
    indexes_append t (standing_in (at a)) (standing_in (at b) ++ map (bound_by x) (standing_in (at c)))
    ∙ ap (λ (e : Bool). indexes at t a || e)
    (indexes_append t (standing_in (at b)) (map (bound_by x) (standing_in (at c)))
    ∙ ap (λ (e : Bool). indexes at t b || e) (indexes_bound t x (standing_in (at c))))
    ∙ open_bound (indexes at t) (stands_free w n t) a b c

below_indexes : (t : Term) (at : ℕ → Term) (n : Node) → indexes_in t (below (plain n).symbol (standing_in_parts (parts_at at (plain n).parts))) ≡ any_over (indexes at t) (open_of (catches t (plain n).symbol) (plain n).parts)
below_indexes t at (node.All q) = indexes_range t at q.word q.number q.from q.below q.body
below_indexes t at (node.Some q) = indexes_range t at q.word q.number q.from q.below q.body
below_indexes t at n = indexes_parts t at (plain n).parts

alone : (a c : Bool) → c ≡ false → (a && not c) ≡ a
alone true c e = ap not e
alone false c e = refl

pub indexes_by_parts : (at : ℕ → Term) (t : Term) (k : ℕ) (n : Node) → at k ≡ grown at (plain n) → indexes at t k ≡ (is_index_of t (at k) || any_over (indexes at t) (open_of (catches t (plain n).symbol) (plain n).parts))
indexes_by_parts at t k n is =
    ap (λ (u : Term). indexes_in t (standing_in u)) is
    ∙ ap₂ (λ (a b : Bool). a || b) (alone (is_index_of t (grown at (plain n))) (have_common (free_names t) []) (none_common (free_names t))) (below_indexes t at n)
    ∙ ap (λ (u : Term). is_index_of t u || any_over (indexes at t) (open_of (catches t (plain n).symbol) (plain n).parts)) (sym is)

-- ---- literals and pending formulas

of_literals : (at : ℕ → Term) (t : Term) (ps : List (ℕ × Bool)) → indexes_in t (in_literals (map (seen_literal at) ps)) ≡ any_first (indexes at t) ps
of_literals at t [] = refl
of_literals at t (p ∷ ps) = indexes_append t (standing_in (at p.0)) (in_literals (map (seen_literal at) ps)) ∙ ap (λ (b : Bool). indexes at t p.0 || b) (of_literals at t ps)

one_formula : (at : ℕ → Term) (t : Term) (k : ℕ) (holds : Bool) → indexes_in t (standing_in (seen_formula at (k, holds))) ≡ indexes at t k
one_formula at t k true = refl
one_formula at t k false = indexes_append t (standing_in (at k)) [] ∙ or_none (indexes at t k)

of_formulas : (at : ℕ → Term) (t : Term) (ps : List (ℕ × Bool)) → indexes_in t (in_formulas (map (seen_formula at) ps)) ≡ any_first (indexes at t) ps
of_formulas at t [] = refl
of_formulas at t (p ∷ ps) =
    indexes_append t (standing_in (seen_formula at p)) (in_formulas (map (seen_formula at) ps))
    ∙ ap₂ (λ (a b : Bool). a || b) (one_formula at t p.0 p.1) (of_formulas at t ps)

pub all_told : (at : ℕ → Term) (t : Term) (ls ps : List (ℕ × Bool)) (none one both : List ℕ) → none ≡ [] → any_over (indexes at t) one ≡ (any_first (indexes at t) ps || any_over (indexes at t) none)
    → any_over (indexes at t) both ≡ (any_first (indexes at t) ls || any_over (indexes at t) one)
    → any_over (indexes at t) both ≡ indexes_in t (in_literals (map (seen_literal at) ls) ++ in_formulas (map (seen_formula at) ps))
all_told at t ls ps none one both empty first second =
    let f = indexes at t in
    second
    ∙ ap₂ (λ (a b : Bool). a || b) (sym (of_literals at t ls)) (first ∙ (ap (λ (ks : List ℕ). any_first f ps || any_over f ks) empty ∙ (or_none (any_first f ps) ∙ sym (of_formulas at t ps))))
    ∙ sym (indexes_append t (in_literals (map (seen_literal at) ls)) (in_formulas (map (seen_formula at) ps)))

-- ---- the definition's list of indices

abbrev unbound_in : Term → List Standing → Bool
unbound_in t [] = false
unbound_in t (s ∷ ss) = (same_term s.what t && not (have_common (free_names s.what) s.around)) || unbound_in t ss

has_last : (ts : List Term) (u t : Term) → has_formula (ts ++ u ∷ []) t ≡ (has_formula ts t || same_term u t)
has_last [] u t = by (same_term u t)
  where
    by : (b : Bool) → cond b true false ≡ b
    by true = refl
    by false = refl
has_last (s ∷ ss) u t = ap (λ (b : Bool). cond (same_term s t) true b) (has_last ss u t) ∙ by (same_term s t)
  where
    by : (b : Bool) → cond b true (has_formula ss t || same_term u t) ≡ (cond b true (has_formula ss t) || same_term u t)
    by true = refl
    by false = refl

pub has_joined : (ts us : List Term) (t : Term) → has_formula (ts ++ us) t ≡ (has_formula ts t || has_formula us t)
has_joined [] us t = refl
has_joined (s ∷ ss) us t = ap (λ (b : Bool). cond (same_term s t) true b) (has_joined ss us t) ∙ by (same_term s t)
  where
    by : (b : Bool) → cond b true (has_formula ss t || has_formula us t) ≡ (cond b true (has_formula ss t) || has_formula us t)
    by true = refl
    by false = refl

has_same : (ts : List Term) (u t : Term) → same_term u t ≡ true → has_formula ts u ≡ has_formula ts t
has_same ts u t e = ap (has_formula ts) (terms_are u t e)

listed : (done : List Term) (u t : Term) (h c e rest : Bool) → has_formula done u ≡ h → same_term u t ≡ e
    → (has_formula (cond (h || c) done (done ++ u ∷ [])) t || rest) ≡ (has_formula done t || ((e && not c) || rest))
listed done u t true true true rest here same = refl
listed done u t true true false rest here same = refl
listed done u t true false true rest here same =
    let up : has_formula done t ≡ true = sym (has_same done u t same) ∙ here in
    ap (λ (b : Bool). b || rest) up ∙ sym (ap (λ (b : Bool). b || true) up)
listed done u t true false false rest here same = refl
listed done u t false true true rest here same = refl
listed done u t false true false rest here same = refl
listed done u t false false e rest here same =
    ap (λ (b : Bool). b || rest) (has_last done u t ∙ ap (λ (b : Bool). has_formula done t || b) same)
    ∙ or_assoc (has_formula done t) e rest
    ∙ ap (λ (b : Bool). has_formula done t || (b || rest)) (plain_and e)
  where
    plain_and : (b : Bool) → b ≡ (b && true)
    plain_and true = refl
    plain_and false = refl

has_unbound : (done : List Term) (t : Term) (ss : List Standing) → has_formula (with_unbound done ss) t ≡ (has_formula done t || unbound_in t ss)
has_unbound done t [] = sym (or_none (has_formula done t))
has_unbound done t (s ∷ ss) =
    has_unbound (cond (has_formula done s.what || have_common (free_names s.what) s.around) done (done ++ s.what ∷ [])) t ss
    ∙ listed done s.what t (has_formula done s.what) (have_common (free_names s.what) s.around) (same_term s.what t) (unbound_in t ss) refl refl

unbound_append : (t : Term) (ss us : List Standing) → unbound_in t (ss ++ us) ≡ (unbound_in t ss || unbound_in t us)
unbound_append t [] us = refl
unbound_append t (s ∷ ss) us =
    let here = same_term s.what t && not (have_common (free_names s.what) s.around) in
    ap (λ (b : Bool). here || b) (unbound_append t ss us) ∙ sym (or_assoc here (unbound_in t ss) (unbound_in t us))

one_index : (t i : Term) (around : List Term) (e : Bool) → same_term i t ≡ e → ((e && not (have_common (free_names i) around)) || false) ≡ (e && not (have_common (free_names t) around))
one_index t i around true same = or_none (not (have_common (free_names i) around)) ∙ ap (λ (u : Term). not (have_common (free_names u) around)) (terms_are i t same)
one_index t i around false same = refl

index_here : (t : Term) (around : List Term) (u : Term) → unbound_in t (index_at around u) ≡ (is_index_of t u && not (have_common (free_names t) around))
index_here t around (Of get (part v (part i no_parts))) = one_index t i around (same_term i t) refl
index_here t around (Of update (part v (part i (part w no_parts)))) = one_index t i around (same_term i t) refl
index_here t around u = refl

unbound_indices : (t : Term) (ss : List Standing) → unbound_in t (indices_in ss) ≡ indexes_in t ss
unbound_indices t [] = refl
unbound_indices t (s ∷ ss) = unbound_append t (index_at s.around s.what) (indices_in ss) ∙ ap₂ (λ (a b : Bool). a || b) (index_here t s.around s.what) (unbound_indices t ss)

or_turned : (a b : Bool) → (a || b) ≡ cond b true a
or_turned true true = refl
or_turned true false = refl
or_turned false true = refl
or_turned false false = refl

-- a term is an index or a name where it is in the definition's list
pub listed_where : (t : Term) (ss : List Standing) (names : List Term) → has_formula (with_unbound [] (indices_in ss) ++ names) t ≡ cond (has_formula names t) true (indexes_in t ss)
listed_where t ss names =
    has_joined (with_unbound [] (indices_in ss)) names t
    ∙ ap (λ (b : Bool). b || has_formula names t) (has_unbound [] t (indices_in ss) ∙ unbound_indices t ss)
    ∙ or_turned (indexes_in t ss) (has_formula names t)

-- ---- the list that is made

abbrev none_of : List Term
none_of = []

pub only_one : (t : Term) (us : List Term) → only_int (among (t ∷ []) us) ≡ cond (is_int t) (cond (has_formula us t) (t ∷ []) []) []
only_one t us = pick (has_formula us t)
  where
    none : (i : Bool) → none_of ≡ cond i none_of none_of
    none true = refl
    none false = refl

    pick : (h : Bool) → only_int (cond h (t ∷ []) []) ≡ cond (is_int t) (cond h (t ∷ []) []) []
    pick true = refl
    pick false = none (is_int t)

pub only_more : (t : Term) (ts us : List Term) → only_int (among (t ∷ ts) us) ≡ only_int (among (t ∷ []) us) ++ only_int (among ts us)
only_more t ts us = by (has_formula us t)
  where
    whole : (i : Bool) → cond i (t ∷ only_int (among ts us)) (only_int (among ts us)) ≡ cond i (t ∷ []) [] ++ only_int (among ts us)
    whole true = refl
    whole false = refl

    by : (h : Bool) → only_int (cond h (t ∷ among ts us) (among ts us)) ≡ only_int (cond h (t ∷ []) []) ++ only_int (among ts us)
    by true = whole (is_int t)
    by false = refl

-- ---- one term more

only_seen : (t : Term) (ss : List Standing) (names : List Term) (b : Bool) → chosen_by ss names t ≡ b → only_int (among (t ∷ []) (with_unbound [] (indices_in ss) ++ names)) ≡ cond b (t ∷ []) []
only_seen t ss names b is =
    only_one t (with_unbound [] (indices_in ss) ++ names)
    ∙ ap (λ (h : Bool). cond (is_int t) (cond h (t ∷ []) []) []) (listed_where t ss names)
    ∙ joined (is_int t) (cond (has_formula names t) true (indexes_in t ss))
    ∙ ap (λ (h : Bool). cond h (t ∷ []) []) is
  where
    joined : (i h : Bool) → cond i (cond h (t ∷ []) []) [] ≡ cond (cond i h false) (t ∷ []) []
    joined true h = refl
    joined false h = refl

pub not_pushed : (t : Term) (holds : Bool) (ss : List Standing) (names made : List Term) → holds ≡ true → chosen_by ss names t ≡ false → made ≡ made ++ only_int (among (signed t holds ∷ []) (with_unbound [] (indices_in ss) ++ names))
not_pushed t false ss names made up un = absurd cc
not_pushed t true ss names made up un = sym (append-nil made) ∙ ap (λ (ts : List Term). made ++ ts) (sym (only_seen t ss names false un))

pub pushed_one : (at : ℕ → Term) (k : ℕ) (holds : Bool) (ss : List Standing) (names : List Term) (made new : List ℕ) → holds ≡ true → chosen_by ss names (at k) ≡ true → new ≡ made ++ k ∷ []
    → map at new ≡ map at made ++ only_int (among (signed (at k) holds ∷ []) (with_unbound [] (indices_in ss) ++ names))
pushed_one at k false ss names made new up so put = absurd cc
pushed_one at k true ss names made new up so put = ap (map at) put ∙ map_joined made ∙ ap (λ (ts : List Term). map at made ++ ts) (sym (only_seen (at k) ss names true so))
  where
    map_joined : (ks : List ℕ) → map at (ks ++ k ∷ []) ≡ map at ks ++ at k ∷ []
    map_joined [] = refl
    map_joined (j ∷ js) = ap (λ (ts : List Term). at j ∷ ts) (map_joined js)

-- a denial is no Int term
pub denial_one : (t : Term) (holds : Bool) (made us : List Term) → holds ≡ false → made ≡ made ++ only_int (among (signed t holds ∷ []) us)
denial_one t true made us un = absurd cc
denial_one t false made us un = sym (append-nil made) ∙ ap (λ (ts : List Term). made ++ ts) (sym (only_one (Not t) us))

-- ---- all terms

drop_end : (xs : List (ℕ × Bool)) (i : ℕ) → length xs ≤ i → drop i xs ≡ []
drop_end [] zero le = refl
drop_end [] (suc i) le = refl
drop_end (x ∷ xs) zero le = absurd (omega (arith, le))
drop_end (x ∷ xs) (suc i) le = drop_end xs i (omega (arith, le))

pub index_step : (at : ℕ → Term) (us : List Term) (ps : List (ℕ × Bool)) (i : ℕ) (p : ℕ × Bool) (made new whole : List Term) → slice_get ps i ≡ Some p → new ≡ made ++ only_int (among (seen_formula at p ∷ []) us)
    → made ++ only_int (among (map (seen_formula at) (drop i ps)) us) ≡ whole → new ++ only_int (among (map (seen_formula at) (drop (i + 1) ps)) us) ≡ whole
index_step at us ps i p made new whole here put so =
    let next : i + 1 ≡ suc i = omega arith in
    let rest = map (seen_formula at) (drop (suc i) ps) in
    ap₂ (λ (ts : List Term) (j : ℕ). ts ++ only_int (among (map (seen_formula at) (drop j ps)) us)) put next
    ∙ append_assoc made (only_int (among (seen_formula at p ∷ []) us)) (only_int (among rest us))
    ∙ ap (λ (ts : List Term). made ++ ts) (sym (only_more (seen_formula at p) rest us))
    ∙ sym (ap (λ (qs : List (ℕ × Bool)). made ++ only_int (among (map (seen_formula at) qs) us)) (drop_next ps i p here))
    ∙ so

pub index_end : (at : ℕ → Term) (us : List Term) (ps : List (ℕ × Bool)) (i : ℕ) (made whole : List Term) → length ps ≤ i → made ++ only_int (among (map (seen_formula at) (drop i ps)) us) ≡ whole → made ≡ whole
index_end at us ps i made whole le so = sym (append-nil made) ∙ sym (ap (λ (qs : List (ℕ × Bool)). made ++ only_int (among (map (seen_formula at) qs) us)) (drop_end ps i le)) ∙ so

pub open_below : (m n : ℕ) (b : Bool) (ks js : List ℕ) → m ≤ n → AreBelow m ks → js ≡ open_of b ks → AreBelow n js
open_below m n true ks js le below is = below_taken n 2 ks js (below_up m n ks le below) is
open_below m n false ks js le below is = subst (AreBelow n) (sym is) (below_up m n ks le below)

-- ---- what may be an index

over_front : (test : ℕ → Bool) (m : ℕ) (ks : List ℕ) → any_over test (take m ks) ≡ true → any_over test ks ≡ true
over_front test zero ks e = absurd cc
over_front test (suc m) [] e = absurd cc
over_front test (suc m) (k ∷ ks) e = or_cases (test k) (any_over test (take m ks)) e (or_left (test k) (any_over test ks)) (λ f. or_true (test k) (any_over test ks) (over_front test m ks f))

over_open : (test : ℕ → Bool) (caught : Bool) (ks : List ℕ) → any_over test (open_of caught ks) ≡ true → any_over test ks ≡ true
over_open test true ks e = over_front test 2 ks e
over_open test false ks e = e

pub notes_one : (before after : ℕ → Bool) (i : ℕ) → ((t : ℕ) → after t ≡ cond (eqb i t) true (before t)) → Notes before after i
notes_one before after i puts = record { here = puts i ∙ ap (λ (b : Bool). cond b true (before i)) (eqb_self i); kept = λ t e. puts t ∙ by (eqb i t) (before t) e }
  where
    by : (b c : Bool) → c ≡ true → cond b true c ≡ true
    by true c e = refl
    by false c e = e

numbered : (at : ℕ → Term) (n t : ℕ) (o : Option ℕ) (after : ℕ → Bool) → ((i j : ℕ) → i < n → j < n → at i ≡ at j → i ≡ j) → t < n → IfSome o (λ i. i < n) → IfSome o (λ i. after i ≡ true) → is_numbered at o (at t) ≡ true → after t ≡ true
numbered at n t None after once lt within noted e = absurd cc
numbered at n t (Some i) after once lt within noted e = ap after (sym (once i t within lt (terms_are (at i) (at t) e))) ∙ noted

-- a term whose index is noted, and whose parts are to be looked at
pub note_one : (at : ℕ → Term) (n k : ℕ) (node : Node) (o : Option ℕ) (before after : ℕ → Bool) (ks old new : List ℕ) (ss : List Standing) → ((i j : ℕ) → i < n → j < n → at i ≡ at j → i ≡ j) → at k ≡ grown at (plain node)
    → ((t : Term) → is_index_of t (at k) ≡ is_numbered at o t) → IfSome o (λ i. i < n) → IfSome o (λ i. after i ≡ true) → ((t : ℕ) → before t ≡ true → after t ≡ true) → ks ≡ (plain node).parts
    → ((test : ℕ → Bool) → any_over test new ≡ (any_over test ks || any_over test old)) → WillBeNoted at n before (k ∷ old) ss → WillBeNoted at n after new ss
note_one at n k node o before after ks old new ss once is told within noted kept parts put will = record { each = each }
  where
    later : (t : ℕ) → any_over (indexes at (at t)) new ≡ true → (after t || any_over (indexes at (at t)) new) ≡ true
    later t e = or_true (after t) (any_over (indexes at (at t)) new) e

    here : (t : ℕ) → t < n → indexes at (at t) k ≡ true → (after t || any_over (indexes at (at t)) new) ≡ true
    here t lt e =
        let test = indexes at (at t) in
        let open_ones = open_of (catches (at t) (plain node).symbol) (plain node).parts in
        or_cases (is_index_of (at t) (at k)) (any_over test open_ones) (sym (indexes_by_parts at (at t) k node is) ∙ e)
        (λ f. or_left (after t) (any_over test new) (numbered at n t o after once lt within noted (sym (told (at t)) ∙ f)))
        (λ f. later t (put test ∙ or_left (any_over test ks) (any_over test old) (ap (any_over test) parts ∙ over_open test (catches (at t) (plain node).symbol) (plain node).parts f)))

    each : (t : ℕ) → t < n → indexes_in (at t) ss ≡ true → (after t || any_over (indexes at (at t)) new) ≡ true
    each t lt e =
        let test = indexes at (at t) in
        or_cases (before t) (test k || any_over test old) (will.each t lt e) (λ f. or_left (after t) (any_over test new) (kept t f))
        (λ f. or_cases (test k) (any_over test old) f (here t lt) (λ g. later t (put test ∙ or_true (any_over test ks) (any_over test old) g)))

pub none_noted : (at : ℕ → Term) (n : ℕ) (noted : ℕ → Bool) (todo : List ℕ) (ss : List Standing) → ((t : Term) → any_over (indexes at t) todo ≡ indexes_in t ss) → WillBeNoted at n noted todo ss
none_noted at n noted todo ss all = record { each = λ t lt e. or_true (noted t) (any_over (indexes at (at t)) todo) (all (at t) ∙ e) }

-- the greatest one is taken
pub last_taken : (at : ℕ → Term) (n k : ℕ) (noted : ℕ → Bool) (old new : List ℕ) (ss : List Standing) → old ≡ new ++ k ∷ [] → WillBeNoted at n noted old ss → WillBeNoted at n noted (k ∷ new) ss
last_taken at n k noted old new ss is will = record { each = λ t lt e. ap (λ (b : Bool). noted t || b) (sym (any_over-last (indexes at (at t)) old new k is)) ∙ will.each t lt e }

pub below_front : (n : ℕ) (old new : List ℕ) (k : ℕ) → old ≡ new ++ k ∷ [] → AreBelow n old → AreBelow n new
below_front n old new k is low = go new (subst (AreBelow n) is low)
  where
    go : (ks : List ℕ) → AreBelow n (ks ++ k ∷ []) → AreBelow n ks
    go [] all i d lt = absurd (omega (arith, lt))
    go (j ∷ js) all zero d lt = all 0 d (omega arith)
    go (j ∷ js) all (suc i) d lt = go js (λ m e l. all (suc m) e (omega (arith, l))) i d (omega (arith, lt))

pub none_left : (ks : List ℕ) → (0 < length ks → ⊥) → ks ≡ []
none_left [] few = refl
none_left (k ∷ ks) few = absurd (few (omega arith))

pub all_noted : (at : ℕ → Term) (n : ℕ) (noted : ℕ → Bool) (todo : List ℕ) (ss : List Standing) → todo ≡ [] → WillBeNoted at n noted todo ss → AreNoted at n noted ss
all_noted at n noted todo ss none will = record {
  each = λ t lt e. sym (or_none (noted t)) ∙ ap (λ (ks : List ℕ). noted t || any_over (indexes at (at t)) ks) (sym none) ∙ will.each t lt e;
}

-- a term that isn't noted is no index
pub un_noted : (at : ℕ → Term) (n t : ℕ) (noted : ℕ → Bool) (ss : List Standing) → t < n → noted t ≡ false → AreNoted at n noted ss → indexes_in (at t) ss ≡ false
un_noted at n t noted ss lt un are = by (indexes_in (at t) ss) refl
  where
    by : (b : Bool) → indexes_in (at t) ss ≡ b → b ≡ false
    by false e = refl
    by true e = let up : noted t ≡ true = are.each t lt e in absurd cc

pub not_chosen : (t : Term) (ss : List Standing) (names : List Term) → is_int t ≡ true → has_formula names t ≡ false → indexes_in t ss ≡ false → false ≡ chosen_by ss names t
not_chosen t ss names int un none =
    sym (ap (λ (b : Bool). cond b (cond (has_formula names t) true (indexes_in t ss)) false) int
    ∙ ap (λ (b : Bool). cond b true (indexes_in t ss)) un
    ∙ none)
