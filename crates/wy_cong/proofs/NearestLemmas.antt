-- The first of a list of atoms that one of these formulas forces, one formula after the other.
use Rattle.std.proofs.Common.{◌≡◌, ◌∙◌, ◌+◌, ◌≤◌, ◌<◌, ◌&&◌, ◌||◌, ◌⊎◌, ℕ, zero, suc, Bool, true, false, cond, eqb, List, [], ◌∷◌, map, drop, length, Option, Some, None, inl, inr, refl, sym, ap, arith, option_map}
use Rattle.std.specs.Prelude.{slice_get, IfSome}
use Rattle.wy_cong.proofs.DecidingLemmas.{literals_more}
use Rattle.wy_cong.proofs.FirstLemmas.{below_at, once_forced}
use Rattle.wy_cong.proofs.ListedLemmas.{at_place, before_place, without_place}
use Rattle.wy_cong.proofs.MoreLemmas.{still_no}
use Rattle.wy_cong.proofs.OnceLemmas.{plain_all}
use Rattle.wy_cong.proofs.UnmetLemmas.{by_verdict}
use Rattle.wy_cong.specs.Once.{first_by, once, undecided}
use Rattle.wy_cong.specs.Reached.{forces, is_forced_among, refuted_by, seen_unmet, AreEnough, IsNearer}
use Rattle.wy_cong.specs.Unmet.{with_one, ArePlain}
use Rattle.wy_cong.specs.declared.unmet.Reached.{Reached}
use Rattle.wy_items.specs.few.Places.{number_place}
use Rattle.wy_search_spec.specs.wy_check_spec.judge.Judgement.{judged, of_atom}
use Rattle.wy_search_spec.specs.wy_check_spec.judge.Node.{Literal, Node, with_literal}
use Rattle.wy_search_spec.specs.wy_check_spec.declared.judge.verdict.Verdict.{Verdict}
use Rattle.wy_check_splits.proofs.wy_check_nodes_proofs.NameLemmas.{NamesOnce}
use Rattle.wy_check_splits.specs.wy_check_nodes.Judged.{fails, is_connective}
use Rattle.wy_check_splits.specs.wy_check_nodes.Seen.{AreBelow}
use Rattle.wy_lemmas.proofs.Choices.{or_none}
use Rattle.wy_lemmas.proofs.Lists.{drop_here, drop_end}
use Rattle.wy_lemmas.proofs.Options.{some_is}
use Rattle.wy_search_spec.specs.Splitting.{atoms_of, decides, first_forced, is_forced, is_open}
use Rattle.wy_term.proofs.SameLemmas.{terms_are, terms_self}
use Rattle.wy_term.specs.Same.{same_term}
use Rattle.wy_term.specs.Term.{Term}
use Rattle.wy_search_spec.specs.wy_check_spec.valid.Literals.{any_no, is_no}

-- ---- one formula, with one literal more

pub refutes_is : (at : ℕ → Term) (node new : Node) (u : Reached) (holds : Bool) (v : Verdict) → is_open (of_atom node.literals (at u.by)) ≡ true → new ≡ with_literal node (record { atom = at u.by; holds = holds })
    → v ≡ judged new.literals (at u.formula) → fails v u.holds ≡ is_no (judged (with_one node.literals (at u.by) holds) (seen_unmet at u))
refutes_is at node new u holds v up put is =
    sym (by_verdict at new.literals (u.formula, u.holds) v is)
    ∙ ap (λ (ls : List Literal). is_no (judged ls (seen_unmet at u))) (literals_more node new (at u.by) holds up put)

abbrev no_with : (ℕ → Term) → Node → Reached → Bool → Bool
no_with at node u holds = is_no (judged (with_one node.literals (at u.by) holds) (seen_unmet at u))

-- ---- one formula, and others

among_next : (b x y r q : Bool) → cond b ((x || false) || (y || false)) false ≡ false → cond b ((x || r) || (y || q)) false ≡ cond b (r || q) false
among_next false x y r q h = refl
among_next true true y r q h = absurd (cc)
among_next true false true r q h = absurd (cc)
among_next true false false r q h = refl

pub forced_next : (at : ℕ → Term) (node : Node) (u : Reached) (us : List Reached) (a : Term) → is_forced_among at node (u ∷ []) a ≡ false → is_forced_among at node (u ∷ us) a ≡ is_forced_among at node us a
forced_next at node u us a un_so =
    among_next (undecided node a) (same_term (at u.by) a && is_no (judged (with_one node.literals a true) (seen_unmet at u))) (same_term (at u.by) a && is_no (judged (with_one node.literals a false) (seen_unmet at u)))
    (refuted_by at node.literals us a true) (refuted_by at node.literals us a false) un_so

among_on : (b x y r q : Bool) → cond b ((x || false) || (y || false)) false ≡ true → cond b ((x || r) || (y || q)) false ≡ true
among_on false x y r q h = absurd (cc)
among_on true true y r q h = refl
among_on true false true true q h = refl
among_on true false true false q h = refl
among_on true false false r q h = absurd (cc)

pub forced_on : (at : ℕ → Term) (node : Node) (u : Reached) (us : List Reached) (a : Term) → is_forced_among at node (u ∷ []) a ≡ true → is_forced_among at node (u ∷ us) a ≡ true
forced_on at node u us a up =
    among_on (undecided node a) (same_term (at u.by) a && is_no (judged (with_one node.literals a true) (seen_unmet at u))) (same_term (at u.by) a && is_no (judged (with_one node.literals a false) (seen_unmet at u)))
    (refuted_by at node.literals us a true) (refuted_by at node.literals us a false) up

-- the atom that stands beside it
own_forced : (at : ℕ → Term) (node : Node) (u : Reached) → is_forced_among at node (u ∷ []) (at u.by) ≡ forces at node u
own_forced at node u =
    let b : Bool = undecided node (at u.by) in
    let x : Bool = no_with at node u true in
    let y : Bool = no_with at node u false in
    ap (λ (s : Bool). cond b (((s && x) || false) || ((s && y) || false)) false) (terms_self (at u.by))
    ∙ ap (λ (z : Bool). cond b (z || (y || false)) false) (or_none x)
    ∙ ap (λ (z : Bool). cond b (x || z) false) (or_none y)

none_of : (b : Bool) → cond b false false ≡ false
none_of true = refl
none_of false = refl

-- another atom
other_unforced : (at : ℕ → Term) (node : Node) (u : Reached) (a : Term) → same_term (at u.by) a ≡ false → is_forced_among at node (u ∷ []) a ≡ false
other_unforced at node u a apart =
    ap (λ (s : Bool). cond (undecided node a) (((s && is_no (judged (with_one node.literals a true) (seen_unmet at u))) || false) || ((s && is_no (judged (with_one node.literals a false) (seen_unmet at u))) || false)) false) apart
    ∙ none_of (undecided node a)

-- any, where its own isn't forced
all_unforced : (at : ℕ → Term) (node : Node) (u : Reached) (a : Term) → forces at node u ≡ false → is_forced_among at node (u ∷ []) a ≡ false
all_unforced at node u a un_so = by (same_term (at u.by) a) refl
  where
    by : (b : Bool) → same_term (at u.by) a ≡ b → is_forced_among at node (u ∷ []) a ≡ false
    by false e = other_unforced at node u a e
    by true e = ap (is_forced_among at node (u ∷ [])) (sym (terms_are (at u.by) a e)) ∙ own_forced at node u ∙ un_so

-- ---- places of numbers

get_within : {A : Type 0} (xs : List A) (m : ℕ) (x : A) → slice_get xs m ≡ Some x → m < length xs
get_within [] m x here = absurd (cc)
get_within (y ∷ ys) zero x here = omega arith
get_within (y ∷ ys) (suc m) x here = let lt : m < length ys = get_within ys m x here in omega (arith, lt)

-- ---- nearer places

module _ (at : ℕ → Term) (n : ℕ) (one : NamesOnce at n) (node : Node) (u : Reached) (within : u.by < n) (ks : List ℕ) (below : AreBelow n ks) where
  apart_at : (m k : ℕ) → slice_get ks m ≡ Some k → eqb k u.by ≡ false → is_forced_among at node (u ∷ []) (at k) ≡ false
  apart_at m k here un_so = other_unforced at node u (at k) (sym (one u.by k within (below_at n ks m k below here)) ∙ un_so)

  pub nearer_nowhere : (i : ℕ) → number_place ks u.by 0 ≡ None → IsNearer at node ks u i i
  nearer_nowhere i is = record {
    within = omega arith;
    before = λ m k lt here. apart_at m k here (without_place ks u.by 0 m k is here);
    here = inl refl;
  }

  pub nearer_later : (i j : ℕ) → number_place ks u.by 0 ≡ Some j → i ≤ j → IsNearer at node ks u i i
  nearer_later i j is le = record {
    within = omega arith;
    before = λ m k lt here. let l : m + 0 < j = omega (arith, le, lt) in apart_at m k here (before_place ks u.by 0 j m k is l here);
    here = inl refl;
  }

  pub nearer_now : (i j : ℕ) → number_place ks u.by 0 ≡ Some j → j < i → forces at node u ≡ true → IsNearer at node ks u i j
  nearer_now i j is lt up = record {
    within = omega (arith, lt);
    before = λ m k l here. let g : m + 0 < j = omega (arith, l) in apart_at m k here (before_place ks u.by 0 j m k is g here);
    here = inr (
      lt,
      λ k here.
          let there : j ≡ j + 0 = omega arith in
          let e : k ≡ u.by = at_place ks u.by 0 j j k is there here in
          ap (λ (m : ℕ). is_forced_among at node (u ∷ []) (at m)) e ∙ own_forced at node u ∙ up,
    );
  }

  pub nearer_not : (i : ℕ) → forces at node u ≡ false → IsNearer at node ks u i i
  nearer_not i un_so = record {
    within = omega arith;
    before = λ m k lt here. all_unforced at node u (at k) un_so;
    here = inl refl;
  }

-- ---- the first that is forced

-- as if all pending formulas were looked at
pub among_all : (at : ℕ → Term) (node : Node) (us : List Reached) (a : Term) → AreEnough at node us → is_connective a ≡ false → is_forced_among at node us a ≡ is_forced node a
among_all at node us a enough plain = by (undecided node a) refl
  where
    by : (b : Bool) → undecided node a ≡ b → cond b (refuted_by at node.literals us a true || refuted_by at node.literals us a false) false ≡ cond b (decides node a true || decides node a false) false
    by true e =
        ap (λ (x : Bool). x || refuted_by at node.literals us a false) (enough a true (plain, e))
        ∙ ap (λ (x : Bool). decides node a true || x) (enough a false (plain, e))
    by false e = refl

plain_at : (at : ℕ → Term) (ks : List ℕ) (i k : ℕ) → ArePlain (map at ks) → slice_get ks i ≡ Some k → is_connective (at k) ≡ false
plain_at at [] i k plain here = absurd (cc)
plain_at at (j ∷ js) zero k plain here = ap (λ (m : ℕ). is_connective (at m)) (sym (some_is j k here)) ∙ plain.0
plain_at at (j ∷ js) (suc i) k plain here = plain_at at js i k plain.1 here

-- no atom before this place is forced by what was looked at, and that at this place is
pub record SoFar (at : ℕ → Term) (node : Node) (ks : List ℕ) (rest : List Reached) (i : ℕ) : Type 0 where
  pub before : (m k : ℕ) → m < i → slice_get ks m ≡ Some k → is_forced_among at node rest (at k) ≡ is_forced node (at k)
  pub here : (k : ℕ) → slice_get ks i ≡ Some k → is_forced node (at k) ≡ true

pub nearest_begin : (at : ℕ → Term) (node : Node) (ks : List ℕ) (us : List Reached) (i : ℕ) → ArePlain (map at ks) → AreEnough at node us → i ≡ length ks → SoFar at node ks us i
nearest_begin at node ks us i plain enough is = record {
  before = λ m k lt here. among_all at node us (at k) enough (plain_at at ks m k plain here);
  here = λ k here. let lt = get_within ks i k here in absurd (omega (arith, lt, is));
}

pub nearest_next : (at : ℕ → Term) (node : Node) (ks : List ℕ) (us : List Reached) (l : ℕ) (u : Reached) (i j : ℕ) → slice_get us l ≡ Some u → IsNearer at node ks u i j → SoFar at node ks (drop l us) i → SoFar at node ks (drop (l + 1) us) j
nearest_next at node ks us l u i j this near so = record {
  before = λ m k lt here.
      let le = near.within in
      sym (forced_next at node u (drop (l + 1) us) (at k) (near.before m k lt here))
      ∙ sym (ap (λ (vs : List Reached). is_forced_among at node vs (at k)) (drop_here us l u this))
      ∙ so.before m k (omega (arith, lt, le)) here;
  here = by near.here;
}
  where
    by : (j ≡ i) ⊎ ((j < i) × ((k : ℕ) → slice_get ks j ≡ Some k → is_forced_among at node (u ∷ []) (at k) ≡ true)) → (k : ℕ) → slice_get ks j ≡ Some k → is_forced node (at k) ≡ true
    by (inl e) k here = so.here k (ap (slice_get ks) (sym e) ∙ here)
    by (inr h) k here =
        sym (so.before j k h.0 here)
        ∙ ap (λ (vs : List Reached). is_forced_among at node vs (at k)) (drop_here us l u this)
        ∙ forced_on at node u (drop (l + 1) us) (at k) (h.1 k here)

first_at : (test : Term → Bool) (at : ℕ → Term) (ks : List ℕ) (i : ℕ) → ((m k : ℕ) → m < i → slice_get ks m ≡ Some k → test (at k) ≡ false) → ((k : ℕ) → slice_get ks i ≡ Some k → test (at k) ≡ true)
    → option_map at (slice_get ks i) ≡ first_by test (map at ks)
first_at test at [] zero before here = refl
first_at test at [] (suc i) before here = refl
first_at test at (x ∷ xs) zero before here = sym (ap (λ (b : Bool). cond b (Some (at x)) (first_by test (map at xs))) (here x refl))
first_at test at (x ∷ xs) (suc i) before here =
    first_at test at xs i (λ m k lt e. before (suc m) k (omega (arith, lt)) e) here
    ∙ sym (ap (λ (b : Bool). cond b (Some (at x)) (first_by test (map at xs))) (before 0 x (omega arith) refl))

pub nearest_end : (at : ℕ → Term) (node : Node) (ks : List ℕ) (us : List Reached) (l i : ℕ) → length us ≤ l → SoFar at node ks (drop l us) i → option_map at (slice_get ks i) ≡ first_by (is_forced node) (map at ks)
nearest_end at node ks us l i le so =
    first_at (is_forced node) at ks i
    (λ m k lt here. sym (so.before m k lt here) ∙ ap (λ (vs : List Reached). is_forced_among at node vs (at k)) (drop_end us l le) ∙ none_of (undecided node (at k)))
    so.here

pub below_found : (n : ℕ) (ks : List ℕ) (i : ℕ) (o : Option ℕ) → AreBelow n ks → o ≡ slice_get ks i → IfSome o (λ a. a < n)
below_found n ks i None below is = tt
below_found n ks i (Some a) below is = below_at n ks i a below (sym is)

-- ---- where nothing is left

none_listed : (at : ℕ → Term) (node : Node) (atoms : List Term) → ArePlain atoms → AreEnough at node [] → None ≡ first_by (is_forced node) atoms
none_listed at node [] plain enough = refl
none_listed at node (a ∷ atoms) plain enough =
    none_listed at node atoms plain.1 enough
    ∙ sym (ap (λ (x : Bool). cond x (Some a) (first_by (is_forced node) atoms)) (sym (among_all at node [] a enough plain.0) ∙ none_of (undecided node a)))

pub none_forced : (at : ℕ → Term) (node : Node) (left : List Reached) → AreEnough at node left → length left ≡ 0 → None ≡ first_by (is_forced node) (atoms_of node.pending)
none_forced at node (u ∷ us) enough none = absurd (omega (arith, none))
none_forced at node [] enough none = none_listed at node (atoms_of node.pending) (plain_all node.pending) enough

-- ---- where a pending formula is judged no

first_same : (f g : Term → Bool) → ((t : Term) → f t ≡ g t) → (ts : List Term) → first_by f ts ≡ first_by g ts
first_same f g same [] = refl
first_same f g same (t ∷ ts) = ap (λ (b : Bool). cond b (Some t) (first_by f ts)) (same t) ∙ ap (λ (o : Option Term). cond (g t) (Some t) o) (first_same f g same ts)

all_forced : (node : Node) (a : Term) → any_no node.literals node.pending ≡ true → undecided node a ≡ is_forced node a
all_forced node a has = by (undecided node a) refl
  where
    by : (b : Bool) → undecided node a ≡ b → b ≡ cond b (decides node a true || decides node a false) false
    by true e = sym (ap (λ (x : Bool). x || decides node a false) (still_no node.literals a true node.pending e has))
    by false e = refl

pub forced_by_all : (node : Node) (atoms : List Term) → any_no node.literals node.pending ≡ true → first_by (undecided node) (once [] atoms) ≡ first_forced node atoms
forced_by_all node atoms has = first_same (undecided node) (is_forced node) (λ a. all_forced node a has) (once [] atoms) ∙ once_forced node atoms
