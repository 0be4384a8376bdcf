-- What is so of each node that has at least as much as another one.
use Rattle.std.proofs.Common.{◌≡◌, ◌⊎◌, ℕ, zero, suc, ◌-◌, List, [], ◌∷◌, ◌++◌, Bool, true, false, cond, not, ◌&&◌, ◌||◌, Some, None, inl, inr, refl, sym, ap, ◌∙◌, subst, arith}
use Rattle.std.proofs.Math.Dec.{eqb-suc-zero}
use Rattle.std.specs.Prelude.{slice_get}
use Rattle.std.specs.Bool.{beq}
use Rattle.wy_lemmas.proofs.Choices.{both_parts as both, bits_are}
use Rattle.wy_search_bounds.proofs.wy_check_laws_proofs.sound_lemmas.StepLemmas.{no_is}
use Rattle.wy_search_bounds.specs.wy_term.Term as term
use Rattle.wy_search_bounds.specs.wy_term.Term.{Term, Of, Parts, no_parts, part}
use Rattle.wy_search_bounds.specs.wy_term.Same.{same_term}
use Rattle.wy_search_bounds.proofs.wy_term_proofs.SameLemmas.{terms_are, terms_self}
use Rattle.wy_search_bounds.specs.wy_check_spec.declared.judge.verdict.Verdict.{Verdict}
use Rattle.wy_search_bounds.specs.wy_check_spec.declared.judge.verdict.Verdict.TheVariants.{Yes, No, Open}
use Rattle.wy_search_bounds.specs.wy_check_spec.judge.Node.{Literal, Node, same_literal, has_literal, has_formula, with_literal, with_pending, added, denied_one, with_formulas}
use Rattle.wy_search_bounds.specs.wy_check_spec.judge.Judgement.{turned, both as both_of, either, of_atom, judged, judged_all, judged_any}
use Rattle.wy_search_bounds.specs.wy_check_spec.valid.Literals.{literal_at, stands_both_ways, is_no, any_no, is_shut}
use Rattle.wy_search_laws.specs.closing.AtLeast.{IsAtLeast, ShutsMore}
use Rattle.wy_search_laws.proofs.closing_lemmas.RelatedLemmas.{added_related, denied_related, formulas_related}

-- ---- lists of literals and of formulas

abbrev made : Term → Bool → Literal
made a b = record { atom = a; holds = b }

pub literal_is : (k l : Literal) → same_literal k l ≡ true → k ≡ l
literal_is k l e =
    let h = both (same_term k.atom l.atom) (beq k.holds l.holds) e in
    let first : k ≡ made l.atom k.holds = ap (λ (t : Term). made t k.holds) (terms_are k.atom l.atom h.0) in
    let second : made l.atom k.holds ≡ l = ap (λ (b : Bool). made l.atom b) (bits_are k.holds l.holds h.1) in
    first ∙ second

pub literal_self : (l : Literal) → same_literal l l ≡ true
literal_self l = ap (λ (b : Bool). b && beq l.holds l.holds) (terms_self l.atom) ∙ bits l.holds
  where
    bits : (b : Bool) → beq b b ≡ true
    bits true = refl
    bits false = refl

pub has_before : (ls : List Literal) (k l : Literal) → has_literal ls l ≡ true → has_literal (ls ++ k ∷ []) l ≡ true
has_before [] k l e = absurd cc
has_before (m ∷ ms) k l e = by (same_literal m l) e (λ h. has_before ms k l h)
  where
    by : (b : Bool) → cond b true (has_literal ms l) ≡ true → (has_literal ms l ≡ true → has_literal (ms ++ k ∷ []) l ≡ true) → cond b true (has_literal (ms ++ k ∷ []) l) ≡ true
    by true h rest = refl
    by false h rest = rest h

pub has_last : (ls : List Literal) (l : Literal) → has_literal (ls ++ l ∷ []) l ≡ true
has_last [] l = ap (λ (b : Bool). cond b true false) (literal_self l)
has_last (m ∷ ms) l = by (same_literal m l) (has_last ms l)
  where
    by : (b : Bool) → has_literal (ms ++ l ∷ []) l ≡ true → cond b true (has_literal (ms ++ l ∷ []) l) ≡ true
    by true h = refl
    by false h = h

-- a literal of the longer list is the last one, or one of those before
pub has_cases : (ls : List Literal) (k l : Literal) → has_literal (ls ++ k ∷ []) l ≡ true → (has_literal ls l ≡ true) ⊎ (k ≡ l)
has_cases [] k l e = by (same_literal k l) refl e
  where
    by : (b : Bool) → same_literal k l ≡ b → cond b true false ≡ true → (has_literal [] l ≡ true) ⊎ (k ≡ l)
    by true f h = inr (literal_is k l f)
    by false f h = absurd cc
has_cases (m ∷ ms) k l e = by (same_literal m l) e (λ f. has_cases ms k l f)
  where
    by : (b : Bool) → cond b true (has_literal (ms ++ k ∷ []) l) ≡ true → (has_literal (ms ++ k ∷ []) l ≡ true → (has_literal ms l ≡ true) ⊎ (k ≡ l)) → (cond b true (has_literal ms l) ≡ true) ⊎ (k ≡ l)
    by true h rest = inl refl
    by false h rest = rest h

pub formula_before : (fs : List Term) (g f : Term) → has_formula fs f ≡ true → has_formula (fs ++ g ∷ []) f ≡ true
formula_before [] g f e = absurd cc
formula_before (h ∷ hs) g f e = by (same_term h f) e (λ k. formula_before hs g f k)
  where
    by : (b : Bool) → cond b true (has_formula hs f) ≡ true → (has_formula hs f ≡ true → has_formula (hs ++ g ∷ []) f ≡ true) → cond b true (has_formula (hs ++ g ∷ []) f) ≡ true
    by true k rest = refl
    by false k rest = rest k

pub formula_last : (fs : List Term) (f : Term) → has_formula (fs ++ f ∷ []) f ≡ true
formula_last [] f = ap (λ (b : Bool). cond b true false) (terms_self f)
formula_last (h ∷ hs) f = by (same_term h f) (formula_last hs f)
  where
    by : (b : Bool) → has_formula (hs ++ f ∷ []) f ≡ true → cond b true (has_formula (hs ++ f ∷ []) f) ≡ true
    by true k = refl
    by false k = k

pub formula_cases : (fs : List Term) (g f : Term) → has_formula (fs ++ g ∷ []) f ≡ true → (has_formula fs f ≡ true) ⊎ (g ≡ f)
formula_cases [] g f e = by (same_term g f) refl e
  where
    by : (b : Bool) → same_term g f ≡ b → cond b true false ≡ true → (has_formula [] f ≡ true) ⊎ (g ≡ f)
    by true h k = inr (terms_are g f h)
    by false h k = absurd cc
formula_cases (h ∷ hs) g f e = by (same_term h f) e (λ k. formula_cases hs g f k)
  where
    by : (b : Bool) → cond b true (has_formula (hs ++ g ∷ []) f) ≡ true → (has_formula (hs ++ g ∷ []) f ≡ true → (has_formula hs f ≡ true) ⊎ (g ≡ f)) → (cond b true (has_formula hs f) ≡ true) ⊎ (g ≡ f)
    by true k rest = inl refl
    by false k rest = rest k

-- ---- one literal or one pending formula more

-- the literals of a node with one more
pub with_literal_has : (node : Node) (k : Literal) → has_literal (with_literal node k).literals k ≡ true
with_literal_has node k = by (has_literal node.literals k) refl
  where
    by : (b : Bool) → has_literal node.literals k ≡ b → has_literal (cond b node (record { literals = node.literals ++ k ∷ []; pending = node.pending })).literals k ≡ true
    by true e = e
    by false e = has_last node.literals k

pub with_literal_keeps : (node : Node) (k l : Literal) → has_literal node.literals l ≡ true → has_literal (with_literal node k).literals l ≡ true
with_literal_keeps node k l e = by (has_literal node.literals k)
  where
    by : (b : Bool) → has_literal (cond b node (record { literals = node.literals ++ k ∷ []; pending = node.pending })).literals l ≡ true
    by true = e
    by false = has_before node.literals k l e

with_literal_cases : (node : Node) (k l : Literal) → has_literal (with_literal node k).literals l ≡ true → (has_literal node.literals l ≡ true) ⊎ (k ≡ l)
with_literal_cases node k l e = by (has_literal node.literals k) e
  where
    by : (b : Bool) → has_literal (cond b node (record { literals = node.literals ++ k ∷ []; pending = node.pending })).literals l ≡ true → (has_literal node.literals l ≡ true) ⊎ (k ≡ l)
    by true f = inl f
    by false f = has_cases node.literals k l f

same_pending : (node : Node) (k : Literal) → (with_literal node k).pending ≡ node.pending
same_pending node k = by (has_literal node.literals k)
  where
    by : (b : Bool) → (cond b node (record { literals = node.literals ++ k ∷ []; pending = node.pending })).pending ≡ node.pending
    by true = refl
    by false = refl

pub with_pending_has : (node : Node) (g : Term) → has_formula (with_pending node g).pending g ≡ true
with_pending_has node g = by (has_formula node.pending g) refl
  where
    by : (b : Bool) → has_formula node.pending g ≡ b → has_formula (cond b node (record { literals = node.literals; pending = node.pending ++ g ∷ [] })).pending g ≡ true
    by true e = e
    by false e = formula_last node.pending g

pub with_pending_keeps : (node : Node) (g f : Term) → has_formula node.pending f ≡ true → has_formula (with_pending node g).pending f ≡ true
with_pending_keeps node g f e = by (has_formula node.pending g)
  where
    by : (b : Bool) → has_formula (cond b node (record { literals = node.literals; pending = node.pending ++ g ∷ [] })).pending f ≡ true
    by true = e
    by false = formula_before node.pending g f e

with_pending_cases : (node : Node) (g f : Term) → has_formula (with_pending node g).pending f ≡ true → (has_formula node.pending f ≡ true) ⊎ (g ≡ f)
with_pending_cases node g f e = by (has_formula node.pending g) e
  where
    by : (b : Bool) → has_formula (cond b node (record { literals = node.literals; pending = node.pending ++ g ∷ [] })).pending f ≡ true → (has_formula node.pending f ≡ true) ⊎ (g ≡ f)
    by true h = inl h
    by false h = formula_cases node.pending g f h

same_literals : (node : Node) (g : Term) → (with_pending node g).literals ≡ node.literals
same_literals node g = by (has_formula node.pending g)
  where
    by : (b : Bool) → (cond b node (record { literals = node.literals; pending = node.pending ++ g ∷ [] })).literals ≡ node.literals
    by true = refl
    by false = refl

-- ---- nodes with at least as much

pub at_least_self : (node : Node) → IsAtLeast node node
at_least_self node = record { literals = λ l e. e; pending = λ f e. e }

pub at_least_on : (a b c : Node) → IsAtLeast a b → IsAtLeast b c → IsAtLeast a c
at_least_on a b c h g = record { literals = λ l e. g.literals l (h.literals l e); pending = λ f e. g.pending f (h.pending f e) }

-- both get one more
literal_at_least : (a b : Node) (k : Literal) → IsAtLeast a b → IsAtLeast (with_literal a k) (with_literal b k)
literal_at_least a b k h = record {
  literals = λ l e. there l (with_literal_cases a k l e);
  pending = λ f e. subst (λ (fs : List Term). has_formula fs f ≡ true) (sym (same_pending b k)) (h.pending f (subst (λ (fs : List Term). has_formula fs f ≡ true) (same_pending a k) e));
}
  where
    there : (l : Literal) → (has_literal a.literals l ≡ true) ⊎ (k ≡ l) → has_literal (with_literal b k).literals l ≡ true
    there l (inl e) = with_literal_keeps b k l (h.literals l e)
    there l (inr is) = subst (λ (m : Literal). has_literal (with_literal b k).literals m ≡ true) is (with_literal_has b k)

pending_at_least : (a b : Node) (g : Term) → IsAtLeast a b → IsAtLeast (with_pending a g) (with_pending b g)
pending_at_least a b g h = record {
  literals = λ l e. subst (λ (ls : List Literal). has_literal ls l ≡ true) (sym (same_literals b g)) (h.literals l (subst (λ (ls : List Literal). has_literal ls l ≡ true) (same_literals a g) e));
  pending = λ f e. there f (with_pending_cases a g f e);
}
  where
    there : (f : Term) → (has_formula a.pending f ≡ true) ⊎ (g ≡ f) → has_formula (with_pending b g).pending f ≡ true
    there f (inl e) = with_pending_keeps b g f (h.pending f e)
    there f (inr is) = subst (λ (t : Term). has_formula (with_pending b g).pending t ≡ true) is (with_pending_has b g)

pub at_least_added : (less more : Node) (f : Term) → IsAtLeast less more → IsAtLeast (added less f) (added more f)
at_least_added less more f h = added_related IsAtLeast literal_at_least pending_at_least less more f h

pub at_least_denied : (less more : Node) (f : Term) → IsAtLeast less more → IsAtLeast (denied_one less f) (denied_one more f)
at_least_denied less more f h = denied_related IsAtLeast literal_at_least pending_at_least less more f h

pub at_least_formulas : (less more : Node) (fs : List Term) → IsAtLeast less more → IsAtLeast (with_formulas less fs) (with_formulas more fs)
at_least_formulas less more fs h = formulas_related IsAtLeast literal_at_least pending_at_least less more fs h

-- the other alone gets one more
abbrev IsBelow : Node → Node → Node → Type 0
IsBelow less a b = IsAtLeast less b

literal_below : (less a b : Node) (k : Literal) → IsAtLeast less b → IsAtLeast less (with_literal b k)
literal_below less a b k h = record {
  literals = λ l e. with_literal_keeps b k l (h.literals l e);
  pending = λ f e. subst (λ (fs : List Term). has_formula fs f ≡ true) (sym (same_pending b k)) (h.pending f e);
}

pending_below : (less a b : Node) (g : Term) → IsAtLeast less b → IsAtLeast less (with_pending b g)
pending_below less a b g h = record {
  literals = λ l e. subst (λ (ls : List Literal). has_literal ls l ≡ true) (sym (same_literals b g)) (h.literals l e);
  pending = λ f e. with_pending_keeps b g f (h.pending f e);
}

pub more_added : (less more : Node) (f : Term) → IsAtLeast less more → IsAtLeast less (added more f)
more_added less more f h = added_related (IsBelow less) (literal_below less) (pending_below less) more more f h

pub more_formulas : (less more : Node) (fs : List Term) → IsAtLeast less more → IsAtLeast less (with_formulas more fs)
more_formulas less more fs h = formulas_related (IsBelow less) (literal_below less) (pending_below less) more more fs h

-- ---- literals by their numbers

pub record StandsAt (ls : List Literal) (l : Literal) : Type 0 where
  pub number : ℕ
  pub is : literal_at ls number ≡ Some l

nth_there : (ls : List Literal) (l : Literal) → has_literal ls l ≡ true → (k : ℕ) × (slice_get ls k ≡ Some l)
nth_there [] l e = absurd cc
nth_there (m ∷ ms) l e = by (same_literal m l) refl e (λ h. nth_there ms l h)
  where
    by : (b : Bool) → same_literal m l ≡ b → cond b true (has_literal ms l) ≡ true → (has_literal ms l ≡ true → (k : ℕ) × (slice_get ms k ≡ Some l)) → (k : ℕ) × (slice_get (m ∷ ms) k ≡ Some l)
    by true f h rest = (zero, ap (λ (x : Literal). Some x) (literal_is m l f))
    by false f h rest = let r = rest h in (suc r.0, r.1)

-- a literal that is there has a number
pub stands_at : (ls : List Literal) (l : Literal) → has_literal ls l ≡ true → StandsAt ls l
stands_at ls l e =
    let h = nth_there ls l e in
    let back : suc h.0 - 1 ≡ h.0 = omega arith in
    record { number = suc h.0; is = ap (λ (b : Bool). cond b None (slice_get ls (suc h.0 - 1))) (eqb-suc-zero h.0) ∙ (ap (slice_get ls) back ∙ h.1) }

-- ---- what the literals say

-- its denial is one of these
abbrev is_against : List Literal → Literal → Bool
is_against all k = has_literal all (record { atom = k.atom; holds = not k.holds })

both_ways_there : (all ls : List Literal) (l : Literal) → has_literal ls l ≡ true → has_literal all (record { atom = l.atom; holds = not l.holds }) ≡ true → stands_both_ways all ls ≡ true
both_ways_there all [] l e f = absurd cc
both_ways_there all (m ∷ ms) l e f = by (same_literal m l) refl e (λ h. both_ways_there all ms l h f)
  where
    right : (b : Bool) → stands_both_ways all ms ≡ true → (b || stands_both_ways all ms) ≡ true
    right true h = refl
    right false h = h

    by : (b : Bool) → same_literal m l ≡ b → cond b true (has_literal ms l) ≡ true → (has_literal ms l ≡ true → stands_both_ways all ms ≡ true) → (is_against all m || stands_both_ways all ms) ≡ true
    by true g h rest = ap (λ (b : Bool). b || stands_both_ways all ms) (ap (is_against all) (literal_is m l g) ∙ f)
    by false g h rest = right (is_against all m) (rest h)

-- an atom stands both ways
pub both_ways_shut : (node : Node) (a : Term) → has_literal node.literals (record { atom = a; holds = true }) ≡ true → has_literal node.literals (record { atom = a; holds = false }) ≡ true → is_shut node ≡ true
both_ways_shut node a e f = ap (λ (b : Bool). b || any_no node.literals node.pending) (both_ways_there node.literals node.literals (record { atom = a; holds = true }) e f)

-- some literal stands both ways
record StandsBoth (all ls : List Literal) : Type 0 where
  literal : Literal
  there : has_literal ls literal ≡ true
  against : has_literal all (record { atom = literal.atom; holds = not literal.holds }) ≡ true

both_ways_is : (all ls : List Literal) → stands_both_ways all ls ≡ true → StandsBoth all ls
both_ways_is all [] e = absurd cc
both_ways_is all (m ∷ ms) e = by (has_literal all (record { atom = m.atom; holds = not m.holds })) refl e (λ h. both_ways_is all ms h)
  where
    right : (b : Bool) (l : Literal) → has_literal ms l ≡ true → cond b true (has_literal ms l) ≡ true
    right true l h = refl
    right false l h = h

    by : (b : Bool) → has_literal all (record { atom = m.atom; holds = not m.holds }) ≡ b → (b || stands_both_ways all ms) ≡ true → (stands_both_ways all ms ≡ true → StandsBoth all ms) → StandsBoth all (m ∷ ms)
    by true f h rest = record { literal = m; there = ap (λ (b : Bool). cond b true (has_literal ms m)) (literal_self m); against = f }
    by false f h rest =
        let r = rest h in
        record { literal = r.literal; there = right (same_literal m r.literal) r.literal r.there; against = r.against }

both_ways_more : (less more : Node) → IsAtLeast less more → stands_both_ways less.literals less.literals ≡ true → stands_both_ways more.literals more.literals ≡ true
both_ways_more less more h e =
    let b = both_ways_is less.literals less.literals e in
    both_ways_there more.literals more.literals b.literal (h.literals b.literal b.there) (h.literals (record { atom = b.literal.atom; holds = not b.literal.holds }) b.against)

-- ---- what more literals say, of which none stands both ways

-- what is decided stays so
abbrev pub StaysDecided : Verdict → Verdict → Type 0
StaysDecided Yes w = w ≡ Yes
StaysDecided No w = w ≡ No
StaysDecided Open w = Unit {0}

turned_stays : (v w : Verdict) → StaysDecided v w → StaysDecided (turned v) (turned w)
turned_stays Yes w e = ap turned e
turned_stays No w e = ap turned e
turned_stays Open w e = tt

both_stays : (v w x y : Verdict) → StaysDecided v x → StaysDecided w y → StaysDecided (both_of v w) (both_of x y)
both_stays Yes Yes x y e f = ap (λ (z : Verdict). both_of z y) e ∙ f
both_stays Yes No x y e f = ap (λ (z : Verdict). both_of z y) e ∙ f
both_stays Yes Open x y e f = tt
both_stays No w x y e f = ap (λ (z : Verdict). both_of z y) e
both_stays Open Yes x y e f = tt
both_stays Open No x y e f = by x f
  where
    by : (z : Verdict) → y ≡ No → both_of z y ≡ No
    by Yes g = g
    by No g = refl
    by Open g = ap (λ (u : Verdict). both_of Open u) g
both_stays Open Open x y e f = tt

either_stays : (v w x y : Verdict) → StaysDecided v x → StaysDecided w y → StaysDecided (either v w) (either x y)
either_stays No Yes x y e f = ap (λ (z : Verdict). either z y) e ∙ f
either_stays No No x y e f = ap (λ (z : Verdict). either z y) e ∙ f
either_stays No Open x y e f = tt
either_stays Yes w x y e f = ap (λ (z : Verdict). either z y) e
either_stays Open No x y e f = tt
either_stays Open Yes x y e f = by x f
  where
    by : (z : Verdict) → y ≡ Yes → either z y ≡ Yes
    by Yes g = refl
    by No g = g
    by Open g = ap (λ (u : Verdict). either Open u) g
either_stays Open Open x y e f = tt

-- no atom stands both ways
abbrev pub IsOneWay : List Literal → Type 0
IsOneWay ls = (a : Term) → has_literal ls (record { atom = a; holds = false }) ≡ true → has_literal ls (record { atom = a; holds = true }) ≡ false

abbrev pub AreAmong : List Literal → List Literal → Type 0
AreAmong ls more = (l : Literal) → has_literal ls l ≡ true → has_literal more l ≡ true

atom_stays : (ls more : List Literal) → IsOneWay more → AreAmong ls more → (a : Term) → StaysDecided (of_atom ls a) (of_atom more a)
atom_stays ls more one_way among a = by (has_literal ls (record { atom = a; holds = true })) (has_literal ls (record { atom = a; holds = false })) refl refl
  where
    by : (b c : Bool) → has_literal ls (record { atom = a; holds = true }) ≡ b → has_literal ls (record { atom = a; holds = false }) ≡ c → StaysDecided (cond b Yes (cond c No Open)) (of_atom more a)
    by true c e f = ap (λ (x : Bool). cond x Yes (cond (has_literal more (record { atom = a; holds = false })) No Open)) (among (record { atom = a; holds = true }) e)
    by false true e f =
        let there = among (record { atom = a; holds = false }) f in
        ap (λ (x : Bool). cond x Yes (cond (has_literal more (record { atom = a; holds = false })) No Open)) (one_way a there) ∙ ap (λ (x : Bool). cond x No Open) there
    by false false e f = tt

module _ (ls more : List Literal) (one_way : IsOneWay more) (among : AreAmong ls more) where
  mutual
    pub judged_stays : (f : Term) → StaysDecided (judged ls f) (judged more f)
    judged_stays (Of term.denied (part f no_parts)) = turned_stays (judged ls f) (judged more f) (judged_stays f)
    judged_stays (Of term.all_of ps) = judged_all_stays ps
    judged_stays (Of term.any_of ps) = judged_any_stays ps
    judged_stays f = atom_stays ls more one_way among f

    judged_all_stays : (ps : Parts) → StaysDecided (judged_all ls ps) (judged_all more ps)
    judged_all_stays no_parts = refl
    judged_all_stays (part f fs) = both_stays (judged ls f) (judged_all ls fs) (judged more f) (judged_all more fs) (judged_stays f) (judged_all_stays fs)

    judged_any_stays : (ps : Parts) → StaysDecided (judged_any ls ps) (judged_any more ps)
    judged_any_stays no_parts = refl
    judged_any_stays (part f fs) = either_stays (judged ls f) (judged_any ls fs) (judged more f) (judged_any more fs) (judged_stays f) (judged_any_stays fs)

-- ---- formulas that are judged no

pub record IsDenied (ls : List Literal) (fs : List Term) : Type 0 where
  pub formula : Term
  pub there : has_formula fs formula ≡ true
  pub fails : judged ls formula ≡ No

denied_is : (ls : List Literal) (fs : List Term) → any_no ls fs ≡ true → IsDenied ls fs
denied_is ls [] e = absurd cc
denied_is ls (f ∷ fs) e = by (is_no (judged ls f)) refl e (λ k. denied_is ls fs k)
  where
    right : (b : Bool) (g : Term) → has_formula fs g ≡ true → cond b true (has_formula fs g) ≡ true
    right true g h = refl
    right false g h = h

    by : (b : Bool) → is_no (judged ls f) ≡ b → (b || any_no ls fs) ≡ true → (any_no ls fs ≡ true → IsDenied ls fs) → IsDenied ls (f ∷ fs)
    by true h k rest = record { formula = f; there = ap (λ (b : Bool). cond b true (has_formula fs f)) (terms_self f); fails = no_is (judged ls f) h }
    by false h k rest =
        let r = rest k in
        record { formula = r.formula; there = right (same_term f r.formula) r.formula r.there; fails = r.fails }

pub any_no_there : (ls : List Literal) (fs : List Term) (f : Term) → has_formula fs f ≡ true → judged ls f ≡ No → any_no ls fs ≡ true
any_no_there ls [] f e fails = absurd cc
any_no_there ls (g ∷ gs) f e fails = by (same_term g f) refl e (λ k. any_no_there ls gs f k fails)
  where
    right : (b : Bool) → any_no ls gs ≡ true → (b || any_no ls gs) ≡ true
    right true h = refl
    right false h = h

    by : (b : Bool) → same_term g f ≡ b → cond b true (has_formula gs f) ≡ true → (has_formula gs f ≡ true → any_no ls gs ≡ true) → (is_no (judged ls g) || any_no ls gs) ≡ true
    by true h k rest = ap (λ (v : Verdict). is_no v || any_no ls gs) (ap (λ (t : Term). judged ls t) (terms_are g f h) ∙ fails)
    by false h k rest = right (is_no (judged ls g)) (rest k)

-- ---- nodes that are shut

-- a node is shut, or no atom stands both ways
one_way_or_shut : (node : Node) → (is_shut node ≡ true) ⊎ IsOneWay node.literals
one_way_or_shut node = by (is_shut node) refl
  where
    never : (a : Term) (b : Bool) → is_shut node ≡ false → has_literal node.literals (record { atom = a; holds = true }) ≡ b → has_literal node.literals (record { atom = a; holds = false }) ≡ true → b ≡ false
    never a true e f g = let shut = both_ways_shut node a f g in let bad : true ≡ false = sym shut ∙ e in absurd cc
    never a false e f g = refl

    by : (b : Bool) → is_shut node ≡ b → (is_shut node ≡ true) ⊎ IsOneWay node.literals
    by true e = inl e
    by false e = inr (λ a g. never a (has_literal node.literals (record { atom = a; holds = true })) e refl g)

pending_shut : (node : Node) (f : Term) → has_formula node.pending f ≡ true → judged node.literals f ≡ No → is_shut node ≡ true
pending_shut node f e fails = by (stands_both_ways node.literals node.literals)
  where
    by : (b : Bool) → (b || any_no node.literals node.pending) ≡ true
    by true = refl
    by false = any_no_there node.literals node.pending f e fails

pub shuts_more : ShutsMore
shuts_more less more h e = by (stands_both_ways less.literals less.literals) refl e (one_way_or_shut more)
  where
    by : (b : Bool) → stands_both_ways less.literals less.literals ≡ b → (b || any_no less.literals less.pending) ≡ true → (is_shut more ≡ true) ⊎ IsOneWay more.literals → is_shut more ≡ true
    by true f g one_way = ap (λ (c : Bool). c || any_no more.literals more.pending) (both_ways_more less more h f)
    by false f g (inl shut) = shut
    by false f g (inr one_way) =
        let d = denied_is less.literals less.pending g in
        let stays = judged_stays less.literals more.literals one_way h.literals d.formula in
        pending_shut more d.formula (h.pending d.formula d.there) (subst (λ (v : Verdict). StaysDecided v (judged more.literals d.formula)) d.fails stays)
