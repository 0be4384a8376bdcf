-- Literals of a node with one more, their numbers, and nodes that are shut.
use Rattle.std.proofs.Common.{◌≡◌, ◌∙◌, ℕ, suc, ◌-◌, List, [], ◌∷◌, ◌++◌, Bool, true, false, cond, eqb, not, ◌||◌, Some, None, refl, ap, arith}
use Rattle.std.specs.Prelude.{slice_get}
use Rattle.std.specs.Bool.{beq}
use Rattle.wy_lemmas.proofs.Choices.{bits_self as bits_same, both_parts as and_both, bits_are, or_left as first_true, both_true, or_right as second_true}
use Rattle.wy_search_bounds.specs.wy_term.Term.{Term}
use Rattle.wy_search_bounds.specs.wy_term.Same.{same_term}
use Rattle.wy_search_bounds.specs.wy_term.Rewriting.{False}
use Rattle.wy_search_bounds.proofs.wy_term_proofs.SameLemmas.{terms_are, terms_self}
use Rattle.wy_search_bounds.specs.wy_check_spec.judge.Node.{Literal, Node, same_literal, has_literal, has_formula, with_literal, with_pending}
use Rattle.wy_search_bounds.specs.wy_check_spec.valid.Literals.{literal_at, stands_both_ways, any_no, is_no, is_shut}
use Rattle.wy_search_bounds.specs.wy_check_spec.judge.Judgement.{judged}
use Rattle.wy_search_laws.specs.chains.Chains.{HasLiterals}

-- ---- truth values

-- ---- one literal among others

literal_self : (l : Literal) → same_literal l l ≡ true
literal_self l = both_true (same_term l.atom l.atom) (beq l.holds l.holds) (terms_self l.atom) (bits_same l.holds)

abbrev signed : Term → Bool → Literal
signed a b = record { atom = a; holds = b }

pub literals_are : (k l : Literal) → same_literal k l ≡ true → k ≡ l
literals_are k l e =
    let h = and_both (same_term k.atom l.atom) (beq k.holds l.holds) e in
    ap (λ (a : Term). signed a k.holds) (terms_are k.atom l.atom h.0) ∙ ap (λ (b : Bool). signed l.atom b) (bits_are k.holds l.holds h.1)

pub has_first : (l : Literal) (ls : List Literal) → has_literal (l ∷ ls) l ≡ true
has_first l ls = ap (λ (b : Bool). cond b true (has_literal ls l)) (literal_self l)

pub has_later : (k l : Literal) (ls : List Literal) → has_literal ls l ≡ true → has_literal (k ∷ ls) l ≡ true
has_later k l ls e = by (same_literal k l)
  where
    by : (b : Bool) → cond b true (has_literal ls l) ≡ true
    by true = refl
    by false = e

has_front : (ls ks : List Literal) (l : Literal) → has_literal ls l ≡ true → has_literal (ls ++ ks) l ≡ true
has_front [] ks l e = absurd cc
has_front (k ∷ ls) ks l e = by (same_literal k l) e (has_front ls ks l)
  where
    by : (b : Bool) → cond b true (has_literal ls l) ≡ true → (has_literal ls l ≡ true → has_literal (ls ++ ks) l ≡ true) → cond b true (has_literal (ls ++ ks) l) ≡ true
    by true f rest = refl
    by false f rest = rest f

has_last : (ls : List Literal) (l : Literal) → has_literal (ls ++ l ∷ []) l ≡ true
has_last [] l = has_first l []
has_last (k ∷ ls) l = has_later k l (ls ++ l ∷ []) (has_last ls l)

-- ---- nodes with more literals

pub has_self : (node : Node) → HasLiterals node node
has_self node = record { has = λ l e. e }

pub has_more : (a b c : Node) → HasLiterals a b → HasLiterals b c → HasLiterals a c
has_more a b c f g = record { has = λ l e. g.has l (f.has l e) }

pub literal_more : (node : Node) (l : Literal) → HasLiterals node (with_literal node l)
literal_more node l = by (has_literal node.literals l)
  where
    by : (b : Bool) → HasLiterals node (cond b node (record { literals = node.literals ++ l ∷ []; pending = node.pending }))
    by true = has_self node
    by false = record { has = λ k e. has_front node.literals (l ∷ []) k e }

pub literal_there : (node : Node) (l : Literal) → has_literal (with_literal node l).literals l ≡ true
literal_there node l = by (has_literal node.literals l) refl
  where
    by : (b : Bool) → has_literal node.literals l ≡ b → has_literal (cond b node (record { literals = node.literals ++ l ∷ []; pending = node.pending })).literals l ≡ true
    by true e = e
    by false e = has_last node.literals l

-- ---- numbers of literals

-- the literal stands at this number
pub record IsNumbered (ls : List Literal) (l : Literal) : Type 0 where
  pub number : ℕ
  pub is : literal_at ls number ≡ Some l

record IsNth (ls : List Literal) (l : Literal) : Type 0 where
  n : ℕ
  is : slice_get ls n ≡ Some l

nth_there : (ls : List Literal) (l : Literal) → has_literal ls l ≡ true → IsNth ls l
nth_there [] l e = absurd cc
nth_there (k ∷ ls) l e = by (same_literal k l) refl e (nth_there ls l)
  where
    by : (b : Bool) → same_literal k l ≡ b → cond b true (has_literal ls l) ≡ true → (has_literal ls l ≡ true → IsNth ls l) → IsNth (k ∷ ls) l
    by true f g rest = record { n = 0; is = ap (λ (x : Literal). Some x) (literals_are k l f) }
    by false f g rest = let h = rest g in record { n = suc h.n; is = h.is }

pub numbered : (ls : List Literal) (l : Literal) → has_literal ls l ≡ true → IsNumbered ls l
numbered ls l e =
    let h = nth_there ls l e in
    let down : suc h.n - 1 ≡ h.n = omega arith in
    let above : eqb (suc h.n) 0 ≡ false = grind arith in
    record { number = suc h.n; is = ap (λ (b : Bool). cond b None (slice_get ls (suc h.n - 1))) above ∙ (ap (λ (n : ℕ). slice_get ls n) down ∙ h.is) }

-- ---- shut nodes

both_ways_there : (all ls : List Literal) (l : Literal) → has_literal ls l ≡ true → has_literal all (record { atom = l.atom; holds = not l.holds }) ≡ true → stands_both_ways all ls ≡ true
both_ways_there all [] l e f = absurd cc
both_ways_there all (k ∷ ls) l e f = by (same_literal k l) refl e (both_ways_there all ls l)
  where
    by : (b : Bool) → same_literal k l ≡ b → cond b true (has_literal ls l) ≡ true → (has_literal ls l ≡ true → has_literal all (record { atom = l.atom; holds = not l.holds }) ≡ true → stands_both_ways all ls ≡ true) → (has_literal all (record { atom = k.atom; holds = not k.holds }) || stands_both_ways all ls) ≡ true
    by true g h rest =
        first_true (has_literal all (record { atom = k.atom; holds = not k.holds })) (stands_both_ways all ls)
        (ap (λ (x : Literal). has_literal all (record { atom = x.atom; holds = not x.holds })) (literals_are k l g) ∙ f)
    by false g h rest = second_true (has_literal all (record { atom = k.atom; holds = not k.holds })) (stands_both_ways all ls) (rest h f)

-- an atom that stands both ways shuts its node
pub both_ways_shut : (node : Node) (a : Term) → has_literal node.literals (record { atom = a; holds = true }) ≡ true → has_literal node.literals (record { atom = a; holds = false }) ≡ true → is_shut node ≡ true
both_ways_shut node a e f = first_true (stands_both_ways node.literals node.literals) (any_no node.literals node.pending) (both_ways_there node.literals node.literals (record { atom = a; holds = true }) e f)

false_among : (ls : List Literal) (fs : List Term) → has_formula fs False ≡ true → any_no ls fs ≡ true
false_among ls [] e = absurd cc
false_among ls (g ∷ fs) e = by (same_term g False) refl e (false_among ls fs)
  where
    by : (b : Bool) → same_term g False ≡ b → cond b true (has_formula fs False) ≡ true → (has_formula fs False ≡ true → any_no ls fs ≡ true) → (is_no (judged ls g) || any_no ls fs) ≡ true
    by true f h rest = first_true (is_no (judged ls g)) (any_no ls fs) (ap (λ (t : Term). is_no (judged ls t)) (terms_are g False f))
    by false f h rest = second_true (is_no (judged ls g)) (any_no ls fs) (rest h)

false_last : (ls : List Literal) (fs : List Term) → any_no ls (fs ++ False ∷ []) ≡ true
false_last ls [] = refl
false_last ls (g ∷ fs) = second_true (is_no (judged ls g)) (any_no ls (fs ++ False ∷ [])) (false_last ls fs)

-- `false` as a pending formula shuts its node
pub false_shut : (node : Node) → is_shut (with_pending node False) ≡ true
false_shut node = by (has_formula node.pending False) refl
  where
    by : (b : Bool) → has_formula node.pending False ≡ b → is_shut (cond b node (record { literals = node.literals; pending = node.pending ++ False ∷ [] })) ≡ true
    by true e = second_true (stands_both_ways node.literals node.literals) (any_no node.literals node.pending) (false_among node.literals node.pending e)
    by false e = second_true (stands_both_ways node.literals node.literals) (any_no node.literals (node.pending ++ False ∷ [])) (false_last node.literals node.pending)
