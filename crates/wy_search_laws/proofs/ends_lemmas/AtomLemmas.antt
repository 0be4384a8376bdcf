-- The atom on which a node splits becomes a literal, and then less atoms of the node are undecided.
use Rattle.std.proofs.Common.{◌≡◌, ◌⊎◌, ◌∙◌, ◌<◌, ◌≤◌, ◌||◌, ◌&&◌, ℕ, List, [], ◌∷◌, ◌++◌, Bool, true, false, cond, Option, Some, None, inl, inr, refl, sym, ap, subst, arith}
use Rattle.std.specs.Bool.{beq}
use Rattle.wy_lemmas.proofs.Choices.{counted, no_more}
use Rattle.wy_search_bounds.specs.wy_term.Term as term
use Rattle.wy_search_bounds.specs.wy_term.Term.{Term, Of, Parts, no_parts, part}
use Rattle.wy_search_bounds.specs.wy_term.Sorts.{formula_sort, sort_in}
use Rattle.wy_search_bounds.proofs.wy_term_proofs.SameLemmas.{terms_self}
use Rattle.wy_search_bounds.specs.wy_term_subst.sorted.Sorted.{AreSorted, each}
use Rattle.wy_search_bounds.specs.wy_check_spec.judge.Node.{Literal, Node, added, denied_one, has_literal, is_atom, same_literal, with_literal}
use Rattle.wy_search_bounds.specs.wy_check_spec.judge.Judgement.{judged, of_atom}
use Rattle.wy_search_bounds.specs.wy_check_laws.sound.Sortedness.{AreFormulas}
use Rattle.wy_search_bounds.proofs.wy_check_laws_proofs.sound_lemmas.MadeLemmas.{IsFormula}
use Rattle.wy_search_bounds.specs.wy_search_spec.Splitting.{atoms_in, atoms_in_parts, atoms_of, decides, first_forced, first_open, first_undecided, is_forced, is_open, joined_atoms, next_atom, or_else}

-- ---- atoms are formulas that are taken apart no further

abbrev AreAtoms : List Term → Type 0
AreAtoms [] = Unit {0}
AreAtoms (a ∷ rest) = (is_atom a ≡ true) × IsFormula a × AreAtoms rest

atoms_both : (xs ys : List Term) → AreAtoms xs → AreAtoms ys → AreAtoms (xs ++ ys)
atoms_both [] ys h g = g
atoms_both (x ∷ xs) ys h g = (h.0, h.1, atoms_both xs ys h.2 g)

mutual
  atoms_atomic : (f : Term) → IsFormula f → AreAtoms (atoms_in f)
  atoms_atomic (Of term.denied (part f no_parts)) h = atoms_both (atoms_in f) [] (atoms_atomic f (h.0.1, h.0.0)) tt
  atoms_atomic (Of term.denied no_parts) h = absurd h.0
  atoms_atomic (Of term.denied (part f (part g ps))) h = absurd h.0.2.0
  atoms_atomic (Of term.all_of ps) h = parts_atomic ps h.0
  atoms_atomic (Of term.any_of ps) h = parts_atomic ps h.0
  atoms_atomic (Of term.at_most ps) h = (refl, h, tt)
  atoms_atomic (Of term.equal ps) h = (refl, h, tt)
  atoms_atomic (Of (term.of_kind kind) ps) h = (refl, h, tt)
  atoms_atomic (Of (term.in_type n) ps) h = (refl, h, tt)
  atoms_atomic (Of (term.every word n) ps) h = (refl, h, tt)
  atoms_atomic (Of (term.exists word n) ps) h = (refl, h, tt)
  atoms_atomic f h = let e : sort_in f ≡ formula_sort = h.1 in absurd cc

  parts_atomic : (ps : Parts) → AreSorted ps (each formula_sort) → AreAtoms (joined_atoms (atoms_in_parts ps))
  parts_atomic no_parts h = tt
  parts_atomic (part f ps) h = atoms_both (atoms_in f) (joined_atoms (atoms_in_parts ps)) (atoms_atomic f (h.1, h.0)) (parts_atomic ps h.2)

all_atomic : (fs : List Term) → AreFormulas fs → AreAtoms (atoms_of fs)
all_atomic [] h = tt
all_atomic (f ∷ fs) h = atoms_both (atoms_in f) (atoms_of fs) (atoms_atomic f h.0) (all_atomic fs h.1)

-- ---- the chosen atom is one of them, and undecided

abbrev IsIn : Term → List Term → Type 0
IsIn a [] = ⊥
IsIn a (b ∷ rest) = (b ≡ a) ⊎ IsIn a rest

in_first : (a : Term) (xs ys : List Term) → IsIn a xs → IsIn a (xs ++ ys)
in_first a [] ys h = absurd h
in_first a (x ∷ xs) ys (inl e) = inl e
in_first a (x ∷ xs) ys (inr h) = inr (in_first a xs ys h)

in_second : (a : Term) (xs ys : List Term) → IsIn a ys → IsIn a (xs ++ ys)
in_second a [] ys h = h
in_second a (x ∷ xs) ys h = inr (in_second a xs ys h)

abbrev some_term : Term → Option Term
some_term a = Some a

some_is : (a b : Term) → some_term a ≡ some_term b → a ≡ b
some_is a b e = cc

record IsChosen (ls : List Literal) (ts : List Term) (a : Term) : Type 0 where
  there : IsIn a ts
  undecided : is_open (of_atom ls a) ≡ true

forced_open : (node : Node) (t : Term) (b : Bool) → is_open (of_atom node.literals t) ≡ b → cond b (decides node t true || decides node t false) false ≡ true → is_open (of_atom node.literals t) ≡ true
forced_open node t true e h = e
forced_open node t false e h = absurd cc

later : (ls : List Literal) (t : Term) (ts : List Term) (a : Term) → IsChosen ls ts a → IsChosen ls (t ∷ ts) a
later ls t ts a h = record { there = inr h.there; undecided = h.undecided }

by_forced : (node : Node) (t : Term) (ts : List Term) (a : Term) (b : Bool) → is_forced node t ≡ b → cond b (Some t) (first_forced node ts) ≡ some_term a → (first_forced node ts ≡ some_term a → IsChosen node.literals ts a) → IsChosen node.literals (t ∷ ts) a
by_forced node t ts a true f e rest =
    let is : t ≡ a = some_is t a e in
    record { there = inl is; undecided = subst (λ (u : Term). is_open (of_atom node.literals u) ≡ true) is (forced_open node t (is_open (of_atom node.literals t)) refl f) }
by_forced node t ts a false f e rest = later node.literals t ts a (rest e)

forced_chosen : (node : Node) (ts : List Term) (a : Term) → first_forced node ts ≡ some_term a → IsChosen node.literals ts a
forced_chosen node [] a e = absurd cc
forced_chosen node (t ∷ ts) a e = by_forced node t ts a (is_forced node t) refl e (λ f. forced_chosen node ts a f)

by_undecided : (node : Node) (t : Term) (ts : List Term) (a : Term) (b : Bool) → is_open (of_atom node.literals t) ≡ b → cond b (Some t) (first_undecided node ts) ≡ some_term a → (first_undecided node ts ≡ some_term a → IsChosen node.literals ts a) → IsChosen node.literals (t ∷ ts) a
by_undecided node t ts a true f e rest =
    let is : t ≡ a = some_is t a e in
    record { there = inl is; undecided = subst (λ (u : Term). is_open (of_atom node.literals u) ≡ true) is f }
by_undecided node t ts a false f e rest = later node.literals t ts a (rest e)

undecided_chosen : (node : Node) (ts : List Term) (a : Term) → first_undecided node ts ≡ some_term a → IsChosen node.literals ts a
undecided_chosen node [] a e = absurd cc
undecided_chosen node (t ∷ ts) a e = by_undecided node t ts a (is_open (of_atom node.literals t)) refl e (λ f. undecided_chosen node ts a f)

by_open : (node : Node) (f : Term) (fs : List Term) (a : Term) (b : Bool) → cond b (first_undecided node (atoms_in f)) (first_open node fs) ≡ some_term a → (first_open node fs ≡ some_term a → IsChosen node.literals (atoms_of fs) a) → IsChosen node.literals (atoms_of (f ∷ fs)) a
by_open node f fs a true e rest =
    let h = undecided_chosen node (atoms_in f) a e in
    record { there = in_first a (atoms_in f) (atoms_of fs) h.there; undecided = h.undecided }
by_open node f fs a false e rest =
    let h = rest e in
    record { there = in_second a (atoms_in f) (atoms_of fs) h.there; undecided = h.undecided }

open_chosen : (node : Node) (fs : List Term) (a : Term) → first_open node fs ≡ some_term a → IsChosen node.literals (atoms_of fs) a
open_chosen node [] a e = absurd cc
open_chosen node (f ∷ fs) a e = by_open node f fs a (is_open (judged node.literals f)) e (λ g. open_chosen node fs a g)

either_chosen : (ls : List Literal) (ts : List Term) (o q : Option Term) (a : Term) → (o ≡ some_term a → IsChosen ls ts a) → (q ≡ some_term a → IsChosen ls ts a) → or_else o q ≡ some_term a → IsChosen ls ts a
either_chosen ls ts None q a f g e = g e
either_chosen ls ts (Some b) q a f g e = f e

chosen : (node : Node) (a : Term) → next_atom node ≡ some_term a → IsChosen node.literals (atoms_of node.pending) a
chosen node a e =
    either_chosen node.literals (atoms_of node.pending) (first_forced node (atoms_of node.pending)) (first_open node node.pending) a
    (λ f. forced_chosen node (atoms_of node.pending) a f) (λ f. open_chosen node node.pending a f) e

record IsAtom (a : Term) : Type 0 where
  atomic : is_atom a ≡ true
  formula : IsFormula a

atom_in : (ts : List Term) (a : Term) → AreAtoms ts → IsIn a ts → IsAtom a
atom_in [] a h there = absurd there
atom_in (t ∷ ts) a h (inl e) = subst IsAtom e (record { atomic = h.0; formula = h.1 })
atom_in (t ∷ ts) a h (inr there) = atom_in ts a h.2 there

-- what a node of sorted formulas splits on is an atom
pub next_is_atom : (node : Node) (a : Term) → AreFormulas node.pending → next_atom node ≡ some_term a → is_atom a ≡ true
next_is_atom node a formulas e = (atom_in (atoms_of node.pending) a (all_atomic node.pending formulas) (chosen node a e).there).atomic

-- ---- it becomes a literal

abbrev literal : Term → Bool → Literal
literal a b = record { atom = a; holds = b }

becomes_true : (node : Node) (a : Term) → is_atom a ≡ true → added node a ≡ with_literal node (literal a true)
becomes_true node (Of term.at_most ps) e = refl
becomes_true node (Of term.equal ps) e = refl
becomes_true node (Of (term.of_kind kind) ps) e = refl
becomes_true node (Of (term.in_type n) ps) e = refl
becomes_true node (Of (term.every word n) ps) e = refl
becomes_true node (Of (term.exists word n) ps) e = refl
becomes_true node a e = absurd cc

becomes_false : (node : Node) (a : Term) → is_atom a ≡ true → denied_one node a ≡ with_literal node (literal a false)
becomes_false node (Of term.at_most ps) e = refl
becomes_false node (Of term.equal ps) e = refl
becomes_false node (Of (term.of_kind kind) ps) e = refl
becomes_false node (Of (term.in_type n) ps) e = refl
becomes_false node (Of (term.every word n) ps) e = refl
becomes_false node (Of (term.exists word n) ps) e = refl
becomes_false node a e = absurd cc

abbrev with_last : Node → Literal → Node
with_last node l = record { literals = node.literals ++ l ∷ []; pending = node.pending }

is_last : (node : Node) (l : Literal) → has_literal node.literals l ≡ false → with_literal node l ≡ with_last node l
is_last node l e = ap (λ (b : Bool). cond b node (with_last node l)) e

-- ---- what is undecided

record IsOpen (ls : List Literal) (a : Term) : Type 0 where
  neither_true : has_literal ls (literal a true) ≡ false
  neither_false : has_literal ls (literal a false) ≡ false

open_is : (ls : List Literal) (a : Term) → is_open (of_atom ls a) ≡ true → IsOpen ls a
open_is ls a e = by (has_literal ls (literal a true)) (has_literal ls (literal a false)) refl refl e
  where
    by : (b c : Bool) → has_literal ls (literal a true) ≡ b → has_literal ls (literal a false) ≡ c → is_open (of_atom ls a) ≡ true → IsOpen ls a
    by true c f g h = absurd (let k : is_open (of_atom ls a) ≡ false = rw f refl in cc)
    by false true f g h = absurd (let k : is_open (of_atom ls a) ≡ false = rw (f, g) refl in cc)
    by false false f g h = record { neither_true = f; neither_false = g }

is_open_by : (ls : List Literal) (a : Term) → IsOpen ls a → is_open (of_atom ls a) ≡ true
is_open_by ls a h = rw (h.neither_true, h.neither_false) refl

has_before : (ls : List Literal) (l k : Literal) → has_literal (ls ++ l ∷ []) k ≡ false → has_literal ls k ≡ false
has_before [] l k e = refl
has_before (m ∷ ms) l k e = by (same_literal m k) e (λ f. has_before ms l k f)
  where
    by : (b : Bool) → cond b true (has_literal (ms ++ l ∷ []) k) ≡ false → (has_literal (ms ++ l ∷ []) k ≡ false → has_literal ms k ≡ false) → cond b true (has_literal ms k) ≡ false
    by true f rest = f
    by false f rest = rest f

same_self : (l : Literal) → same_literal l l ≡ true
same_self l = ap (λ (b : Bool). b && beq l.holds l.holds) (terms_self l.atom) ∙ bits l.holds
  where
    bits : (b : Bool) → beq b b ≡ true
    bits true = refl
    bits false = refl

has_last : (ls : List Literal) (l : Literal) → has_literal (ls ++ l ∷ []) l ≡ true
has_last [] l = ap (λ (b : Bool). cond b true false) (same_self l)
has_last (m ∷ ms) l = by (same_literal m l) (has_last ms l)
  where
    by : (b : Bool) → has_literal (ms ++ l ∷ []) l ≡ true → cond b true (has_literal (ms ++ l ∷ []) l) ≡ true
    by true h = refl
    by false h = h

was_open : (ls : List Literal) (l : Literal) (a : Term) → is_open (of_atom (ls ++ l ∷ []) a) ≡ true → is_open (of_atom ls a) ≡ true
was_open ls l a e =
    let h = open_is (ls ++ l ∷ []) a e in
    is_open_by ls a (record { neither_true = has_before ls l (literal a true) h.neither_true; neither_false = has_before ls l (literal a false) h.neither_false })

is_decided : (ls : List Literal) (a : Term) (b : Bool) → is_open (of_atom (ls ++ literal a b ∷ []) a) ≡ false
is_decided ls a b = by (is_open (of_atom (ls ++ literal a b ∷ []) a)) refl
  where
    never : (d : Bool) → has_literal (ls ++ literal a d ∷ []) (literal a d) ≡ true → IsOpen (ls ++ literal a d ∷ []) a → ⊥
    never true e h = let g : has_literal (ls ++ literal a true ∷ []) (literal a true) ≡ false = h.neither_true in cc
    never false e h = let g : has_literal (ls ++ literal a false ∷ []) (literal a false) ≡ false = h.neither_false in cc

    by : (c : Bool) → is_open (of_atom (ls ++ literal a b ∷ []) a) ≡ c → is_open (of_atom (ls ++ literal a b ∷ []) a) ≡ false
    by true e = absurd (never b (has_last ls (literal a b)) (open_is (ls ++ literal a b ∷ []) a e))
    by false e = e

abbrev undecided_of : List Literal → List Term → ℕ
undecided_of ls [] = 0
undecided_of ls (a ∷ rest) = counted (is_open (of_atom ls a)) (undecided_of ls rest)

-- how many atoms of the pending formulas are undecided
abbrev pub undecided : Node → ℕ
undecided node = undecided_of node.literals (atoms_of node.pending)

one_less : (b c : Bool) (m n : ℕ) → b ≡ false → c ≡ true → m ≤ n → counted b m < counted c n
one_less true c m n e f le = absurd cc
one_less false true m n e f le = omega (arith, le)
one_less false false m n e f le = absurd cc

less_behind : (b c : Bool) (m n : ℕ) → (b ≡ true → c ≡ true) → m < n → counted b m < counted c n
less_behind true true m n h lt = omega (arith, lt)
less_behind true false m n h lt = let e : false ≡ true = h refl in absurd cc
less_behind false true m n h lt = omega (arith, lt)
less_behind false false m n h lt = lt

never_more : (ls : List Literal) (l : Literal) (ts : List Term) → undecided_of (ls ++ l ∷ []) ts ≤ undecided_of ls ts
never_more ls l [] = omega arith
never_more ls l (t ∷ ts) = no_more (is_open (of_atom (ls ++ l ∷ []) t)) (is_open (of_atom ls t)) (undecided_of (ls ++ l ∷ []) ts) (undecided_of ls ts) (was_open ls l t) (never_more ls l ts)

less : (ls : List Literal) (a : Term) (b : Bool) (ts : List Term) → is_open (of_atom ls a) ≡ true → IsIn a ts → undecided_of (ls ++ literal a b ∷ []) ts < undecided_of ls ts
less ls a b [] e there = absurd there
less ls a b (t ∷ ts) e (inl is) =
    one_less (is_open (of_atom (ls ++ literal a b ∷ []) t)) (is_open (of_atom ls t)) (undecided_of (ls ++ literal a b ∷ []) ts) (undecided_of ls ts)
    (ap (λ (u : Term). is_open (of_atom (ls ++ literal a b ∷ []) u)) is ∙ is_decided ls a b) (ap (λ (u : Term). is_open (of_atom ls u)) is ∙ e) (never_more ls (literal a b) ts)
less ls a b (t ∷ ts) e (inr there) =
    less_behind (is_open (of_atom (ls ++ literal a b ∷ []) t)) (is_open (of_atom ls t)) (undecided_of (ls ++ literal a b ∷ []) ts) (undecided_of ls ts) (was_open ls (literal a b) t) (less ls a b ts e there)

-- ---- splits

pub record SplitsLess (node : Node) (a : Term) : Type 0 where
  pub formula : IsFormula a
  pub up : undecided (added node a) < undecided node
  pub down : undecided (denied_one node a) < undecided node

pub splits_less : (node : Node) (a : Term) → AreFormulas node.pending → next_atom node ≡ some_term a → SplitsLess node a
splits_less node a formulas e =
    let h = chosen node a e in
    let is = atom_in (atoms_of node.pending) a (all_atomic node.pending formulas) h.there in
    let neither = open_is node.literals a h.undecided in
    record {
      formula = is.formula;
      up = subst (λ (m : Node). undecided m < undecided node) (sym (becomes_true node a is.atomic ∙ is_last node (literal a true) neither.neither_true)) (less node.literals a true (atoms_of node.pending) h.undecided h.there);
      down = subst (λ (m : Node). undecided m < undecided node) (sym (becomes_false node a is.atomic ∙ is_last node (literal a false) neither.neither_false)) (less node.literals a false (atoms_of node.pending) h.undecided h.there);
    }
