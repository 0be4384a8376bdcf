-- Kinds that literals give or deny to terms that are linked.
use Rattle.std.proofs.Common.{◌≡◌, ◌∙◌, List, [], ◌∷◌, ◌++◌, Bool, true, false, cond, not, ◌||◌, Option, Some, inl, inr, refl, sym, ap}
use Rattle.wy_lemmas.proofs.Choices.{or_left as first_true, both_true, or_right as second_true}
use Rattle.wy_search_bounds.specs.wy_term.Term.{DataKind, Term, one, two, equal, of_kind}
use Rattle.wy_search_bounds.specs.wy_term.Same.{same_kind, same_term}
use Rattle.wy_search_bounds.specs.wy_term.Rewriting.{as_constant, kind_given}
use Rattle.wy_search_bounds.specs.wy_term.Sorts.{val_sort, sort_in}
use Rattle.wy_search_bounds.proofs.wy_term_proofs.SameLemmas.{terms_are, terms_self, kinds_are, kinds_self}
use Rattle.wy_search_bounds.specs.wy_check_spec.judge.Node.{Literal, Node, same_literal, has_literal, has_formula}
use Rattle.wy_search_bounds.specs.wy_check_spec.valid.Literals.{has_atom, are_equated}
use Rattle.wy_search_bounds.specs.wy_check_spec.valid.Kinds.{are_apart, of_two_kinds, other_side, sides_of, equated_to, Kinded, each_of_kind, of_kind_given, kinds_given, kinds_denied, in_two_kinds, in_one_kind, any_with, any_pair, clash_together, clashes_alone}
use Rattle.wy_search_bounds.proofs.wy_check_laws_proofs.sound_lemmas.Basics.{or_cases}
use Rattle.wy_search_laws.proofs.chains_lemmas.LiteralLemmas.{literals_are}
use Rattle.wy_search_laws.proofs.chains_lemmas.LinkLemmas.{AreLinked, equated}

-- ---- terms among others

pub formula_front : (xs ys : List Term) (t : Term) → has_formula xs t ≡ true → has_formula (xs ++ ys) t ≡ true
formula_front [] ys t e = absurd cc
formula_front (x ∷ xs) ys t e = by (same_term x t) e (formula_front xs ys t)
  where
    by : (b : Bool) → cond b true (has_formula xs t) ≡ true → (has_formula xs t ≡ true → has_formula (xs ++ ys) t ≡ true) → cond b true (has_formula (xs ++ ys) t) ≡ true
    by true f rest = refl
    by false f rest = rest f

pub formula_later : (x t : Term) (xs : List Term) → has_formula xs t ≡ true → has_formula (x ∷ xs) t ≡ true
formula_later x t xs e = by (same_term x t)
  where
    by : (b : Bool) → cond b true (has_formula xs t) ≡ true
    by true = refl
    by false = e

pub formula_back : (xs ys : List Term) (t : Term) → has_formula ys t ≡ true → has_formula (xs ++ ys) t ≡ true
formula_back [] ys t e = e
formula_back (x ∷ xs) ys t e = formula_later x t (xs ++ ys) (formula_back xs ys t e)

pub formula_first : (t : Term) (xs : List Term) → has_formula (t ∷ xs) t ≡ true
formula_first t xs = ap (λ (b : Bool). cond b true (has_formula xs t)) (terms_self t)

-- ---- the other sides of equations

first_side : (s t : Term) → has_formula (other_side s t t) s ≡ true
first_side s t = formula_back (cond (same_term s t) (t ∷ []) []) (cond (same_term t t) (s ∷ []) []) s (ap (λ (b : Bool). has_formula (cond b (s ∷ []) []) s) (terms_self t) ∙ formula_first s [])

second_side : (s t : Term) → has_formula (other_side t s t) s ≡ true
second_side s t = formula_front (cond (same_term t t) (s ∷ []) []) (cond (same_term s t) (t ∷ []) []) s (ap (λ (b : Bool). has_formula (cond b (s ∷ []) []) s) (terms_self t) ∙ formula_first s [])

-- an equation with this side there
side_there : (ls : List Literal) (v w s t : Term) → has_literal ls (record { atom = two equal v w; holds = true }) ≡ true → has_formula (other_side v w t) s ≡ true → has_formula (equated_to ls t) s ≡ true
side_there [] v w s t e f = absurd cc
side_there (l ∷ ls) v w s t e f = by (same_literal l (record { atom = two equal v w; holds = true })) refl e (side_there ls v w s t)
  where
    by : (b : Bool) → same_literal l (record { atom = two equal v w; holds = true }) ≡ b → cond b true (has_literal ls (record { atom = two equal v w; holds = true })) ≡ true → (has_literal ls (record { atom = two equal v w; holds = true }) ≡ true → has_formula (other_side v w t) s ≡ true → has_formula (equated_to ls t) s ≡ true) → has_formula (sides_of l.holds l.atom t ++ equated_to ls t) s ≡ true
    by true g h rest =
        formula_front (sides_of l.holds l.atom t) (equated_to ls t) s
        (ap (λ (k : Literal). has_formula (sides_of k.holds k.atom t) s) (literals_are l (record { atom = two equal v w; holds = true }) g) ∙ f)
    by false g h rest = formula_back (sides_of l.holds l.atom t) (equated_to ls t) s (rest h f)

equated_there : (ls : List Literal) (s t : Term) → are_equated ls s t ≡ true → has_formula (equated_to ls t) s ≡ true
equated_there ls s t e =
    or_cases (has_atom ls (two equal s t)) (has_atom ls (two equal t s)) (has_formula (equated_to ls t) s ≡ true) e
    (λ f. side_there ls s t s t f (first_side s t))
    (λ f. side_there ls t s s t f (second_side s t))

-- a term that is linked to another stands with what is joined to that one
linked_there : (node : Node) (s t : Term) → sort_in s ≡ val_sort → AreLinked node s t → has_formula (t ∷ equated_to node.literals t) s ≡ true
linked_there node s t is (inl e) = ap (λ (x : Term). has_formula (t ∷ equated_to node.literals t) x) e ∙ formula_first t (equated_to node.literals t)
linked_there node s t is (inr e) = formula_later t s (equated_to node.literals t) (equated_there node.literals s t (equated node.literals s t is e))

-- ---- pairs

pub with_each : (test : Kinded → Kinded → Bool) (p : Kinded) (kind : DataKind) (us : List Term) (s : Term) → has_formula us s ≡ true → test p (s, kind) ≡ true → any_with test p (each_of_kind kind us) ≡ true
with_each test p kind [] s e f = absurd cc
with_each test p kind (u ∷ us) s e f = by (same_term u s) refl e (with_each test p kind us s)
  where
    by : (b : Bool) → same_term u s ≡ b → cond b true (has_formula us s) ≡ true → (has_formula us s ≡ true → test p (s, kind) ≡ true → any_with test p (each_of_kind kind us) ≡ true) → (test p (u, kind) || any_with test p (each_of_kind kind us)) ≡ true
    by true g h rest = first_true (test p (u, kind)) (any_with test p (each_of_kind kind us)) (ap (λ (x : Term). test p (x, kind)) (terms_are u s g) ∙ f)
    by false g h rest = second_true (test p (u, kind)) (any_with test p (each_of_kind kind us)) (rest h f)

with_back : (test : Kinded → Kinded → Bool) (p : Kinded) (qs rs : List Kinded) → any_with test p rs ≡ true → any_with test p (qs ++ rs) ≡ true
with_back test p [] rs e = e
with_back test p (q ∷ qs) rs e = second_true (test p q) (any_with test p (qs ++ rs)) (with_back test p qs rs e)

-- the kind of the other side of an equation
given_first : (test : Kinded → Kinded → Bool) (p : Kinded) (s t : Term) (kind : DataKind) (rs : List Kinded) → kind_given t ≡ Some kind → test p (s, kind) ≡ true → any_with test p (of_kind_given s (kind_given t) ++ rs) ≡ true
given_first test p s t kind rs e f = ap (λ (o : Option DataKind). any_with test p (of_kind_given s o ++ rs)) e ∙ first_true (test p (s, kind)) (any_with test p rs) f

given_last : (test : Kinded → Kinded → Bool) (p : Kinded) (s t : Term) (kind : DataKind) → kind_given t ≡ Some kind → test p (s, kind) ≡ true → any_with test p (of_kind_given s (kind_given t)) ≡ true
given_last test p s t kind e f = ap (λ (o : Option DataKind). any_with test p (of_kind_given s o)) e ∙ first_true (test p (s, kind)) false f

-- ---- literals that give and deny kinds

-- the term is said to be of the kind, or not to be
abbrev pub told_kind : Bool → Term → DataKind → Literal
told_kind holds s kind = record { atom = one (of_kind kind) s; holds = holds }

abbrev equation : Term → Term → Literal
equation v w = record { atom = two equal v w; holds = true }

two_kinds : (s : Term) (k l : DataKind) → same_kind k l ≡ false → in_two_kinds (s, k) (s, l) ≡ true
two_kinds s k l e = both_true (same_term s s) (not (same_kind k l)) (terms_self s) (ap not e)

one_kind : (s : Term) (k l : DataKind) → same_kind k l ≡ true → in_one_kind (s, k) (s, l) ≡ true
one_kind s k l e = both_true (same_term s s) (same_kind k l) (terms_self s) e

module _ (node : Node) (s t : Term) (k l : DataKind) where
  -- two literals give two kinds
  pub told_two : same_kind k l ≡ false → sort_in s ≡ val_sort → AreLinked node s t → clash_together node.literals (told_kind true s k) (told_kind true t l) ≡ true
  told_two e is link =
      first_true (any_pair in_two_kinds (kinds_given node.literals (told_kind true s k)) (kinds_given node.literals (told_kind true t l)))
      (any_pair in_one_kind (kinds_given node.literals (told_kind true s k)) (kinds_denied node.literals (told_kind true t l)) || any_pair in_one_kind (kinds_denied node.literals (told_kind true s k)) (kinds_given node.literals (told_kind true t l)))
      (first_true (any_with in_two_kinds (s, k) (kinds_given node.literals (told_kind true t l))) (any_pair in_two_kinds (each_of_kind k (equated_to node.literals s)) (kinds_given node.literals (told_kind true t l)))
      (with_each in_two_kinds (s, k) l (t ∷ equated_to node.literals t) s (linked_there node s t is link) (two_kinds s k l e)))

  -- a literal gives a kind that another denies
  pub told_denied : same_kind k l ≡ true → sort_in s ≡ val_sort → AreLinked node s t → clash_together node.literals (told_kind true s k) (told_kind false t l) ≡ true
  told_denied e is link =
      second_true (any_pair in_two_kinds (kinds_given node.literals (told_kind true s k)) (kinds_given node.literals (told_kind false t l)))
      (any_pair in_one_kind (kinds_given node.literals (told_kind true s k)) (kinds_denied node.literals (told_kind false t l)) || any_pair in_one_kind (kinds_denied node.literals (told_kind true s k)) (kinds_given node.literals (told_kind false t l)))
      (first_true (any_pair in_one_kind (kinds_given node.literals (told_kind true s k)) (kinds_denied node.literals (told_kind false t l))) (any_pair in_one_kind (kinds_denied node.literals (told_kind true s k)) (kinds_given node.literals (told_kind false t l)))
      (first_true (any_with in_one_kind (s, k) (kinds_denied node.literals (told_kind false t l))) (any_pair in_one_kind (each_of_kind k (equated_to node.literals s)) (kinds_denied node.literals (told_kind false t l)))
      (with_each in_one_kind (s, k) l (t ∷ equated_to node.literals t) s (linked_there node s t is link) (one_kind s k l e))))

  -- a literal gives one kind, and an equation gives that of its other side
  told_given : (v w : Term) → any_with in_two_kinds (s, k) (kinds_given node.literals (equation v w)) ≡ true → clash_together node.literals (told_kind true s k) (equation v w) ≡ true
  told_given v w e =
      first_true (any_pair in_two_kinds (kinds_given node.literals (told_kind true s k)) (kinds_given node.literals (equation v w)))
      (any_pair in_one_kind (kinds_given node.literals (told_kind true s k)) (kinds_denied node.literals (equation v w)) || any_pair in_one_kind (kinds_denied node.literals (told_kind true s k)) (kinds_given node.literals (equation v w)))
      (first_true (any_with in_two_kinds (s, k) (kinds_given node.literals (equation v w))) (any_pair in_two_kinds (each_of_kind k (equated_to node.literals s)) (kinds_given node.literals (equation v w))) e)

  pub given_other : same_kind k l ≡ false → kind_given t ≡ Some l → clash_together node.literals (told_kind true s k) (equation s t) ≡ true
  given_other e f = told_given s t (given_first in_two_kinds (s, k) s t l (of_kind_given t (kind_given s)) f (two_kinds s k l e))

  pub given_turned : same_kind k l ≡ false → kind_given t ≡ Some l → clash_together node.literals (told_kind true s k) (equation t s) ≡ true
  given_turned e f = told_given t s (with_back in_two_kinds (s, k) (of_kind_given t (kind_given s)) (of_kind_given s (kind_given t)) (given_last in_two_kinds (s, k) s t l f (two_kinds s k l e)))

  -- a literal denies the kind that an equation gives
  denied_given : (v w : Term) → any_with in_one_kind (t, l) (kinds_given node.literals (equation v w)) ≡ true → clash_together node.literals (told_kind false t l) (equation v w) ≡ true
  denied_given v w e =
      second_true (any_pair in_two_kinds (kinds_given node.literals (told_kind false t l)) (kinds_given node.literals (equation v w)))
      (any_pair in_one_kind (kinds_given node.literals (told_kind false t l)) (kinds_denied node.literals (equation v w)) || any_pair in_one_kind (kinds_denied node.literals (told_kind false t l)) (kinds_given node.literals (equation v w)))
      (second_true (any_pair in_one_kind (kinds_given node.literals (told_kind false t l)) (kinds_denied node.literals (equation v w))) (any_pair in_one_kind (kinds_denied node.literals (told_kind false t l)) (kinds_given node.literals (equation v w)))
      (first_true (any_with in_one_kind (t, l) (kinds_given node.literals (equation v w))) (any_pair in_one_kind (each_of_kind l (equated_to node.literals t)) (kinds_given node.literals (equation v w))) e))

  pub denied_other : same_kind l k ≡ true → kind_given s ≡ Some k → clash_together node.literals (told_kind false t l) (equation s t) ≡ true
  denied_other e f = denied_given s t (with_back in_one_kind (t, l) (of_kind_given s (kind_given t)) (of_kind_given t (kind_given s)) (given_last in_one_kind (t, l) t s k f (one_kind t l k e)))

  pub denied_turned : same_kind l k ≡ true → kind_given s ≡ Some k → clash_together node.literals (told_kind false t l) (equation t s) ≡ true
  denied_turned e f = denied_given t s (given_first in_one_kind (t, l) t s k (of_kind_given s (kind_given t)) f (one_kind t l k e))

  -- an equation between terms of two kinds
  pub given_two : same_kind k l ≡ false → kind_given s ≡ Some k → kind_given t ≡ Some l → clashes_alone (equation s t) ≡ true
  given_two e f g =
      second_true (are_apart (as_constant s) (as_constant t)) (of_two_kinds (kind_given s) (kind_given t))
      (ap (λ (o : Option DataKind). of_two_kinds o (kind_given t)) f ∙ (ap (λ (o : Option DataKind). of_two_kinds (Some k) o) g ∙ ap not e))

-- kinds that differ, in either order
pub kinds_turned : (k l : DataKind) → same_kind k l ≡ false → same_kind l k ≡ false
kinds_turned k l e = by (same_kind l k) refl
  where
    by : (b : Bool) → same_kind l k ≡ b → b ≡ false
    by true f = let is : same_kind k k ≡ false = ap (λ (x : DataKind). same_kind k x) (sym (kinds_are l k f)) ∙ e in let never : true ≡ false = sym (kinds_self k) ∙ is in absurd cc
    by false f = refl
