-- Literals that clash in a node clash in each that has its literals.
use Rattle.std.proofs.Common.{◌≡◌, ◌∙◌, List, [], ◌∷◌, ◌++◌, Bool, true, false, cond, ◌||◌, refl, ap}
use Rattle.wy_lemmas.proofs.Choices.{or_left as first_true, or_right as second_true}
use Rattle.wy_term.specs.Term.{DataKind, Term, Of, no_parts, part, equal, of_kind}
use Rattle.wy_term.specs.Same.{same_term}
use Rattle.wy_prove_drafts.specs.wy_check_spec.judge.Node.{Literal, Node, same_literal, has_literal, has_formula}
use Rattle.wy_prove_drafts.specs.wy_check_spec.valid.Kinds.{Kinded, sides_of, equated_to, each_of_kind, given_by, kinds_given, denied_by, kinds_denied, in_two_kinds, in_one_kind, any_with, any_pair, clash_together}
use Rattle.wy_prove_drafts.proofs.wy_check_laws_proofs.sound_lemmas.Basics.{or_cases}
use Rattle.wy_prove_drafts.specs.wy_search_laws.chains.Chains.{HasLiterals}
use Rattle.wy_prove_drafts.proofs.wy_search_laws_proofs.chains_lemmas.LiteralLemmas.{has_first, has_later, literals_are}
use Rattle.wy_prove_drafts.proofs.wy_search_laws_proofs.chains_lemmas.KindLemmas.{formula_front, formula_back, formula_first, formula_later, with_each}

-- ---- terms that are equated

-- a term of two lists is one of the first or of the second
formula_cases : (xs ys : List Term) (t : Term) (P : Type 0) → has_formula (xs ++ ys) t ≡ true → (has_formula xs t ≡ true → P) → (has_formula ys t ≡ true → P) → P
formula_cases [] ys t P e f g = g e
formula_cases (x ∷ xs) ys t P e f g = by (same_term x t) refl e (formula_cases xs ys t P)
  where
    by : (b : Bool) → same_term x t ≡ b → cond b true (has_formula (xs ++ ys) t) ≡ true → (has_formula (xs ++ ys) t ≡ true → (has_formula xs t ≡ true → P) → (has_formula ys t ≡ true → P) → P) → P
    by true is h rest = f (ap (λ (c : Bool). cond c true (has_formula xs t)) is)
    by false is h rest = rest h (λ k. f (ap (λ (c : Bool). cond c true (has_formula xs t)) is ∙ k)) g

-- the literals are among these
record AreAmong (ks ls : List Literal) : Type 0 where
  there : (l : Literal) → has_literal ks l ≡ true → has_literal ls l ≡ true

-- the other side of a literal that is there
side_there : (ls : List Literal) (l : Literal) (s t : Term) → has_literal ls l ≡ true → has_formula (sides_of l.holds l.atom s) t ≡ true → has_formula (equated_to ls s) t ≡ true
side_there [] l s t e f = absurd cc
side_there (k ∷ ls) l s t e f = by (same_literal k l) refl e (side_there ls l s t)
  where
    by : (b : Bool) → same_literal k l ≡ b → cond b true (has_literal ls l) ≡ true → (has_literal ls l ≡ true → has_formula (sides_of l.holds l.atom s) t ≡ true → has_formula (equated_to ls s) t ≡ true) → has_formula (sides_of k.holds k.atom s ++ equated_to ls s) t ≡ true
    by true g h rest = formula_front (sides_of k.holds k.atom s) (equated_to ls s) t (ap (λ (x : Literal). has_formula (sides_of x.holds x.atom s) t) (literals_are k l g) ∙ f)
    by false g h rest = formula_back (sides_of k.holds k.atom s) (equated_to ls s) t (rest h f)

equated_more : (ks ls : List Literal) (s t : Term) → AreAmong ks ls → has_formula (equated_to ks s) t ≡ true → has_formula (equated_to ls s) t ≡ true
equated_more [] ls s t h e = absurd cc
equated_more (k ∷ ks) ls s t h e =
    formula_cases (sides_of k.holds k.atom s) (equated_to ks s) t (has_formula (equated_to ls s) t ≡ true) e
    (λ f. side_there ls k s t (h.there k (has_first k ks)) f)
    (λ f. equated_more ks ls s t (record { there = λ l g. h.there l (has_later k l ks g) }) f)

-- ---- kinds among others

-- whatever is met by one of the first is met by one of the second
abbrev AreMet : List Kinded → List Kinded → Type 0
AreMet ps qs = (test : Kinded → Kinded → Bool) (p : Kinded) → any_with test p ps ≡ true → any_with test p qs ≡ true

each_met : (kind : DataKind) (xs ys : List Term) → ((t : Term) → has_formula xs t ≡ true → has_formula ys t ≡ true) → AreMet (each_of_kind kind xs) (each_of_kind kind ys)
each_met kind [] ys h test p e = absurd cc
each_met kind (x ∷ xs) ys h test p e =
    or_cases (test p (x, kind)) (any_with test p (each_of_kind kind xs)) (any_with test p (each_of_kind kind ys) ≡ true) e
    (λ f. with_each test p kind ys x (h x (formula_first x xs)) f)
    (λ f. each_met kind xs ys (λ t g. h t (formula_later x t xs g)) test p f)

-- some pair is met where some kind has one beside it
pair_met : (test : Kinded → Kinded → Bool) (p : Kinded) (ps qs : List Kinded) → any_pair test ps qs ≡ true → any_with (λ (o x : Kinded). any_with test x qs) p ps ≡ true
pair_met test p [] qs e = absurd cc
pair_met test p (x ∷ ps) qs e =
    or_cases (any_with test x qs) (any_pair test ps qs) (any_with (λ (o y : Kinded). any_with test y qs) p (x ∷ ps) ≡ true) e
    (λ f. first_true (any_with test x qs) (any_with (λ (o y : Kinded). any_with test y qs) p ps) f)
    (λ f. second_true (any_with test x qs) (any_with (λ (o y : Kinded). any_with test y qs) p ps) (pair_met test p ps qs f))

met_pair : (test : Kinded → Kinded → Bool) (p : Kinded) (ps qs : List Kinded) → any_with (λ (o x : Kinded). any_with test x qs) p ps ≡ true → any_pair test ps qs ≡ true
met_pair test p [] qs e = absurd cc
met_pair test p (x ∷ ps) qs e =
    or_cases (any_with test x qs) (any_with (λ (o y : Kinded). any_with test y qs) p ps) (any_pair test (x ∷ ps) qs ≡ true) e
    (λ f. first_true (any_with test x qs) (any_pair test ps qs) f)
    (λ f. second_true (any_with test x qs) (any_pair test ps qs) (met_pair test p ps qs f))

second_more : (test : Kinded → Kinded → Bool) (ps qs rs : List Kinded) → AreMet qs rs → any_pair test ps qs ≡ true → any_pair test ps rs ≡ true
second_more test [] qs rs h e = absurd cc
second_more test (p ∷ ps) qs rs h e =
    or_cases (any_with test p qs) (any_pair test ps qs) (any_pair test (p ∷ ps) rs ≡ true) e
    (λ f. first_true (any_with test p rs) (any_pair test ps rs) (h test p f))
    (λ f. second_true (any_with test p rs) (any_pair test ps rs) (second_more test ps qs rs h f))

pair_more : (test : Kinded → Kinded → Bool) (ps qs rs os : List Kinded) → AreMet ps rs → AreMet qs os → any_pair test ps qs ≡ true → any_pair test rs os ≡ true
pair_more test [] qs rs os f g e = absurd cc
pair_more test (p ∷ ps) qs rs os f g e = second_more test rs qs os g (met_pair test p rs qs (f (λ (o x : Kinded). any_with test x qs) p (pair_met test p (p ∷ ps) qs e)))

-- ---- literals

module _ (n m : Node) (more : HasLiterals n m) where
  among : AreAmong n.literals m.literals
  among = record { there = more.has }

  terms_more : (s t : Term) → has_formula (s ∷ equated_to n.literals s) t ≡ true → has_formula (s ∷ equated_to m.literals s) t ≡ true
  terms_more s t e = by (same_term s t) e
    where
      by : (b : Bool) → cond b true (has_formula (equated_to n.literals s) t) ≡ true → cond b true (has_formula (equated_to m.literals s) t) ≡ true
      by true f = refl
      by false f = equated_more n.literals m.literals s t among f

  given_more : (holds : Bool) (a : Term) → AreMet (given_by holds a n.literals) (given_by holds a m.literals)
  given_more true (Of (of_kind kind) (part s no_parts)) = each_met kind (s ∷ equated_to n.literals s) (s ∷ equated_to m.literals s) (terms_more s)
  given_more true (Of equal (part v (part w no_parts))) = λ test p e. e
  given_more holds a = λ test p e. absurd cc

  denied_more : (holds : Bool) (a : Term) → AreMet (denied_by holds a n.literals) (denied_by holds a m.literals)
  denied_more false (Of (of_kind kind) (part s no_parts)) = each_met kind (s ∷ equated_to n.literals s) (s ∷ equated_to m.literals s) (terms_more s)
  denied_more holds a = λ test p e. absurd cc

  pub together_more : (l k : Literal) → clash_together n.literals l k ≡ true → clash_together m.literals l k ≡ true
  together_more l k e =
      or_cases (any_pair in_two_kinds (kinds_given n.literals l) (kinds_given n.literals k)) (any_pair in_one_kind (kinds_given n.literals l) (kinds_denied n.literals k) || any_pair in_one_kind (kinds_denied n.literals l) (kinds_given n.literals k)) (clash_together m.literals l k ≡ true) e
      (λ f. first_true (any_pair in_two_kinds (kinds_given m.literals l) (kinds_given m.literals k)) (others m) (pair_more in_two_kinds (kinds_given n.literals l) (kinds_given n.literals k) (kinds_given m.literals l) (kinds_given m.literals k) (given_more l.holds l.atom) (given_more k.holds k.atom) f))
      (λ f. second_true (any_pair in_two_kinds (kinds_given m.literals l) (kinds_given m.literals k)) (others m)
      (or_cases (any_pair in_one_kind (kinds_given n.literals l) (kinds_denied n.literals k)) (any_pair in_one_kind (kinds_denied n.literals l) (kinds_given n.literals k)) (others m ≡ true) f
      (λ g. first_true (any_pair in_one_kind (kinds_given m.literals l) (kinds_denied m.literals k)) (any_pair in_one_kind (kinds_denied m.literals l) (kinds_given m.literals k)) (pair_more in_one_kind (kinds_given n.literals l) (kinds_denied n.literals k) (kinds_given m.literals l) (kinds_denied m.literals k) (given_more l.holds l.atom) (denied_more k.holds k.atom) g))
      (λ g. second_true (any_pair in_one_kind (kinds_given m.literals l) (kinds_denied m.literals k)) (any_pair in_one_kind (kinds_denied m.literals l) (kinds_given m.literals k)) (pair_more in_one_kind (kinds_denied n.literals l) (kinds_given n.literals k) (kinds_denied m.literals l) (kinds_given m.literals k) (denied_more l.holds l.atom) (given_more k.holds k.atom) g))))
    where
      others : Node → Bool
      others x = any_pair in_one_kind (kinds_given x.literals l) (kinds_denied x.literals k) || any_pair in_one_kind (kinds_denied x.literals l) (kinds_given x.literals k)
