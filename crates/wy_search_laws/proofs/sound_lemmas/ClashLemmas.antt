-- No classes of a true node clash.
use Rattle.std.proofs.Common.{◌≡◌, ◌∙◌, ◌&&◌, ◌||◌, ℕ, List, [], ◌∷◌, ◌++◌, Bool, true, false, cond, not, Option, Some, None, refl, sym, ap}
use Rattle.wy_lemmas.proofs.Choices.{not_true as not_is_true, true_false as two_ways, both_parts as and_both}
use Rattle.wy_search_bounds.proofs.wy_check_laws_proofs.sound_lemmas.ChainLemmas.{IsTermSort}
use Rattle.wy_value.specs.Datum.{Datum}
use Rattle.wy_search_bounds.specs.wy_term.Data.{same_datum, is_of_kind}
use Rattle.wy_search_bounds.specs.wy_term.Term.{DataKind, Term, Of, no_parts, part, two, equal, of_kind}
use Rattle.wy_search_bounds.specs.wy_term.Same.{same_kind, same_term}
use Rattle.wy_search_bounds.specs.wy_term.Sorts.{Sort, int_sort, val_sort, formula_sort, sort_in}
use Rattle.wy_search_bounds.specs.wy_term.Meaning.{Names, Sense, sense}
use Rattle.wy_search_bounds.specs.wy_term.Rewriting.{as_constant, kind_given}
use Rattle.wy_search_bounds.proofs.wy_term_proofs.SameLemmas.{kinds_are}
use Rattle.wy_search_bounds.proofs.wy_facts_proofs.SenseLemmas.{datum_self}
use Rattle.wy_search_bounds.specs.wy_check_spec.judge.Node.{Literal, Node}
use Rattle.wy_search_bounds.specs.wy_check_spec.judge.Told.{AllTold, IsTrueNode}
use Rattle.wy_search_bounds.specs.wy_check_spec.valid.Kinds.{are_apart, of_two_kinds, Kinded, in_two_kinds, in_one_kind}
use Rattle.wy_search_bounds.specs.wy_search_spec.Standing.{is_term_sort, only_terms, standing, present}
use Rattle.wy_search_bounds.specs.wy_search_spec.Classes.{in_one_class, denies_equal, any_denies, constants_apart, any_apart, kind_by, kinds_by, own_kind, own_kinds, kinds_with, any_kinds, classes, classes_clash, clashes}
use Rattle.wy_search_bounds.proofs.wy_check_laws_proofs.sound_lemmas.Basics.{or_cases}
use Rattle.wy_search_bounds.proofs.wy_check_laws_proofs.sound_lemmas.KindLemmas.{clash_alone_never, dat, AllOfKind, given_is, one_kind, of_kind_both}
use Rattle.wy_search_laws.specs.sound.Closed.{AreLiterals}
use Rattle.wy_search_laws.proofs.sound_lemmas.ClassLemmas.{AreTerms, Respects, one_class, classes_respect}

-- ---- the terms present

term_sort_is : (s : Sort) → is_term_sort s ≡ true → IsTermSort s
term_sort_is int_sort e = tt
term_sort_is val_sort e = tt
term_sort_is formula_sort e = absurd cc

only_terms_are : (ts : List Term) → AreTerms (only_terms ts)
only_terms_are [] = tt
only_terms_are (t ∷ ts) = by (is_term_sort (sort_in t)) refl (only_terms_are ts)
  where
    by : (b : Bool) → is_term_sort (sort_in t) ≡ b → AreTerms (only_terms ts) → AreTerms (cond b (t ∷ only_terms ts) (only_terms ts))
    by true e rest = (term_sort_is (sort_in t) e, rest)
    by false e rest = rest

-- the classes of a true node respect senses
pub node_respects : (names : Names) (node : Node) → IsTrueNode names node → AreLiterals node.literals → Respects names (present node) (classes (present node) node.literals)
node_respects names node told are = classes_respect names (present node) node.literals (only_terms_are (standing node)) told.literals are

-- ---- kinds

given_kind : (names : Names) (holds : Bool) (a : Term) → (sense names a).truth ≡ holds → AllOfKind names true (kind_by true holds a)
given_kind names true (Of (of_kind kind) (part v no_parts)) told = (told, tt)
given_kind names holds a told = tt

denied_kind : (names : Names) (holds : Bool) (a : Term) → (sense names a).truth ≡ holds → AllOfKind names false (kind_by false holds a)
denied_kind names false (Of (of_kind kind) (part v no_parts)) told = (told, tt)
denied_kind names holds a told = tt

given_kinds : (names : Names) (ls : List Literal) → AllTold names ls → AllOfKind names true (kinds_by true ls)
given_kinds names [] told = tt
given_kinds names (l ∷ ls) told = of_kind_both names true (kind_by true l.holds l.atom) (kinds_by true ls) (given_kind names l.holds l.atom told.0) (given_kinds names ls told.1)

denied_kinds : (names : Names) (ls : List Literal) → AllTold names ls → AllOfKind names false (kinds_by false ls)
denied_kinds names [] told = tt
denied_kinds names (l ∷ ls) told = of_kind_both names false (kind_by false l.holds l.atom) (kinds_by false ls) (denied_kind names l.holds l.atom told.0) (denied_kinds names ls told.1)

own_is : (names : Names) (t : Term) (o : Option DataKind) → kind_given t ≡ o → AllOfKind names true (own_kind t o)
own_is names t None e = tt
own_is names t (Some kind) e = (given_is names t kind e, tt)

own_are : (names : Names) (ts : List Term) → AllOfKind names true (own_kinds ts)
own_are names [] = tt
own_are names (t ∷ ts) = of_kind_both names true (own_kind t (kind_given t)) (own_kinds ts) (own_is names t (kind_given t) refl) (own_are names ts)

-- ---- clashes

module _ (names : Names) (ts : List Term) (labels : List ℕ) (known : Respects names ts labels) where
  same_data : (s t : Term) → in_one_class ts labels s t ≡ true → dat names s ≡ dat names t
  same_data s t e = ap (λ (x : Sense). x.datum) (one_class names ts labels known s t e)

  equal_told : (s t : Term) → in_one_class ts labels s t ≡ true → same_datum (dat names s) (dat names t) ≡ true
  equal_told s t e = ap (λ (d : Datum). same_datum (dat names s) d) (sym (same_data s t e)) ∙ datum_self (dat names s)

  denial_never : (holds : Bool) (a : Term) → (sense names a).truth ≡ holds → denies_equal ts labels holds a ≡ true → ⊥
  denial_never false (Of equal (part v (part w no_parts))) told e = two_ways (same_datum (dat names v) (dat names w)) (equal_told v w e) told
  denial_never holds a told e = absurd cc

  denials_never : (ls : List Literal) → AllTold names ls → any_denies ts labels ls ≡ true → ⊥
  denials_never [] told e = absurd cc
  denials_never (l ∷ ls) told e =
      or_cases (denies_equal ts labels l.holds l.atom) (any_denies ts labels ls) ⊥ e
      (λ h. denial_never l.holds l.atom told.0 h) (λ h. denials_never ls told.1 h)

  first_true : (a b : Bool) → a ≡ true → (a || b) ≡ true
  first_true a b e = ap (λ (x : Bool). x || b) e

  pair_never : (s t : Term) → (are_apart (as_constant s) (as_constant t) && in_one_class ts labels s t) ≡ true → ⊥
  pair_never s t e =
      let h = and_both (are_apart (as_constant s) (as_constant t)) (in_one_class ts labels s t) e in
      clash_alone_never names (record { atom = two equal s t; holds = true }) (equal_told s t h.1) (first_true (are_apart (as_constant s) (as_constant t)) (of_two_kinds (kind_given s) (kind_given t)) h.0)

  apart_from_never : (s : Term) (us : List Term) → constants_apart ts labels s us ≡ true → ⊥
  apart_from_never s [] e = absurd cc
  apart_from_never s (t ∷ us) e =
      or_cases (are_apart (as_constant s) (as_constant t) && in_one_class ts labels s t) (constants_apart ts labels s us) ⊥ e
      (λ h. pair_never s t h) (λ h. apart_from_never s us h)

  apart_never : (us : List Term) → any_apart ts labels us ≡ true → ⊥
  apart_never [] e = absurd cc
  apart_never (s ∷ us) e = or_cases (constants_apart ts labels s ts) (any_apart ts labels us) ⊥ e (λ h. apart_from_never s ts h) (λ h. apart_never us h)

  -- the kind of the second, of the first term
  moved_kind : (p q : Kinded) (b : Bool) → in_one_class ts labels p.0 q.0 ≡ true → is_of_kind q.1 (dat names q.0) ≡ b → is_of_kind q.1 (dat names p.0) ≡ b
  moved_kind p q b e f = ap (is_of_kind q.1) (same_data p.0 q.0 e) ∙ f

  two_never : (p q : Kinded) → is_of_kind p.1 (dat names p.0) ≡ true → is_of_kind q.1 (dat names p.0) ≡ true → in_two_kinds p (p.0, q.1) ≡ true → ⊥
  two_never p q f g e =
      let h = and_both (same_term p.0 p.0) (not (same_kind p.1 q.1)) e in
      two_ways (same_kind p.1 q.1) (one_kind (dat names p.0) p.1 q.1 f g) (not_is_true (same_kind p.1 q.1) h.1)

  denied_never : (p q : Kinded) → is_of_kind p.1 (dat names p.0) ≡ true → is_of_kind q.1 (dat names p.0) ≡ false → in_one_kind p (p.0, q.1) ≡ true → ⊥
  denied_never p q f g e =
      let h = and_both (same_term p.0 p.0) (same_kind p.1 q.1) e in
      two_ways (is_of_kind p.1 (dat names p.0)) f (ap (λ (k : DataKind). is_of_kind k (dat names p.0)) (kinds_are p.1 q.1 h.1) ∙ g)

  with_never : (test : Kinded → Kinded → Bool) (b : Bool) → ((p q : Kinded) → is_of_kind p.1 (dat names p.0) ≡ true → is_of_kind q.1 (dat names p.0) ≡ b → test p (p.0, q.1) ≡ true → ⊥) → (p : Kinded) (qs : List Kinded) → is_of_kind p.1 (dat names p.0) ≡ true → AllOfKind names b qs → kinds_with test ts labels p qs ≡ true → ⊥
  with_never test b never p [] f g e = absurd cc
  with_never test b never p (q ∷ qs) f g e =
      or_cases (in_one_class ts labels p.0 q.0 && test p (p.0, q.1)) (kinds_with test ts labels p qs) ⊥ e
      (λ h. let k = and_both (in_one_class ts labels p.0 q.0) (test p (p.0, q.1)) h in never p q f (moved_kind p q b k.0 g.0) k.1)
      (λ h. with_never test b never p qs f g.1 h)

  kinds_never : (test : Kinded → Kinded → Bool) (b : Bool) → ((p q : Kinded) → is_of_kind p.1 (dat names p.0) ≡ true → is_of_kind q.1 (dat names p.0) ≡ b → test p (p.0, q.1) ≡ true → ⊥) → (ps qs : List Kinded) → AllOfKind names true ps → AllOfKind names b qs → any_kinds test ts labels ps qs ≡ true → ⊥
  kinds_never test b never [] qs f g e = absurd cc
  kinds_never test b never (p ∷ ps) qs f g e =
      or_cases (kinds_with test ts labels p qs) (any_kinds test ts labels ps qs) ⊥ e
      (λ h. with_never test b never p qs f.0 g h) (λ h. kinds_never test b never ps qs f.1 g h)

  pub clash_never : (ls : List Literal) → AllTold names ls → classes_clash ts labels ls ≡ true → ⊥
  clash_never ls told e =
      let kinds = kinds_by true ls ++ own_kinds ts in
      let are = of_kind_both names true (kinds_by true ls) (own_kinds ts) (given_kinds names ls told) (own_are names ts) in
      or_cases (any_denies ts labels ls) (any_apart ts labels ts || (any_kinds in_two_kinds ts labels kinds kinds || any_kinds in_one_kind ts labels kinds (kinds_by false ls))) ⊥ e
      (λ h. denials_never ls told h)
      (λ h. or_cases (any_apart ts labels ts) (any_kinds in_two_kinds ts labels kinds kinds || any_kinds in_one_kind ts labels kinds (kinds_by false ls)) ⊥ h
      (λ g. apart_never ts g)
      (λ g. or_cases (any_kinds in_two_kinds ts labels kinds kinds) (any_kinds in_one_kind ts labels kinds (kinds_by false ls)) ⊥ g
      (λ k. kinds_never in_two_kinds true two_never kinds kinds are are k)
      (λ k. kinds_never in_one_kind false denied_never kinds (kinds_by false ls) are (denied_kinds names ls told) k)))

-- a true node's classes don't clash
pub clashes_never : (names : Names) (node : Node) → IsTrueNode names node → AreLiterals node.literals → clashes node ≡ true → ⊥
clashes_never names node told are e = clash_never names (present node) (classes (present node) node.literals) (node_respects names node told are) node.literals told.literals e
