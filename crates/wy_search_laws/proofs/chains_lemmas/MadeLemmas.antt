-- What folding makes of an equation, and of the two bounds between numbers.
use Rattle.std.proofs.Common.{◌≡◌, ◌∙◌, Bool, true, false, cond, ℤ, Option, Some, None, refl, sym, ap, arith}
use Rattle.std.proofs.lemmas.Int.{ints}
use Rattle.wy_lemmas.proofs.Choices.{not_true as not_is_true, true_false as two_ways}
use Rattle.wy_lemmas.proofs.Options.{some_is}
use Rattle.wy_value.specs.Datum.{Datum, Null, Truth, Whole}
use Rattle.wy_search_bounds.specs.wy_term.Data.{same_datum}
use Rattle.wy_search_bounds.specs.wy_term.Term as term
use Rattle.wy_search_bounds.specs.wy_term.Term.{DataKind, Term, Of, no_parts, part, one, two, at_most, equal, of_kind}
use Rattle.wy_search_bounds.specs.wy_term.Same.{same_kind, same_term}
use Rattle.wy_search_bounds.specs.wy_term.Folding.{folded}
use Rattle.wy_search_bounds.specs.wy_term.Meaning as meaning
use Rattle.wy_search_bounds.specs.wy_term.Rewriting.{as_number, as_bool, is_truth, as_constant, as_whole, decided, False, True, fold_order, fold_bool, fold_apart, kind_given, fold_kind}
use Rattle.wy_search_bounds.specs.wy_term.Sorts.{val_sort, sort_in}
use Rattle.wy_search_bounds.proofs.wy_term_proofs.SameLemmas.{terms_are, terms_self}
use Rattle.wy_search_bounds.specs.wy_term_subst.sorted.Sorted.{IsSorted}
use Rattle.wy_search_bounds.specs.wy_facts.Made.{is_at_most, is_equal}
use Rattle.wy_search_bounds.proofs.wy_facts_proofs.SenseLemmas.{datum_self}
use Rattle.wy_search_bounds.specs.wy_check_spec.valid.Kinds.{are_apart}
use Rattle.wy_search_bounds.proofs.wy_check_laws_proofs.sound_lemmas.ChainLemmas.{data_are_equal}

-- ---- constants

-- a number of sorted parts is that number alone
number_is : (s : Term) (z : ℤ) → IsSorted s → as_number s ≡ Some z → s ≡ term.Number z
number_is (Of (term.number y) no_parts) z is e = ap term.Number (some_is y z e)
number_is (Of (term.number y) (part t ps)) z is e = absurd is.0
number_is s z is e = absurd cc

whole_is : (o : Option ℤ) (d : Datum) → as_whole o ≡ Some d → (z : ℤ) × (o ≡ Some z) × (d ≡ Whole z)
whole_is None d e = absurd cc
whole_is (Some z) d e = (z, refl, cc)

-- the term that a constant is
abbrev of_datum : Datum → Term
of_datum Null = term.leaf term.null
of_datum (Truth b) = term.leaf (term.truth b)
of_datum (Whole z) = term.one term.int (term.Number z)
of_datum d = term.leaf term.null

constant_is : (s : Term) (d : Datum) → IsSorted s → as_constant s ≡ Some d → s ≡ of_datum d
constant_is (Of term.null no_parts) d is e = ap of_datum (some_is Null d e)
constant_is (Of term.null (part t ps)) d is e = absurd is.0
constant_is (Of (term.truth b) no_parts) d is e = ap of_datum (some_is (Truth b) d e)
constant_is (Of (term.truth b) (part t ps)) d is e = absurd is.0
constant_is (Of term.int (part s no_parts)) d is e =
    let h = whole_is (as_number s) d e in
    ap (λ (t : Term). term.one term.int t) (number_is s h.0 is.1 h.1) ∙ ap of_datum (sym h.2)
constant_is s d is e = absurd cc

not_truth : (s : Term) → as_constant s ≡ None → is_truth s ≡ false
not_truth (Of (term.truth b) ps) e = absurd cc
not_truth s e = refl

same_turned : (s t : Term) → same_term s t ≡ false → same_term t s ≡ false
same_turned s t e = by (same_term t s) refl
  where
    by : (b : Bool) → same_term t s ≡ b → b ≡ false
    by true f = absurd (two_ways (same_term s t) (ap (λ (x : Term). same_term s x) (terms_are t s f) ∙ terms_self s) e)
    by false f = refl

-- ---- equations

-- folding knows that two terms are one, or that they differ; or else it keeps their equation, or the turned one
pub data Makes (s t : Term) : Type 0 where
  one_term : s ≡ t → Makes s t
  never : is_equal s t ≡ False → Makes s t
  stays : is_equal s t ≡ two equal s t → Makes s t
  turns : is_equal t s ≡ two equal t s → Makes s t

-- an equation of two terms that differ, by what constants they are
equal_by : (s t : Term) → same_term s t ≡ false → (o p : Option Datum) → as_constant s ≡ o → as_constant t ≡ p → is_equal s t ≡ fold_apart s t o p
equal_by s t f o p g h =
    ap (λ (b : Bool). cond b True (fold_apart s t (as_constant s) (as_constant t))) f
    ∙ (ap (λ (x : Option Datum). fold_apart s t x (as_constant t)) g ∙ ap (λ (x : Option Datum). fold_apart s t o x) h)

stays_by : (e : Term) (o : Option Term) (b : Bool) → b ≡ false → fold_bool e o b ≡ e
stays_by e None b f = refl
stays_by e (Some g) true f = absurd cc
stays_by e (Some g) false f = refl

-- two constants
constants_make : (s t : Term) (d e : Datum) → IsSorted s → IsSorted t → same_term s t ≡ false → as_constant s ≡ Some d → as_constant t ≡ Some e → (b : Bool) → same_datum d e ≡ b → Makes s t
constants_make s t d e is it f g h true k = one_term (constant_is s d is g ∙ (ap of_datum (data_are_equal d e k) ∙ sym (constant_is t e it h)))
constants_make s t d e is it f g h false k = never (equal_by s t f (Some d) (Some e) g h ∙ ap decided k)

-- the turned equation, where the first term is no constant
turned_makes : (s t : Term) → same_term s t ≡ false → as_constant s ≡ None → (p : Option Datum) → as_constant t ≡ p → is_equal t s ≡ two equal t s
turned_makes s t f g (Some e) h = equal_by t s (same_turned s t f) (Some e) None h g
turned_makes s t f g None h = equal_by t s (same_turned s t f) None None h g ∙ stays_by (two equal t s) (as_bool t) (is_truth s) (not_truth s g)

apart_make : (s t : Term) → IsSorted s → IsSorted t → same_term s t ≡ false → (o p : Option Datum) → as_constant s ≡ o → as_constant t ≡ p → Makes s t
apart_make s t is it f (Some d) (Some e) g h = constants_make s t d e is it f g h (same_datum d e) refl
apart_make s t is it f (Some d) None g h = stays (equal_by s t f (Some d) None g h)
apart_make s t is it f None p g h = turns (turned_makes s t f g p h)

pub equation_makes : (s t : Term) → IsSorted s → IsSorted t → Makes s t
equation_makes s t is it = by (same_term s t) refl
  where
    by : (b : Bool) → same_term s t ≡ b → Makes s t
    by true f = one_term (terms_are s t f)
    by false f = apart_make s t is it f (as_constant s) (as_constant t) refl refl

-- ---- bounds

-- the same of two bounds
pub data MakesBoth (s t : Term) : Type 0 where
  one_number : s ≡ t → MakesBoth s t
  never_first : is_at_most s t ≡ False → is_at_most t s ≡ True → MakesBoth s t
  never_last : is_at_most t s ≡ False → MakesBoth s t
  stay : is_at_most s t ≡ two at_most s t → is_at_most t s ≡ two at_most t s → MakesBoth s t

both_orders : (a b : ℤ) → meaning.at_most a b ≡ true → meaning.at_most b a ≡ true → a ≡ b
both_orders a b e f = grind (arith, ints)

-- a bound between two terms that differ, by what numbers they are
bound_by : (s t : Term) → same_term s t ≡ false → (o p : Option ℤ) → as_number s ≡ o → as_number t ≡ p → is_at_most s t ≡ fold_order (two at_most s t) o p
bound_by s t f o p g h =
    ap (λ (b : Bool). cond b True (fold_order (two at_most s t) (as_number s) (as_number t))) f
    ∙ (ap (λ (x : Option ℤ). fold_order (two at_most s t) x (as_number t)) g ∙ ap (λ (x : Option ℤ). fold_order (two at_most s t) o x) h)

-- two numbers
ordered_make : (s t : Term) (a b : ℤ) → IsSorted s → IsSorted t → same_term s t ≡ false → as_number s ≡ Some a → as_number t ≡ Some b → (x y : Bool) → meaning.at_most a b ≡ x → meaning.at_most b a ≡ y → MakesBoth s t
ordered_make s t a b is it f g h true true k l = one_number (number_is s a is g ∙ (ap term.Number (both_orders a b k l) ∙ sym (number_is t b it h)))
ordered_make s t a b is it f g h false true k l = never_first (bound_by s t f (Some a) (Some b) g h ∙ ap decided k) (bound_by t s (same_turned s t f) (Some b) (Some a) h g ∙ ap decided l)
ordered_make s t a b is it f g h x false k l = never_last (bound_by t s (same_turned s t f) (Some b) (Some a) h g ∙ ap decided l)

numbers_make : (s t : Term) → IsSorted s → IsSorted t → same_term s t ≡ false → (o p : Option ℤ) → as_number s ≡ o → as_number t ≡ p → MakesBoth s t
numbers_make s t is it f (Some a) (Some b) g h = ordered_make s t a b is it f g h (meaning.at_most a b) (meaning.at_most b a) refl refl
numbers_make s t is it f (Some a) None g h = stay (bound_by s t f (Some a) None g h) (bound_by t s (same_turned s t f) None (Some a) h g)
numbers_make s t is it f None (Some b) g h = stay (bound_by s t f None (Some b) g h) (bound_by t s (same_turned s t f) (Some b) None h g)
numbers_make s t is it f None None g h = stay (bound_by s t f None None g h) (bound_by t s (same_turned s t f) None None h g)

pub bounds_make : (s t : Term) → IsSorted s → IsSorted t → MakesBoth s t
bounds_make s t is it = by (same_term s t) refl
  where
    by : (b : Bool) → same_term s t ≡ b → MakesBoth s t
    by true f = one_number (terms_are s t f)
    by false f = numbers_make s t is it f (as_number s) (as_number t) refl refl

-- ---- different constants

constant_val : (s : Term) (d : Datum) → as_constant s ≡ Some d → sort_in s ≡ val_sort
constant_val (Of term.null ps) d e = refl
constant_val (Of (term.truth b) ps) d e = refl
constant_val (Of term.int (part s no_parts)) d e = refl
constant_val s d e = absurd cc

-- two constants that differ are two Val terms, of whose equation folding makes `false`
pub record AreApart (s t : Term) : Type 0 where
  pub differ : s ≡ t → ⊥
  pub folds : is_equal s t ≡ False
  pub first : sort_in s ≡ val_sort

apart_self : (o : Option Datum) → are_apart o o ≡ true → ⊥
apart_self None e = absurd cc
apart_self (Some d) e = two_ways (same_datum d d) (datum_self d) (not_is_true (same_datum d d) e)

apart_differ : (s t : Term) → are_apart (as_constant s) (as_constant t) ≡ true → s ≡ t → ⊥
apart_differ s t e same = apart_self (as_constant s) (ap (λ (x : Term). are_apart (as_constant s) (as_constant x)) same ∙ e)

apart_unlike : (s t : Term) → are_apart (as_constant s) (as_constant t) ≡ true → same_term s t ≡ false
apart_unlike s t e = by (same_term s t) refl
  where
    by : (b : Bool) → same_term s t ≡ b → b ≡ false
    by true f = absurd (apart_differ s t e (terms_are s t f))
    by false f = refl

apart_by : (s t : Term) → are_apart (as_constant s) (as_constant t) ≡ true → (o p : Option Datum) → as_constant s ≡ o → as_constant t ≡ p → are_apart o p ≡ true → AreApart s t
apart_by s t e None p f g h = absurd cc
apart_by s t e (Some d) None f g h = absurd cc
apart_by s t e (Some d) (Some k) f g h = record {
  differ = apart_differ s t e;
  folds = equal_by s t (apart_unlike s t e) (Some d) (Some k) f g ∙ ap decided (not_is_true (same_datum d k) h);
  first = constant_val s d f;
}

pub apart_constants : (s t : Term) → are_apart (as_constant s) (as_constant t) ≡ true → AreApart s t
apart_constants s t e = apart_by s t e (as_constant s) (as_constant t) refl refl e

-- ---- kinds

pub given_val : (s : Term) (k : DataKind) → kind_given s ≡ Some k → sort_in s ≡ val_sort
given_val (Of term.null ps) k e = refl
given_val (Of (term.truth b) ps) k e = refl
given_val (Of term.int ps) k e = refl
given_val (Of term.bool ps) k e = refl
given_val (Of term.array ps) k e = refl
given_val (Of term.repeat ps) k e = refl
given_val (Of (term.fields names) ps) k e = refl
given_val s k e = absurd cc

-- a folded test of a kind is of no term whose kind is known
pub unknown_kind : (s : Term) (k l : DataKind) → folded (one (of_kind k) s) ≡ one (of_kind k) s → kind_given s ≡ Some l → ⊥
unknown_kind s k l e f = by (same_kind l k) (ap (λ (o : Option DataKind). fold_kind k s o) (sym f) ∙ e)
  where
    by : (b : Bool) → decided b ≡ one (of_kind k) s → ⊥
    by true g = absurd cc
    by false g = absurd cc
