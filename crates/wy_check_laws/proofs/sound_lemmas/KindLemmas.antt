-- No two true literals clash.
use Rattle.std.proofs.Common.{◌≡◌, ℕ, List, [], ◌∷◌, ◌++◌, Bool, true, false, cond, not, ◌&&◌, ◌||◌, ℤ, Option, Some, None, refl, sym, ap, ◌∙◌}
use Rattle.std.specs.Prelude.{bytes_eq}
use Rattle.wy_lemmas.proofs.Choices.{not_true as not_is_true, true_false as two_ways, both_parts as and_both}
use Rattle.wy_lemmas.proofs.Lists.{bytes_are}
use Rattle.wy_check_spec.specs.wy_value.Datum.{Datum, Null, Truth, Whole, Array, Record, Fields, no_fields}
use Rattle.wy_check_spec.specs.wy_value.Datum as datum
use Rattle.wy_check_spec.specs.wy_term.Data.{same_datum, is_of_kind, has_names}
use Rattle.wy_check_spec.specs.wy_term.Term as term
use Rattle.wy_check_spec.specs.wy_term.Term.{DataKind, null_kind, bool_kind, int_kind, array_kind, record_kind, Term, Of, no_parts, part, equal, of_kind}
use Rattle.wy_check_spec.specs.wy_term.Same.{same_kind, same_names, same_term}
use Rattle.wy_check_spec.specs.wy_term.Meaning.{Names, sense}
use Rattle.wy_check_spec.specs.wy_term.Rewriting.{as_number, as_whole, as_constant, kind_given, fold_kind, decided}
use Rattle.wy_check_spec.proofs.wy_term_proofs.SameLemmas.{terms_are, kinds_are, kinds_self}
use Rattle.wy_check_spec.proofs.wy_facts_proofs.SenseLemmas.{datum_self, kind_means}
use Rattle.wy_check_spec.specs.judge.Node.{Literal}
use Rattle.wy_check_spec.specs.judge.Told.{IsTold, AllTold}
use Rattle.wy_check_spec.specs.valid.Kinds.{are_apart, of_two_kinds, clashes_with, clashes_alone, sides_of, equated_to, Kinded, each_of_kind, of_kind_given, given_by, kinds_given, denied_by, kinds_denied, in_two_kinds, in_one_kind, any_with, any_pair, clash_together}
use Rattle.wy_check_laws.proofs.sound_lemmas.Basics.{or_cases}
use Rattle.wy_check_laws.proofs.sound_lemmas.ChainLemmas.{data_are_equal}

abbrev pub dat : Names → Term → Datum
dat names t = (sense names t).datum

-- ---- constants and data that are written out

pub decided_true : (names : Names) (b : Bool) → b ≡ true → (sense names (decided b)).truth ≡ true
decided_true names true e = refl
decided_true names false e = absurd cc

-- what is of a known kind is of that kind
pub given_is : (names : Names) (v : Term) (kind : DataKind) → kind_given v ≡ Some kind → is_of_kind kind (dat names v) ≡ true
given_is names v kind e =
    sym (kind_means names kind v)
    ∙ (ap (λ (o : Option DataKind). (sense names (fold_kind kind v o)).truth) e ∙ decided_true names (same_kind kind kind) (kinds_self kind))

whole_is : (names : Names) (s : Term) (o : Option ℤ) (d : Datum) → as_number s ≡ o → as_whole o ≡ Some d → Whole (sense names s).number ≡ d
whole_is names s None d is e = absurd cc
whole_is names (Of (term.number y) ps) (Some z) d is e =
    let same : y ≡ z = cc in
    let whole : Whole z ≡ d = cc in
    ap Whole same ∙ whole
whole_is names s (Some z) d is e = absurd cc

-- a constant is its datum
constant_is : (names : Names) (v : Term) (d : Datum) → as_constant v ≡ Some d → dat names v ≡ d
constant_is names (Of term.null ps) d e = cc
constant_is names (Of (term.truth b) ps) d e = cc
constant_is names (Of term.int (part s no_parts)) d e = whole_is names s (as_number s) d refl e
constant_is names v d e = absurd cc

-- ---- a datum is of one kind

pub one_name_list : (fs : Fields) (ns ms : List (List ℕ)) → has_names fs ns ≡ true → has_names fs ms ≡ true → same_names ns ms ≡ true
one_name_list no_fields [] [] e f = refl
one_name_list no_fields [] (m ∷ ms) e f = absurd cc
one_name_list no_fields (n ∷ ns) ms e f = absurd cc
one_name_list (datum.field name d rest) [] ms e f = absurd cc
one_name_list (datum.field name d rest) (n ∷ ns) [] e f = absurd cc
one_name_list (datum.field name d rest) (n ∷ ns) (m ∷ ms) e f =
    let p = and_both (bytes_eq name n) (has_names rest ns) e in
    let q = and_both (bytes_eq name m) (has_names rest ms) f in
    both_true (bytes_eq n m) (same_names ns ms) (ap (λ (x : List ℕ). bytes_eq x m) (sym (bytes_are name n p.0)) ∙ q.0) (one_name_list rest ns ms p.1 q.1)
  where
    both_true : (a b : Bool) → a ≡ true → b ≡ true → (a && b) ≡ true
    both_true a b e f = rw (e, f) refl

pub one_kind : (d : Datum) (k l : DataKind) → is_of_kind k d ≡ true → is_of_kind l d ≡ true → same_kind k l ≡ true
one_kind Null null_kind null_kind e f = refl
one_kind (Truth b) bool_kind bool_kind e f = refl
one_kind (Whole z) int_kind int_kind e f = refl
one_kind (Array ds) array_kind array_kind e f = refl
one_kind (Record fs) (record_kind ns) (record_kind ms) e f = one_name_list fs ns ms e f
one_kind d k l e f = absurd cc

-- ---- one literal

apart_never : (names : Names) (v w : Term) (o p : Option Datum) → as_constant v ≡ o → as_constant w ≡ p → dat names v ≡ dat names w → are_apart o p ≡ true → ⊥
apart_never names v w None p is_o is_p same e = absurd cc
apart_never names v w (Some d) None is_o is_p same e = absurd cc
apart_never names v w (Some d) (Some f) is_o is_p same e =
    let equal_data : d ≡ f = sym (constant_is names v d is_o) ∙ (same ∙ constant_is names w f is_p) in
    two_ways (same_datum d f) (ap (same_datum d) (sym equal_data) ∙ datum_self d) (not_is_true (same_datum d f) e)

two_kinds_never : (names : Names) (v w : Term) (o p : Option DataKind) → kind_given v ≡ o → kind_given w ≡ p → dat names v ≡ dat names w → of_two_kinds o p ≡ true → ⊥
two_kinds_never names v w None p is_o is_p same e = absurd cc
two_kinds_never names v w (Some k) None is_o is_p same e = absurd cc
two_kinds_never names v w (Some k) (Some l) is_o is_p same e =
    two_ways (same_kind k l) (one_kind (dat names v) k l (given_is names v k is_o) (ap (is_of_kind l) same ∙ given_is names w l is_p)) (not_is_true (same_kind k l) e)

clash_never : (names : Names) (b : Bool) (a : Term) → (sense names a).truth ≡ b → clashes_with b a ≡ true → ⊥
clash_never names true (Of equal (part v (part w no_parts))) told e =
    let same = data_are_equal (dat names v) (dat names w) told in
    or_cases (are_apart (as_constant v) (as_constant w)) (of_two_kinds (kind_given v) (kind_given w)) ⊥ e
    (λ h. apart_never names v w (as_constant v) (as_constant w) refl refl same h)
    (λ h. two_kinds_never names v w (kind_given v) (kind_given w) refl refl same h)
clash_never names false (Of equal (part v (part w no_parts))) told e =
    two_ways (same_datum (dat names v) (dat names w)) (ap (λ (t : Term). same_datum (dat names v) (dat names t)) (sym (terms_are v w e)) ∙ datum_self (dat names v)) told
clash_never names b a told e = absurd cc

-- no true literal can't be
pub clash_alone_never : (names : Names) (l : Literal) → IsTold names l → clashes_alone l ≡ true → ⊥
clash_alone_never names l told e = clash_never names l.holds l.atom told e

-- ---- joined terms

-- each of these terms is this datum
abbrev AllAre : Names → Datum → List Term → Type 0
AllAre names d [] = Unit {0}
AllAre names d (t ∷ ts) = (dat names t ≡ d) × AllAre names d ts

are_both : (names : Names) (d : Datum) (ts us : List Term) → AllAre names d ts → AllAre names d us → AllAre names d (ts ++ us)
are_both names d [] us f g = g
are_both names d (t ∷ ts) us f g = (f.0, are_both names d ts us f.1 g)

are_if : (names : Names) (d : Datum) (b : Bool) (t : Term) → (b ≡ true → dat names t ≡ d) → AllAre names d (cond b (t ∷ []) [])
are_if names d true t h = (h refl, tt)
are_if names d false t h = tt

sides_are : (names : Names) (b : Bool) (a s : Term) → (sense names a).truth ≡ b → AllAre names (dat names s) (sides_of b a s)
sides_are names true (Of equal (part v (part w no_parts))) s told =
    let same = data_are_equal (dat names v) (dat names w) told in
    are_both names (dat names s) (cond (same_term v s) (w ∷ []) []) (cond (same_term w s) (v ∷ []) [])
    (are_if names (dat names s) (same_term v s) w (λ e. sym same ∙ ap (dat names) (terms_are v s e)))
    (are_if names (dat names s) (same_term w s) v (λ e. same ∙ ap (dat names) (terms_are w s e)))
sides_are names b a s told = tt

equated_are : (names : Names) (ls : List Literal) (s : Term) → AllTold names ls → AllAre names (dat names s) (equated_to ls s)
equated_are names [] s all = tt
equated_are names (l ∷ ls) s all = are_both names (dat names s) (sides_of l.holds l.atom s) (equated_to ls s) (sides_are names l.holds l.atom s all.0) (equated_are names ls s all.1)

-- ---- kinds that are given and denied

-- each term is of its kind, or none is
abbrev pub AllOfKind : Names → Bool → List Kinded → Type 0
AllOfKind names b [] = Unit {0}
AllOfKind names b (p ∷ ps) = (is_of_kind p.1 (dat names p.0) ≡ b) × AllOfKind names b ps

pub of_kind_both : (names : Names) (b : Bool) (ps qs : List Kinded) → AllOfKind names b ps → AllOfKind names b qs → AllOfKind names b (ps ++ qs)
of_kind_both names b [] qs f g = g
of_kind_both names b (p ∷ ps) qs f g = (f.0, of_kind_both names b ps qs f.1 g)

each_is : (names : Names) (b : Bool) (kind : DataKind) (d : Datum) (ts : List Term) → is_of_kind kind d ≡ b → AllAre names d ts → AllOfKind names b (each_of_kind kind ts)
each_is names b kind d [] e f = tt
each_is names b kind d (t ∷ ts) e f = (ap (is_of_kind kind) f.0 ∙ e, each_is names b kind d ts e f.1)

given_kind : (names : Names) (v w : Term) (o : Option DataKind) → kind_given w ≡ o → dat names v ≡ dat names w → AllOfKind names true (of_kind_given v o)
given_kind names v w None is same = tt
given_kind names v w (Some kind) is same = (ap (is_of_kind kind) same ∙ given_is names w kind is, tt)

given_are : (names : Names) (b : Bool) (a : Term) (ls : List Literal) → AllTold names ls → (sense names a).truth ≡ b → AllOfKind names true (given_by b a ls)
given_are names true (Of (of_kind kind) (part s no_parts)) ls all told = each_is names true kind (dat names s) (s ∷ equated_to ls s) told (refl, equated_are names ls s all)
given_are names true (Of equal (part v (part w no_parts))) ls all told =
    let same = data_are_equal (dat names v) (dat names w) told in
    of_kind_both names true (of_kind_given v (kind_given w)) (of_kind_given w (kind_given v)) (given_kind names v w (kind_given w) refl same) (given_kind names w v (kind_given v) refl (sym same))
given_are names b a ls all told = tt

denied_are : (names : Names) (b : Bool) (a : Term) (ls : List Literal) → AllTold names ls → (sense names a).truth ≡ b → AllOfKind names false (denied_by b a ls)
denied_are names false (Of (of_kind kind) (part s no_parts)) ls all told = each_is names false kind (dat names s) (s ∷ equated_to ls s) told (refl, equated_are names ls s all)
denied_are names b a ls all told = tt

-- ---- pairs

no_with : (names : Names) (a b : Bool) (test : Kinded → Kinded → Bool) → ((p q : Kinded) → is_of_kind p.1 (dat names p.0) ≡ a → is_of_kind q.1 (dat names q.0) ≡ b → test p q ≡ true → ⊥) → (p : Kinded) (qs : List Kinded) → is_of_kind p.1 (dat names p.0) ≡ a → AllOfKind names b qs → any_with test p qs ≡ true → ⊥
no_with names a b test never p [] f g e = absurd cc
no_with names a b test never p (q ∷ qs) f g e = or_cases (test p q) (any_with test p qs) ⊥ e (λ h. never p q f g.0 h) (λ h. no_with names a b test never p qs f g.1 h)

no_pair : (names : Names) (a b : Bool) (test : Kinded → Kinded → Bool) → ((p q : Kinded) → is_of_kind p.1 (dat names p.0) ≡ a → is_of_kind q.1 (dat names q.0) ≡ b → test p q ≡ true → ⊥) → (ps qs : List Kinded) → AllOfKind names a ps → AllOfKind names b qs → any_pair test ps qs ≡ true → ⊥
no_pair names a b test never [] qs f g e = absurd cc
no_pair names a b test never (p ∷ ps) qs f g e = or_cases (any_with test p qs) (any_pair test ps qs) ⊥ e (λ h. no_with names a b test never p qs f.0 g h) (λ h. no_pair names a b test never ps qs f.1 g h)

never_two : (names : Names) (p q : Kinded) → is_of_kind p.1 (dat names p.0) ≡ true → is_of_kind q.1 (dat names q.0) ≡ true → in_two_kinds p q ≡ true → ⊥
never_two names p q f g e =
    let h = and_both (same_term p.0 q.0) (not (same_kind p.1 q.1)) e in
    two_ways (same_kind p.1 q.1) (one_kind (dat names p.0) p.1 q.1 f (ap (λ (t : Term). is_of_kind q.1 (dat names t)) (terms_are p.0 q.0 h.0) ∙ g)) (not_is_true (same_kind p.1 q.1) h.1)

-- the kind of one is that of the other
moved_kind : (names : Names) (p q : Kinded) → in_one_kind p q ≡ true → is_of_kind p.1 (dat names p.0) ≡ is_of_kind q.1 (dat names q.0)
moved_kind names p q e =
    let h = and_both (same_term p.0 q.0) (same_kind p.1 q.1) e in
    ap (λ (t : Term). is_of_kind p.1 (dat names t)) (terms_are p.0 q.0 h.0) ∙ ap (λ (k : DataKind). is_of_kind k (dat names q.0)) (kinds_are p.1 q.1 h.1)

never_denied : (names : Names) (p q : Kinded) → is_of_kind p.1 (dat names p.0) ≡ true → is_of_kind q.1 (dat names q.0) ≡ false → in_one_kind p q ≡ true → ⊥
never_denied names p q f g e = two_ways (is_of_kind p.1 (dat names p.0)) f (moved_kind names p q e ∙ g)

never_given : (names : Names) (p q : Kinded) → is_of_kind p.1 (dat names p.0) ≡ false → is_of_kind q.1 (dat names q.0) ≡ true → in_one_kind p q ≡ true → ⊥
never_given names p q f g e = two_ways (is_of_kind p.1 (dat names p.0)) (moved_kind names p q e ∙ g) f

-- no two true literals can't be together
pub clash_together_never : (names : Names) (ls : List Literal) (l k : Literal) → AllTold names ls → IsTold names l → IsTold names k → clash_together ls l k ≡ true → ⊥
clash_together_never names ls l k all told_l told_k e =
    let given_l = given_are names l.holds l.atom ls all told_l in
    let given_k = given_are names k.holds k.atom ls all told_k in
    or_cases (any_pair in_two_kinds (kinds_given ls l) (kinds_given ls k)) (any_pair in_one_kind (kinds_given ls l) (kinds_denied ls k) || any_pair in_one_kind (kinds_denied ls l) (kinds_given ls k)) ⊥ e
    (λ h. no_pair names true true in_two_kinds (never_two names) (kinds_given ls l) (kinds_given ls k) given_l given_k h)
    (λ h. or_cases (any_pair in_one_kind (kinds_given ls l) (kinds_denied ls k)) (any_pair in_one_kind (kinds_denied ls l) (kinds_given ls k)) ⊥ h
    (λ g. no_pair names true false in_one_kind (never_denied names) (kinds_given ls l) (kinds_denied ls k) given_l (denied_are names k.holds k.atom ls all told_k) g)
    (λ g. no_pair names false true in_one_kind (never_given names) (kinds_denied ls l) (kinds_given ls k) (denied_are names l.holds l.atom ls all told_l) given_k g))
