-- Groups of terms that have a term in common.
use Rattle.std.proofs.Common.{◌≡◌, ◌<◌, ◌+◌, ◌&&◌, ◌||◌, ℕ, suc, List, [], ◌∷◌, ◌++◌, map, take, get_or, length, All, Bool, true, false, not, cond, eqb, Result, Ok, Err, refl, sym, ap, ◌∙◌, arith}
use Rattle.std.specs.Prelude.{IfOk}
use Rattle.std.proofs.lemmas.List.{take_more}
use Rattle.wy_lemmas.proofs.Choices.{and_false, or_assoc}
use Rattle.wy_check_nodes.specs.wy_term.Term.{Term, DataKind}
use Rattle.wy_check_nodes.specs.wy_term.Same.{same_kind, same_term}
use Rattle.wy_check_nodes.specs.wy_term_subst.Names.{is_in}
use Rattle.wy_check_nodes.proofs.wy_term_subst_proofs.NameLemmas.{is_in-append}
use Rattle.wy_check_nodes.proofs.NameLemmas.{NamesOnce}
use Rattle.wy_check_nodes.specs.wy_check_spec.valid.Kinds.{Kinded, each_of_kind, any_with, any_pair}
use Rattle.wy_check_splits.specs.Groups.{is_one_of, have_common, as_wanted, in_kinds}

or_cross : (a b c d : Bool) → ((a || b) || (c || d)) ≡ ((a || c) || (b || d))
or_cross true b c d = refl
or_cross false true true d = refl
or_cross false true false d = refl
or_cross false false c d = refl

and_or : (w a b : Bool) → ((w && a) || (w && b)) ≡ (w && (a || b))
and_or true a b = refl
and_or false a b = refl

and_swap : (a b : Bool) → (a && b) ≡ (b && a)
and_swap true true = refl
and_swap true false = refl
and_swap false true = refl
and_swap false false = refl

or_put : (a b : Bool) → cond a true b ≡ (b || (a || false))
or_put true true = refl
or_put true false = refl
or_put false true = refl
or_put false false = refl

-- ---- numbers in a set

-- one number more
pub number_put : (ts : List ℕ) (i t : ℕ) (old new : Bool) → i < length ts → new ≡ cond (eqb (get_or ts i 0) t) true old → old ≡ is_in t (take i ts) → new ≡ is_in t (take (i + 1) ts)
number_put ts i t old new lt puts so =
    puts
    ∙ (or_put (eqb (get_or ts i 0) t) old
    ∙ (ap (λ (b : Bool). b || (eqb (get_or ts i 0) t || false)) so
    ∙ sym (ap (is_in t) (take_more ts i 0 lt) ∙ is_in-append t (take i ts) (get_or ts i 0 ∷ []))))

-- a number is among others exactly where its term is among theirs
pub one_of_is_in : (at : ℕ → Term) (n : ℕ) → NamesOnce at n → (t : ℕ) → t < n → (us : List ℕ) → All (λ k. k < n) us → is_one_of (at t) (map at us) ≡ is_in t us
one_of_is_in at n once t lt [] below = refl
one_of_is_in at n once t lt (u ∷ us) below =
    let here : u < n = below 0 u (omega arith) in
    ap (λ (b : Bool). b || is_one_of (at t) (map at us)) (sym (once t u lt here))
    ∙ ap (λ (b : Bool). eqb u t || b) (one_of_is_in at n once t lt us (λ i d less. below (suc i) d (omega arith)))

-- ---- one term after the other

common_step : (at : ℕ → Term) (us : List Term) (ts more : List ℕ) (t : ℕ) → ts ≡ t ∷ more → have_common (map at ts) us ≡ (is_one_of (at t) us || have_common (map at more) us)
common_step at us ts more t e = ap (λ (ks : List ℕ). have_common (map at ks) us) e

pub common_now : (at : ℕ → Term) (us : List Term) (ts more : List ℕ) (t : ℕ) (total : Bool) → ts ≡ t ∷ more → is_one_of (at t) us ≡ true → have_common (map at ts) us ≡ total → true ≡ total
common_now at us ts more t total e up so = sym (common_step at us ts more t e ∙ ap (λ (b : Bool). b || have_common (map at more) us) up) ∙ so

pub common_later : (at : ℕ → Term) (us : List Term) (ts more : List ℕ) (t : ℕ) (total : Bool) → ts ≡ t ∷ more → is_one_of (at t) us ≡ false → have_common (map at ts) us ≡ total → have_common (map at more) us ≡ total
common_later at us ts more t total e un so = sym (common_step at us ts more t e ∙ ap (λ (b : Bool). b || have_common (map at more) us) un) ∙ so

-- ---- groups

one_pair : (same : Bool) (t u : Term) (k l : DataKind) → in_kinds same (t, k) (u, l) ≡ (as_wanted same (same_kind k l) && same_term t u)
one_pair true t u k l = and_swap (same_term t u) (same_kind k l)
one_pair false t u k l = and_swap (same_term t u) (not (same_kind k l))

with_group : (same : Bool) (t : Term) (k l : DataKind) (us : List Term) → any_with (in_kinds same) (t, k) (each_of_kind l us) ≡ (as_wanted same (same_kind k l) && is_one_of t us)
with_group same t k l [] = sym (and_false (as_wanted same (same_kind k l)))
with_group same t k l (u ∷ us) =
    let w = as_wanted same (same_kind k l) in
    ap (λ (b : Bool). b || any_with (in_kinds same) (t, k) (each_of_kind l us)) (one_pair same t u k l)
    ∙ (ap (λ (b : Bool). (w && same_term t u) || b) (with_group same t k l us) ∙ and_or w (same_term t u) (is_one_of t us))

-- two groups of one kind each
pub groups_pair : (same : Bool) (k l : DataKind) (ts us : List Term) → any_pair (in_kinds same) (each_of_kind k ts) (each_of_kind l us) ≡ (as_wanted same (same_kind k l) && have_common ts us)
groups_pair same k l [] us = sym (and_false (as_wanted same (same_kind k l)))
groups_pair same k l (t ∷ ts) us =
    let w = as_wanted same (same_kind k l) in
    ap (λ (b : Bool). b || any_pair (in_kinds same) (each_of_kind k ts) (each_of_kind l us)) (with_group same t k l us)
    ∙ (ap (λ (b : Bool). (w && is_one_of t us) || b) (groups_pair same k l ts us) ∙ and_or w (is_one_of t us) (have_common ts us))

with_both : (test : Kinded → Kinded → Bool) (p : Kinded) (qs rs : List Kinded) → any_with test p (qs ++ rs) ≡ (any_with test p qs || any_with test p rs)
with_both test p [] rs = refl
with_both test p (q ∷ qs) rs = ap (λ (b : Bool). test p q || b) (with_both test p qs rs) ∙ sym (or_assoc (test p q) (any_with test p qs) (any_with test p rs))

-- a pair of the first ones and of the second ones, or of the third ones
pub pair_second : (test : Kinded → Kinded → Bool) (ps qs rs : List Kinded) → any_pair test ps (qs ++ rs) ≡ (any_pair test ps qs || any_pair test ps rs)
pair_second test [] qs rs = refl
pair_second test (p ∷ ps) qs rs =
    ap (λ (b : Bool). b || any_pair test ps (qs ++ rs)) (with_both test p qs rs)
    ∙ (ap (λ (b : Bool). (any_with test p qs || any_with test p rs) || b) (pair_second test ps qs rs)
    ∙ or_cross (any_with test p qs) (any_with test p rs) (any_pair test ps qs) (any_pair test ps rs))

pub pair_first : (test : Kinded → Kinded → Bool) (ps qs rs : List Kinded) → any_pair test (ps ++ qs) rs ≡ (any_pair test ps rs || any_pair test qs rs)
pair_first test [] qs rs = refl
pair_first test (p ∷ ps) qs rs = ap (λ (b : Bool). any_with test p rs || b) (pair_first test ps qs rs) ∙ sym (or_assoc (any_with test p rs) (any_pair test ps rs) (any_pair test qs rs))

-- two groups, by what was found of their kinds and of their terms
pub pair_apart : (same : Bool) (k l : DataKind) (ts us : List Term) (w : Bool) → w ≡ as_wanted same (same_kind k l) → w ≡ false → false ≡ any_pair (in_kinds same) (each_of_kind k ts) (each_of_kind l us)
pair_apart same k l ts us w is un = sym (groups_pair same k l ts us ∙ ap (λ (b : Bool). b && have_common ts us) (sym is ∙ un))

pub pair_common : (same : Bool) (k l : DataKind) (ts us : List Term) (w b : Bool) → w ≡ as_wanted same (same_kind k l) → w ≡ true → b ≡ have_common ts us → b ≡ any_pair (in_kinds same) (each_of_kind k ts) (each_of_kind l us)
pair_common same k l ts us w b is up here = here ∙ sym (groups_pair same k l ts us ∙ ap (λ (x : Bool). x && have_common ts us) (sym is ∙ up))

-- ---- one or the other

pub meets_now : (test : Kinded → Kinded → Bool) (ps qs rs : List Kinded) (b : Bool) → b ≡ any_pair test ps qs → b ≡ true → true ≡ any_pair test ps (qs ++ rs)
meets_now test ps qs rs b is up = sym (pair_second test ps qs rs ∙ ap (λ (x : Bool). x || any_pair test ps rs) (sym is ∙ up))

pub meets_later : (test : Kinded → Kinded → Bool) (ps qs rs : List Kinded) (b c : Bool) → b ≡ any_pair test ps qs → b ≡ false → c ≡ any_pair test ps rs → c ≡ any_pair test ps (qs ++ rs)
meets_later test ps qs rs b c is un so = so ∙ sym (pair_second test ps qs rs ∙ ap (λ (x : Bool). x || any_pair test ps rs) (sym is ∙ un))

pub met_now : (test : Kinded → Kinded → Bool) (ps qs rs : List Kinded) (b : Bool) → b ≡ any_pair test ps rs → b ≡ true → true ≡ any_pair test (ps ++ qs) rs
met_now test ps qs rs b is up = sym (pair_first test ps qs rs ∙ ap (λ (x : Bool). x || any_pair test qs rs) (sym is ∙ up))

pub met_later : (test : Kinded → Kinded → Bool) (ps qs rs : List Kinded) (b c : Bool) → b ≡ any_pair test ps rs → b ≡ false → c ≡ any_pair test qs rs → c ≡ any_pair test (ps ++ qs) rs
met_later test ps qs rs b c is un so = so ∙ sym (pair_first test ps qs rs ∙ ap (λ (x : Bool). x || any_pair test qs rs) (sym is ∙ un))

-- ---- the same for answers

pub if_common : {E : Type 0} (same : Bool) (k l : DataKind) (ts us : List Term) (w : Bool) (r : Result Bool E) → w ≡ as_wanted same (same_kind k l) → w ≡ true → IfOk r (λ b. b ≡ have_common ts us) → IfOk r (λ b. b ≡ any_pair (in_kinds same) (each_of_kind k ts) (each_of_kind l us))
if_common same k l ts us w (Ok b) is up here = pair_common same k l ts us w b is up here
if_common same k l ts us w (Err e) is up here = here

pub if_meets_later : {E : Type 0} (test : Kinded → Kinded → Bool) (ps qs rs : List Kinded) (b : Bool) (r : Result Bool E) → b ≡ any_pair test ps qs → b ≡ false → IfOk r (λ c. c ≡ any_pair test ps rs) → IfOk r (λ c. c ≡ any_pair test ps (qs ++ rs))
if_meets_later test ps qs rs b (Ok c) is un so = meets_later test ps qs rs b c is un so
if_meets_later test ps qs rs b (Err e) is un so = so

pub if_met_later : {E : Type 0} (test : Kinded → Kinded → Bool) (ps qs rs : List Kinded) (b : Bool) (r : Result Bool E) → b ≡ any_pair test ps rs → b ≡ false → IfOk r (λ c. c ≡ any_pair test qs rs) → IfOk r (λ c. c ≡ any_pair test (ps ++ qs) rs)
if_met_later test ps qs rs b (Ok c) is un so = met_later test ps qs rs b c is un so
if_met_later test ps qs rs b (Err e) is un so = so
