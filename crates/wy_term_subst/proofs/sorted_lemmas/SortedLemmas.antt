-- Folding a quantifier over a short range keeps what it means.
use Rattle.std.proofs.Common.{◌≡◌, ℕ, zero, suc, List, [], ◌∷◌, Bool, true, false, cond, eqb, not, ◌&&◌, ◌||◌, ℤ, pos, negsuc, neg_ℤ, ◌+ℤ◌, ◌-ℤ◌, ◌*ℤ◌, Option, Some, None, ◌⊎◌, inl, inr, refl, sym, ap, ◌∙◌, subst}
use mathlib.Core.Path.{fun_ext}
use Rattle.std.proofs.lemmas.Bool.{eqb-true}
use Rattle.std.specs.Prelude.{bytes_eq, nat_le}
use Rattle.wy_term.proofs.wy_lemmas_proofs.Choices.{eqb_itself as eqb_self, both_parts as both, same_test as same_bools}
use Rattle.wy_term.proofs.wy_lemmas_proofs.Equations.{both_same as two_same}
use Rattle.wy_term.proofs.wy_lemmas_proofs.Lists.{bytes_self, bytes_are}
use Rattle.wy_term.specs.wy_value.Datum.{Datum}
use Rattle.wy_term.specs.wy_value.Datum as datum
use Rattle.wy_term.specs.Term as term
use Rattle.wy_term.specs.Term.{Symbol, Term, Of, Parts, no_parts, part, leaf, Number, int_name, val_name, every, exists}
use Rattle.wy_term.specs.Data as shapes
use Rattle.wy_term.specs.Same.{same_term}
use Rattle.wy_term.specs.Meaning.{Names, with_number, Sense, sense, sense_of, senses_of, distance, each_from, any_from, all_hold, any_holds, number_at, datum_at, truth_at, data_in}
use Rattle.wy_term.specs.Meaning as meaning
use Rattle.wy_term.specs.Rewriting.{as_number}
use Rattle.wy_term.specs.Folding.{found, found_or, hidden, span, span_of, instances, number_or_zero, binder, joined_by, quantified, parts_of, replaced, replacers, fold_range, folded}
use Rattle.wy_term.specs.Sorts.{Sort, int_sort, val_sort, formula_sort, sort_of, sort_in, Agree}
use Rattle.wy_term.proofs.SameLemmas.{terms_are}
use Rattle.wy_term.proofs.FoldingLemmas.{folding_keeps_meaning, truth_of}
use Rattle.wy_term_subst.specs.sorted.Sorted.{Places, these, each, places, MayCome, behind, IsSorted, AreSorted}

abbrev pub number_of : Names → Term → ℤ
number_of names t = (sense names t).number

-- ---- names

-- what names stand for where some of them stand for terms
abbrev pub under : List (Term × Term) → Names → Names
under env names = record {
  datum_of = λ w n. (sense names (found_or (found env (leaf (val_name w n))) (leaf (val_name w n)))).datum;
  number_of = λ w n. (sense names (found_or (found env (leaf (int_name w n))) (leaf (int_name w n)))).number;
  is_member = names.is_member;
}

-- an Int name and a number, or the name itself
record IsPair (p : Term × Term) : Type 0 where
  word : List ℕ
  number : ℕ
  name : p.0 ≡ leaf (int_name word number)
  stands : ((z : ℤ) × (p.1 ≡ Number z)) ⊎ (p.1 ≡ p.0)

abbrev ArePairs : List (Term × Term) → Type 0
ArePairs [] = Unit {0}
ArePairs (p ∷ ps) = IsPair p × ArePairs ps

-- what an Int name stands for is a number, or the name
abbrev IsFine : Term → Option Term → Type 0
IsFine x None = Unit {0}
IsFine x (Some u) = ((z : ℤ) × (u ≡ Number z)) ⊎ (u ≡ x)

found_fine : (env : List (Term × Term)) (x : Term) → ArePairs env → IsFine x (found env x)
found_fine [] x are = tt
found_fine (p ∷ ps) x are = either (same_term p.0 x) refl (found_fine ps x are.1)
  where
    stands : p.0 ≡ x → ((z : ℤ) × (p.1 ≡ Number z)) ⊎ (p.1 ≡ p.0) → ((z : ℤ) × (p.1 ≡ Number z)) ⊎ (p.1 ≡ x)
    stands e (inl n) = inl n
    stands e (inr s) = inr (s ∙ e)

    either : (b : Bool) → same_term p.0 x ≡ b → IsFine x (found ps x) → IsFine x (cond b (Some p.1) (found ps x))
    either true e rest = stands (terms_are p.0 x e) are.0.stands
    either false e rest = rest

-- a Val name stands for itself
found_val : (env : List (Term × Term)) (w : List ℕ) (n : ℕ) → ArePairs env → found env (leaf (val_name w n)) ≡ None
found_val [] w n are = refl
found_val (p ∷ ps) w n are =
    let other : same_term p.0 (leaf (val_name w n)) ≡ false = ap (λ (t : Term). same_term t (leaf (val_name w n))) are.0.name in
    ap (λ (b : Bool). cond b (Some p.1) (found ps (leaf (val_name w n)))) other ∙ found_val ps w n are.1

hidden_pairs : (o : Option Term) (w : List ℕ) (n : ℕ) (env : List (Term × Term)) → ArePairs env → ArePairs (hidden o (leaf (int_name w n)) env)
hidden_pairs None w n env are = are
hidden_pairs (Some u) w n env are = either (same_term u (leaf (int_name w n)))
  where
    either : (b : Bool) → ArePairs (cond b env ((leaf (int_name w n), leaf (int_name w n)) ∷ env))
    either true = are
    either false = (record { word = w; number = n; name = refl; stands = inr refl }, are)

-- both tests of two names answer alike
pub name_test : (w v : List ℕ) (n m : ℕ) → same_term (leaf (int_name w n)) (leaf (int_name v m)) ≡ (bytes_eq v w && eqb m n)
name_test w v n m = same_bools (same_term (leaf (int_name w n)) (leaf (int_name v m))) (bytes_eq v w && eqb m n) there back
  where
    there : ((bytes_eq w v && eqb n m) && true) ≡ true → (bytes_eq v w && eqb m n) ≡ true
    there e =
        let h = both (bytes_eq w v && eqb n m) true e in
        let g = both (bytes_eq w v) (eqb n m) h.0 in
        rw (bytes_are w v g.0, eqb-true n m g.1, bytes_self v, eqb_self m) refl

    back : (bytes_eq v w && eqb m n) ≡ true → ((bytes_eq w v && eqb n m) && true) ≡ true
    back e =
        let g = both (bytes_eq v w) (eqb m n) e in
        rw (bytes_are v w g.0, eqb-true m n g.1, bytes_self w, eqb_self n) refl

pub named : (names others : Names) → names.datum_of ≡ others.datum_of → names.number_of ≡ others.number_of → names.is_member ≡ others.is_member → names ≡ others
named names others d e f =
    ap (λ (g : List ℕ → ℕ → Datum). let r : Names = record { datum_of = g; number_of = names.number_of; is_member = names.is_member } in r) d
    ∙ (ap (λ (g : List ℕ → ℕ → ℤ). let r : Names = record { datum_of = others.datum_of; number_of = g; is_member = names.is_member } in r) e
    ∙ ap (λ (g : ℕ → Datum → Bool). let r : Names = record { datum_of = others.datum_of; number_of = others.number_of; is_member = g } in r) f)

number_choice : (env : List (Term × Term)) (names : Names) (v : List ℕ) (m : ℕ) (z : ℤ) (b : Bool) → (sense names (found_or (cond b (Some (Number z)) (found env (leaf (int_name v m)))) (leaf (int_name v m)))).number ≡ cond b z ((under env names).number_of v m)
number_choice env names v m z true = refl
number_choice env names v m z false = refl

-- a name that stands for a number
at_number : (env : List (Term × Term)) (names : Names) (w : List ℕ) (n : ℕ) (z : ℤ) → under ((leaf (int_name w n), Number z) ∷ env) names ≡ with_number (under env names) w n z
at_number env names w n z =
    named (under ((leaf (int_name w n), Number z) ∷ env) names) (with_number (under env names) w n z) refl (fun_ext (λ v. fun_ext (λ m. here v m))) refl
  where
    here : (v : List ℕ) (m : ℕ) → (under ((leaf (int_name w n), Number z) ∷ env) names).number_of v m ≡ cond (bytes_eq v w && eqb m n) z ((under env names).number_of v m)
    here v m =
        ap (λ (b : Bool). (sense names (found_or (cond b (Some (Number z)) (found env (leaf (int_name v m)))) (leaf (int_name v m)))).number) (name_test w v n m)
        ∙ number_choice env names v m z (bytes_eq v w && eqb m n)

-- the name itself, where it has another number
pub own_number : (names : Names) (w : List ℕ) (n : ℕ) (z : ℤ) → (with_number names w n z).number_of w n ≡ z
own_number names w n z = rw (bytes_self w, eqb_self n) refl

pub own_test : (w : List ℕ) (n : ℕ) → same_term (leaf (int_name w n)) (leaf (int_name w n)) ≡ true
own_test w n = name_test w w n n ∙ rw (bytes_self w, eqb_self n) refl

-- what it stands for in a body in which it stands for itself
own_hidden : (env : List (Term × Term)) (names : Names) (w : List ℕ) (n : ℕ) (z : ℤ) (u : Term) (b : Bool) → found env (leaf (int_name w n)) ≡ Some u → same_term u (leaf (int_name w n)) ≡ b → (sense (with_number names w n z) (found_or (found (cond b env ((leaf (int_name w n), leaf (int_name w n)) ∷ env)) (leaf (int_name w n))) (leaf (int_name w n)))).number ≡ z
own_hidden env names w n z u true e g =
    ap (λ (o : Option Term). (sense (with_number names w n z) (found_or o (leaf (int_name w n)))).number) e
    ∙ (ap (λ (t : Term). (sense (with_number names w n z) t).number) (terms_are u (leaf (int_name w n)) g) ∙ own_number names w n z)
own_hidden env names w n z u false e g =
    ap (λ (b : Bool). (sense (with_number names w n z) (found_or (cond b (Some (leaf (int_name w n))) (found env (leaf (int_name w n)))) (leaf (int_name w n)))).number) (own_test w n) ∙ own_number names w n z

own : (env : List (Term × Term)) (names : Names) (w : List ℕ) (n : ℕ) (z : ℤ) (o : Option Term) → found env (leaf (int_name w n)) ≡ o → (sense (with_number names w n z) (found_or (found (hidden o (leaf (int_name w n)) env) (leaf (int_name w n))) (leaf (int_name w n)))).number ≡ z
own env names w n z None e = ap (λ (o : Option Term). (sense (with_number names w n z) (found_or o (leaf (int_name w n)))).number) e ∙ own_number names w n z
own env names w n z (Some u) e = own_hidden env names w n z u (same_term u (leaf (int_name w n))) e refl

-- another name stands there for what it stood for
other_hidden : (env : List (Term × Term)) (w v : List ℕ) (n m : ℕ) (b : Bool) → (bytes_eq v w && eqb m n) ≡ false → found (cond b env ((leaf (int_name w n), leaf (int_name w n)) ∷ env)) (leaf (int_name v m)) ≡ found env (leaf (int_name v m))
other_hidden env w v n m true e = refl
other_hidden env w v n m false e = ap (λ (b : Bool). cond b (Some (leaf (int_name w n))) (found env (leaf (int_name v m)))) (name_test w v n m ∙ e)

pub other : (env : List (Term × Term)) (w v : List ℕ) (n m : ℕ) (o : Option Term) → (bytes_eq v w && eqb m n) ≡ false → found (hidden o (leaf (int_name w n)) env) (leaf (int_name v m)) ≡ found env (leaf (int_name v m))
other env w v n m None e = refl
other env w v n m (Some u) e = other_hidden env w v n m (same_term u (leaf (int_name w n))) e

other_number : (names : Names) (w v : List ℕ) (n m : ℕ) (z : ℤ) → (bytes_eq v w && eqb m n) ≡ false → (with_number names w n z).number_of v m ≡ names.number_of v m
other_number names w v n m z e = ap (λ (b : Bool). cond b z (names.number_of v m)) e

other_sense : (names : Names) (w v : List ℕ) (n m : ℕ) (z : ℤ) (o : Option Term) → (bytes_eq v w && eqb m n) ≡ false → IsFine (leaf (int_name v m)) o → (sense (with_number names w n z) (found_or o (leaf (int_name v m)))).number ≡ (sense names (found_or o (leaf (int_name v m)))).number
other_sense names w v n m z None e f = other_number names w v n m z e
other_sense names w v n m z (Some u) e (inl y) = ap (λ (t : Term). (sense (with_number names w n z) t).number) y.1 ∙ sym (ap (λ (t : Term). (sense names t).number) y.1)
other_sense names w v n m z (Some u) e (inr g) = ap (λ (t : Term). (sense (with_number names w n z) t).number) g ∙ (other_number names w v n m z e ∙ sym (ap (λ (t : Term). (sense names t).number) g))

itself_number : (env : List (Term × Term)) (names : Names) (w v : List ℕ) (n m : ℕ) (z : ℤ) (b : Bool) → ArePairs env → (bytes_eq v w && eqb m n) ≡ b → (under (hidden (found env (leaf (int_name w n))) (leaf (int_name w n)) env) (with_number names w n z)).number_of v m ≡ cond b z ((under env names).number_of v m)
itself_number env names w v n m z true are e =
    let g = both (bytes_eq v w) (eqb m n) e in
    let word : v ≡ w = bytes_are v w g.0 in
    let number : m ≡ n = eqb-true m n g.1 in
    ap (λ (v' : List ℕ). (under (hidden (found env (leaf (int_name w n))) (leaf (int_name w n)) env) (with_number names w n z)).number_of v' m) word
    ∙ (ap (λ (m' : ℕ). (under (hidden (found env (leaf (int_name w n))) (leaf (int_name w n)) env) (with_number names w n z)).number_of w m') number
    ∙ own env names w n z (found env (leaf (int_name w n))) refl)
itself_number env names w v n m z false are e =
    ap (λ (o : Option Term). (sense (with_number names w n z) (found_or o (leaf (int_name v m)))).number) (other env w v n m (found env (leaf (int_name w n))) e)
    ∙ other_sense names w v n m z (found env (leaf (int_name v m))) e (found_fine env (leaf (int_name v m)) are)

itself_datum : (env : List (Term × Term)) (names : Names) (w v : List ℕ) (n m : ℕ) (z : ℤ) → ArePairs env → (under (hidden (found env (leaf (int_name w n))) (leaf (int_name w n)) env) (with_number names w n z)).datum_of v m ≡ (under env names).datum_of v m
itself_datum env names w v n m z are =
    ap (λ (o : Option Term). (sense (with_number names w n z) (found_or o (leaf (val_name v m)))).datum) (found_val (hidden (found env (leaf (int_name w n))) (leaf (int_name w n)) env) v m (hidden_pairs (found env (leaf (int_name w n))) w n env are))
    ∙ sym (ap (λ (o : Option Term). (sense names (found_or o (leaf (val_name v m)))).datum) (found_val env v m are))

-- a name that stands for itself
at_itself : (env : List (Term × Term)) (names : Names) (w : List ℕ) (n : ℕ) (z : ℤ) → ArePairs env → under (hidden (found env (leaf (int_name w n))) (leaf (int_name w n)) env) (with_number names w n z) ≡ with_number (under env names) w n z
at_itself env names w n z are =
    named (under (hidden (found env (leaf (int_name w n))) (leaf (int_name w n)) env) (with_number names w n z)) (with_number (under env names) w n z)
    (fun_ext (λ v. fun_ext (λ m. itself_datum env names w v n m z are)))
    (fun_ext (λ v. fun_ext (λ m. itself_number env names w v n m z (bytes_eq v w && eqb m n) are refl)))
    refl

-- ---- ranges

as_number_is : (names : Names) (t : Term) (z : ℤ) → as_number t ≡ Some z → number_of names t ≡ z
as_number_is names (Of (term.number y) ps) z e = cc
as_number_is names t z e = absurd cc

abbrev some_count : ℕ → Option ℕ
some_count n = Some n

span_counts : (z : ℤ) (m : ℕ) → span z ≡ Some m → distance z ≡ m
span_counts (pos n) m e = either (nat_le n 256) e
  where
    either : (b : Bool) → cond b (some_count n) None ≡ Some m → n ≡ m
    either true e = cc
    either false e = absurd cc
span_counts (negsuc n) m e = either (nat_le n 255) e
  where
    either : (b : Bool) → cond b (some_count 0) None ≡ Some m → 0 ≡ m
    either true e = cc
    either false e = absurd cc

-- the test holds of each, or of one, of so many numbers
abbrev pub range_test : Bool → ℤ → ℕ → (ℤ → Bool) → Bool
range_test true z n test = each_from z n test
range_test false z n test = any_from z n test

abbrev pub range_hold : Bool → List (Names → Sense) → Names → Bool
range_hold true fs names = all_hold fs names
range_hold false fs names = any_holds fs names

instances_hold : (all : Bool) (names : Names) (body : List (Term × Term) → Term) (x : Term) (env : List (Term × Term)) (z : ℤ) (n : ℕ) → range_hold all (senses_of (instances body x env z n)) names ≡ range_test all z n (λ y. truth_of names (body ((x, Number y) ∷ env)))
instances_hold true names body x env z zero = refl
instances_hold true names body x env z (suc n) = ap (λ (b : Bool). truth_of names (body ((x, Number z) ∷ env)) && b) (instances_hold true names body x env (z +ℤ pos 1) n)
instances_hold false names body x env z zero = refl
instances_hold false names body x env z (suc n) = ap (λ (b : Bool). truth_of names (body ((x, Number z) ∷ env)) || b) (instances_hold false names body x env (z +ℤ pos 1) n)

joined_holds : (all : Bool) (names : Names) (fs : Parts) → truth_of names (joined_by all fs) ≡ range_hold all (senses_of fs) names
joined_holds true names fs = folding_keeps_meaning (Of term.all_of fs) names tt
joined_holds false names fs = folding_keeps_meaning (Of term.any_of fs) names tt

pub binder_holds : (all : Bool) (w : List ℕ) (n : ℕ) (names : Names) (s u f : Term) → truth_of names (Of (binder all w n) (part s (part u (part f no_parts)))) ≡ range_test all (number_of names s) (distance (number_of names u -ℤ number_of names s)) (λ z. truth_of (with_number names w n z) f)
binder_holds true w n names s u f = refl
binder_holds false w n names s u f = refl

-- ---- quantifiers

-- the formula that comes of a body means what the body means, where names stand for these terms
abbrev Means : (List (Term × Term) → Term) → Term → Type 0
Means body f = (env : List (Term × Term)) → ArePairs env → (names : Names) → truth_of names (body env) ≡ truth_of (under env names) f

-- the instances of a body mean what the quantifier means
counted : (all : Bool) (names : Names) (s u : Term) (test : ℤ → Bool) (m : ℕ) (a b : ℤ) → as_number s ≡ Some a → as_number u ≡ Some b → span (b -ℤ a) ≡ Some m → range_test all a m test ≡ range_test all (number_of names s) (distance (number_of names u -ℤ number_of names s)) test
counted all names s u test m a b p q r =
    ap (λ (k : ℕ). range_test all a k test) (sym (span_counts (b -ℤ a) m r))
    ∙ (ap (λ (y : ℤ). range_test all y (distance (b -ℤ y)) test) (sym (as_number_is names s a p))
    ∙ ap (λ (y : ℤ). range_test all (number_of names s) (distance (y -ℤ number_of names s)) test) (sym (as_number_is names u b q)))

instances_kept : (all : Bool) (w : List ℕ) (n : ℕ) (body : List (Term × Term) → Term) (f : Term) (env : List (Term × Term)) (names : Names) (s u : Term) (m : ℕ) (a b : Option ℤ) → as_number s ≡ a → as_number u ≡ b → span_of a b ≡ Some m → Means body f → ArePairs env → truth_of names (joined_by all (instances body (leaf (int_name w n)) env (number_or_zero a) m)) ≡ range_test all (number_of names s) (distance (number_of names u -ℤ number_of names s)) (λ z. truth_of (with_number (under env names) w n z) f)
instances_kept all w n body f env names s u m None b p q r means are = absurd cc
instances_kept all w n body f env names s u m (Some a) None p q r means are = absurd cc
instances_kept all w n body f env names s u m (Some a) (Some b) p q r means are =
    let inside : range_test all a m (λ y. truth_of names (body ((leaf (int_name w n), Number y) ∷ env))) ≡ range_test all a m (λ z. truth_of (with_number (under env names) w n z) f) = ap (range_test all a m) (fun_ext (λ y. means ((leaf (int_name w n), Number y) ∷ env) (record { word = w; number = n; name = refl; stands = inl (y, refl) }, are) names ∙ ap (λ (ns : Names). truth_of ns f) (at_number env names w n y))) in
    joined_holds all names (instances body (leaf (int_name w n)) env a m)
    ∙ (instances_hold all names body (leaf (int_name w n)) env a m ∙ (inside ∙ counted all names s u (λ z. truth_of (with_number (under env names) w n z) f) m a b p q r))

quantified_kept : (all : Bool) (w : List ℕ) (n : ℕ) (body : List (Term × Term) → Term) (f : Term) (env : List (Term × Term)) (names : Names) (s u : Term) (o : Option ℕ) → span_of (as_number s) (as_number u) ≡ o → Means body f → ArePairs env → truth_of names (quantified all w n body env s u o) ≡ range_test all (number_of names s) (distance (number_of names u -ℤ number_of names s)) (λ z. truth_of (with_number (under env names) w n z) f)
quantified_kept all w n body f env names s u None e means are =
    let henv = hidden (found env (leaf (int_name w n))) (leaf (int_name w n)) env in
    let below : ArePairs henv = hidden_pairs (found env (leaf (int_name w n))) w n env are in
    let same : (λ (z : ℤ). truth_of (with_number names w n z) (body henv)) ≡ (λ (z : ℤ). truth_of (with_number (under env names) w n z) f) = fun_ext (λ z. means henv below (with_number names w n z) ∙ ap (λ (ns : Names). truth_of ns f) (at_itself env names w n z are)) in
    binder_holds all w n names s u (body henv) ∙ ap (range_test all (number_of names s) (distance (number_of names u -ℤ number_of names s))) same
quantified_kept all w n body f env names s u (Some m) e means are = instances_kept all w n body f env names s u m (as_number s) (as_number u) refl refl e means are

-- ---- terms whose parts mean the same

abbrev pub first : Places → Option Sort
first (these []) = None
first (these (s ∷ ss)) = Some s
first (each s) = Some s

abbrev pub AgreeAt : Option Sort → Sense → Sense → Type 0
AgreeAt None a b = Unit {0}
AgreeAt (Some s) a b = Agree s a b

-- each part agrees as far as its place asks
abbrev pub AgreeAll : Names → Names → Places → Parts → Parts → Type 0
AgreeAll names others wanted no_parts no_parts = Unit {0}
AgreeAll names others wanted no_parts (part p ps) = ⊥
AgreeAll names others wanted (part q qs) no_parts = ⊥
AgreeAll names others wanted (part q qs) (part p ps) = AgreeAt (first wanted) (sense names q) (sense others p) × AgreeAll names others (behind wanted) qs ps

abbrev nth_place : Places → ℕ → Option Sort
nth_place wanted zero = first wanted
nth_place wanted (suc k) = nth_place (behind wanted) k

at_int : (o : Option Sort) (a b : Sense) → o ≡ Some int_sort → AgreeAt o a b → a.number ≡ b.number
at_int None a b e f = absurd cc
at_int (Some int_sort) a b e f = f
at_int (Some val_sort) a b e f = absurd cc
at_int (Some formula_sort) a b e f = absurd cc

at_val : (o : Option Sort) (a b : Sense) → o ≡ Some val_sort → AgreeAt o a b → a.datum ≡ b.datum
at_val None a b e f = absurd cc
at_val (Some int_sort) a b e f = absurd cc
at_val (Some val_sort) a b e f = f
at_val (Some formula_sort) a b e f = absurd cc

at_formula : (o : Option Sort) (a b : Sense) → o ≡ Some formula_sort → AgreeAt o a b → a.truth ≡ b.truth
at_formula None a b e f = absurd cc
at_formula (Some int_sort) a b e f = absurd cc
at_formula (Some val_sort) a b e f = absurd cc
at_formula (Some formula_sort) a b e f = f

number_same : (names others : Names) (wanted : Places) (k : ℕ) (qs ps : Parts) → nth_place wanted k ≡ Some int_sort → AgreeAll names others wanted qs ps → number_at (senses_of qs) k names ≡ number_at (senses_of ps) k others
number_same names others wanted k no_parts no_parts e f = refl
number_same names others wanted k no_parts (part p ps) e f = absurd f
number_same names others wanted k (part q qs) no_parts e f = absurd f
number_same names others wanted zero (part q qs) (part p ps) e f = at_int (first wanted) (sense names q) (sense others p) e f.0
number_same names others wanted (suc k) (part q qs) (part p ps) e f = number_same names others (behind wanted) k qs ps e f.1

datum_same : (names others : Names) (wanted : Places) (k : ℕ) (qs ps : Parts) → nth_place wanted k ≡ Some val_sort → AgreeAll names others wanted qs ps → datum_at (senses_of qs) k names ≡ datum_at (senses_of ps) k others
datum_same names others wanted k no_parts no_parts e f = refl
datum_same names others wanted k no_parts (part p ps) e f = absurd f
datum_same names others wanted k (part q qs) no_parts e f = absurd f
datum_same names others wanted zero (part q qs) (part p ps) e f = at_val (first wanted) (sense names q) (sense others p) e f.0
datum_same names others wanted (suc k) (part q qs) (part p ps) e f = datum_same names others (behind wanted) k qs ps e f.1

truth_same : (names others : Names) (wanted : Places) (k : ℕ) (qs ps : Parts) → nth_place wanted k ≡ Some formula_sort → AgreeAll names others wanted qs ps → truth_at (senses_of qs) k names ≡ truth_at (senses_of ps) k others
truth_same names others wanted k no_parts no_parts e f = refl
truth_same names others wanted k no_parts (part p ps) e f = absurd f
truth_same names others wanted k (part q qs) no_parts e f = absurd f
truth_same names others wanted zero (part q qs) (part p ps) e f = at_formula (first wanted) (sense names q) (sense others p) e f.0
truth_same names others wanted (suc k) (part q qs) (part p ps) e f = truth_same names others (behind wanted) k qs ps e f.1

data_same : (names others : Names) (qs ps : Parts) → AgreeAll names others (each val_sort) qs ps → data_in (senses_of qs) names ≡ data_in (senses_of ps) others
data_same names others no_parts no_parts f = refl
data_same names others no_parts (part p ps) f = absurd f
data_same names others (part q qs) no_parts f = absurd f
data_same names others (part q qs) (part p ps) f = ap (λ (d : Datum). d ∷ data_in (senses_of qs) names) f.0 ∙ ap (λ (ds : List Datum). (sense others p).datum ∷ ds) (data_same names others qs ps f.1)

all_same : (names others : Names) (qs ps : Parts) → AgreeAll names others (each formula_sort) qs ps → all_hold (senses_of qs) names ≡ all_hold (senses_of ps) others
all_same names others no_parts no_parts f = refl
all_same names others no_parts (part p ps) f = absurd f
all_same names others (part q qs) no_parts f = absurd f
all_same names others (part q qs) (part p ps) f = ap (λ (b : Bool). b && all_hold (senses_of qs) names) f.0 ∙ ap (λ (b : Bool). truth_of others p && b) (all_same names others qs ps f.1)

any_same : (names others : Names) (qs ps : Parts) → AgreeAll names others (each formula_sort) qs ps → any_holds (senses_of qs) names ≡ any_holds (senses_of ps) others
any_same names others no_parts no_parts f = refl
any_same names others no_parts (part p ps) f = absurd f
any_same names others (part q qs) no_parts f = absurd f
any_same names others (part q qs) (part p ps) f = ap (λ (b : Bool). b || any_holds (senses_of qs) names) f.0 ∙ ap (λ (b : Bool). truth_of others p || b) (any_same names others qs ps f.1)

abbrev binds_or_names : Symbol → Bool
binds_or_names (int_name w n) = true
binds_or_names (val_name w n) = true
binds_or_names (every w n) = true
binds_or_names (exists w n) = true
binds_or_names symbol = false

-- terms of one symbol, whose parts mean the same, mean the same
pub alike : (symbol : Symbol) (names others : Names) (qs ps : Parts) → names.is_member ≡ others.is_member → binds_or_names symbol ≡ false → AgreeAll names others (places symbol) qs ps → Agree (sort_of symbol) (sense names (Of symbol qs)) (sense others (Of symbol ps))
alike (term.number z) names others qs ps m e f = refl
alike (int_name w n) names others qs ps m e f = absurd cc
alike term.add names others qs ps m e f = two_same (λ (a b : ℤ). a +ℤ b) _ _ _ _ (number_same names others (places term.add) 0 qs ps refl f) (number_same names others (places term.add) 1 qs ps refl f)
alike term.sub names others qs ps m e f = two_same (λ (a b : ℤ). a -ℤ b) _ _ _ _ (number_same names others (places term.sub) 0 qs ps refl f) (number_same names others (places term.sub) 1 qs ps refl f)
alike term.neg names others qs ps m e f = ap neg_ℤ (number_same names others (places term.neg) 0 qs ps refl f)
alike term.mul names others qs ps m e f = two_same (λ (a b : ℤ). a *ℤ b) _ _ _ _ (number_same names others (places term.mul) 0 qs ps refl f) (number_same names others (places term.mul) 1 qs ps refl f)
alike term.div names others qs ps m e f = two_same shapes.quotient _ _ _ _ (number_same names others (places term.div) 0 qs ps refl f) (number_same names others (places term.div) 1 qs ps refl f)
alike term.rem names others qs ps m e f = two_same shapes.remainder _ _ _ _ (number_same names others (places term.rem) 0 qs ps refl f) (number_same names others (places term.rem) 1 qs ps refl f)
alike term.num names others qs ps m e f = ap shapes.number_in (datum_same names others (places term.num) 0 qs ps refl f)
alike term.len names others qs ps m e f = ap shapes.length_in (datum_same names others (places term.len) 0 qs ps refl f)
alike (val_name w n) names others qs ps m e f = absurd cc
alike term.null names others qs ps m e f = refl
alike (term.truth b) names others qs ps m e f = refl
alike term.int names others qs ps m e f = ap datum.Whole (number_same names others (places term.int) 0 qs ps refl f)
alike term.bool names others qs ps m e f = ap datum.Truth (truth_same names others (places term.bool) 0 qs ps refl f)
alike term.array names others qs ps m e f = ap (λ (ds : List Datum). datum.Array (shapes.items_with ds)) (data_same names others qs ps f)
alike term.repeat names others qs ps m e f = two_same shapes.repeated _ _ _ _ (datum_same names others (places term.repeat) 0 qs ps refl f) (number_same names others (places term.repeat) 1 qs ps refl f)
alike term.update names others qs ps m e f =
    two_same (λ (d : Datum) (k : ℤ). shapes.with_element d k (datum_at (senses_of qs) 2 names)) _ _ _ _ (datum_same names others (places term.update) 0 qs ps refl f) (number_same names others (places term.update) 1 qs ps refl f)
    ∙ ap (λ (d : Datum). shapes.with_element (datum_at (senses_of ps) 0 others) (number_at (senses_of ps) 1 others) d) (datum_same names others (places term.update) 2 qs ps refl f)
alike term.get names others qs ps m e f = two_same shapes.element _ _ _ _ (datum_same names others (places term.get) 0 qs ps refl f) (number_same names others (places term.get) 1 qs ps refl f)
alike (term.fields ns) names others qs ps m e f = ap (λ (ds : List Datum). datum.Record (shapes.fields_with ns ds)) (data_same names others qs ps f)
alike (term.field name) names others qs ps m e f = ap (λ (d : Datum). shapes.field_in d name) (datum_same names others (places (term.field name)) 0 qs ps refl f)
alike (term.set_field name) names others qs ps m e f = two_same (λ (a b : Datum). shapes.with_field a name b) _ _ _ _ (datum_same names others (places (term.set_field name)) 0 qs ps refl f) (datum_same names others (places (term.set_field name)) 1 qs ps refl f)
alike term.at_most names others qs ps m e f = two_same meaning.at_most _ _ _ _ (number_same names others (places term.at_most) 0 qs ps refl f) (number_same names others (places term.at_most) 1 qs ps refl f)
alike term.equal names others qs ps m e f = two_same shapes.same_datum _ _ _ _ (datum_same names others (places term.equal) 0 qs ps refl f) (datum_same names others (places term.equal) 1 qs ps refl f)
alike (term.of_kind kind) names others qs ps m e f = ap (shapes.is_of_kind kind) (datum_same names others (places (term.of_kind kind)) 0 qs ps refl f)
alike (term.in_type n) names others qs ps m e f = ap (λ (g : ℕ → Datum → Bool). g n (datum_at (senses_of qs) 0 names)) m ∙ ap (others.is_member n) (datum_same names others (places (term.in_type n)) 0 qs ps refl f)
alike (every w n) names others qs ps m e f = absurd cc
alike (exists w n) names others qs ps m e f = absurd cc
alike term.denied names others qs ps m e f = ap not (truth_same names others (places term.denied) 0 qs ps refl f)
alike term.all_of names others qs ps m e f = all_same names others qs ps f
alike term.any_of names others qs ps m e f = any_same names others qs ps f

-- ---- terms where names stand for others

pub agree_on : (s : Sort) (a b c : Sense) → Agree s a b → Agree s b c → Agree s a c
agree_on int_sort a b c p q = p ∙ q
agree_on val_sort a b c p q = p ∙ q
agree_on formula_sort a b c p q = p ∙ q

-- what comes of the term means what it means where names stand for those terms
abbrev IsKept : Term → Type 0
IsKept t = (env : List (Term × Term)) → ArePairs env → (names : Names) → Agree (sort_in t) (sense names (replaced t env)) (sense (under env names) t)

abbrev AreKept : Parts → Type 0
AreKept no_parts = Unit {0}
AreKept (part t ps) = IsKept t × AreKept ps

pub come_agree : (wanted : Places) (s : Sort) (a b : Sense) → MayCome wanted s → Agree s a b → AgreeAt (first wanted) a b
come_agree (these []) s a b e f = absurd e
come_agree (these (r ∷ rs)) s a b e f = subst (λ (x : Sort). Agree x a b) e f
come_agree (each r) s a b e f = subst (λ (x : Sort). Agree x a b) e f

all_agree : (ps : Parts) (wanted : Places) → AreSorted ps wanted → AreKept ps → (env : List (Term × Term)) → ArePairs env → (names : Names) → AgreeAll names (under env names) wanted (parts_of (replacers ps) env) ps
all_agree no_parts wanted sorted kept env are names = tt
all_agree (part t ps) wanted sorted kept env are names = (come_agree wanted (sort_in t) (sense names (replaced t env)) (sense (under env names) t) sorted.0 (kept.0 env are names), all_agree ps (behind wanted) sorted.2 kept.1 env are names)

means : (f : Term) → sort_in f ≡ formula_sort → IsKept f → Means (replaced f) f
means f e kept env are names = subst (λ (s : Sort). Agree s (sense names (replaced f env)) (sense (under env names) f)) e (kept env are names)

counts : (s : Term) → sort_in s ≡ int_sort → IsKept s → (env : List (Term × Term)) → ArePairs env → (names : Names) → number_of names (replaced s env) ≡ number_of (under env names) s
counts s e kept env are names = subst (λ (r : Sort). Agree r (sense names (replaced s env)) (sense (under env names) s)) e (kept env are names)

quantifier_kept : (all : Bool) (w : List ℕ) (n : ℕ) (s u f : Term) → sort_in s ≡ int_sort → sort_in u ≡ int_sort → sort_in f ≡ formula_sort → IsKept s → IsKept u → IsKept f → (env : List (Term × Term)) → ArePairs env → (names : Names) → truth_of names (quantified all w n (replaced f) env (replaced s env) (replaced u env) (span_of (as_number (replaced s env)) (as_number (replaced u env)))) ≡ truth_of (under env names) (Of (binder all w n) (part s (part u (part f no_parts))))
quantifier_kept all w n s u f is_int is_int' is_formula ks ku kf env are names =
    quantified_kept all w n (replaced f) f env names (replaced s env) (replaced u env) (span_of (as_number (replaced s env)) (as_number (replaced u env))) refl (means f is_formula kf) are
    ∙ (ap (λ (y : ℤ). range_test all y (distance (number_of names (replaced u env) -ℤ y)) (λ z. truth_of (with_number (under env names) w n z) f)) (counts s is_int ks env are names)
    ∙ (ap (λ (y : ℤ). range_test all (number_of (under env names) s) (distance (y -ℤ number_of (under env names) s)) (λ z. truth_of (with_number (under env names) w n z) f)) (counts u is_int' ku env are names)
    ∙ sym (binder_holds all w n (under env names) s u f)))

from_parts : (symbol : Symbol) (ps : Parts) → AreSorted ps (places symbol) → AreKept ps → IsKept (Of symbol ps)
from_parts (int_name w n) ps sorted kept env are names = refl
from_parts (val_name w n) ps sorted kept env are names = refl
from_parts (every w n) no_parts sorted kept env are names = absurd sorted
from_parts (every w n) (part s no_parts) sorted kept env are names = absurd sorted.2
from_parts (every w n) (part s (part u no_parts)) sorted kept env are names = absurd sorted.2.2
from_parts (every w n) (part s (part u (part f no_parts))) sorted kept env are names = quantifier_kept true w n s u f sorted.0 sorted.2.0 sorted.2.2.0 kept.0 kept.1.0 kept.1.1.0 env are names
from_parts (every w n) (part s (part u (part f (part g ps)))) sorted kept env are names = absurd sorted.2.2.2.0
from_parts (exists w n) no_parts sorted kept env are names = absurd sorted
from_parts (exists w n) (part s no_parts) sorted kept env are names = absurd sorted.2
from_parts (exists w n) (part s (part u no_parts)) sorted kept env are names = absurd sorted.2.2
from_parts (exists w n) (part s (part u (part f no_parts))) sorted kept env are names = quantifier_kept false w n s u f sorted.0 sorted.2.0 sorted.2.2.0 kept.0 kept.1.0 kept.1.1.0 env are names
from_parts (exists w n) (part s (part u (part f (part g ps)))) sorted kept env are names = absurd sorted.2.2.2.0
from_parts symbol ps sorted kept env are names =
    let qs = parts_of (replacers ps) env in
    agree_on (sort_of symbol) (sense names (folded (Of symbol qs))) (sense names (Of symbol qs)) (sense (under env names) (Of symbol ps)) (folding_keeps_meaning (Of symbol qs) names tt) (alike symbol names (under env names) qs ps refl refl (all_agree ps (places symbol) sorted kept env are names))

mutual
  kept : (t : Term) → IsSorted t → IsKept t
  kept (Of symbol ps) sorted = from_parts symbol ps sorted (kept_parts ps (places symbol) sorted)

  kept_parts : (ps : Parts) (wanted : Places) → AreSorted ps wanted → AreKept ps
  kept_parts no_parts wanted sorted = tt
  kept_parts (part t ps) wanted sorted = (kept t sorted.1, kept_parts ps (behind wanted) sorted.2)

-- ---- folding

range_kept : (all : Bool) (w : List ℕ) (n : ℕ) (s u f : Term) (names : Names) (o : Option ℕ) → span_of (as_number s) (as_number u) ≡ o → sort_in f ≡ formula_sort → IsSorted f → truth_of names (fold_range all w n s u f o) ≡ truth_of names (Of (binder all w n) (part s (part u (part f no_parts))))
range_kept all w n s u f names None e is sorted = refl
range_kept all w n s u f names (Some m) e is sorted =
    quantified_kept all w n (replaced f) f [] names s u (Some m) e (means f is (kept f sorted)) tt ∙ sym (binder_holds all w n names s u f)

pub folding_kept : (t : Term) (names : Names) → IsSorted t → Agree (sort_in t) (sense names (folded t)) (sense names t)
folding_kept (Of (every w n) (part s (part u (part f no_parts)))) names sorted = range_kept true w n s u f names (span_of (as_number s) (as_number u)) refl sorted.2.2.0 sorted.2.2.1
folding_kept (Of (exists w n) (part s (part u (part f no_parts)))) names sorted = range_kept false w n s u f names (span_of (as_number s) (as_number u)) refl sorted.2.2.0 sorted.2.2.1
folding_kept t names sorted = folding_keeps_meaning t names tt
