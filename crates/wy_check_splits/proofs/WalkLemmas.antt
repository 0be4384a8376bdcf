-- What is told of the terms that are still to be looked at.
use Rattle.std.proofs.Common.{◌≡◌, ◌<◌, ◌+◌, ◌||◌, ℕ, zero, suc, List, [], ◌∷◌, ◌++◌, take, get_or, length, Bool, true, false, Some, refl, sym, ap, ◌∙◌, subst, arith}
use Rattle.std.specs.Prelude.{slice_get}
use Rattle.std.specs.Ordering.{nat_cmp, match_ordering}
use Rattle.std.specs.declared.cmp.Ordering.{Ordering}
use Rattle.std.specs.declared.cmp.Ordering.TheVariants.{Less, Equal, Greater}
use Rattle.std.specs.FinMap.{nat_cmp-IsAntisymmetric}
use Rattle.std.specs.BTreeSet.{insert_key}
use Rattle.std.proofs.lemmas.List.{take_more}
use Rattle.std.proofs.lemmas.Map.Views.{All-insert_key}
use Rattle.wy_lemmas.proofs.Choices.{or_assoc, or_swapped as or_swap}
use Rattle.wy_lemmas.proofs.Lists.{take_next}
use Rattle.wy_lemmas.proofs.Options.{pair_is}
use Rattle.wy_check_nodes.specs.wy_facts.Seen.{AreBelow}
use Rattle.wy_check_nodes.specs.Seen.{AreOver}
use Rattle.wy_check_splits.specs.Walk.{any_over, any_first}

or_twice : (a b : Bool) → (a || b) ≡ (a || (a || b))
or_twice true b = refl
or_twice false b = refl

-- ---- sets of numbers

pub any_over-append : (test : ℕ → Bool) (ks js : List ℕ) → any_over test (ks ++ js) ≡ (any_over test ks || any_over test js)
any_over-append test [] js = refl
any_over-append test (k ∷ ks) js = ap (λ (b : Bool). test k || b) (any_over-append test ks js) ∙ sym (or_assoc (test k) (any_over test ks) (any_over test js))

-- one number more
pub any_over-insert_key : (test : ℕ → Bool) (ks : List ℕ) (k : ℕ) → any_over test (insert_key nat_cmp ks k) ≡ (test k || any_over test ks)
any_over-insert_key test [] k = refl
any_over-insert_key test (x ∷ xs) k = by (nat_cmp k x) refl (any_over-insert_key test xs k)
  where
    by : (o : Ordering) → nat_cmp k x ≡ o → any_over test (insert_key nat_cmp xs k) ≡ (test k || any_over test xs) → any_over test (match_ordering o (k ∷ x ∷ xs) (x ∷ xs) (x ∷ insert_key nat_cmp xs k)) ≡ (test k || any_over test (x ∷ xs))
    by Less e rest = refl
    by Equal e rest = let same : k ≡ x = nat_cmp-IsAntisymmetric k x e in or_twice (test x) (any_over test xs) ∙ ap (λ (j : ℕ). test j || (test x || any_over test xs)) (sym same)
    by Greater e rest = ap (λ (b : Bool). test x || b) rest ∙ or_swap (test x) (test k) (any_over test xs)

-- the greatest number taken away
pub any_over-last : (test : ℕ → Bool) (old new : List ℕ) (t : ℕ) → old ≡ new ++ t ∷ [] → any_over test old ≡ (test t || any_over test new)
any_over-last test old new t e = ap (any_over test) e ∙ (any_over-append test new (t ∷ []) ∙ turn (any_over test new) (test t))
  where
    turn : (a b : Bool) → (a || (b || false)) ≡ (b || a)
    turn true true = refl
    turn true false = refl
    turn false true = refl
    turn false false = refl

any_first-append : (test : ℕ → Bool) (ps qs : List (ℕ × Bool)) → any_first test (ps ++ qs) ≡ (any_first test ps || any_first test qs)
any_first-append test [] qs = refl
any_first-append test (p ∷ ps) qs = ap (λ (b : Bool). test p.0 || b) (any_first-append test ps qs) ∙ sym (or_assoc (test p.0) (any_first test ps) (any_first test qs))

-- ---- one number after the other

pub put_more : (test : ℕ → Bool) (parts : List ℕ) (i : ℕ) (old new : List ℕ) (first : Bool) → i < length parts → new ≡ insert_key nat_cmp old (get_or parts i 0) → any_over test old ≡ (any_over test (take i parts) || first) → any_over test new ≡ (any_over test (take (i + 1) parts) || first)
put_more test parts i old new first lt puts so =
    let k = get_or parts i 0 in
    ap (any_over test) puts
    ∙ (any_over-insert_key test old k
    ∙ (ap (λ (b : Bool). test k || b) so
    ∙ (turn (test k) (any_over test (take i parts)) first
    ∙ ap (λ (b : Bool). b || first) (sym (ap (any_over test) (take_more parts i 0 lt) ∙ any_over-append test (take i parts) (k ∷ []))))))
  where
    turn : (a b c : Bool) → (a || (b || c)) ≡ ((b || (a || false)) || c)
    turn true true c = refl
    turn true false c = refl
    turn false true c = refl
    turn false false c = refl

pub below_put : (n : ℕ) (old new : List ℕ) (k : ℕ) → new ≡ insert_key nat_cmp old k → k < n → AreBelow n old → AreBelow n new
below_put n old new k puts lt below = subst (AreBelow n) (sym puts) (All-insert_key nat_cmp k (λ (j : ℕ). j < n) old below lt)

-- ---- one member after the other

pub member_more : (test : ℕ → Bool) (ps : List (ℕ × Bool)) (i : ℕ) (p : ℕ × Bool) (old new : List ℕ) (first : Bool) → slice_get ps i ≡ Some p → new ≡ insert_key nat_cmp old p.0 → any_over test old ≡ (any_first test (take i ps) || first) → any_over test new ≡ (any_first test (take (i + 1) ps) || first)
member_more test ps i p old new first here puts so =
    let next : i + 1 ≡ suc i = omega arith in
    ap (any_over test) puts
    ∙ (any_over-insert_key test old p.0
    ∙ (ap (λ (b : Bool). test p.0 || b) so
    ∙ (turn (test p.0) (any_first test (take i ps)) first
    ∙ ap (λ (b : Bool). b || first) (sym (ap (λ (j : ℕ). any_first test (take j ps)) next ∙ (ap (any_first test) (take_next ps i p here) ∙ any_first-append test (take i ps) (p ∷ [])))))))
  where
    turn : (a b c : Bool) → (a || (b || c)) ≡ ((b || (a || false)) || c)
    turn true true c = refl
    turn true false c = refl
    turn false true c = refl
    turn false false c = refl

pub member_below : (n : ℕ) (ps : List (ℕ × Bool)) (i : ℕ) (p : ℕ × Bool) → slice_get ps i ≡ Some p → AreOver n ps → p.0 < n
member_below n [] i p e over = absurd cc
member_below n (q ∷ qs) zero p e over = subst (λ (x : ℕ × Bool). x.0 < n) (pair_is q p e) over.0
member_below n (q ∷ qs) (suc i) p e over = member_below n qs i p e over.1

-- ---- one step

-- a term that was looked at: it is the name, or its open parts are to be looked at
pub look_told : (free : ℕ → Bool) (is whole : Bool) (ks ps todo after : List ℕ) → whole ≡ (is || any_over free ps) → ks ≡ ps → any_over free after ≡ (any_over free ks || any_over free todo) → (is || any_over free after) ≡ (whole || any_over free todo)
look_told free is whole ks ps todo after told parts put =
    ap (λ (b : Bool). is || b) put
    ∙ (sym (or_assoc is (any_over free ks) (any_over free todo))
    ∙ ap (λ (b : Bool). b || any_over free todo) (ap (λ (js : List ℕ). is || any_over free js) parts ∙ sym told))
