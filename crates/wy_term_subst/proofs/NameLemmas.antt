-- Numbers that are taken, and names that stand in terms.
use Rattle.std.proofs.Common.{◌≡◌, ◌<◌, ◌≤◌, ◌+◌, ◌-◌, ◌||◌, ℕ, zero, suc, List, [], ◌∷◌, ◌++◌, length, get_or, take, Bool, true, false, cond, eqb, ltb, refl, sym, ap, ◌∙◌, arith}
use Rattle.std.proofs.lemmas.Bool.{eqb-true}
use Rattle.std.proofs.lemmas.Bool.Decides.{nat_tests}
use Rattle.std.proofs.lemmas.List.{take_more}
use Rattle.std.specs.Prelude.{◌^◌}
use Rattle.wy_term.proofs.wy_lemmas_proofs.Choices.{eqb_itself as eqb_self, or_left, or_right, or_assoc, or_swapped as or_swap}
use Rattle.wy_term.specs.Term.{Symbol, Term, Of, Parts, part, no_parts}
use Rattle.wy_term.specs.Nodes.{Plain}
use Rattle.wy_term_subst.specs.declared.names.Taken.{Taken}
use Rattle.wy_term_subst.specs.Names.{any_symbol, any_in_parts, numbers_by, numbers_in, numbers_in_parts, is_in, top, first_free, new_number}
use Rattle.wy_term_subst.specs.View.{symbol_at, any_at, noted_numbers, Counts}

-- ---- numbers

pub is_in-append : (n : ℕ) (ms ns : List ℕ) → is_in n (ms ++ ns) ≡ (is_in n ms || is_in n ns)
is_in-append n [] ns = refl
is_in-append n (m ∷ ms) ns = ap (λ (b : Bool). eqb m n || b) (is_in-append n ms ns) ∙ sym (or_assoc (eqb m n) (is_in n ms) (is_in n ns))

abbrev pub has_number : ℕ → Symbol → Bool
has_number n symbol = is_in n (numbers_by symbol)

pub is_in-noted : (nodes : List Plain) (n : ℕ) (ks ns : List ℕ) → is_in n (noted_numbers nodes ks ns) ≡ (any_at nodes (has_number n) ks || is_in n ns)
is_in-noted nodes n [] ns = refl
is_in-noted nodes n (k ∷ ks) ns =
    let here = numbers_by (symbol_at nodes k) in
    is_in-noted nodes n ks (here ++ ns)
    ∙ (ap (λ (b : Bool). any_at nodes (has_number n) ks || b) (is_in-append n here ns)
    ∙ (or_swap (any_at nodes (has_number n) ks) (is_in n here) (is_in n ns) ∙ sym (or_assoc (is_in n here) (any_at nodes (has_number n) ks) (is_in n ns))))

mutual
  pub is_in-numbers_in : (n : ℕ) (t : Term) → is_in n (numbers_in t) ≡ any_symbol (has_number n) t
  is_in-numbers_in n (Of symbol ps) = is_in-append n (numbers_by symbol) (numbers_in_parts ps) ∙ ap (λ (b : Bool). is_in n (numbers_by symbol) || b) (is_in-numbers_in_parts n ps)

  pub is_in-numbers_in_parts : (n : ℕ) (ps : Parts) → is_in n (numbers_in_parts ps) ≡ any_in_parts (has_number n) ps
  is_in-numbers_in_parts n no_parts = refl
  is_in-numbers_in_parts n (part t ps) =
      is_in-append n (numbers_in t) (numbers_in_parts ps)
      ∙ (ap (λ (b : Bool). b || is_in n (numbers_in_parts ps)) (is_in-numbers_in n t) ∙ ap (λ (b : Bool). any_symbol (has_number n) t || b) (is_in-numbers_in_parts n ps))

-- ---- the greatest

pub in_below : (n : ℕ) (ns : List ℕ) → is_in n ns ≡ true → n ≤ top ns
in_below n [] e = absurd cc
in_below n (m ∷ ns) e = either (eqb m n) refl e (λ f. in_below n ns f)
  where
    above : m ≤ top (m ∷ ns)
    above = grind (arith, nat_tests)

    rest_above : top ns ≤ top (m ∷ ns)
    rest_above = grind (arith, nat_tests)

    either : (b : Bool) → eqb m n ≡ b → (b || is_in n ns) ≡ true → (is_in n ns ≡ true → n ≤ top ns) → n ≤ top (m ∷ ns)
    either true same f g = let is : m ≡ n = eqb-true m n same in omega (arith, is, above)
    either false same f g = let le = g f in omega (arith, le, rest_above)

-- the greatest is one of them, or 0
pub top_in : (ns : List ℕ) → 0 < top ns → is_in (top ns) ns ≡ true
top_in [] lt = absurd (omega arith)
top_in (m ∷ ns) lt = either (ltb (top ns) m) lt (top_in ns)
  where
    either : (b : Bool) → 0 < cond b m (top ns) → (0 < top ns → is_in (top ns) ns ≡ true) → is_in (cond b m (top ns)) (m ∷ ns) ≡ true
    either true lt rest = or_left (eqb m m) (is_in m ns) (eqb_self m)
    either false lt rest = or_right (eqb m (top ns)) (is_in (top ns) ns) (rest lt)

pub top_below : (ms ns : List ℕ) → ((n : ℕ) → is_in n ms ≡ is_in n ns) → top ms ≤ top ns
top_below ms ns same = either (ltb 0 (top ms)) refl
  where
    either : (b : Bool) → ltb 0 (top ms) ≡ b → top ms ≤ top ns
    either true e = let lt : 0 < top ms = grind (arith, nat_tests) in in_below (top ms) ns (sym (same (top ms)) ∙ top_in ms lt)
    either false e = let le : top ms ≤ 0 = grind (arith, nat_tests) in omega arith

pub top_same : (ms ns : List ℕ) → ((n : ℕ) → is_in n ms ≡ is_in n ns) → top ms ≡ top ns
top_same ms ns same = let a = top_below ms ns same in let b = top_below ns ms (λ n. sym (same n)) in omega (arith, a, b)

pub counts_same : (taken : Taken) (ms ns : List ℕ) → ((n : ℕ) → is_in n ms ≡ is_in n ns) → Counts taken ms → Counts taken ns
counts_same taken ms ns same counts = record { numbers = λ n. counts.numbers n ∙ same n; greatest = counts.greatest ∙ top_same ms ns same }

-- the numbers that were noted in two passes are those of the two terms
pub counts_both : (taken : Taken) (nodes : List Plain) (f t : Term) (in_f in_t : List ℕ) → ((test : Symbol → Bool) → any_at nodes test in_f ≡ any_symbol test f) → ((test : Symbol → Bool) → any_at nodes test in_t ≡ any_symbol test t) → Counts taken (noted_numbers nodes in_f (noted_numbers nodes in_t [])) → Counts taken (numbers_in f ++ numbers_in t)
counts_both taken nodes f t in_f in_t all_f all_t counts = counts_same taken (noted_numbers nodes in_f (noted_numbers nodes in_t [])) (numbers_in f ++ numbers_in t) same counts
  where
    or_none : (b : Bool) → (b || false) ≡ b
    or_none true = refl
    or_none false = refl

    same : (n : ℕ) → is_in n (noted_numbers nodes in_f (noted_numbers nodes in_t [])) ≡ is_in n (numbers_in f ++ numbers_in t)
    same n =
        is_in-noted nodes n in_f (noted_numbers nodes in_t [])
        ∙ (ap (λ (b : Bool). any_at nodes (has_number n) in_f || b) (is_in-noted nodes n in_t [] ∙ (or_none (any_at nodes (has_number n) in_t) ∙ (all_t (has_number n) ∙ sym (is_in-numbers_in n t))))
        ∙ (ap (λ (b : Bool). b || is_in n (numbers_in t)) (all_f (has_number n) ∙ sym (is_in-numbers_in n f)) ∙ sym (is_in-append n (numbers_in f) (numbers_in t))))

-- ---- noting

noted-append : (nodes : List Plain) (ks js ns : List ℕ) → noted_numbers nodes (ks ++ js) ns ≡ noted_numbers nodes js (noted_numbers nodes ks ns)
noted-append nodes [] js ns = refl
noted-append nodes (k ∷ ks) js ns = noted-append nodes ks js (numbers_by (symbol_at nodes k) ++ ns)

pub noted_more : (nodes : List Plain) (ks ns : List ℕ) (i d : ℕ) → i < length ks → noted_numbers nodes (take (i + 1) ks) ns ≡ numbers_by (symbol_at nodes (get_or ks i d)) ++ noted_numbers nodes (take i ks) ns
noted_more nodes ks ns i d lt = ap (λ (js : List ℕ). noted_numbers nodes js ns) (take_more ks i d lt) ∙ noted-append nodes (take i ks) (get_or ks i d ∷ []) ns

any_append : (nodes : List Plain) (test : Symbol → Bool) (ks js : List ℕ) → any_at nodes test (ks ++ js) ≡ (any_at nodes test ks || any_at nodes test js)
any_append nodes test [] js = refl
any_append nodes test (k ∷ ks) js = ap (λ (b : Bool). test (symbol_at nodes k) || b) (any_append nodes test ks js) ∙ sym (or_assoc (test (symbol_at nodes k)) (any_at nodes test ks) (any_at nodes test js))

pub any_more : (nodes : List Plain) (test : Symbol → Bool) (ks : List ℕ) (i d : ℕ) → i < length ks → any_at nodes test (take (i + 1) ks) ≡ (test (symbol_at nodes (get_or ks i d)) || any_at nodes test (take i ks))
any_more nodes test ks i d lt = ap (any_at nodes test) (take_more ks i d lt) ∙ (any_append nodes test (take i ks) (get_or ks i d ∷ []) ∙ flip (any_at nodes test (take i ks)) (test (symbol_at nodes (get_or ks i d))))
  where
    flip : (a b : Bool) → (a || (b || false)) ≡ (b || a)
    flip true true = refl
    flip true false = refl
    flip false true = refl
    flip false false = refl

-- ---- new numbers

-- no number above the greatest is one of them
above_free : (n : ℕ) (ns : List ℕ) → top ns < n → is_in n ns ≡ false
above_free n ns lt = either (is_in n ns) refl
  where
    either : (b : Bool) → is_in n ns ≡ b → b ≡ false
    either false e = refl
    either true e = let le = in_below n ns e in absurd (omega (arith, le, lt))

-- one that is taken is passed by
pub free_more : (ns : List ℕ) (n : ℕ) → is_in n ns ≡ true → first_free (top ns + 1 - n) n ns ≡ first_free (top ns + 1 - (n + 1)) (n + 1) ns
free_more ns n e =
    let le = in_below n ns e in
    let more : top ns + 1 - n ≡ suc (top ns + 1 - (n + 1)) = omega (arith, le) in
    ap (λ (k : ℕ). first_free k n ns) more ∙ ap (λ (b : Bool). cond b (first_free (top ns + 1 - (n + 1)) (n + 1) ns) n) e

pub free_here : (ns : List ℕ) (k n : ℕ) → is_in n ns ≡ false → first_free k n ns ≡ n
free_here ns zero n e = refl
free_here ns (suc k) n e = ap (λ (b : Bool). cond b (first_free k (n + 1) ns) n) e

pub free_first : (ns : List ℕ) → first_free (top ns + 1 - 0) 0 ns ≡ first_free (top ns + 1) 0 ns
free_first ns = let e : top ns + 1 - 0 ≡ top ns + 1 = omega arith in ap (λ (k : ℕ). first_free k 0 ns) e

first_free-new : (k n : ℕ) (ns : List ℕ) → top ns < n + k → is_in (first_free k n ns) ns ≡ false
first_free-new zero n ns lt = above_free n ns (omega arith)
first_free-new (suc k) n ns lt = either (is_in n ns) refl (first_free-new k (n + 1) ns (omega arith))
  where
    either : (b : Bool) → is_in n ns ≡ b → is_in (first_free k (n + 1) ns) ns ≡ false → is_in (cond b (first_free k (n + 1) ns) n) ns ≡ false
    either true e rest = rest
    either false e rest = e

-- a new number is none of those that are taken
pub new_number-new : (ns : List ℕ) → is_in (new_number ns) ns ≡ false
new_number-new ns = either (ltb (top ns + 1) (2 ^ 127))
  where
    either : (b : Bool) → is_in (cond b (top ns + 1) (first_free (top ns + 1) 0 ns)) ns ≡ false
    either true = above_free (top ns + 1) ns (omega arith)
    either false = first_free-new (top ns + 1) 0 ns (omega arith)
