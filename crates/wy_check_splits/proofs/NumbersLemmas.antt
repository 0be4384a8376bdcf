-- The numbers of the names in a node.
use Rattle.std.proofs.Common.{◌≡◌, ◌<◌, ◌+◌, ◌||◌, ℕ, zero, suc, List, [], ◌∷◌, ◌++◌, map, take, Bool, true, false, Some, refl, sym, ap, subst, ◌∙◌, arith}
use Rattle.std.proofs.lemmas.List.{append-nil}
use Rattle.std.specs.Prelude.{slice_get}
use Rattle.wy_lemmas.proofs.Choices.{or_assoc}
use Rattle.wy_check_nodes.specs.wy_term.Term.{Symbol, Term}
use Rattle.wy_check_nodes.specs.wy_term.Nodes.{Plain}
use Rattle.wy_check_nodes.specs.wy_term_subst.declared.names.Taken.{Taken}
use Rattle.wy_check_nodes.specs.wy_term_subst.Names.{any_symbol, numbers_in, is_in}
use Rattle.wy_check_nodes.specs.wy_term_subst.View.{any_at, noted_numbers, Counts}
use Rattle.wy_check_nodes.proofs.wy_term_subst_proofs.NameLemmas.{is_in-append, has_number, is_in-noted, is_in-numbers_in, counts_same}
use Rattle.wy_check_nodes.specs.Seen.{AreOver, signed, seen_literal, seen_formula}
use Rattle.wy_check_nodes.specs.wy_check_spec.valid.Ranges.{numbers_in_literals, numbers_in_formulas}
use Rattle.wy_check_splits.specs.Numbers.{numbers_of}

-- ---- one term

pub counts_term : (taken : Taken) (nodes : List Plain) (t : Term) (all ns : List ℕ) → ((test : Symbol → Bool) → any_at nodes test all ≡ any_symbol test t) → Counts taken (noted_numbers nodes all ns) → Counts taken (numbers_in t ++ ns)
counts_term taken nodes t all ns is counts = counts_same taken (noted_numbers nodes all ns) (numbers_in t ++ ns) same counts
  where
    same : (n : ℕ) → is_in n (noted_numbers nodes all ns) ≡ is_in n (numbers_in t ++ ns)
    same n =
        is_in-noted nodes n all ns
        ∙ (ap (λ (b : Bool). b || is_in n ns) (is (has_number n) ∙ sym (is_in-numbers_in n t)) ∙ sym (is_in-append n (numbers_in t) ns))

-- ---- lists of terms

or_turn : (a b c : Bool) → (a || (b || c)) ≡ ((b || a) || c)
or_turn true true c = refl
or_turn true false c = refl
or_turn false true c = refl
or_turn false false c = refl

or_swap : (a b : Bool) → (a || b) ≡ (b || a)
or_swap true true = refl
or_swap true false = refl
or_swap false true = refl
or_swap false false = refl

of_next : (at : ℕ → Term) (ps : List (ℕ × Bool)) (i : ℕ) (p : ℕ × Bool) (n : ℕ) → slice_get ps i ≡ Some p → is_in n (numbers_of at (take (suc i) ps)) ≡ (is_in n (numbers_of at (take i ps)) || is_in n (numbers_in (at p.0)))
of_next at [] i p n e = absurd cc
of_next at (q ∷ qs) zero p n e = ap (λ (x : ℕ × Bool). is_in n (numbers_in (at x.0) ++ [])) (pair_is q p e) ∙ ap (is_in n) (append-nil (numbers_in (at p.0)))
  where
    pair_is : (x y : ℕ × Bool) → Some x ≡ Some y → x ≡ y
    pair_is x y h = cc
of_next at (q ∷ qs) (suc i) p n e =
    is_in-append n (numbers_in (at q.0)) (numbers_of at (take (suc i) qs))
    ∙ (ap (λ (b : Bool). is_in n (numbers_in (at q.0)) || b) (of_next at qs i p n e)
    ∙ (sym (or_assoc (is_in n (numbers_in (at q.0))) (is_in n (numbers_of at (take i qs))) (is_in n (numbers_in (at p.0))))
    ∙ ap (λ (b : Bool). b || is_in n (numbers_in (at p.0))) (sym (is_in-append n (numbers_in (at q.0)) (numbers_of at (take i qs))))))

of_last : (at : ℕ → Term) (ps : List (ℕ × Bool)) (i : ℕ) (p : ℕ × Bool) (n : ℕ) → slice_get ps i ≡ Some p → is_in n (numbers_of at (take (i + 1) ps)) ≡ (is_in n (numbers_of at (take i ps)) || is_in n (numbers_in (at p.0)))
of_last at ps i p n e = let next : i + 1 ≡ suc i = omega arith in ap (λ (j : ℕ). is_in n (numbers_of at (take j ps))) next ∙ of_next at ps i p n e

pub counts_more : (taken : Taken) (at : ℕ → Term) (ps : List (ℕ × Bool)) (i : ℕ) (p : ℕ × Bool) (ns : List ℕ) → slice_get ps i ≡ Some p → Counts taken (numbers_in (at p.0) ++ (numbers_of at (take i ps) ++ ns)) → Counts taken (numbers_of at (take (i + 1) ps) ++ ns)
counts_more taken at ps i p ns e counts = counts_same taken (numbers_in (at p.0) ++ (numbers_of at (take i ps) ++ ns)) (numbers_of at (take (i + 1) ps) ++ ns) same counts
  where
    same : (n : ℕ) → is_in n (numbers_in (at p.0) ++ (numbers_of at (take i ps) ++ ns)) ≡ is_in n (numbers_of at (take (i + 1) ps) ++ ns)
    same n =
        is_in-append n (numbers_in (at p.0)) (numbers_of at (take i ps) ++ ns)
        ∙ (ap (λ (b : Bool). is_in n (numbers_in (at p.0)) || b) (is_in-append n (numbers_of at (take i ps)) ns)
        ∙ (or_turn (is_in n (numbers_in (at p.0))) (is_in n (numbers_of at (take i ps))) (is_in n ns)
        ∙ (ap (λ (b : Bool). b || is_in n ns) (sym (of_last at ps i p n e)) ∙ sym (is_in-append n (numbers_of at (take (i + 1) ps)) ns))))

pub over_at : (n : ℕ) (ps : List (ℕ × Bool)) (i : ℕ) (p : ℕ × Bool) → AreOver n ps → slice_get ps i ≡ Some p → p.0 < n
over_at n [] i p over e = absurd cc
over_at n (q ∷ qs) zero p over e = let is : q ≡ p = cc in subst (λ (x : ℕ × Bool). x.0 < n) is over.0
over_at n (q ∷ qs) (suc i) p over e = over_at n qs i p over.1 e

-- ---- nodes

pub literal_numbers : (at : ℕ → Term) (ps : List (ℕ × Bool)) → numbers_in_literals (map (seen_literal at) ps) ≡ numbers_of at ps
literal_numbers at [] = refl
literal_numbers at (p ∷ ps) = ap (λ (ns : List ℕ). numbers_in (at p.0) ++ ns) (literal_numbers at ps)

signed_numbers : (f : Term) (holds : Bool) → numbers_in (signed f holds) ≡ numbers_in f
signed_numbers f true = refl
signed_numbers f false = append-nil (numbers_in f)

pub formula_numbers : (at : ℕ → Term) (ps : List (ℕ × Bool)) → numbers_in_formulas (map (seen_formula at) ps) ≡ numbers_of at ps
formula_numbers at [] = refl
formula_numbers at (p ∷ ps) = ap (λ (ns : List ℕ). ns ++ numbers_in_formulas (map (seen_formula at) ps)) (signed_numbers (at p.0) p.1) ∙ ap (λ (ns : List ℕ). numbers_in (at p.0) ++ ns) (formula_numbers at ps)

pub counts_node : (taken : Taken) (at : ℕ → Term) (ls ps : List (ℕ × Bool)) → Counts taken (numbers_of at ps ++ (numbers_of at ls ++ [])) → Counts taken (numbers_in_literals (map (seen_literal at) ls) ++ numbers_in_formulas (map (seen_formula at) ps))
counts_node taken at ls ps counts = counts_same taken (numbers_of at ps ++ (numbers_of at ls ++ [])) (numbers_in_literals (map (seen_literal at) ls) ++ numbers_in_formulas (map (seen_formula at) ps)) same counts
  where
    same : (n : ℕ) → is_in n (numbers_of at ps ++ (numbers_of at ls ++ [])) ≡ is_in n (numbers_in_literals (map (seen_literal at) ls) ++ numbers_in_formulas (map (seen_formula at) ps))
    same n =
        is_in-append n (numbers_of at ps) (numbers_of at ls ++ [])
        ∙ (ap (λ (ns : List ℕ). is_in n (numbers_of at ps) || is_in n ns) (append-nil (numbers_of at ls))
        ∙ (or_swap (is_in n (numbers_of at ps)) (is_in n (numbers_of at ls))
        ∙ (sym (is_in-append n (numbers_of at ls) (numbers_of at ps))
        ∙ (ap (λ (ns : List ℕ). is_in n (ns ++ numbers_of at ps)) (sym (literal_numbers at ls)) ∙ ap (λ (ns : List ℕ). is_in n (numbers_in_literals (map (seen_literal at) ls) ++ ns)) (sym (formula_numbers at ps))))))
