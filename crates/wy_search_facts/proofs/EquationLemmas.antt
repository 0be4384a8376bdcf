-- Whether a term stands in others, and in their equations, by their parts.
use Rattle.std.proofs.Common.{◌≡◌, ◌∙◌, ◌||◌, ◌&&◌, ℕ, List, [], ◌∷◌, ◌++◌, map, Bool, true, false, cond, refl, sym, ap, ap₂}
use Rattle.std.specs.Prelude.{is_some}
use Rattle.wy_facts.specs.Schema.{as_equation}
use Rattle.wy_check_nodes.specs.Seen.{seen_formula, seen_literal}
use Rattle.wy_lemmas.proofs.Choices.{or_none, cond_or, or_assoc}
use Rattle.wy_cong.specs.wy_search_spec.Expansion.{has_standing, in_equation}
use Rattle.wy_cong.specs.wy_search_spec.Standing.{Standing, all_parts, below, bound_by, in_formulas, in_literals, of_range, standing_in, standing_in_parts}
use Rattle.wy_check_splits.specs.Walk.{any_first, any_over}
use Rattle.wy_search_facts.specs.About.{equates, equates_in, stands_in}
use Rattle.wy_term.specs.declared.node.Node.{Node}
use Rattle.wy_term.specs.declared.node.Node.TheVariants as node
use Rattle.wy_term.specs.Nodes.{grown, parts_at, plain}
use Rattle.wy_term.specs.Same.{same_term}
use Rattle.wy_term.specs.Term.{Symbol, Term, Of, Not, leaf, int_name}

-- the test holds of what stands at one of these places
abbrev any_of : (Term → Bool) → List Standing → Bool
any_of test [] = false
any_of test (s ∷ ss) = test s.what || any_of test ss

abbrev inside : (Term → Bool) → (ℕ → Term) → ℕ → Bool
inside test at k = any_of test (standing_in (at k))

any_append : (test : Term → Bool) (ss us : List Standing) → any_of test (ss ++ us) ≡ (any_of test ss || any_of test us)
any_append test [] us = refl
any_append test (s ∷ ss) us = ap (λ (b : Bool). test s.what || b) (any_append test ss us) ∙ sym (or_assoc (test s.what) (any_of test ss) (any_of test us))

any_bound : (test : Term → Bool) (x : Term) (ss : List Standing) → any_of test (map (bound_by x) ss) ≡ any_of test ss
any_bound test x [] = refl
any_bound test x (s ∷ ss) = ap (λ (b : Bool). test s.what || b) (any_bound test x ss)

any_parts : (test : Term → Bool) (at : ℕ → Term) (ks : List ℕ) → any_of test (all_parts (standing_in_parts (parts_at at ks))) ≡ any_over (inside test at) ks
any_parts test at [] = refl
any_parts test at (k ∷ ks) =
    any_append test (standing_in (at k)) (all_parts (standing_in_parts (parts_at at ks)))
    ∙ ap (λ (b : Bool). inside test at k || b) (any_parts test at ks)

any_range : (test : Term → Bool) (at : ℕ → Term) (x : Term) (a b c : ℕ) → any_of test (of_range x (standing_in_parts (parts_at at (a ∷ b ∷ c ∷ [])))) ≡ any_over (inside test at) (a ∷ b ∷ c ∷ [])
any_range test at x a b c =
    any_append test (standing_in (at a)) (standing_in (at b) ++ map (bound_by x) (standing_in (at c)))
    ∙ ap (λ (e : Bool). inside test at a || e)
    (any_append test (standing_in (at b)) (map (bound_by x) (standing_in (at c)))
    ∙ ap (λ (e : Bool). inside test at b || e) (any_bound test x (standing_in (at c)) ∙ sym (or_none (inside test at c))))

below_any : (test : Term → Bool) (at : ℕ → Term) (n : Node) → any_of test (below (plain n).symbol (standing_in_parts (parts_at at (plain n).parts))) ≡ any_over (inside test at) (plain n).parts
below_any test at (node.All q) = any_range test at (leaf (int_name q.word q.number)) q.from q.below q.body
below_any test at (node.Some q) = any_range test at (leaf (int_name q.word q.number)) q.from q.below q.body
below_any test at n = any_parts test at (plain n).parts

-- the test holds of what stands in a term where it holds of the term, or of what stands in a part
any_node : (test : Term → Bool) (at : ℕ → Term) (t : Term) (n : Node) → t ≡ grown at (plain n) → any_of test (standing_in t) ≡ (test t || any_over (inside test at) (plain n).parts)
any_node test at t n is =
    ap (λ (u : Term). any_of test (standing_in u)) is
    ∙ ap (λ (b : Bool). test (grown at (plain n)) || b) (below_any test at n)
    ∙ ap (λ (u : Term). test u || any_over (inside test at) (plain n).parts) (sym is)

-- ---- the two tests

abbrev is_it : Term → Term → Bool
is_it v t = same_term t v

abbrev is_equating : Term → Term → Bool
is_equating v t = is_some (as_equation t) && has_standing (standing_in t) v

has_is : (v : Term) (ss : List Standing) → has_standing ss v ≡ any_of (is_it v) ss
has_is v [] = refl
has_is v (s ∷ ss) = cond_or (same_term s.what v) (has_standing ss v) ∙ ap (λ (b : Bool). same_term s.what v || b) (has_is v ss)

equation_is : (v : Term) (ss : List Standing) → in_equation ss v ≡ any_of (is_equating v) ss
equation_is v [] = refl
equation_is v (s ∷ ss) = ap (λ (b : Bool). is_equating v s.what || b) (equation_is v ss)

over_as : (f g : ℕ → Bool) → ((k : ℕ) → f k ≡ g k) → (ks : List ℕ) → any_over f ks ≡ any_over g ks
over_as f g so [] = refl
over_as f g so (k ∷ ks) = ap₂ (λ (a b : Bool). a || b) (so k) (over_as f g so ks)

pub stands_by_parts : (at : ℕ → Term) (v : Term) (k : ℕ) (n : Node) → at k ≡ grown at (plain n) → stands_in at v k ≡ (same_term (at k) v || any_over (stands_in at v) (plain n).parts)
stands_by_parts at v k n is =
    has_is v (standing_in (at k))
    ∙ any_node (is_it v) at (at k) n is
    ∙ ap (λ (b : Bool). same_term (at k) v || b) (over_as (inside (is_it v) at) (stands_in at v) (λ j. sym (has_is v (standing_in (at j)))) (plain n).parts)

pub equates_by_parts : (at : ℕ → Term) (v : Term) (k : ℕ) (n : Node) → at k ≡ grown at (plain n) → equates_in at v k ≡ (equates at v k || any_over (equates_in at v) (plain n).parts)
equates_by_parts at v k n is =
    equation_is v (standing_in (at k))
    ∙ any_node (is_equating v) at (at k) n is
    ∙ ap (λ (b : Bool). equates at v k || b) (over_as (inside (is_equating v) at) (equates_in at v) (λ j. sym (equation_is v (standing_in (at j)))) (plain n).parts)

-- ---- literals and pending formulas

equation_append : (v : Term) (ss us : List Standing) → in_equation (ss ++ us) v ≡ (in_equation ss v || in_equation us v)
equation_append v ss us = equation_is v (ss ++ us) ∙ (any_append (is_equating v) ss us ∙ sym (ap₂ (λ (a b : Bool). a || b) (equation_is v ss) (equation_is v us)))

of_literals : (at : ℕ → Term) (v : Term) (ps : List (ℕ × Bool)) → in_equation (in_literals (map (seen_literal at) ps)) v ≡ any_first (equates_in at v) ps
of_literals at v [] = refl
of_literals at v (p ∷ ps) = equation_append v (standing_in (at p.0)) (in_literals (map (seen_literal at) ps)) ∙ ap (λ (b : Bool). equates_in at v p.0 || b) (of_literals at v ps)

one_formula : (at : ℕ → Term) (v : Term) (k : ℕ) (holds : Bool) → in_equation (standing_in (seen_formula at (k, holds))) v ≡ equates_in at v k
one_formula at v k true = refl
one_formula at v k false = equation_append v (standing_in (at k)) [] ∙ or_none (equates_in at v k)

of_formulas : (at : ℕ → Term) (v : Term) (ps : List (ℕ × Bool)) → in_equation (in_formulas (map (seen_formula at) ps)) v ≡ any_first (equates_in at v) ps
of_formulas at v [] = refl
of_formulas at v (p ∷ ps) =
    equation_append v (standing_in (seen_formula at p)) (in_formulas (map (seen_formula at) ps))
    ∙ ap₂ (λ (a b : Bool). a || b) (one_formula at v p.0 p.1) (of_formulas at v ps)

pub all_told : (at : ℕ → Term) (v : Term) (ls ps : List (ℕ × Bool)) (none one both : List ℕ) → none ≡ [] → any_over (equates_in at v) one ≡ (any_first (equates_in at v) ps || any_over (equates_in at v) none)
    → any_over (equates_in at v) both ≡ (any_first (equates_in at v) ls || any_over (equates_in at v) one)
    → any_over (equates_in at v) both ≡ in_equation (in_literals (map (seen_literal at) ls) ++ in_formulas (map (seen_formula at) ps)) v
all_told at v ls ps none one both empty first second =
    let f = equates_in at v in
    second
    ∙ ap₂ (λ (a b : Bool). a || b) (sym (of_literals at v ls)) (first ∙ (ap (λ (ks : List ℕ). any_first f ps || any_over f ks) empty ∙ (or_none (any_first f ps) ∙ sym (of_formulas at v ps))))
    ∙ sym (equation_append v (in_literals (map (seen_literal at) ls)) (in_formulas (map (seen_formula at) ps)))
