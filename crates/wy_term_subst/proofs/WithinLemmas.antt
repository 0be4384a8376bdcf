-- What a term is made of: the tests of its symbols, and of those of the terms that are listed.
use Rattle.std.proofs.Common.{◌≡◌, ◌<◌, ◌≤◌, ◌||◌, ℕ, zero, suc, List, [], ◌∷◌, ◌++◌, All, length, Bool, true, false, cond, eqb, Option, Some, None, refl, sym, ap, ◌∙◌, subst, arith}
use Rattle.std.proofs.lemmas.Bool.{eqb-true}
use Rattle.std.specs.Prelude.{option_to_list, unwrap_or, if◌then◌else◌}
use Rattle.wy_term.proofs.wy_lemmas_proofs.Choices.{or_elim as or_cases, both_parts as both_true, or_left, or_right as or_true}
use Rattle.wy_term.specs.Term.{Symbol}
use Rattle.wy_term.specs.Nodes.{Plain, grown, tree_at, parts_at, HasPartsBelow}
use Rattle.wy_term_subst.specs.Names.{any_symbol, any_in_parts}
use Rattle.wy_term_subst.specs.View.{symbol_at, any_at, all_noted, IsInside, AreInside, IsListed}

-- ---- lists

any_append : (nodes : List Plain) (test : Symbol → Bool) (ks js : List ℕ) → any_at nodes test (ks ++ js) ≡ (any_at nodes test ks || any_at nodes test js)
any_append nodes test [] js = refl
any_append nodes test (k ∷ ks) js = ap (λ (b : Bool). test (symbol_at nodes k) || b) (any_append nodes test ks js) ∙ assoc (test (symbol_at nodes k)) (any_at nodes test ks) (any_at nodes test js)
  where
    assoc : (a b c : Bool) → (a || (b || c)) ≡ ((a || b) || c)
    assoc true b c = refl
    assoc false b c = refl

inside_append : (nodes : List Plain) (root : ℕ) (ks js : List ℕ) → AreInside nodes root ks → AreInside nodes root js → AreInside nodes root (ks ++ js)
inside_append nodes root [] js f g = g
inside_append nodes root (k ∷ ks) js f g = (f.0, inside_append nodes root ks js f.1 g)

inside_front : (nodes : List Plain) (root : ℕ) (ks js : List ℕ) → AreInside nodes root (ks ++ js) → AreInside nodes root ks × AreInside nodes root js
inside_front nodes root [] js f = (tt, f)
inside_front nodes root (k ∷ ks) js f = let rest = inside_front nodes root ks js f.1 in ((f.0, rest.0), rest.1)

pub below_from_inside : (nodes : List Plain) (root : ℕ) (ks : List ℕ) → AreInside nodes root ks → All (λ k. k < length nodes) ks
below_from_inside nodes root [] f i d lt = absurd (omega arith)
below_from_inside nodes root (k ∷ ks) f zero d lt = f.0.0
below_from_inside nodes root (k ∷ ks) f (suc i) d lt = below_from_inside nodes root ks f.1 i d (omega arith)

-- ---- parts

any_part : (nodes : List Plain) (test : Symbol → Bool) (ks : List ℕ) (noted : ℕ → Bool) (all : List ℕ) → ((q : ℕ) → noted q ≡ true → any_symbol test (tree_at nodes q) ≡ true → any_at nodes test all ≡ true) → all_noted noted ks ≡ true → any_in_parts test (parts_at (tree_at nodes) ks) ≡ true → any_at nodes test all ≡ true
any_part nodes test [] noted all whole e f = absurd cc
any_part nodes test (k ∷ ks) noted all whole e f =
    let here = both_true (noted k) (all_noted noted ks) e in
    or_cases (any_symbol test (tree_at nodes k)) (any_in_parts test (parts_at (tree_at nodes) ks)) f (λ g. whole k here.0 g) (λ g. any_part nodes test ks noted all whole here.1 g)

parts_inside : (nodes : List Plain) (root bound : ℕ) (ks : List ℕ) → bound ≤ length nodes → All (λ k. k < bound) ks → ((test : Symbol → Bool) → any_in_parts test (parts_at (tree_at nodes) ks) ≡ true → any_symbol test (tree_at nodes root) ≡ true) → AreInside nodes root ks
parts_inside nodes root bound [] le below f = tt
parts_inside nodes root bound (k ∷ ks) le below f =
    let here : k < bound = below 0 k (omega arith) in (
      (omega arith, λ test e. f test (or_left (any_symbol test (tree_at nodes k)) (any_in_parts test (parts_at (tree_at nodes) ks)) e)),
      parts_inside nodes root bound ks le (λ i d lt. below (suc i) d (omega arith)) (λ test e. f test (or_true (any_symbol test (tree_at nodes k)) (any_in_parts test (parts_at (tree_at nodes) ks)) e)),
    )

any_of_node : (nodes : List Plain) (t : ℕ) (n : Plain) (test : Symbol → Bool) → tree_at nodes t ≡ grown (tree_at nodes) n → any_symbol test (tree_at nodes t) ≡ (test (symbol_at nodes t) || any_in_parts test (parts_at (tree_at nodes) n.parts))
any_of_node nodes t n test e = rw e refl

-- ---- the list

-- one more
pub one_listed : (nodes : List Plain) (root t : ℕ) (n : Plain) (ks all more : List ℕ) (noted after : ℕ → Bool) (todo : List ℕ) → t < length nodes → ((test : Symbol → Bool) → any_symbol test (tree_at nodes t) ≡ true → any_symbol test (tree_at nodes root) ≡ true) → tree_at nodes t ≡ grown (tree_at nodes) n → ks ≡ n.parts → all_noted noted ks ≡ true → more ≡ all ++ t ∷ [] → ((q : ℕ) → after q ≡ (if eqb t q then true else noted q)) → IsListed nodes root all noted todo → IsListed nodes root more after todo
one_listed nodes root t n ks all more noted after todo lt inside tree parts ready pushed puts listed = record {
  below = subst (AreInside nodes root) (sym pushed) (inside_append nodes root all (t ∷ []) listed.below ((lt, inside), tt));
  inside = λ test e. or_cases (any_at nodes test all) (any_at nodes test (t ∷ [])) (sym (any_append nodes test all (t ∷ [])) ∙ (sym (ap (any_at nodes test) pushed) ∙ e)) (listed.inside test) (λ f. inside test (any_of_node nodes t n test tree ∙ or_cases (test (symbol_at nodes t)) false f (λ g. or_left (test (symbol_at nodes t)) (any_in_parts test (parts_at (tree_at nodes) n.parts)) g) (λ g. absurd cc)));
  whole = λ q e test f. either q (eqb t q) refl (sym (puts q) ∙ e) test f;
  left = listed.left;
}
  where
    longer : (test : Symbol → Bool) → any_at nodes test all ≡ true → any_at nodes test more ≡ true
    longer test e = ap (any_at nodes test) pushed ∙ (any_append nodes test all (t ∷ []) ∙ or_left (any_at nodes test all) (any_at nodes test (t ∷ [])) e)

    here : (test : Symbol → Bool) → test (symbol_at nodes t) ≡ true → any_at nodes test more ≡ true
    here test e = ap (any_at nodes test) pushed ∙ (any_append nodes test all (t ∷ []) ∙ or_true (any_at nodes test all) (any_at nodes test (t ∷ [])) (or_left (test (symbol_at nodes t)) false e))

    either : (q : ℕ) (b : Bool) → eqb t q ≡ b → cond b true (noted q) ≡ true → (test : Symbol → Bool) → any_symbol test (tree_at nodes q) ≡ true → any_at nodes test more ≡ true
    either q true same e test f =
        let g : any_symbol test (tree_at nodes t) ≡ true = ap (λ (k : ℕ). any_symbol test (tree_at nodes k)) (eqb-true t q same) ∙ f in
        or_cases (test (symbol_at nodes t)) (any_in_parts test (parts_at (tree_at nodes) n.parts)) (sym (any_of_node nodes t n test tree) ∙ g) (here test) (λ h. longer test (any_part nodes test n.parts noted all (λ r s u. listed.whole r s test u) (ap (all_noted noted) (sym parts) ∙ ready) h))
    either q false same e test f = longer test (listed.whole q e test f)

-- its parts first
pub parts_first : (nodes : List Plain) (root t : ℕ) (n : Plain) (ks all : List ℕ) (noted : ℕ → Bool) (todo one both : List ℕ) → t < length nodes → ((test : Symbol → Bool) → any_symbol test (tree_at nodes t) ≡ true → any_symbol test (tree_at nodes root) ≡ true) → tree_at nodes t ≡ grown (tree_at nodes) n → HasPartsBelow t n → ks ≡ n.parts → one ≡ todo ++ t ∷ [] → both ≡ one ++ ks → IsListed nodes root all noted todo → IsListed nodes root all noted both
parts_first nodes root t n ks all noted todo one both lt inside tree low parts pushed joined listed =
    let here : AreInside nodes root n.parts = parts_inside nodes root t n.parts (omega arith) low (λ test e. inside test (any_of_node nodes t n test tree ∙ or_true (test (symbol_at nodes t)) (any_in_parts test (parts_at (tree_at nodes) n.parts)) e)) in
    let first : AreInside nodes root one = subst (AreInside nodes root) (sym pushed) (inside_append nodes root todo (t ∷ []) listed.left ((lt, inside), tt)) in
    record {
      below = listed.below;
      inside = listed.inside;
      whole = listed.whole;
      left = subst (AreInside nodes root) (sym joined) (inside_append nodes root one ks first (subst (AreInside nodes root) (sym parts) here));
    }

-- what is taken from the end
pub taken_inside : (nodes : List Plain) (root t : ℕ) (old new : List ℕ) (o : Option ℕ) → root < length nodes → AreInside nodes root old → old ≡ new ++ option_to_list o → t ≡ unwrap_or o root → IsInside nodes root t
taken_inside nodes root t old new None lt inside e is = subst (IsInside nodes root) (sym is) (lt, λ test f. f)
taken_inside nodes root t old new (Some x) lt inside e is = subst (IsInside nodes root) (sym is) (inside_front nodes root new (x ∷ []) (subst (AreInside nodes root) e inside)).1.0

pub rest_listed : (nodes : List Plain) (root : ℕ) (all : List ℕ) (noted : ℕ → Bool) (old new : List ℕ) (o : Option ℕ) → old ≡ new ++ option_to_list o → IsListed nodes root all noted old → IsListed nodes root all noted new
rest_listed nodes root all noted old new o e listed = record {
  below = listed.below;
  inside = listed.inside;
  whole = listed.whole;
  left = (inside_front nodes root new (option_to_list o) (subst (AreInside nodes root) e listed.left)).0;
}
