-- The first of a list that passes, by walking through the list.
use Rattle.std.proofs.Common.{◌≡◌, ◌∙◌, ◌+◌, ◌<◌, ℕ, zero, suc, Bool, true, false, cond, List, [], ◌∷◌, map, drop, Option, Some, None, refl, sym, ap, subst, arith}
use Rattle.std.proofs.lemmas.List.{append-nil}
use Rattle.std.specs.Prelude.{slice_get}
use Rattle.wy_search_spec.specs.wy_check_spec.judge.Judgement.{judged, turned}
use Rattle.wy_search_spec.specs.wy_check_spec.judge.Node.{Literal, Node}
use Rattle.wy_search_spec.specs.wy_check_spec.declared.judge.verdict.Verdict.{Verdict}
use Rattle.wy_search_spec.specs.wy_check_spec.declared.judge.verdict.Verdict.TheVariants.{Yes, No, Open}
use Rattle.wy_check_splits.specs.wy_check_nodes.Seen.{AreBelow, seen_formula, signed}
use Rattle.wy_lemmas.proofs.Lists.{drop_here}
use Rattle.wy_lemmas.proofs.Options.{some_is}
use Rattle.wy_search_spec.specs.Splitting.{atoms_in, atoms_of, first_forced, first_open, first_undecided, is_forced, is_open, next_atom, or_else}
use Rattle.wy_cong.proofs.OnceLemmas.{first_once, once_joined}
use Rattle.wy_cong.specs.Once.{first_by, once, undecided}
use Rattle.wy_term.specs.Term.{Term}

-- ---- walking

pub below_at : (n : ℕ) (ks : List ℕ) (i k : ℕ) → AreBelow n ks → slice_get ks i ≡ Some k → k < n
below_at n [] i k below here = absurd (cc)
below_at n (j ∷ js) zero k below here = let e : j ≡ k = some_is j k here in let lt : j < n = below 0 j (omega arith) in omega (arith, e, lt)
below_at n (j ∷ js) (suc i) k below here = below_at n js i k (λ m d l. below (suc m) d (omega (arith, l))) here

pub below_behind : (n k : ℕ) (ks js : List ℕ) → ks ≡ k ∷ js → AreBelow n ks → AreBelow n js
below_behind n k ks js is below = let all : AreBelow n (k ∷ js) = subst (AreBelow n) is below in λ i d lt. all (suc i) d (omega (arith, lt))

-- ---- the first that passes, of numbers that name terms

pub passes_here : (test : Term → Bool) (at : ℕ → Term) (ks : List ℕ) (i k : ℕ) (whole : Option Term) → slice_get ks i ≡ Some k → first_by test (map at (drop i ks)) ≡ whole → test (at k) ≡ true → Some (at k) ≡ whole
passes_here test at ks i k whole here so up_so =
    sym (ap (λ js. first_by test (map at js)) (drop_here ks i k here) ∙ ap (λ b. cond b (Some (at k)) (first_by test (map at (drop (i + 1) ks)))) up_so) ∙ so

pub passes_later : (test : Term → Bool) (at : ℕ → Term) (ks : List ℕ) (i k : ℕ) (whole : Option Term) → slice_get ks i ≡ Some k → first_by test (map at (drop i ks)) ≡ whole → test (at k) ≡ false → first_by test (map at (drop (i + 1) ks)) ≡ whole
passes_later test at ks i k whole here so un_so =
    sym (ap (λ js. first_by test (map at js)) (drop_here ks i k here) ∙ ap (λ b. cond b (Some (at k)) (first_by test (map at (drop (i + 1) ks)))) un_so) ∙ so

-- ---- as the definition of the search says it

pub forced_by : (node : Node) (atoms : List Term) → first_by (is_forced node) atoms ≡ first_forced node atoms
forced_by node [] = refl
forced_by node (a ∷ atoms) = ap (λ o. cond (is_forced node a) (Some a) o) (forced_by node atoms)

pub undecided_by : (node : Node) (atoms : List Term) → first_by (undecided node) atoms ≡ first_undecided node atoms
undecided_by node [] = refl
undecided_by node (a ∷ atoms) = ap (λ o. cond (undecided node a) (Some a) o) (undecided_by node atoms)

-- of atoms that are listed once each
pub once_forced : (node : Node) (atoms : List Term) → first_by (is_forced node) (once [] atoms) ≡ first_forced node atoms
once_forced node atoms = first_once (is_forced node) [] atoms ∙ forced_by node atoms

pub once_undecided : (node : Node) (atoms : List Term) → first_by (undecided node) (once [] atoms) ≡ first_undecided node atoms
once_undecided node atoms = first_once (undecided node) [] atoms ∙ undecided_by node atoms

-- ---- pending formulas, some given by what they deny

pub signed_atoms : (f : Term) (holds : Bool) → atoms_in (signed f holds) ≡ atoms_in f
signed_atoms f true = refl
signed_atoms f false = append-nil (atoms_in f)

turned_open : (v : Verdict) (holds : Bool) (ls : List Literal) (f : Term) → v ≡ judged ls f → is_open (judged ls (signed f holds)) ≡ is_open v
turned_open v true ls f is = ap is_open (sym is)
turned_open v false ls f is = by (judged ls f) ∙ ap is_open (sym is)
  where
    by : (w : Verdict) → is_open (turned w) ≡ is_open w
    by Yes = refl
    by No = refl
    by Open = refl

pub atoms_behind : (at : ℕ → Term) (ps : List (ℕ × Bool)) (i : ℕ) (p : ℕ × Bool) (done new whole : List Term) → slice_get ps i ≡ Some p
    → once done (atoms_of (map (seen_formula at) (drop i ps))) ≡ whole → new ≡ once done (atoms_in (at p.0))
    → once new (atoms_of (map (seen_formula at) (drop (i + 1) ps))) ≡ whole
atoms_behind at ps i p done new whole here so is =
    ap (λ d. once d (atoms_of (map (seen_formula at) (drop (i + 1) ps)))) (is ∙ ap (once done) (sym (signed_atoms (at p.0) p.1)))
    ∙ sym (once_joined done (atoms_in (seen_formula at p)) (atoms_of (map (seen_formula at) (drop (i + 1) ps))))
    ∙ sym (ap (λ qs. once done (atoms_of (map (seen_formula at) qs))) (drop_here ps i p here))
    ∙ so

-- ---- the first formula that is judged open

abbrev opened : Node → Bool → Term → List Term → Option Term
opened node b f fs = cond b (first_undecided node (atoms_in f)) (first_open node fs)

open_at : (at : ℕ → Term) (node : Node) (ps : List (ℕ × Bool)) (i : ℕ) (p : ℕ × Bool) (v : Verdict) → slice_get ps i ≡ Some p → v ≡ judged node.literals (at p.0)
    → first_open node (map (seen_formula at) (drop i ps)) ≡ opened node (is_open v) (seen_formula at p) (map (seen_formula at) (drop (i + 1) ps))
open_at at node ps i p v here is =
    ap (λ qs. first_open node (map (seen_formula at) qs)) (drop_here ps i p here)
    ∙ ap (λ b. opened node b (seen_formula at p) (map (seen_formula at) (drop (i + 1) ps))) (turned_open v p.1 node.literals (at p.0) is)

pub open_here : (at : ℕ → Term) (node : Node) (ps : List (ℕ × Bool)) (i : ℕ) (p : ℕ × Bool) (v : Verdict) (whole : Option Term) → slice_get ps i ≡ Some p → v ≡ judged node.literals (at p.0)
    → first_open node (map (seen_formula at) (drop i ps)) ≡ whole → is_open v ≡ true → first_undecided node (atoms_in (at p.0)) ≡ whole
open_here at node ps i p v whole here is so up =
    ap (first_undecided node) (sym (signed_atoms (at p.0) p.1))
    ∙ sym (open_at at node ps i p v here is ∙ ap (λ b. opened node b (seen_formula at p) (map (seen_formula at) (drop (i + 1) ps))) up)
    ∙ so

pub open_later : (at : ℕ → Term) (node : Node) (ps : List (ℕ × Bool)) (i : ℕ) (p : ℕ × Bool) (v : Verdict) (whole : Option Term) → slice_get ps i ≡ Some p → v ≡ judged node.literals (at p.0)
    → first_open node (map (seen_formula at) (drop i ps)) ≡ whole → is_open v ≡ false → first_open node (map (seen_formula at) (drop (i + 1) ps)) ≡ whole
open_later at node ps i p v whole here is so un_so =
    sym (open_at at node ps i p v here is ∙ ap (λ b. opened node b (seen_formula at p) (map (seen_formula at) (drop (i + 1) ps))) un_so) ∙ so

-- ---- the choice

pub by_force : (node : Node) (a : Term) → Some a ≡ first_forced node (atoms_of node.pending) → Some a ≡ next_atom node
by_force node a is = ap (λ o. or_else o (first_open node node.pending)) is

pub by_turn : (node : Node) (o : Option Term) → None ≡ first_forced node (atoms_of node.pending) → o ≡ first_open node node.pending → o ≡ next_atom node
by_turn node o none is = is ∙ ap (λ x. or_else x (first_open node node.pending)) none
