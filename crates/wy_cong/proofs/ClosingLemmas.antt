-- Classes joined, one literal and one term after the other.
use Rattle.std.proofs.Common.{◌≡◌, ◌∙◌, ◌+◌, ◌<◌, ℕ, zero, suc, List, map, drop, length, get_or, Bool, Some, refl, sym, ap}
use Rattle.std.specs.Prelude.{slice_get}
use Rattle.std.proofs.lemmas.List.{drop_more}
use Rattle.wy_lemmas.proofs.Lists.{drop_here}
use Rattle.wy_term.specs.Term.{Term}
use Rattle.wy_check_splits.specs.wy_check_nodes.Seen.{seen_literal}
use Rattle.wy_search_spec.specs.Classes.{with_literal, with_equations, with_congruent, with_all_congruent, rounds}

-- what is left comes to what all came to
pub equations_next : (ts : List Term) (at : ℕ → Term) (ps : List (ℕ × Bool)) (i : ℕ) (p : ℕ × Bool) (old new total : List ℕ) → slice_get ps i ≡ Some p → new ≡ with_literal ts old p.1 (at p.0) → with_equations ts old (map (seen_literal at) (drop i ps)) ≡ total → with_equations ts new (map (seen_literal at) (drop (i + 1) ps)) ≡ total
equations_next ts at ps i p old new total here is so =
    ap (λ (ls : List ℕ). with_equations ts ls (map (seen_literal at) (drop (i + 1) ps))) is
    ∙ (ap (λ (qs : List (ℕ × Bool)). with_equations ts old (map (seen_literal at) qs)) (sym (drop_here ps i p here)) ∙ so)

pub all_next : (ts : List Term) (at : ℕ → Term) (ks : List ℕ) (i : ℕ) (old new total : List ℕ) → i < length ks → new ≡ with_congruent ts old (at (get_or ks i 0)) ts → with_all_congruent ts old (map at (drop i ks)) ≡ total → with_all_congruent ts new (map at (drop (i + 1) ks)) ≡ total
all_next ts at ks i old new total lt is so =
    ap (λ (ls : List ℕ). with_all_congruent ts ls (map at (drop (i + 1) ks))) is
    ∙ (ap (λ (qs : List ℕ). with_all_congruent ts old (map at qs)) (sym (drop_more ks i 0 lt)) ∙ so)

-- where a round changes nothing, none does
pub rounds_rest : (n : ℕ) (ts : List Term) (labels : List ℕ) → with_all_congruent ts labels ts ≡ labels → rounds n ts labels ≡ labels
rounds_rest zero ts labels e = refl
rounds_rest (suc n) ts labels e = ap (rounds n ts) e ∙ rounds_rest n ts labels e

pub round_next : (left less : ℕ) (ts : List Term) (old new total : List ℕ) → left ≡ suc less → new ≡ with_all_congruent ts old ts → rounds left ts old ≡ total → rounds less ts new ≡ total
round_next left less ts old new total is made so = ap (rounds less ts) made ∙ (ap (λ (n : ℕ). rounds n ts old) (sym is) ∙ so)

-- a round that changes nothing is the last
pub rounds_end : (left less : ℕ) (ts : List Term) (before old new total : List ℕ) → left ≡ suc less → before ≡ old → new ≡ with_all_congruent ts old ts → before ≡ new → rounds left ts old ≡ total → new ≡ total
rounds_end left less ts before old new total is copy made same so =
    let stays : with_all_congruent ts new ts ≡ new = ap (λ (ls : List ℕ). with_all_congruent ts ls ts) (sym same ∙ copy) ∙ sym made in
    sym (rounds_rest less ts new stays) ∙ round_next left less ts old new total is made so
