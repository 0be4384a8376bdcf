-- What equations join to a term, one literal after the other.
use Rattle.std.proofs.Common.{◌≡◌, ◌+◌, ℕ, List, ◌++◌, map, drop, Bool, Some, sym, ap, ◌∙◌, append_assoc}
use Rattle.std.specs.Prelude.{slice_get}
use Rattle.wy_lemmas.proofs.Lists.{get_here as drop_here}
use Rattle.wy_check_nodes.specs.wy_term.Term.{Term}
use Rattle.wy_check_nodes.specs.Seen.{seen_literal}
use Rattle.wy_check_nodes.specs.wy_check_spec.valid.Kinds.{sides_of, equated_to}

-- ---- one literal after the other

-- what is joined by the literals that are left
abbrev pub still_equated : (ℕ → Term) → Term → List (ℕ × Bool) → List Term
still_equated at s ps = equated_to (map (seen_literal at) ps) s

pub equated_more : (at : ℕ → Term) (s : Term) (ps : List (ℕ × Bool)) (i : ℕ) (p : ℕ × Bool) (old new total : List Term) → slice_get ps i ≡ Some p → new ≡ old ++ sides_of p.1 (at p.0) s → old ++ still_equated at s (drop i ps) ≡ total → new ++ still_equated at s (drop (i + 1) ps) ≡ total
equated_more at s ps i p old new total here more so =
    let left = still_equated at s (drop (i + 1) ps) in
    ap (λ (ts : List Term). ts ++ left) more
    ∙ (append_assoc old (sides_of p.1 (at p.0) s) left
    ∙ (ap (λ (qs : List (ℕ × Bool)). old ++ still_equated at s qs) (sym (drop_here ps i p here)) ∙ so))
