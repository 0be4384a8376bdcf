-- What the crates above prove of these words, each once.
use Rattle.std.proofs.Common.{◌≡◌, ◌∙◌, ◌≤◌, ℕ, Bool, List, [], map, drop, length, sym, ap, ◌+◌, ◌∷◌, Some}
use Rattle.std.specs.Prelude.{slice_get}
use Rattle.wy_check_spec.specs.judge.Node.{Node}
use Rattle.wy_check_nodes.specs.Seen.{seen_formula}
use Rattle.wy_lemmas.proofs.Lists.{drop_end, drop_here}
use Rattle.wy_check_spec.specs.wy_term.Term.{Term}

-- none more
pub end_led : (F : Node → List Term → Node) → ((node : Node) → F node [] ≡ node) → (at : ℕ → Term) (ps : List (ℕ × Bool)) (i : ℕ) (now whole : Node) → length ps ≤ i
    → F now (map (seen_formula at) (drop i ps)) ≡ whole → now ≡ whole
end_led F so at ps i now whole le led = sym (so now) ∙ sym (ap (λ (qs : List (ℕ × Bool)). F now (map (seen_formula at) qs)) (drop_end ps i le)) ∙ led

-- where a function of a list takes one term after the other: one more
pub step_led : (F : Node → List Term → Node) (g : Node → Term → Node) → ((node : Node) (t : Term) (ts : List Term) → F node (t ∷ ts) ≡ F (g node t) ts)
    → (at : ℕ → Term) (ps : List (ℕ × Bool)) (i : ℕ) (p : ℕ × Bool) (now new whole : Node) → slice_get ps i ≡ Some p → new ≡ g now (seen_formula at p)
    → F now (map (seen_formula at) (drop i ps)) ≡ whole → F new (map (seen_formula at) (drop (i + 1) ps)) ≡ whole
step_led F g so at ps i p now new whole here is led =
    ap (λ (n : Node). F n (map (seen_formula at) (drop (i + 1) ps))) is
    ∙ sym (so now (seen_formula at p) (map (seen_formula at) (drop (i + 1) ps)))
    ∙ sym (ap (λ (qs : List (ℕ × Bool)). F now (map (seen_formula at) qs)) (drop_here ps i p here))
    ∙ led
