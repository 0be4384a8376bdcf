-- Arguments and terms of a chain, one after the other.
use Rattle.std.proofs.Common.{◌≡◌, ◌&&◌, ◌||◌, ℕ, suc, List, [], ◌∷◌, length, Bool, false, refl, sym, ap, ◌∙◌}
use Rattle.wy_lemmas.proofs.Choices.{and_false}
use Rattle.wy_check_nodes.specs.wy_term.Term.{Term}
use Rattle.wy_check_nodes.specs.wy_term.Nodes.{Plain, grown, parts_at}
use Rattle.wy_check_nodes.specs.wy_term.Same.{same_symbol, same_term}
use Rattle.wy_check_nodes.specs.wy_check_spec.judge.Node.{Literal}
use Rattle.wy_check_nodes.specs.wy_check_spec.valid.Literals.{are_joined, arguments_joined, are_alike}

-- ---- arguments

abbrev pub left_joined : List Literal → (ℕ → Term) → List ℕ → List ℕ → Bool
left_joined ls at ss ts = arguments_joined ls (parts_at at ss) (parts_at at ts)

abbrev pub link : List Literal → Term → Term → Bool
link ls s t = same_term s t || are_joined ls s t

-- ---- heads

uneven : (ls : List Literal) (at : ℕ → Term) (ss ts : List ℕ) → (length ss ≡ length ts → ⊥) → left_joined ls at ss ts ≡ false
uneven ls at [] [] apart = absurd (apart refl)
uneven ls at [] (t ∷ ts) apart = refl
uneven ls at (s ∷ ss) [] apart = refl
uneven ls at (s ∷ ss) (t ∷ ts) apart = ap (λ (b : Bool). link ls (at s) (at t) && b) (uneven ls at ss ts (λ e. apart (ap suc e))) ∙ and_false (link ls (at s) (at t))

-- terms with other numbers of arguments aren't alike
pub other_length : (ls : List Literal) (at : ℕ → Term) (s t : Term) (p q : Plain) → s ≡ grown at p → t ≡ grown at q → (length p.parts ≡ length q.parts → ⊥) → false ≡ are_alike ls s t
other_length ls at s t p q e f apart =
    sym (ap (λ (u : Term). are_alike ls u t) e
    ∙ (ap (λ (u : Term). are_alike ls (grown at p) u) f
    ∙ (ap (λ (b : Bool). same_symbol p.symbol q.symbol && b) (uneven ls at p.parts q.parts apart) ∙ and_false (same_symbol p.symbol q.symbol))))
