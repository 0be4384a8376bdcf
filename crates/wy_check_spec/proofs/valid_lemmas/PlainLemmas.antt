-- Without products, validity is as if there were none.
use Rattle.std.proofs.Common.{◌≡◌, ℕ, ◌+◌, List, [], ◌∷◌, ◌++◌, true, Option, Some, None, refl, ap, ◌∙◌}
use Rattle.wy_cert.proofs.wy_lemmas_proofs.Choices.{both_parts as and_both}
use Rattle.wy_lin.specs.wy_term.Condition.{Entry}
use Rattle.wy_check_spec.specs.judge.Node.{Node, first_node}
use Rattle.wy_cert.specs.Steps.{Written, prod}
use Rattle.wy_check_spec.specs.valid.Validity.{after_plain, after, or_bad, first_bad_by}
use Rattle.wy_check_spec.specs.valid.Plain.{is_plain, are_plain, PlainIsUnchanged}

step_unchanged : (types : List Entry) (node : Node) (s : Written) → is_plain s ≡ true → after types node s ≡ after_plain types node s
step_unchanged types node (prod i j p) e = absurd cc
step_unchanged types node s e = refl

same_told : (k : ℕ) (o : Option (List Node)) (f g : List Node → Option ℕ) → ((nodes : List Node) → f nodes ≡ g nodes) → or_bad k o f ≡ or_bad k o g
same_told k None f g h = refl
same_told k (Some nodes) f g h = h nodes

unchanged : (types : List Entry) (k : ℕ) (nodes : List Node) (steps : List Written) → are_plain steps ≡ true → first_bad_by (after types) k nodes steps ≡ first_bad_by (after_plain types) k nodes steps
unchanged types k [] [] e = refl
unchanged types k [] (s ∷ steps) e = refl
unchanged types k (node ∷ nodes) [] e = refl
unchanged types k (node ∷ nodes) (s ∷ steps) e =
    let h = and_both (is_plain s) (are_plain steps) e in
    ap (λ (o : Option (List Node)). or_bad k o (λ below. first_bad_by (after types) (k + 1) (below ++ nodes) steps)) (step_unchanged types node s h.0)
    ∙ same_told k (after_plain types node s) (λ below. first_bad_by (after types) (k + 1) (below ++ nodes) steps) (λ below. first_bad_by (after_plain types) (k + 1) (below ++ nodes) steps) (λ below. unchanged types (k + 1) (below ++ nodes) steps h.1)

pub plain_is_unchanged : PlainIsUnchanged
plain_is_unchanged c steps e = unchanged c.types 1 (first_node c ∷ []) steps e
