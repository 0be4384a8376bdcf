-- The members of formulas.
use Rattle.std.proofs.Common.{◌≡◌, ◌<◌, ◌+◌, ℕ, List, [], ◌∷◌, ◌++◌, length, take, get_or, ◌∙◌, sym, ap, subst}
use Rattle.std.proofs.lemmas.List.{append_assoc, append-nil, take_more}
use Rattle.wy_term.specs.Term.{Term}
use Rattle.wy_term.specs.Nodes.{Plain, tree_at, parts_at}
use Rattle.wy_vc_terms.specs.wy_vc_spec.Owed.{members, members_of}
use Rattle.wy_vc_exprs.specs.Numbered.{Grown}
use Rattle.wy_vc_exprs.proofs.NumberedLemmas.{grown_on}

-- those of one more part
pub members_more : (at : ℕ → Term) (ks : List ℕ) (k : ℕ) → members_of (parts_at at (ks ++ k ∷ [])) ≡ members_of (parts_at at ks) ++ members (at k)
members_more at [] k = append-nil (members (at k))
members_more at (j ∷ ks) k =
    ap (λ (fs : List Term). members (at j) ++ fs) (members_more at ks k) ∙ sym (append_assoc (members (at j)) (members_of (parts_at at ks)) (members (at k)))

-- the members of one part more stand behind the others
pub grown_turn : (nodes : List Plain) (a b c ks : List ℕ) (i k : ℕ) → i < length ks → k ≡ get_or ks i k → Grown nodes a b (members_of (parts_at (tree_at nodes) (take i ks))) → Grown nodes b c (members (tree_at nodes k)) → Grown nodes a c (members_of (parts_at (tree_at nodes) (take (i + 1) ks)))
grown_turn nodes a b c ks i k lt is first second =
    let cut : take (i + 1) ks ≡ take i ks ++ k ∷ [] = take_more ks i k lt ∙ ap (λ (x : ℕ). take i ks ++ x ∷ []) (sym is) in
    subst (λ (fs : List Term). Grown nodes a c fs) (sym (ap (λ (xs : List ℕ). members_of (parts_at (tree_at nodes) xs)) cut ∙ members_more (tree_at nodes) (take i ks) k))
    (grown_on nodes a b c (members_of (parts_at (tree_at nodes) (take i ks))) (members (tree_at nodes k)) first second)
