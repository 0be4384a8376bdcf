-- Terms whose parts are of the sorts that their places want.
use Rattle.std.proofs.Common.{◌≡◌, ◌↔◌, ℕ, ◌<◌, List, [], ◌∷◌, IsTrue, map, All, refl}
use Rattle.std.proofs.lemmas.List.Elements.{All-cons, All-head, All-nil, All-tail}
use Rattle.wy_data.specs.declared.name.Name.{Name}
use Rattle.wy_prove_writable.specs.declared.sorted.sorts.Sort.{Sort as CodeSort}
use Rattle.wy_prove_writable.specs.declared.sorted.sorts.Sort.TheVariants.{Int, Val, Formula}
use Rattle.wy_prove_writable.specs.contracts.sorted.sorts.SortPartialEq.TheImpl.{eq-value}
use Rattle.wy_prove_writable.specs.sorted.Sorts.{seen_sort}

-- ---- sorts

pub same_sorts : (a b : CodeSort) → IsTrue (eq-value.it a b) ↔ (seen_sort a ≡ seen_sort b)
same_sorts Int Int = ((λ e. refl), (λ e. refl))
same_sorts Int Val = ((λ e. absurd cc), (λ e. absurd cc))
same_sorts Int Formula = ((λ e. absurd cc), (λ e. absurd cc))
same_sorts Val Int = ((λ e. absurd cc), (λ e. absurd cc))
same_sorts Val Val = ((λ e. refl), (λ e. refl))
same_sorts Val Formula = ((λ e. absurd cc), (λ e. absurd cc))
same_sorts Formula Int = ((λ e. absurd cc), (λ e. absurd cc))
same_sorts Formula Val = ((λ e. absurd cc), (λ e. absurd cc))
same_sorts Formula Formula = ((λ e. refl), (λ e. refl))

-- ---- fields

-- the terms of fields are those of the numbers beside the names
pub fields_below : (bound : ℕ) (fields : List (Name × ℕ)) → All (λ k. k < bound) (map (λ p. p.1) fields) → All (λ p. p.1 < bound) fields
fields_below bound [] below = All-nil (λ (p : Name × ℕ). p.1 < bound)
fields_below bound (p ∷ ps) below =
    All-cons (λ (q : Name × ℕ). q.1 < bound) p ps (All-head (λ (i : ℕ). i < bound) p.1 (map (λ q. q.1) ps) below) (fields_below bound ps (All-tail (λ (i : ℕ). i < bound) p.1 (map (λ q. q.1) ps) below))
