-- The ways of a record, place by place.
use Rattle.std.proofs.Common.{◌≡◌, ℕ, suc, ◌+◌, ◌<◌, ◌≤◌, ◌⊎◌, inl, inr, List, [], ◌∷◌, ◌++◌, map, length, take, drop, get_or, refl, sym, ap, ◌∙◌, append_assoc, drop-cons, arith}
use Rattle.std.proofs.lemmas.List.{map-append, take_more, drop_all}
use Rattle.wy_canon.specs.wy_types.Asks.{put_first, spread_field, spread}
use Rattle.wy_canon.specs.wy_types.declared.conjuncts.Part.{Part}
use Rattle.wy_canon.specs.wy_types.declared.table.Table.{Table}

-- a field behind others, before each of the lists
first_behind : (before : List (List ℕ × Part ℕ)) (f : List ℕ × Part ℕ) (ws : List (List (List ℕ × Part ℕ)))
    → map (λ (w : List (List ℕ × Part ℕ)). before ++ w) (put_first f ws) ≡ map (λ (w : List (List ℕ × Part ℕ)). (before ++ f ∷ []) ++ w) ws
first_behind before f [] = refl
first_behind before f (w ∷ ws) =
    ap (λ (v : List (List ℕ × Part ℕ)). v ∷ map (λ (w : List (List ℕ × Part ℕ)). before ++ w) (put_first f ws)) (sym (append_assoc before (f ∷ []) w))
    ∙ ap (λ (vs : List (List (List ℕ × Part ℕ))). ((before ++ f ∷ []) ++ w) ∷ vs) (first_behind before f ws)

-- nothing behind nothing
pub none_before : (ws : List (List (List ℕ × Part ℕ))) → map (λ (w : List (List ℕ × Part ℕ)). [] ++ w) ws ≡ ws
none_before [] = refl
none_before (w ∷ ws) = ap (λ (vs : List (List (List ℕ × Part ℕ))). w ∷ vs) (none_before ws)

-- without fields on either side there is no way
pub no_more : (table : Table) (k : ℕ) (before fs qs : List (List ℕ × Part ℕ)) (i : ℕ) → (length fs ≤ i) ⊎ (length qs ≤ i)
    → map (λ (w : List (List ℕ × Part ℕ)). before ++ w) (spread table k (drop i fs) (drop i qs)) ≡ []
no_more table k before fs qs i (inl le) = ap (λ (ds : List (List ℕ × Part ℕ)). map (λ (w : List (List ℕ × Part ℕ)). before ++ w) (spread table k ds (drop i qs))) (drop_all i fs le)
no_more table k before fs qs i (inr le) = ap (λ (ds : List (List ℕ × Part ℕ)). map (λ (w : List (List ℕ × Part ℕ)). before ++ w) (spread table k (drop i fs) ds)) (drop_all i qs le) ∙ none_beside (drop i fs)
  where
    none_beside : (ds : List (List ℕ × Part ℕ)) → map (λ (w : List (List ℕ × Part ℕ)). before ++ w) (spread table k ds []) ≡ []
    none_beside [] = refl
    none_beside (d ∷ ds) = refl

-- one place more
pub one_place : (table : Table) (k : ℕ) (fs qs : List (List ℕ × Part ℕ)) (i : ℕ) (d e : List ℕ × Part ℕ) → i < length fs → i < length qs
    → map (λ (w : List (List ℕ × Part ℕ)). take i fs ++ w) (spread table k (drop i fs) (drop i qs))
    ≡ map (λ (w : List (List ℕ × Part ℕ)). take i fs ++ w) (spread_field table k (get_or fs i d) (drop (i + 1) fs) (get_or qs i e).1.terms)
    ++ map (λ (w : List (List ℕ × Part ℕ)). take (i + 1) fs ++ w) (spread table k (drop (i + 1) fs) (drop (i + 1) qs))
one_place table k fs qs i d e p q =
    let f = get_or fs i d in
    let others = get_or qs i e in
    let before = take i fs in
    let on : suc i ≡ i + 1 = omega arith in
    let fields : drop i fs ≡ f ∷ drop (i + 1) fs = drop-cons fs i d p ∙ ap (λ (n : ℕ). f ∷ drop n fs) on in
    let parts : drop i qs ≡ others ∷ drop (i + 1) qs = drop-cons qs i e q ∙ ap (λ (n : ℕ). others ∷ drop n qs) on in
    let rest = spread table k (drop (i + 1) fs) (drop (i + 1) qs) in
    ap (λ (ds : List (List ℕ × Part ℕ)). map (λ (w : List (List ℕ × Part ℕ)). before ++ w) (spread table k ds (drop i qs))) fields
    ∙ ap (λ (ds : List (List ℕ × Part ℕ)). map (λ (w : List (List ℕ × Part ℕ)). before ++ w) (spread table k (f ∷ drop (i + 1) fs) ds)) parts
    ∙ map-append (λ (w : List (List ℕ × Part ℕ)). before ++ w) (spread_field table k f (drop (i + 1) fs) others.1.terms) (put_first f rest)
    ∙ ap (λ (ws : List (List (List ℕ × Part ℕ))). map (λ (w : List (List ℕ × Part ℕ)). before ++ w) (spread_field table k f (drop (i + 1) fs) others.1.terms) ++ ws)
    (first_behind before f rest ∙ ap (λ (b : List (List ℕ × Part ℕ)). map (λ (w : List (List ℕ × Part ℕ)). b ++ w) rest) (sym (take_more fs i d p)))
