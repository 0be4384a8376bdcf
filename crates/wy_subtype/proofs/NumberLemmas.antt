-- Things by number.
use Rattle.std.proofs.Common.{◌≡◌, ℕ, zero, suc, ◌<◌, ◌≤◌, ◌+◌, List, [], ◌∷◌, ◌++◌, length, take, get_or, Some, refl, sym, subst, ◌∙◌, arith, inl, inr, ◌⊎◌}
use Rattle.std.specs.Prelude.{slice_get}
use Rattle.std.proofs.lemmas.List.{take_more}
use Rattle.std.proofs.lemmas.Option.{slice_get_within}
use Rattle.wy_lemmas.proofs.Options.{some_one as some_is}
use Rattle.wy_canon.specs.wy_types.Claims.{SomeOf, EachOf, IsIn, AreDifferent}
use Rattle.wy_subtype.specs.Numbers.{Keeps, AreAt, AreEachAt, AreAllAt}

-- ---- places

pub get_last : {X : Type 0} (xs : List X) (x : X) → slice_get (xs ++ x ∷ []) (length xs) ≡ Some x
get_last [] x = refl
get_last (y ∷ xs) x = get_last xs x

pub get_within : {X : Type 0} (xs : List X) (j : ℕ) → j < length xs → (x : X) × (slice_get xs j ≡ Some x)
get_within [] j lt = absurd (omega (arith, lt))
get_within (x ∷ xs) zero lt = (x, refl)
get_within (x ∷ xs) (suc j) lt = get_within xs j (omega (arith, lt))

pub place_in : {X : Type 0} (xs : List X) (n : ℕ) (x : X) → slice_get xs n ≡ Some x → IsIn x xs
place_in [] n x e = absurd cc
place_in (y ∷ xs) zero x e = inl (some_is (Some y) y x refl e)
place_in (y ∷ xs) (suc n) x e = inr (place_in xs n x e)

pub in_place : {X : Type 0} (xs : List X) (x : X) → IsIn x xs → (n : ℕ) × (slice_get xs n ≡ Some x)
in_place [] x h = absurd h
in_place {X} (y ∷ xs) x (inl e) = (0, subst (λ (z : X). slice_get (y ∷ xs) 0 ≡ Some z) e refl)
in_place (y ∷ xs) x (inr h) = let r = in_place xs x h in (suc r.0, r.1)

-- ---- what grows keeps its numbers

pub keeps_more : {X : Type 0} (xs ys zs : List X) → Keeps xs ys → Keeps ys zs → Keeps xs zs
keeps_more xs ys zs f g n x e = g n x (f n x e)

pub keeps_length : {X : Type 0} (xs ys : List X) → Keeps xs ys → length xs ≤ length ys
keeps_length [] ys f = omega arith
keeps_length (x ∷ xs) ys f =
    let l : length xs < length (x ∷ xs) = omega arith in
    let g = get_within (x ∷ xs) (length xs) l in
    let lt = slice_get_within ys (length xs) g.0 (f (length xs) g.0 g.1) in
    omega (arith, lt)

pub at_keeps : {X : Type 0} (xs ys : List X) → Keeps xs ys → (ns : List ℕ) (ps : List X) → AreAt xs ns ps → AreAt ys ns ps
at_keeps xs ys f [] [] h = tt
at_keeps xs ys f [] (p ∷ ps) h = absurd h
at_keeps xs ys f (n ∷ ns) [] h = absurd h
at_keeps xs ys f (n ∷ ns) (p ∷ ps) h = (f n p h.0, at_keeps xs ys f ns ps h.1)

each_at_keeps : {X : Type 0} (xs ys : List X) → Keeps xs ys → (ns : List (List ℕ)) (ps : List (List X)) → AreEachAt xs ns ps → AreEachAt ys ns ps
each_at_keeps xs ys f [] [] h = tt
each_at_keeps xs ys f [] (p ∷ ps) h = absurd h
each_at_keeps xs ys f (n ∷ ns) [] h = absurd h
each_at_keeps xs ys f (n ∷ ns) (p ∷ ps) h = (at_keeps xs ys f n p h.0, each_at_keeps xs ys f ns ps h.1)

pub all_at_keeps : {X : Type 0} (xs ys : List X) → Keeps xs ys → (ns : List (List (List ℕ))) (ps : List (List (List X))) → AreAllAt xs ns ps → AreAllAt ys ns ps
all_at_keeps xs ys f [] [] h = tt
all_at_keeps xs ys f [] (p ∷ ps) h = absurd h
all_at_keeps xs ys f (n ∷ ns) [] h = absurd h
all_at_keeps xs ys f (n ∷ ns) (p ∷ ps) h = (each_at_keeps xs ys f n p h.0, all_at_keeps xs ys f ns ps h.1)

at_push : {X : Type 0} (xs ys : List X) (f : Keeps xs ys) (ns : List ℕ) (ps : List X) (n : ℕ) (p : X) → AreAt xs ns ps → slice_get ys n ≡ Some p → AreAt ys (ns ++ n ∷ []) (ps ++ p ∷ [])
at_push xs ys f [] [] n p h e = (e, tt)
at_push xs ys f [] (q ∷ ps) n p h e = absurd h
at_push xs ys f (m ∷ ns) [] n p h e = absurd h
at_push xs ys f (m ∷ ns) (q ∷ ps) n p h e = (f m q h.0, at_push xs ys f ns ps n p h.1 e)

each_at_push : {X : Type 0} (xs ys : List X) (f : Keeps xs ys) (ns : List (List ℕ)) (ps : List (List X)) (n : List ℕ) (p : List X) → AreEachAt xs ns ps → AreAt ys n p → AreEachAt ys (ns ++ n ∷ []) (ps ++ p ∷ [])
each_at_push xs ys f [] [] n p h e = (e, tt)
each_at_push xs ys f [] (q ∷ ps) n p h e = absurd h
each_at_push xs ys f (m ∷ ns) [] n p h e = absurd h
each_at_push xs ys f (m ∷ ns) (q ∷ ps) n p h e = (at_keeps xs ys f m q h.0, each_at_push xs ys f ns ps n p h.1 e)

all_at_push : {X : Type 0} (xs ys : List X) (f : Keeps xs ys) (ns : List (List (List ℕ))) (ps : List (List (List X))) (n : List (List ℕ)) (p : List (List X)) → AreAllAt xs ns ps → AreEachAt ys n p → AreAllAt ys (ns ++ n ∷ []) (ps ++ p ∷ [])
all_at_push xs ys f [] [] n p h e = (e, tt)
all_at_push xs ys f [] (q ∷ ps) n p h e = absurd h
all_at_push xs ys f (m ∷ ns) [] n p h e = absurd h
all_at_push xs ys f (m ∷ ns) (q ∷ ps) n p h e = (each_at_keeps xs ys f m q h.0, all_at_push xs ys f ns ps n p h.1 e)

-- ---- a turn of a loop

last_taken : {X : Type 0} (all : List X) (i : ℕ) (item p : X) → i < length all → item ≡ get_or all i item → p ≡ item → take i all ++ p ∷ [] ≡ take (i + 1) all
last_taken all i item p lt at is = let t = take_more all i item lt in cc (t, at, is)

pub at_turn : {X : Type 0} (xs ys : List X) → Keeps xs ys → (ns ms : List ℕ) (all : List X) (i : ℕ) (item p : X) (n : ℕ) → i < length all → item ≡ get_or all i item → p ≡ item → ms ≡ ns ++ n ∷ [] → AreAt xs ns (take i all) → slice_get ys n ≡ Some p → AreAt ys ms (take (i + 1) all)
at_turn {X} xs ys f ns ms all i item p n lt at is made named new =
    subst (λ (m : List ℕ). AreAt ys m (take (i + 1) all)) (sym made)
    (subst (λ (t : List X). AreAt ys (ns ++ n ∷ []) t) (last_taken all i item p lt at is) (at_push xs ys f ns (take i all) n p named new))

pub each_at_turn : {X : Type 0} (xs ys : List X) → Keeps xs ys → (ns ms : List (List ℕ)) (all : List (List X)) (i : ℕ) (item p : List X) (n : List ℕ) → i < length all → item ≡ get_or all i item → p ≡ item → ms ≡ ns ++ n ∷ [] → AreEachAt xs ns (take i all) → AreAt ys n p → AreEachAt ys ms (take (i + 1) all)
each_at_turn {X} xs ys f ns ms all i item p n lt at is made named new =
    subst (λ (m : List (List ℕ)). AreEachAt ys m (take (i + 1) all)) (sym made)
    (subst (λ (t : List (List X)). AreEachAt ys (ns ++ n ∷ []) t) (last_taken all i item p lt at is) (each_at_push xs ys f ns (take i all) n p named new))

pub all_at_turn : {X : Type 0} (xs ys : List X) → Keeps xs ys → (ns ms : List (List (List ℕ))) (all : List (List (List X))) (i : ℕ) (item p : List (List X)) (n : List (List ℕ)) → i < length all → item ≡ get_or all i item → p ≡ item → ms ≡ ns ++ n ∷ [] → AreAllAt xs ns (take i all) → AreEachAt ys n p → AreAllAt ys ms (take (i + 1) all)
all_at_turn {X} xs ys f ns ms all i item p n lt at is made named new =
    subst (λ (m : List (List (List ℕ))). AreAllAt ys m (take (i + 1) all)) (sym made)
    (subst (λ (t : List (List (List X))). AreAllAt ys (ns ++ n ∷ []) t) (last_taken all i item p lt at is) (all_at_push xs ys f ns (take i all) n p named new))

-- ---- claims of lists, by place

pub each_at : {X : Type 0} (P : X → Type 0) (xs : List X) (i : ℕ) (x : X) → EachOf P xs → i < length xs → x ≡ get_or xs i x → P x
each_at P [] i x h lt e = absurd (omega (arith, lt))
each_at P (y ∷ xs) zero x h lt e = subst P (sym e) h.0
each_at P (y ∷ xs) (suc i) x h lt e = each_at P xs i x h.1 (omega (arith, lt)) e

pub each_get : {X : Type 0} (P : X → Type 0) (xs : List X) (j : ℕ) (x : X) → EachOf P xs → slice_get xs j ≡ Some x → P x
each_get P [] j x h e = absurd cc
each_get P (y ∷ xs) zero x h e = subst P (some_is (Some y) y x refl e) h.0
each_get P (y ∷ xs) (suc j) x h e = each_get P xs j x h.1 e

pub each_of_in : {X : Type 0} (P : X → Type 0) (xs : List X) → ((x : X) → IsIn x xs → P x) → EachOf P xs
each_of_in P [] f = tt
each_of_in P (x ∷ xs) f = (f x (inl refl), each_of_in P xs (λ y h. f y (inr h)))

pub some_in : {X : Type 0} (P : X → Type 0) (xs : List X) (x : X) → IsIn x xs → P x → SomeOf P xs
some_in P [] x h p = absurd h
some_in P (y ∷ xs) x (inl e) p = inl (subst P (sym e) p)
some_in P (y ∷ xs) x (inr h) p = inr (some_in P xs x h p)

pub each_push : {X : Type 0} (P : X → Type 0) (xs : List X) (x : X) → EachOf P xs → P x → EachOf P (xs ++ x ∷ [])
each_push P [] x h p = (p, tt)
each_push P (y ∷ xs) x h p = (h.0, each_push P xs x h.1 p)

in_last : {X : Type 0} (y x : X) (xs : List X) → IsIn y (xs ++ x ∷ []) → IsIn y xs ⊎ (x ≡ y)
in_last y x [] (inl e) = inr e
in_last y x [] (inr h) = absurd h
in_last y x (z ∷ xs) (inl e) = inl (inl e)
in_last y x (z ∷ xs) (inr h) = elim (in_last y x xs h) [ inl a ↦ inl (inr a) | inr b ↦ inr b ]

pub different_push : {X : Type 0} (xs : List X) (x : X) → AreDifferent xs → (IsIn x xs → ⊥) → AreDifferent (xs ++ x ∷ [])
different_push [] x d fresh = (λ h. h, tt)
different_push {X} (y ∷ xs) x d fresh = (by, different_push xs x d.1 (λ h. fresh (inr h)))
  where
    by : IsIn y (xs ++ x ∷ []) → ⊥
    by h = elim (in_last y x xs h) [ inl a ↦ d.0 a | inr b ↦ fresh (inl (sym b)) ]

-- ---- no more different things than places

taken_away : {X : Type 0} (x : X) (ys : List X) → IsIn x ys → (zs : List X) × (length ys ≡ length zs + 1) × ((y : X) → IsIn y ys → (x ≡ y) ⊎ IsIn y zs)
taken_away x [] h = absurd h
taken_away {X} x (y ∷ ys) (inl e) = (ys, omega arith, by)
  where
    by : (z : X) → IsIn z (y ∷ ys) → (x ≡ z) ⊎ IsIn z ys
    by z (inl f) = inl (sym e ∙ f)
    by z (inr g) = inr g
taken_away {X} x (y ∷ ys) (inr h) = from (taken_away x ys h)
  where
    from : ((zs : List X) × (length ys ≡ length zs + 1) × ((z : X) → IsIn z ys → (x ≡ z) ⊎ IsIn z zs)) → (zs : List X) × (length (y ∷ ys) ≡ length zs + 1) × ((z : X) → IsIn z (y ∷ ys) → (x ≡ z) ⊎ IsIn z zs)
    from r = (y ∷ r.0, omega (arith, r.1), by)
      where
        by : (z : X) → IsIn z (y ∷ ys) → (x ≡ z) ⊎ IsIn z (y ∷ r.0)
        by z (inl f) = inr (inl f)
        by z (inr g) = elim (r.2 z g) [ inl s ↦ inl s | inr t ↦ inr (inr t) ]

moved : {X : Type 0} (x : X) (xs : List X) (ys zs : List X) → (IsIn x xs → ⊥) → ((y : X) → IsIn y ys → (x ≡ y) ⊎ IsIn y zs) → ((y : X) → IsIn y xs → IsIn y ys) → (y : X) → IsIn y xs → IsIn y zs
moved {X} x xs ys zs fresh split sub y h = elim (split y (sub y h)) [ inl e ↦ absurd (fresh (subst (λ (z : X). IsIn z xs) (sym e) h)) | inr t ↦ t ]

pub not_more : {X : Type 0} (xs ys : List X) → AreDifferent xs → ((x : X) → IsIn x xs → IsIn x ys) → length xs ≤ length ys
not_more [] ys d sub = omega arith
not_more (x ∷ xs) ys d sub =
    let r = taken_away x ys (sub x (inl refl)) in
    let less = not_more xs r.0 d.1 (moved x xs ys r.0 d.0 r.2 (λ y h. sub y (inr h))) in
    omega (arith, less, r.1)
