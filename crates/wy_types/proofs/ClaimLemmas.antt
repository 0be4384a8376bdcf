-- Claims of lists.
use Rattle.std.proofs.Common.{List, [], ◌∷◌, ◌++◌, inl, inr, ◌⊎◌}
use Rattle.wy_types.specs.Claims.{SomeOf, EachOf}
use Rattle.wy_types.specs.Asks.{IsMet}

pub some_map : {X : Type 0} (P Q : X → Type 0) (xs : List X) → ((x : X) → P x → Q x) → SomeOf P xs → SomeOf Q xs
some_map P Q [] f h = h
some_map P Q (x ∷ xs) f (inl h) = inl (f x h)
some_map P Q (x ∷ xs) f (inr h) = inr (some_map P Q xs f h)

pub each_map : {X : Type 0} (P Q : X → Type 0) (xs : List X) → ((x : X) → P x → Q x) → EachOf P xs → EachOf Q xs
each_map P Q [] f h = tt
each_map P Q (x ∷ xs) f h = (f x h.0, each_map P Q xs f h.1)

pub some_left : {X : Type 0} (P : X → Type 0) (xs ys : List X) → SomeOf P xs → SomeOf P (xs ++ ys)
some_left P [] ys h = absurd h
some_left P (x ∷ xs) ys (inl h) = inl h
some_left P (x ∷ xs) ys (inr h) = inr (some_left P xs ys h)

pub some_right : {X : Type 0} (P : X → Type 0) (xs ys : List X) → SomeOf P ys → SomeOf P (xs ++ ys)
some_right P [] ys h = h
some_right P (x ∷ xs) ys h = inr (some_right P xs ys h)

pub some_split : {X : Type 0} (P : X → Type 0) (xs ys : List X) → SomeOf P (xs ++ ys) → SomeOf P xs ⊎ SomeOf P ys
some_split P [] ys h = inr h
some_split P (x ∷ xs) ys (inl h) = inl (inl h)
some_split P (x ∷ xs) ys (inr h) = elim (some_split P xs ys h) [ inl a ↦ inl (inr a) | inr b ↦ inr b ]

pub each_append : {X : Type 0} (P : X → Type 0) (xs ys : List X) → EachOf P xs → EachOf P ys → EachOf P (xs ++ ys)
each_append P [] ys h k = k
each_append P (x ∷ xs) ys h k = (h.0, each_append P xs ys h.1 k)

some_within : {X : Type 0} (A R M : X → Type 0) (xs : List X) → EachOf R xs → ((x : X) → R x → A x → M x) → SomeOf A xs → SomeOf M xs
some_within A R M [] h f s = s
some_within A R M (x ∷ xs) h f (inl s) = inl (f x h.0 s)
some_within A R M (x ∷ xs) h f (inr s) = inr (some_within A R M xs h.1 f s)

each_within : {X : Type 0} (A R M : X → Type 0) (xs : List X) → EachOf R xs → ((x : X) → R x → A x → M x) → EachOf A xs → EachOf M xs
each_within A R M [] h f s = tt
each_within A R M (x ∷ xs) h f s = (f x h.0 s.0, each_within A R M xs h.1 f s.1)

-- what is had stays had, where each that is asked leads to the other
pub met_within : {X : Type 0} (A R M : X → Type 0) (os : List (List (List X))) → EachOf (EachOf (EachOf R)) os → ((x : X) → R x → A x → M x) → IsMet A os → IsMet M os
met_within A R M os h f s =
    some_within (EachOf (SomeOf A)) (EachOf (EachOf R)) (EachOf (SomeOf M)) os h
    (λ o g t. each_within (SomeOf A) (EachOf R) (SomeOf M) o g (λ xs i u. some_within A R M xs i f u) t) s
