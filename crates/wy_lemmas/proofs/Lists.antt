-- Lists: their places, ends and members.
use Rattle.std.proofs.Common.{◌≡◌, ℕ, zero, suc, Some, drop, List, [], ◌∷◌, Bool, ap, ◌+◌, ◌∙◌, arith, get_or, None, refl, ◌≤◌, ◌++◌, length, true, ◌<◌, Less, Greater, nat_cmp, take, sym, add-one, drop-cons, map, ℤ, Option, ◌⊎◌, inl, inr, All, eqb, ◌&&◌}
use Rattle.std.proofs.lemmas.List.{take-take, length-take, drop_more}
use Rattle.std.proofs.lemmas.List.Elements.{All-nil, All-cons}
use Rattle.std.proofs.lemmas.Slice.Eq.{bytes_eq-Decides}
use Rattle.std.specs.Cmp.Lexicographic.{slice_cmp, nat_list_cmp_total}
use Rattle.std.specs.List.{AllByRecursion}
use Rattle.std.specs.Ordering.{ordering_reverse}
use Rattle.std.specs.Prelude.{slice_get, bytes_eq}
use Rattle.wy_lemmas.proofs.Choices.{eqb_itself}
use Rattle.wy_lemmas.proofs.Options.{some_number_is, some_one, pair_is}

pub drop_next_pair : (xs : List (ℕ × Bool)) (i : ℕ) (x : ℕ × Bool) → slice_get xs i ≡ Some x → drop i xs ≡ x ∷ drop (suc i) xs
drop_next_pair [] i x e = absurd cc
drop_next_pair (y ∷ ys) zero x e = let is : y ≡ x = cc in ap (λ (z : ℕ × Bool). z ∷ ys) is
drop_next_pair (y ∷ ys) (suc i) x e = drop_next_pair ys i x e

pub get_here : (ps : List (ℕ × Bool)) (i : ℕ) (p : ℕ × Bool) → slice_get ps i ≡ Some p → drop i ps ≡ p ∷ drop (i + 1) ps
get_here ps i p e = let next : suc i ≡ i + 1 = omega arith in drop_next_pair ps i p e ∙ ap (λ (j : ℕ). p ∷ drop j ps) next

pub number_lost : (xs : List ℕ) (k : ℕ) → slice_get xs k ≡ None → 0 ≡ get_or xs k 0
number_lost [] k e = refl
number_lost (x ∷ xs) zero e = absurd cc
number_lost (x ∷ xs) (suc k) e = number_lost xs k e

pub at_within : (done : List ℕ) (x j p : ℕ) → slice_get (done ++ x ∷ []) j ≡ Some p → j ≤ length done
at_within [] x zero p h = omega arith
at_within [] x (suc j) p h = absurd (cc)
at_within (y ∷ done) x zero p h = omega arith
at_within (y ∷ done) x (suc j) p h = let less = at_within done x j p h in omega (arith, less)

pub at_first : (xs : List ℕ) (x k p : ℕ) → slice_get xs k ≡ Some p → slice_get (xs ++ x ∷ []) k ≡ Some p
at_first [] x k p h = absurd (cc)
at_first (y ∷ ys) x zero p h = h
at_first (y ∷ ys) x (suc k) p h = at_first ys x k p h

pub bytes_self : (n : List ℕ) → bytes_eq n n ≡ true
bytes_self n = (bytes_eq-Decides n n).1 refl

pub nothing_more : (done : List ℕ) → done ++ [] ≡ done
nothing_more [] = refl
nothing_more (y ∷ done) = ap (λ (l : List ℕ). y ∷ l) (nothing_more done)

pub at_seam : (done rest : List ℕ) (p : ℕ) → slice_get (done ++ p ∷ rest) (length done) ≡ Some p
at_seam [] rest p = refl
at_seam (y ∷ done) rest p = at_seam done rest p

pub seam : (done rest : List ℕ) (p : ℕ) → done ++ p ∷ rest ≡ (done ++ p ∷ []) ++ rest
seam [] rest p = refl
seam (y ∷ done) rest p = ap (λ (l : List ℕ). y ∷ l) (seam done rest p)

pub at_front : (done more : List ℕ) (j : ℕ) → j < length done → slice_get (done ++ more) j ≡ slice_get done j
at_front [] more j lt = absurd (omega (arith, lt))
at_front (y ∷ done) more zero lt = refl
at_front (y ∷ done) more (suc j) lt = at_front done more j (omega (arith, lt))

pub at_longer : (done rest : List ℕ) (x j p : ℕ) → slice_get (done ++ x ∷ []) j ≡ Some p → slice_get (done ++ x ∷ rest) j ≡ Some p
at_longer [] rest x zero p h = h
at_longer [] rest x (suc j) p h = absurd (cc)
at_longer (y ∷ done) rest x zero p h = h
at_longer (y ∷ done) rest x (suc j) p h = at_longer done rest x j p h

pub same_bytes : (a b : List ℕ) → Some a ≡ Some b → a ≡ b
same_bytes a b same = cc

pub bytes_are : (b w : List ℕ) → bytes_eq b w ≡ true → b ≡ w
bytes_are b w h = (bytes_eq-Decides b w).0 h

pub less_back : (a b : List ℕ) → slice_cmp nat_cmp a b ≡ Greater → slice_cmp nat_cmp b a ≡ Less
less_back a b h = nat_list_cmp_total.antisymm b a ∙ ap ordering_reverse h

pub front : (x y z : List ℕ) → take (length x) y ≡ x → take (length y) z ≡ y → take (length x) z ≡ x
front x y z e g =
    let short : length x ≤ length y = omega (arith, sym (ap length e) ∙ length-take (length x) y) in
    sym (take-take (length x) (length y) z short) ∙ ap (λ (l : List ℕ). take (length x) l) g ∙ e

pub append_cancel : (w k l : List ℕ) → w ++ k ≡ w ++ l → k ≡ l
append_cancel [] k l e = e
append_cancel (b ∷ w) k l e = append_cancel w k l (cc)

pub append_mid : {A : Type 0} (xs : List A) (g : A) (ys : List A) → (xs ++ g ∷ []) ++ ys ≡ xs ++ g ∷ ys
append_mid [] g ys = refl
append_mid (x ∷ xs) g ys = ap (λ zs. x ∷ zs) (append_mid xs g ys)

pub drop_next : {A : Type 0} (xs : List A) (i : ℕ) (x : A) → slice_get xs i ≡ Some x → drop i xs ≡ x ∷ drop (suc i) xs
drop_next [] i x e = absurd (cc)
drop_next (y ∷ ys) zero x e = let is : y ≡ x = cc in ap (λ z. z ∷ ys) is
drop_next (y ∷ ys) (suc i) x e = drop_next ys i x e

pub drop_here : {A : Type 0} (xs : List A) (i : ℕ) (x : A) → slice_get xs i ≡ Some x → drop i xs ≡ x ∷ drop (i + 1) xs
drop_here xs i x e = let next : suc i ≡ i + 1 = omega arith in drop_next xs i x e ∙ ap (λ (j : ℕ). x ∷ drop j xs) next

pub at_drop : {A : Type 0} (xs : List A) (i : ℕ) (d : A) → i < length xs → drop i xs ≡ get_or xs i d ∷ drop (i + 1) xs
at_drop {A = A} xs i d lt = rw (add-one, drop-cons xs i d) refl

pub next_of : {A : Type 0} (xs : List A) (i : ℕ) (x : A) → i < length xs → x ≡ get_or xs i x → drop i xs ≡ x ∷ drop (i + 1) xs
next_of xs i x within is = drop_more xs i x within ∙ ap (λ y. y ∷ drop (i + 1) xs) (sym is)

pub drop_end : {A : Type 0} (xs : List A) (i : ℕ) → length xs ≤ i → drop i xs ≡ []
drop_end [] zero le = refl
drop_end [] (suc i) le = refl
drop_end (x ∷ xs) zero le = absurd (omega (arith, le))
drop_end (x ∷ xs) (suc i) le = drop_end xs i (omega (arith, le))

pub none_behind : {X : Type 0} (xs : List X) → xs ++ [] ≡ xs
none_behind [] = refl
none_behind (x ∷ xs) = ap (λ l. x ∷ l) (none_behind xs)

pub get_front : {A : Type 0} (xs ys : List A) (i : ℕ) (x : A) → slice_get xs i ≡ Some x → slice_get (xs ++ ys) i ≡ Some x
get_front [] ys i x e = absurd cc
get_front (a ∷ xs) ys zero x e = e
get_front (a ∷ xs) ys (suc i) x e = get_front xs ys i x e

pub map_pushed : {A B : Type 0} (f : A → B) (xs : List A) (x : A) → map f (xs ++ x ∷ []) ≡ map f xs ++ f x ∷ []
map_pushed f [] x = refl
map_pushed f (y ∷ ys) x = ap (λ zs. f y ∷ zs) (map_pushed f ys x)

abbrev pub BelowNames : List ℕ → List (List ℕ) → Type 0
BelowNames n ns = AllByRecursion (λ m. slice_cmp nat_cmp n m ≡ Less) ns

-- each is below
abbrev pub AreAllBelow : ℕ → List ℕ → Type 0
AreAllBelow n [] = Unit {0}
AreAllBelow n (x ∷ xs) = (x < n) × AreAllBelow n xs

abbrev pub Each : {X : Type 0} → (X → Type 0) → List (List ℕ × X) → Type 0
Each P [] = Unit {0}
Each P (f ∷ fs) = P f.1 × Each P fs

abbrev pub keys : {X : Type 0} → List (List ℕ × X) → List (List ℕ)
keys [] = []
keys (f ∷ fs) = f.0 ∷ keys fs

abbrev pub some_parts : List (ℤ × ℕ) → Option (List (ℤ × ℕ))
some_parts ps = Some ps

pub at_more : (done : List ℕ) (x j p : ℕ) → slice_get (done ++ x ∷ []) j ≡ Some p → (slice_get done j ≡ Some p) ⊎ (x ≡ p)
at_more [] x zero p h = inr (some_number_is x p h)
at_more [] x (suc j) p h = absurd (cc)
at_more (y ∷ done) x zero p h = inl h
at_more (y ∷ done) x (suc j) p h = at_more done x j p h

pub first_of : {X : Type 0} (P : X → Type 0) (x : X) (xs : List X) → All P (x ∷ xs) → P x
first_of P x xs all = all 0 x (omega arith)

-- the last, or one of those before
pub last_or : {X : Type 0} (xs : List X) (x y : X) (n : ℕ) → slice_get (xs ++ x ∷ []) n ≡ Some y → (slice_get xs n ≡ Some y) ⊎ ((n ≡ length xs) × (x ≡ y))
last_or [] x y zero e = inr (refl, some_one (Some x) x y refl e)
last_or [] x y (suc n) e = absurd cc
last_or (z ∷ xs) x y zero e = inl e
last_or (z ∷ xs) x y (suc n) e = elim (last_or xs x y n e) [ inl a ↦ inl a | inr b ↦ inr (ap suc b.0, b.1) ]

pub rest_of : {X : Type 0} (P : X → Type 0) (x : X) (xs : List X) → All P (x ∷ xs) → All P xs
rest_of P x xs all i d lt = all (suc i) d (omega (arith, lt))

pub take_next : (ps : List (ℕ × Bool)) (i : ℕ) (p : ℕ × Bool) → slice_get ps i ≡ Some p → take (suc i) ps ≡ take i ps ++ p ∷ []
take_next [] i p e = absurd cc
take_next (q ∷ qs) zero p e = ap (λ (x : ℕ × Bool). x ∷ []) (pair_is q p e)
take_next (q ∷ qs) (suc i) p e = ap (λ (xs : List (ℕ × Bool)). q ∷ xs) (take_next qs i p e)

pub named_self : (w : List ℕ) (n : ℕ) → (bytes_eq w w && eqb n n) ≡ true
named_self w n = rw (bytes_self w, eqb_itself n) refl

pub below_all : (n : ℕ) (xs : List ℕ) → AreAllBelow n xs → All (λ x. x < n) xs
below_all n [] b = All-nil (λ x. x < n)
below_all n (x ∷ xs) b = All-cons (λ x. x < n) x xs b.0 (below_all n xs b.1)
