-- Two lists of which f tells two items at one place apart are told apart by f.
use Rattle.std.proofs.Common.{◌≡◌, ◌<◌, ℕ, List, Bool, false, IsTrue, length, get_or, map, ap, ◌∙◌, sym}
use Rattle.std.proofs.lemmas.List.{get_or-map}

-- what never holds is what a plain false stands for
pub unlike : {A : Type 0} → (A → ⊥) → (IsTrue false → A) × (A → IsTrue false)
unlike never = ((λ h. absurd (cc)), (λ a. absurd (never a)))

-- what a test would affirm does not hold where it denies
pub refuted : {A : Type 0} (answer : Bool) → answer ≡ false → (A → IsTrue answer) → A → ⊥
refuted answer denies affirms a = let h : IsTrue answer = affirms a in cc

same_item : {X Y : Type 0} (f : X → Y) (xs ys : List X) (i : ℕ) (d e : X) → i < length xs → i < length ys
    → map f xs ≡ map f ys → f (get_or xs i d) ≡ f (get_or ys i e)
same_item f xs ys i d e h k same =
    sym (get_or-map f xs i d (f d) h) ∙ ap (λ l. get_or l i (f d)) same ∙ get_or-map f ys i e (f d) k

pub apart : {X Y : Type 0} (f : X → Y) (xs ys : List X) (i : ℕ) (d e : X) → i < length xs → i < length ys
    → (f (get_or xs i d) ≡ f (get_or ys i e) → ⊥) → map f xs ≡ map f ys → ⊥
apart f xs ys i d e h k never same = never (same_item f xs ys i d e h k same)

pub differ : {X Y : Type 0} (f : X → Y) (xs ys : List X) (i : ℕ) (x y : X) → x ≡ get_or xs i x → y ≡ get_or ys i y
    → i < length xs → i < length ys → (f x ≡ f y → ⊥) → map f xs ≡ map f ys → ⊥
differ f xs ys i x y a b h k never same = never (ap f a ∙ same_item f xs ys i x y h k same ∙ sym (ap f b))
