-- Marks of variables.
use Rattle.std.proofs.Common.{◌≡◌, ◌≢◌, ◌⊎◌, inl, inr, ◌≤◌, ◌<◌, ℕ, zero, suc, Bool, true, false, ◌||◌, ◌==◌, List, [], ◌∷◌, ◌++◌, length, slice_set, slice_index_or, refl, sym, ◌∙◌, ap, subst, arith}
use Rattle.std.proofs.lemmas.Bool.Decides.{eqb_tells}
use Rattle.std.proofs.lemmas.Bool.{or_right}
use Rattle.wy_vc_exprs.specs.wy_vc_spec.Joins.{max}
use Rattle.wy_vc_exprs.specs.wy_vc_spec.Spots.{is_set, mark}
use Rattle.wy_lemmas.proofs.Choices.{or_not as or_false}

-- a variable that isn't marked, behind the others, makes no difference
pub mark_pushed : (bs : List Bool) (x : ℕ) (b : Bool) → length bs ≤ x → mark (bs ++ false ∷ []) x b ≡ mark bs x b
mark_pushed [] zero b h = refl
mark_pushed [] (suc x) b h = refl
mark_pushed (c ∷ cs) zero b h = absurd (omega arith)
mark_pushed (c ∷ cs) (suc x) b h = ap (λ l. c ∷ l) (mark_pushed cs x b (omega arith))

pub mark_within : (bs : List Bool) (x : ℕ) (b : Bool) → x < length bs → slice_set bs x b ≡ mark bs x b
mark_within [] x b h = absurd (omega arith)
mark_within (c ∷ cs) zero b h = refl
mark_within (c ∷ cs) (suc x) b h = ap (λ l. c ∷ l) (mark_within cs x b (omega arith))

pub set_or : (bs : List Bool) (x : ℕ) → slice_index_or bs x false ≡ is_set bs x
set_or [] x = refl
set_or (b ∷ bs) zero = refl
set_or (b ∷ bs) (suc x) = set_or bs x

-- ---- what is marked behind a mark

-- cases by whether two variables are one
pub by_same : (x y : ℕ) (P : Bool → Type 0) → (x ≡ y → P true) → (x ≢ y → P false) → P (x == y)
by_same x y P f g = cases (eqb_tells x y)
  where
    cases : (((x == y) ≡ true) × (x ≡ y)) ⊎ (((x == y) ≡ false) × (x ≢ y)) → P (x == y)
    cases (inl t) = subst P (sym t.0) (f t.1)
    cases (inr t) = subst P (sym t.0) (g t.1)

mark_same : (bs : List Bool) (x : ℕ) → is_set (mark bs x true) x ≡ true
mark_same [] zero = refl
mark_same [] (suc x) = mark_same [] x
mark_same (c ∷ cs) zero = refl
mark_same (c ∷ cs) (suc x) = mark_same cs x

mark_other : (bs : List Bool) (x y : ℕ) → (y ≡ x → ⊥) → is_set (mark bs y true) x ≡ is_set bs x
mark_other [] zero zero ne = absurd (ne refl)
mark_other [] zero (suc y) ne = refl
mark_other [] (suc x) zero ne = refl
mark_other [] (suc x) (suc y) ne = mark_other [] x y (λ e. ne (ap (λ n. suc n) e))
mark_other (c ∷ cs) zero zero ne = absurd (ne refl)
mark_other (c ∷ cs) zero (suc y) ne = refl
mark_other (c ∷ cs) (suc x) zero ne = refl
mark_other (c ∷ cs) (suc x) (suc y) ne = mark_other cs x y (λ e. ne (ap (λ n. suc n) e))

-- behind a mark of y the marked ones are those of before and y
pub set_marked : (bs : List Bool) (y x : ℕ) → is_set (mark bs y true) x ≡ (is_set bs x || (y == x))
set_marked bs y x = by_same y x (λ b. is_set (mark bs y true) x ≡ (is_set bs x || b))
    (λ e. subst (λ z. is_set (mark bs y true) z ≡ true) e (mark_same bs y) ∙ sym (or_right (is_set bs x) true refl))
    (λ ne. mark_other bs x y ne ∙ or_false (is_set bs x))

-- ---- how many marks there are

pub max_zero : (n : ℕ) → n ≡ max n 0
max_zero zero = refl
max_zero (suc n) = refl

pub max_assoc : (a b c : ℕ) → max (max a b) c ≡ max a (max b c)
max_assoc zero b c = refl
max_assoc (suc a) zero c = refl
max_assoc (suc a) (suc b) zero = refl
max_assoc (suc a) (suc b) (suc c) = ap (λ n. suc n) (max_assoc a b c)

pub count_marked : (bs : List Bool) (y : ℕ) (b : Bool) → length (mark bs y b) ≡ max (length bs) (suc y)
count_marked [] zero b = refl
count_marked [] (suc y) b = ap (λ n. suc n) (count_marked [] y b)
count_marked (c ∷ cs) zero b = ap (λ n. suc n) (max_zero (length cs))
count_marked (c ∷ cs) (suc y) b = ap (λ n. suc n) (count_marked cs y b)
