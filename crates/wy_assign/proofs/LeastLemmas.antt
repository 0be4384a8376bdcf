-- The least of the places at which something stands, and how one more is noted.
use Rattle.std.proofs.Common.{◌≡◌, ◌⊎◌, inl, inr, ◌≤◌, ◌<◌, ℕ, Bool, true, false, nat_lt, cond, Option, Some, None, refl, sym, subst, arith}
use Rattle.wy_assign.specs.Faults.{noted, noted_where}
use Rattle.wy_lemmas.proofs.Choices.{lt_false, lt_true, false_true as never, by_truth, either}

abbrev pub Least : (ℕ → Type 0) → Option ℕ → Type 0
Least P None = (k : ℕ) → P k → ⊥
Least P (Some m) = P m × ((k : ℕ) → P k → m ≤ k)

pub least_same : (P Q : ℕ → Type 0) (o : Option ℕ) → ((k : ℕ) → P k → Q k) → ((k : ℕ) → Q k → P k) → Least P o → Least Q o
least_same P Q None f g l = λ k q. l k (g k q)
least_same P Q (Some m) f g l = (f m l.0, λ k q. l.1 k (g k q))

-- two that were noted one behind the other
pub least_two : (P A B C : ℕ → Type 0) (o : Option ℕ) → ((k : ℕ) → A k ⊎ B k → C k) → ((k : ℕ) → C k → A k ⊎ B k) → Least (λ k. (P k ⊎ A k) ⊎ B k) o → Least (λ k. P k ⊎ C k) o
least_two P A B C o f g l = least_same (λ k. (P k ⊎ A k) ⊎ B k) (λ k. P k ⊎ C k) o
    (λ k h. either (λ t. either (λ p. inl p) (λ a. inr (f k (inl a))) t) (λ b. inr (f k (inr b))) h)
    (λ k h. either (λ p. inl (inl p)) (λ c. either (λ a. inl (inr a)) (λ b. inr b) (g k c)) h) l

-- one that was noted
pub least_one : (P A C : ℕ → Type 0) (o : Option ℕ) → ((k : ℕ) → A k → C k) → ((k : ℕ) → C k → A k) → Least (λ k. P k ⊎ A k) o → Least (λ k. P k ⊎ C k) o
least_one P A C o f g l = least_same (λ k. P k ⊎ A k) (λ k. P k ⊎ C k) o
    (λ k h. either (λ p. inl p) (λ a. inr (f k a)) h)
    (λ k h. either (λ p. inl p) (λ c. inr (g k c)) h) l

-- nothing was noted
pub least_none : (P C : ℕ → Type 0) (o : Option ℕ) → ((k : ℕ) → C k → ⊥) → Least P o → Least (λ k. P k ⊎ C k) o
least_none P C o g l = least_same P (λ k. P k ⊎ C k) o (λ k p. inl p) (λ k h. either (λ p. p) (λ c. absurd (g k c)) h) l

at_most : (m k at : ℕ) → m ≤ at → at ≡ k → m ≤ k
at_most m k at h e = omega arith

least_lesser : (P : ℕ → Type 0) (m at : ℕ) → Least P (Some m) → Least (λ k. P k ⊎ (at ≡ k)) (Some (cond (nat_lt at m) at m))
least_lesser P m at l = by_truth (nat_lt at m) (λ b. nat_lt at m ≡ b → Least (λ k. P k ⊎ (at ≡ k)) (Some (cond b at m)))
    (λ _ h. (inr refl, λ k q. either (λ p. below k h (l.1 k p)) (λ e. at_most at k at (omega arith) e) q))
    (λ _ h. (inl l.0, λ k q. either (λ p. l.1 k p) (λ e. at_most m k at (above h) e) q)) refl
  where
    below : (k : ℕ) → nat_lt at m ≡ true → m ≤ k → at ≤ k
    below k h g = let lt = lt_true at m h in omega arith

    above : nat_lt at m ≡ false → m ≤ at
    above h = lt_false at m h

pub least_noted : (P : ℕ → Type 0) (o : Option ℕ) (at : ℕ) → Least P o → Least (λ k. P k ⊎ (at ≡ k)) (noted o at)
least_noted P None at l = (inr refl, λ k q. either (λ p. absurd (l k p)) (λ e. at_most at k at (omega arith) e) q)
least_noted P (Some m) at l = least_lesser P m at l

pub least_where : (P X : ℕ → Type 0) (b : Bool) (o : Option ℕ) (at : ℕ) → (b ≡ true → X at) → ((k : ℕ) → X k → (b ≡ true) × (at ≡ k)) → Least P o → Least (λ k. P k ⊎ X k) (noted_where b o at)
least_where P X true o at f g l = least_one P (λ k. at ≡ k) X (noted o at) (λ k e. subst X e (f refl)) (λ k x. (g k x).1) (least_noted P o at l)
least_where P X false o at f g l = least_none P X o (λ k x. never (g k x).0) l
