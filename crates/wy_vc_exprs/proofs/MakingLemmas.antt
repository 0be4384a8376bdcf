-- Terms made in order.
use Rattle.std.proofs.Common.{◌≡◌, ◌<◌, ℕ, List, [], ◌∷◌, subst, sym}
use Rattle.std.proofs.lemmas.List.Elements.{All-nil, All-cons}
use Rattle.wy_term.specs.Term.{Term}
use Rattle.wy_term.specs.Nodes.{Plain}
use Rattle.wy_term.specs.Numbers.{IsAt}
use Rattle.wy_vc_operations.specs.Growing.{AreAt, AreBelow, Kept}
use Rattle.wy_vc_exprs.proofs.StateLemmas.{are_one, are_two}
use Rattle.wy_vc_exprs.specs.Owing.{MakesAll}

pub makes_one : {old new : List Plain} {a : ℕ} {s : Term} (ks : List ℕ) → ks ≡ a ∷ [] → Kept old new → IsAt new a s → MakesAll old new ks (s ∷ [])
makes_one {old} {new} {a} {s} ks is kept x = record {
  are = subst (λ (xs : List ℕ). AreAt new xs (s ∷ [])) (sym is) (are_one new a s x);
  kept = kept;
}

pub makes_two : {old new : List Plain} {a b : ℕ} {s t : Term} (ks : List ℕ) → ks ≡ a ∷ b ∷ [] → Kept old new → IsAt new a s → IsAt new b t → MakesAll old new ks (s ∷ t ∷ [])
makes_two {old} {new} {a} {b} {s} {t} ks is kept x y = record {
  are = subst (λ (xs : List ℕ). AreAt new xs (s ∷ t ∷ [])) (sym is) (are_two new a b s t x y);
  kept = kept;
}

pub below_one : (n : ℕ) (ks : List ℕ) (a : ℕ) → ks ≡ a ∷ [] → a < n → AreBelow n ks
below_one n ks a is lt = subst (λ (xs : List ℕ). AreBelow n xs) (sym is) (All-cons (λ k. k < n) a [] lt (All-nil (λ k. k < n)))

pub below_two : (n : ℕ) (ks : List ℕ) (a b : ℕ) → ks ≡ a ∷ b ∷ [] → a < n → b < n → AreBelow n ks
below_two n ks a b is la lb = subst (λ (xs : List ℕ). AreBelow n xs) (sym is) (All-cons (λ k. k < n) a (b ∷ []) la (All-cons (λ k. k < n) b [] lb (All-nil (λ k. k < n))))

-- numbers as they were read
pub below_read : (n : ℕ) (xs ks : List ℕ) → xs ≡ ks → AreBelow n ks → AreBelow n xs
below_read n xs ks read below = subst (λ (ys : List ℕ). AreBelow n ys) (sym read) below
