-- Equations and what follows from them.
use Rattle.std.proofs.Common.{◌≡◌, ap, ◌∙◌, ℕ, List, Bool}

pub both_same : {A B C : Type 0} (f : A → B → C) (a c : A) (b d : B) → a ≡ c → b ≡ d → f a b ≡ f c d
both_same f a c b d p q = ap (λ x. f x b) p ∙ ap (f c) q

-- nothing is said of this part
abbrev pub Free : {A : Type 0} → A → Type 0
Free a = Unit {0}

abbrev pub Pairs : Type 0
Pairs = List (ℕ × Bool)
