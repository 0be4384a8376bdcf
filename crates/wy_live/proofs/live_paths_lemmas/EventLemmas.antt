-- One path behind another.
use Rattle.std.proofs.Common.{◌≡◌, ◌⊎◌, inl, inr, ℕ, Bool, true, not, ◌&&◌, ◌||◌, ◌==◌, [], ◌∷◌, ◌++◌, refl, sym, ◌∙◌}
use Rattle.wy_lemmas.proofs.Choices.{both_parts as and_parts, or_cases, or_left, both_true as and_both, or_right, either}
use Rattle.wy_live.specs.live_paths.Events.{uses, sets, Path, uses_first}
use Rattle.wy_live.proofs.live_paths_lemmas.BoolLemmas.{used_bits, set_bits, kept_bits}

-- the variable is never assigned on the path
abbrev pub passes : ℕ → Path → Bool
passes x [] = true
passes x (uses y ∷ es) = passes x es
passes x (sets y ∷ es) = not (x == y) && passes x es

pub first-append : (x : ℕ) (p q : Path) → uses_first x (p ++ q) ≡ (uses_first x p || (passes x p && uses_first x q))
first-append x [] q = refl
first-append x (uses y ∷ p) q = used_bits (x == y) (uses_first x p) (passes x p && uses_first x q) (uses_first x (p ++ q)) (first-append x p q)
first-append x (sets y ∷ p) q = set_bits (x == y) (uses_first x p) (passes x p) (uses_first x q) (uses_first x (p ++ q)) (first-append x p q)

passes-append : (x : ℕ) (p q : Path) → passes x (p ++ q) ≡ (passes x p && passes x q)
passes-append x [] q = refl
passes-append x (uses y ∷ p) q = passes-append x p q
passes-append x (sets y ∷ p) q = kept_bits (x == y) (passes x p) (passes x q) (passes x (p ++ q)) (passes-append x p q)

pub first_here : (x : ℕ) (p q : Path) → uses_first x p ≡ true → uses_first x (p ++ q) ≡ true
first_here x p q f = first-append x p q ∙ or_left (uses_first x p) (passes x p && uses_first x q) f

pub first_behind : (x : ℕ) (p q : Path) → passes x p ≡ true → uses_first x q ≡ true → uses_first x (p ++ q) ≡ true
first_behind x p q s f = first-append x p q ∙ or_right (uses_first x p) (passes x p && uses_first x q) (and_both (passes x p) (uses_first x q) s f)

pub first_cases : (x : ℕ) (p q : Path) → uses_first x (p ++ q) ≡ true → (uses_first x p ≡ true) ⊎ ((passes x p ≡ true) × (uses_first x q ≡ true))
first_cases x p q f =
    either (λ u. inl u) (λ z. inr (and_parts (passes x p) (uses_first x q) z)) (or_cases (uses_first x p) (passes x p && uses_first x q) (sym (first-append x p q) ∙ f))

pub passes_both : (x : ℕ) (p q : Path) → passes x p ≡ true → passes x q ≡ true → passes x (p ++ q) ≡ true
passes_both x p q s t = passes-append x p q ∙ and_both (passes x p) (passes x q) s t

pub passes_parts : (x : ℕ) (p q : Path) → passes x (p ++ q) ≡ true → (passes x p ≡ true) × (passes x q ≡ true)
passes_parts x p q s = and_parts (passes x p) (passes x q) (sym (passes-append x p q) ∙ s)
