-- Where the certificate for a condition stands in a list.
use Rattle.std.specs.Prelude.{◌≡◌, ℕ, ◌==◌, suc, List, [], ◌∷◌, Option, Some, None, if◌then◌else◌}
use Rattle.wy_cert.specs.declared.step.Cert.{Cert}

-- the place of the first certificate for the condition with this number, where the first of the list stands at this place
abbrev pub place_from : ℕ → List (ℕ × Cert) → ℕ → Option ℕ
place_from at [] n = None
place_from at (c ∷ cs) n = if c.0 == n then Some at else place_from (suc at) cs n

-- each condition with a certificate is found at its place, and no other
abbrev pub IsIndex : List (ℕ × Cert) → (ℕ → Option ℕ) → Type 0
IsIndex certs found = (n : ℕ) → found n ≡ place_from 0 certs n
