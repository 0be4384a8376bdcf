-- What the crates above prove of these words, each once.
use Rattle.std.proofs.Common.{◌≡◌, ℕ, ◌+◌, ◌-◌, ◌*◌, List, [], ◌∷◌, ◌++◌, refl}
use Rattle.wy_reading.specs.ListGrammar.{number_from}

pub number_from-append : (m : ℕ) (ds : List ℕ) (d : ℕ) → number_from m (ds ++ d ∷ []) ≡ number_from m ds * 10 + (d - 48)
number_from-append m [] d = refl
number_from-append m (e ∷ ds) d = number_from-append (m * 10 + (e - 48)) ds d
