-- Where a number stands in a list of numbers.
use Rattle.std.specs.Prelude.{ℕ, ◌+◌, ◌==◌, List, [], ◌∷◌, if◌then◌else◌}

-- where the number stands among these, and how many they are where it is none of them
abbrev pub number_position : ℕ → List ℕ → ℕ
number_position n [] = 0
number_position n (x ∷ xs) = if x == n then 0 else (number_position n xs + 1)
