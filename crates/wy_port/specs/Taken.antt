-- What is known of the bytes that a sink has taken.
use Rattle.std.specs.Prelude.{◌≡◌, ℕ, ◌≤◌, List, ◌++◌, take, length, Option, Some, None}

-- what is known after these bytes were taken: they follow those known before
abbrev pub with_taken : Option (List ℕ) → List ℕ → Option (List ℕ)
with_taken None more = None
with_taken (Some bytes) more = Some (bytes ++ more)

-- some front of these bytes was taken, maybe none of them or all
pub record TookFront (before after : Option (List ℕ)) (bytes : List ℕ) : Type 0 where
  pub count : ℕ
  pub within : count ≤ length bytes
  pub took : after ≡ with_taken before (take count bytes)
