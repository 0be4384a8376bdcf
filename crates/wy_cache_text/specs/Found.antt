-- The entry with a key.
use Rattle.std.specs.Prelude.{◌≡◌, ℕ, List, [], ◌∷◌, Option, Some, None, if◌then◌else◌, bytes_eq}
use Rattle.std.specs.HashMap.{get_by}
use Rattle.std.specs.Option.{option_map}
use Rattle.wy_cache_text.specs.declared.finding.Table.{Table}
use Rattle.wy_cache_text.specs.Files.{Entries}

-- the steps of the first entry with this key, if there is one
abbrev pub steps_for : Entries → List ℕ → Option (List ℕ)
steps_for [] key = None
steps_for (e ∷ es) key = if bytes_eq e.key key then Some e.steps else steps_for es key

-- the table finds these, by each key
abbrev pub IsTable : Entries → Table → Type 0
IsTable es table = (key : List ℕ) → option_map (λ s. s.now) (get_by (λ k. bytes_eq key k.now) table.steps) ≡ steps_for es key
