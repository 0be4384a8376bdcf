use Rattle.std.proofs.Common.{◌≡◌, ◌≤◌, ℕ, List, drop, length}
use Rattle.std.specs.HashMap.{get_by}
use Rattle.std.specs.Option.{option_map}
use Rattle.std.specs.Prelude.{bytes_eq}
use Rattle.wy_cache_text.specs.Found.{steps_for}
use Rattle.wy_cache_text.specs.Seen.{all_held}
use Rattle.wy_cache_text.proofs.finding.table_of.Given as goal

-- the table of the entries from this place on
abbrev pub invariant-back : goal.invariant-back
invariant-back l = record {
  within : l.place ≤ length l.cache.entries.items;
  found : (key : List ℕ) → option_map (λ s. s.now) (get_by (λ k. bytes_eq key k.now) l.steps) ≡ steps_for (all_held (drop l.place l.cache.entries.items)) key;
}

abbrev pub decreases-back : goal.decreases-back
decreases-back l = l.place
