-- Which lines of formulas are kept.
use Rattle.std.specs.Prelude.{◌≡◌, ◌<◌, ℕ, List, IfSome, nat_eq, length}
use Rattle.std.specs.HashMap.{get}
use Rattle.wy_term.specs.Nodes.{Plain, tree_at}
use Rattle.wy_cache.specs.declared.keys.Shown.{Shown}
use Rattle.wy_cache.specs.Key.{line_of}

-- where a line is kept for a number, it is that of the formula with this number
abbrev pub AreShown : List Plain → Shown → Type 0
AreShown nodes shown = (k : ℕ) → k < length nodes → IfSome (get nat_eq shown.lines k) (λ line. line.items ≡ line_of (tree_at nodes k))
