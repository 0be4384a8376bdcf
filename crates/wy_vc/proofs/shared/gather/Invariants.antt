use Rattle.std.proofs.Common.{ℕ, List, ◌++◌, length, nat_eq}
use Rattle.std.specs.HashSet.{contains}
use Rattle.wy_vc.specs.Gathered.{AreGathered, Grown}
use Rattle.wy_vc.specs.Shared.{AreUnder, IsListed}
use Rattle.wy_vc.proofs.shared.gather.Given as goal

-- what is listed, and what is still to be listed
abbrev pub invariant-loop-turn : goal.invariant-loop-turn
invariant-loop-turn l =
    ((roots : List ℕ) → AreGathered l.terms roots l.initial.gathered → IsListed l.terms (roots ++ l.more) l.gathered.all.items (contains nat_eq l.gathered.noted) l.todo.items)
    × (AreUnder (length l.terms) l.todo.items × Grown l.initial.gathered.all.items l.gathered.all.items)
