use Rattle.std.proofs.Common.{◌≡◌, ◌++◌, ℕ, List}
use Rattle.wy_value.specs.Datum.{Datum}
use Rattle.wy_value.specs.Shown.{shown}
use Rattle.wy_heap.specs.Nodes.{map_of}
use Rattle.wy_heap.specs.Meaning.{Means}
use Rattle.wy_heap.specs.Showing.{AreLeft, rest_works}
use Rattle.wy_heap.proofs.heap.Heap.text_of.Given as goal

abbrev pub invariant-jobs : goal.invariant-jobs
invariant-jobs l = (d : Datum) → Means (map_of l.self) d l.fn.part → (t : List ℕ) × AreLeft (map_of l.self) l.todo.items t × (shown d ≡ l.text.items ++ t)

abbrev pub decreases-jobs : goal.decreases-jobs
decreases-jobs l = rest_works (map_of l.self) l.todo.items
