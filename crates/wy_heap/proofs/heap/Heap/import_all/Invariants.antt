use Rattle.std.proofs.Common.{[]}
use Rattle.wy_value.specs.Seen.{seen}
use Rattle.wy_heap.specs.Nodes.{map_of}
use Rattle.wy_heap.specs.Importing.{Carries, Grew, OnlyOnes, Ready, jobs_of, works}
use Rattle.wy_heap.proofs.heap.Heap.import_all.Given as goal

abbrev pub invariant-jobs : goal.invariant-jobs
invariant-jobs l = record {
  carries : Carries l.fn.self l.self [] l.done.items;
  grew : Grew l.fn.self l.self;
  ones : OnlyOnes l.fn.self l.self;
  ready : Ready (map_of l.self) (seen l.value) (jobs_of l.todo.items) l.done.items;
}

abbrev pub decreases-jobs : goal.decreases-jobs
decreases-jobs l = works (jobs_of l.todo.items)
