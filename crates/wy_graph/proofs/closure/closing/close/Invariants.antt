use Rattle.std.proofs.Common.{◌≡◌, ◌+◌, length}
use Rattle.wy_graph.specs.closure.Closure.{AreMet, IsReached, IsPending, waiting}
use Rattle.wy_graph.proofs.closure.closing.close.Given as goal

abbrev pub invariant-work : goal.invariant-work
invariant-work l = record { count : length l.marks ≡ l.count; reached : IsReached l.clauses l.marks; pending : IsPending l.clauses l.marks l.due; met : AreMet l.clauses l.marks l.met; each : length l.met ≡ length l.clauses }

abbrev pub decreases-work : goal.decreases-work
decreases-work l = waiting l.marks l.asking.items + length l.due
