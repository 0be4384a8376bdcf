use Rattle.std.proofs.Common.{◌≡◌, drop}
use Rattle.wy_core.specs.CoreSeen.{seen_exprs}
use Rattle.wy_assign.specs.Faults.{clauses_faults}
use Rattle.wy_assign.proofs.uses.note_clauses.Given as goal

-- what is left completes what is found
abbrev pub invariant-loop-clause : goal.invariant-loop-clause
invariant-loop-clause l = clauses_faults l.marks (seen_exprs (drop l.clause-index l.clauses)) l.found ≡ clauses_faults l.marks (seen_exprs l.clauses) l.fn.found
