use Rattle.std.proofs.Common.{◌↔◌, drop, map}
use Rattle.wy_term.specs.Nodes.{tree_at}
use Rattle.wy_cert.specs.Steps.{written}
use Rattle.wy_check_laws.specs.reread.Writable.{AreWritable}
use Rattle.wy_prove_writable.proofs.testing.are_steps_writable.Given as goal

-- all can be written exactly where those can that are left
abbrev pub invariant-loop-step : goal.invariant-loop-step
invariant-loop-step l = AreWritable (map (written (tree_at l.terms)) (drop l.step-index l.steps)) ↔ AreWritable (map (written (tree_at l.terms)) l.steps)
