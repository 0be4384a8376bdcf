use Rattle.std.proofs.Common.{◌≡◌, List, [], drop, length}
use Rattle.wy_term.specs.Nodes.{Plain}
use Rattle.wy_vc_operations.specs.Growing.{AreBelow}
use Rattle.wy_vc_exprs.specs.Slots.{AreSlots, slots_of}
use Rattle.wy_vc_exprs.proofs.CallLemmas.{bound_by}
use Rattle.wy_vc_exprs.proofs.calls.bound.Given as goal

-- with those that are left they come to all
abbrev pub invariant-loop-place : goal.invariant-loop-place
invariant-loop-place l = ((nodes : List Plain) → bound_by nodes (drop l.place l.params) (drop l.place l.args) (slots_of nodes l.vars.items) ≡ bound_by nodes l.params l.args []) × ((nodes : List Plain) → AreBelow (length nodes) l.args → AreSlots nodes l.vars.items)
