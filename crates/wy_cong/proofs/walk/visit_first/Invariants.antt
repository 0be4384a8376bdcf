use Rattle.std.proofs.Common.{◌≡◌, ◌<◌, false, true, length}
use Rattle.std.specs.Prelude.{IfSome}
use Rattle.wy_cong.proofs.walk.visit_first.Given as goal
use Rattle.wy_cong.specs.Begun.{AreBegun}
use Rattle.wy_cong.specs.Walk.{IsWalk, depth_of, leads_from, leads_with, with_next}
use Rattle.wy_cong.specs.declared.task.Task.TheVariants.{Visit}
use Rattle.wy_term.specs.Nodes.{tree_at}

-- what is listed and what is left lead to what the term leads to
abbrev pub invariant-loop-next : goal.invariant-loop-next
invariant-loop-next l = record {
  leads : leads_with (tree_at l.terms) l.walk l.next ≡ leads_from (tree_at l.terms) l.fn.walk (Visit l.k true);
  walk : IsWalk l.terms l.walk;
  begun : AreBegun (tree_at l.terms) l.walk (with_next l.next l.walk.tasks.items);
  quantified : l.walk.quantified ≡ false;
  next : IfSome l.next (λ k. k < length l.terms);
}

abbrev pub decreases-loop-next : goal.decreases-loop-next
decreases-loop-next l = depth_of l.next
