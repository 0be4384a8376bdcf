use Rattle.std.proofs.Common.{◌≡◌, ◌≤◌, length}
use Rattle.wy_core.specs.CoreSeen.{seen_ty}
use Rattle.wy_flow_exprs.specs.Seen.{seen_flow}
use Rattle.wy_types.specs.Names.{types_of}
use Rattle.wy_types.specs.Questions.{IsOver}
use Rattle.wy_flow_spec.specs.typing.Outcomes.{Gives}
use Rattle.wy_flow.proofs.PathLemmas.{From}
use Rattle.wy_flow.proofs.paths.updated.Given as goal

abbrev pub invariant-loop-left : goal.invariant-loop-left
invariant-loop-left l = record {
  over : IsOver (types_of l.program.names) l.walk.question;
  flow : seen_flow l.walk ≡ seen_flow l.fn.walk;
  within : l.left ≤ length l.path;
  so_far : From (types_of l.program.names) l.at l.path l.types l.left (seen_ty l.new) (Gives (seen_ty l.inner));
}

abbrev pub decreases-loop-left : goal.decreases-loop-left
decreases-loop-left l = l.left
