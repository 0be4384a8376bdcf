use Rattle.wy_core.specs.Types.{InterTy}
use Rattle.wy_core.specs.CoreSeen.{seen_ty}
use Rattle.wy_types.specs.Names.{types_of}
use Rattle.wy_flow_exprs.proofs.FoundLemmas.{norm_at}
use Rattle.wy_flow_exprs.proofs.narrowing.meet.Goals as goal

pub returns-clause-value : goal.returns-clause-value
returns-clause-value c =
    norm_at (types_of c.args.program.now.names) c.args.at (seen_ty c.in_ok-both.both) (InterTy (seen_ty c.args.ty.now) (seen_ty c.args.other.now)) seen_ty c.norm_at.result c.in_ok-both.ensures.value c.norm_at.ensures.value
