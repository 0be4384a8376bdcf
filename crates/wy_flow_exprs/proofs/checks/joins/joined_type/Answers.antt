use Rattle.wy_core.specs.CoreSeen.{seen_ty}
use Rattle.wy_types.specs.Names.{types_of}
use Rattle.wy_flow_exprs.proofs.checks_lemmas.JoinLemmas.{joined_apart}
use Rattle.wy_flow_exprs.proofs.checks.joins.joined_type.Goals as goal

pub returns-clause-value : goal.returns-clause-value
returns-clause-value c =
    joined_apart (types_of c.args.names.now) c.args.at c.args.first.now c.args.second.now c.get.result.now c.get-2.result.now c.get-3.result.now c.get-4.result.now c.same_ty.result (seen_ty c.in_ok-union.union) c.norm_at.result
    c.if-same_ty.false c.same_ty.ensures.complete c.get.ensures.value c.get-2.ensures.value c.in_ok-union.ensures.value c.get-3.ensures.value c.get-4.ensures.value c.norm_at.ensures.value
