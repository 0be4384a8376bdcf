use Rattle.std.proofs.Common.{sym}
use Rattle.wy_core.specs.CoreSeen.{seen_ty}
use Rattle.wy_flow_exprs.specs.Seen.{seen_result}
use Rattle.wy_types.specs.Names.{types_of}
use Rattle.wy_flow_spec.specs.typing.Statements as spec
use Rattle.wy_flow.proofs.WalkLemmas.{moved}
use Rattle.wy_flow.proofs.statements.fits_result.Goals as goal

pub returns-in-Some-clause-value : goal.returns-in-Some-clause-value
returns-in-Some-clause-value c =
    let N = types_of c.args.program.now.names in
    moved (λ d. spec.FitsResult N c.args.at (seen_ty c.args.ty.now) (seen_result d)) _ _ _ _ (sym c.in-Some.is) c.fits.ensures.value
