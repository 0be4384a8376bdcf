use Rattle.std.proofs.Common.{◌≡◌, length, arith}
use Rattle.wy_core.specs.CoreSeen.{seen_ty}
use Rattle.wy_vc_terms.proofs.MadeLemmas.{holds_deep, made_of}
use Rattle.wy_vc_terms.proofs.formulas.holds.Goals as goal

pub returns-clause-made : goal.returns-clause-made
returns-clause-made c = λ d v at.
    let deep : c.len-depth.result ≡ length c.args.program.now.types.items = omega (arith, c.args.program.now.types.ok.0, c.len-depth.ensures) in
    holds_deep c.args.core.now c.args.program.now c.len-depth.result d deep (seen_ty c.args.ty.now) v c.args.maker.now.count (made_of (c.in_ok-made.ensures.made d v at))
