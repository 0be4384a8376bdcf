use Rattle.std.proofs.Common.{◌≡◌, length, arith}
use Rattle.wy_core.specs.CoreSeen.{seen_expr}
use Rattle.wy_vc_tables.specs.wy_vc_spec.Numbered.{numbered}
use Rattle.wy_vc_terms.proofs.MadeLemmas.{behind, clause_deep, made_of}
use Rattle.wy_vc_terms.proofs.formulas.value_formula.Goals as goal

pub returns-clause-made : goal.returns-clause-made
returns-clause-made c = λ d slots at.
    let deep : c.len-depth.result ≡ length c.args.program.now.types.items = omega (arith, c.args.program.now.types.ok.0, c.len-depth.ensures) in
    let v = c.in_ok-v.ensures.made d slots at in
    clause_deep c.args.core.now c.args.program.now c.len-depth.result d deep c.args.words.now (numbered (seen_expr c.args.clause.now) c.args.maker.now.node) slots c.args.maker.now.count
    (made_of (behind v (c.in_ok-holds.ensures.made _ v.term.here)))
