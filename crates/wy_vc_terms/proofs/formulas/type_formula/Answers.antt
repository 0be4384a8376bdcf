use Rattle.std.proofs.Common.{◌≡◌, length, arith}
use Rattle.wy_vc_operations.proofs.GrowingLemmas.{here_kept, kept_on}
use Rattle.wy_vc_terms.proofs.MadeLemmas.{test_named, test_made}
use Rattle.wy_vc_terms.proofs.formulas.type_formula.Goals as goal

pub returns-clause-kept : goal.returns-clause-kept
returns-clause-kept c = λ d.
    let n = c.in_ok-name.ensures.made in
    kept_on n.kept (c.in_ok-made.ensures.made d _ n.here).term.kept

pub returns-clause-made : goal.returns-clause-made
returns-clause-made c = λ d.
    let deep : c.len-depth.result ≡ length c.args.program.now.types.items = omega (arith, c.args.program.now.types.ok.0, c.len-depth.ensures) in
    let n = c.in_ok-name.ensures.made in
    let m = c.in_ok-made.ensures.made d _ n.here in
    let word = c.in_ok-word.ensures.value d in
    (test_named c.args.core.now c.args.program.now c.args.number word (here_kept m.term.kept n.here), test_made c.args.core.now c.args.program.now c.len-depth.result c.args.number d deep word m.term.here)
