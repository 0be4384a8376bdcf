use Rattle.std.proofs.Common.{eq-eqb, arith}
use Rattle.std.proofs.lemmas.Bool.{eqb-true}
use Rattle.wy_check.proofs.WholeLemmas.{first_above, second_above, product_before}
use Rattle.wy_check.proofs.whole.is_least.Goals as goal

pub returns-in-Some : goal.returns-in-Some
returns-in-Some c =
    let before = product_before c.args.x c.args.y (second_above c.args.x c.args.y c.requires) in
    let one = first_above c.args.x c.args.y c.requires in
    (λ h. let e = eqb-true c.in-Some.less _ h in omega (arith, e, before, one, c.in-Some.ensures), λ e. eq-eqb c.in-Some.less _ (omega (arith, e, before, one, c.in-Some.ensures)))
