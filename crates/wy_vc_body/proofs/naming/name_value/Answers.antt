use Rattle.std.proofs.Common.{refl}
use Rattle.wy_vc_exprs.proofs.NumberedLemmas.{at_itself}
use Rattle.wy_vc_body.proofs.NamingLemmas.{named_steps}
use Rattle.wy_vc_body.proofs.naming.name_value.Goals as goal
use Rattle.wy_vc_exprs.proofs.wy_vc_operations_proofs.GrowingLemmas.{here_kept}

pub returns-clause-value : goal.returns-clause-value
returns-clause-value c =
    let m = c.in_ok-name.ensures.made in
    let e = c.in_ok-equation.ensures.made _ _ m.here (here_kept m.kept (at_itself c.requires.within)) in
    named_steps c.args.walk.now (record c.args.walk.now { maker = c.new_name.new.maker }) _ _ _ _ _ _ c.requires.sound c.requires.within m e refl refl c.in_ok-name.ensures.count c.in_ok-assume.ensures.value
