use Rattle.std.proofs.Common.{Option, None, sym, subst}
use Rattle.wy_core.specs.CoreSeen.{seen_option}
use Rattle.wy_core.specs.CoreTree as tree
use Rattle.wy_core.specs.declared.expressions.Expr as e
use Rattle.wy_vc_spec.specs.Numbered.{numbered_option}
use Rattle.wy_vc_spec.specs.Statements as spec
use Rattle.wy_vc_body.specs.Frames.{body_at}
use Rattle.wy_vc_body.specs.Going.{Went}
use Rattle.wy_vc_body.specs.Paths.{spot_of}
use Rattle.wy_vc.proofs.simple.leave_body.Goals as goal

pub returns-clause-value : goal.returns-clause-value
returns-clause-value c = λ around.
    let a = c.args.walk.now in
    subst (λ (o : Option e.Expr). Went a c.return_value.new.walk None (spec.exec (body_at a.maker.terms c.args.frame.now) around (tree.ReturnStmt c.args.at (numbered_option (seen_option o) a.maker.node)) (spot_of a c.args.here) a.maker.count))
    (sym c.in-Some.is) (c.in_ok-return_value-in-Some.ensures.value around)
