use Rattle.std.proofs.Common.{Option, Some, sym, subst}
use Rattle.wy_core.specs.CoreSeen.{seen_option, seen_ty}
use Rattle.wy_core.specs.CoreTree as tree
use Rattle.wy_core.specs.declared.expressions.Expr as e
use Rattle.wy_vc_spec.specs.Numbered.{numbered_option}
use Rattle.wy_vc_spec.specs.Statements as spec
use Rattle.wy_vc_body.specs.Frames.{body_at}
use Rattle.wy_vc_body.specs.Going.{Went}
use Rattle.wy_vc_body.specs.Paths.{spot_of}
use Rattle.wy_vc.proofs.simple.declare.Goals as goal

pub returns-in_ok-here-in-Some-clause-value : goal.returns-in_ok-here-in-Some-clause-value
returns-in_ok-here-in-Some-clause-value c = λ around.
    let a = c.args.walk.now in
    subst (λ (o : Option e.Expr). Went a c.declare_value.new.walk (Some c.in_ok-here-in-Some.here) (spec.exec (body_at a.maker.terms c.args.frame.now) around (tree.DeclareStmt c.args.at (seen_ty c.args.ty.now) c.args.x (numbered_option (seen_option o) a.maker.node)) (spot_of a c.args.here) a.maker.count))
    (sym c.in-Some.is) (c.in_ok-here-in-Some.ensures.value around)
