use Rattle.wy_ast.specs.SurfaceSeen.{seen_expr}
use Rattle.wy_names_expand.specs.Sizes.{known}
use Rattle.wy_names_expand.proofs.SeenLemmas.{behind_first_steps}
use Rattle.wy_names_expand.proofs.statements.behind_first.Goals as goal

pub returns : goal.returns
returns c =
    let k = known c.args.scope.now c.args.params.now c.args.expansions.now in
    record {
      value = behind_first_steps k c.args.is_code c.args.at (seen_expr c.args.expr.now) c.args.found c.new.result c.root-spot.result c.inside.result c.inside-2.result
          c.nothing-measure.result c.counted.result c.counted-measure.result c.in_expr-measure.result c.limited.result
          c.root-spot.ensures.value c.new.ensures c.nothing-measure.ensures.value c.counted.ensures.value c.inside.ensures.value c.counted-measure.ensures.value c.inside-2.ensures.value
          c.in_expr-measure.ensures.value c.limited.ensures.value;
    }
