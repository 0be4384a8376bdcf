use Rattle.wy_vc_body.proofs.EquationLemmas.{made_begin, made_turn, made_end}
use Rattle.wy_vc_body.proofs.KnownLemmas.{names_on}
use Rattle.wy_vc_body.proofs.PathLemmas.{path_on, one_of_all}
use Rattle.wy_vc_body.specs.Paths.{IsPath}
use Rattle.wy_vc_body.proofs.known.path_formulas.Goals as goal

pub loop-path-init : goal.loop-path-init
loop-path-init c = made_begin c.args.maker.now c.args.names.now c.args.paths.now _ c.new-formulas.ensures.items

pub loop-path-preserved : goal.loop-path-preserved
loop-path-preserved c =
    made_turn c.args.maker.now c.loop-path.maker c.path_formula.new.maker c.args.names.now c.args.paths.now c.loop-path.path-index c.path-item.result _ _ c.in_ok-formula.formula c.requires.paths c.requires.names c.loop-path-test.true c.path-item.is
    c.loop-path.invariant c.in_ok-formula.ensures.count c.in_ok-formula.ensures.node c.in_ok-formula.ensures.made c.in_ok-push.ensures.items

pub path_formula-requires-clause-path : goal.path_formula-requires-clause-path
path_formula-requires-clause-path c =
    path_on c.args.maker.now.terms c.loop-path.maker.terms c.loop-path.invariant.kept c.path-item.result (one_of_all (IsPath c.args.maker.now.terms) c.args.paths.now c.loop-path.path-index c.path-item.result c.loop-path-test.true c.path-item.is c.requires.paths)

pub path_formula-requires-clause-names : goal.path_formula-requires-clause-names
path_formula-requires-clause-names c = names_on c.args.maker.now.terms c.loop-path.maker.terms c.loop-path.invariant.kept c.args.names.now c.requires.names

pub returns-clause-made : goal.returns-clause-made
returns-clause-made c = made_end c.args.maker.now c.loop-path.maker c.args.names.now c.args.paths.now c.loop-path.path-index _ c.loop-path-test.false c.loop-path.invariant
