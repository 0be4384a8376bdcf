use Rattle.std.proofs.Common.{◌∙◌, ℕ, ap}
use Rattle.wy_vc_body.specs.Known.{known_from}
use Rattle.wy_vc_body.specs.Paths.{seen_paths}
use Rattle.wy_vc_body.proofs.PathLemmas.{paths_on}
use Rattle.wy_vc_body.proofs.KnownLemmas.{known_start, known_turn, known_end}
use Rattle.wy_vc_body.proofs.known.known_behind.Goals as goal

pub loop-x-init : goal.loop-x-init
loop-x-init c = known_start c.args.words.now c.args.paths.now c.args.maker.now (record { here = c.new.result; names = c.new-2.result }) _ c.new-2.ensures.items c.new.ensures.vars c.new.ensures.set

pub join_variable-requires-clause-paths : goal.join_variable-requires-clause-paths
join_variable-requires-clause-paths c = paths_on c.args.maker.now.terms c.loop-x.maker.terms c.loop-x.invariant.kept c.args.paths.now c.requires.paths

pub loop-x-preserved : goal.loop-x-preserved
loop-x-preserved c =
    known_turn c.args.words.now c.args.paths.now c.args.maker.now c.loop-x.maker c.join_variable.new.maker c.loop-x.all c.join_variable.new.joined c.loop-x.x _ _ c.requires.paths c.loop-x-test.true c.loop-x.invariant
    c.in_ok-join_variable.ensures.kept c.in_ok-join_variable.ensures.node c.in_ok-join_variable.ensures.joined c.in_ok-join_variable.ensures.value

pub returns-clause-value : goal.returns-clause-value
returns-clause-value c =
    known_end c.args.words.now c.args.paths.now c.args.maker.now c.loop-x.maker c.loop-x.all c.loop-x.x _ _ c.loop-x-test.false c.loop-x.invariant
    ∙ ap (λ (m : ℕ). known_from c.args.words.now (seen_paths c.args.maker.now.terms c.args.paths.now) 0 m c.args.maker.now.count) (c.in_ok-most.ensures.value ∙ c.most_vars.ensures.value c.args.maker.now.terms)
