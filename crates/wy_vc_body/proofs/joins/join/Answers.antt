use Rattle.std.proofs.Common.{refl}
use Rattle.wy_vc_body.proofs.PathLemmas.{paths_on}
use Rattle.wy_vc_body.proofs.KnownLemmas.{joined_read}
use Rattle.wy_vc_body.proofs.MeetLemmas.{join_meets}
use Rattle.wy_vc_body.proofs.joins.join.Goals as goal

pub path_formulas-requires-clause-paths : goal.path_formulas-requires-clause-paths
path_formulas-requires-clause-paths c = paths_on c.args.walk.now.maker.terms c.known_behind.new.maker.terms c.in_ok-all.ensures.kept c.args.paths.now c.requires.paths

pub returns-clause-value : goal.returns-clause-value
returns-clause-value c =
    join_meets c.args.words.now c.args.walk.now (record c.args.walk.now { maker = record c.path_formulas.new.maker { terms = c.disjunction.new.terms } }) c.assume.new.self c.known_behind.new.maker c.path_formulas.new.maker c.in_ok-all.all c.args.paths.now
    c.in_ok-formulas.formulas.items c.in_ok-one.one c.requires.sound c.requires.paths c.in_ok-all.ensures.kept c.in_ok-all.ensures.joined c.in_ok-all.ensures.value c.in_ok-formulas.ensures.kept c.in_ok-formulas.ensures.count
    (joined_read _ _ _ _ _ _ c.args.paths.now c.as_slice.ensures.value c.in_ok-formulas.ensures.made) c.in_ok-one.ensures.made refl refl refl c.in_ok-assume.ensures.value
