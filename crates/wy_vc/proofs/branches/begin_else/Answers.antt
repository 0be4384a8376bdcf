use Rattle.wy_vc.proofs.BranchLemmas.{cut_sound, cut_within, turns_from}
use Rattle.wy_vc.proofs.EndLemmas.{paths_none}
use Rattle.wy_vc.proofs.branches.begin_else.Goals as goal

pub way_to-requires-clause-paths : goal.way_to-requires-clause-paths
way_to-requires-clause-paths c = paths_none c.args.walk.now.maker.terms c.new-paths.result.items c.new-paths.ensures.items

pub assume-requires-clause-sound : goal.assume-requires-clause-sound
assume-requires-clause-sound c = cut_sound c.args.walk.now c.back_to.new.self c.args.base c.requires.sound c.back_to.ensures.maker c.back_to.ensures.owed c.back_to.ensures.hyps

pub assume-requires-clause-formula : goal.assume-requires-clause-formula
assume-requires-clause-formula c = cut_within c.args.walk.now c.back_to.new.self c.args.fails c.back_to.ensures.maker c.requires.within

pub returns-clause-value : goal.returns-clause-value
returns-clause-value c =
    turns_from c.args.walk.now c.back_to.new.self c.assume.new.self c.args.base c.args.fails c.args.end.now c.new-paths.result.items c.way_to.new.paths.items c.requires.base c.back_to.ensures.maker c.back_to.ensures.owed c.back_to.ensures.hyps c.in_ok-assume.ensures.value c.requires.sound c.in_ok-way_to.ensures.are c.new-paths.ensures.items c.in_ok-way_to.ensures.value
