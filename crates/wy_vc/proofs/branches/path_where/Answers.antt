use Rattle.wy_vc.proofs.BranchLemmas.{base_within, where_hyps, where_path, where_steps, where_value}
use Rattle.wy_vc.proofs.branches.path_where.Goals as goal

pub path_here-requires : goal.path_here-requires
path_here-requires c = base_within c.args.walk.now c.assume.new.self _ c.mark-base.result c.mark-base.ensures.value c.in_ok-assume.ensures.value

pub returns-clause-steps : goal.returns-clause-steps
returns-clause-steps c = where_steps c.args.walk.now c.assume.new.self c.back_to.new.self c.mark-base.result c.args.formula c.requires.sound c.mark-base.ensures.value c.in_ok-assume.ensures.value c.back_to.ensures.maker c.back_to.ensures.owed c.back_to.ensures.hyps

pub returns-clause-hyps : goal.returns-clause-hyps
returns-clause-hyps c = where_hyps c.args.walk.now c.assume.new.self c.back_to.new.self c.mark-base.result c.args.formula c.mark-base.ensures.value c.in_ok-assume.ensures.value c.back_to.ensures.hyps

pub returns-clause-is_path : goal.returns-clause-is_path
returns-clause-is_path c = where_path c.args.walk.now c.assume.new.self c.args.here.now c.mark-base.result c.args.formula c.in_ok-path.path c.in_ok-assume.ensures.maker c.in_ok-assume.ensures.value c.requires.slots c.in_ok-path.ensures.since c.in_ok-path.ensures.vars

pub returns-clause-value : goal.returns-clause-value
returns-clause-value c = where_value c.args.walk.now c.assume.new.self c.args.here.now c.mark-base.result c.args.formula c.in_ok-path.path c.requires.sound c.mark-base.ensures.value c.in_ok-assume.ensures.maker c.in_ok-assume.ensures.value c.in_ok-path.ensures.since c.in_ok-path.ensures.vars c.in_ok-path.ensures.set
