use Rattle.wy_vc.proofs.EndLemmas.{way_none, way_some, way_some_ok}
use Rattle.wy_vc.proofs.branches.way_to.Goals as goal

pub returns-in-None-clause-value : goal.returns-in-None-clause-value
returns-in-None-clause-value c = way_none c.args.walk.now c.args.end.now c.args.base c.args.paths.now.items c.in-None.is

pub returns-in_ok-push-in-Some-clause-are : goal.returns-in_ok-push-in-Some-clause-are
returns-in_ok-push-in-Some-clause-are c =
    way_some_ok c.args.walk.now c.args.end.now c.in-Some.here c.args.base c.args.paths.now.items c.push.new.self.items c.in_ok-path-in-Some.path c.in-Some.is c.requires.sound c.requires.end c.requires.paths c.in_ok-push-in-Some.ensures.items c.in_ok-path-in-Some.ensures.since c.in_ok-path-in-Some.ensures.vars

pub returns-in_ok-push-in-Some-clause-value : goal.returns-in_ok-push-in-Some-clause-value
returns-in_ok-push-in-Some-clause-value c =
    way_some c.args.walk.now c.args.end.now c.in-Some.here c.args.base c.args.paths.now.items c.push.new.self.items c.in_ok-path-in-Some.path c.in-Some.is c.in_ok-push-in-Some.ensures.items c.in_ok-path-in-Some.ensures.since c.in_ok-path-in-Some.ensures.vars c.in_ok-path-in-Some.ensures.set
