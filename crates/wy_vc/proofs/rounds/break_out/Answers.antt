use Rattle.wy_vc.proofs.SimpleLemmas.{broken_flows}
use Rattle.wy_vc.proofs.rounds.break_out.Goals as goal

pub returns : goal.returns
returns c = record {
  value = broken_flows c.args.walk.now c.args.here.now c.args.round.now.base c.args.breaks.now.items c.push.new.self.items c.in_ok-path.path c.requires.sound c.requires.slots c.requires.breaks c.in_ok-push.ensures.items c.in_ok-path.ensures.since c.in_ok-path.ensures.vars c.in_ok-path.ensures.set;
}
