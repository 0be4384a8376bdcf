use Rattle.wy_vc.proofs.StandingLemmas.{stands_cut}
use Rattle.wy_vc.proofs.standing.cut_to.Goals as goal

pub returns-clause-stands : goal.returns-clause-stands
returns-clause-stands c =
    stands_cut c.args._terms.now c.args.standing.now (record { hyps = c.truncate-2.new.self; types = c.truncate.new.self; counts = c.truncate-3.new.self }) c.args.front c.count_before-count.result c.count_before-count.ensures.value
    c.truncate.ensures.items c.truncate-2.ensures.items c.truncate-3.ensures.items c.requires.stands
