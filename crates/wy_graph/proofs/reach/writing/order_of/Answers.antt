use Rattle.wy_graph.proofs.reach_lemmas.OrderLemmas.{ordered_if}
use Rattle.wy_graph.proofs.reach.writing.order_of.Goals as goal

pub returns : goal.returns
returns c = record { value = ordered_if c.args.entries.now c.args.labels.now c.by_falling_labels.result c.requires.cycles c.requires.rising c.by_falling_labels.ensures.count c.by_falling_labels.ensures.each c.by_falling_labels.ensures.falls }
