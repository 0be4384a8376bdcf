use Rattle.std.proofs.Common.{◌∙◌, sym}
use Rattle.wy_heap.proofs.SettleLemmas.{settles_same, splits_spares}
use Rattle.wy_heap.proofs.SettledLemmas.{slot_key_there}
use Rattle.wy_heap.proofs.heap.Heap.settle_place.Goals as goal

pub index-requires : goal.index-requires
index-requires c = slot_key_there c.args.self.now c.requires.held.0 c.args.node c.args.place c.in-Key.key c.requires.held.1 c.requires.there (sym c.in-Key.ensures)

pub returns-in_err-copy-clause-settles : goal.returns-in_err-copy-clause-settles
returns-in_err-copy-clause-settles c = settles_same c.args.self.now c.split.new.self c.in_err-copy.ensures.no_memory c.in_err-copy.ensures.kept.0

pub returns-in_err-copy-clause-spares : goal.returns-in_err-copy-clause-spares
returns-in_err-copy-clause-spares c base more none k b was = c.in_err-copy.ensures.no_memory.nodes k ∙ more k b was

pub returns-in_err-push-clause-spares : goal.returns-in_err-push-clause-spares
returns-in_err-push-clause-spares c base more none k b was = splits_spares c.args.self.now c.split.new.self c.args.node c.args.place c.in-Key.key c.in_ok-copy.copy c.in_ok-copy.ensures.splits base more none k b was

pub returns-clause-spares : goal.returns-clause-spares
returns-clause-spares c base more none k b was = splits_spares c.args.self.now c.split.new.self c.args.node c.args.place c.in-Key.key c.in_ok-copy.copy c.in_ok-copy.ensures.splits base more none k b was
