use Rattle.std.proofs.Common.{◌∷◌, sym, subst}
use Rattle.wy_heap.specs.declared.part.Part.{Part}
use Rattle.wy_heap.specs.Nodes.{map_of}
use Rattle.wy_heap.specs.Standing.{Counts}
use Rattle.wy_heap.specs.Changing.{Upheld}
use Rattle.wy_heap.proofs.LeadLemmas.{let_go_scalar}
use Rattle.wy_heap.proofs.heap.Heap.free.Goals as goal

pub free_hold-requires : goal.free_hold-requires
free_hold-requires c =
    (c.requires.0, subst (λ (p : Part). Counts c.args.self.now (p ∷ c.requires.0)) c.in-Key.is c.requires.1)

pub returns-in-Key-clause-leads : goal.returns-in-Key-clause-leads
returns-in-Key-clause-leads c others counts =
    c.free_hold.ensures.leads others (subst (λ (p : Part). Counts c.args.self.now (p ∷ others)) c.in-Key.is counts)

pub returns-in-Key-clause-upheld : goal.returns-in-Key-clause-upheld
returns-in-Key-clause-upheld c =
    subst (λ (p : Part). Upheld c.args.self.now (map_of c.free_hold.new.self) p) (sym c.in-Key.is) c.free_hold.ensures.upheld

pub returns-in_default-clause-leads : goal.returns-in_default-clause-leads
returns-in_default-clause-leads c others counts = let_go_scalar c.args.self.now c.args.part others c.in_default.not-Key counts

pub returns-in_default-clause-upheld : goal.returns-in_default-clause-upheld
returns-in_default-clause-upheld c base others counts upholds more = more
