use Rattle.wy_vc_operations.proofs.GrowingLemmas.{onward_if}
use Rattle.wy_vc_operations.proofs.operations.less_than.Goals as goal

pub returns-clause-made : goal.returns-clause-made
returns-clause-made c = λ s t hs ht.
    let m = c.in_ok-at_most.ensures.made _ _ ht hs in
    onward_if c.denied.result _ _ _ _ m.kept (c.denied.ensures.made _ m.here)
