use Rattle.wy_vc_operations.proofs.GrowingLemmas.{here_kept, onward_if}
use Rattle.wy_vc_operations.proofs.operations.repeated.Goals as goal

pub returns-clause-made : goal.returns-clause-made
returns-clause-made c = λ v n hv hn.
    let m = c.in_ok-number.ensures.made _ hn in
    onward_if c.repeat.result _ _ _ _ m.kept (c.repeat.ensures.made _ _ (here_kept m.kept hv) m.here)
