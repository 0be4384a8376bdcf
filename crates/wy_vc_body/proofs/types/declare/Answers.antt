use Rattle.wy_vc_body.proofs.TypeLemmas.{declared_within, declared_past}
use Rattle.wy_vc_body.proofs.types.declare.Goals as goal

pub returns-then-index-len : goal.returns-then-index-len
returns-then-index-len c =
    record { value = declared_within _ _ _ _ _ _ _ c.if-index-len.true c.len.ensures c.set.ensures c.in_ok-ty.ensures.value c.in_ok-copy.ensures.value }

pub returns-else-index-len : goal.returns-else-index-len
returns-else-index-len c = record { value = declared_past _ _ _ _ c.if-index-len.false c.len.ensures }
