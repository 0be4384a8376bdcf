use Rattle.wy_link_load.proofs.file.refused_at.Goals as goal

pub returns : goal.returns
returns c = record { value = rw (← c.as_str.ensures.value, ← c.as_slice.ensures.value) (c.refusal.ensures.value _ c.fault_line-line.ensures.value) }
