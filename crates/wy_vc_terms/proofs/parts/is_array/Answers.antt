use Rattle.wy_vc_operations.proofs.GrowingLemmas.{here_kept, kept_on, onward_if}
use Rattle.wy_vc_terms.proofs.parts.is_array.Goals as goal

pub returns-clause-made : goal.returns-clause-made
returns-clause-made c = λ t f ht hf.
    let a = c.in_ok-array.ensures.made t ht in
    let n = c.in_ok-count.ensures.made t (here_kept a.kept ht) in
    let z = c.in_ok-longest.ensures.made in
    let s = c.in_ok-short.ensures.made _ _ (here_kept z.kept n.here) z.here in
    let e = c.in_ok-each.ensures.made _ _ (here_kept (kept_on z.kept s.kept) n.here) (here_kept (kept_on a.kept (kept_on n.kept (kept_on z.kept s.kept))) hf) in
    let rest = kept_on n.kept (kept_on z.kept (kept_on s.kept e.kept)) in
    onward_if c.each_of_three.result _ _ _ _ (kept_on a.kept rest) (c.each_of_three.ensures.made _ _ _ (here_kept rest a.here) (here_kept e.kept s.here) e.here)
