use Rattle.wy_vc_operations.proofs.GrowingLemmas.{here_kept, kept_on, onward_if}
use Rattle.wy_vc_terms.proofs.parts.is_int.Goals as goal

pub returns-clause-made : goal.returns-clause-made
returns-clause-made c = λ t at.
    let a = c.in_ok-whole.ensures.made t at in
    let b = c.in_ok-number.ensures.made t (here_kept a.kept at) in
    let lo = c.in_ok-least.ensures.made in
    let hi = c.in_ok-greatest.ensures.made in
    let up = c.in_ok-above.ensures.made _ _ (here_kept hi.kept lo.here) (here_kept (kept_on lo.kept hi.kept) b.here) in
    let down = c.in_ok-below.ensures.made _ _ (here_kept (kept_on lo.kept (kept_on hi.kept up.kept)) b.here) (here_kept up.kept hi.here) in
    let rest = kept_on b.kept (kept_on lo.kept (kept_on hi.kept (kept_on up.kept down.kept))) in
    onward_if c.each_of_three.result _ _ _ _ (kept_on a.kept rest) (c.each_of_three.ensures.made _ _ _ (here_kept rest a.here) (here_kept down.kept up.here) down.here)
