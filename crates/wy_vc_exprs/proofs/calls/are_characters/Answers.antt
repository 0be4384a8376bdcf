use Rattle.std.proofs.Common.{ℕ, List, IfOk, subst, true, pos, ◌∷◌, []}
use Rattle.wy_vc_terms.specs.wy_vc_spec.Making as made
use Rattle.wy_vc_operations.specs.Growing.{Makes}
use Rattle.wy_vc_operations.proofs.GrowingLemmas.{here_kept, kept_on, onward_if}
use Rattle.wy_vc_exprs.proofs.calls.are_characters.Goals as goal

pub returns-clause-made : goal.returns-clause-made
returns-clause-made c = λ v at.
    let n = c.in_ok-name.ensures.made in
    let i = c.in_ok-item.ensures.made _ _ (here_kept n.kept at) n.here in
    let k = c.in_ok-code.ensures.made _ i.here in
    let z = c.in_ok-zero.ensures.made in
    let a = c.in_ok-above.ensures.made _ _ z.here (here_kept z.kept k.here) in
    let l = c.in_ok-last.ensures.made in
    let b = c.in_ok-below.ensures.made _ _ (here_kept (kept_on z.kept (kept_on a.kept l.kept)) k.here) l.here in
    let y = c.in_ok-body.ensures.made _ _ (here_kept (kept_on l.kept b.kept) a.here) b.here in
    let before = kept_on n.kept (kept_on i.kept (kept_on k.kept (kept_on z.kept (kept_on a.kept (kept_on l.kept (kept_on b.kept y.kept)))))) in
    let m = c.in_ok-count.ensures.made _ (here_kept before at) in
    subst (λ (w : List ℕ). IfOk c.every.result (λ r. Makes c.args.terms.now c.every.new.terms r (made.bound true w c.args.number (made.number_of (pos 0)) (made.len v) (made.all_of (made.at_most (made.number_of (pos 0)) (made.num (made.get v (made.int_name w c.args.number))) ∷ made.at_most (made.num (made.get v (made.int_name w c.args.number))) (made.number_of (pos 127)) ∷ []))))) c.in_ok-word.ensures.value
    (onward_if c.every.result _ _ _ _ (kept_on before m.kept) (c.every.ensures.made _ _ _ (here_kept (kept_on a.kept (kept_on l.kept (kept_on b.kept (kept_on y.kept m.kept)))) z.here) m.here (here_kept m.kept y.here)))
