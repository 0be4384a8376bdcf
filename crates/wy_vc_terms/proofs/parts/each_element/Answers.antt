use Rattle.std.proofs.Common.{ℕ, List, IfOk, subst, true, pos}
use Rattle.wy_vc_tables.specs.wy_vc_spec.Making as made
use Rattle.wy_vc_operations.specs.Growing.{Makes}
use Rattle.wy_vc_operations.proofs.GrowingLemmas.{here_kept, onward_if}
use Rattle.wy_vc_terms.proofs.parts.each_element.Goals as goal

pub returns-clause-made : goal.returns-clause-made
returns-clause-made c = λ s f hs hf.
    let z = c.in_ok-from.ensures.made in
    subst (λ (w : List ℕ). IfOk c.every.result (λ r. Makes c.args.terms.now c.every.new.terms r (made.bound true w c.args.number (made.number_of (pos 0)) s f))) c.in_ok-word.ensures.value
    (onward_if c.every.result _ _ _ _ z.kept (c.every.ensures.made _ _ _ z.here (here_kept z.kept hs) (here_kept z.kept hf)))
