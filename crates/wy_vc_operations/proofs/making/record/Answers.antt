use Rattle.std.proofs.Common.{ℕ, List, map, IfOk, subst}
use Rattle.wy_term.specs.Term as term
use Rattle.wy_term.specs.Term.{Term}
use Rattle.wy_vc_spec.specs.Operations as op
use Rattle.wy_vc_operations.specs.Growing.{Makes}
use Rattle.wy_vc_operations.proofs.GrowingLemmas.{by_all}
use Rattle.wy_vc_operations.proofs.making.record.Goals as goal

pub returns-clause-made : goal.returns-clause-made
returns-clause-made c = λ names vs same are.
    subst (λ (ns : List (List ℕ)). IfOk c.put.result (λ r. Makes c.args.terms.now c.put.new.terms r (op.record_of ns vs))) same
    (by_all c.put.result c.args.terms.now c.put.new.terms (term.fields (map (λ f. f.0) c.args.fields.items)) (map (λ f. f.1) c.args.fields.items) vs c.put.ensures.made are)
