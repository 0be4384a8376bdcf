use Rattle.std.proofs.Common.{ℕ, List, IfOk, ◌∙◌, sym, subst}
use Rattle.wy_term.specs.Term.{record_kind}
use Rattle.wy_vc_tables.specs.wy_vc_spec.Making as made
use Rattle.wy_vc_operations.specs.Growing.{Makes}
use Rattle.wy_vc_terms.proofs.MadeLemmas.{names_are}
use Rattle.wy_vc_terms.proofs.parts.is_record.Goals as goal

pub returns-clause-made : goal.returns-clause-made
returns-clause-made c = λ t at.
    subst (λ (ns : List (List ℕ)). IfOk c.kind.result (λ r. Makes c.args.terms.now c.kind.new.terms r (made.of_kind (record_kind ns) t))) (c.in_ok-names.ensures.value ∙ sym (names_are c.args.fields.now)) (c.kind.ensures.made t at)
