use Rattle.std.proofs.Common.{◌≡◌, ◌∙◌, List, sym, ap, subst}
use Rattle.std.proofs.lemmas.Result.{IfOk-weaker}
use Rattle.wy_term.specs.Nodes.{tree_at}
use Rattle.wy_lin_eliminate.specs.declared.steps.LinStep.{LinStep}
use Rattle.wy_lin_eliminate.specs.declared.steps.Elim.TheVariants.{Refuted}
use Rattle.wy_lin_eliminate.specs.Elimination.{elimination}
use Rattle.wy_search_spec.specs.Standing.{present}
use Rattle.wy_search_spec.specs.Classes.{classes}
use Rattle.wy_search_spec.specs.Bounds.{replaced_forms, forms_in}
use Rattle.wy_prove_drafts.specs.Draft.{seen_draft}
use Rattle.wy_prove_leaves.specs.stated_sums.Steps.{Refutes}
use Rattle.wy_prove_leaves.proofs.stated_sums_lemmas.LinkedLemmas.{plain_forms}
use Rattle.wy_prove_leaves.proofs.stated_sums_lemmas.WritingLemmas.{steps_refute}
use Rattle.wy_prove_leaves.proofs.stated_sums_lemmas.LeftLemmas.{closed_ends}
use Rattle.wy_prove_leaves.proofs.stated_sums.refuting.close_by_forms.Goals as goal

pub returns-in-Ok-Refuted-clause-value : goal.returns-in-Ok-Refuted-clause-value
returns-in-Ok-Refuted-clause-value c = λ types base linked stated.
    let before = seen_draft (tree_at c.args.terms.now) c.args.draft.now in
    let behind = seen_draft (tree_at c.write_steps.new.terms) c.write_steps.new.draft in
    let forms = forms_in (replaced_forms (present base) (classes (present base) base.literals) base.literals) in
    let is : elimination forms ≡ Refuted c.in-Ok-Refuted.steps = ap elimination (sym stated.forms) ∙ (sym c.in-Ok-Refuted.ensures.value ∙ c.in-Ok-Refuted.field-0-is) in
    let refutes = steps_refute forms (plain_forms base before.node linked.given) c.in-Ok-Refuted.steps is in
    IfOk-weaker c.write_steps.result _ _ (λ wrote h. closed_ends types base before behind wrote h)
    (c.write_steps.ensures.value types base forms stated.named (subst (λ (l : List LinStep). Refutes forms l) (sym c.as_slice.ensures) refutes))
