use Rattle.std.proofs.Common.{◌≡◌, ◌∙◌, ℕ, List, true, sym, ap, subst}
use Rattle.wy_subtype.specs.wy_types.declared.conjuncts.Signed.{Signed}
use Rattle.wy_subtype.specs.wy_types.declared.question.Question.{Question}
use Rattle.wy_subtype.specs.wy_types.Conjuncts.{dnf_part}
use Rattle.wy_subtype.specs.wy_types.Membership as terms
use Rattle.wy_subtype.specs.wy_types.Names.{types_of, shape_of, is_in_normal}
use Rattle.wy_subtype.specs.wy_types.Questions.{first_part}
use Rattle.wy_subtype.specs.wy_types.Reach.{IsWide}
use Rattle.wy_subtype.specs.wy_types.Reading.{ty_at, conjuncts_at}
use Rattle.wy_subtype.proofs.wy_types_proofs.RankedLemmas.{has_laws}
use Rattle.wy_subtype.proofs.wy_types_proofs.TermLemmas.{any_in-dnf_part}
use Rattle.wy_subtype.proofs.ValueLemmas.{part_in-inside}
use Rattle.wy_subtype_parts.proofs.normal_forms.normal_in.Goals as goal

pub returns-clause-value : goal.returns-clause-value
returns-clause-value c =
    let q = c.ask.new.self in
    let part : c.as_slice.result.now ≡ first_part q = c.as_slice.ensures ∙ c.in_ok-part.ensures.value in
    let list : c.as_slice-2.result.now ≡ dnf_part q.table q.depth (first_part q) = c.as_slice-2.ensures ∙ c.in_ok-list.ensures.value ∙ ap (dnf_part q.table q.depth) part in
    c.in_ok-made.ensures.value ∙ ap (conjuncts_at (ty_at q.table q.depth)) list
    ∙ ap (λ (x : Question). conjuncts_at (ty_at x.table x.depth) (dnf_part x.table x.depth (first_part x))) c.in_ok-ask.ensures.value

pub returns-clause-union : goal.returns-clause-union
returns-clause-union c = λ d.
    let q = c.ask.new.self in
    let e = c.in_ok-ask.ensures in
    let part : c.as_slice.result.now ≡ first_part q = c.as_slice.ensures ∙ c.in_ok-part.ensures.value in
    let list : c.as_slice-2.result.now ≡ dnf_part q.table q.depth (first_part q) = c.as_slice-2.ensures ∙ c.in_ok-list.ensures.value ∙ ap (dnf_part q.table q.depth) part in
    ap (is_in_normal (shape_of (types_of c.args.names.now) d)) (c.in_ok-made.ensures.value ∙ ap (conjuncts_at (ty_at q.table q.depth)) list)
    ∙ sym (e.conjuncts d (dnf_part q.table q.depth (first_part q)))
    ∙ any_in-dnf_part q.table q.depth (terms.shape_of q.table q.depth d) (has_laws q.table e.ranked.0 q.depth e.ranked.1 d) (first_part q)
    ∙ part_in-inside q.table q.depth e.ranked d q.first
    ∙ e.first d true

pub returns-clause-narrow : goal.returns-clause-narrow
returns-clause-narrow c =
    let q = c.ask.new.self in
    let part : c.as_slice.result.now ≡ first_part q = c.as_slice.ensures ∙ c.in_ok-part.ensures.value in
    subst (λ (x : Question). IsWide x.table x.depth (first_part x) → ⊥) c.in_ok-ask.ensures.value (subst (λ (p : List (Signed ℕ)). IsWide q.table q.depth p → ⊥) part c.in_ok-list.ensures.narrow)
