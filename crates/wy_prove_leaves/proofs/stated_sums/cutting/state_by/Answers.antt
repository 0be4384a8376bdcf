use Rattle.std.proofs.Common.{Bool, sym, ap, subst}
use Rattle.std.specs.Prelude.{IfOk, option_map}
use Rattle.std.proofs.lemmas.Bool.{ne_eqb, eq-eqb}
use Rattle.std.proofs.lemmas.Result.{IfOk-weaker}
use Rattle.wy_term.specs.Nodes.{tree_at}
use Rattle.wy_prove_drafts.specs.Draft.{seen_draft}
use Rattle.wy_prove_leaves.specs.stated_sums.Cuts.{StatesBy}
use Rattle.wy_prove_leaves.proofs.stated_sums_lemmas.StatingLemmas.{twice_states}
use Rattle.wy_prove_leaves.proofs.stated_sums.cutting.state_by.Goals as goal

pub returns-then-d-ne1-clause-value : goal.returns-then-d-ne1-clause-value
returns-then-d-ne1-clause-value c = λ types.
    let before = seen_draft (tree_at c.args.terms.now) c.args.draft.now in
    let behind = seen_draft (tree_at c.state_cut.new.terms) c.state_cut.new.draft in
    subst (λ (b : Bool). IfOk c.state_cut.result (StatesBy b types c.args.d c.args.pairs.items before behind)) (sym (ne_eqb c.args.d 1 c.if-d-ne1.true))
    (IfOk-weaker c.state_cut.result _ _ (λ o h. h) (c.state_cut.ensures.value types))

pub returns-in-Some-clause-value : goal.returns-in-Some-clause-value
returns-in-Some-clause-value c = λ types.
    let before = seen_draft (tree_at c.args.terms.now) c.args.draft.now in
    let behind = seen_draft (tree_at c.state_cut-in-Some.new.terms) c.state_cut-in-Some.new.draft in
    subst (λ (b : Bool). IfOk c.state_cut-in-Some.result (StatesBy b types c.args.d c.args.pairs.items before behind)) (sym (eq-eqb c.args.d 1 c.if-d-ne1.false))
    (IfOk-weaker c.state_cut-in-Some.result _ _
    (λ o h. twice_states types before behind c.args.pairs.items c.deref.result.now c.in-Some.made.items (option_map (λ v. v.items) c.in_ok-made.field-0) o c.deref.ensures.value (ap (option_map (λ v. v.items)) c.in-Some.is) c.in_ok-made.ensures h)
    (c.state_cut-in-Some.ensures.value types))
