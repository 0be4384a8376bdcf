use Rattle.std.proofs.Common.{◌≡◌, ◌∙◌, ◌++◌, ℕ, List, ℤ, Option, Some, sym, ap, subst}
use Rattle.std.specs.Prelude.{IfSome}
use Rattle.std.proofs.lemmas.Result.{IfOk-weaker}
use Rattle.wy_term.specs.Term.{Term}
use Rattle.wy_term.specs.Nodes.{tree_at}
use Rattle.wy_lin.specs.Linear.{Linear}
use Rattle.wy_lin.specs.Seen.{linear_form, seen_form}
use Rattle.wy_prove_drafts.specs.wy_check_spec.judge.Node.{Literal}
use Rattle.wy_prove_drafts.specs.wy_check_nodes.Seen.{seen_literal}
use Rattle.wy_prove_drafts.specs.wy_check_spec.valid.Literals.{literal_at}
use Rattle.wy_search_spec.specs.Standing.{present}
use Rattle.wy_search_spec.specs.Classes.{classes}
use Rattle.wy_search_spec.specs.Bounds.{Replaced, numbered, takings, replaced, replaced_by}
use Rattle.wy_prove_drafts.specs.wy_search_bounds.Seen.{seen_replaced, seen_takings}
use Rattle.wy_prove_drafts.specs.Draft.{seen_draft}
use Rattle.wy_prove_drafts.specs.Progress.{Progress}
use Rattle.wy_prove_leaves.specs.stated_sums.Replacing.{IsReplaceable, Turns}
use Rattle.wy_prove_leaves.proofs.stated_sums_lemmas.LinkedLemmas.{replaceable}
use Rattle.wy_prove_leaves.proofs.stated_sums_lemmas.LeftLemmas.{form_left}
use Rattle.wy_prove_leaves.proofs.stated_sums.literals.take_form.Goals as goal

pub returns-clause-value : goal.returns-clause-value
returns-clause-value c = λ types base rs classed linked here form stated.
    let at = tree_at c.args.terms.now in
    let l : Literal = seen_literal at c.args.literal in
    let whole : Linear Term = seen_form at c.args.form.now in
    let before : Progress = seen_draft at c.args.draft.now in
    let behind : Progress = seen_draft (tree_at c.take.new.terms) c.take.new.draft in
    let labels : List ℕ = classes (present base) base.literals in
    let f : Linear ℕ = numbered (present base) whole in
    let own : literal_at before.node.literals c.in-Some.own ≡ Some l = subst (λ (o : Option ℕ). IfSome o (λ k. literal_at before.node.literals k ≡ Some l)) c.in-Some.is c.in_ok-own.ensures.there in
    let placed : linear_form c.in_ok-placed.placed ≡ f = c.in_ok-placed.ensures ∙ ap (λ (us : List Term). numbered us whole) classed.present in
    let taken : seen_takings c.deref-4.result.now ≡ takings labels f.parts =
    ap seen_takings c.deref-4.ensures.value
    ∙ (c.in_ok-taken.ensures
    ∙ (ap (λ (ls : List ℕ). takings ls c.deref-2.result.now) (c.deref.ensures.value ∙ classed.labels)
    ∙ ap (λ (ps : List (ℤ × ℕ)). takings labels ps) (c.deref-2.ensures ∙ ap (λ (g : Linear ℕ). g.parts) placed))) in
    let left : seen_replaced c.in_ok-left.left ≡ replaced labels f =
    c.in_ok-left.ensures
    ∙ (ap (λ (ls : List ℕ). replaced ls (linear_form c.in_ok-placed.placed)) (c.deref-3.ensures.value ∙ classed.labels)
    ∙ ap (λ (g : Linear ℕ). replaced labels g) placed) in
    let h : IsReplaceable base before.node.literals c.in-Some.own f (seen_takings c.deref-4.result.now) =
    subst (λ (ts : List (ℕ × Linear ℕ)). IsReplaceable base before.node.literals c.in-Some.own f ts) (sym taken) (replaceable base before.node linked l whole c.in-Some.own here form own) in
    let by : seen_replaced c.in_ok-left.left ≡ replaced_by f (seen_takings c.deref-4.result.now) = left ∙ ap (λ (ts : List (ℕ × Linear ℕ)). replaced_by f ts) (sym taken) in
    IfOk-weaker c.take.result _ _
    (λ turn g. subst (λ (qs : List Replaced). Turns types base before behind (rs ++ qs) c.take.new.stated turn) (form_left base l whole (seen_replaced c.in_ok-left.left) form left) g)
    (c.take.ensures.value types base f rs classed.present h by stated)
