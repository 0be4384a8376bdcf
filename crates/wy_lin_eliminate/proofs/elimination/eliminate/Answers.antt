use Rattle.std.proofs.Common.{◌≡◌, ℕ, List, map, length, sym, ap, subst, ◌∙◌}
use Rattle.std.specs.Prelude.{IfOk}
use Rattle.wy_lin.specs.declared.linear.Form.{Form}
use Rattle.wy_lin.specs.Seen.{linear_form}
use Rattle.wy_lin_eliminate.specs.declared.steps.Elim.{Elim}
use Rattle.wy_lin_eliminate.specs.Variables.{variables}
use Rattle.wy_lin_eliminate.specs.Elimination.{State, Turn, given_from, at_first, ended, eliminated, elimination}
use Rattle.wy_lin_eliminate.specs.Seen.{entries_of, seen_table, seen_turn}
use Rattle.wy_lin_eliminate.proofs.elimination.eliminate.Goals as goal

pub returns-in_ok-found-in-GoesOn : goal.returns-in_ok-found-in-GoesOn
returns-in_ok-found-in-GoesOn c =
    let fs = map linear_form c.args.forms.items in
    let next : State → Elim = λ s. eliminated (length (variables s.all s.standing)) s in
    let t = seen_table c.in-GoesOn.table in
    let first : given_from (at_first fs) 0 fs ≡ seen_turn c.in_ok-given.field-0 = ap (λ (s : State). given_from s 0 s.all) (sym c.at_first-first.ensures.value) ∙ sym c.in_ok-given.ensures.value in
    let then_on : ended (seen_turn c.in_ok-given.field-0) next ≡ next t = c.in-GoesOn.ensures.value next in
    let entries : entries_of c.in_ok-found-in-GoesOn.found ≡ variables t.all t.standing =
    c.in_ok-found-in-GoesOn.ensures.value
    ∙ ap (λ (l : List Form). variables (map linear_form l) c.as_slice-in-GoesOn.result.now) c.as_slice.ensures.value
    ∙ ap (variables t.all) c.as_slice-in-GoesOn.ensures
    in
    let count : c.number.result ≡ length (variables t.all t.standing) = c.number.ensures.value ∙ ap length entries in
    let whole : elimination fs ≡ eliminated c.number.result t = ap (λ (x : Turn). ended x next) first ∙ then_on ∙ ap (λ (n : ℕ). eliminated n t) (sym count) in
    record { value = subst (λ (x : Elim). IfOk c.eliminated.result (λ e. e ≡ x)) (sym whole) c.eliminated.ensures.value }
