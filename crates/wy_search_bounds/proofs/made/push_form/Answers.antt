use Rattle.std.proofs.Common.{◌≡◌, [], ◌∷◌, ℕ, Option, Some, length, rules, sym, subst}
use Rattle.std.proofs.lemmas.List.{append-nil}
use Rattle.std.specs.Prelude.{option_map, IfSome}
use Rattle.wy_search_bounds.proofs.KnownLemmas.{form_pushed}
use Rattle.wy_search_bounds.proofs.made.push_form.Goals as goal
use Rattle.wy_search_bounds.specs.Known.{IsFormIn, IsPlaced}
use Rattle.wy_lin.specs.Seen.{linear_form, seen_form, IsOver}
use Rattle.wy_lin.specs.declared.linear.Form.{Form}

pub returns-in_ok-push-in-Some-clause-value : goal.returns-in_ok-push-in-Some-clause-value
returns-in_ok-push-in-Some-clause-value c = λ n at within.
    let over = subst (λ (o : Option Form). IfSome o (λ (f : Form). IsOver n (linear_form f))) c.in-Some.is within in
    let made = form_pushed n at c.args.made.now.items c.push.new.self.items c.in-Some.f c.in_ok-push-in-Some.ensures.items over in
    let place : length c.args.made.now.items ≡ c.len-place.result = search rules in
    subst (λ (o : Option Form). IsFormIn n at c.push.new.self.items (Some c.len-place.result) (option_map (seen_form at) o)) (sym c.in-Some.is)
    (subst (λ (k : ℕ). IsPlaced n at c.push.new.self.items k (Some (seen_form at c.in-Some.f))) place made)

pub returns-in_ok-push-in-Some-clause-grows : goal.returns-in_ok-push-in-Some-clause-grows
returns-in_ok-push-in-Some-clause-grows c = (c.in-Some.f ∷ [], c.in_ok-push-in-Some.ensures.items)

pub returns-in-None-clause-grows : goal.returns-in-None-clause-grows
returns-in-None-clause-grows c = ([], sym (append-nil c.args.made.now.items))
