use Rattle.std.proofs.Common.{◌∙◌, ◌<◌, ℕ, Option, map, sym, ap, subst}
use Rattle.std.specs.Prelude.{option_map, IfSome}
use Rattle.wy_search_bounds.proofs.products.push_some.Goals as goal
use Rattle.wy_cong.specs.wy_check_spec.judge.Node.{with_formulas}
use Rattle.wy_cong.proofs.wy_check_nodes_proofs.JudgingLemmas.{below_last}
use Rattle.wy_cong.proofs.wy_search_spec_proofs.SharedLemmas.{with_last}
use Rattle.wy_cong.specs.wy_search_spec.Expansion.{with_some}

pub returns-in_ok-push-in-Some-clause-value : goal.returns-in_ok-push-in-Some-clause-value
returns-in_ok-push-in-Some-clause-value c = λ at start.
    with_last at start c.args.stated.now.items c.push.new.self.items c.in-Some.f c.in_ok-push-in-Some.ensures.items
    ∙ ap (λ (o : Option ℕ). with_some (with_formulas start (map at c.args.stated.now.items)) (option_map at o)) (sym c.in-Some.is)

pub returns-in_ok-push-in-Some-clause-below : goal.returns-in_ok-push-in-Some-clause-below
returns-in_ok-push-in-Some-clause-below c = λ n low within.
    below_last n c.args.stated.now.items c.push.new.self.items c.in-Some.f low (subst (λ (o : Option ℕ). IfSome o (λ (f : ℕ). f < n)) c.in-Some.is within) c.in_ok-push-in-Some.ensures.items
