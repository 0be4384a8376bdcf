use Rattle.std.proofs.Common.{◌≡◌, ◌∙◌, ◌≤◌, ◌<◌, ap, sym, arith}
use Rattle.std.specs.Prelude.{option_map}
use Rattle.wy_facts.specs.Made.{implies}
use Rattle.wy_search_facts.proofs.AddingLemmas.{some_term}
use Rattle.wy_search_facts.proofs.kinds.kind_said.Goals as goal
use Rattle.wy_term.specs.Nodes.{tree_at}
use Rattle.wy_term.specs.Term.{Term}

pub implies-requires-clause-first : goal.implies-requires-clause-first
implies-requires-clause-first c = let lt = c.requires.term in let le = c.in_ok-says.ensures.stays.grows in omega (arith, lt, le)

pub returns-in_ok-implies-in-Some-clause-value : goal.returns-in_ok-implies-in-Some-clause-value
returns-in_ok-implies-in-Some-clause-value c =
    let mid = tree_at c.what_it_is.new.terms in
    let t = tree_at c.args.terms.now c.args.t in
    ap some_term (c.in_ok-implies-in-Some.ensures.value ∙ ap (λ (u : Term). implies u (mid c.in-Some.says)) (c.in_ok-says.ensures.stays.trees c.args.t c.requires.term))
    ∙ ap (option_map (implies t)) (sym (ap (option_map mid) c.in-Some.is) ∙ c.in_ok-says.ensures.value)

pub returns-in-None-clause-value : goal.returns-in-None-clause-value
returns-in-None-clause-value c =
    let mid = tree_at c.what_it_is.new.terms in
    let t = tree_at c.args.terms.now c.args.t in
    ap (option_map (implies t)) (sym (ap (option_map mid) c.in-None.is) ∙ c.in_ok-says.ensures.value)
