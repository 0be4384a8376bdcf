use Rattle.std.proofs.Common.{◌≤◌, ◌∙◌, ◌++◌, ◌∷◌, [], ℕ, List, Bool, length, ap, rules}
use Rattle.wy_search_facts.proofs.CopyLemmas.{take_more, taken_all}
use Rattle.wy_search_facts.proofs.spot.literals_of.Goals as goal

pub loop-i-preserved : goal.loop-i-preserved
loop-i-preserved c =
    c.in_ok-push.ensures.items
    ∙ ap (λ (qs : List (ℕ × Bool)). qs ++ c.nth_literal.result ∷ []) c.loop-i.invariant
    ∙ take_more c.args.branch.now.literals.keys c.loop-i.i c.nth_literal.result c.nth_literal.ensures.value

pub returns : goal.returns
returns c =
    let le : length c.args.branch.now.literals.keys ≤ c.loop-i.i = search rules in
    c.loop-i.invariant ∙ taken_all c.args.branch.now.literals.keys c.loop-i.i le
