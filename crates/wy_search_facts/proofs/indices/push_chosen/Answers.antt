use Rattle.std.proofs.Common.{◌≡◌, ◌∙◌, [], ◌∷◌, ◌++◌, List, Bool, true, false, cond, map, ap, rules, sym}
use Rattle.std.proofs.lemmas.List.{append-nil}
use Rattle.wy_search_facts.proofs.IndexLemmas.{not_pushed, pushed_one, denial_one}
use Rattle.wy_search_facts.proofs.indices.push_chosen.Goals as goal
use Rattle.wy_search_facts.specs.Indices.{chosen_by}
use Rattle.wy_check_nodes.specs.Seen.{seen_branch}
use Rattle.wy_cong.specs.wy_search_spec.Expansion.{everything}
use Rattle.wy_term.specs.Nodes.{tree_at}

pub returns-then-not-holds-clause-value : goal.returns-then-not-holds-clause-value
returns-then-not-holds-clause-value c =
    let at = tree_at c.args.terms.now in
    let un : c.args.holds ≡ false = search rules in
    denial_one (at c.args.t) c.args.holds (map at c.args.made.now.items) _ un

pub returns-then-not-branch-clause-value : goal.returns-then-not-branch-clause-value
returns-then-not-branch-clause-value c =
    let at = tree_at c.args.terms.now in
    let up : c.args.holds ≡ true = search rules in
    let un : c.in_ok-is_chosen.field-0 ≡ false = search rules in
    not_pushed (at c.args.t) c.args.holds (everything (seen_branch at c.args.branch.now)) (map at c.args.names.now) (map at c.args.made.now.items) up (sym c.in_ok-is_chosen.ensures ∙ un)

pub returns-clause-value : goal.returns-clause-value
returns-clause-value c =
    let at = tree_at c.args.terms.now in
    let up : c.args.holds ≡ true = search rules in
    let yes : c.in_ok-is_chosen.field-0 ≡ true = search rules in
    pushed_one at c.args.t c.args.holds (everything (seen_branch at c.args.branch.now)) (map at c.args.names.now) c.args.made.now.items c.push.new.self.items up (sym c.in_ok-is_chosen.ensures ∙ yes) c.in_ok-push.ensures.items
