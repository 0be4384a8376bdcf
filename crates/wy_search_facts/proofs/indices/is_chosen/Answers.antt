use Rattle.std.proofs.Common.{◌≡◌, true, false, nat_eq, length, map, rules}
use Rattle.std.specs.HashSet.{contains}
use Rattle.wy_search_facts.proofs.IndexLemmas.{not_chosen, un_noted}
use Rattle.wy_search_facts.proofs.indices.is_chosen.Goals as goal
use Rattle.wy_cong.specs.wy_check_spec.judge.Node.{has_formula}
use Rattle.wy_check_nodes.specs.Seen.{seen_branch}
use Rattle.wy_cong.specs.wy_search_spec.Expansion.{everything}
use Rattle.wy_term.specs.Nodes.{tree_at}
use Rattle.wy_cong.specs.wy_check_spec.valid.Ranges.{is_int}

pub returns-then-not-contains : goal.returns-then-not-contains
returns-then-not-contains c =
    let at = tree_at c.args.terms.now in
    let ss = everything (seen_branch at c.args.branch.now) in
    let int : is_int (at c.args.t) ≡ true = search rules in
    let un : has_formula (map at c.args.names.now) (at c.args.t) ≡ false = search rules in
    let none : contains nat_eq c.args.noted.now c.args.t ≡ false = search rules in
    not_chosen (at c.args.t) ss (map at c.args.names.now) int un (un_noted at (length c.args.terms.now) c.args.t (contains nat_eq c.args.noted.now) ss c.requires.term none c.requires.noted)
