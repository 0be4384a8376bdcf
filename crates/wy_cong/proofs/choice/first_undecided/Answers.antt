use Rattle.std.proofs.Common.{◌≡◌, ◌∙◌, ℕ, List, [], ap, length, map, rules}
use Rattle.wy_check_splits.specs.wy_check_nodes.Seen.{seen_branch}
use Rattle.wy_search_spec.specs.Splitting.{atoms_in}
use Rattle.wy_cong.proofs.FirstLemmas.{once_undecided}
use Rattle.wy_cong.proofs.choice.first_undecided.Goals as goal
use Rattle.wy_cong.specs.Once.{first_by, once, undecided}
use Rattle.wy_term.specs.Nodes.{tree_at}

pub list_atoms-requires-clause-found : goal.list_atoms-requires-clause-found
list_atoms-requires-clause-found c = c.no_atoms-found.ensures.atoms (length c.args.terms.now)

pub returns-clause-value : goal.returns-clause-value
returns-clause-value c =
    let at = tree_at c.args.terms.now in
    let node = seen_branch at c.args.branch.now in
    let nothing : c.no_atoms-found.result.list.items ≡ [] = search rules in
    c.undecided_in.ensures.value
    ∙ ap (first_by (undecided node)) (c.in_ok-list_atoms.ensures.value ∙ ap (λ (ks : List ℕ). once (map at ks) (atoms_in (at c.args.f))) nothing)
    ∙ once_undecided node (atoms_in (at c.args.f))
