use Rattle.std.proofs.Common.{◌≡◌, ◌∙◌, ℕ, List, [], ap, length, map, rules}
use Rattle.wy_cong.proofs.UnmetLemmas.{shared_in, where_ok}
use Rattle.wy_cong.proofs.unmet.note_each.Goals as goal
use Rattle.wy_cong.specs.Once.{once}
use Rattle.wy_check_splits.specs.wy_check_nodes.Seen.{seen_formula}
use Rattle.wy_search_spec.specs.Splitting.{atoms_in}
use Rattle.wy_term.specs.Nodes.{tree_at}

pub list_atoms-requires-clause-found : goal.list_atoms-requires-clause-found
list_atoms-requires-clause-found c = c.no_atoms-found.ensures.atoms (length c.args.terms.now)

pub list_atoms-requires-2-clause-found : goal.list_atoms-requires-2-clause-found
list_atoms-requires-2-clause-found c = c.no_atoms-also.ensures.atoms (length c.args.terms.now)

pub returns-clause-value : goal.returns-clause-value
returns-clause-value c =
    let at = tree_at c.args.terms.now in
    let one = atoms_in (at c.args.needed.0) in
    let other = atoms_in (at c.args.needed.1) in
    let nothing : c.no_atoms-found.result.list.items ≡ [] = search rules in
    let none : c.no_atoms-also.result.list.items ≡ [] = search rules in
    where_ok c.note_shared.result
    (shared_in at (seen_formula at (c.args.formula, c.args.holds)) (map at c.list_atoms.new.found.list.items) (map at c.list_atoms-2.new.found.list.items) one other c.args.left.now.items c.note_shared.new.left.items
    (c.in_ok-list_atoms.ensures.value ∙ ap (λ (ks : List ℕ). once (map at ks) one) nothing)
    (c.in_ok-list_atoms-2.ensures.value ∙ ap (λ (ks : List ℕ). once (map at ks) other) none)) c.note_shared.ensures.value
