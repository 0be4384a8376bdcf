use Rattle.std.proofs.Common.{◌≡◌, ◌∙◌, ◌≤◌, ◌<◌, true, false, length, arith, None, Some, rules, sym}
use Rattle.wy_cong.proofs.NearestLemmas.{nearer_later, nearer_not, nearer_now, nearer_nowhere}
use Rattle.wy_cong.proofs.choice.nearer.Goals as goal
use Rattle.wy_check_splits.proofs.wy_check_nodes_proofs.NameLemmas.{NamesOnce, names_once}
use Rattle.wy_check_splits.specs.wy_check_nodes.Seen.{seen_branch}
use Rattle.wy_term.specs.Nodes.{tree_at}

pub returns-in_default-clause-value : goal.returns-in_default-clause-value
returns-in_default-clause-value c =
    let at = tree_at c.args.terms.now in
    let n = length c.args.terms.now in
    let once : NamesOnce at n = names_once at n (λ s t ls lt e. (c.one_number_for_each_term.ensures.one s t ls lt).1 e) in
    let none : c.place_of_atom.result ≡ None = search rules in
    nearer_nowhere at n once (seen_branch at c.args.branch.now) c.args.unmet c.requires.within.by c.args.found.now.list.items c.requires.found.below c.args.place (sym c.place_of_atom.ensures ∙ none)

pub returns-then-i-place-clause-value : goal.returns-then-i-place-clause-value
returns-then-i-place-clause-value c =
    let at = tree_at c.args.terms.now in
    let n = length c.args.terms.now in
    let once : NamesOnce at n = names_once at n (λ s t ls lt e. (c.one_number_for_each_term.ensures.one s t ls lt).1 e) in
    let some : c.place_of_atom.result ≡ Some c.in-Some.i = search rules in
    let le : c.args.place ≤ c.in-Some.i = omega (arith, c.if-i-place.true) in
    nearer_later at n once (seen_branch at c.args.branch.now) c.args.unmet c.requires.within.by c.args.found.now.list.items c.requires.found.below c.args.place c.in-Some.i (sym c.place_of_atom.ensures ∙ some) le

pub returns-then-branch-clause-value : goal.returns-then-branch-clause-value
returns-then-branch-clause-value c =
    let at = tree_at c.args.terms.now in
    let n = length c.args.terms.now in
    let once : NamesOnce at n = names_once at n (λ s t ls lt e. (c.one_number_for_each_term.ensures.one s t ls lt).1 e) in
    let some : c.place_of_atom.result ≡ Some c.in-Some.i = search rules in
    let lt : c.in-Some.i < c.args.place = omega (arith, c.if-i-place.false) in
    let up : c.in_ok-is_forcing.field-0 ≡ true = search rules in
    nearer_now at n once (seen_branch at c.args.branch.now) c.args.unmet c.requires.within.by c.args.found.now.list.items c.requires.found.below c.args.place c.in-Some.i (sym c.place_of_atom.ensures ∙ some) lt (sym c.in_ok-is_forcing.ensures.value ∙ up)

pub returns-clause-value : goal.returns-clause-value
returns-clause-value c =
    let at = tree_at c.args.terms.now in
    let n = length c.args.terms.now in
    let once : NamesOnce at n = names_once at n (λ s t ls lt e. (c.one_number_for_each_term.ensures.one s t ls lt).1 e) in
    let un : c.in_ok-is_forcing.field-0 ≡ false = search rules in
    nearer_not at n once (seen_branch at c.args.branch.now) c.args.unmet c.requires.within.by c.args.found.now.list.items c.requires.found.below c.args.place (sym c.in_ok-is_forcing.ensures.value ∙ un)
