use Rattle.std.proofs.Common.{◌≡◌, ◌∙◌, None, Some, ap, option_map, rules, sym}
use Rattle.std.proofs.lemmas.Result.{IfOk-weaker}
use Rattle.wy_search_spec.specs.wy_check_spec.judge.Node.{Node}
use Rattle.wy_check_splits.specs.wy_check_nodes.Seen.{seen_branch}
use Rattle.wy_search_spec.specs.Splitting.{atoms_of, first_forced, first_open}
use Rattle.wy_cong.proofs.DecidingLemmas.{seen_same}
use Rattle.wy_cong.proofs.FirstLemmas.{by_force, by_turn}
use Rattle.wy_cong.proofs.choice.next_atom.Goals as goal
use Rattle.wy_term.specs.Nodes.{tree_at}

pub returns-in-Some-clause-value : goal.returns-in-Some-clause-value
returns-in-Some-clause-value c =
    let at = tree_at c.args.terms.now in
    let node = seen_branch at c.args.branch.now in
    let is : option_map at c.in_ok-a.field-0 ≡ Some (at c.in-Some.a) = search rules in
    by_force node (at c.in-Some.a) (sym is ∙ c.in_ok-a.ensures.value)

pub returns-clause-value : goal.returns-clause-value
returns-clause-value c =
    let at = tree_at c.args.terms.now in
    let node = seen_branch at c.args.branch.now in
    let nothing : option_map at c.in_ok-a.field-0 ≡ None = search rules in
    let none : None ≡ first_forced node (atoms_of node.pending) = sym nothing ∙ c.in_ok-a.ensures.value in
    let same : seen_branch at c.forced_atom.new.branch ≡ node = seen_same at c.args.branch.now c.forced_atom.new.branch c.in_ok-a.ensures.same in
    IfOk-weaker c.first_open.result _ _ (λ o is. by_turn node (option_map at o) none (is ∙ ap (λ (m : Node). first_open m m.pending) same)) c.first_open.ensures.value
