use Rattle.std.proofs.Common.{◌≡◌, ◌∙◌, ℕ, List, sym, ap, length, true, rules}
use Rattle.wy_check_spec.specs.wy_term.Term.{Of, part, no_parts, denied, all_of}
use Rattle.wy_check_spec.specs.wy_term.Nodes.{tree_at, parts_at}
use Rattle.wy_check_nodes.specs.Seen.{seen_branch, AreBelow}
use Rattle.wy_check_nodes.proofs.AddingLemmas as lemmas
use Rattle.wy_check_nodes.proofs.adding.take_true.Goals as goal

pub returns-in-And-clause-value : goal.returns-in-And-clause-value
returns-in-And-clause-value c =
    let at = tree_at c.args.terms.now in
    let is : at c.args.f ≡ Of all_of (parts_at at c.in-And.members.items) = search rules in
    lemmas.and_taken_if c.with_members.result (λ ts. ts.items) at (seen_branch at c.args.branch.now) (at c.args.f) c.deref.result.now c.args.tasks.items (is ∙ ap (λ (ks : List ℕ). Of all_of (parts_at at ks)) (sym c.deref.ensures.value)) c.with_members.ensures

pub returns-in-And-clause-tasks : goal.returns-in-And-clause-tasks
returns-in-And-clause-tasks c =
    let low : AreBelow c.args.f c.deref.result.now = search rules in
    lemmas.over_tasks_if c.with_members.result (λ ts. ts.items) (length c.args.terms.now) true c.deref.result.now c.args.tasks.items (lemmas.below_parts c.args.f (length c.args.terms.now) c.deref.result.now c.requires.formula low) c.requires.tasks c.with_members.ensures

pub returns-in-Not-clause-value : goal.returns-in-Not-clause-value
returns-in-Not-clause-value c =
    let at = tree_at c.args.terms.now in
    let is : at c.args.f ≡ Of denied (part (at c.in-Not.g) no_parts) = search rules in
    lemmas.denied_taken_if c.take_denied.result (λ ts. ts.items) at (seen_branch at c.args.branch.now) (seen_branch at c.take_denied.new.branch) (at c.args.f) c.in-Not.g c.args.tasks.items is c.take_denied.ensures.value
