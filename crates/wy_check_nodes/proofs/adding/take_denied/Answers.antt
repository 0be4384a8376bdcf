use Rattle.std.proofs.Common.{◌≡◌, ◌∙◌, ℕ, List, sym, ap, length, false, rules}
use Rattle.wy_check_spec.specs.wy_term.Term.{Of, any_of}
use Rattle.wy_check_spec.specs.wy_term.Nodes.{tree_at, parts_at}
use Rattle.wy_check_nodes.specs.Seen.{seen_branch, AreBelow}
use Rattle.wy_check_nodes.proofs.AddingLemmas as lemmas
use Rattle.wy_check_nodes.proofs.adding.take_denied.Goals as goal

pub returns-in-Or-clause-value : goal.returns-in-Or-clause-value
returns-in-Or-clause-value c =
    let at = tree_at c.args.terms.now in
    let is : at c.args.f ≡ Of any_of (parts_at at c.in-Or.members.items) = search rules in
    lemmas.or_denied_if c.with_members.result (λ ts. ts.items) at (seen_branch at c.args.branch.now) (at c.args.f) c.deref.result.now c.args.tasks.items (is ∙ ap (λ (ks : List ℕ). Of any_of (parts_at at ks)) (sym c.deref.ensures.value)) c.with_members.ensures

pub returns-in-Or-clause-tasks : goal.returns-in-Or-clause-tasks
returns-in-Or-clause-tasks c =
    let low : AreBelow c.args.f c.deref.result.now = search rules in
    lemmas.over_tasks_if c.with_members.result (λ ts. ts.items) (length c.args.terms.now) false c.deref.result.now c.args.tasks.items (lemmas.below_parts c.args.f (length c.args.terms.now) c.deref.result.now c.requires.formula low) c.requires.tasks c.with_members.ensures
