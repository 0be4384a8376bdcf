use Rattle.std.proofs.Common.{◌≡◌, ◌∙◌, ℕ, List, map, sym, ap, rules}
use Rattle.wy_cong.proofs.AtomLemmas.{and_taken, not_taken, or_taken}
use Rattle.wy_cong.proofs.atoms.take.Goals as goal
use Rattle.wy_term.specs.Nodes.{parts_at, tree_at}
use Rattle.wy_term.specs.Term.{Of, part, no_parts, denied, all_of, any_of}

pub returns-in-And-clause-value : goal.returns-in-And-clause-value
returns-in-And-clause-value c =
    let at = tree_at c.args.terms.now in
    let is : at c.args.f ≡ Of all_of (parts_at at c.in-And.members.items) = search rules in
    and_taken c.with_members.result (λ ts. ts.items) at (map at c.args.found.now.list.items) (at c.args.f) c.deref.result.now c.args.tasks.items (is ∙ ap (λ (ks : List ℕ). Of all_of (parts_at at ks)) (sym c.deref.ensures.value)) c.with_members.ensures

pub returns-in-Or-clause-value : goal.returns-in-Or-clause-value
returns-in-Or-clause-value c =
    let at = tree_at c.args.terms.now in
    let is : at c.args.f ≡ Of any_of (parts_at at c.in-Or.members.items) = search rules in
    or_taken c.with_members-in-Or.result (λ ts. ts.items) at (map at c.args.found.now.list.items) (at c.args.f) c.deref-in-Or.result.now c.args.tasks.items (is ∙ ap (λ (ks : List ℕ). Of any_of (parts_at at ks)) (sym c.deref-in-Or.ensures.value)) c.with_members-in-Or.ensures

pub returns-in-Not-clause-value : goal.returns-in-Not-clause-value
returns-in-Not-clause-value c =
    let at = tree_at c.args.terms.now in
    let is : at c.args.f ≡ Of denied (part (at c.in-Not.g) no_parts) = search rules in
    not_taken c.with_task.result (λ ts. ts.items) at (map at c.args.found.now.list.items) (at c.args.f) c.in-Not.g c.args.tasks.items is c.with_task.ensures
