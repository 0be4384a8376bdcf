use Rattle.std.proofs.Common.{◌≡◌, ◌∙◌, ℕ, List, sym, ap, rules}
use Rattle.wy_check_spec.specs.wy_term.Term.{Of, part, no_parts, denied, all_of, any_of}
use Rattle.wy_check_spec.specs.wy_term.Nodes.{tree_at, parts_at}
use Rattle.wy_check_nodes.specs.Seen.{seen_branch}
use Rattle.wy_check_nodes.proofs.JudgingLemmas.{by_denial, by_all, by_any}
use Rattle.wy_check_nodes.proofs.few.of_few.Goals as goal

pub returns-in-Not : goal.returns-in-Not
returns-in-Not c =
    let at = tree_at c.args.terms.now in
    let ls = (seen_branch at c.args.branch.now).literals in
    let is : at c.args.f ≡ Of denied (part (at c.in-Not.g) no_parts) = search rules in
    by_denial c.denied_atom.result ls (at c.args.f) (at c.in-Not.g) is c.denied_atom.ensures

pub returns-in-And : goal.returns-in-And
returns-in-And c =
    let at = tree_at c.args.terms.now in
    let ls = (seen_branch at c.args.branch.now).literals in
    let is : at c.args.f ≡ Of all_of (parts_at at c.in-And.members.items) = search rules in
    by_all c.all_of_atoms.result ls (at c.args.f) (parts_at at c.deref.result.now) (is ∙ ap (λ (ks : List ℕ). Of all_of (parts_at at ks)) (sym c.deref.ensures.value)) c.all_of_atoms.ensures

pub returns-in-Or : goal.returns-in-Or
returns-in-Or c =
    let at = tree_at c.args.terms.now in
    let ls = (seen_branch at c.args.branch.now).literals in
    let is : at c.args.f ≡ Of any_of (parts_at at c.in-Or.members.items) = search rules in
    by_any c.any_of_atoms.result ls (at c.args.f) (parts_at at c.deref-in-Or.result.now) (is ∙ ap (λ (ks : List ℕ). Of any_of (parts_at at ks)) (sym c.deref-in-Or.ensures.value)) c.any_of_atoms.ensures
