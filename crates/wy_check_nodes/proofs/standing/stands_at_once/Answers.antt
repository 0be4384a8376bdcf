use Rattle.std.proofs.Common.{◌≡◌, ◌∙◌, ℕ, List, true, false, ap, sym, rules}
use Rattle.wy_check_spec.specs.wy_term.Term.{Of, all_of, any_of}
use Rattle.wy_check_spec.specs.wy_term.Nodes.{tree_at, parts_at}
use Rattle.wy_check_nodes.specs.Seen.{seen_branch}
use Rattle.wy_check_nodes.proofs.StandingLemmas.{and_stands, or_stands}
use Rattle.wy_check_nodes.proofs.standing.stands_at_once.Goals as goal

pub returns-in-Or-true : goal.returns-in-Or-true
returns-in-Or-true c =
    let at = tree_at c.args.terms.now in
    let is : at c.args.f ≡ Of any_of (parts_at at c.in-Or-true.members.items) = search rules in
    let up : c.args.holds ≡ true = search rules in
    λ yes. or_stands (seen_branch at c.args.branch.now).literals (at c.args.f) (parts_at at c.deref.result.now) c.args.holds (is ∙ ap (λ (ks : List ℕ). Of any_of (parts_at at ks)) (sym c.deref.ensures.value)) up (c.any_stands.ensures yes)

pub returns-in-And-false : goal.returns-in-And-false
returns-in-And-false c =
    let at = tree_at c.args.terms.now in
    let is : at c.args.f ≡ Of all_of (parts_at at c.in-And-false.members.items) = search rules in
    let un : c.args.holds ≡ false = search rules in
    λ yes. and_stands (seen_branch at c.args.branch.now).literals (at c.args.f) (parts_at at c.deref-in-And-false.result.now) c.args.holds (is ∙ ap (λ (ks : List ℕ). Of all_of (parts_at at ks)) (sym c.deref-in-And-false.ensures.value)) un (c.any_stands-in-And-false.ensures yes)
