use Rattle.std.proofs.Common.{◌≡◌, ◌∙◌, ℕ, List, true, false, ap, sym, rules}
use Rattle.wy_cong.proofs.MoreLemmas.{and_safe, or_safe}
use Rattle.wy_cong.proofs.unmet.is_out_of_reach.Goals as goal
use Rattle.wy_check_splits.specs.wy_check_nodes.Seen.{seen_branch}
use Rattle.wy_term.specs.Nodes.{parts_at, tree_at}
use Rattle.wy_term.specs.Term.{Of, all_of, any_of}

pub returns-in-Or-true : goal.returns-in-Or-true
returns-in-Or-true c =
    let at = tree_at c.args.terms.now in
    let is : at c.args.f ≡ Of any_of (parts_at at c.in-Or-true.members.items) = search rules in
    let up : c.args.holds ≡ true = search rules in
    λ e. or_safe (seen_branch at c.args.branch.now).literals (at c.args.f) c.args.holds (parts_at at c.deref.result.now) (is ∙ ap (λ (ks : List ℕ). Of any_of (parts_at at ks)) (sym c.deref.ensures.value)) up (c.has_two_open.ensures e)

pub returns-in-And-false : goal.returns-in-And-false
returns-in-And-false c =
    let at = tree_at c.args.terms.now in
    let is : at c.args.f ≡ Of all_of (parts_at at c.in-And-false.members.items) = search rules in
    let un : c.args.holds ≡ false = search rules in
    λ e. and_safe (seen_branch at c.args.branch.now).literals (at c.args.f) c.args.holds (parts_at at c.deref-in-And-false.result.now) (is ∙ ap (λ (ks : List ℕ). Of all_of (parts_at at ks)) (sym c.deref-in-And-false.ensures.value)) un (c.has_two_open-in-And-false.ensures e)
