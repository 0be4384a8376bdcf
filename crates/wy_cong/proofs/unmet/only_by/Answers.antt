use Rattle.std.proofs.Common.{◌≡◌, ◌∙◌, ℕ, List, true, false, ap, sym, rules}
use Rattle.wy_cong.proofs.MoreLemmas.{and_safe_but, or_safe_but}
use Rattle.wy_cong.proofs.unmet.only_by.Goals as goal
use Rattle.wy_check_splits.specs.wy_check_nodes.Seen.{seen_branch}
use Rattle.wy_term.specs.Nodes.{parts_at, tree_at}
use Rattle.wy_term.specs.Term.{Of, all_of, any_of}

pub returns-in-Or-true-clause-value : goal.returns-in-Or-true-clause-value
returns-in-Or-true-clause-value c =
    let at = tree_at c.args.terms.now in
    let is : at c.args.f ≡ Of any_of (parts_at at c.in-Or-true.members.items) = search rules in
    let up : c.args.holds ≡ true = search rules in
    or_safe_but at (seen_branch at c.args.branch.now).literals (at c.args.f) c.args.holds (parts_at at c.deref.result.now) c.open_among.result (is ∙ ap (λ (ks : List ℕ). Of any_of (parts_at at ks)) (sym c.deref.ensures.value)) up c.open_among.ensures.open

pub returns-in-And-false-clause-value : goal.returns-in-And-false-clause-value
returns-in-And-false-clause-value c =
    let at = tree_at c.args.terms.now in
    let is : at c.args.f ≡ Of all_of (parts_at at c.in-And-false.members.items) = search rules in
    let un : c.args.holds ≡ false = search rules in
    and_safe_but at (seen_branch at c.args.branch.now).literals (at c.args.f) c.args.holds (parts_at at c.deref-in-And-false.result.now) c.open_among-in-And-false.result (is ∙ ap (λ (ks : List ℕ). Of all_of (parts_at at ks)) (sym c.deref-in-And-false.ensures.value)) un c.open_among-in-And-false.ensures.open
