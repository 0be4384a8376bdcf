use Rattle.std.proofs.Common.{◌≡◌, ◌∙◌, ℕ, List, true, false, ap, sym, rules}
use Rattle.std.proofs.lemmas.Result.{IfOk-weaker}
use Rattle.wy_cong.proofs.MoreLemmas.{and_needed, or_needed, self_needed}
use Rattle.wy_cong.proofs.unmet.needed.Goals as goal
use Rattle.wy_check_splits.specs.wy_check_nodes.Seen.{seen_branch}
use Rattle.wy_term.specs.Nodes.{parts_at, tree_at}
use Rattle.wy_term.specs.Term.{Of, all_of, any_of}

pub returns-in-Or-true-clause-one : goal.returns-in-Or-true-clause-one
returns-in-Or-true-clause-one c =
    let at = tree_at c.args.terms.now in
    let is : at c.args.f ≡ Of any_of (parts_at at c.in-Or-true.members.items) = search rules in
    let sign : c.args.holds ≡ true = search rules in
    let whole : at c.args.f ≡ Of any_of (parts_at at c.deref.result.now) = is ∙ ap (λ (ks : List ℕ). Of any_of (parts_at at ks)) (sym c.deref.ensures.value) in
    IfOk-weaker c.open_members.result _ _ (λ r has. or_needed (seen_branch at c.args.branch.now).literals (at c.args.f) c.args.holds (parts_at at c.deref.result.now) (at r.0) whole sign c.requires.standing has) c.open_members.ensures.one

pub returns-in-Or-true-clause-other : goal.returns-in-Or-true-clause-other
returns-in-Or-true-clause-other c =
    let at = tree_at c.args.terms.now in
    let is : at c.args.f ≡ Of any_of (parts_at at c.in-Or-true.members.items) = search rules in
    let sign : c.args.holds ≡ true = search rules in
    let whole : at c.args.f ≡ Of any_of (parts_at at c.deref.result.now) = is ∙ ap (λ (ks : List ℕ). Of any_of (parts_at at ks)) (sym c.deref.ensures.value) in
    IfOk-weaker c.open_members.result _ _ (λ r has. or_needed (seen_branch at c.args.branch.now).literals (at c.args.f) c.args.holds (parts_at at c.deref.result.now) (at r.1) whole sign c.requires.standing has) c.open_members.ensures.other

pub returns-in-And-false-clause-one : goal.returns-in-And-false-clause-one
returns-in-And-false-clause-one c =
    let at = tree_at c.args.terms.now in
    let is : at c.args.f ≡ Of all_of (parts_at at c.in-And-false.members.items) = search rules in
    let sign : c.args.holds ≡ false = search rules in
    let whole : at c.args.f ≡ Of all_of (parts_at at c.deref-in-And-false.result.now) = is ∙ ap (λ (ks : List ℕ). Of all_of (parts_at at ks)) (sym c.deref-in-And-false.ensures.value) in
    IfOk-weaker c.open_members-in-And-false.result _ _ (λ r has. and_needed (seen_branch at c.args.branch.now).literals (at c.args.f) c.args.holds (parts_at at c.deref-in-And-false.result.now) (at r.0) whole sign c.requires.standing has) c.open_members-in-And-false.ensures.one

pub returns-in-And-false-clause-other : goal.returns-in-And-false-clause-other
returns-in-And-false-clause-other c =
    let at = tree_at c.args.terms.now in
    let is : at c.args.f ≡ Of all_of (parts_at at c.in-And-false.members.items) = search rules in
    let sign : c.args.holds ≡ false = search rules in
    let whole : at c.args.f ≡ Of all_of (parts_at at c.deref-in-And-false.result.now) = is ∙ ap (λ (ks : List ℕ). Of all_of (parts_at at ks)) (sym c.deref-in-And-false.ensures.value) in
    IfOk-weaker c.open_members-in-And-false.result _ _ (λ r has. and_needed (seen_branch at c.args.branch.now).literals (at c.args.f) c.args.holds (parts_at at c.deref-in-And-false.result.now) (at r.1) whole sign c.requires.standing has) c.open_members-in-And-false.ensures.other

pub returns-in_default-clause-one : goal.returns-in_default-clause-one
returns-in_default-clause-one c =
    let at = tree_at c.args.terms.now in
    self_needed (seen_branch at c.args.branch.now).literals (at c.args.f) c.args.holds c.requires.standing

pub returns-in_default-clause-other : goal.returns-in_default-clause-other
returns-in_default-clause-other c =
    let at = tree_at c.args.terms.now in
    self_needed (seen_branch at c.args.branch.now).literals (at c.args.f) c.args.holds c.requires.standing

pub returns-in_default-2-clause-one : goal.returns-in_default-2-clause-one
returns-in_default-2-clause-one c =
    let at = tree_at c.args.terms.now in
    self_needed (seen_branch at c.args.branch.now).literals (at c.args.f) c.args.holds c.requires.standing

pub returns-in_default-2-clause-other : goal.returns-in_default-2-clause-other
returns-in_default-2-clause-other c =
    let at = tree_at c.args.terms.now in
    self_needed (seen_branch at c.args.branch.now).literals (at c.args.f) c.args.holds c.requires.standing

pub returns-in_default-3 : goal.returns-in_default-3
returns-in_default-3 c =
    let at = tree_at c.args.terms.now in
    record {
      one = self_needed (seen_branch at c.args.branch.now).literals (at c.args.f) c.args.holds c.requires.standing;
      other = self_needed (seen_branch at c.args.branch.now).literals (at c.args.f) c.args.holds c.requires.standing;
      below = (c.requires.formula, c.requires.formula);
    }
