use Rattle.std.proofs.Common.{◌≡◌, ◌≤◌, ◌+◌, [], length, false, true, Some, None, arith, rules}
use Rattle.std.proofs.lemmas.List.{length-map}
use Rattle.wy_term.specs.Nodes.{tree_at}
use Rattle.wy_prove_drafts.specs.wy_check_nodes.Seen.{seen_literal}
use Rattle.wy_cert.specs.Steps.{clash}
use Rattle.wy_prove_drafts.specs.wy_check_spec.valid.Validity.{is_clash}
use Rattle.wy_prove_drafts.specs.Draft.{seen_draft}
use Rattle.wy_prove_leaves.proofs.linked_lemmas.ClashLemmas.{none_alone}
use Rattle.wy_prove_leaves.proofs.linked_lemmas.EndedLemmas.{ends_from, no_clash_from, tried_next}
use Rattle.wy_prove_leaves.proofs.linked.clashing.close_by_one.Goals as goal

pub returns-then-branch-clause-value : goal.returns-then-branch-clause-value
returns-then-branch-clause-value c = λ types.
    let at = tree_at c.args.terms.now in
    let up : c.in_ok-close_by_clash.field-0 ≡ true = search rules in
    ends_from types (clash (c.loop-i.i + 1) None) (seen_draft at c.args.draft.now) (seen_draft at c.loop-i.draft) (seen_draft at c.close_by_clash.new.draft) c.in_ok-close_by_clash.field-0 tt c.loop-i.invariant.same up (c.in_ok-close_by_clash.ensures.value types)

pub loop-i-preserved : goal.loop-i-preserved
loop-i-preserved c =
    let at = tree_at c.args.terms.now in
    let first = seen_draft at c.args.draft.now in
    let un : c.in_ok-close_by_clash.field-0 ≡ false = search rules in
    let h = no_clash_from [] (c.loop-i.i + 1) None first (seen_draft at c.loop-i.draft) (seen_draft at c.close_by_clash.new.draft) c.in_ok-close_by_clash.field-0 c.loop-i.invariant.same un (c.in_ok-close_by_clash.ensures.value []) in
    record {
      draft = c.in_ok-close_by_clash.ensures.draft;
      same = h.0;
      tried = tried_next (λ n. is_clash first.node.literals n None ≡ Some true → ⊥) c.loop-i.i c.loop-i.invariant.tried h.1;
    }

pub returns-clause-value : goal.returns-clause-value
returns-clause-value c = λ types.
    let at = tree_at c.args.terms.now in
    let keys = c.args.draft.now.branch.literals.keys in
    let le : length (seen_draft at c.args.draft.now).node.literals ≤ c.loop-i.i = omega (arith, length-map keys (seen_literal at), c.in_ok-count.ensures) in
    (c.loop-i.invariant.same, none_alone (seen_draft at c.args.draft.now).node.literals c.loop-i.i le c.loop-i.invariant.tried)
