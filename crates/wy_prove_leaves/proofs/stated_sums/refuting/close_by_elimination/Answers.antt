use Rattle.std.proofs.Common.{◌+◌, ◌<◌, ◌≤◌, List, drop, length, refl, subst, arith}
use Rattle.std.proofs.lemmas.List.{drop_all, length-map}
use Rattle.std.proofs.lemmas.Result.{IfOk-weaker}
use Rattle.wy_term.specs.Nodes.{tree_at}
use Rattle.wy_prove_drafts.specs.wy_check_spec.judge.Node.{Literal, Node}
use Rattle.wy_prove_drafts.specs.wy_check_nodes.Seen.{seen_branch, seen_literal}
use Rattle.wy_facts.proofs.StepLemmas.{stays_on}
use Rattle.wy_prove_drafts.proofs.wy_check_nodes_proofs.SumsBranchLemmas.{branch_stays, node_stays}
use Rattle.wy_prove_drafts.specs.Draft.{seen_draft}
use Rattle.wy_prove_drafts.specs.Progress.{Progress}
use Rattle.wy_prove_leaves.specs.declared.stated_sums.stated.Turn.{Turn}
use Rattle.wy_prove_leaves.proofs.stated_sums_lemmas.ClassedLemmas.{classed_stays}
use Rattle.wy_prove_leaves.proofs.stated_sums_lemmas.LeftLemmas.{IsUpTo, up_to_none, up_to_all, ends_or_goes, TakesOne, TurnsOn, turn_taken}
use Rattle.wy_prove_leaves.proofs.stated_sums.refuting.close_by_elimination.Goals as goal

pub loop-i-init : goal.loop-i-init
loop-i-init c = record {
  up_to = λ types is_base joined.
      let base : Node = seen_branch (tree_at c.args.terms.now) c.args.base.now in
      let before : Progress = seen_draft (tree_at c.args.terms.now) c.args.draft.now in
      up_to_none types base before c.nothing_stated-stated.result (record { given = is_base; joined = joined }) (c.nothing_stated-stated.ensures base before.node.literals);
  classed = c.in_ok-classed.ensures.value;
  draft = c.requires.draft;
  stays = record { grows = omega arith; trees = λ t lt. refl };
}

pub take_literal-requires-clause-base : goal.take_literal-requires-clause-base
take_literal-requires-clause-base c = branch_stays c.args.terms.now c.loop-i.terms c.args.base.now c.loop-i.invariant.stays c.requires.base

pub returns-in-Closes-clause-value : goal.returns-in-Closes-clause-value
returns-in-Closes-clause-value c = λ types is_base joined.
    let old = c.args.terms.now in
    let base : Node = seen_branch (tree_at old) c.args.base.now in
    let before : Progress = seen_draft (tree_at old) c.args.draft.now in
    let now : Progress = seen_draft (tree_at c.loop-i.terms) c.loop-i.draft in
    let behind : Progress = seen_draft (tree_at c.take_literal.new.terms) c.take_literal.new.draft in
    let s = c.loop-i.stated in
    let t = c.take_literal.new.stated in
    let takes = subst (λ (n : Node). TakesOne types c.loop-i.terms c.in_ok-classed.classed now behind c.loop-i.i s t c.in_ok-take_literal.field-0 n) (node_stays old c.loop-i.terms c.args.base.now c.loop-i.invariant.stays c.requires.base)
    (λ l rs. c.in_ok-take_literal.ensures.value types l rs) in
    let long = length-map c.args.base.now.literals.keys (seen_literal (tree_at old)) in
    let lt : c.loop-i.i < length base.literals = omega (arith, long, c.len-i-end.ensures.len) in
    let turned = turn_taken types c.loop-i.terms c.in_ok-classed.classed base before now behind c.loop-i.i s t c.in_ok-take_literal.field-0 lt c.loop-i.invariant.classed (c.loop-i.invariant.up_to types is_base joined) takes in
    subst (λ (x : Turn). TurnsOn types base before behind t (drop (c.loop-i.i + 1) base.literals) x) c.in-Closes.is turned

pub returns-in-Lacks-clause-value : goal.returns-in-Lacks-clause-value
returns-in-Lacks-clause-value c = λ types is_base joined. absurd (
    let old = c.args.terms.now in
    let base : Node = seen_branch (tree_at old) c.args.base.now in
    let before : Progress = seen_draft (tree_at old) c.args.draft.now in
    let now : Progress = seen_draft (tree_at c.loop-i.terms) c.loop-i.draft in
    let behind : Progress = seen_draft (tree_at c.take_literal.new.terms) c.take_literal.new.draft in
    let s = c.loop-i.stated in
    let t = c.take_literal.new.stated in
    let takes = subst (λ (n : Node). TakesOne types c.loop-i.terms c.in_ok-classed.classed now behind c.loop-i.i s t c.in_ok-take_literal.field-0 n) (node_stays old c.loop-i.terms c.args.base.now c.loop-i.invariant.stays c.requires.base)
    (λ l rs. c.in_ok-take_literal.ensures.value types l rs) in
    let long = length-map c.args.base.now.literals.keys (seen_literal (tree_at old)) in
    let lt : c.loop-i.i < length base.literals = omega (arith, long, c.len-i-end.ensures.len) in
    let turned = turn_taken types c.loop-i.terms c.in_ok-classed.classed base before now behind c.loop-i.i s t c.in_ok-take_literal.field-0 lt c.loop-i.invariant.classed (c.loop-i.invariant.up_to types is_base joined) takes in
    subst (λ (x : Turn). TurnsOn types base before behind t (drop (c.loop-i.i + 1) base.literals) x) c.in-Lacks.is turned)

pub loop-i-preserved : goal.loop-i-preserved
loop-i-preserved c = record {
  up_to = λ types is_base joined.
      let old = c.args.terms.now in
      let base : Node = seen_branch (tree_at old) c.args.base.now in
      let before : Progress = seen_draft (tree_at old) c.args.draft.now in
      let now : Progress = seen_draft (tree_at c.loop-i.terms) c.loop-i.draft in
      let behind : Progress = seen_draft (tree_at c.take_literal.new.terms) c.take_literal.new.draft in
      let s = c.loop-i.stated in
      let t = c.take_literal.new.stated in
      let takes = subst (λ (n : Node). TakesOne types c.loop-i.terms c.in_ok-classed.classed now behind c.loop-i.i s t c.in_ok-take_literal.field-0 n) (node_stays old c.loop-i.terms c.args.base.now c.loop-i.invariant.stays c.requires.base)
      (λ l rs. c.in_ok-take_literal.ensures.value types l rs) in
      let long = length-map c.args.base.now.literals.keys (seen_literal (tree_at old)) in
      let lt : c.loop-i.i < length base.literals = omega (arith, long, c.len-i-end.ensures.len) in
      let turned = turn_taken types c.loop-i.terms c.in_ok-classed.classed base before now behind c.loop-i.i s t c.in_ok-take_literal.field-0 lt c.loop-i.invariant.classed (c.loop-i.invariant.up_to types is_base joined) takes in
      subst (λ (x : Turn). TurnsOn types base before behind t (drop (c.loop-i.i + 1) base.literals) x) c.in-GoesOn.is turned;
  classed = classed_stays c.loop-i.terms c.take_literal.new.terms (seen_branch (tree_at c.args.terms.now) c.args.base.now) c.in_ok-classed.classed c.in_ok-take_literal.ensures.stays c.loop-i.invariant.classed;
  draft = c.in_ok-take_literal.ensures.draft;
  stays = stays_on c.args.terms.now c.loop-i.terms c.take_literal.new.terms c.loop-i.invariant.stays c.in_ok-take_literal.ensures.stays;
}

pub returns-clause-value : goal.returns-clause-value
returns-clause-value c = λ types is_base joined.
    let old = c.args.terms.now in
    let base : Node = seen_branch (tree_at old) c.args.base.now in
    let before : Progress = seen_draft (tree_at old) c.args.draft.now in
    let now : Progress = seen_draft (tree_at c.loop-i.terms) c.loop-i.draft in
    let behind : Progress = seen_draft (tree_at c.close_by_forms.new.terms) c.close_by_forms.new.draft in
    let s = c.loop-i.stated in
    let long = length-map c.args.base.now.literals.keys (seen_literal (tree_at old)) in
    let le : length base.literals ≤ c.loop-i.i = omega (arith, long, c.len-i-end.ensures.len) in
    let h = subst (λ (ls : List Literal). IsUpTo types base before now s ls) (drop_all c.loop-i.i base.literals le) (c.loop-i.invariant.up_to types is_base joined) in
    IfOk-weaker c.close_by_forms.result _ _ (λ wrote g. ends_or_goes types base before now behind wrote h.grows.goes g)
    (c.close_by_forms.ensures.value types base h.linked (up_to_all types base before now s h))
