use Rattle.std.proofs.Common.{◌≡◌, ◌≤◌, List, true, map, length, refl, sym, ap₂, subst, rules}
use Rattle.wy_prove_drafts.specs.Draft.{seen_draft}
use Rattle.wy_facts.proofs.StepLemmas.{below_kept, stays_on, stays_same, terms_kept}
use Rattle.wy_prove_drafts.specs.wy_check_spec.judge.Node.{Literal, Node, has_literal}
use Rattle.wy_prove_drafts.specs.wy_check_nodes.Seen.{seen_branch, seen_literal}
use Rattle.wy_prove_drafts.proofs.wy_check_nodes_proofs.SumsBranchLemmas.{branch_stays}
use Rattle.wy_prove_drafts.specs.wy_search_spec.Expansion.{with_instances, with_instances_by}
use Rattle.wy_prove_drafts.proofs.wy_check_splits_proofs.WalkLemmas.{member_below}
use Rattle.wy_term.specs.Condition.{Entry}
use Rattle.wy_term.specs.Nodes.{tree_at}
use Rattle.wy_term.specs.Term.{Term}
use Rattle.wy_prove_drafts.specs.wy_check_spec.valid.Ranges.{of_each}
use Rattle.wy_prove_rounds.specs.Moving.{AllOf, IsInstant}
use Rattle.wy_prove_rounds.proofs.LoopLemmas.{literal_there, loop_begins, loop_ends, loop_goes, moves_at}
use Rattle.wy_prove_rounds.proofs.instances.write_instances.Goals as goal

pub nth_literal-atom-requires-clause-branch : goal.nth_literal-atom-requires-clause-branch
nth_literal-atom-requires-clause-branch c = branch_stays c.args.terms.now c.loop-i.terms c.args.branch.now c.loop-i.invariant.stays c.requires.branch

pub write_instances_by-requires-clause-terms : goal.write_instances_by-requires-clause-terms
write_instances_by-requires-clause-terms c = below_kept c.args.terms.now c.loop-i.terms c.args.all.now c.loop-i.invariant.stays c.requires.terms

pub loop-i-init : goal.loop-i-init
loop-i-init c =
    let old = c.args.terms.now in
    let at = tree_at old in
    let node = seen_branch at c.args.branch.now in
    let ts = map at c.args.all.now in
    record {
      moves = λ types are. loop_begins types node (λ (n : Node) (ls : List Literal). with_instances n ls ts) (λ (n : Node) (l : Literal). with_instances_by n l.holds (of_each l) ts) (λ n. refl) (λ n l ls. refl) (seen_literal at) c.args.branch.now.literals.keys (seen_draft at c.args.draft.now);
      draft = c.requires.draft;
      stays = stays_same old;
    }

pub loop-i-preserved : goal.loop-i-preserved
loop-i-preserved c =
    let old = c.args.terms.now in
    let now = c.loop-i.terms in
    let at = tree_at old in
    let stays = c.loop-i.invariant.stays in
    let keys = c.args.branch.now.literals.keys in
    let i = c.loop-i.i in
    let p = c.nth_literal-atom.result in
    let here = c.nth_literal-atom.ensures.value in
    let node = seen_branch at c.args.branch.now in
    let ts = map at c.args.all.now in
    let atom = stays.trees p.0 (member_below (length old) keys i p here c.requires.branch.literals) in
    let all = terms_kept old now c.args.all.now stays c.requires.terms in
    let first = seen_draft at c.args.draft.now in
    let second = seen_draft (tree_at now) c.loop-i.draft in
    let third = seen_draft (tree_at c.write_instances_by.new.terms) c.write_instances_by.new.draft in
    record {
      moves = λ types are.
          loop_goes types node (λ (n : Node) (ls : List Literal). with_instances n ls ts) (λ (n : Node) (l : Literal). with_instances_by n l.holds (of_each l) ts) (λ n. refl) (λ n l ls. refl) (seen_literal at) keys i p first second third here
          (c.loop-i.invariant.moves types are)
          (moves_at types types node node (tree_at now p.0, map (tree_at now) c.args.all.now) (at p.0, ts) (λ (es : List Entry) (b : Node) (x : Term × List Term) (n : Node). with_instances_by n p.1 (of_each (record { atom = x.0; holds = p.1 })) x.1) second third refl refl (ap₂ (λ (a : Term) (us : List Term). (a, us)) atom all)
          (c.in_ok-write_instances_by.ensures.value types node (subst (λ (a : Term). has_literal node.literals (record { atom = a; holds = p.1 }) ≡ true) (sym atom) (literal_there (seen_literal at) keys i p here)) (subst (AllOf IsInstant) (sym all) are)));
      draft = c.in_ok-write_instances_by.ensures.draft;
      stays = stays_on old now c.write_instances_by.new.terms stays c.in_ok-write_instances_by.ensures.stays;
    }

pub returns-clause-value : goal.returns-clause-value
returns-clause-value c = λ types are.
    let at = tree_at c.args.terms.now in
    let node = seen_branch at c.args.branch.now in
    let ts = map at c.args.all.now in
    let le : length c.args.branch.now.literals.keys ≤ c.loop-i.i = search rules in
    loop_ends types node (λ (n : Node) (ls : List Literal). with_instances n ls ts) (λ (n : Node) (l : Literal). with_instances_by n l.holds (of_each l) ts) (λ n. refl) (λ n l ls. refl) (seen_literal at) c.args.branch.now.literals.keys c.loop-i.i (seen_draft at c.args.draft.now) (seen_draft (tree_at c.loop-i.terms) c.loop-i.draft) le (c.loop-i.invariant.moves types are)
