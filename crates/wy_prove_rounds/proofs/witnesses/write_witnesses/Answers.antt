use Rattle.std.proofs.Common.{◌≡◌, ◌∙◌, ◌≤◌, List, true, map, take, length, sym, ap, subst, rules}
use Rattle.wy_prove_drafts.specs.Draft.{seen_draft}
use Rattle.wy_facts.proofs.StepLemmas.{stays_on, stays_same}
use Rattle.wy_prove_drafts.specs.wy_check_spec.judge.Node.{Literal, Node, has_literal}
use Rattle.wy_prove_drafts.specs.wy_check_nodes.Seen.{seen_literal}
use Rattle.wy_prove_drafts.proofs.wy_check_nodes_proofs.SumsBranchLemmas.{branch_stays}
use Rattle.wy_prove_drafts.specs.wy_search_spec.Expansion.{Spot, with_witness, with_witnesses}
use Rattle.wy_search.proofs.SpotLemmas.{copy_over, same_node}
use Rattle.wy_prove_drafts.proofs.wy_check_splits_proofs.WalkLemmas.{member_below}
use Rattle.wy_search.specs.wy_search_facts.Seen.{seen_spot}
use Rattle.wy_term.specs.Nodes.{tree_at}
use Rattle.wy_term.specs.Term.{Term}
use Rattle.wy_prove_drafts.specs.wy_check_spec.valid.Ranges.{of_one}
use Rattle.wy_prove_rounds.specs.Moving.{Follows}
use Rattle.wy_prove_rounds.proofs.LoopLemmas.{all_so_far, literal_there}
use Rattle.wy_prove_rounds.proofs.MovingLemmas.{follows_on, follows_self}
use Rattle.wy_prove_rounds.proofs.RangeMoves.{witnesses_more}
use Rattle.wy_prove_rounds.proofs.witnesses.write_witnesses.Goals as goal

pub nth_literal-atom-requires-clause-branch : goal.nth_literal-atom-requires-clause-branch
nth_literal-atom-requires-clause-branch c = branch_stays c.args.terms.now c.loop-i.terms c.args.spot.now.branch c.loop-i.invariant.stays c.requires.spot.branch

pub loop-i-init : goal.loop-i-init
loop-i-init c =
    let old = c.args.terms.now in
    let at = tree_at old in
    let had = c.in_ok-had.had in
    record {
      follows = λ types along. follows_self types (seen_spot at c.args.spot.now).node (seen_spot at c.args.spot.now).node (seen_draft at c.args.draft.now) along;
      noted = sym (ap (λ (n : Node). n.literals) (same_node at c.args.spot.now.had had c.in_ok-had.ensures.literals c.in_ok-had.ensures.pending));
      had = copy_over old c.args.spot.now.had had c.in_ok-had.ensures.literals c.in_ok-had.ensures.pending c.requires.spot.had;
      draft = c.requires.draft;
      stays = stays_same old;
    }

pub loop-i-preserved : goal.loop-i-preserved
loop-i-preserved c =
    let old = c.args.terms.now in
    let now = c.loop-i.terms in
    let at = tree_at old in
    let stays = c.loop-i.invariant.stays in
    let keys = c.args.spot.now.branch.literals.keys in
    let i = c.loop-i.i in
    let q = c.nth_literal-atom.result in
    let here = c.nth_literal-atom.ensures.value in
    let p = seen_spot at c.args.spot.now in
    let done = with_witnesses p (map (seen_literal at) (take i keys)) in
    let atom = stays.trees q.0 (member_below (length old) keys i q here c.requires.spot.branch.literals) in
    let first = seen_draft at c.args.draft.now in
    let second = seen_draft (tree_at now) c.loop-i.draft in
    let third = seen_draft (tree_at c.write_new_witness.new.terms) c.write_new_witness.new.draft in
    let more = witnesses_more at keys i q p here in
    record {
      follows = λ types along.
          let one = c.loop-i.invariant.follows types along in
          subst (λ (s : Spot). Follows types p.node s.node first third) (sym more)
          (follows_on types p.node done.node (with_witness done (seen_literal at q) (of_one (seen_literal at q))).node first second third one
          (subst (λ (a : Term). Follows types p.node (with_witness done (record { atom = a; holds = q.1 }) (of_one (record { atom = a; holds = q.1 }))).node second third) atom
          (c.in_ok-write_new_witness.ensures.value types p.node done c.loop-i.invariant.noted (subst (λ (a : Term). has_literal p.node.literals (record { atom = a; holds = q.1 }) ≡ true) (sym atom) (literal_there (seen_literal at) keys i q here)) one.along)));
      noted =
          ap (λ (s : Spot). s.had) more
          ∙ (ap (λ (a : Term). (with_witness done (record { atom = a; holds = q.1 }) (of_one (record { atom = a; holds = q.1 }))).had) (sym atom)
          ∙ c.in_ok-write_new_witness.ensures.noted done c.loop-i.invariant.noted);
      had = c.in_ok-write_new_witness.ensures.had;
      draft = c.in_ok-write_new_witness.ensures.draft;
      stays = stays_on old now c.write_new_witness.new.terms stays c.in_ok-write_new_witness.ensures.stays;
    }

pub returns-clause-value : goal.returns-clause-value
returns-clause-value c = λ types along.
    let at = tree_at c.args.terms.now in
    let p = seen_spot at c.args.spot.now in
    let le : length c.args.spot.now.branch.literals.keys ≤ c.loop-i.i = search rules in
    subst (λ (ls : List Literal). Follows types p.node (with_witnesses p ls).node (seen_draft at c.args.draft.now) (seen_draft (tree_at c.loop-i.terms) c.loop-i.draft)) (all_so_far (seen_literal at) c.args.spot.now.branch.literals.keys c.loop-i.i le) (c.loop-i.invariant.follows types along)
