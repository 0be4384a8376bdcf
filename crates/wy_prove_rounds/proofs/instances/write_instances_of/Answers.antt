use Rattle.std.proofs.Common.{◌≡◌, ◌≤◌, List, [], ◌∷◌, true, get_or, length, refl, sym, ap₂, subst, rules, arith}
use Rattle.std.proofs.lemmas.Option.{slice_get-get_or}
use Rattle.wy_prove_drafts.specs.Draft.{seen_draft}
use Rattle.wy_facts.proofs.StepLemmas.{stays_on, stays_same}
use Rattle.wy_prove_drafts.specs.wy_check_spec.judge.Node.{Node, has_literal}
use Rattle.wy_prove_drafts.specs.wy_check_nodes.Seen.{seen_literal}
use Rattle.wy_prove_drafts.specs.wy_search_spec.Expansion.{with_instances_by}
use Rattle.wy_term.specs.Condition.{Entry}
use Rattle.wy_term.specs.Nodes.{tree_at}
use Rattle.wy_term.specs.Term.{Term}
use Rattle.wy_prove_drafts.specs.wy_check_spec.valid.Ranges.{of_each}
use Rattle.wy_prove_rounds.specs.Moving.{IsInstant}
use Rattle.wy_prove_rounds.proofs.LoopLemmas.{loop_begins, loop_ends, loop_goes, moves_at, of_all}
use Rattle.wy_prove_rounds.proofs.RangeMoves.{instances_none, instances_so}
use Rattle.wy_prove_rounds.proofs.instances.write_instances_of.Goals as goal

pub write_instance_of-requires-clause-atom : goal.write_instance_of-requires-clause-atom
write_instance_of-requires-clause-atom c = let lt = c.requires.atom in let le = c.loop-t.invariant.stays.grows in omega (arith, lt, le)

pub write_instance_of-requires-clause-term : goal.write_instance_of-requires-clause-term
write_instance_of-requires-clause-term c = let lt = c.requires.terms c.loop-t.t-index 0 c.loop-t-test.true in let le = c.loop-t.invariant.stays.grows in omega (arith, lt, le)

pub loop-t-init : goal.loop-t-init
loop-t-init c =
    let old = c.args.terms.now in
    let at = tree_at old in
    let o = of_each (seen_literal at (c.args.atom, c.args.holds)) in
    record {
      moves = λ types base there are. loop_begins types base (λ (n : Node) (ts : List Term). with_instances_by n c.args.holds o ts) (λ (n : Node) (x : Term). with_instances_by n c.args.holds o (x ∷ [])) (instances_none c.args.holds o) (instances_so c.args.holds o) at c.args.all.now (seen_draft at c.args.draft.now);
      draft = c.requires.draft;
      stays = stays_same old;
    }

pub loop-t-preserved : goal.loop-t-preserved
loop-t-preserved c =
    let old = c.args.terms.now in
    let now = c.loop-t.terms in
    let at = tree_at old in
    let stays = c.loop-t.invariant.stays in
    let ks = c.args.all.now in
    let i = c.loop-t.t-index in
    let k = get_or ks i 0 in
    let here = slice_get-get_or ks i 0 c.loop-t-test.true in
    let o = of_each (seen_literal at (c.args.atom, c.args.holds)) in
    let atom = stays.trees c.args.atom c.requires.atom in
    let tree = stays.trees k (c.requires.terms i 0 c.loop-t-test.true) in
    let first = seen_draft at c.args.draft.now in
    let second = seen_draft (tree_at now) c.loop-t.draft in
    let third = seen_draft (tree_at c.write_instance_of.new.terms) c.write_instance_of.new.draft in
    record {
      moves = λ types base there are.
          loop_goes types base (λ (n : Node) (ts : List Term). with_instances_by n c.args.holds o ts) (λ (n : Node) (x : Term). with_instances_by n c.args.holds o (x ∷ [])) (instances_none c.args.holds o) (instances_so c.args.holds o) at ks i k first second third here
          (c.loop-t.invariant.moves types base there are)
          (moves_at types types base base (tree_at now c.args.atom, tree_at now k) (at c.args.atom, at k) (λ (es : List Entry) (b : Node) (x : Term × Term) (n : Node). with_instances_by n c.args.holds (of_each (record { atom = x.0; holds = c.args.holds })) (x.1 ∷ [])) second third refl refl (ap₂ (λ (a b : Term). (a, b)) atom tree)
          (c.in_ok-write_instance_of.ensures.value types base (subst (λ (a : Term). has_literal base.literals (record { atom = a; holds = c.args.holds }) ≡ true) (sym atom) there) (subst IsInstant (sym tree) (of_all IsInstant at ks i k here are))));
      draft = c.in_ok-write_instance_of.ensures.draft;
      stays = stays_on old now c.write_instance_of.new.terms stays c.in_ok-write_instance_of.ensures.stays;
    }

pub returns-clause-value : goal.returns-clause-value
returns-clause-value c = λ types base there are.
    let at = tree_at c.args.terms.now in
    let o = of_each (seen_literal at (c.args.atom, c.args.holds)) in
    let le : length c.args.all.now ≤ c.loop-t.t-index = search rules in
    loop_ends types base (λ (n : Node) (ts : List Term). with_instances_by n c.args.holds o ts) (λ (n : Node) (x : Term). with_instances_by n c.args.holds o (x ∷ [])) (instances_none c.args.holds o) (instances_so c.args.holds o) at c.args.all.now c.loop-t.t-index (seen_draft at c.args.draft.now) (seen_draft (tree_at c.loop-t.terms) c.loop-t.draft) le (c.loop-t.invariant.moves types base there are)
