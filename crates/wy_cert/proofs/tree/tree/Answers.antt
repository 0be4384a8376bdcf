use Rattle.std.proofs.Common.{rules, arith, ◌≡◌, ◌<◌, ◌+◌, ◌-◌, ◌++◌, ◌∷◌, [], ℕ, List, length, map, sym, subst}
use Rattle.std.proofs.lemmas.List.Elements.{All-push}
use Rattle.wy_term_text.specs.wy_term.Nodes.{tree_at}
use Rattle.wy_cert.specs.Only.{IsTheOne, HasNone, AreSame}
use Rattle.wy_cert.specs.Steps.{Written, written, IsBelow, children}
use Rattle.wy_cert.specs.Lines.{IsStep}
use Rattle.wy_cert.specs.File.{IsLine, NoLine, ReadsTree, tree_of}
use Rattle.wy_cert.proofs.OneLemmas.{no_memory_answers}
use Rattle.wy_cert.proofs.FirstLine.{line_length}
use Rattle.wy_cert.proofs.TreeLemmas.{tree_complete, tree_early, tree_bad, tree_turn, steps_pushed, children_small, all_below_more}
use Rattle.wy_cert.proofs.tree.tree.Goals as goal

pub returns-then-lacking-eq0-clause-value : goal.returns-then-lacking-eq0-clause-value
returns-then-lacking-eq0-clause-value c =
    let none : c.loop-turn.lacking ≡ 0 = first_of (omega arith, search rules) in
    tree_complete c.args.products (ReadsTree c.args.products [] 1 c.args.line c.args.text.now) (map (written (tree_at c.loop-turn.terms)) c.loop-turn.steps.items) c.loop-turn.lacking c.loop-turn.line c.loop-turn.rest.now none c.loop-turn.invariant.same

pub returns-in_default-clause-value : goal.returns-in_default-clause-value
returns-in_default-clause-value c =
    let some : 0 < c.loop-turn.lacking = first_of (omega arith, search rules) in
    let never : NoLine c.loop-turn.rest.now = search rules in
    λ other. tree_early c.args.products (ReadsTree c.args.products [] 1 c.args.line c.args.text.now) (map (written (tree_at c.loop-turn.terms)) c.loop-turn.steps.items) c.loop-turn.lacking c.loop-turn.line c.loop-turn.rest.now some never c.loop-turn.invariant.same

pub returns-in_err-step-clause-value : goal.returns-in_err-step-clause-value
returns-in_err-step-clause-value c = no_memory_answers (ReadsTree c.args.products [] 1 c.args.line c.args.text.now) tree_of c.from_residual.result (search rules)

pub returns-in_default-2-clause-value : goal.returns-in_default-2-clause-value
returns-in_default-2-clause-value c =
    let some : 0 < c.loop-turn.lacking = first_of (omega arith, search rules) in
    let here : IsLine c.loop-turn.rest.now c.in-Some.first.now c.in-Some.more.now = search rules in
    let never : HasNone (IsStep c.args.products c.in-Some.first.now) = search rules in
    λ other. tree_bad c.args.products (ReadsTree c.args.products [] 1 c.args.line c.args.text.now) (map (written (tree_at c.loop-turn.terms)) c.loop-turn.steps.items) c.loop-turn.lacking c.loop-turn.line c.loop-turn.rest.now c.in-Some.first.now c.in-Some.more.now some here never c.loop-turn.invariant.same

pub returns-in_err-push-clause-value : goal.returns-in_err-push-clause-value
returns-in_err-push-clause-value c = no_memory_answers (ReadsTree c.args.products [] 1 c.args.line c.args.text.now) tree_of c.from_residual-in_err-push.result (search rules)

pub loop-turn-preserved : goal.loop-turn-preserved
loop-turn-preserved c =
    let some : 0 < c.loop-turn.lacking = first_of (omega arith, search rules) in
    let here : IsLine c.loop-turn.rest.now c.in-Some.first.now c.in-Some.more.now = search rules in
    let step : IsTheOne (IsStep c.args.products c.in-Some.first.now) (written (tree_at c.step_of.new.terms) c.in-Some-2.step) = search rules in
    let within : IsBelow (length c.step_of.new.terms) c.in-Some-2.step = search rules in
    let shorter = line_length c.loop-turn.rest.now c.in-Some.first.now c.in-Some.more.now here in
    let now = steps_pushed (tree_at c.step_of.new.terms) (tree_at c.loop-turn.terms) (length c.loop-turn.terms) c.loop-turn.steps.items c.push.new.self.items c.in-Some-2.step c.in_ok-push.ensures.items c.loop-turn.invariant.below c.in_ok-step.ensures.kept in
    let below : c.children.result ≡ children (written (tree_at c.step_of.new.terms) c.in-Some-2.step) = c.children.ensures.value (tree_at c.step_of.new.terms) in
    let few = children_small (written (tree_at c.step_of.new.terms) c.in-Some-2.step) in
    record {
      same = subst (λ (d : List Written). AreSame (ReadsTree c.args.products d (c.loop-turn.lacking - 1 + c.children.result) (c.loop-turn.line + 1) c.in-Some.more.now) (ReadsTree c.args.products [] 1 c.args.line c.args.text.now)) (sym now)
          (subst (λ (k : ℕ). AreSame (ReadsTree c.args.products (map (written (tree_at c.loop-turn.terms)) c.loop-turn.steps.items ++ written (tree_at c.step_of.new.terms) c.in-Some-2.step ∷ []) (c.loop-turn.lacking - 1 + k) (c.loop-turn.line + 1) c.in-Some.more.now) (ReadsTree c.args.products [] 1 c.args.line c.args.text.now)) (sym below)
          (tree_turn c.args.products (ReadsTree c.args.products [] 1 c.args.line c.args.text.now) (map (written (tree_at c.loop-turn.terms)) c.loop-turn.steps.items) c.loop-turn.lacking c.loop-turn.line c.loop-turn.rest.now c.in-Some.first.now c.in-Some.more.now (written (tree_at c.step_of.new.terms) c.in-Some-2.step) some here step c.loop-turn.invariant.same));
      below = rw c.in_ok-push.ensures.items (All-push (IsBelow (length c.step_of.new.terms)) c.loop-turn.steps.items c.in-Some-2.step (all_below_more (length c.loop-turn.terms) (length c.step_of.new.terms) c.loop-turn.steps.items c.in_ok-step.ensures.grows c.loop-turn.invariant.below) within);
      room = omega (arith, shorter, c.loop-turn.invariant.room);
      some = omega arith;
      trees = omega (arith, shorter, below, few, some, c.loop-turn.invariant.trees);
    }
