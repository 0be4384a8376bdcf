use Rattle.std.proofs.Common.{rules, arith, List, length, map, sym, ◌∙◌, subst}
use Rattle.wy_term_text.specs.wy_term.Term.{Term}
use Rattle.wy_term_text.specs.wy_term.Nodes.{tree_at}
use Rattle.wy_cert.specs.Only.{IsTheOne, HasNone, GoesOn}
use Rattle.wy_cert.specs.Arguments.{IsCut, IsArgument, AreArguments}
use Rattle.wy_cert.proofs.ArgumentLemmas.{pushed, cut_of, uncut_of, arguments_turn, arguments_end, arguments_none_at}
use Rattle.wy_cert.proofs.arguments.arguments.Goals as goal

pub returns-in_default-clause-value : goal.returns-in_default-clause-value
returns-in_default-clause-value c =
    let never : HasNone (IsArgument c.args.formulas c.cut_first.result.0.now) = search rules in
    arguments_none_at c.args.formulas c.args.text.now c.loop-turn.rest.now c.cut_first.result.0.now c.cut_first.result.1 (map (tree_at c.loop-turn.terms) c.loop-turn.all.items) c.cut_first.ensures.value never c.loop-turn.invariant.goes

pub returns-in_default-more-clause-value : goal.returns-in_default-more-clause-value
returns-in_default-more-clause-value c =
    let here : IsTheOne (IsArgument c.args.formulas c.cut_first.result.0.now) (tree_at c.argument.new.terms c.in-Some.t) = search rules in
    let uncut = uncut_of c.loop-turn.rest.now c.cut_first.result.0.now c.cut_first.result.1 c.in_default-more.is c.cut_first.ensures.value in
    let now = pushed (tree_at c.argument.new.terms) (tree_at c.loop-turn.terms) (length c.loop-turn.terms) c.loop-turn.all.items c.push.new.self.items c.in-Some.t c.in_ok-push.ensures.items c.loop-turn.invariant.below c.in_ok-t.ensures.kept in
    subst (λ (d : List Term). IsTheOne (AreArguments c.args.formulas c.args.text.now) d) (sym now)
    (arguments_end c.args.formulas c.args.text.now c.loop-turn.rest.now c.cut_first.result.0.now (map (tree_at c.loop-turn.terms) c.loop-turn.all.items) (tree_at c.argument.new.terms c.in-Some.t) uncut.0 uncut.1 here c.loop-turn.invariant.goes)

pub loop-turn-preserved : goal.loop-turn-preserved
loop-turn-preserved c =
    let here : IsTheOne (IsArgument c.args.formulas c.cut_first.result.0.now) (tree_at c.argument.new.terms c.in-Some.t) = search rules in
    let cut : IsCut c.loop-turn.rest.now c.cut_first.result.0.now c.in-Some-more.more.now = cut_of c.loop-turn.rest.now c.cut_first.result.0.now c.cut_first.result.1 c.in-Some-more.more c.in-Some-more.is c.cut_first.ensures.value in
    let now = pushed (tree_at c.argument.new.terms) (tree_at c.loop-turn.terms) (length c.loop-turn.terms) c.loop-turn.all.items c.push.new.self.items c.in-Some.t c.in_ok-push.ensures.items c.loop-turn.invariant.below c.in_ok-t.ensures.kept in
    record {
      goes = subst (λ (d : List Term). GoesOn d (AreArguments c.args.formulas c.in-Some-more.more.now) (AreArguments c.args.formulas c.args.text.now)) (sym now)
          (arguments_turn c.args.formulas c.args.text.now c.loop-turn.rest.now c.cut_first.result.0.now c.in-Some-more.more.now (map (tree_at c.loop-turn.terms) c.loop-turn.all.items) (tree_at c.argument.new.terms c.in-Some.t) cut here c.loop-turn.invariant.goes);
      below = search rules;
      kept = λ t lt. c.in_ok-t.ensures.kept t (omega (arith, lt, c.loop-turn.invariant.grows)) ∙ c.loop-turn.invariant.kept t lt;
      grows = omega (arith, c.in_ok-t.ensures.grows, c.loop-turn.invariant.grows);
    }
