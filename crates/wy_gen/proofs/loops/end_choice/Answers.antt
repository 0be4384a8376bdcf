use Rattle.std.proofs.Common.{◌≡◌, ◌∙◌, Bool, List, ◌++◌, IfOk, ap, subst, sym, append_assoc}
use Rattle.wy_core.specs.CoreSeen.{seen_expr}
use Rattle.wy_code.specs.pieces.Steps.{jumped}
use Rattle.wy_code.specs.declared.pieces.steps.Step.{Step}
use Rattle.wy_code_spec.specs.compiled.Expressions.{code, is_plain, released}
use Rattle.wy_code_spec.specs.compiled.Statements.{branches}
use Rattle.wy_gen.proofs.loops.end_choice.Goals as goal

pub returns-clause-value : goal.returns-clause-value
returns-clause-value c = λ one two old h e m.
    let free = c.args.free in
    let test = code c.args.context.now (seen_expr c.args.test.now) c.args.both free in
    let gone = released c.args.both c.args.first.live in
    let blocks = branches free (is_plain (seen_expr c.args.test.now)) (gone ++ one) two in
    let first : c.in_ok-steps.steps ≡ (gone ++ one) ++ jumped two old = c.in_ok-steps.ensures.value ∙ ap (λ (l : List Step). gone ++ l) h ∙ sym (append_assoc gone one (jumped two old)) in
    let second : c.in_ok-steps-2.steps ≡ blocks ++ old = c.in_ok-steps-2.ensures.value (gone ++ one) two old first e m ∙ ap (λ (p : Bool). branches free p (gone ++ one) two ++ old) c.is_plain.ensures.value in
    subst (λ (z : List Step). IfOk c.code.result (λ m. m.steps ≡ z)) (ap (λ (l : List Step). test ++ l) second ∙ sym (append_assoc test blocks old)) c.code.ensures.value
