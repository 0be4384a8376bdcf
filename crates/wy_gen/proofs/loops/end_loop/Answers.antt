use Rattle.std.proofs.Common.{◌≡◌, ◌∙◌, ◌+◌, List, ◌∷◌, ◌++◌, length, ap, sym, append_assoc}
use Rattle.wy_core.specs.CoreSeen.{seen_expr}
use Rattle.wy_live.specs.Sets.{Variables}
use Rattle.wy_code.specs.pieces.Steps.{turns}
use Rattle.wy_code.specs.declared.pieces.steps.Step.{Step}
use Rattle.wy_code.specs.declared.pieces.steps.Step.TheVariants.{GoesBack, GoesOnUnless}
use Rattle.wy_code_spec.specs.compiled.Expressions.{code, released}
use Rattle.wy_gen.proofs.loops.end_loop.Goals as goal

pub returns-clause-value : goal.returns-clause-value
returns-clause-value c = λ rest old h e.
    let both = c.in_ok-both.both in
    let free = c.args.free in
    let gone = released both c.args.body.live in
    let body = gone ++ rest in
    let test = code c.args.context.now (seen_expr c.args.test.now) both free in
    let one : c.in_ok-steps.steps ≡ body ++ GoesBack 0 ∷ old = c.in_ok-steps.ensures.value ∙ ap (λ (l : List Step). gone ++ l) h ∙ sym (append_assoc gone rest (GoesBack 0 ∷ old)) in
    let two : c.in_ok-steps-2.steps ≡ GoesOnUnless free (length body + 1) ∷ (body ++ GoesBack 0 ∷ old) = c.in_ok-steps-2.ensures.value body old one e in
    let three : c.in_ok-made.made.steps ≡ test ++ GoesOnUnless free (length body + 1) ∷ (body ++ GoesBack 0 ∷ old) = c.in_ok-made.ensures.value ∙ ap (λ (l : List Step). test ++ l) two in
    c.in_ok-steps-3.ensures.value test body old free three e
    ∙ ap (λ (v : Variables). turns (code c.args.context.now (seen_expr c.args.test.now) v free) free (released v c.args.body.live ++ rest) ++ old) c.in_ok-both.ensures.value
