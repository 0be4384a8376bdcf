use Rattle.std.proofs.Common.{◌≡◌, ◌∙◌, List, ◌∷◌, ◌++◌, IfOk, ap, subst, pos}
use Rattle.wy_code.specs.declared.instructions.Kind.TheVariants as kind
use Rattle.wy_code.specs.declared.instructions.Scalar.TheVariants as scalar
use Rattle.wy_code.specs.declared.instructions.Instr.TheVariants as instr
use Rattle.wy_code.specs.declared.pieces.steps.Step.{Step}
use Rattle.wy_code.specs.declared.pieces.steps.Step.TheVariants.{Does}
use Rattle.wy_gen.proofs.PieceLemmas.{array_same}
use Rattle.wy_gen.proofs.type_tests.begin_array.Goals as goal

pub returns : goal.returns
returns c = record {
  value = λ items old h e.
      let first = Does (instr.Const c.in_ok-index.index (scalar.Int (pos 0))) in
      let len = Does (instr.Len c.args.free c.args.value) in
      let kinds = Does (instr.Kind c.args.answer c.args.value kind.Array) in
      let one : c.in_ok-steps.steps ≡ first ∷ items ++ old = c.in_ok-steps.ensures.value ∙ ap (λ (l : List Step). first ∷ l) h in
      let two : c.in_ok-steps-2.steps ≡ len ∷ first ∷ items ++ old = c.in_ok-steps-2.ensures.value ∙ ap (λ (l : List Step). len ∷ l) one in
      subst (λ (z : List Step). IfOk c.does-3.result (λ s. s ≡ z)) (ap (λ (l : List Step). kinds ∷ l) (c.in_ok-steps-3.ensures.value (len ∷ first ∷ items) old two e) ∙ array_same c.args.value c.args.answer c.args.free c.in_ok-index.index items old c.in_ok-index.ensures.value)
      c.does-3.ensures.value;
}
