use Rattle.std.proofs.Common.{◌++◌, ◌∷◌, [], refl, ◌∙◌, ap, sym, subst, List, ℕ, length}
use Rattle.wy_term.specs.declared.cond.Cond.{Cond}
use Rattle.wy_vc_body.specs.wy_vc_operations.Growing.{AreBelow}
use Rattle.wy_vc.specs.Told.{entries_by}
use Rattle.wy_vc.proofs.ToldLemmas.{told_is, told_within}
use Rattle.wy_vc.proofs.telling.told.Goals as goal

pub types_behind-requires : goal.types_behind-requires
types_behind-requires c = record {
  within = subst (λ (l : List ℕ). AreBelow (length c.args.terms.now) l) (sym c.as_slice.ensures.value) c.requires.goal.hyps;
  goal = c.requires.goal.goal;
  quiet = c.requires.quiet;
  stands = c.requires.stands;
}

pub returns-clause-within : goal.returns-clause-within
returns-clause-within c s are =
    told_within c.args.terms.now s c.args.meanings.now c.args.goal _ c.in_ok-marks.marks.items are c.requires.goal refl refl (c.in_ok-list.ensures.value ∙ ap (λ ms. entries_by ms 0 c.args.meanings.now) c.as_slice-3.ensures.value)

pub returns-clause-value : goal.returns-clause-value
returns-clause-value c s are =
    let cond : Cond = record { kind = c.args.goal.kind; at = c.args.goal.at; hyps = c.args.goal.hyps; goal = c.args.goal.goal; «unfold» = record { list = c.in_ok-list.list } } in
    told_is c.args.terms.now s c.args.meanings.now c.args.goal cond (c.as_slice.result.now ++ c.args.goal.goal ∷ []) c.in_ok-tests.tests.items c.as_slice-2.result.now c.in_ok-marks.marks.items are
    (ap (λ (l : List ℕ). l ++ c.args.goal.goal ∷ []) c.as_slice.ensures.value) c.in_ok-tests.ensures.value c.as_slice-2.ensures.value
    c.in_ok-marks.ensures.value refl refl refl refl (c.in_ok-list.ensures.value ∙ ap (λ ms. entries_by ms 0 c.args.meanings.now) c.as_slice-3.ensures.value)
