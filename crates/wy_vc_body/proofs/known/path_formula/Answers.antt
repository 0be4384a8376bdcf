use Rattle.std.proofs.Common.{◌∙◌, sym, subst, List, Option, ℕ}
use Rattle.wy_vc_exprs.specs.Slots.{AreSlots}
use Rattle.wy_vc_exprs.proofs.SlotLemmas.{slots_on}
use Rattle.wy_vc_body.proofs.EquationLemmas.{equated_begin, equated_next, equated_end, formula_made}
use Rattle.wy_vc_body.proofs.known.path_formula.Goals as goal

pub loop-entry-init : goal.loop-entry-init
loop-entry-init c = equated_begin c.args.maker.now c.args.names.now c.args.path.now _ c.requires.path (c.in_ok-since.ensures.items ∙ c.as_slice.ensures.value)

pub returns-clause-made : goal.returns-clause-made
returns-clause-made c =
    formula_made c.conjunction.result c.args.maker.now c.loop-entry.maker c.conjunction.new.terms _ c.loop-entry.invariant.kept
    (c.conjunction.ensures.made _ (equated_end c.args.maker.now c.loop-entry.maker c.args.names.now c.args.path.now c.loop-entry.entry-index _ c.loop-entry-test.false c.loop-entry.invariant))

pub equate-requires-clause-slots : goal.equate-requires-clause-slots
equate-requires-clause-slots c =
    subst (λ (vs : List (Option ℕ)). AreSlots c.loop-entry.maker.terms vs) (sym c.as_slice-in-loop-entry.ensures.value) (slots_on c.args.maker.now.terms c.loop-entry.maker.terms c.loop-entry.invariant.kept c.args.path.now.here.vars.items c.requires.path.vars)

pub loop-entry-preserved : goal.loop-entry-preserved
loop-entry-preserved c =
    equated_next c.args.maker.now c.loop-entry.maker c.equate.new.maker c.args.names.now c.args.path.now c.loop-entry.entry-index _ _ c.as_slice-in-loop-entry.result.now c.as_slice-in-loop-entry.ensures.value c.requires.path c.requires.names c.loop-entry-test.true
    c.loop-entry.invariant c.in_ok-equate.ensures.kept c.in_ok-equate.ensures.count c.in_ok-equate.ensures.node c.in_ok-equate.ensures.made
