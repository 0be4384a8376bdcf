use Rattle.std.proofs.Common.{◌≡◌, List, ℕ, Option, length, subst, sym, rules}
use Rattle.wy_vc_spec.specs.Numbered.{numbered_list, numbered_routine}
use Rattle.wy_vc_spec.specs.Programs.{ensures_conditions, enter_result}
use Rattle.wy_core.specs.CoreSeen.{seen_exprs, seen_output, seen_routine}
use Rattle.wy_core.specs.declared.expressions.Expr as e
use Rattle.wy_vc_body.specs.Frames.{program_of}
use Rattle.wy_vc_tables.specs.program_names.Described.{setting}
use Rattle.wy_vc_body.specs.wy_vc_exprs.Slots.{AreSlots, slots_of}
use Rattle.wy_vc_body.specs.wy_vc_exprs.State.{hyps_of}
use Rattle.wy_vc_body.proofs.wy_vc_exprs_proofs.ResultLemmas.{on_ok}
use Rattle.wy_vc.specs.Entering.{Enters, Owes}
use Rattle.wy_vc.proofs.OwingLemmas.{ensures_owe, no_ensures}
use Rattle.wy_vc.proofs.contracts.owe_ensures.Goals as goal

pub returns-then-is_empty : goal.returns-then-is_empty
returns-then-is_empty c =
    let a = c.args.walk.now in
    let P = program_of c.args.core.now c.args.program.now in
    let V = slots_of a.maker.terms c.args.vars.now in
    let none : length c.as_slice-clauses.result.now ≡ 0 = search rules in
    record {
      value = λ k. subst (λ (es : List e.Expr). Owes a a (ensures_conditions P (numbered_routine (seen_routine c.args.routine.now) k) (numbered_list (seen_exprs es) a.maker.node) V (hyps_of a) a.maker.count)) c.as_slice-clauses.ensures
          (no_ensures P (numbered_routine (seen_routine c.args.routine.now) k) c.as_slice-clauses.result.now a.maker.node V (hyps_of a) a.maker.count a c.requires.sound none);
    }

pub enter_result-requires-clause-slots : goal.enter_result-requires-clause-slots
enter_result-requires-clause-slots c = subst (λ (vs : List (Option ℕ)). AreSlots c.args.walk.now.maker.terms vs) (sym c.in_ok-inner.ensures.items) c.requires.slots

pub walk_clauses-requires-clause-sound : goal.walk_clauses-requires-clause-sound
walk_clauses-requires-clause-sound c = (c.in_ok-enter_result.ensures.value 0).steps.sound

pub walk_clauses-requires-clause-slots : goal.walk_clauses-requires-clause-slots
walk_clauses-requires-clause-slots c = subst (λ (vs : List (Option ℕ)). AreSlots c.enter_result.new.walk.maker.terms vs) (sym c.as_slice.ensures.value) (c.in_ok-enter_result.ensures.value 0).slots

pub returns : goal.returns
returns c =
    let a = c.args.walk.now in
    let some : length c.as_slice-clauses.result.now ≡ 0 → ⊥ = λ none. search rules in
    record {
      value = λ k. on_ok c.walk_clauses.result _ _ c.walk_clauses.ensures.value
          (λ s. ensures_owe (program_of c.args.core.now c.args.program.now) c.args.routine.now k a c.enter_result.new.walk c.walk_clauses.new.walk c.args.vars.now c.enter_result.new.vars.items c.as_slice.result.now c.as_slice-words.result.now c.as_slice-clauses.result.now
          c.as_slice-words.ensures c.as_slice-clauses.ensures c.as_slice.ensures.value some
          (subst (λ (vs : List (Option ℕ)). Enters a c.enter_result.new.walk c.enter_result.new.vars.items (enter_result (setting c.args.core.now c.args.program.now) (numbered_routine (seen_routine c.args.routine.now) k) (seen_output c.args.routine.now.result) (slots_of a.maker.terms vs) (hyps_of a) a.maker.count))
          c.in_ok-inner.ensures.items (c.in_ok-enter_result.ensures.value k)) c.in_ok-enter_result.ensures.node s);
    }
