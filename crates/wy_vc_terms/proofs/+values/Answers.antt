use Rattle.std.proofs.Common.{◌∙◌, ◌<◌, ◌+◌, ℕ, ℤ, List, [], Bool, Option, length, drop, map, refl, sym, ap, subst, arith, rules, FitsSigned}
use Rattle.std.specs.Int.{w128}
use Rattle.std.proofs.lemmas.Int.{to_z-of_z}
use Rattle.std.proofs.lemmas.List.{map_push}
use Rattle.std.proofs.lemmas.List.Elements.{All-nil, All-cons}
use Rattle.wy_core.specs.CoreSeen.{seen_ty, seen_expr, seen_exprs, seen_fields}
use Rattle.wy_core.specs.CoreTree as tree
use Rattle.wy_core.specs.CoreTree.{exprs_of}
use Rattle.wy_vc_operations.specs.wy_sem.Expressions.{node}
use Rattle.wy_vc_tables.specs.wy_vc_spec.Making.{get, int, int_name, number_of}
use Rattle.wy_vc_tables.specs.wy_vc_spec.Numbered.{numbered, numbered_all, numbered_fields, numbered_list}
use Rattle.wy_vc_tables.specs.wy_vc_spec.Operations as op
use Rattle.wy_vc_tables.specs.wy_vc_spec.Sizes.{exprs_in, exprs_in_all, exprs_in_fields}
use Rattle.wy_vc_tables.specs.wy_vc_spec.Values.{k_word, valued, named_to, fields_hold, value, values, field_values, clause_formulas}
use Rattle.wy_vc_tables.specs.wy_vc_spec.Variables.{slot_at}
use Rattle.wy_vc_tables.specs.program_names.Described.{setting}
use Rattle.wy_vc_operations.specs.Growing.{AreBelow, AreSlotsAt, Makes}
use Rattle.wy_vc_operations.proofs.GrowingLemmas.{here_kept, kept_all, kept_on, onward}
use Rattle.wy_vc_operations.proofs.SlotLemmas.{put_at, slots_kept}
use Rattle.wy_vc_terms.specs.Made.{IsMadeAt, IsUnderway}
use Rattle.wy_vc_terms.specs.Wholes.{tys_of, record_parts, clause_parts}
use Rattle.wy_core_lemmas.proofs.TypeKinds.{null_type, bool_type, int_type, any_type, void_type, normal_type, record_type, named_type, array_type, union_type, inter_type, not_type}
use Rattle.wy_core_lemmas.proofs.ExpressionKinds.{null_of, bool_of, int_of, var_of, call_of, neg_of, not_of, len_of, binary_of, is_of, index_of, field_of, list_of, repeat_of, record_of, quant_of}
use Rattle.wy_vc_terms.proofs.MadeLemmas.{plainly, behind, behind_two, as_type, from_count, as_expr, from_numbers, last_number, slots_by, body_from, body_by, quantified_made, named_written, defined_by, defined_as, no_name, found_name}
use Rattle.wy_vc_terms.proofs.UnderwayLemmas.{begun, begun_with, field_turn, value_turn, field_value_turn, clause_turn, fields_end, clauses_end, values_end, field_values_end, names_numbered, below_pushed, next_node, next_field_node, names_turn, names_end}
use Rattle.wy_vc_terms.proofs.+values.Goals as goal

pub types::holds_to-returns-in_ok-term-in-Null-clause-made : goal.types::holds_to-returns-in_ok-term-in-Null-clause-made
types::holds_to-returns-in_ok-term-in-Null-clause-made t c = λ d v at.
    as_type (named_to (setting c.args.core.now c.args.program.now) c.args.depth) v c.args.count (null_type c.args.ty.now c.in-Null.is) (plainly (c.in_ok-term-in-Null.ensures.made v at))

pub types::holds_to-returns-in_ok-term-in-Bool-clause-made : goal.types::holds_to-returns-in_ok-term-in-Bool-clause-made
types::holds_to-returns-in_ok-term-in-Bool-clause-made t c = λ d v at.
    as_type (named_to (setting c.args.core.now c.args.program.now) c.args.depth) v c.args.count (bool_type c.args.ty.now c.in-Bool.is) (plainly (c.in_ok-term-in-Bool.ensures.made v at))

pub types::holds_to-returns-in_ok-term-in-Int-clause-made : goal.types::holds_to-returns-in_ok-term-in-Int-clause-made
types::holds_to-returns-in_ok-term-in-Int-clause-made t c = λ d v at.
    as_type (named_to (setting c.args.core.now c.args.program.now) c.args.depth) v c.args.count (int_type c.args.ty.now c.in-Int.is) (plainly (c.in_ok-term-in-Int.ensures.made v at))

pub types::holds_to-returns-in_ok-term-in-Any-clause-made : goal.types::holds_to-returns-in_ok-term-in-Any-clause-made
types::holds_to-returns-in_ok-term-in-Any-clause-made t c = λ d v at.
    as_type (named_to (setting c.args.core.now c.args.program.now) c.args.depth) v c.args.count (any_type c.args.ty.now c.in-Any.is) (plainly c.in_ok-term-in-Any.ensures.made)

pub types::holds_to-returns-in_ok-term-in-Void-clause-made : goal.types::holds_to-returns-in_ok-term-in-Void-clause-made
types::holds_to-returns-in_ok-term-in-Void-clause-made t c = λ d v at.
    as_type (named_to (setting c.args.core.now c.args.program.now) c.args.depth) v c.args.count (void_type c.args.ty.now c.in-Void.is) (plainly c.in_ok-term-in-Void.ensures.made)

pub types::holds_to-returns-in_ok-term-in-Normal-clause-made : goal.types::holds_to-returns-in_ok-term-in-Normal-clause-made
types::holds_to-returns-in_ok-term-in-Normal-clause-made t c = λ d v at.
    as_type (named_to (setting c.args.core.now c.args.program.now) c.args.depth) v c.args.count (normal_type c.args.ty.now c.in-Normal.field-0 c.in-Normal.is) (plainly c.in_ok-term-in-Normal.ensures.made)

pub types::holds_to-returns-in_ok-held-in-Record-clause-made : goal.types::holds_to-returns-in_ok-held-in-Record-clause-made
types::holds_to-returns-in_ok-held-in-Record-clause-made t c = λ d v at.
    as_type (named_to (setting c.args.core.now c.args.program.now) c.args.depth) v c.args.count (record_type c.args.ty.now c.in-Record.fields c.as_slice.result.now c.in-Record.is c.as_slice.ensures) (c.in_ok-held-in-Record.ensures.made d v at)

pub types::holds_to-returns-in_ok-held-in-Named-clause-made : goal.types::holds_to-returns-in_ok-held-in-Named-clause-made
types::holds_to-returns-in_ok-held-in-Named-clause-made t c = λ d v at.
    as_type (named_to (setting c.args.core.now c.args.program.now) c.args.depth) v c.args.count (named_type c.args.ty.now c.in-Named.number c.in-Named.is) (c.in_ok-held-in-Named.ensures.made d v at)

pub types::holds_to-returns-in_ok-term-in-Array-clause-made : goal.types::holds_to-returns-in_ok-term-in-Array-clause-made
types::holds_to-returns-in_ok-term-in-Array-clause-made t c = λ d v at.
    let p = c.in_ok-part-in-Array.ensures.made v at in
    let b = from_count (named_to (setting c.args.core.now c.args.program.now) c.args.depth) (seen_ty c.get.result.now) (get v (int_name k_word c.args.count)) c.in_ok-next-in-Array.ensures.value (c.in_ok-body-in-Array.ensures.made d _ p.here) in
    let m = c.in_ok-term-in-Array.ensures.made _ _ (here_kept (kept_on p.kept b.term.kept) at) b.term.here in
    as_type (named_to (setting c.args.core.now c.args.program.now) c.args.depth) v c.args.count (array_type c.args.ty.now c.in-Array.item c.get.result.now c.in-Array.is c.get.ensures) (record { term = onward (kept_on p.kept b.term.kept) m; names = b.names })

pub types::holds_to-returns-in_ok-term-in-Union-clause-made : goal.types::holds_to-returns-in_ok-term-in-Union-clause-made
types::holds_to-returns-in_ok-term-in-Union-clause-made t c = λ d v at.
    let a = c.in_ok-first-in-Union.ensures.made d v at in
    let b = from_count (named_to (setting c.args.core.now c.args.program.now) c.args.depth) (seen_ty c.get-in-Union-2.result.now) v a.names (c.in_ok-second-in-Union.ensures.made d v (here_kept a.term.kept at)) in
    let m = c.in_ok-term-in-Union.ensures.made _ _ (here_kept b.term.kept a.term.here) b.term.here in
    as_type (named_to (setting c.args.core.now c.args.program.now) c.args.depth) v c.args.count (union_type c.args.ty.now c.in-Union.one c.in-Union.other c.get-in-Union.result.now c.get-in-Union-2.result.now c.in-Union.is c.get-in-Union.ensures c.get-in-Union-2.ensures) (behind_two a b m)

pub types::holds_to-returns-in_ok-term-in-Inter-clause-made : goal.types::holds_to-returns-in_ok-term-in-Inter-clause-made
types::holds_to-returns-in_ok-term-in-Inter-clause-made t c = λ d v at.
    let a = c.in_ok-first-in-Inter.ensures.made d v at in
    let b = from_count (named_to (setting c.args.core.now c.args.program.now) c.args.depth) (seen_ty c.get-in-Inter-2.result.now) v a.names (c.in_ok-second-in-Inter.ensures.made d v (here_kept a.term.kept at)) in
    let m = c.in_ok-term-in-Inter.ensures.made _ _ (here_kept b.term.kept a.term.here) b.term.here in
    as_type (named_to (setting c.args.core.now c.args.program.now) c.args.depth) v c.args.count (inter_type c.args.ty.now c.in-Inter.one c.in-Inter.other c.get-in-Inter.result.now c.get-in-Inter-2.result.now c.in-Inter.is c.get-in-Inter.ensures c.get-in-Inter-2.ensures) (behind_two a b m)

pub types::holds_to-returns-in_ok-term-in-Not-clause-made : goal.types::holds_to-returns-in_ok-term-in-Not-clause-made
types::holds_to-returns-in_ok-term-in-Not-clause-made t c = λ d v at.
    let a = c.in_ok-inside-in-Not.ensures.made d v at in
    let m = c.in_ok-term-in-Not.ensures.made _ a.term.here in
    as_type (named_to (setting c.args.core.now c.args.program.now) c.args.depth) v c.args.count (not_type c.args.ty.now c.in-Not.inner c.get-in-Not.result.now c.in-Not.is c.get-in-Not.ensures) (behind a m)

pub types::fields_hold-loop-item-init : goal.types::fields_hold-loop-item-init
types::fields_hold-loop-item-init t c = record {
  within = subst (λ (ks : List ℕ). AreBelow (length c.is_record.new.terms) ks) (sym c.in_ok-parts.ensures.items) (All-cons (λ j. j < length c.is_record.new.terms) c.in_ok-whole.whole [] c.in_ok-whole.ensures.within (All-nil (λ j. j < length c.is_record.new.terms)));
  value = omega (arith, c.in_ok-whole.ensures.grows, c.requires);
  grows = c.in_ok-whole.ensures.grows;
  made = λ d v at. subst (λ (ks : List ℕ). IsUnderway c.args.terms.now c.is_record.new.terms ks (fields_hold (named_to (setting c.args.core.now c.args.program.now) c.args.depth) (tys_of c.args.fields.now) v c.args.count) (record_parts (named_to (setting c.args.core.now c.args.program.now) c.args.depth) c.args.fields.now v c.args.count)) (sym c.in_ok-parts.ensures.items) (begun_with (fields_hold (named_to (setting c.args.core.now c.args.program.now) c.args.depth) (tys_of c.args.fields.now) v c.args.count) (c.in_ok-whole.ensures.made v at));
}

pub types::fields_hold-loop-item-preserved : goal.types::fields_hold-loop-item-preserved
types::fields_hold-loop-item-preserved t c = record {
  within = subst (λ (ks : List ℕ). AreBelow (length c.holds_to.new.terms) ks) (sym c.in_ok-push.ensures.items) (below_pushed (length c.loop-item.terms) (length c.holds_to.new.terms) c.loop-item.parts.items c.in_ok-held.held.term (omega (arith, c.in_ok-part.ensures.grows, c.in_ok-held.ensures.grows)) c.in_ok-held.ensures.within c.loop-item.invariant.within);
  value = omega (arith, c.in_ok-part.ensures.grows, c.in_ok-held.ensures.grows, c.loop-item.invariant.value);
  grows = omega (arith, c.in_ok-part.ensures.grows, c.in_ok-held.ensures.grows, c.loop-item.invariant.grows);
  made = λ d v at.
      let u = c.loop-item.invariant.made d v at in
      let p = c.in_ok-part.ensures.made v (here_kept u.kept at) in
      let h = c.in_ok-held.ensures.made d _ p.here in
      subst (λ (ks : List ℕ). IsUnderway c.args.terms.now c.holds_to.new.terms ks (fields_hold (named_to (setting c.args.core.now c.args.program.now) c.args.depth) (tys_of (drop (c.loop-item.item-index + 1) c.args.fields.now)) v c.in_ok-held.held.count) (record_parts (named_to (setting c.args.core.now c.args.program.now) c.args.depth) c.args.fields.now v c.args.count)) (sym c.in_ok-push.ensures.items)
      (field_turn (named_to (setting c.args.core.now c.args.program.now) c.args.depth) v c.loop-item.next c.args.fields.now c.loop-item.item-index c.item-item.result c.loop-item-test.true c.item-item.is u p h);
}

pub types::fields_hold-returns-clause-made : goal.types::fields_hold-returns-clause-made
types::fields_hold-returns-clause-made t c = λ d v at.
    fields_end (named_to (setting c.args.core.now c.args.program.now) c.args.depth) v (record_parts (named_to (setting c.args.core.now c.args.program.now) c.args.depth) c.args.fields.now v c.args.count) c.args.fields.now c.loop-item.item-index c.loop-item-test.false (c.loop-item.invariant.made d v at) (c.in_ok-term.ensures.made _)

pub types::clauses_hold-loop-clause-init : goal.types::clauses_hold-loop-clause-init
types::clauses_hold-loop-clause-init t c = record {
  within = subst (λ (ks : List ℕ). AreBelow (length c.args.terms.now) ks) (sym c.in_ok-parts.ensures.items) (All-cons (λ j. j < length c.args.terms.now) c.args.whole [] c.requires (All-nil (λ j. j < length c.args.terms.now)));
  grows = omega arith;
  vars = refl;
  made = λ d slots f at here. subst (λ (ks : List ℕ). IsUnderway c.args.terms.now c.args.terms.now ks (clause_formulas (setting c.args.core.now c.args.program.now) (named_to (setting c.args.core.now c.args.program.now) c.args.depth) c.args.words.now (numbered_list (seen_exprs c.args.clauses.now) c.args.node) slots c.args.count) (clause_parts (setting c.args.core.now c.args.program.now) (named_to (setting c.args.core.now c.args.program.now) c.args.depth) c.args.words.now c.args.clauses.now c.args.node slots f c.args.count)) (sym c.in_ok-parts.ensures.items) (begun_with (clause_formulas (setting c.args.core.now c.args.program.now) (named_to (setting c.args.core.now c.args.program.now) c.args.depth) c.args.words.now (numbered_list (seen_exprs c.args.clauses.now) c.args.node) slots c.args.count) (record { here = here; kept = kept_all c.args.terms.now }));
}

pub types::clauses_hold-loop-clause-preserved : goal.types::clauses_hold-loop-clause-preserved
types::clauses_hold-loop-clause-preserved t c = record {
  within = subst (λ (ks : List ℕ). AreBelow (length c.formula.new.terms) ks) (sym c.in_ok-push.ensures.items) (below_pushed (length c.loop-clause.terms) (length c.formula.new.terms) c.loop-clause.parts.items c.in_ok-holds.holds (omega (arith, c.in_ok-v.ensures.grows, c.in_ok-holds.ensures.grows)) c.in_ok-holds.ensures.within c.loop-clause.invariant.within);
  grows = omega (arith, c.in_ok-v.ensures.grows, c.in_ok-holds.ensures.grows, c.loop-clause.invariant.grows);
  vars = c.in_ok-v.ensures.vars ∙ c.loop-clause.invariant.vars;
  made = λ d slots f at here.
      let u = c.loop-clause.invariant.made d slots f at here in
      let h = c.in_ok-v.ensures.made d slots (subst (λ (l : List (Option ℕ)). AreSlotsAt c.loop-clause.terms l slots) (sym c.loop-clause.invariant.vars) (slots_kept u.kept at)) in
      let g = c.in_ok-holds.ensures.made _ h.term.here in
      subst (λ (ks : List ℕ). IsUnderway c.args.terms.now c.formula.new.terms ks (clause_formulas (setting c.args.core.now c.args.program.now) (named_to (setting c.args.core.now c.args.program.now) c.args.depth) c.args.words.now (numbered_list (seen_exprs (drop (c.loop-clause.clause-index + 1) c.args.clauses.now)) c.in_ok-v.v.next) slots c.in_ok-v.v.count) (clause_parts (setting c.args.core.now c.args.program.now) (named_to (setting c.args.core.now c.args.program.now) c.args.depth) c.args.words.now c.args.clauses.now c.args.node slots f c.args.count)) (sym c.in_ok-push.ensures.items)
      (clause_turn (setting c.args.core.now c.args.program.now) (named_to (setting c.args.core.now c.args.program.now) c.args.depth) c.args.words.now slots c.loop-clause.names c.loop-clause.next c.args.clauses.now c.loop-clause.clause-index c.clause-item.result c.loop-clause-test.true c.clause-item.is u h c.in_ok-v.ensures.node g);
}

pub types::clauses_hold-returns-clause-made : goal.types::clauses_hold-returns-clause-made
types::clauses_hold-returns-clause-made t c = λ d slots f at here.
    clauses_end (setting c.args.core.now c.args.program.now) (named_to (setting c.args.core.now c.args.program.now) c.args.depth) c.args.words.now slots c.loop-clause.next (clause_parts (setting c.args.core.now c.args.program.now) (named_to (setting c.args.core.now c.args.program.now) c.args.depth) c.args.words.now c.args.clauses.now c.args.node slots f c.args.count) c.args.clauses.now c.loop-clause.clause-index c.loop-clause-test.false (c.loop-clause.invariant.made d slots f at here) (c.in_ok-term.ensures.made _)

pub lists::values_to-loop-item-init : goal.lists::values_to-loop-item-init
lists::values_to-loop-item-init t c = record { within = subst (λ (ks : List ℕ). AreBelow (length c.args.terms.now) ks) (sym c.new-made.ensures.items) (All-nil (λ j. j < length c.args.terms.now)); grows = omega arith; node = refl; vars = refl; made = λ d slots at. subst (λ (ks : List ℕ). IsUnderway c.args.terms.now c.args.terms.now ks (values (setting c.args.core.now c.args.program.now) (named_to (setting c.args.core.now c.args.program.now) c.args.depth) c.args.words.now (numbered_all (exprs_of (seen_exprs c.args.items.now)) c.args.node) slots c.args.count) (values (setting c.args.core.now c.args.program.now) (named_to (setting c.args.core.now c.args.program.now) c.args.depth) c.args.words.now (numbered_all (exprs_of (seen_exprs c.args.items.now)) c.args.node) slots c.args.count)) (sym c.new-made.ensures.items) (begun c.args.terms.now (values (setting c.args.core.now c.args.program.now) (named_to (setting c.args.core.now c.args.program.now) c.args.depth) c.args.words.now (numbered_all (exprs_of (seen_exprs c.args.items.now)) c.args.node) slots c.args.count)) }

pub lists::values_to-loop-item-preserved : goal.lists::values_to-loop-item-preserved
lists::values_to-loop-item-preserved t c = record {
  within = subst (λ (ks : List ℕ). AreBelow (length c.value_to.new.terms) ks) (sym c.in_ok-push.ensures.items) (below_pushed (length c.loop-item.terms) (length c.value_to.new.terms) c.loop-item.made.items c.in_ok-v.v.term c.in_ok-v.ensures.grows c.in_ok-v.ensures.within c.loop-item.invariant.within);
  grows = omega (arith, c.in_ok-v.ensures.grows, c.loop-item.invariant.grows);
  node = next_node c.args.items.now c.loop-item.item-index c.item-item.result c.loop-item-test.true c.item-item.is c.loop-item.next c.in_ok-v.v.next (c.args.node + exprs_in_all (exprs_of (seen_exprs c.args.items.now))) c.loop-item.invariant.node c.in_ok-v.ensures.node;
  vars = c.in_ok-v.ensures.vars ∙ c.loop-item.invariant.vars;
  made = λ d slots at.
      let u = c.loop-item.invariant.made d slots at in
      let h = c.in_ok-v.ensures.made d slots (subst (λ (l : List (Option ℕ)). AreSlotsAt c.loop-item.terms l slots) (sym c.loop-item.invariant.vars) (slots_kept u.kept at)) in
      subst (λ (ks : List ℕ). IsUnderway c.args.terms.now c.value_to.new.terms ks (values (setting c.args.core.now c.args.program.now) (named_to (setting c.args.core.now c.args.program.now) c.args.depth) c.args.words.now (numbered_all (exprs_of (seen_exprs (drop (c.loop-item.item-index + 1) c.args.items.now))) c.in_ok-v.v.next) slots c.in_ok-v.v.count) (values (setting c.args.core.now c.args.program.now) (named_to (setting c.args.core.now c.args.program.now) c.args.depth) c.args.words.now (numbered_all (exprs_of (seen_exprs c.args.items.now)) c.args.node) slots c.args.count)) (sym c.in_ok-push.ensures.items)
      (value_turn (setting c.args.core.now c.args.program.now) (named_to (setting c.args.core.now c.args.program.now) c.args.depth) c.args.words.now slots c.loop-item.names c.loop-item.next c.args.items.now c.loop-item.item-index c.item-item.result c.loop-item-test.true c.item-item.is u h c.in_ok-v.ensures.node);
}

pub lists::values_to-returns-clause-made : goal.lists::values_to-returns-clause-made
lists::values_to-returns-clause-made t c = λ d slots at. values_end (setting c.args.core.now c.args.program.now) (named_to (setting c.args.core.now c.args.program.now) c.args.depth) c.args.words.now slots c.loop-item.next c.args.items.now c.loop-item.item-index c.loop-item-test.false (c.loop-item.invariant.made d slots at)

pub lists::field_values_to-loop-item-init : goal.lists::field_values_to-loop-item-init
lists::field_values_to-loop-item-init t c = record {
  within = subst (λ (l : List (List ℕ × ℕ)). AreBelow (length c.args.terms.now) (map (λ f. f.1) l)) (sym c.new-made.ensures.items) (All-nil (λ j. j < length c.args.terms.now));
  grows = omega arith;
  node = refl;
  vars = refl;
  fields = ap (λ (l : List (List ℕ × ℕ)). map (λ f. f.0) l) c.new-made.ensures.items;
  made = λ d slots at. subst (λ (l : List (List ℕ × ℕ)). IsUnderway c.args.terms.now c.args.terms.now (map (λ f. f.1) l) (field_values (setting c.args.core.now c.args.program.now) (named_to (setting c.args.core.now c.args.program.now) c.args.depth) c.args.words.now (numbered_fields (seen_fields c.args.items.now) c.args.node) slots c.args.count) (field_values (setting c.args.core.now c.args.program.now) (named_to (setting c.args.core.now c.args.program.now) c.args.depth) c.args.words.now (numbered_fields (seen_fields c.args.items.now) c.args.node) slots c.args.count)) (sym c.new-made.ensures.items) (begun c.args.terms.now (field_values (setting c.args.core.now c.args.program.now) (named_to (setting c.args.core.now c.args.program.now) c.args.depth) c.args.words.now (numbered_fields (seen_fields c.args.items.now) c.args.node) slots c.args.count));
}

pub lists::field_values_to-loop-item-preserved : goal.lists::field_values_to-loop-item-preserved
lists::field_values_to-loop-item-preserved t c = record {
  within = subst (λ (ks : List ℕ). AreBelow (length c.value_to.new.terms) ks) (sym (ap (λ (l : List (List ℕ × ℕ)). map (λ f. f.1) l) c.in_ok-push.ensures.items ∙ map_push (λ (f : List ℕ × ℕ). f.1) c.loop-item.made.items (c.in_ok-name.name, c.in_ok-v.v.term))) (below_pushed (length c.loop-item.terms) (length c.value_to.new.terms) (map (λ f. f.1) c.loop-item.made.items) c.in_ok-v.v.term c.in_ok-v.ensures.grows c.in_ok-v.ensures.within c.loop-item.invariant.within);
  grows = omega (arith, c.in_ok-v.ensures.grows, c.loop-item.invariant.grows);
  node = next_field_node c.args.items.now c.loop-item.item-index c.item-item.result c.loop-item-test.true c.item-item.is c.loop-item.next c.in_ok-v.v.next (c.args.node + exprs_in_fields (seen_fields c.args.items.now)) c.loop-item.invariant.node c.in_ok-v.ensures.node;
  vars = c.in_ok-v.ensures.vars ∙ c.loop-item.invariant.vars;
  fields = ap (λ (l : List (List ℕ × ℕ)). map (λ f. f.0) l) c.in_ok-push.ensures.items ∙ (map_push (λ (f : List ℕ × ℕ). f.0) c.loop-item.made.items (c.in_ok-name.name, c.in_ok-v.v.term) ∙ names_turn c.args.items.now c.loop-item.item-index c.item-item.result c.in_ok-name.name (map (λ f. f.0) c.loop-item.made.items) c.loop-item-test.true c.item-item.is c.in_ok-name.ensures.value c.loop-item.invariant.fields);
  made = λ d slots at.
      let u = c.loop-item.invariant.made d slots at in
      let h = c.in_ok-v.ensures.made d slots (subst (λ (l : List (Option ℕ)). AreSlotsAt c.loop-item.terms l slots) (sym c.loop-item.invariant.vars) (slots_kept u.kept at)) in
      subst (λ (ks : List ℕ). IsUnderway c.args.terms.now c.value_to.new.terms ks (field_values (setting c.args.core.now c.args.program.now) (named_to (setting c.args.core.now c.args.program.now) c.args.depth) c.args.words.now (numbered_fields (seen_fields (drop (c.loop-item.item-index + 1) c.args.items.now)) c.in_ok-v.v.next) slots c.in_ok-v.v.count) (field_values (setting c.args.core.now c.args.program.now) (named_to (setting c.args.core.now c.args.program.now) c.args.depth) c.args.words.now (numbered_fields (seen_fields c.args.items.now) c.args.node) slots c.args.count)) (sym (ap (λ (l : List (List ℕ × ℕ)). map (λ f. f.1) l) c.in_ok-push.ensures.items ∙ map_push (λ (f : List ℕ × ℕ). f.1) c.loop-item.made.items (c.in_ok-name.name, c.in_ok-v.v.term)))
      (field_value_turn (setting c.args.core.now c.args.program.now) (named_to (setting c.args.core.now c.args.program.now) c.args.depth) c.args.words.now slots c.loop-item.names c.loop-item.next c.args.items.now c.loop-item.item-index c.item-item.result c.loop-item-test.true c.item-item.is u h c.in_ok-v.ensures.node);
}

pub lists::field_values_to-returns-clause-names : goal.lists::field_values_to-returns-clause-names
lists::field_values_to-returns-clause-names t c = names_end c.args.items.now c.loop-item.item-index (map (λ f. f.0) c.loop-item.made.items) c.loop-item-test.false c.loop-item.invariant.fields

pub lists::field_values_to-returns-clause-made : goal.lists::field_values_to-returns-clause-made
lists::field_values_to-returns-clause-made t c = λ d slots at. field_values_end (setting c.args.core.now c.args.program.now) (named_to (setting c.args.core.now c.args.program.now) c.args.depth) c.args.words.now slots c.loop-item.next c.args.items.now c.loop-item.item-index c.loop-item-test.false (c.loop-item.invariant.made d slots at)

pub values::value_to-returns-in_ok-next-in-Null-clause-node : goal.values::value_to-returns-in_ok-next-in-Null-clause-node
values::value_to-returns-in_ok-next-in-Null-clause-node t c = let e = ap (λ (z : tree.Expr ℕ). exprs_in z) (null_of c.args.expr.now c.in-Null.is) in omega (arith, e, c.in_ok-next-in-Null.ensures.value)

pub values::value_to-returns-in_ok-next-in-Null-clause-made : goal.values::value_to-returns-in_ok-next-in-Null-clause-made
values::value_to-returns-in_ok-next-in-Null-clause-made t c = λ d slots at.
    as_expr (setting c.args.core.now c.args.program.now) (named_to (setting c.args.core.now c.args.program.now) c.args.depth) c.args.words.now slots c.args.node c.args.count (null_of c.args.expr.now c.in-Null.is) (plainly c.in_ok-term-in-Null.ensures.made)

pub values::value_to-returns-in_ok-next-in-Bool-clause-node : goal.values::value_to-returns-in_ok-next-in-Bool-clause-node
values::value_to-returns-in_ok-next-in-Bool-clause-node t c = let e = ap (λ (z : tree.Expr ℕ). exprs_in z) (bool_of c.args.expr.now c.in-Bool.b c.in-Bool.is) in omega (arith, e, c.in_ok-next-in-Bool.ensures.value)

pub values::value_to-returns-in_ok-next-in-Bool-clause-made : goal.values::value_to-returns-in_ok-next-in-Bool-clause-made
values::value_to-returns-in_ok-next-in-Bool-clause-made t c = λ d slots at.
    as_expr (setting c.args.core.now c.args.program.now) (named_to (setting c.args.core.now c.args.program.now) c.args.depth) c.args.words.now slots c.args.node c.args.count (bool_of c.args.expr.now c.in-Bool.b c.in-Bool.is) (plainly c.in_ok-term-in-Bool.ensures.made)

pub values::value_to-returns-in_ok-next-in-Int-clause-node : goal.values::value_to-returns-in_ok-next-in-Int-clause-node
values::value_to-returns-in_ok-next-in-Int-clause-node t c = let e = ap (λ (z : tree.Expr ℕ). exprs_in z) (int_of c.args.expr.now c.in-Int.z c.in-Int.is) in omega (arith, e, c.in_ok-next-in-Int.ensures.value)

pub values::value_to-returns-in_ok-next-in-Int-clause-made : goal.values::value_to-returns-in_ok-next-in-Int-clause-made
values::value_to-returns-in_ok-next-in-Int-clause-made t c = λ d slots at.
    let fits : FitsSigned w128 c.in-Int.z = search rules in
    as_expr (setting c.args.core.now c.args.program.now) (named_to (setting c.args.core.now c.args.program.now) c.args.depth) c.args.words.now slots c.args.node c.args.count (int_of c.args.expr.now c.in-Int.z c.in-Int.is) (plainly (subst (λ (z : ℤ). Makes c.args.terms.now c.whole.new.terms c.in_ok-term-in-Int.term (int (number_of z))) (to_z-of_z w128 c.in-Int.z fits) c.in_ok-term-in-Int.ensures.made))

pub values::value_to-returns-in_ok-next-in-Var-clause-node : goal.values::value_to-returns-in_ok-next-in-Var-clause-node
values::value_to-returns-in_ok-next-in-Var-clause-node t c = let e = ap (λ (z : tree.Expr ℕ). exprs_in z) (var_of c.args.expr.now c.in-Var.x c.in-Var.is) in omega (arith, e, c.in_ok-next-in-Var.ensures.value)

pub values::value_to-returns-in_ok-next-in-Var-clause-made : goal.values::value_to-returns-in_ok-next-in-Var-clause-made
values::value_to-returns-in_ok-next-in-Var-clause-made t c = λ d slots at.
    as_expr (setting c.args.core.now c.args.program.now) (named_to (setting c.args.core.now c.args.program.now) c.args.depth) c.args.words.now slots c.args.node c.args.count (var_of c.args.expr.now c.in-Var.x c.in-Var.is) (plainly (c.in_ok-term-in-Var.ensures.made slots (slots_by c.as_slice.ensures.value at)))

pub values::value_to-returns-in_ok-next-in-Call-clause-node : goal.values::value_to-returns-in_ok-next-in-Call-clause-node
values::value_to-returns-in_ok-next-in-Call-clause-node t c = let e = ap (λ (z : tree.Expr ℕ). exprs_in z) (call_of c.args.expr.now c.in-Call.field-0 c.in-Call.args c.as_slice-in-Call.result.now c.in-Call.is c.as_slice-in-Call.ensures) in omega (arith, e, c.in_ok-next-in-Call.ensures.value, c.in_ok-passed-in-Call.ensures.value, c.in_ok-behind-in-Call.ensures.value)

pub values::value_to-returns-in_ok-next-in-Call-clause-made : goal.values::value_to-returns-in_ok-next-in-Call-clause-made
values::value_to-returns-in_ok-next-in-Call-clause-made t c = λ d slots at.
    as_expr (setting c.args.core.now c.args.program.now) (named_to (setting c.args.core.now c.args.program.now) c.args.depth) c.args.words.now slots c.args.node c.args.count (call_of c.args.expr.now c.in-Call.field-0 c.in-Call.args c.as_slice-in-Call.result.now c.in-Call.is c.as_slice-in-Call.ensures) (plainly c.in_ok-term-in-Call.ensures.made)

pub values::value_to-returns-in_ok-next-in-Neg-clause-node : goal.values::value_to-returns-in_ok-next-in-Neg-clause-node
values::value_to-returns-in_ok-next-in-Neg-clause-node t c = let e = ap (λ (z : tree.Expr ℕ). exprs_in z) (neg_of c.args.expr.now c.in-Neg.a c.get.result.now c.in-Neg.is c.get.ensures) in omega (arith, e, c.in_ok-next-in-Neg.ensures.value, c.in_ok-v-in-Neg.ensures.node)

pub values::value_to-returns-in_ok-next-in-Neg-clause-made : goal.values::value_to-returns-in_ok-next-in-Neg-clause-made
values::value_to-returns-in_ok-next-in-Neg-clause-made t c = λ d slots at.
    let a = c.in_ok-v-in-Neg.ensures.made d slots at in
    as_expr (setting c.args.core.now c.args.program.now) (named_to (setting c.args.core.now c.args.program.now) c.args.depth) c.args.words.now slots c.args.node c.args.count (neg_of c.args.expr.now c.in-Neg.a c.get.result.now c.in-Neg.is c.get.ensures) (behind a (c.in_ok-term-in-Neg.ensures.made _ a.term.here))

pub values::value_to-returns-in_ok-next-in-Not-clause-node : goal.values::value_to-returns-in_ok-next-in-Not-clause-node
values::value_to-returns-in_ok-next-in-Not-clause-node t c = let e = ap (λ (z : tree.Expr ℕ). exprs_in z) (not_of c.args.expr.now c.in-Not.a c.get-in-Not.result.now c.in-Not.is c.get-in-Not.ensures) in omega (arith, e, c.in_ok-next-in-Not.ensures.value, c.in_ok-v-in-Not.ensures.node)

pub values::value_to-returns-in_ok-next-in-Not-clause-made : goal.values::value_to-returns-in_ok-next-in-Not-clause-made
values::value_to-returns-in_ok-next-in-Not-clause-made t c = λ d slots at.
    let a = c.in_ok-v-in-Not.ensures.made d slots at in
    as_expr (setting c.args.core.now c.args.program.now) (named_to (setting c.args.core.now c.args.program.now) c.args.depth) c.args.words.now slots c.args.node c.args.count (not_of c.args.expr.now c.in-Not.a c.get-in-Not.result.now c.in-Not.is c.get-in-Not.ensures) (behind a (c.in_ok-term-in-Not.ensures.made _ a.term.here))

pub values::value_to-returns-in_ok-next-in-Len-clause-node : goal.values::value_to-returns-in_ok-next-in-Len-clause-node
values::value_to-returns-in_ok-next-in-Len-clause-node t c = let e = ap (λ (z : tree.Expr ℕ). exprs_in z) (len_of c.args.expr.now c.in-Len.a c.get-in-Len.result.now c.in-Len.is c.get-in-Len.ensures) in omega (arith, e, c.in_ok-next-in-Len.ensures.value, c.in_ok-v-in-Len.ensures.node)

pub values::value_to-returns-in_ok-next-in-Len-clause-made : goal.values::value_to-returns-in_ok-next-in-Len-clause-made
values::value_to-returns-in_ok-next-in-Len-clause-made t c = λ d slots at.
    let a = c.in_ok-v-in-Len.ensures.made d slots at in
    as_expr (setting c.args.core.now c.args.program.now) (named_to (setting c.args.core.now c.args.program.now) c.args.depth) c.args.words.now slots c.args.node c.args.count (len_of c.args.expr.now c.in-Len.a c.get-in-Len.result.now c.in-Len.is c.get-in-Len.ensures) (behind a (c.in_ok-term-in-Len.ensures.made _ a.term.here))

pub values::value_to-returns-in_ok-next-in-Field-clause-node : goal.values::value_to-returns-in_ok-next-in-Field-clause-node
values::value_to-returns-in_ok-next-in-Field-clause-node t c = let e = ap (λ (z : tree.Expr ℕ). exprs_in z) (field_of c.args.expr.now c.in-Field.a c.get-in-Field.result.now c.in-Field.name c.in-Field.is c.get-in-Field.ensures) in omega (arith, e, c.in_ok-next-in-Field.ensures.value, c.in_ok-v-in-Field.ensures.node)

pub values::value_to-returns-in_ok-next-in-Field-clause-made : goal.values::value_to-returns-in_ok-next-in-Field-clause-made
values::value_to-returns-in_ok-next-in-Field-clause-made t c = λ d slots at.
    let a = c.in_ok-v-in-Field.ensures.made d slots at in
    as_expr (setting c.args.core.now c.args.program.now) (named_to (setting c.args.core.now c.args.program.now) c.args.depth) c.args.words.now slots c.args.node c.args.count (field_of c.args.expr.now c.in-Field.a c.get-in-Field.result.now c.in-Field.name c.in-Field.is c.get-in-Field.ensures) (behind a (c.in_ok-term-in-Field.ensures.made _ a.term.here))

pub values::value_to-returns-in_ok-next-in-Index-clause-vars : goal.values::value_to-returns-in_ok-next-in-Index-clause-vars
values::value_to-returns-in_ok-next-in-Index-clause-vars t c = c.in_ok-w-in-Index.ensures.vars ∙ c.in_ok-v-in-Index.ensures.vars

pub values::value_to-returns-in_ok-next-in-Index-clause-node : goal.values::value_to-returns-in_ok-next-in-Index-clause-node
values::value_to-returns-in_ok-next-in-Index-clause-node t c = let e = ap (λ (z : tree.Expr ℕ). exprs_in z) (index_of c.args.expr.now c.in-Index.a c.get-in-Index.result.now c.in-Index.b c.get-in-Index-2.result.now c.in-Index.is c.get-in-Index.ensures c.get-in-Index-2.ensures) in omega (arith, e, c.in_ok-next-in-Index.ensures.value, c.in_ok-v-in-Index.ensures.node, c.in_ok-w-in-Index.ensures.node)

pub values::value_to-returns-in_ok-next-in-Index-clause-made : goal.values::value_to-returns-in_ok-next-in-Index-clause-made
values::value_to-returns-in_ok-next-in-Index-clause-made t c = λ d slots at.
    let a = c.in_ok-v-in-Index.ensures.made d slots at in
    let b = from_numbers (setting c.args.core.now c.args.program.now) (named_to (setting c.args.core.now c.args.program.now) c.args.depth) c.args.words.now (seen_expr c.get-in-Index-2.result.now) slots c.in_ok-v-in-Index.ensures.node a.names (c.in_ok-w-in-Index.ensures.made d slots (slots_by c.in_ok-v-in-Index.ensures.vars (slots_kept a.term.kept at))) in
    as_expr (setting c.args.core.now c.args.program.now) (named_to (setting c.args.core.now c.args.program.now) c.args.depth) c.args.words.now slots c.args.node c.args.count (index_of c.args.expr.now c.in-Index.a c.get-in-Index.result.now c.in-Index.b c.get-in-Index-2.result.now c.in-Index.is c.get-in-Index.ensures c.get-in-Index-2.ensures) (behind_two a b (c.in_ok-term-in-Index.ensures.made _ _ (here_kept b.term.kept a.term.here) b.term.here))

pub values::value_to-returns-in_ok-next-in-Repeat-clause-vars : goal.values::value_to-returns-in_ok-next-in-Repeat-clause-vars
values::value_to-returns-in_ok-next-in-Repeat-clause-vars t c = c.in_ok-w-in-Repeat.ensures.vars ∙ c.in_ok-v-in-Repeat.ensures.vars

pub values::value_to-returns-in_ok-next-in-Repeat-clause-node : goal.values::value_to-returns-in_ok-next-in-Repeat-clause-node
values::value_to-returns-in_ok-next-in-Repeat-clause-node t c = let e = ap (λ (z : tree.Expr ℕ). exprs_in z) (repeat_of c.args.expr.now c.in-Repeat.a c.get-in-Repeat.result.now c.in-Repeat.b c.get-in-Repeat-2.result.now c.in-Repeat.is c.get-in-Repeat.ensures c.get-in-Repeat-2.ensures) in omega (arith, e, c.in_ok-next-in-Repeat.ensures.value, c.in_ok-v-in-Repeat.ensures.node, c.in_ok-w-in-Repeat.ensures.node)

pub values::value_to-returns-in_ok-next-in-Repeat-clause-made : goal.values::value_to-returns-in_ok-next-in-Repeat-clause-made
values::value_to-returns-in_ok-next-in-Repeat-clause-made t c = λ d slots at.
    let a = c.in_ok-v-in-Repeat.ensures.made d slots at in
    let b = from_numbers (setting c.args.core.now c.args.program.now) (named_to (setting c.args.core.now c.args.program.now) c.args.depth) c.args.words.now (seen_expr c.get-in-Repeat-2.result.now) slots c.in_ok-v-in-Repeat.ensures.node a.names (c.in_ok-w-in-Repeat.ensures.made d slots (slots_by c.in_ok-v-in-Repeat.ensures.vars (slots_kept a.term.kept at))) in
    as_expr (setting c.args.core.now c.args.program.now) (named_to (setting c.args.core.now c.args.program.now) c.args.depth) c.args.words.now slots c.args.node c.args.count (repeat_of c.args.expr.now c.in-Repeat.a c.get-in-Repeat.result.now c.in-Repeat.b c.get-in-Repeat-2.result.now c.in-Repeat.is c.get-in-Repeat.ensures c.get-in-Repeat-2.ensures) (behind_two a b (c.in_ok-term-in-Repeat.ensures.made _ _ (here_kept b.term.kept a.term.here) b.term.here))

pub values::value_to-returns-in_ok-next-in-Binary-clause-vars : goal.values::value_to-returns-in_ok-next-in-Binary-clause-vars
values::value_to-returns-in_ok-next-in-Binary-clause-vars t c = c.in_ok-w-in-Binary.ensures.vars ∙ c.in_ok-v-in-Binary.ensures.vars

pub values::value_to-returns-in_ok-next-in-Binary-clause-node : goal.values::value_to-returns-in_ok-next-in-Binary-clause-node
values::value_to-returns-in_ok-next-in-Binary-clause-node t c = let e = ap (λ (z : tree.Expr ℕ). exprs_in z) (binary_of c.args.expr.now c.in-Binary.op c.in-Binary.a c.get-in-Binary.result.now c.in-Binary.b c.get-in-Binary-2.result.now c.in-Binary.is c.get-in-Binary.ensures c.get-in-Binary-2.ensures) in omega (arith, e, c.in_ok-next-in-Binary.ensures.value, c.in_ok-v-in-Binary.ensures.node, c.in_ok-w-in-Binary.ensures.node)

pub values::value_to-returns-in_ok-next-in-Binary-clause-made : goal.values::value_to-returns-in_ok-next-in-Binary-clause-made
values::value_to-returns-in_ok-next-in-Binary-clause-made t c = λ d slots at.
    let a = c.in_ok-v-in-Binary.ensures.made d slots at in
    let b = from_numbers (setting c.args.core.now c.args.program.now) (named_to (setting c.args.core.now c.args.program.now) c.args.depth) c.args.words.now (seen_expr c.get-in-Binary-2.result.now) slots c.in_ok-v-in-Binary.ensures.node a.names (c.in_ok-w-in-Binary.ensures.made d slots (slots_by c.in_ok-v-in-Binary.ensures.vars (slots_kept a.term.kept at))) in
    let asked = c.are_numbers-numbers.ensures.value (node (numbered (seen_expr c.get-in-Binary.result.now) c.args.node)) (node (numbered (seen_expr c.get-in-Binary-2.result.now) (c.args.node + exprs_in (seen_expr c.get-in-Binary.result.now)))) (last_number (seen_expr c.get-in-Binary.result.now) c.args.node ∙ sym c.in_ok-v-in-Binary.ensures.node) (last_number (seen_expr c.get-in-Binary-2.result.now) (c.args.node + exprs_in (seen_expr c.get-in-Binary.result.now)) ∙ sym (c.in_ok-w-in-Binary.ensures.node ∙ ap (λ (n : ℕ). n + exprs_in (seen_expr c.get-in-Binary-2.result.now)) c.in_ok-v-in-Binary.ensures.node)) in
    let m = c.in_ok-term-in-Binary.ensures.made _ _ (here_kept b.term.kept a.term.here) b.term.here in
    as_expr (setting c.args.core.now c.args.program.now) (named_to (setting c.args.core.now c.args.program.now) c.args.depth) c.args.words.now slots c.args.node c.args.count (binary_of c.args.expr.now c.in-Binary.op c.in-Binary.a c.get-in-Binary.result.now c.in-Binary.b c.get-in-Binary-2.result.now c.in-Binary.is c.get-in-Binary.ensures c.get-in-Binary-2.ensures) (subst (λ (q : Bool). IsMadeAt c.args.terms.now c.operated.new.terms c.in_ok-term-in-Binary.term c.in_ok-w-in-Binary.w.count (valued (value (setting c.args.core.now c.args.program.now) (named_to (setting c.args.core.now c.args.program.now) c.args.depth) c.args.words.now (numbered (seen_expr c.get-in-Binary-2.result.now) (c.args.node + exprs_in (seen_expr c.get-in-Binary.result.now))) slots (value (setting c.args.core.now c.args.program.now) (named_to (setting c.args.core.now c.args.program.now) c.args.depth) c.args.words.now (numbered (seen_expr c.get-in-Binary.result.now) c.args.node) slots c.args.count).count).count (op.operated c.in-Binary.op q (value (setting c.args.core.now c.args.program.now) (named_to (setting c.args.core.now c.args.program.now) c.args.depth) c.args.words.now (numbered (seen_expr c.get-in-Binary.result.now) c.args.node) slots c.args.count).term (value (setting c.args.core.now c.args.program.now) (named_to (setting c.args.core.now c.args.program.now) c.args.depth) c.args.words.now (numbered (seen_expr c.get-in-Binary-2.result.now) (c.args.node + exprs_in (seen_expr c.get-in-Binary.result.now))) slots (value (setting c.args.core.now c.args.program.now) (named_to (setting c.args.core.now c.args.program.now) c.args.depth) c.args.words.now (numbered (seen_expr c.get-in-Binary.result.now) c.args.node) slots c.args.count).count).term))) asked (behind_two a b m))

pub values::value_to-returns-in_ok-next-in-Is-clause-node : goal.values::value_to-returns-in_ok-next-in-Is-clause-node
values::value_to-returns-in_ok-next-in-Is-clause-node t c = let e = ap (λ (z : tree.Expr ℕ). exprs_in z) (is_of c.args.expr.now c.in-Is.a c.get-in-Is.result.now c.in-Is.ty c.in-Is.is c.get-in-Is.ensures) in omega (arith, e, c.in_ok-next-in-Is.ensures.value, c.in_ok-v-in-Is.ensures.node)

pub values::value_to-returns-in_ok-next-in-Is-clause-made : goal.values::value_to-returns-in_ok-next-in-Is-clause-made
values::value_to-returns-in_ok-next-in-Is-clause-made t c = λ d slots at.
    let a = c.in_ok-v-in-Is.ensures.made d slots at in
    let f = from_count (named_to (setting c.args.core.now c.args.program.now) c.args.depth) (seen_ty c.in-Is.ty) (value (setting c.args.core.now c.args.program.now) (named_to (setting c.args.core.now c.args.program.now) c.args.depth) c.args.words.now (numbered (seen_expr c.get-in-Is.result.now) c.args.node) slots c.args.count).term a.names (c.in_ok-test-in-Is.ensures.made d _ a.term.here) in
    as_expr (setting c.args.core.now c.args.program.now) (named_to (setting c.args.core.now c.args.program.now) c.args.depth) c.args.words.now slots c.args.node c.args.count (is_of c.args.expr.now c.in-Is.a c.get-in-Is.result.now c.in-Is.ty c.in-Is.is c.get-in-Is.ensures) (behind_two a f (c.in_ok-term-in-Is.ensures.made _ f.term.here))

pub values::value_to-returns-in_ok-next-in-List-clause-node : goal.values::value_to-returns-in_ok-next-in-List-clause-node
values::value_to-returns-in_ok-next-in-List-clause-node t c = let e = ap (λ (z : tree.Expr ℕ). exprs_in z) (list_of c.args.expr.now c.in-List.items c.as_slice-in-List.result.now c.in-List.is c.as_slice-in-List.ensures) in omega (arith, e, c.in_ok-next-in-List.ensures.value, c.in_ok-all-in-List.ensures.node)

pub values::value_to-returns-in_ok-next-in-List-clause-made : goal.values::value_to-returns-in_ok-next-in-List-clause-made
values::value_to-returns-in_ok-next-in-List-clause-made t c = λ d slots at.
    let all = c.in_ok-all-in-List.ensures.made d slots at in
    let m = c.in_ok-term-in-List.ensures.made _ all.terms in
    as_expr (setting c.args.core.now c.args.program.now) (named_to (setting c.args.core.now c.args.program.now) c.args.depth) c.args.words.now slots c.args.node c.args.count (list_of c.args.expr.now c.in-List.items c.as_slice-in-List.result.now c.in-List.is c.as_slice-in-List.ensures) (record { term = onward all.kept m; names = all.names })

pub values::value_to-returns-in_ok-next-in-Record-clause-node : goal.values::value_to-returns-in_ok-next-in-Record-clause-node
values::value_to-returns-in_ok-next-in-Record-clause-node t c = let e = ap (λ (z : tree.Expr ℕ). exprs_in z) (record_of c.args.expr.now c.in-Record.fields c.as_slice-in-Record.result.now c.in-Record.is c.as_slice-in-Record.ensures) in omega (arith, e, c.in_ok-next-in-Record.ensures.value, c.in_ok-all-in-Record.ensures.node)

pub values::value_to-returns-in_ok-next-in-Record-clause-made : goal.values::value_to-returns-in_ok-next-in-Record-clause-made
values::value_to-returns-in_ok-next-in-Record-clause-made t c = λ d slots at.
    let all = c.in_ok-all-in-Record.ensures.made d slots at in
    let m = c.in_ok-term-in-Record.ensures.made _ _ (c.in_ok-all-in-Record.ensures.names ∙ sym (names_numbered c.as_slice-in-Record.result.now c.args.node)) all.terms in
    as_expr (setting c.args.core.now c.args.program.now) (named_to (setting c.args.core.now c.args.program.now) c.args.depth) c.args.words.now slots c.args.node c.args.count (record_of c.args.expr.now c.in-Record.fields c.as_slice-in-Record.result.now c.in-Record.is c.as_slice-in-Record.ensures) (record { term = onward all.kept m; names = all.names })

pub values::value_to-returns-in_ok-next-in-Quant-clause-vars : goal.values::value_to-returns-in_ok-next-in-Quant-clause-vars
values::value_to-returns-in_ok-next-in-Quant-clause-vars t c = c.in_ok-u-in-Quant.ensures.vars ∙ (c.in_ok-w-in-Quant.ensures.vars ∙ c.in_ok-v-in-Quant.ensures.vars)

pub values::value_to-returns-in_ok-next-in-Quant-clause-node : goal.values::value_to-returns-in_ok-next-in-Quant-clause-node
values::value_to-returns-in_ok-next-in-Quant-clause-node t c = let e = ap (λ (z : tree.Expr ℕ). exprs_in z) (quant_of c.args.expr.now c.in-Quant.all c.in-Quant.x c.in-Quant.a c.get-in-Quant.result.now c.in-Quant.b c.get-in-Quant-2.result.now c.in-Quant.body c.get-in-Quant-3.result.now c.in-Quant.is c.get-in-Quant.ensures c.get-in-Quant-2.ensures c.get-in-Quant-3.ensures) in omega (arith, e, c.in_ok-next-in-Quant.ensures.value, c.in_ok-v-in-Quant.ensures.node, c.in_ok-w-in-Quant.ensures.node, c.in_ok-u-in-Quant.ensures.node)

pub values::value_to-returns-in_ok-next-in-Quant-clause-made : goal.values::value_to-returns-in_ok-next-in-Quant-clause-made
values::value_to-returns-in_ok-next-in-Quant-clause-made t c = λ d slots at.
    let a = c.in_ok-v-in-Quant.ensures.made d slots at in
    let b = from_numbers (setting c.args.core.now c.args.program.now) (named_to (setting c.args.core.now c.args.program.now) c.args.depth) c.args.words.now (seen_expr c.get-in-Quant-2.result.now) slots c.in_ok-v-in-Quant.ensures.node a.names (c.in_ok-w-in-Quant.ensures.made d slots (slots_by c.in_ok-v-in-Quant.ensures.vars (slots_kept a.term.kept at))) in
    let before = kept_on a.term.kept b.term.kept in
    let u = body_from (setting c.args.core.now c.args.program.now) (named_to (setting c.args.core.now c.args.program.now) c.args.depth) c.args.words.now (seen_expr c.get-in-Quant-3.result.now) slots c.in-Quant.x (c.in_ok-w-in-Quant.ensures.node ∙ ap (λ (n : ℕ). n + exprs_in (seen_expr c.get-in-Quant-2.result.now)) c.in_ok-v-in-Quant.ensures.node) b.names (c.in_ok-u-in-Quant.ensures.made d slots (slots_by (c.in_ok-w-in-Quant.ensures.vars ∙ c.in_ok-v-in-Quant.ensures.vars) (slots_kept before at))) in
    let m = c.in_ok-term-in-Quant.ensures.made _ _ _ (here_kept (kept_on b.term.kept u.term.kept) a.term.here) (here_kept u.term.kept b.term.here) u.term.here in
    as_expr (setting c.args.core.now c.args.program.now) (named_to (setting c.args.core.now c.args.program.now) c.args.depth) c.args.words.now slots c.args.node c.args.count (quant_of c.args.expr.now c.in-Quant.all c.in-Quant.x c.in-Quant.a c.get-in-Quant.result.now c.in-Quant.b c.get-in-Quant-2.result.now c.in-Quant.body c.get-in-Quant-3.result.now c.in-Quant.is c.get-in-Quant.ensures c.get-in-Quant-2.ensures c.get-in-Quant-3.ensures) (quantified_made c.in-Quant.all a b u c.in_ok-word-in-Quant.ensures.value b.names m)

pub types::named_to-returns-then-is_written-clause-made : goal.types::named_to-returns-then-is_written-clause-made
types::named_to-returns-then-is_written-clause-made t c = λ d v at. named_written (setting c.args.core.now c.args.program.now) c.args.depth c.args.number v c.args.count c.if-depth-eq0.false (sym (d.written c.args.number) ∙ (sym c.is_written.ensures.value ∙ c.if-is_written.true)) (c.in_ok-held.ensures.made d v at)

pub types::defined_to-returns-in_ok-none-in-None-clause-made : goal.types::defined_to-returns-in_ok-none-in-None-clause-made
types::defined_to-returns-in_ok-none-in-None-clause-made t c = λ d v at. defined_as (setting c.args.core.now c.args.program.now) (named_to (setting c.args.core.now c.args.program.now) c.args.depth) v c.args.count (no_name c.args.core.now c.args.program.now c.args.number d c.in-None.ensures.value) c.in_ok-none-in-None.ensures.made

pub types::defined_to-returns-in_ok-held-in-Some-clause-made : goal.types::defined_to-returns-in_ok-held-in-Some-clause-made
types::defined_to-returns-in_ok-held-in-Some-clause-made t c = λ d v at. defined_as (setting c.args.core.now c.args.program.now) (named_to (setting c.args.core.now c.args.program.now) c.args.depth) v c.args.count (found_name c.args.core.now c.args.program.now c.args.number c.first-first.result c.in-Some.alias.now d c.in-Some.ensures.value c.first-first.ensures.value) (c.in_ok-held-in-Some.ensures.made d v at)

pub types::alias_to-returns-clause-made : goal.types::alias_to-returns-clause-made
types::alias_to-returns-clause-made t c = λ d v at.
    let w = c.in_ok-whole.ensures.made d v at in
    let slots = c.in_ok-vars.ensures.made _ v (here_kept w.term.kept at) in
    defined_by (setting c.args.core.now c.args.program.now) (named_to (setting c.args.core.now c.args.program.now) c.args.depth) c.args.alias.now c.args.first v c.args.count c.as_slice.ensures c.as_slice-2.ensures w (c.in_ok-held.ensures.made d _ _ slots w.term.here)

pub values::body_to-returns-clause-made : goal.values::body_to-returns-clause-made
values::body_to-returns-clause-made t c = λ d slots at.
    let n = c.in_ok-name.ensures.made in
    let b = c.in_ok-bound.ensures.made _ n.here in
    let before = kept_on n.kept b.kept in
    let within = slots_by c.in_ok-put.ensures.value (put_at c.args.variable b.here (slots_kept before at)) in
    body_by (setting c.args.core.now c.args.program.now) (named_to (setting c.args.core.now c.args.program.now) c.args.depth) c.args.words.now (seen_expr c.args.body.now) slots c.args.variable c.args.node c.args.count c.in_ok-word.ensures.value c.in_ok-next.ensures.value before (c.in_ok-u.ensures.made d _ within)

pub values::body_to-returns-clause-vars : goal.values::body_to-returns-clause-vars
values::body_to-returns-clause-vars t c = c.put_back.ensures.value c.args.vars.now.items c.in_ok-bound.bound (c.in_ok-u.ensures.vars ∙ c.in_ok-put.ensures.value) (c.slot_at-slot.ensures.value ∙ ap (λ (l : List (Option ℕ)). slot_at l c.args.variable) c.as_slice.ensures.value) (omega (arith, c.args.vars.now.ok.0, c.len-slots.ensures))
