use Rattle.std.proofs.Common.{◌≡◌, ◌<◌, ◌≤◌, ◌+◌, drop, take, length, map}
use Rattle.wy_core.specs.CoreSeen.{seen_exprs, seen_fields}
use Rattle.wy_core.specs.CoreTree.{exprs_of}
use Rattle.wy_term.specs.Term.{Term}
use Rattle.wy_term.specs.Numbers.{IsAt}
use Rattle.wy_vc_tables.specs.wy_vc_spec.Numbered.{numbered_all, numbered_fields, numbered_list}
use Rattle.wy_vc_tables.specs.wy_vc_spec.Sizes.{exprs_in_all, exprs_in_fields}
use Rattle.wy_vc_tables.specs.wy_vc_spec.Values.{named_to, fields_hold, values, field_values, clause_formulas}
use Rattle.wy_vc_tables.specs.wy_vc_spec.Variables.{Vars}
use Rattle.wy_vc_tables.specs.program_names.Described.{IsDescribed, setting}
use Rattle.wy_vc_operations.specs.Growing.{AreBelow, AreSlotsAt}
use Rattle.wy_vc_terms.specs.Made.{IsUnderway}
use Rattle.wy_vc_terms.specs.Wholes.{tys_of, record_parts, clause_parts}
use Rattle.wy_vc_terms.proofs.+values.Given as goal

-- how deep calls may still go
abbrev pub decreases-types::holds_to : goal.decreases-types::holds_to
decreases-types::holds_to l = l.left

abbrev pub decreases-types::fields_hold : goal.decreases-types::fields_hold
decreases-types::fields_hold l = l.left

abbrev pub decreases-types::named_to : goal.decreases-types::named_to
decreases-types::named_to l = l.left

abbrev pub decreases-types::defined_to : goal.decreases-types::defined_to
decreases-types::defined_to l = l.left

abbrev pub decreases-types::alias_to : goal.decreases-types::alias_to
decreases-types::alias_to l = l.left

abbrev pub decreases-types::clauses_hold : goal.decreases-types::clauses_hold
decreases-types::clauses_hold l = l.left

abbrev pub decreases-values::value_to : goal.decreases-values::value_to
decreases-values::value_to l = l.left

abbrev pub decreases-values::body_to : goal.decreases-values::body_to
decreases-values::body_to l = l.left

abbrev pub decreases-lists::values_to : goal.decreases-lists::values_to
decreases-lists::values_to l = l.left

abbrev pub decreases-lists::field_values_to : goal.decreases-lists::field_values_to
decreases-lists::field_values_to l = l.left

-- the formulas made, and those of the fields that are left
abbrev pub invariant-types::fields_hold-loop-item : goal.invariant-types::fields_hold-loop-item
invariant-types::fields_hold-loop-item l = record {
  within : AreBelow (length l.terms) l.parts.items;
  value : l.v < length l.terms;
  grows : length l.fn.terms ≤ length l.terms;
  made : IsDescribed l.core l.program → (t : Term) → IsAt l.fn.terms l.v t → IsUnderway l.fn.terms l.terms l.parts.items (fields_hold (named_to (setting l.core l.program) l.depth) (tys_of (drop l.item-index l.fields)) t l.next) (record_parts (named_to (setting l.core l.program) l.depth) l.fields t l.count);
}

-- the formulas made, and those of the clauses that are left
abbrev pub invariant-types::clauses_hold-loop-clause : goal.invariant-types::clauses_hold-loop-clause
invariant-types::clauses_hold-loop-clause l = record {
  within : AreBelow (length l.terms) l.parts.items;
  grows : length l.fn.terms ≤ length l.terms;
  vars : l.vars.items ≡ l.fn.vars.items;
  made : IsDescribed l.core l.program → (slots : Vars) (f : Term) → AreSlotsAt l.fn.terms l.fn.vars.items slots → IsAt l.fn.terms l.whole f → IsUnderway l.fn.terms l.terms l.parts.items (clause_formulas (setting l.core l.program) (named_to (setting l.core l.program) l.depth) l.words (numbered_list (seen_exprs (drop l.clause-index l.clauses)) l.next) slots l.names) (clause_parts (setting l.core l.program) (named_to (setting l.core l.program) l.depth) l.words l.clauses l.node slots f l.count);
}

-- the terms made, and those of the expressions that are left
abbrev pub invariant-lists::values_to-loop-item : goal.invariant-lists::values_to-loop-item
invariant-lists::values_to-loop-item l = record {
  within : AreBelow (length l.terms) l.made.items;
  grows : length l.fn.terms ≤ length l.terms;
  node : l.next + exprs_in_all (exprs_of (seen_exprs (drop l.item-index l.items))) ≡ l.node + exprs_in_all (exprs_of (seen_exprs l.items));
  vars : l.vars.items ≡ l.fn.vars.items;
  made : IsDescribed l.core l.program → (slots : Vars) → AreSlotsAt l.fn.terms l.fn.vars.items slots → IsUnderway l.fn.terms l.terms l.made.items (values (setting l.core l.program) (named_to (setting l.core l.program) l.depth) l.words (numbered_all (exprs_of (seen_exprs (drop l.item-index l.items))) l.next) slots l.names) (values (setting l.core l.program) (named_to (setting l.core l.program) l.depth) l.words (numbered_all (exprs_of (seen_exprs l.items)) l.node) slots l.count);
}

-- the terms and names made, and those of the fields that are left
abbrev pub invariant-lists::field_values_to-loop-item : goal.invariant-lists::field_values_to-loop-item
invariant-lists::field_values_to-loop-item l = record {
  within : AreBelow (length l.terms) (map (λ f. f.1) l.made.items);
  grows : length l.fn.terms ≤ length l.terms;
  node : l.next + exprs_in_fields (seen_fields (drop l.item-index l.items)) ≡ l.node + exprs_in_fields (seen_fields l.items);
  vars : l.vars.items ≡ l.fn.vars.items;
  fields : map (λ f. f.0) l.made.items ≡ map (λ f. f.0) (take l.item-index l.items);
  made : IsDescribed l.core l.program → (slots : Vars) → AreSlotsAt l.fn.terms l.fn.vars.items slots → IsUnderway l.fn.terms l.terms (map (λ f. f.1) l.made.items) (field_values (setting l.core l.program) (named_to (setting l.core l.program) l.depth) l.words (numbered_fields (seen_fields (drop l.item-index l.items)) l.next) slots l.names) (field_values (setting l.core l.program) (named_to (setting l.core l.program) l.depth) l.words (numbered_fields (seen_fields l.items) l.node) slots l.count);
}
