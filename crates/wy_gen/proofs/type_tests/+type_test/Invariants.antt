use Rattle.std.proofs.Common.{◌≡◌, ◌≤◌, ◌++◌, length, drop, map}
use Rattle.wy_core.specs.CoreSeen.{seen_ty, field_tys_of}
use Rattle.wy_code_spec.specs.compiled.TypeTests as spec
use Rattle.wy_gen.proofs.type_tests.+type_test.Given as goal

-- the fields behind have been gone through
abbrev pub invariant-test_fields-loop-left : goal.invariant-test_fields-loop-left
invariant-test_fields-loop-left l = record {
  within : l.left ≤ length l.fields;
  value : l.steps ≡ spec.fields_test l.context (field_tys_of (map (λ f. (f.0, seen_ty f.1)) (drop l.left l.fields))) l.value l.answer l.free ++ l.fn.steps;
}

abbrev pub decreases-test_fields-loop-left : goal.decreases-test_fields-loop-left
decreases-test_fields-loop-left l = l.left
