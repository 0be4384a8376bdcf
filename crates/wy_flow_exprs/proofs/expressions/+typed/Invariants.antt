use Rattle.std.proofs.Common.{drop}
use Rattle.wy_flow_spec.specs.environment.Seen.{seen_changes, seen_environment}
use Rattle.wy_flow_exprs.specs.Seen.{seen_flow, seen_program}
use Rattle.wy_types.specs.Names.{types_of}
use Rattle.wy_types.specs.Questions.{IsOver}
use Rattle.wy_flow_exprs.proofs.LoopLemmas.{ExprsLeft, FieldsLeft}
use Rattle.wy_flow_exprs.proofs.expressions.+typed.Given as goal

abbrev pub invariant-typed_all-loop-expr : goal.invariant-typed_all-loop-expr
invariant-typed_all-loop-expr l = record {
  over : IsOver (types_of l.program.names) l.walk.question;
  left : ExprsLeft (seen_program l.program) (seen_environment l.env) (seen_changes l.over) (seen_flow l.fn.walk) l.exprs (seen_flow l.walk) l.made (drop l.expr-index l.exprs);
}

abbrev pub invariant-typed_fields-loop-field : goal.invariant-typed_fields-loop-field
invariant-typed_fields-loop-field l = record {
  over : IsOver (types_of l.program.names) l.walk.question;
  left : FieldsLeft (seen_program l.program) (seen_environment l.env) (seen_changes l.over) (seen_flow l.fn.walk) l.fields (seen_flow l.walk) l.made (drop l.field-index l.fields);
}
