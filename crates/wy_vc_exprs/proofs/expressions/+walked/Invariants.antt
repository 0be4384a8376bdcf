use Rattle.std.proofs.Common.{◌≡◌, ℕ, List, drop, map, take}
use Rattle.wy_core.specs.CoreSeen.{seen_exprs}
use Rattle.wy_core.specs.declared.expressions.Expr as e
use Rattle.wy_vc_exprs.proofs.ListLemmas.{ExprsLeft, FieldsLeft, seen_pairs}
use Rattle.wy_vc_exprs.proofs.expressions.+walked.Given as goal

-- the terms made and what is left to walk come to all
abbrev pub invariant-walked_all-loop-expr : goal.invariant-walked_all-loop-expr
invariant-walked_all-loop-expr l = ExprsLeft l.core l.program l.words l.fn.walk l.walk l.vars l.made.items (seen_exprs (drop l.expr-index l.exprs)) (seen_exprs l.exprs)

abbrev pub invariant-walked_fields-loop-field : goal.invariant-walked_fields-loop-field
invariant-walked_fields-loop-field l =
    FieldsLeft l.core l.program l.words l.fn.walk l.walk l.vars (map (λ (f : List ℕ × ℕ). f.1) l.made.items) (seen_pairs (drop l.field-index l.fields)) (seen_pairs l.fields)
    × (map (λ (f : List ℕ × ℕ). f.0) l.made.items ≡ map (λ (f : List ℕ × e.Expr). f.0) (take l.field-index l.fields))
