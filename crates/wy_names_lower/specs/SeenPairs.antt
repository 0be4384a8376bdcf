-- What lists of pairs and of parts stand for.
use Rattle.std.specs.Prelude.{ℕ, List, map}
use Rattle.wy_ast.specs.SurfaceTree as surface
use Rattle.wy_ast.specs.SurfaceSeen as surface_seen
use Rattle.wy_ast.specs.SurfaceSeen.{SeenCase, stmt_kind_layer, case_layer, stmt_layer}
use Rattle.wy_ast.specs.declared.statements.Case.{Case, fold-Case}
use Rattle.wy_ast.specs.declared.types.Ty as surface_ty
use Rattle.wy_core.specs.Types as core_types
use Rattle.wy_core.specs.CoreTree as core
use Rattle.wy_core.specs.CoreSeen.{seen_ty, seen_expr, seen_stmt}
use Rattle.wy_core.specs.declared.types.Ty as ty
use Rattle.wy_core.specs.declared.expressions.Expr as expr
use Rattle.wy_names_lower.specs.declared.quantifiers.Head as head
use Rattle.wy_names_lower.specs.declared.choices.Arm as arm
use Rattle.wy_names_lower.specs.ExprsLowered.{Head}
use Rattle.wy_names_lower.specs.StmtsLowered.{Arm}

-- these fields of a record type
abbrev pub surface_field_tys : List (List ℕ × surface_ty.Ty) → surface.FieldTys
surface_field_tys fs = surface.field_tys_of (map (λ f. (f.0, surface_seen.seen_ty f.1)) fs)

-- names with types of the core
abbrev pub typed_pairs : List (List ℕ × ty.Ty) → List (List ℕ × core_types.Ty)
typed_pairs fs = map (λ f. (f.0, seen_ty f.1)) fs

-- names with expressions of the core
abbrev pub valued_pairs : List (List ℕ × expr.Expr) → List (List ℕ × core.Expr ℕ)
valued_pairs fs = map (λ f. (f.0, seen_expr f.1)) fs

-- a range
abbrev pub seen_head : head.Head → Head
seen_head h = record { variable = h.variable; from = seen_expr h.from; to = seen_expr h.to }

-- a case
abbrev pub seen_arm : arm.Arm → Arm
seen_arm a = record { test = seen_expr a.test; body = map seen_stmt a.body }

-- the case of a switch that the node stands for
abbrev pub seen_case : Case → SeenCase
seen_case = fold-Case (ℕ → surface.Stmt) SeenCase surface.Stmt stmt_kind_layer case_layer stmt_layer
