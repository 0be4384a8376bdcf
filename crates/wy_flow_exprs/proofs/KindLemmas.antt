-- What a node of a form meets, the expression meets that stands for it.
use Rattle.std.proofs.Common.{◌≡◌, ℕ, List, Result, sym, subst}
use Rattle.wy_core.specs.CoreTree as tree
use Rattle.wy_core.specs.Types as types
use Rattle.wy_flow_spec.specs.declared.typing.fault.FlowFault.{FlowFault}
use Rattle.wy_flow_spec.specs.environment.Variables.{Changes, Environment}
use Rattle.wy_flow_spec.specs.typing.Contexts.{Found, Program}
use Rattle.wy_flow_spec.specs.typing.Expressions.{TypedExpr}
use Rattle.wy_flow_spec.specs.typing.Outcomes.{Meets, Outcome}

-- what a node of this form meets, the expression meets that stands for it
pub as_kind : {Z : Type 0} (p : Program) (env : Environment) (over : Changes) (flow : List types.Ty) (x y : tree.Expr ℕ) (view : Z → Found) (r : Result Z FlowFault) → x ≡ y → Meets (TypedExpr p env y over flow) view r → Meets (TypedExpr p env x over flow) view r
as_kind p env over flow x y view r is h = subst (λ (z : tree.Expr ℕ). Meets (TypedExpr p env z over flow) view r) (sym is) h

-- an expression under these changes, where others are the same
pub under : (p : Program) (env : Environment) (x : tree.Expr ℕ) (over over2 : Changes) (flow : List types.Ty) (o : Outcome Found) → over ≡ over2 → TypedExpr p env x over flow o → TypedExpr p env x over2 flow o
under p env x over over2 flow o is h = subst (λ (c : Changes). TypedExpr p env x c flow o) is h
