-- Tests of variables, and operators, by the form of the node.
use Rattle.std.proofs.Common.{◌≡◌, ℕ, List, [], Some, None, Result, refl, subst}
use Rattle.wy_core.specs.Types.{Ty}
use Rattle.wy_core.specs.CoreTree.{Expr, NullExpr, BoolExpr, IntExpr, VarExpr, CallExpr, NegExpr, NotExpr, LenExpr, BinaryExpr, IsExpr, IndexExpr, FieldExpr, ListExpr, RepeatExpr, RecordExpr, QuantExpr}
use Rattle.wy_core.specs.declared.expressions.Op.{Op}
use Rattle.wy_core.specs.declared.expressions.Op.TheVariants as op
use Rattle.wy_flow_spec.specs.environment.Variables.{Environment, Changes}
use Rattle.wy_types.specs.Names.{Declared}
use Rattle.wy_flow_spec.specs.declared.typing.fault.FlowFault.{FlowFault}
use Rattle.wy_flow_spec.specs.typing.Contexts as typing
use Rattle.wy_flow_spec.specs.typing.Leaves.{Truth}
use Rattle.wy_flow_spec.specs.typing.Narrowing.{IsVariable, IsTest}
use Rattle.wy_flow_spec.specs.typing.Operators.{Binary, right_side}
use Rattle.wy_flow_spec.specs.typing.Outcomes.{Meets}
use Rattle.wy_flow_exprs.specs.declared.walk.Found.{Found}
use Rattle.wy_flow_exprs.specs.Seen.{seen_found}
use Rattle.wy_flow_exprs.specs.Tested.{tested}

-- the test of what is no variable
pub no_variable : {Z : Type 0} (names : List Declared) (at : ℕ) (e : Expr ℕ) (v : typing.Found) (t : Ty) (view : Z → typing.Found) (r : Result Z FlowFault)
    → None ≡ tested e → Meets (Truth [] [] v.flow) view r → Meets (IsTest names at e v t) view r
no_variable names at (VarExpr n x) v t view r is h = absurd cc
no_variable names at (NullExpr n) v t view r is h = h
no_variable names at (BoolExpr n truth) v t view r is h = h
no_variable names at (IntExpr n number) v t view r is h = h
no_variable names at (CallExpr n routine args) v t view r is h = h
no_variable names at (NegExpr n a) v t view r is h = h
no_variable names at (NotExpr n a) v t view r is h = h
no_variable names at (LenExpr n a) v t view r is h = h
no_variable names at (BinaryExpr n op a b) v t view r is h = h
no_variable names at (IsExpr n a u) v t view r is h = h
no_variable names at (IndexExpr n a b) v t view r is h = h
no_variable names at (FieldExpr n a f) v t view r is h = h
no_variable names at (ListExpr n items) v t view r is h = h
no_variable names at (RepeatExpr n a b) v t view r is h = h
no_variable names at (RecordExpr n fs) v t view r is h = h
no_variable names at (QuantExpr n all y a b body) v t view r is h = h

-- the test of a variable
pub of_variable : {Z : Type 0} (names : List Declared) (at x : ℕ) (e : Expr ℕ) (v : typing.Found) (t : Ty) (view : Z → typing.Found) (r : Result Z FlowFault)
    → Some x ≡ tested e → Meets (IsVariable names at x v.ty t v.flow) view r → Meets (IsTest names at e v t) view r
of_variable names at x (VarExpr n y) v t view r is h = let same : x ≡ y = cc in subst (λ (z : ℕ). Meets (IsVariable names at z v.ty t v.flow) view r) same h
of_variable names at x (NullExpr n) v t view r is h = absurd cc
of_variable names at x (BoolExpr n truth) v t view r is h = absurd cc
of_variable names at x (IntExpr n number) v t view r is h = absurd cc
of_variable names at x (CallExpr n routine args) v t view r is h = absurd cc
of_variable names at x (NegExpr n a) v t view r is h = absurd cc
of_variable names at x (NotExpr n a) v t view r is h = absurd cc
of_variable names at x (LenExpr n a) v t view r is h = absurd cc
of_variable names at x (BinaryExpr n op a b) v t view r is h = absurd cc
of_variable names at x (IsExpr n a u) v t view r is h = absurd cc
of_variable names at x (IndexExpr n a b) v t view r is h = absurd cc
of_variable names at x (FieldExpr n a f) v t view r is h = absurd cc
of_variable names at x (ListExpr n items) v t view r is h = absurd cc
of_variable names at x (RepeatExpr n a b) v t view r is h = absurd cc
of_variable names at x (RecordExpr n fs) v t view r is h = absurd cc
of_variable names at x (QuantExpr n all y a b body) v t view r is h = absurd cc

-- what was found of the left side stands before what is found later
pub binary_at : {Z : Type 0} (names : List Declared) (at : ℕ) (env : Environment) (over : Changes) (o : Op) (left : Found) (flow flow2 : List Ty) (right : typing.Found) (view : Z → typing.Found) (r : Result Z FlowFault)
    → Meets (Binary names at env over o (seen_found flow left) right) view r → Meets (Binary names at env over o (seen_found flow2 left) right) view r
binary_at names at env over op.Add left flow flow2 right view r h = h
binary_at names at env over op.Sub left flow flow2 right view r h = h
binary_at names at env over op.Mul left flow flow2 right view r h = h
binary_at names at env over op.Div left flow flow2 right view r h = h
binary_at names at env over op.Mod left flow flow2 right view r h = h
binary_at names at env over op.Equal left flow flow2 right view r h = h
binary_at names at env over op.Less left flow flow2 right view r h = h
binary_at names at env over op.LessEqual left flow flow2 right view r h = h
binary_at names at env over op.Greater left flow flow2 right view r h = h
binary_at names at env over op.GreaterEqual left flow flow2 right view r h = h
binary_at names at env over op.And left flow flow2 right view r h = h
binary_at names at env over op.Or left flow flow2 right view r h = h

pub right_at : (over : Changes) (o : Op) (left : Found) (flow flow2 : List Ty) → right_side over o (seen_found flow left) ≡ right_side over o (seen_found flow2 left)
right_at over op.Add left flow flow2 = refl
right_at over op.Sub left flow flow2 = refl
right_at over op.Mul left flow flow2 = refl
right_at over op.Div left flow flow2 = refl
right_at over op.Mod left flow flow2 = refl
right_at over op.Equal left flow flow2 = refl
right_at over op.Less left flow flow2 = refl
right_at over op.LessEqual left flow flow2 = refl
right_at over op.Greater left flow flow2 = refl
right_at over op.GreaterEqual left flow flow2 = refl
right_at over op.And left flow flow2 = refl
right_at over op.Or left flow flow2 = refl
