-- What small programs do, and what that spends.
use Rattle.std.specs.Prelude.{◌≡◌, ℕ, List, [], ◌∷◌, true, false, Some, None, pos, negsuc}
use Rattle.wy_term.specs.wy_value.Datum.{Null, Whole, Record, no_fields, field}
use Rattle.wy_term.specs.wy_value.declared.bounds.TheConstants.{INT_MIN}
use Rattle.wy_types.specs.wy_core.Types.{NullTy, IntTy, UnionTy, RecordTy, NamedTy, NoFieldTys, MoreFieldTys}
use Rattle.wy_types.specs.wy_core.CoreTree.{Expr, IntExpr, VarExpr, CallExpr, NegExpr, BinaryExpr, IsExpr, ListExpr, QuantExpr, NoExprs, MoreExprs, CallStmt, ReturnStmt, IfStmt, Stmts, NoStmts, MoreStmts, Core, RoutineDecl, Alias}
use Rattle.wy_types.specs.wy_core.declared.expressions.Op.TheVariants.{Div, Less, Greater, GreaterEqual}
use Rattle.wy_term.specs.declared.cond.CondKind.TheVariants as kind
use Rattle.wy_sem.specs.Meter.{Meter, Done, Fault, More, Spent}
use Rattle.wy_sem.specs.Evaluation.{evaluate, limited_evaluate}
use Rattle.wy_sem.specs.Membership.{is_member}
use Rattle.wy_sem.specs.Precondition.{precondition, cost, Met, CountFails, TypeFails, RequiresFails}

abbrev pub at_itself : ℕ → ℕ
at_itself at = at

abbrev pub left : ℕ → ℕ → List ℕ → Meter
left ticks turns output = record { ticks = ticks; turns = turns; output = output }

abbrev pub x_name : List ℕ
x_name = 120 ∷ []

abbrev pub r_name : List ℕ
r_name = 114 ∷ []

-- function abs(int x) -> (int r)
-- ensures r >= 0:
--     if x < 0:
--         return -x
--     return x
abbrev pub abs_body : Stmts ℕ
abs_body = MoreStmts (IfStmt 51 (BinaryExpr 56 Less (VarExpr 54 0) (IntExpr 58 (pos 0))) (MoreStmts (ReturnStmt 69 (Some (NegExpr 76 (VarExpr 77 0)))) NoStmts) NoStmts)
    (MoreStmts (ReturnStmt 83 (Some (VarExpr 90 0))) NoStmts)

abbrev pub abs_with : List (Expr ℕ) → Core ℕ
abs_with requires_clauses = RoutineDecl (record {
  at = 0;
  name = 97 ∷ 98 ∷ 115 ∷ [];
  is_method = false;
  variables = x_name ∷ r_name ∷ [];
  params = record { at = 13; ty = IntTy; variable = 0 } ∷ [];
  result = Some (record { at = 24; ty = IntTy; variable = Some 1 });
  preconditions = requires_clauses;
  postconditions = BinaryExpr 41 GreaterEqual (VarExpr 39 1) (IntExpr 44 (pos 0)) ∷ [];
  body = abs_body;
}) ∷ []

-- the same with `requires x > -9223372036854775808`
abbrev pub abs : Core ℕ
abs = abs_with (BinaryExpr 42 Greater (VarExpr 40 0) (IntExpr 44 (negsuc 9223372036854775807)) ∷ [])

-- function f(int x) -> (int r)
-- ensures r < r:
--     return f(x)
-- function slow(int n) -> (int r)
-- requires all { i in 0..n | i >= 0 }:
--     return 0
abbrev pub loop : Core ℕ
loop = RoutineDecl (record {
  at = 0;
  name = 102 ∷ [];
  is_method = false;
  variables = x_name ∷ r_name ∷ [];
  params = record { at = 11; ty = IntTy; variable = 0 } ∷ [];
  result = Some (record { at = 22; ty = IntTy; variable = Some 1 });
  preconditions = [];
  postconditions = BinaryExpr 39 Less (VarExpr 37 1) (VarExpr 41 1) ∷ [];
  body = MoreStmts (ReturnStmt 48 (Some (CallExpr 55 0 (MoreExprs (VarExpr 57 0) NoExprs)))) NoStmts;
})
    ∷ RoutineDecl (record {
      at = 60;
      name = 115 ∷ [];
      is_method = false;
      variables = x_name ∷ r_name ∷ x_name ∷ [];
      params = record { at = 74; ty = IntTy; variable = 0 } ∷ [];
      result = Some (record { at = 85; ty = IntTy; variable = Some 1 });
      preconditions = QuantExpr 101 true 2 (IntExpr 112 (pos 0)) (VarExpr 115 0) (BinaryExpr 121 GreaterEqual (VarExpr 119 2) (IntExpr 124 (pos 0))) ∷ [];
      postconditions = [];
      body = MoreStmts (ReturnStmt 133 (Some (IntExpr 140 (pos 0)))) NoStmts;
    })
    ∷ []

-- method hello(int n) -> (int r):
--     print("hi ")
--     print_int(n)
--     print("\n")
--     return n
abbrev pub hello : Core ℕ
hello = RoutineDecl (record {
  at = 0;
  name = 104 ∷ [];
  is_method = true;
  variables = x_name ∷ r_name ∷ [];
  params = record { at = 13; ty = IntTy; variable = 0 } ∷ [];
  result = Some (record { at = 24; ty = IntTy; variable = Some 1 });
  preconditions = [];
  postconditions = [];
  body = MoreStmts (CallStmt 36 1 (MoreExprs (ListExpr 42 (MoreExprs (IntExpr 42 (pos 104)) (MoreExprs (IntExpr 42 (pos 105)) (MoreExprs (IntExpr 42 (pos 32)) NoExprs)))) NoExprs))
      (MoreStmts (CallStmt 53 2 (MoreExprs (VarExpr 63 0) NoExprs))
      (MoreStmts (CallStmt 70 1 (MoreExprs (ListExpr 76 (MoreExprs (IntExpr 76 (pos 10)) NoExprs)) NoExprs))
      (MoreStmts (ReturnStmt 86 (Some (VarExpr 93 0))) NoStmts)));
}) ∷ []

-- ---- types with clauses: type nat is (int x) where x >= 0; type ratio is (int x) where 6 / x is nat; type List is null | {int head, List tail}
abbrev pub types : List (Alias ℕ)
types = record { at = 0; name = x_name; variables = x_name ∷ []; ty_at = 1; ty = IntTy; variable = Some 0; clauses = BinaryExpr 5 GreaterEqual (VarExpr 4 0) (IntExpr 6 (pos 0)) ∷ [] }
    ∷ record { at = 10; name = x_name; variables = x_name ∷ []; ty_at = 11; ty = IntTy; variable = Some 0; clauses = IsExpr 15 (BinaryExpr 14 Div (IntExpr 13 (pos 6)) (VarExpr 16 0)) (NamedTy 0) ∷ [] }
    ∷ record { at = 20; name = x_name; variables = []; ty_at = 21; ty = UnionTy NullTy (RecordTy (MoreFieldTys (104 ∷ []) IntTy (MoreFieldTys (116 ∷ []) (NamedTy 2) NoFieldTys))); variable = None; clauses = [] }
    ∷ []

-- ---- what they do
pub record ProgramsDo : Type 0 where
  pub abs_of_a_negative : evaluate at_itself (abs_with []) 0 (Whole (negsuc 4) ∷ []) 100 ≡ Done (Some (Whole (pos 5))) (left 92 0 [])
  -- the least `int` has no absolute value: a fault of kind range at the minus
  pub abs_of_the_least : evaluate at_itself (abs_with []) 0 (Whole INT_MIN ∷ []) 100 ≡ Fault kind.Range 76 (left 92 0 [])
  pub abs_is_not_met : precondition at_itself None abs 0 (Whole INT_MIN ∷ []) ≡ Done (RequiresFails 1) (left 0 1 [])
  pub abs_is_met : precondition at_itself None abs 0 (Whole (negsuc 4) ∷ []) ≡ Done Met (left 0 1 [])
  pub abs_wants_a_number : precondition at_itself None abs 0 (Null ∷ []) ≡ Done (TypeFails 1) (left 0 1 [])
  pub abs_wants_one : precondition at_itself None abs 0 [] ≡ Done CountFails (left 0 0 [])
  -- the caller is to blame for a requires clause, at the place of the call
  pub abs_unmet : evaluate at_itself abs 0 (Whole (negsuc 9223372036854775807) ∷ []) 100 ≡ Fault kind.Requires 0 (left 99 0 [])
  pub loops_on : evaluate at_itself loop 0 (Whole (pos 1) ∷ []) 100 ≡ More (left 0 0 [])
  pub slow_is_done : evaluate at_itself loop 1 (Whole (pos 5) ∷ []) 100 ≡ Done (Some (Whole (pos 0))) (left 97 5 [])
  -- a visit of `int`, and five turns
  pub slow_costs : cost at_itself loop 1 (Whole (pos 5) ∷ []) ≡ 6
  pub slow_is_met_within : precondition at_itself (Some 6) loop 1 (Whole (pos 5) ∷ []) ≡ Done Met (left 0 6 [])
  pub slow_passes_its_limit : precondition at_itself (Some 5) loop 1 (Whole (pos 5) ∷ []) ≡ Spent
  pub slow_spends_its_limit : limited_evaluate at_itself (Some 4) loop 1 (Whole (pos 5) ∷ []) 100 ≡ Spent
  pub says_hello : evaluate at_itself hello 0 (Whole (pos 3) ∷ []) 2000 ≡ Done (Some (Whole (pos 3))) (left 1984 4 (104 ∷ 105 ∷ 32 ∷ 51 ∷ 10 ∷ []))
  -- what was printed before ticks ran out stays
  pub stops_in_hello : evaluate at_itself hello 0 (Whole (pos 3) ∷ []) 9 ≡ More (left 0 3 (104 ∷ 105 ∷ 32 ∷ []))
  pub one_is_natural : is_member at_itself types (Whole (pos 1)) (NamedTy 0) ≡ true
  pub less_is_not : is_member at_itself types (Whole (negsuc 0)) (NamedTy 0) ≡ false
  pub two_is_a_ratio : is_member at_itself types (Whole (pos 2)) (NamedTy 1) ≡ true
  -- a clause that faults isn't true
  pub zero_is_no_ratio : is_member at_itself types (Whole (pos 0)) (NamedTy 1) ≡ false
  pub a_list : is_member at_itself types (Record (field (104 ∷ []) (Whole (pos 4)) (field (116 ∷ []) Null no_fields))) (NamedTy 2) ≡ true
  pub not_a_list : is_member at_itself types (Record (field (104 ∷ []) (Whole (pos 4)) no_fields)) (NamedTy 2) ≡ false
