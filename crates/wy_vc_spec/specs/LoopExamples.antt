-- What programs with loops and with each kind of operation owe.
use Rattle.std.specs.Prelude.{ℕ, List, [], ◌∷◌, true, false, Some, None, pos, negsuc}
use Rattle.wy_sem.specs.wy_core.Types.{Ty, BoolTy, IntTy, ArrayTy}
use Rattle.wy_sem.specs.wy_core.CoreTree.{IntExpr, VarExpr, LenExpr, BinaryExpr, ListExpr, RepeatExpr, NoExprs, MoreExprs, DeclareStmt, AssignStmt, CallStmt, ReturnStmt, AssertStmt, BreakStmt, ContinueStmt, SkipStmt, FailStmt, IfStmt, WhileStmt, NoStmts, MoreStmts, RoutineDecl, Core}
use Rattle.wy_sem.specs.wy_core.declared.expressions.Op.TheVariants as op
use Rattle.wy_sem.specs.wy_term.declared.cond.CondKind.TheVariants as kind
use Rattle.wy_sem.specs.wy_term.Term.{Term, Of, no_parts, part, leaf, one, two, number, add, sub, div, rem, num, len, val_name, int, bool, repeat, at_most, equal, of_kind, denied, all_of, any_of, int_kind}
use Rattle.wy_vc_spec.specs.Owed.{Owed}
use Rattle.wy_vc_spec.specs.ExampleParts.{owed, number_type, other}

-- function again(int n) -> (int r)
-- requires 0 <= n
-- ensures 0 <= r:
--     int i = 0
--     while i < n where 0 <= i:
--         i = i + 1
--         if i == 5:
--             continue
--         skip
--     return i
abbrev pub again : Core ℕ
again = RoutineDecl (record { at = 0; name = (97 ∷ 103 ∷ 97 ∷ 105 ∷ 110 ∷ []); is_method = false; variables = ((110 ∷ []) ∷ (114 ∷ []) ∷ (105 ∷ []) ∷ []); params = ((record { at = 0; ty = IntTy; variable = 0 }) ∷ []); result = (Some (record { at = 0; ty = IntTy; variable = (Some 1) })); preconditions = ((BinaryExpr 44 op.LessEqual (IntExpr 42 (pos 0)) (VarExpr 47 0)) ∷ []); postconditions = ((BinaryExpr 59 op.LessEqual (IntExpr 57 (pos 0)) (VarExpr 62 1)) ∷ []); body = (MoreStmts (DeclareStmt 69 IntTy 2 (Some (IntExpr 77 (pos 0)))) (MoreStmts (WhileStmt 83 (BinaryExpr 91 op.Less (VarExpr 89 2) (VarExpr 93 0)) ((BinaryExpr 103 op.LessEqual (IntExpr 101 (pos 0)) (VarExpr 106 2)) ∷ []) (MoreStmts (AssignStmt 117 2 ([]) (BinaryExpr 123 op.Add (VarExpr 121 2) (IntExpr 125 (pos 1)))) (MoreStmts (IfStmt 135 (BinaryExpr 140 op.Equal (VarExpr 138 2) (IntExpr 143 (pos 5))) (MoreStmts (ContinueStmt 158) NoStmts) NoStmts) (MoreStmts (SkipStmt 175) NoStmts)))) (MoreStmts (ReturnStmt 184 (Some (VarExpr 191 2))) NoStmts))) }) ∷ []

abbrev pub again_numbers : List Ty
again_numbers = (number_type ∷ number_type ∷ other ∷ number_type ∷ number_type ∷ other ∷ number_type ∷ number_type ∷ number_type ∷ other ∷ number_type ∷ number_type ∷ other ∷ number_type ∷ number_type ∷ number_type ∷ number_type ∷ number_type ∷ other ∷ number_type ∷ [])

abbrev pub again_0 : Term
again_0 = one (of_kind int_kind) (leaf (val_name (110 ∷ []) 0))

abbrev pub again_1 : Term
again_1 = two at_most (leaf (number (negsuc 39614081257132168796771975167))) (one num (leaf (val_name (110 ∷ []) 0)))

abbrev pub again_2 : Term
again_2 = two at_most (one num (leaf (val_name (110 ∷ []) 0))) (leaf (number (pos 39614081257132168796771975167)))

abbrev pub again_3 : Term
again_3 = two at_most (leaf (number (pos 0))) (one num (leaf (val_name (110 ∷ []) 0)))

abbrev pub again_4 : Term
again_4 = leaf all_of

abbrev pub again_5 : Term
again_5 = one (of_kind int_kind) (leaf (val_name (105 ∷ []) 1))

abbrev pub again_6 : Term
again_6 = two at_most (leaf (number (negsuc 39614081257132168796771975167))) (one num (leaf (val_name (105 ∷ []) 1)))

abbrev pub again_7 : Term
again_7 = two at_most (one num (leaf (val_name (105 ∷ []) 1))) (leaf (number (pos 39614081257132168796771975167)))

abbrev pub again_8 : Term
again_8 = two at_most (leaf (number (pos 0))) (one num (leaf (val_name (105 ∷ []) 1)))

abbrev pub again_9 : Term
again_9 = one denied (two at_most (one num (leaf (val_name (110 ∷ []) 0))) (one num (leaf (val_name (105 ∷ []) 1))))

abbrev pub again_10 : Term
again_10 = two at_most (leaf (number (negsuc 39614081257132168796771975167))) (two add (one num (leaf (val_name (105 ∷ []) 1))) (leaf (number (pos 1))))

abbrev pub again_11 : Term
again_11 = two at_most (two add (one num (leaf (val_name (105 ∷ []) 1))) (leaf (number (pos 1)))) (leaf (number (pos 39614081257132168796771975167)))

abbrev pub again_12 : Term
again_12 = two at_most (two add (one num (leaf (val_name (105 ∷ []) 1))) (leaf (number (pos 1)))) (leaf (number (pos 5)))

abbrev pub again_13 : Term
again_13 = two at_most (leaf (number (pos 5))) (two add (one num (leaf (val_name (105 ∷ []) 1))) (leaf (number (pos 1))))

abbrev pub again_14 : Term
again_14 = two at_most (leaf (number (pos 0))) (two add (one num (leaf (val_name (105 ∷ []) 1))) (leaf (number (pos 1))))

abbrev pub again_15 : Term
again_15 = one denied (Of all_of (part (two at_most (two add (one num (leaf (val_name (105 ∷ []) 1))) (leaf (number (pos 1)))) (leaf (number (pos 5)))) (part (two at_most (leaf (number (pos 5))) (two add (one num (leaf (val_name (105 ∷ []) 1))) (leaf (number (pos 1))))) no_parts)))

abbrev pub again_16 : Term
again_16 = two at_most (one num (leaf (val_name (110 ∷ []) 0))) (one num (leaf (val_name (105 ∷ []) 1)))

abbrev pub again_conditions : List Owed
again_conditions = (owed kind.Entry 83 (again_0 ∷ again_1 ∷ again_2 ∷ again_3 ∷ []) again_4 ∷ owed kind.Range 123 (again_0 ∷ again_1 ∷ again_2 ∷ again_3 ∷ again_5 ∷ again_6 ∷ again_7 ∷ again_8 ∷ again_9 ∷ []) again_10 ∷ owed kind.Range 123 (again_0 ∷ again_1 ∷ again_2 ∷ again_3 ∷ again_5 ∷ again_6 ∷ again_7 ∷ again_8 ∷ again_9 ∷ again_10 ∷ []) again_11 ∷ owed kind.Keep 158 (again_0 ∷ again_1 ∷ again_2 ∷ again_3 ∷ again_5 ∷ again_6 ∷ again_7 ∷ again_8 ∷ again_9 ∷ again_10 ∷ again_11 ∷ again_12 ∷ again_13 ∷ []) again_14 ∷ owed kind.Keep 83 (again_0 ∷ again_1 ∷ again_2 ∷ again_3 ∷ again_5 ∷ again_6 ∷ again_7 ∷ again_8 ∷ again_9 ∷ again_10 ∷ again_11 ∷ again_15 ∷ []) again_14 ∷ owed kind.Ensures 184 (again_0 ∷ again_1 ∷ again_2 ∷ again_3 ∷ again_5 ∷ again_6 ∷ again_7 ∷ again_8 ∷ again_16 ∷ []) again_8 ∷ [])

-- method divided(int n, int d) -> (int r)
-- requires 0 <= n:
--     int[] a = [d; n]
--     print([104, 105])
--     if d == 0:
--         fail
--     assert |a| >= 0
--     return n / d + n % d
abbrev pub divided : Core ℕ
divided = RoutineDecl (record { at = 0; name = (100 ∷ 105 ∷ 118 ∷ 105 ∷ 100 ∷ 101 ∷ 100 ∷ []); is_method = true; variables = ((110 ∷ []) ∷ (100 ∷ []) ∷ (114 ∷ []) ∷ (97 ∷ []) ∷ []); params = ((record { at = 0; ty = IntTy; variable = 0 }) ∷ (record { at = 0; ty = IntTy; variable = 1 }) ∷ []); result = (Some (record { at = 0; ty = IntTy; variable = (Some 2) })); preconditions = ((BinaryExpr 51 op.LessEqual (IntExpr 49 (pos 0)) (VarExpr 54 0)) ∷ []); postconditions = ([]); body = (MoreStmts (DeclareStmt 61 (ArrayTy IntTy) 3 (Some (RepeatExpr 71 (VarExpr 72 1) (VarExpr 75 0)))) (MoreStmts (CallStmt 82 1 (MoreExprs (ListExpr 88 (MoreExprs (IntExpr 89 (pos 104)) (MoreExprs (IntExpr 94 (pos 105)) NoExprs))) NoExprs)) (MoreStmts (IfStmt 104 (BinaryExpr 109 op.Equal (VarExpr 107 1) (IntExpr 112 (pos 0))) (MoreStmts (FailStmt 123) NoStmts) NoStmts) (MoreStmts (AssertStmt 132 (BinaryExpr 143 op.GreaterEqual (LenExpr 139 (VarExpr 140 3)) (IntExpr 146 (pos 0)))) (MoreStmts (ReturnStmt 152 (Some (BinaryExpr 165 op.Add (BinaryExpr 161 op.Div (VarExpr 159 0) (VarExpr 163 1)) (BinaryExpr 169 op.Mod (VarExpr 167 0) (VarExpr 171 1))))) NoStmts))))) }) ∷ []

abbrev pub divided_numbers : List Ty
divided_numbers = (number_type ∷ number_type ∷ other ∷ number_type ∷ number_type ∷ other ∷ number_type ∷ number_type ∷ other ∷ number_type ∷ number_type ∷ other ∷ other ∷ number_type ∷ number_type ∷ other ∷ number_type ∷ number_type ∷ number_type ∷ number_type ∷ number_type ∷ number_type ∷ number_type ∷ [])

abbrev pub divided_0 : Term
divided_0 = one (of_kind int_kind) (leaf (val_name (110 ∷ []) 0))

abbrev pub divided_1 : Term
divided_1 = two at_most (leaf (number (negsuc 39614081257132168796771975167))) (one num (leaf (val_name (110 ∷ []) 0)))

abbrev pub divided_2 : Term
divided_2 = two at_most (one num (leaf (val_name (110 ∷ []) 0))) (leaf (number (pos 39614081257132168796771975167)))

abbrev pub divided_3 : Term
divided_3 = one (of_kind int_kind) (leaf (val_name (100 ∷ []) 1))

abbrev pub divided_4 : Term
divided_4 = two at_most (leaf (number (negsuc 39614081257132168796771975167))) (one num (leaf (val_name (100 ∷ []) 1)))

abbrev pub divided_5 : Term
divided_5 = two at_most (one num (leaf (val_name (100 ∷ []) 1))) (leaf (number (pos 39614081257132168796771975167)))

abbrev pub divided_6 : Term
divided_6 = two at_most (leaf (number (pos 0))) (one num (leaf (val_name (110 ∷ []) 0)))

abbrev pub divided_7 : Term
divided_7 = two at_most (one num (leaf (val_name (110 ∷ []) 0))) (leaf (number (pos 9223372036854775807)))

abbrev pub divided_8 : Term
divided_8 = leaf all_of

abbrev pub divided_9 : Term
divided_9 = two at_most (one num (leaf (val_name (100 ∷ []) 1))) (leaf (number (pos 0)))

abbrev pub divided_10 : Term
divided_10 = two at_most (leaf (number (pos 0))) (one num (leaf (val_name (100 ∷ []) 1)))

abbrev pub divided_11 : Term
divided_11 = leaf any_of

abbrev pub divided_12 : Term
divided_12 = one denied (Of all_of (part (two at_most (one num (leaf (val_name (100 ∷ []) 1))) (leaf (number (pos 0)))) (part (two at_most (leaf (number (pos 0))) (one num (leaf (val_name (100 ∷ []) 1)))) no_parts)))

abbrev pub divided_13 : Term
divided_13 = two at_most (leaf (number (pos 0))) (one len (two repeat (leaf (val_name (100 ∷ []) 1)) (one num (leaf (val_name (110 ∷ []) 0)))))

abbrev pub divided_14 : Term
divided_14 = Of any_of (part (one denied (two at_most (one num (leaf (val_name (100 ∷ []) 1))) (leaf (number (pos 0))))) (part (one denied (two at_most (leaf (number (pos 0))) (one num (leaf (val_name (100 ∷ []) 1))))) no_parts))

abbrev pub divided_15 : Term
divided_15 = two at_most (leaf (number (negsuc 39614081257132168796771975167))) (two div (one num (leaf (val_name (110 ∷ []) 0))) (one num (leaf (val_name (100 ∷ []) 1))))

abbrev pub divided_16 : Term
divided_16 = two at_most (two div (one num (leaf (val_name (110 ∷ []) 0))) (one num (leaf (val_name (100 ∷ []) 1)))) (leaf (number (pos 39614081257132168796771975167)))

abbrev pub divided_17 : Term
divided_17 = two at_most (leaf (number (negsuc 39614081257132168796771975167))) (two add (two div (one num (leaf (val_name (110 ∷ []) 0))) (one num (leaf (val_name (100 ∷ []) 1)))) (two rem (one num (leaf (val_name (110 ∷ []) 0))) (one num (leaf (val_name (100 ∷ []) 1)))))

abbrev pub divided_18 : Term
divided_18 = two at_most (two add (two div (one num (leaf (val_name (110 ∷ []) 0))) (one num (leaf (val_name (100 ∷ []) 1)))) (two rem (one num (leaf (val_name (110 ∷ []) 0))) (one num (leaf (val_name (100 ∷ []) 1))))) (leaf (number (pos 39614081257132168796771975167)))

abbrev pub divided_conditions : List Owed
divided_conditions = (owed kind.Length 71 (divided_0 ∷ divided_1 ∷ divided_2 ∷ divided_3 ∷ divided_4 ∷ divided_5 ∷ divided_6 ∷ []) divided_6 ∷ owed kind.Length 71 (divided_0 ∷ divided_1 ∷ divided_2 ∷ divided_3 ∷ divided_4 ∷ divided_5 ∷ divided_6 ∷ divided_6 ∷ []) divided_7 ∷ owed kind.Requires 82 (divided_0 ∷ divided_1 ∷ divided_2 ∷ divided_3 ∷ divided_4 ∷ divided_5 ∷ divided_6 ∷ divided_6 ∷ divided_7 ∷ []) divided_8 ∷ owed kind.Fail 123 (divided_0 ∷ divided_1 ∷ divided_2 ∷ divided_3 ∷ divided_4 ∷ divided_5 ∷ divided_6 ∷ divided_6 ∷ divided_7 ∷ divided_9 ∷ divided_10 ∷ []) divided_11 ∷ owed kind.Assert 132 (divided_0 ∷ divided_1 ∷ divided_2 ∷ divided_3 ∷ divided_4 ∷ divided_5 ∷ divided_6 ∷ divided_6 ∷ divided_7 ∷ divided_12 ∷ []) divided_13 ∷ owed kind.Divisor 161 (divided_0 ∷ divided_1 ∷ divided_2 ∷ divided_3 ∷ divided_4 ∷ divided_5 ∷ divided_6 ∷ divided_6 ∷ divided_7 ∷ divided_12 ∷ divided_13 ∷ []) divided_14 ∷ owed kind.Range 161 (divided_0 ∷ divided_1 ∷ divided_2 ∷ divided_3 ∷ divided_4 ∷ divided_5 ∷ divided_6 ∷ divided_6 ∷ divided_7 ∷ divided_12 ∷ divided_13 ∷ divided_14 ∷ []) divided_15 ∷ owed kind.Range 161 (divided_0 ∷ divided_1 ∷ divided_2 ∷ divided_3 ∷ divided_4 ∷ divided_5 ∷ divided_6 ∷ divided_6 ∷ divided_7 ∷ divided_12 ∷ divided_13 ∷ divided_14 ∷ divided_15 ∷ []) divided_16 ∷ owed kind.Divisor 169 (divided_0 ∷ divided_1 ∷ divided_2 ∷ divided_3 ∷ divided_4 ∷ divided_5 ∷ divided_6 ∷ divided_6 ∷ divided_7 ∷ divided_12 ∷ divided_13 ∷ divided_14 ∷ divided_15 ∷ divided_16 ∷ []) divided_14 ∷ owed kind.Range 165 (divided_0 ∷ divided_1 ∷ divided_2 ∷ divided_3 ∷ divided_4 ∷ divided_5 ∷ divided_6 ∷ divided_6 ∷ divided_7 ∷ divided_12 ∷ divided_13 ∷ divided_14 ∷ divided_15 ∷ divided_16 ∷ divided_14 ∷ []) divided_17 ∷ owed kind.Range 165 (divided_0 ∷ divided_1 ∷ divided_2 ∷ divided_3 ∷ divided_4 ∷ divided_5 ∷ divided_6 ∷ divided_6 ∷ divided_7 ∷ divided_12 ∷ divided_13 ∷ divided_14 ∷ divided_15 ∷ divided_16 ∷ divided_14 ∷ divided_17 ∷ []) divided_18 ∷ [])

-- function lazy(int n) -> (int r)
-- requires 0 <= n && n < 100
-- ensures r >= 0:
--     int y
--     bool done
--     int i = 0
--     if n > 38:
--         y = n
--     while i < n where 0 <= i && i <= n:
--         y = i
--         done = i > 3
--         i = i + 1
--         if done:
--             break
--     y = i
--     return y
abbrev pub lazy : Core ℕ
lazy = RoutineDecl (record { at = 0; name = (108 ∷ 97 ∷ 122 ∷ 121 ∷ []); is_method = false; variables = ((110 ∷ []) ∷ (114 ∷ []) ∷ (121 ∷ []) ∷ (100 ∷ 111 ∷ 110 ∷ 101 ∷ []) ∷ (105 ∷ []) ∷ []); params = ((record { at = 0; ty = IntTy; variable = 0 }) ∷ []); result = (Some (record { at = 0; ty = IntTy; variable = (Some 1) })); preconditions = ((BinaryExpr 48 op.And (BinaryExpr 43 op.LessEqual (IntExpr 41 (pos 0)) (VarExpr 46 0)) (BinaryExpr 53 op.Less (VarExpr 51 0) (IntExpr 55 (pos 100)))) ∷ []); postconditions = ((BinaryExpr 69 op.GreaterEqual (VarExpr 67 1) (IntExpr 72 (pos 0))) ∷ []); body = (MoreStmts (DeclareStmt 79 IntTy 2 None) (MoreStmts (DeclareStmt 89 BoolTy 3 None) (MoreStmts (DeclareStmt 103 IntTy 4 (Some (IntExpr 111 (pos 0)))) (MoreStmts (IfStmt 117 (BinaryExpr 122 op.Greater (VarExpr 120 0) (IntExpr 124 (pos 38))) (MoreStmts (AssignStmt 136 2 ([]) (VarExpr 140 0)) NoStmts) NoStmts) (MoreStmts (WhileStmt 146 (BinaryExpr 154 op.Less (VarExpr 152 4) (VarExpr 156 0)) ((BinaryExpr 171 op.And (BinaryExpr 166 op.LessEqual (IntExpr 164 (pos 0)) (VarExpr 169 4)) (BinaryExpr 176 op.LessEqual (VarExpr 174 4) (VarExpr 179 0))) ∷ []) (MoreStmts (AssignStmt 190 2 ([]) (VarExpr 194 4)) (MoreStmts (AssignStmt 204 3 ([]) (BinaryExpr 213 op.Greater (VarExpr 211 4) (IntExpr 215 (pos 3)))) (MoreStmts (AssignStmt 225 4 ([]) (BinaryExpr 231 op.Add (VarExpr 229 4) (IntExpr 233 (pos 1)))) (MoreStmts (IfStmt 243 (VarExpr 246 3) (MoreStmts (BreakStmt 264) NoStmts) NoStmts) NoStmts))))) (MoreStmts (AssignStmt 274 2 ([]) (VarExpr 278 4)) (MoreStmts (ReturnStmt 284 (Some (VarExpr 291 2))) NoStmts))))))) }) ∷ []

abbrev pub lazy_numbers : List Ty
lazy_numbers = (number_type ∷ number_type ∷ other ∷ number_type ∷ number_type ∷ other ∷ other ∷ number_type ∷ number_type ∷ other ∷ number_type ∷ number_type ∷ number_type ∷ other ∷ number_type ∷ number_type ∷ number_type ∷ other ∷ number_type ∷ number_type ∷ other ∷ number_type ∷ number_type ∷ other ∷ other ∷ number_type ∷ number_type ∷ number_type ∷ other ∷ number_type ∷ number_type ∷ number_type ∷ other ∷ number_type ∷ number_type ∷ [])

abbrev pub lazy_0 : Term
lazy_0 = one (of_kind int_kind) (leaf (val_name (110 ∷ []) 0))

abbrev pub lazy_1 : Term
lazy_1 = two at_most (leaf (number (negsuc 39614081257132168796771975167))) (one num (leaf (val_name (110 ∷ []) 0)))

abbrev pub lazy_2 : Term
lazy_2 = two at_most (one num (leaf (val_name (110 ∷ []) 0))) (leaf (number (pos 39614081257132168796771975167)))

abbrev pub lazy_3 : Term
lazy_3 = two at_most (leaf (number (pos 0))) (one num (leaf (val_name (110 ∷ []) 0)))

abbrev pub lazy_4 : Term
lazy_4 = one denied (two at_most (leaf (number (pos 100))) (one num (leaf (val_name (110 ∷ []) 0))))

abbrev pub lazy_5 : Term
lazy_5 = Of any_of (part (Of all_of (part (one denied (two at_most (one num (leaf (val_name (110 ∷ []) 0))) (leaf (number (pos 38))))) (part (two equal (leaf (val_name (121 ∷ []) 3)) (leaf (val_name (110 ∷ []) 0))) no_parts))) (part (Of all_of (part (two at_most (one num (leaf (val_name (110 ∷ []) 0))) (leaf (number (pos 38)))) (part (two equal (leaf (val_name (121 ∷ []) 3)) (leaf (val_name (121 ∷ []) 1))) no_parts))) no_parts))

abbrev pub lazy_6 : Term
lazy_6 = leaf all_of

abbrev pub lazy_7 : Term
lazy_7 = one (of_kind int_kind) (leaf (val_name (105 ∷ []) 6))

abbrev pub lazy_8 : Term
lazy_8 = two at_most (leaf (number (negsuc 39614081257132168796771975167))) (one num (leaf (val_name (105 ∷ []) 6)))

abbrev pub lazy_9 : Term
lazy_9 = two at_most (one num (leaf (val_name (105 ∷ []) 6))) (leaf (number (pos 39614081257132168796771975167)))

abbrev pub lazy_10 : Term
lazy_10 = two at_most (leaf (number (pos 0))) (one num (leaf (val_name (105 ∷ []) 6)))

abbrev pub lazy_11 : Term
lazy_11 = two at_most (one num (leaf (val_name (105 ∷ []) 6))) (one num (leaf (val_name (110 ∷ []) 0)))

abbrev pub lazy_12 : Term
lazy_12 = one denied (two at_most (one num (leaf (val_name (110 ∷ []) 0))) (one num (leaf (val_name (105 ∷ []) 6))))

abbrev pub lazy_13 : Term
lazy_13 = two at_most (leaf (number (negsuc 39614081257132168796771975167))) (two add (one num (leaf (val_name (105 ∷ []) 6))) (leaf (number (pos 1))))

abbrev pub lazy_14 : Term
lazy_14 = two at_most (two add (one num (leaf (val_name (105 ∷ []) 6))) (leaf (number (pos 1)))) (leaf (number (pos 39614081257132168796771975167)))

abbrev pub lazy_15 : Term
lazy_15 = two at_most (one num (leaf (val_name (105 ∷ []) 6))) (leaf (number (pos 3)))

abbrev pub lazy_16 : Term
lazy_16 = two at_most (leaf (number (pos 0))) (two add (one num (leaf (val_name (105 ∷ []) 6))) (leaf (number (pos 1))))

abbrev pub lazy_17 : Term
lazy_17 = two at_most (two add (one num (leaf (val_name (105 ∷ []) 6))) (leaf (number (pos 1)))) (one num (leaf (val_name (110 ∷ []) 0)))

abbrev pub lazy_18 : Term
lazy_18 = Of any_of (part (Of all_of (part (two at_most (one num (leaf (val_name (110 ∷ []) 0))) (one num (leaf (val_name (105 ∷ []) 6)))) (part (two equal (leaf (val_name (121 ∷ []) 7)) (leaf (val_name (121 ∷ []) 4))) (part (two equal (leaf (val_name (100 ∷ 111 ∷ 110 ∷ 101 ∷ []) 8)) (leaf (val_name (100 ∷ 111 ∷ 110 ∷ 101 ∷ []) 5))) (part (two equal (leaf (val_name (105 ∷ []) 9)) (leaf (val_name (105 ∷ []) 6))) no_parts))))) (part (Of all_of (part (one denied (two at_most (one num (leaf (val_name (110 ∷ []) 0))) (one num (leaf (val_name (105 ∷ []) 6))))) (part (two at_most (leaf (number (negsuc 39614081257132168796771975167))) (two add (one num (leaf (val_name (105 ∷ []) 6))) (leaf (number (pos 1))))) (part (two at_most (two add (one num (leaf (val_name (105 ∷ []) 6))) (leaf (number (pos 1)))) (leaf (number (pos 39614081257132168796771975167)))) (part (one denied (two at_most (one num (leaf (val_name (105 ∷ []) 6))) (leaf (number (pos 3))))) (part (two equal (leaf (val_name (121 ∷ []) 7)) (leaf (val_name (105 ∷ []) 6))) (part (two equal (leaf (val_name (100 ∷ 111 ∷ 110 ∷ 101 ∷ []) 8)) (one bool (one denied (two at_most (one num (leaf (val_name (105 ∷ []) 6))) (leaf (number (pos 3))))))) (part (two equal (leaf (val_name (105 ∷ []) 9)) (one int (two add (one num (leaf (val_name (105 ∷ []) 6))) (leaf (number (pos 1)))))) no_parts)))))))) no_parts))

abbrev pub lazy_19 : Term
lazy_19 = two at_most (leaf (number (pos 0))) (one num (leaf (val_name (105 ∷ []) 9)))

abbrev pub lazy_conditions : List Owed
lazy_conditions = (owed kind.Entry 146 (lazy_0 ∷ lazy_1 ∷ lazy_2 ∷ lazy_3 ∷ lazy_4 ∷ lazy_5 ∷ []) lazy_6 ∷ owed kind.Entry 146 (lazy_0 ∷ lazy_1 ∷ lazy_2 ∷ lazy_3 ∷ lazy_4 ∷ lazy_5 ∷ []) lazy_3 ∷ owed kind.Range 231 (lazy_0 ∷ lazy_1 ∷ lazy_2 ∷ lazy_3 ∷ lazy_4 ∷ lazy_5 ∷ lazy_3 ∷ lazy_7 ∷ lazy_8 ∷ lazy_9 ∷ lazy_10 ∷ lazy_11 ∷ lazy_12 ∷ []) lazy_13 ∷ owed kind.Range 231 (lazy_0 ∷ lazy_1 ∷ lazy_2 ∷ lazy_3 ∷ lazy_4 ∷ lazy_5 ∷ lazy_3 ∷ lazy_7 ∷ lazy_8 ∷ lazy_9 ∷ lazy_10 ∷ lazy_11 ∷ lazy_12 ∷ lazy_13 ∷ []) lazy_14 ∷ owed kind.Keep 146 (lazy_0 ∷ lazy_1 ∷ lazy_2 ∷ lazy_3 ∷ lazy_4 ∷ lazy_5 ∷ lazy_3 ∷ lazy_7 ∷ lazy_8 ∷ lazy_9 ∷ lazy_10 ∷ lazy_11 ∷ lazy_12 ∷ lazy_13 ∷ lazy_14 ∷ lazy_15 ∷ []) lazy_16 ∷ owed kind.Keep 146 (lazy_0 ∷ lazy_1 ∷ lazy_2 ∷ lazy_3 ∷ lazy_4 ∷ lazy_5 ∷ lazy_3 ∷ lazy_7 ∷ lazy_8 ∷ lazy_9 ∷ lazy_10 ∷ lazy_11 ∷ lazy_12 ∷ lazy_13 ∷ lazy_14 ∷ lazy_15 ∷ lazy_16 ∷ []) lazy_17 ∷ owed kind.Ensures 284 (lazy_0 ∷ lazy_1 ∷ lazy_2 ∷ lazy_3 ∷ lazy_4 ∷ lazy_5 ∷ lazy_3 ∷ lazy_7 ∷ lazy_8 ∷ lazy_9 ∷ lazy_10 ∷ lazy_11 ∷ lazy_18 ∷ []) lazy_19 ∷ [])

-- function shift(int x) -> (int r)
-- requires 0 <= x && x <= 15
-- ensures r == x + 15:
--     int y = x
--     x = x + 15
--     y = y + 0
--     while y > 0 where y <= 24:
--         y = y - 1
--     return x
abbrev pub shift : Core ℕ
shift = RoutineDecl (record { at = 0; name = (115 ∷ 104 ∷ 105 ∷ 102 ∷ 116 ∷ []); is_method = false; variables = ((120 ∷ []) ∷ (114 ∷ []) ∷ (121 ∷ []) ∷ []); params = ((record { at = 0; ty = IntTy; variable = 0 }) ∷ []); result = (Some (record { at = 0; ty = IntTy; variable = (Some 1) })); preconditions = ((BinaryExpr 49 op.And (BinaryExpr 44 op.LessEqual (IntExpr 42 (pos 0)) (VarExpr 47 0)) (BinaryExpr 54 op.LessEqual (VarExpr 52 0) (IntExpr 57 (pos 15)))) ∷ []); postconditions = ((BinaryExpr 70 op.Equal (VarExpr 68 1) (BinaryExpr 75 op.Add (VarExpr 73 0) (IntExpr 77 (pos 15)))) ∷ []); body = (MoreStmts (DeclareStmt 85 IntTy 2 (Some (VarExpr 93 0))) (MoreStmts (AssignStmt 99 0 ([]) (BinaryExpr 105 op.Add (VarExpr 103 0) (IntExpr 107 (pos 15)))) (MoreStmts (AssignStmt 114 2 ([]) (BinaryExpr 120 op.Add (VarExpr 118 2) (IntExpr 122 (pos 0)))) (MoreStmts (WhileStmt 128 (BinaryExpr 136 op.Greater (VarExpr 134 2) (IntExpr 138 (pos 0))) ((BinaryExpr 148 op.LessEqual (VarExpr 146 2) (IntExpr 151 (pos 24))) ∷ []) (MoreStmts (AssignStmt 163 2 ([]) (BinaryExpr 169 op.Sub (VarExpr 167 2) (IntExpr 171 (pos 1)))) NoStmts)) (MoreStmts (ReturnStmt 177 (Some (VarExpr 184 0))) NoStmts))))) }) ∷ []

abbrev pub shift_numbers : List Ty
shift_numbers = (number_type ∷ number_type ∷ other ∷ number_type ∷ number_type ∷ other ∷ other ∷ number_type ∷ number_type ∷ number_type ∷ number_type ∷ other ∷ number_type ∷ number_type ∷ number_type ∷ number_type ∷ number_type ∷ number_type ∷ number_type ∷ number_type ∷ number_type ∷ other ∷ number_type ∷ number_type ∷ other ∷ number_type ∷ number_type ∷ number_type ∷ number_type ∷ [])

abbrev pub shift_0 : Term
shift_0 = one (of_kind int_kind) (leaf (val_name (120 ∷ []) 0))

abbrev pub shift_1 : Term
shift_1 = two at_most (leaf (number (negsuc 39614081257132168796771975167))) (one num (leaf (val_name (120 ∷ []) 0)))

abbrev pub shift_2 : Term
shift_2 = two at_most (one num (leaf (val_name (120 ∷ []) 0))) (leaf (number (pos 39614081257132168796771975167)))

abbrev pub shift_3 : Term
shift_3 = two at_most (leaf (number (pos 0))) (one num (leaf (val_name (120 ∷ []) 0)))

abbrev pub shift_4 : Term
shift_4 = two at_most (one num (leaf (val_name (120 ∷ []) 0))) (leaf (number (pos 15)))

abbrev pub shift_5 : Term
shift_5 = one (of_kind int_kind) (leaf (val_name (114 ∷ []) 1))

abbrev pub shift_6 : Term
shift_6 = two at_most (leaf (number (negsuc 39614081257132168796771975167))) (one num (leaf (val_name (114 ∷ []) 1)))

abbrev pub shift_7 : Term
shift_7 = two at_most (one num (leaf (val_name (114 ∷ []) 1))) (leaf (number (pos 39614081257132168796771975167)))

abbrev pub shift_8 : Term
shift_8 = two at_most (leaf (number (negsuc 39614081257132168796771975167))) (two add (one num (leaf (val_name (120 ∷ []) 0))) (leaf (number (pos 15))))

abbrev pub shift_9 : Term
shift_9 = two at_most (two add (one num (leaf (val_name (120 ∷ []) 0))) (leaf (number (pos 15)))) (leaf (number (pos 39614081257132168796771975167)))

abbrev pub shift_10 : Term
shift_10 = two at_most (leaf (number (negsuc 39614081257132168796771975167))) (two add (one num (leaf (val_name (120 ∷ []) 0))) (leaf (number (pos 0))))

abbrev pub shift_11 : Term
shift_11 = two at_most (two add (one num (leaf (val_name (120 ∷ []) 0))) (leaf (number (pos 0)))) (leaf (number (pos 39614081257132168796771975167)))

abbrev pub shift_12 : Term
shift_12 = two at_most (two add (one num (leaf (val_name (120 ∷ []) 0))) (leaf (number (pos 0)))) (leaf (number (pos 24)))

abbrev pub shift_13 : Term
shift_13 = one (of_kind int_kind) (leaf (val_name (121 ∷ []) 1))

abbrev pub shift_14 : Term
shift_14 = two at_most (leaf (number (negsuc 39614081257132168796771975167))) (one num (leaf (val_name (121 ∷ []) 1)))

abbrev pub shift_15 : Term
shift_15 = two at_most (one num (leaf (val_name (121 ∷ []) 1))) (leaf (number (pos 39614081257132168796771975167)))

abbrev pub shift_16 : Term
shift_16 = two at_most (one num (leaf (val_name (121 ∷ []) 1))) (leaf (number (pos 24)))

abbrev pub shift_17 : Term
shift_17 = one denied (two at_most (one num (leaf (val_name (121 ∷ []) 1))) (leaf (number (pos 0))))

abbrev pub shift_18 : Term
shift_18 = two at_most (leaf (number (negsuc 39614081257132168796771975167))) (two sub (one num (leaf (val_name (121 ∷ []) 1))) (leaf (number (pos 1))))

abbrev pub shift_19 : Term
shift_19 = two at_most (two sub (one num (leaf (val_name (121 ∷ []) 1))) (leaf (number (pos 1)))) (leaf (number (pos 39614081257132168796771975167)))

abbrev pub shift_20 : Term
shift_20 = two at_most (two sub (one num (leaf (val_name (121 ∷ []) 1))) (leaf (number (pos 1)))) (leaf (number (pos 24)))

abbrev pub shift_21 : Term
shift_21 = two at_most (one num (leaf (val_name (121 ∷ []) 1))) (leaf (number (pos 0)))

abbrev pub shift_22 : Term
shift_22 = leaf all_of

abbrev pub shift_conditions : List Owed
shift_conditions = (owed kind.Range 75 (shift_0 ∷ shift_1 ∷ shift_2 ∷ shift_3 ∷ shift_4 ∷ shift_5 ∷ shift_6 ∷ shift_7 ∷ []) shift_8 ∷ owed kind.Range 75 (shift_0 ∷ shift_1 ∷ shift_2 ∷ shift_3 ∷ shift_4 ∷ shift_5 ∷ shift_6 ∷ shift_7 ∷ shift_8 ∷ []) shift_9 ∷ owed kind.Range 105 (shift_0 ∷ shift_1 ∷ shift_2 ∷ shift_3 ∷ shift_4 ∷ []) shift_8 ∷ owed kind.Range 105 (shift_0 ∷ shift_1 ∷ shift_2 ∷ shift_3 ∷ shift_4 ∷ shift_8 ∷ []) shift_9 ∷ owed kind.Range 120 (shift_0 ∷ shift_1 ∷ shift_2 ∷ shift_3 ∷ shift_4 ∷ shift_8 ∷ shift_9 ∷ []) shift_10 ∷ owed kind.Range 120 (shift_0 ∷ shift_1 ∷ shift_2 ∷ shift_3 ∷ shift_4 ∷ shift_8 ∷ shift_9 ∷ shift_10 ∷ []) shift_11 ∷ owed kind.Entry 128 (shift_0 ∷ shift_1 ∷ shift_2 ∷ shift_3 ∷ shift_4 ∷ shift_8 ∷ shift_9 ∷ shift_10 ∷ shift_11 ∷ []) shift_12 ∷ owed kind.Range 169 (shift_0 ∷ shift_1 ∷ shift_2 ∷ shift_3 ∷ shift_4 ∷ shift_8 ∷ shift_9 ∷ shift_10 ∷ shift_11 ∷ shift_12 ∷ shift_13 ∷ shift_14 ∷ shift_15 ∷ shift_16 ∷ shift_17 ∷ []) shift_18 ∷ owed kind.Range 169 (shift_0 ∷ shift_1 ∷ shift_2 ∷ shift_3 ∷ shift_4 ∷ shift_8 ∷ shift_9 ∷ shift_10 ∷ shift_11 ∷ shift_12 ∷ shift_13 ∷ shift_14 ∷ shift_15 ∷ shift_16 ∷ shift_17 ∷ shift_18 ∷ []) shift_19 ∷ owed kind.Keep 128 (shift_0 ∷ shift_1 ∷ shift_2 ∷ shift_3 ∷ shift_4 ∷ shift_8 ∷ shift_9 ∷ shift_10 ∷ shift_11 ∷ shift_12 ∷ shift_13 ∷ shift_14 ∷ shift_15 ∷ shift_16 ∷ shift_17 ∷ shift_18 ∷ shift_19 ∷ []) shift_20 ∷ owed kind.Ensures 177 (shift_0 ∷ shift_1 ∷ shift_2 ∷ shift_3 ∷ shift_4 ∷ shift_8 ∷ shift_9 ∷ shift_10 ∷ shift_11 ∷ shift_12 ∷ shift_13 ∷ shift_14 ∷ shift_15 ∷ shift_16 ∷ shift_21 ∷ []) shift_22 ∷ [])
