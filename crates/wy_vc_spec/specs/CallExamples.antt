-- What programs with calls owe.
use Rattle.std.specs.Prelude.{ℕ, List, [], ◌∷◌, false, Some, pos, negsuc}
use Rattle.wy_sem.specs.wy_core.Types.{Ty, NullTy, IntTy, RecordTy, UnionTy, NamedTy, NoFieldTys, MoreFieldTys}
use Rattle.wy_sem.specs.wy_core.CoreTree.{IntExpr, VarExpr, CallExpr, BinaryExpr, IsExpr, FieldExpr, RecordExpr, NoExprs, MoreExprs, NoFields, MoreFields, DeclareStmt, AssignStmt, ReturnStmt, IfStmt, NoStmts, MoreStmts, AliasDecl, RoutineDecl, Core}
use Rattle.wy_sem.specs.wy_core.declared.expressions.Op.TheVariants as op
use Rattle.wy_sem.specs.wy_term.declared.cond.CondKind.TheVariants as kind
use Rattle.wy_sem.specs.wy_term.Term.{Term, Of, no_parts, part, leaf, one, two, number, add, num, val_name, fields, field, at_most, of_kind, in_type, denied, all_of, any_of, null_kind, int_kind, record_kind}
use Rattle.wy_vc_spec.specs.Owed.{Owed}
use Rattle.wy_vc_spec.specs.ExampleParts.{owed, number_type, other}

-- function inc(int x) -> (int r)
-- requires x < 100
-- ensures r > x:
--     return x + 1
abbrev pub inc : Core ℕ
inc = RoutineDecl (record { at = 0; name = (105 ∷ 110 ∷ 99 ∷ []); is_method = false; variables = ((120 ∷ []) ∷ (114 ∷ []) ∷ []); params = ((record { at = 0; ty = IntTy; variable = 0 }) ∷ []); result = (Some (record { at = 0; ty = IntTy; variable = (Some 1) })); preconditions = ((BinaryExpr 42 op.Less (VarExpr 40 0) (IntExpr 44 (pos 100))) ∷ []); postconditions = ((BinaryExpr 58 op.Greater (VarExpr 56 1) (VarExpr 60 0)) ∷ []); body = (MoreStmts (ReturnStmt 67 (Some (BinaryExpr 76 op.Add (VarExpr 74 0) (IntExpr 78 (pos 1))))) NoStmts) }) ∷ []

abbrev pub inc_numbers : List Ty
inc_numbers = (number_type ∷ number_type ∷ other ∷ number_type ∷ number_type ∷ other ∷ number_type ∷ number_type ∷ number_type ∷ [])

abbrev pub inc_0 : Term
inc_0 = one (of_kind int_kind) (leaf (val_name (120 ∷ []) 0))

abbrev pub inc_1 : Term
inc_1 = two at_most (leaf (number (negsuc 39614081257132168796771975167))) (one num (leaf (val_name (120 ∷ []) 0)))

abbrev pub inc_2 : Term
inc_2 = two at_most (one num (leaf (val_name (120 ∷ []) 0))) (leaf (number (pos 39614081257132168796771975167)))

abbrev pub inc_3 : Term
inc_3 = one denied (two at_most (leaf (number (pos 100))) (one num (leaf (val_name (120 ∷ []) 0))))

abbrev pub inc_4 : Term
inc_4 = two at_most (leaf (number (negsuc 39614081257132168796771975167))) (two add (one num (leaf (val_name (120 ∷ []) 0))) (leaf (number (pos 1))))

abbrev pub inc_5 : Term
inc_5 = two at_most (two add (one num (leaf (val_name (120 ∷ []) 0))) (leaf (number (pos 1)))) (leaf (number (pos 39614081257132168796771975167)))

abbrev pub inc_6 : Term
inc_6 = one denied (two at_most (two add (one num (leaf (val_name (120 ∷ []) 0))) (leaf (number (pos 1)))) (one num (leaf (val_name (120 ∷ []) 0))))

abbrev pub inc_conditions : List Owed
inc_conditions = (owed kind.Range 76 (inc_0 ∷ inc_1 ∷ inc_2 ∷ inc_3 ∷ []) inc_4 ∷ owed kind.Range 76 (inc_0 ∷ inc_1 ∷ inc_2 ∷ inc_3 ∷ inc_4 ∷ []) inc_5 ∷ owed kind.Ensures 67 (inc_0 ∷ inc_1 ∷ inc_2 ∷ inc_3 ∷ inc_4 ∷ inc_5 ∷ []) inc_6 ∷ [])

-- type S is (null|{int v, S next} s) where s is null || s.v >= 3
-- function push(S s, int v) -> (S r)
-- requires v >= 3:
--     return {next: s, v: v}
-- function top(S s) -> (int r)
-- ensures r >= 3:
--     if s is null:
--         return 5
--     return s.v
-- function second(S s) -> (int r)
-- ensures r >= 3:
--     if s is null:
--         return 3
--     return top(push(s.next, s.v))
abbrev pub push : Core ℕ
push = AliasDecl (record { at = 0; name = (83 ∷ []); variables = ((115 ∷ []) ∷ []); ty_at = 0; ty = (UnionTy NullTy (RecordTy (MoreFieldTys (110 ∷ 101 ∷ 120 ∷ 116 ∷ []) (NamedTy 0) (MoreFieldTys (118 ∷ []) IntTy NoFieldTys)))); variable = (Some 0); clauses = ((BinaryExpr 51 op.Or (IsExpr 43 (VarExpr 41 0) NullTy) (BinaryExpr 58 op.GreaterEqual (FieldExpr 55 (VarExpr 54 0) (118 ∷ [])) (IntExpr 61 (pos 3)))) ∷ []) }) ∷ RoutineDecl (record { at = 63; name = (112 ∷ 117 ∷ 115 ∷ 104 ∷ []); is_method = false; variables = ((115 ∷ []) ∷ (118 ∷ []) ∷ (114 ∷ []) ∷ []); params = ((record { at = 0; ty = (NamedTy 0); variable = 0 }) ∷ (record { at = 0; ty = IntTy; variable = 1 }) ∷ []); result = (Some (record { at = 0; ty = (NamedTy 0); variable = (Some 2) })); preconditions = ((BinaryExpr 109 op.GreaterEqual (VarExpr 107 1) (IntExpr 112 (pos 3))) ∷ []); postconditions = ([]); body = (MoreStmts (ReturnStmt 119 (Some (RecordExpr 126 (MoreFields (110 ∷ 101 ∷ 120 ∷ 116 ∷ []) (VarExpr 133 0) (MoreFields (118 ∷ []) (VarExpr 139 1) NoFields))))) NoStmts) }) ∷ RoutineDecl (record { at = 142; name = (116 ∷ 111 ∷ 112 ∷ []); is_method = false; variables = ((115 ∷ []) ∷ (114 ∷ []) ∷ []); params = ((record { at = 0; ty = (NamedTy 0); variable = 0 }) ∷ []); result = (Some (record { at = 0; ty = IntTy; variable = (Some 1) })); preconditions = ([]); postconditions = ((BinaryExpr 181 op.GreaterEqual (VarExpr 179 1) (IntExpr 184 (pos 3))) ∷ []); body = (MoreStmts (IfStmt 191 (IsExpr 196 (VarExpr 194 0) NullTy) (MoreStmts (ReturnStmt 213 (Some (IntExpr 220 (pos 5)))) NoStmts) NoStmts) (MoreStmts (ReturnStmt 226 (Some (FieldExpr 234 (VarExpr 233 0) (118 ∷ [])))) NoStmts)) }) ∷ RoutineDecl (record { at = 237; name = (115 ∷ 101 ∷ 99 ∷ 111 ∷ 110 ∷ 100 ∷ []); is_method = false; variables = ((115 ∷ []) ∷ (114 ∷ []) ∷ []); params = ((record { at = 0; ty = (NamedTy 0); variable = 0 }) ∷ []); result = (Some (record { at = 0; ty = IntTy; variable = (Some 1) })); preconditions = ([]); postconditions = ((BinaryExpr 279 op.GreaterEqual (VarExpr 277 1) (IntExpr 282 (pos 3))) ∷ []); body = (MoreStmts (IfStmt 289 (IsExpr 294 (VarExpr 292 0) NullTy) (MoreStmts (ReturnStmt 311 (Some (IntExpr 318 (pos 3)))) NoStmts) NoStmts) (MoreStmts (ReturnStmt 324 (Some (CallExpr 331 1 (MoreExprs (CallExpr 335 0 (MoreExprs (FieldExpr 341 (VarExpr 340 0) (110 ∷ 101 ∷ 120 ∷ 116 ∷ [])) (MoreExprs (FieldExpr 349 (VarExpr 348 0) (118 ∷ [])) NoExprs))) NoExprs)))) NoStmts)) }) ∷ []

abbrev pub push_numbers : List Ty
push_numbers = (other ∷ other ∷ other ∷ other ∷ number_type ∷ other ∷ other ∷ number_type ∷ number_type ∷ other ∷ other ∷ number_type ∷ other ∷ number_type ∷ number_type ∷ other ∷ other ∷ other ∷ number_type ∷ other ∷ other ∷ number_type ∷ number_type ∷ other ∷ other ∷ other ∷ number_type ∷ other ∷ other ∷ other ∷ other ∷ other ∷ number_type ∷ [])

abbrev pub push_0 : Term
push_0 = one (in_type 0) (leaf (val_name (115 ∷ []) 0))

abbrev pub push_1 : Term
push_1 = one (of_kind int_kind) (leaf (val_name (118 ∷ []) 1))

abbrev pub push_2 : Term
push_2 = two at_most (leaf (number (negsuc 39614081257132168796771975167))) (one num (leaf (val_name (118 ∷ []) 1)))

abbrev pub push_3 : Term
push_3 = two at_most (one num (leaf (val_name (118 ∷ []) 1))) (leaf (number (pos 39614081257132168796771975167)))

abbrev pub push_4 : Term
push_4 = two at_most (leaf (number (pos 3))) (one num (leaf (val_name (118 ∷ []) 1)))

abbrev pub push_5 : Term
push_5 = one (in_type 0) (Of (fields ((110 ∷ 101 ∷ 120 ∷ 116 ∷ []) ∷ (118 ∷ []) ∷ [])) (part (leaf (val_name (115 ∷ []) 0)) (part (leaf (val_name (118 ∷ []) 1)) no_parts)))

abbrev pub push_6 : Term
push_6 = one (of_kind null_kind) (leaf (val_name (115 ∷ []) 0))

abbrev pub push_7 : Term
push_7 = leaf all_of

abbrev pub push_8 : Term
push_8 = one denied (one (of_kind null_kind) (leaf (val_name (115 ∷ []) 0)))

abbrev pub push_9 : Term
push_9 = two at_most (leaf (number (pos 3))) (one num (one (field (118 ∷ [])) (leaf (val_name (115 ∷ []) 0))))

abbrev pub push_10 : Term
push_10 = one (in_type 0) (one (field (110 ∷ 101 ∷ 120 ∷ 116 ∷ [])) (leaf (val_name (115 ∷ []) 0)))

abbrev pub push_11 : Term
push_11 = one (in_type 0) (leaf (val_name (112 ∷ 117 ∷ 115 ∷ 104 ∷ []) 1))

abbrev pub push_12 : Term
push_12 = one (of_kind int_kind) (leaf (val_name (116 ∷ 111 ∷ 112 ∷ []) 2))

abbrev pub push_13 : Term
push_13 = two at_most (leaf (number (negsuc 39614081257132168796771975167))) (one num (leaf (val_name (116 ∷ 111 ∷ 112 ∷ []) 2)))

abbrev pub push_14 : Term
push_14 = two at_most (one num (leaf (val_name (116 ∷ 111 ∷ 112 ∷ []) 2))) (leaf (number (pos 39614081257132168796771975167)))

abbrev pub push_15 : Term
push_15 = two at_most (leaf (number (pos 3))) (one num (leaf (val_name (116 ∷ 111 ∷ 112 ∷ []) 2)))

abbrev pub push_conditions : List Owed
push_conditions = (owed kind.Member 119 (push_0 ∷ push_1 ∷ push_2 ∷ push_3 ∷ push_4 ∷ []) push_5 ∷ owed kind.Ensures 213 (push_0 ∷ push_6 ∷ []) push_7 ∷ owed kind.Ensures 226 (push_0 ∷ push_8 ∷ []) push_9 ∷ owed kind.Ensures 311 (push_0 ∷ push_6 ∷ []) push_7 ∷ owed kind.Member 335 (push_0 ∷ push_8 ∷ []) push_10 ∷ owed kind.Requires 335 (push_0 ∷ push_8 ∷ push_10 ∷ []) push_9 ∷ owed kind.Member 331 (push_0 ∷ push_8 ∷ push_10 ∷ push_9 ∷ push_11 ∷ []) push_11 ∷ owed kind.Ensures 324 (push_0 ∷ push_8 ∷ push_10 ∷ push_9 ∷ push_11 ∷ push_11 ∷ push_12 ∷ push_13 ∷ push_14 ∷ push_15 ∷ []) push_15 ∷ [])

-- type nat is (int x) where x >= 0
-- function inc(nat n) -> (nat r)
-- requires n < 52
-- ensures r == n + 1:
--     return n + 1
-- function twice(int n) -> (int r)
-- requires 0 <= n && n < 51
-- ensures r == n + 2:
--     nat m = inc(n)
--     m = inc(m)
--     return m
-- function deep(nat n) -> (int r)
-- ensures r <= 53:
--     if n < 51:
--         return twice(n)
--     return 0
abbrev pub twice : Core ℕ
twice = AliasDecl (record { at = 0; name = (110 ∷ 97 ∷ 116 ∷ []); variables = ((120 ∷ []) ∷ []); ty_at = 0; ty = IntTy; variable = (Some 0); clauses = ((BinaryExpr 28 op.GreaterEqual (VarExpr 26 0) (IntExpr 31 (pos 0))) ∷ []) }) ∷ RoutineDecl (record { at = 33; name = (105 ∷ 110 ∷ 99 ∷ []); is_method = false; variables = ((110 ∷ []) ∷ (114 ∷ []) ∷ []); params = ((record { at = 0; ty = (NamedTy 0); variable = 0 }) ∷ []); result = (Some (record { at = 0; ty = (NamedTy 0); variable = (Some 1) })); preconditions = ((BinaryExpr 75 op.Less (VarExpr 73 0) (IntExpr 77 (pos 52))) ∷ []); postconditions = ((BinaryExpr 90 op.Equal (VarExpr 88 1) (BinaryExpr 95 op.Add (VarExpr 93 0) (IntExpr 97 (pos 1)))) ∷ []); body = (MoreStmts (ReturnStmt 104 (Some (BinaryExpr 113 op.Add (VarExpr 111 0) (IntExpr 115 (pos 1))))) NoStmts) }) ∷ RoutineDecl (record { at = 117; name = (116 ∷ 119 ∷ 105 ∷ 99 ∷ 101 ∷ []); is_method = false; variables = ((110 ∷ []) ∷ (114 ∷ []) ∷ (109 ∷ []) ∷ []); params = ((record { at = 0; ty = IntTy; variable = 0 }) ∷ []); result = (Some (record { at = 0; ty = IntTy; variable = (Some 1) })); preconditions = ((BinaryExpr 166 op.And (BinaryExpr 161 op.LessEqual (IntExpr 159 (pos 0)) (VarExpr 164 0)) (BinaryExpr 171 op.Less (VarExpr 169 0) (IntExpr 173 (pos 51)))) ∷ []); postconditions = ((BinaryExpr 186 op.Equal (VarExpr 184 1) (BinaryExpr 191 op.Add (VarExpr 189 0) (IntExpr 193 (pos 2)))) ∷ []); body = (MoreStmts (DeclareStmt 200 (NamedTy 0) 2 (Some (CallExpr 208 0 (MoreExprs (VarExpr 212 0) NoExprs)))) (MoreStmts (AssignStmt 219 2 ([]) (CallExpr 223 0 (MoreExprs (VarExpr 227 2) NoExprs))) (MoreStmts (ReturnStmt 234 (Some (VarExpr 241 2))) NoStmts))) }) ∷ RoutineDecl (record { at = 243; name = (100 ∷ 101 ∷ 101 ∷ 112 ∷ []); is_method = false; variables = ((110 ∷ []) ∷ (114 ∷ []) ∷ []); params = ((record { at = 0; ty = (NamedTy 0); variable = 0 }) ∷ []); result = (Some (record { at = 0; ty = IntTy; variable = (Some 1) })); preconditions = ([]); postconditions = ((BinaryExpr 285 op.LessEqual (VarExpr 283 1) (IntExpr 288 (pos 53))) ∷ []); body = (MoreStmts (IfStmt 296 (BinaryExpr 301 op.Less (VarExpr 299 0) (IntExpr 303 (pos 51))) (MoreStmts (ReturnStmt 315 (Some (CallExpr 322 1 (MoreExprs (VarExpr 328 0) NoExprs)))) NoStmts) NoStmts) (MoreStmts (ReturnStmt 335 (Some (IntExpr 342 (pos 0)))) NoStmts)) }) ∷ []

abbrev pub twice_numbers : List Ty
twice_numbers = (number_type ∷ number_type ∷ other ∷ number_type ∷ number_type ∷ other ∷ number_type ∷ number_type ∷ number_type ∷ number_type ∷ other ∷ number_type ∷ number_type ∷ number_type ∷ number_type ∷ number_type ∷ other ∷ number_type ∷ number_type ∷ other ∷ other ∷ number_type ∷ number_type ∷ number_type ∷ number_type ∷ other ∷ number_type ∷ number_type ∷ number_type ∷ number_type ∷ number_type ∷ number_type ∷ number_type ∷ other ∷ number_type ∷ number_type ∷ other ∷ number_type ∷ number_type ∷ number_type ∷ [])

abbrev pub twice_0 : Term
twice_0 = one (of_kind int_kind) (leaf (val_name (110 ∷ []) 0))

abbrev pub twice_1 : Term
twice_1 = two at_most (leaf (number (negsuc 39614081257132168796771975167))) (one num (leaf (val_name (110 ∷ []) 0)))

abbrev pub twice_2 : Term
twice_2 = two at_most (one num (leaf (val_name (110 ∷ []) 0))) (leaf (number (pos 39614081257132168796771975167)))

abbrev pub twice_3 : Term
twice_3 = two at_most (leaf (number (pos 0))) (one num (leaf (val_name (110 ∷ []) 0)))

abbrev pub twice_4 : Term
twice_4 = one denied (two at_most (leaf (number (pos 52))) (one num (leaf (val_name (110 ∷ []) 0))))

abbrev pub twice_5 : Term
twice_5 = one (of_kind int_kind) (leaf (val_name (114 ∷ []) 1))

abbrev pub twice_6 : Term
twice_6 = two at_most (leaf (number (negsuc 39614081257132168796771975167))) (one num (leaf (val_name (114 ∷ []) 1)))

abbrev pub twice_7 : Term
twice_7 = two at_most (one num (leaf (val_name (114 ∷ []) 1))) (leaf (number (pos 39614081257132168796771975167)))

abbrev pub twice_8 : Term
twice_8 = two at_most (leaf (number (pos 0))) (one num (leaf (val_name (114 ∷ []) 1)))

abbrev pub twice_9 : Term
twice_9 = two at_most (leaf (number (negsuc 39614081257132168796771975167))) (two add (one num (leaf (val_name (110 ∷ []) 0))) (leaf (number (pos 1))))

abbrev pub twice_10 : Term
twice_10 = two at_most (two add (one num (leaf (val_name (110 ∷ []) 0))) (leaf (number (pos 1)))) (leaf (number (pos 39614081257132168796771975167)))

abbrev pub twice_11 : Term
twice_11 = Of all_of (part (Of all_of (part (two at_most (leaf (number (negsuc 39614081257132168796771975167))) (two add (one num (leaf (val_name (110 ∷ []) 0))) (leaf (number (pos 1))))) (part (two at_most (two add (one num (leaf (val_name (110 ∷ []) 0))) (leaf (number (pos 1)))) (leaf (number (pos 39614081257132168796771975167)))) no_parts))) (part (two at_most (leaf (number (pos 0))) (two add (one num (leaf (val_name (110 ∷ []) 0))) (leaf (number (pos 1))))) no_parts))

abbrev pub twice_12 : Term
twice_12 = two at_most (leaf (number (pos 0))) (two add (one num (leaf (val_name (110 ∷ []) 0))) (leaf (number (pos 1))))

abbrev pub twice_13 : Term
twice_13 = leaf all_of

abbrev pub twice_14 : Term
twice_14 = one denied (two at_most (leaf (number (pos 51))) (one num (leaf (val_name (110 ∷ []) 0))))

abbrev pub twice_15 : Term
twice_15 = two at_most (leaf (number (negsuc 39614081257132168796771975167))) (two add (one num (leaf (val_name (110 ∷ []) 0))) (leaf (number (pos 2))))

abbrev pub twice_16 : Term
twice_16 = two at_most (two add (one num (leaf (val_name (110 ∷ []) 0))) (leaf (number (pos 2)))) (leaf (number (pos 39614081257132168796771975167)))

abbrev pub twice_17 : Term
twice_17 = Of all_of (part (Of all_of (part (one (of_kind int_kind) (leaf (val_name (110 ∷ []) 0))) (part (two at_most (leaf (number (negsuc 39614081257132168796771975167))) (one num (leaf (val_name (110 ∷ []) 0)))) (part (two at_most (one num (leaf (val_name (110 ∷ []) 0))) (leaf (number (pos 39614081257132168796771975167)))) no_parts)))) (part (two at_most (leaf (number (pos 0))) (one num (leaf (val_name (110 ∷ []) 0)))) no_parts))

abbrev pub twice_18 : Term
twice_18 = one (of_kind int_kind) (leaf (val_name (105 ∷ 110 ∷ 99 ∷ []) 1))

abbrev pub twice_19 : Term
twice_19 = two at_most (leaf (number (negsuc 39614081257132168796771975167))) (one num (leaf (val_name (105 ∷ 110 ∷ 99 ∷ []) 1)))

abbrev pub twice_20 : Term
twice_20 = two at_most (one num (leaf (val_name (105 ∷ 110 ∷ 99 ∷ []) 1))) (leaf (number (pos 39614081257132168796771975167)))

abbrev pub twice_21 : Term
twice_21 = two at_most (leaf (number (pos 0))) (one num (leaf (val_name (105 ∷ 110 ∷ 99 ∷ []) 1)))

abbrev pub twice_22 : Term
twice_22 = two at_most (one num (leaf (val_name (105 ∷ 110 ∷ 99 ∷ []) 1))) (two add (one num (leaf (val_name (110 ∷ []) 0))) (leaf (number (pos 1))))

abbrev pub twice_23 : Term
twice_23 = two at_most (two add (one num (leaf (val_name (110 ∷ []) 0))) (leaf (number (pos 1)))) (one num (leaf (val_name (105 ∷ 110 ∷ 99 ∷ []) 1)))

abbrev pub twice_24 : Term
twice_24 = Of all_of (part (Of all_of (part (one (of_kind int_kind) (leaf (val_name (105 ∷ 110 ∷ 99 ∷ []) 1))) (part (two at_most (leaf (number (negsuc 39614081257132168796771975167))) (one num (leaf (val_name (105 ∷ 110 ∷ 99 ∷ []) 1)))) (part (two at_most (one num (leaf (val_name (105 ∷ 110 ∷ 99 ∷ []) 1))) (leaf (number (pos 39614081257132168796771975167)))) no_parts)))) (part (two at_most (leaf (number (pos 0))) (one num (leaf (val_name (105 ∷ 110 ∷ 99 ∷ []) 1)))) no_parts))

abbrev pub twice_25 : Term
twice_25 = one denied (two at_most (leaf (number (pos 52))) (one num (leaf (val_name (105 ∷ 110 ∷ 99 ∷ []) 1))))

abbrev pub twice_26 : Term
twice_26 = one (of_kind int_kind) (leaf (val_name (105 ∷ 110 ∷ 99 ∷ []) 2))

abbrev pub twice_27 : Term
twice_27 = two at_most (leaf (number (negsuc 39614081257132168796771975167))) (one num (leaf (val_name (105 ∷ 110 ∷ 99 ∷ []) 2)))

abbrev pub twice_28 : Term
twice_28 = two at_most (one num (leaf (val_name (105 ∷ 110 ∷ 99 ∷ []) 2))) (leaf (number (pos 39614081257132168796771975167)))

abbrev pub twice_29 : Term
twice_29 = two at_most (leaf (number (pos 0))) (one num (leaf (val_name (105 ∷ 110 ∷ 99 ∷ []) 2)))

abbrev pub twice_30 : Term
twice_30 = two at_most (one num (leaf (val_name (105 ∷ 110 ∷ 99 ∷ []) 2))) (two add (one num (leaf (val_name (105 ∷ 110 ∷ 99 ∷ []) 1))) (leaf (number (pos 1))))

abbrev pub twice_31 : Term
twice_31 = two at_most (two add (one num (leaf (val_name (105 ∷ 110 ∷ 99 ∷ []) 1))) (leaf (number (pos 1)))) (one num (leaf (val_name (105 ∷ 110 ∷ 99 ∷ []) 2)))

abbrev pub twice_32 : Term
twice_32 = Of all_of (part (Of all_of (part (one (of_kind int_kind) (leaf (val_name (105 ∷ 110 ∷ 99 ∷ []) 2))) (part (two at_most (leaf (number (negsuc 39614081257132168796771975167))) (one num (leaf (val_name (105 ∷ 110 ∷ 99 ∷ []) 2)))) (part (two at_most (one num (leaf (val_name (105 ∷ 110 ∷ 99 ∷ []) 2))) (leaf (number (pos 39614081257132168796771975167)))) no_parts)))) (part (two at_most (leaf (number (pos 0))) (one num (leaf (val_name (105 ∷ 110 ∷ 99 ∷ []) 2)))) no_parts))

abbrev pub twice_33 : Term
twice_33 = Of all_of (part (two at_most (one num (leaf (val_name (105 ∷ 110 ∷ 99 ∷ []) 2))) (two add (one num (leaf (val_name (110 ∷ []) 0))) (leaf (number (pos 2))))) (part (two at_most (two add (one num (leaf (val_name (110 ∷ []) 0))) (leaf (number (pos 2)))) (one num (leaf (val_name (105 ∷ 110 ∷ 99 ∷ []) 2)))) no_parts))

abbrev pub twice_34 : Term
twice_34 = one (of_kind int_kind) (leaf (val_name (116 ∷ 119 ∷ 105 ∷ 99 ∷ 101 ∷ []) 1))

abbrev pub twice_35 : Term
twice_35 = two at_most (leaf (number (negsuc 39614081257132168796771975167))) (one num (leaf (val_name (116 ∷ 119 ∷ 105 ∷ 99 ∷ 101 ∷ []) 1)))

abbrev pub twice_36 : Term
twice_36 = two at_most (one num (leaf (val_name (116 ∷ 119 ∷ 105 ∷ 99 ∷ 101 ∷ []) 1))) (leaf (number (pos 39614081257132168796771975167)))

abbrev pub twice_37 : Term
twice_37 = two at_most (one num (leaf (val_name (116 ∷ 119 ∷ 105 ∷ 99 ∷ 101 ∷ []) 1))) (two add (one num (leaf (val_name (110 ∷ []) 0))) (leaf (number (pos 2))))

abbrev pub twice_38 : Term
twice_38 = two at_most (two add (one num (leaf (val_name (110 ∷ []) 0))) (leaf (number (pos 2)))) (one num (leaf (val_name (116 ∷ 119 ∷ 105 ∷ 99 ∷ 101 ∷ []) 1)))

abbrev pub twice_39 : Term
twice_39 = two at_most (one num (leaf (val_name (116 ∷ 119 ∷ 105 ∷ 99 ∷ 101 ∷ []) 1))) (leaf (number (pos 53)))

abbrev pub twice_40 : Term
twice_40 = two at_most (leaf (number (pos 51))) (one num (leaf (val_name (110 ∷ []) 0)))

abbrev pub twice_conditions : List Owed
twice_conditions = (owed kind.Range 95 (twice_0 ∷ twice_1 ∷ twice_2 ∷ twice_3 ∷ twice_4 ∷ twice_5 ∷ twice_6 ∷ twice_7 ∷ twice_8 ∷ []) twice_9 ∷ owed kind.Range 95 (twice_0 ∷ twice_1 ∷ twice_2 ∷ twice_3 ∷ twice_4 ∷ twice_5 ∷ twice_6 ∷ twice_7 ∷ twice_8 ∷ twice_9 ∷ []) twice_10 ∷ owed kind.Range 113 (twice_0 ∷ twice_1 ∷ twice_2 ∷ twice_3 ∷ twice_4 ∷ []) twice_9 ∷ owed kind.Range 113 (twice_0 ∷ twice_1 ∷ twice_2 ∷ twice_3 ∷ twice_4 ∷ twice_9 ∷ []) twice_10 ∷ owed kind.Member 104 (twice_0 ∷ twice_1 ∷ twice_2 ∷ twice_3 ∷ twice_4 ∷ twice_9 ∷ twice_10 ∷ []) twice_11 ∷ owed kind.Ensures 104 (twice_0 ∷ twice_1 ∷ twice_2 ∷ twice_3 ∷ twice_4 ∷ twice_9 ∷ twice_10 ∷ twice_9 ∷ twice_10 ∷ twice_12 ∷ []) twice_13 ∷ owed kind.Range 191 (twice_0 ∷ twice_1 ∷ twice_2 ∷ twice_3 ∷ twice_14 ∷ twice_5 ∷ twice_6 ∷ twice_7 ∷ []) twice_15 ∷ owed kind.Range 191 (twice_0 ∷ twice_1 ∷ twice_2 ∷ twice_3 ∷ twice_14 ∷ twice_5 ∷ twice_6 ∷ twice_7 ∷ twice_15 ∷ []) twice_16 ∷ owed kind.Member 208 (twice_0 ∷ twice_1 ∷ twice_2 ∷ twice_3 ∷ twice_14 ∷ []) twice_17 ∷ owed kind.Requires 208 (twice_0 ∷ twice_1 ∷ twice_2 ∷ twice_3 ∷ twice_14 ∷ twice_0 ∷ twice_1 ∷ twice_2 ∷ twice_3 ∷ []) twice_4 ∷ owed kind.Member 200 (twice_0 ∷ twice_1 ∷ twice_2 ∷ twice_3 ∷ twice_14 ∷ twice_0 ∷ twice_1 ∷ twice_2 ∷ twice_3 ∷ twice_4 ∷ twice_18 ∷ twice_19 ∷ twice_20 ∷ twice_21 ∷ twice_22 ∷ twice_23 ∷ []) twice_24 ∷ owed kind.Member 223 (twice_0 ∷ twice_1 ∷ twice_2 ∷ twice_3 ∷ twice_14 ∷ twice_0 ∷ twice_1 ∷ twice_2 ∷ twice_3 ∷ twice_4 ∷ twice_18 ∷ twice_19 ∷ twice_20 ∷ twice_21 ∷ twice_22 ∷ twice_23 ∷ twice_18 ∷ twice_19 ∷ twice_20 ∷ twice_21 ∷ []) twice_24 ∷ owed kind.Requires 223 (twice_0 ∷ twice_1 ∷ twice_2 ∷ twice_3 ∷ twice_14 ∷ twice_0 ∷ twice_1 ∷ twice_2 ∷ twice_3 ∷ twice_4 ∷ twice_18 ∷ twice_19 ∷ twice_20 ∷ twice_21 ∷ twice_22 ∷ twice_23 ∷ twice_18 ∷ twice_19 ∷ twice_20 ∷ twice_21 ∷ twice_18 ∷ twice_19 ∷ twice_20 ∷ twice_21 ∷ []) twice_25 ∷ owed kind.Member 219 (twice_0 ∷ twice_1 ∷ twice_2 ∷ twice_3 ∷ twice_14 ∷ twice_0 ∷ twice_1 ∷ twice_2 ∷ twice_3 ∷ twice_4 ∷ twice_18 ∷ twice_19 ∷ twice_20 ∷ twice_21 ∷ twice_22 ∷ twice_23 ∷ twice_18 ∷ twice_19 ∷ twice_20 ∷ twice_21 ∷ twice_18 ∷ twice_19 ∷ twice_20 ∷ twice_21 ∷ twice_25 ∷ twice_26 ∷ twice_27 ∷ twice_28 ∷ twice_29 ∷ twice_30 ∷ twice_31 ∷ []) twice_32 ∷ owed kind.Ensures 234 (twice_0 ∷ twice_1 ∷ twice_2 ∷ twice_3 ∷ twice_14 ∷ twice_0 ∷ twice_1 ∷ twice_2 ∷ twice_3 ∷ twice_4 ∷ twice_18 ∷ twice_19 ∷ twice_20 ∷ twice_21 ∷ twice_22 ∷ twice_23 ∷ twice_18 ∷ twice_19 ∷ twice_20 ∷ twice_21 ∷ twice_18 ∷ twice_19 ∷ twice_20 ∷ twice_21 ∷ twice_25 ∷ twice_26 ∷ twice_27 ∷ twice_28 ∷ twice_29 ∷ twice_30 ∷ twice_31 ∷ twice_26 ∷ twice_27 ∷ twice_28 ∷ twice_29 ∷ []) twice_33 ∷ owed kind.Requires 322 (twice_0 ∷ twice_1 ∷ twice_2 ∷ twice_3 ∷ twice_14 ∷ []) twice_3 ∷ owed kind.Requires 322 (twice_0 ∷ twice_1 ∷ twice_2 ∷ twice_3 ∷ twice_14 ∷ twice_3 ∷ []) twice_14 ∷ owed kind.Ensures 315 (twice_0 ∷ twice_1 ∷ twice_2 ∷ twice_3 ∷ twice_14 ∷ twice_3 ∷ twice_14 ∷ twice_34 ∷ twice_35 ∷ twice_36 ∷ twice_37 ∷ twice_38 ∷ []) twice_39 ∷ owed kind.Ensures 335 (twice_0 ∷ twice_1 ∷ twice_2 ∷ twice_3 ∷ twice_40 ∷ []) twice_13 ∷ [])

-- what the test of the type stands for
abbrev pub push_test : Term
push_test = Of all_of (part (Of any_of (part (one (of_kind null_kind) (leaf (val_name (115 ∷ []) 0))) (part (Of all_of (part (one (of_kind (record_kind ((110 ∷ 101 ∷ 120 ∷ 116 ∷ []) ∷ (118 ∷ []) ∷ []))) (leaf (val_name (115 ∷ []) 0))) (part (one (in_type 0) (one (field (110 ∷ 101 ∷ 120 ∷ 116 ∷ [])) (leaf (val_name (115 ∷ []) 0)))) (part (Of all_of (part (one (of_kind int_kind) (one (field (118 ∷ [])) (leaf (val_name (115 ∷ []) 0)))) (part (two at_most (leaf (number (negsuc 39614081257132168796771975167))) (one num (one (field (118 ∷ [])) (leaf (val_name (115 ∷ []) 0))))) (part (two at_most (one num (one (field (118 ∷ [])) (leaf (val_name (115 ∷ []) 0)))) (leaf (number (pos 39614081257132168796771975167)))) no_parts)))) no_parts)))) no_parts))) (part (Of any_of (part (one (of_kind null_kind) (leaf (val_name (115 ∷ []) 0))) (part (two at_most (leaf (number (pos 3))) (one num (one (field (118 ∷ [])) (leaf (val_name (115 ∷ []) 0))))) no_parts))) no_parts))
