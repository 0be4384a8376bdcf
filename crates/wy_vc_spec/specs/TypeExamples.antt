-- What programs with quantifiers, paths and tests of types owe.
use Rattle.std.specs.Prelude.{ℕ, List, [], ◌∷◌, true, false, Some, None, pos, negsuc}
use Rattle.wy_sem.specs.wy_core.Types.{Ty, BoolTy, IntTy, AnyTy, RecordTy, ArrayTy, NamedTy, NoFieldTys, MoreFieldTys}
use Rattle.wy_sem.specs.wy_core.CoreTree.{IntExpr, VarExpr, NotExpr, LenExpr, BinaryExpr, IsExpr, IndexExpr, FieldExpr, ListExpr, QuantExpr, NoExprs, MoreExprs, IndexStep, FieldStep, DeclareStmt, AssignStmt, ReturnStmt, AssertStmt, IfStmt, NoStmts, MoreStmts, AliasDecl, RoutineDecl, Core}
use Rattle.wy_sem.specs.wy_core.declared.expressions.Op.TheVariants as op
use Rattle.wy_sem.specs.wy_term.declared.cond.CondKind.TheVariants as kind
use Rattle.wy_sem.specs.wy_term.Term.{Term, Of, no_parts, part, leaf, one, two, number, int_name, num, len, val_name, array, update, get, field, set_field, at_most, equal, of_kind, in_type, every, denied, all_of, any_of, int_kind, array_kind, record_kind}
use Rattle.wy_vc_spec.specs.Owed.{Owed}
use Rattle.wy_vc_spec.specs.ExampleParts.{owed, number_type, other}

-- function q(int[] xs) -> (bool r):
--     bool b = all { i in 5..2 | 0 <= i && i < |xs| && xs[i] > 8 }
--     if all { i in 0..|xs| | xs[i] == 8 }:
--         return b
--     return some { i in 0..|xs|, j in i..|xs| | xs[i] == xs[j] } ==> |xs| > 0
abbrev pub quantified : Core ℕ
quantified = RoutineDecl (record { at = 0; name = (113 ∷ []); is_method = false; variables = ((120 ∷ 115 ∷ []) ∷ (114 ∷ []) ∷ (105 ∷ []) ∷ (98 ∷ []) ∷ (105 ∷ []) ∷ (105 ∷ []) ∷ (106 ∷ []) ∷ []); params = ((record { at = 0; ty = (ArrayTy IntTy); variable = 0 }) ∷ []); result = (Some (record { at = 0; ty = BoolTy; variable = (Some 1) })); preconditions = ([]); postconditions = ([]); body = (MoreStmts (DeclareStmt 38 BoolTy 3 (Some (QuantExpr 47 true 2 (IntExpr 58 (pos 5)) (IntExpr 61 (pos 2)) (BinaryExpr 84 op.And (BinaryExpr 72 op.And (BinaryExpr 67 op.LessEqual (IntExpr 65 (pos 0)) (VarExpr 70 2)) (BinaryExpr 77 op.Less (VarExpr 75 2) (LenExpr 79 (VarExpr 80 0)))) (BinaryExpr 93 op.Greater (IndexExpr 89 (VarExpr 87 0) (VarExpr 90 2)) (IntExpr 95 (pos 8))))))) (MoreStmts (IfStmt 103 (QuantExpr 106 true 4 (IntExpr 117 (pos 0)) (LenExpr 120 (VarExpr 121 0)) (BinaryExpr 133 op.Equal (IndexExpr 129 (VarExpr 127 0) (VarExpr 130 4)) (IntExpr 136 (pos 8)))) (MoreStmts (ReturnStmt 149 (Some (VarExpr 156 3))) NoStmts) NoStmts) (MoreStmts (ReturnStmt 162 (Some (BinaryExpr 222 op.Or (NotExpr 222 (QuantExpr 169 false 5 (IntExpr 181 (pos 0)) (LenExpr 184 (VarExpr 185 0)) (QuantExpr 169 false 6 (VarExpr 195 5) (LenExpr 198 (VarExpr 199 0)) (BinaryExpr 211 op.Equal (IndexExpr 207 (VarExpr 205 0) (VarExpr 208 5)) (IndexExpr 216 (VarExpr 214 0) (VarExpr 217 6)))))) (BinaryExpr 231 op.Greater (LenExpr 226 (VarExpr 227 0)) (IntExpr 233 (pos 0)))))) NoStmts))) }) ∷ []

abbrev pub quantified_numbers : List Ty
quantified_numbers = (number_type ∷ number_type ∷ number_type ∷ number_type ∷ other ∷ number_type ∷ other ∷ number_type ∷ other ∷ other ∷ other ∷ number_type ∷ number_type ∷ number_type ∷ other ∷ other ∷ other ∷ number_type ∷ other ∷ number_type ∷ other ∷ number_type ∷ number_type ∷ number_type ∷ other ∷ other ∷ other ∷ number_type ∷ other ∷ number_type ∷ number_type ∷ other ∷ number_type ∷ other ∷ number_type ∷ number_type ∷ other ∷ number_type ∷ number_type ∷ other ∷ other ∷ other ∷ other ∷ other ∷ number_type ∷ number_type ∷ other ∷ other ∷ [])

abbrev pub quantified_0 : Term
quantified_0 = one (of_kind array_kind) (leaf (val_name (120 ∷ 115 ∷ []) 0))

abbrev pub quantified_1 : Term
quantified_1 = two at_most (one len (leaf (val_name (120 ∷ 115 ∷ []) 0))) (leaf (number (pos 9223372036854775807)))

abbrev pub quantified_2 : Term
quantified_2 = Of (every (107 ∷ []) 1) (part (leaf (number (pos 0))) (part (one len (leaf (val_name (120 ∷ 115 ∷ []) 0))) (part (Of all_of (part (one (of_kind int_kind) (two get (leaf (val_name (120 ∷ 115 ∷ []) 0)) (leaf (int_name (107 ∷ []) 1)))) (part (two at_most (leaf (number (negsuc 39614081257132168796771975167))) (one num (two get (leaf (val_name (120 ∷ 115 ∷ []) 0)) (leaf (int_name (107 ∷ []) 1))))) (part (two at_most (one num (two get (leaf (val_name (120 ∷ 115 ∷ []) 0)) (leaf (int_name (107 ∷ []) 1)))) (leaf (number (pos 39614081257132168796771975167)))) no_parts)))) no_parts)))

abbrev pub quantified_3 : Term
quantified_3 = two at_most (leaf (number (pos 5))) (leaf (int_name (105 ∷ []) 2))

abbrev pub quantified_4 : Term
quantified_4 = one denied (two at_most (leaf (number (pos 2))) (leaf (int_name (105 ∷ []) 2)))

abbrev pub quantified_5 : Term
quantified_5 = two at_most (leaf (number (pos 0))) (leaf (int_name (105 ∷ []) 2))

abbrev pub quantified_6 : Term
quantified_6 = one denied (two at_most (one len (leaf (val_name (120 ∷ 115 ∷ []) 0))) (leaf (int_name (105 ∷ []) 2)))

abbrev pub quantified_7 : Term
quantified_7 = two at_most (leaf (number (pos 0))) (leaf (int_name (105 ∷ []) 3))

abbrev pub quantified_8 : Term
quantified_8 = one denied (two at_most (one len (leaf (val_name (120 ∷ 115 ∷ []) 0))) (leaf (int_name (105 ∷ []) 3)))

abbrev pub quantified_9 : Term
quantified_9 = one denied (Of (every (105 ∷ []) 3) (part (leaf (number (pos 0))) (part (one len (leaf (val_name (120 ∷ 115 ∷ []) 0))) (part (Of all_of (part (two at_most (one num (two get (leaf (val_name (120 ∷ 115 ∷ []) 0)) (leaf (int_name (105 ∷ []) 3)))) (leaf (number (pos 8)))) (part (two at_most (leaf (number (pos 8))) (one num (two get (leaf (val_name (120 ∷ 115 ∷ []) 0)) (leaf (int_name (105 ∷ []) 3))))) no_parts))) no_parts))))

abbrev pub quantified_10 : Term
quantified_10 = two at_most (leaf (number (pos 0))) (leaf (int_name (105 ∷ []) 4))

abbrev pub quantified_11 : Term
quantified_11 = one denied (two at_most (one len (leaf (val_name (120 ∷ 115 ∷ []) 0))) (leaf (int_name (105 ∷ []) 4)))

abbrev pub quantified_12 : Term
quantified_12 = two at_most (leaf (int_name (105 ∷ []) 4)) (leaf (int_name (106 ∷ []) 5))

abbrev pub quantified_13 : Term
quantified_13 = one denied (two at_most (one len (leaf (val_name (120 ∷ 115 ∷ []) 0))) (leaf (int_name (106 ∷ []) 5)))

abbrev pub quantified_14 : Term
quantified_14 = two at_most (leaf (number (pos 0))) (leaf (int_name (106 ∷ []) 5))

abbrev pub quantified_conditions : List Owed
quantified_conditions = (owed kind.Index 89 (quantified_0 ∷ quantified_1 ∷ quantified_2 ∷ quantified_3 ∷ quantified_4 ∷ quantified_5 ∷ quantified_6 ∷ []) quantified_5 ∷ owed kind.Index 89 (quantified_0 ∷ quantified_1 ∷ quantified_2 ∷ quantified_3 ∷ quantified_4 ∷ quantified_5 ∷ quantified_6 ∷ quantified_5 ∷ []) quantified_6 ∷ owed kind.Index 129 (quantified_0 ∷ quantified_1 ∷ quantified_2 ∷ quantified_7 ∷ quantified_8 ∷ []) quantified_7 ∷ owed kind.Index 129 (quantified_0 ∷ quantified_1 ∷ quantified_2 ∷ quantified_7 ∷ quantified_8 ∷ quantified_7 ∷ []) quantified_8 ∷ owed kind.Index 207 (quantified_0 ∷ quantified_1 ∷ quantified_2 ∷ quantified_9 ∷ quantified_10 ∷ quantified_11 ∷ quantified_12 ∷ quantified_13 ∷ []) quantified_10 ∷ owed kind.Index 207 (quantified_0 ∷ quantified_1 ∷ quantified_2 ∷ quantified_9 ∷ quantified_10 ∷ quantified_11 ∷ quantified_12 ∷ quantified_13 ∷ quantified_10 ∷ []) quantified_11 ∷ owed kind.Index 216 (quantified_0 ∷ quantified_1 ∷ quantified_2 ∷ quantified_9 ∷ quantified_10 ∷ quantified_11 ∷ quantified_12 ∷ quantified_13 ∷ quantified_10 ∷ quantified_11 ∷ []) quantified_14 ∷ owed kind.Index 216 (quantified_0 ∷ quantified_1 ∷ quantified_2 ∷ quantified_9 ∷ quantified_10 ∷ quantified_11 ∷ quantified_12 ∷ quantified_13 ∷ quantified_10 ∷ quantified_11 ∷ quantified_14 ∷ []) quantified_13 ∷ [])

-- type T is {T[] kids, int v}
-- function tie(T t, int n) -> (T r)
-- ensures |r.kids| == 2:
--     t.kids = [t, t]
--     t.kids[0].v = n
--     t.kids[1].kids = [t]
--     assert t.kids[0].v == n
--     return t
abbrev pub nested : Core ℕ
nested = AliasDecl (record { at = 0; name = (84 ∷ []); variables = ([]); ty_at = 0; ty = (RecordTy (MoreFieldTys (107 ∷ 105 ∷ 100 ∷ 115 ∷ []) (ArrayTy (NamedTy 0)) (MoreFieldTys (118 ∷ []) IntTy NoFieldTys))); variable = None; clauses = ([]) }) ∷ RoutineDecl (record { at = 28; name = (116 ∷ 105 ∷ 101 ∷ []); is_method = false; variables = ((116 ∷ []) ∷ (110 ∷ []) ∷ (114 ∷ []) ∷ []); params = ((record { at = 0; ty = (NamedTy 0); variable = 0 }) ∷ (record { at = 0; ty = IntTy; variable = 1 }) ∷ []); result = (Some (record { at = 0; ty = (NamedTy 0); variable = (Some 2) })); preconditions = ([]); postconditions = ((BinaryExpr 79 op.Equal (LenExpr 70 (FieldExpr 72 (VarExpr 71 2) (107 ∷ 105 ∷ 100 ∷ 115 ∷ []))) (IntExpr 82 (pos 2))) ∷ []); body = (MoreStmts (AssignStmt 89 0 (FieldStep 90 (107 ∷ 105 ∷ 100 ∷ 115 ∷ []) ∷ []) (ListExpr 98 (MoreExprs (VarExpr 99 0) (MoreExprs (VarExpr 102 0) NoExprs)))) (MoreStmts (AssignStmt 109 0 (FieldStep 110 (107 ∷ 105 ∷ 100 ∷ 115 ∷ []) ∷ IndexStep 115 (IntExpr 116 (pos 0)) ∷ FieldStep 118 (118 ∷ []) ∷ []) (VarExpr 123 1)) (MoreStmts (AssignStmt 129 0 (FieldStep 130 (107 ∷ 105 ∷ 100 ∷ 115 ∷ []) ∷ IndexStep 135 (IntExpr 136 (pos 1)) ∷ FieldStep 138 (107 ∷ 105 ∷ 100 ∷ 115 ∷ []) ∷ []) (ListExpr 146 (MoreExprs (VarExpr 147 0) NoExprs))) (MoreStmts (AssertStmt 154 (BinaryExpr 173 op.Equal (FieldExpr 170 (IndexExpr 167 (FieldExpr 162 (VarExpr 161 0) (107 ∷ 105 ∷ 100 ∷ 115 ∷ [])) (IntExpr 168 (pos 0))) (118 ∷ [])) (VarExpr 176 1))) (MoreStmts (ReturnStmt 182 (Some (VarExpr 189 0))) NoStmts))))) }) ∷ []

abbrev pub nested_numbers : List Ty
nested_numbers = (other ∷ other ∷ number_type ∷ number_type ∷ other ∷ other ∷ other ∷ other ∷ number_type ∷ number_type ∷ number_type ∷ other ∷ other ∷ other ∷ other ∷ number_type ∷ other ∷ number_type ∷ number_type ∷ other ∷ other ∷ [])

abbrev pub nested_0 : Term
nested_0 = one (in_type 0) (leaf (val_name (116 ∷ []) 0))

abbrev pub nested_1 : Term
nested_1 = one (of_kind int_kind) (leaf (val_name (110 ∷ []) 1))

abbrev pub nested_2 : Term
nested_2 = two at_most (leaf (number (negsuc 39614081257132168796771975167))) (one num (leaf (val_name (110 ∷ []) 1)))

abbrev pub nested_3 : Term
nested_3 = two at_most (one num (leaf (val_name (110 ∷ []) 1))) (leaf (number (pos 39614081257132168796771975167)))

abbrev pub nested_4 : Term
nested_4 = leaf all_of

abbrev pub nested_5 : Term
nested_5 = one denied (two at_most (one len (one (field (107 ∷ 105 ∷ 100 ∷ 115 ∷ [])) (two (set_field (107 ∷ 105 ∷ 100 ∷ 115 ∷ [])) (leaf (val_name (116 ∷ []) 0)) (Of array (part (leaf (val_name (116 ∷ []) 0)) (part (leaf (val_name (116 ∷ []) 0)) no_parts)))))) (leaf (number (pos 0))))

abbrev pub nested_6 : Term
nested_6 = one denied (two at_most (one len (one (field (107 ∷ 105 ∷ 100 ∷ 115 ∷ [])) (two (set_field (107 ∷ 105 ∷ 100 ∷ 115 ∷ [])) (two (set_field (107 ∷ 105 ∷ 100 ∷ 115 ∷ [])) (leaf (val_name (116 ∷ []) 0)) (Of array (part (leaf (val_name (116 ∷ []) 0)) (part (leaf (val_name (116 ∷ []) 0)) no_parts)))) (Of update (part (one (field (107 ∷ 105 ∷ 100 ∷ 115 ∷ [])) (two (set_field (107 ∷ 105 ∷ 100 ∷ 115 ∷ [])) (leaf (val_name (116 ∷ []) 0)) (Of array (part (leaf (val_name (116 ∷ []) 0)) (part (leaf (val_name (116 ∷ []) 0)) no_parts))))) (part (leaf (number (pos 0))) (part (two (set_field (118 ∷ [])) (two get (one (field (107 ∷ 105 ∷ 100 ∷ 115 ∷ [])) (two (set_field (107 ∷ 105 ∷ 100 ∷ 115 ∷ [])) (leaf (val_name (116 ∷ []) 0)) (Of array (part (leaf (val_name (116 ∷ []) 0)) (part (leaf (val_name (116 ∷ []) 0)) no_parts))))) (leaf (number (pos 0)))) (leaf (val_name (110 ∷ []) 1))) no_parts))))))) (leaf (number (pos 1))))

abbrev pub nested_7 : Term
nested_7 = two equal (leaf (val_name (116 ∷ []) 2)) (two (set_field (107 ∷ 105 ∷ 100 ∷ 115 ∷ [])) (two (set_field (107 ∷ 105 ∷ 100 ∷ 115 ∷ [])) (two (set_field (107 ∷ 105 ∷ 100 ∷ 115 ∷ [])) (leaf (val_name (116 ∷ []) 0)) (Of array (part (leaf (val_name (116 ∷ []) 0)) (part (leaf (val_name (116 ∷ []) 0)) no_parts)))) (Of update (part (one (field (107 ∷ 105 ∷ 100 ∷ 115 ∷ [])) (two (set_field (107 ∷ 105 ∷ 100 ∷ 115 ∷ [])) (leaf (val_name (116 ∷ []) 0)) (Of array (part (leaf (val_name (116 ∷ []) 0)) (part (leaf (val_name (116 ∷ []) 0)) no_parts))))) (part (leaf (number (pos 0))) (part (two (set_field (118 ∷ [])) (two get (one (field (107 ∷ 105 ∷ 100 ∷ 115 ∷ [])) (two (set_field (107 ∷ 105 ∷ 100 ∷ 115 ∷ [])) (leaf (val_name (116 ∷ []) 0)) (Of array (part (leaf (val_name (116 ∷ []) 0)) (part (leaf (val_name (116 ∷ []) 0)) no_parts))))) (leaf (number (pos 0)))) (leaf (val_name (110 ∷ []) 1))) no_parts))))) (Of update (part (one (field (107 ∷ 105 ∷ 100 ∷ 115 ∷ [])) (two (set_field (107 ∷ 105 ∷ 100 ∷ 115 ∷ [])) (two (set_field (107 ∷ 105 ∷ 100 ∷ 115 ∷ [])) (leaf (val_name (116 ∷ []) 0)) (Of array (part (leaf (val_name (116 ∷ []) 0)) (part (leaf (val_name (116 ∷ []) 0)) no_parts)))) (Of update (part (one (field (107 ∷ 105 ∷ 100 ∷ 115 ∷ [])) (two (set_field (107 ∷ 105 ∷ 100 ∷ 115 ∷ [])) (leaf (val_name (116 ∷ []) 0)) (Of array (part (leaf (val_name (116 ∷ []) 0)) (part (leaf (val_name (116 ∷ []) 0)) no_parts))))) (part (leaf (number (pos 0))) (part (two (set_field (118 ∷ [])) (two get (one (field (107 ∷ 105 ∷ 100 ∷ 115 ∷ [])) (two (set_field (107 ∷ 105 ∷ 100 ∷ 115 ∷ [])) (leaf (val_name (116 ∷ []) 0)) (Of array (part (leaf (val_name (116 ∷ []) 0)) (part (leaf (val_name (116 ∷ []) 0)) no_parts))))) (leaf (number (pos 0)))) (leaf (val_name (110 ∷ []) 1))) no_parts)))))) (part (leaf (number (pos 1))) (part (two (set_field (107 ∷ 105 ∷ 100 ∷ 115 ∷ [])) (two get (one (field (107 ∷ 105 ∷ 100 ∷ 115 ∷ [])) (two (set_field (107 ∷ 105 ∷ 100 ∷ 115 ∷ [])) (two (set_field (107 ∷ 105 ∷ 100 ∷ 115 ∷ [])) (leaf (val_name (116 ∷ []) 0)) (Of array (part (leaf (val_name (116 ∷ []) 0)) (part (leaf (val_name (116 ∷ []) 0)) no_parts)))) (Of update (part (one (field (107 ∷ 105 ∷ 100 ∷ 115 ∷ [])) (two (set_field (107 ∷ 105 ∷ 100 ∷ 115 ∷ [])) (leaf (val_name (116 ∷ []) 0)) (Of array (part (leaf (val_name (116 ∷ []) 0)) (part (leaf (val_name (116 ∷ []) 0)) no_parts))))) (part (leaf (number (pos 0))) (part (two (set_field (118 ∷ [])) (two get (one (field (107 ∷ 105 ∷ 100 ∷ 115 ∷ [])) (two (set_field (107 ∷ 105 ∷ 100 ∷ 115 ∷ [])) (leaf (val_name (116 ∷ []) 0)) (Of array (part (leaf (val_name (116 ∷ []) 0)) (part (leaf (val_name (116 ∷ []) 0)) no_parts))))) (leaf (number (pos 0)))) (leaf (val_name (110 ∷ []) 1))) no_parts)))))) (leaf (number (pos 1)))) (Of array (part (two (set_field (107 ∷ 105 ∷ 100 ∷ 115 ∷ [])) (two (set_field (107 ∷ 105 ∷ 100 ∷ 115 ∷ [])) (leaf (val_name (116 ∷ []) 0)) (Of array (part (leaf (val_name (116 ∷ []) 0)) (part (leaf (val_name (116 ∷ []) 0)) no_parts)))) (Of update (part (one (field (107 ∷ 105 ∷ 100 ∷ 115 ∷ [])) (two (set_field (107 ∷ 105 ∷ 100 ∷ 115 ∷ [])) (leaf (val_name (116 ∷ []) 0)) (Of array (part (leaf (val_name (116 ∷ []) 0)) (part (leaf (val_name (116 ∷ []) 0)) no_parts))))) (part (leaf (number (pos 0))) (part (two (set_field (118 ∷ [])) (two get (one (field (107 ∷ 105 ∷ 100 ∷ 115 ∷ [])) (two (set_field (107 ∷ 105 ∷ 100 ∷ 115 ∷ [])) (leaf (val_name (116 ∷ []) 0)) (Of array (part (leaf (val_name (116 ∷ []) 0)) (part (leaf (val_name (116 ∷ []) 0)) no_parts))))) (leaf (number (pos 0)))) (leaf (val_name (110 ∷ []) 1))) no_parts))))) no_parts))) no_parts)))))

abbrev pub nested_8 : Term
nested_8 = one denied (two at_most (one len (one (field (107 ∷ 105 ∷ 100 ∷ 115 ∷ [])) (leaf (val_name (116 ∷ []) 2)))) (leaf (number (pos 0))))

abbrev pub nested_9 : Term
nested_9 = Of all_of (part (two at_most (one num (one (field (118 ∷ [])) (two get (one (field (107 ∷ 105 ∷ 100 ∷ 115 ∷ [])) (leaf (val_name (116 ∷ []) 2))) (leaf (number (pos 0)))))) (one num (leaf (val_name (110 ∷ []) 1)))) (part (two at_most (one num (leaf (val_name (110 ∷ []) 1))) (one num (one (field (118 ∷ [])) (two get (one (field (107 ∷ 105 ∷ 100 ∷ 115 ∷ [])) (leaf (val_name (116 ∷ []) 2))) (leaf (number (pos 0))))))) no_parts))

abbrev pub nested_10 : Term
nested_10 = two at_most (one num (one (field (118 ∷ [])) (two get (one (field (107 ∷ 105 ∷ 100 ∷ 115 ∷ [])) (leaf (val_name (116 ∷ []) 2))) (leaf (number (pos 0)))))) (one num (leaf (val_name (110 ∷ []) 1)))

abbrev pub nested_11 : Term
nested_11 = two at_most (one num (leaf (val_name (110 ∷ []) 1))) (one num (one (field (118 ∷ [])) (two get (one (field (107 ∷ 105 ∷ 100 ∷ 115 ∷ [])) (leaf (val_name (116 ∷ []) 2))) (leaf (number (pos 0))))))

abbrev pub nested_12 : Term
nested_12 = Of all_of (part (two at_most (one len (one (field (107 ∷ 105 ∷ 100 ∷ 115 ∷ [])) (leaf (val_name (116 ∷ []) 2)))) (leaf (number (pos 2)))) (part (two at_most (leaf (number (pos 2))) (one len (one (field (107 ∷ 105 ∷ 100 ∷ 115 ∷ [])) (leaf (val_name (116 ∷ []) 2))))) no_parts))

abbrev pub nested_conditions : List Owed
nested_conditions = (owed kind.Index 115 (nested_0 ∷ nested_1 ∷ nested_2 ∷ nested_3 ∷ []) nested_4 ∷ owed kind.Index 115 (nested_0 ∷ nested_1 ∷ nested_2 ∷ nested_3 ∷ []) nested_5 ∷ owed kind.Index 135 (nested_0 ∷ nested_1 ∷ nested_2 ∷ nested_3 ∷ nested_5 ∷ []) nested_4 ∷ owed kind.Index 135 (nested_0 ∷ nested_1 ∷ nested_2 ∷ nested_3 ∷ nested_5 ∷ []) nested_6 ∷ owed kind.Index 167 (nested_0 ∷ nested_1 ∷ nested_2 ∷ nested_3 ∷ nested_5 ∷ nested_6 ∷ nested_7 ∷ []) nested_4 ∷ owed kind.Index 167 (nested_0 ∷ nested_1 ∷ nested_2 ∷ nested_3 ∷ nested_5 ∷ nested_6 ∷ nested_7 ∷ []) nested_8 ∷ owed kind.Assert 154 (nested_0 ∷ nested_1 ∷ nested_2 ∷ nested_3 ∷ nested_5 ∷ nested_6 ∷ nested_7 ∷ nested_8 ∷ []) nested_9 ∷ owed kind.Ensures 182 (nested_0 ∷ nested_1 ∷ nested_2 ∷ nested_3 ∷ nested_5 ∷ nested_6 ∷ nested_7 ∷ nested_8 ∷ nested_10 ∷ nested_11 ∷ []) nested_12 ∷ [])

-- type nat is (int x) where x >= 0
-- function cls(any v) -> (int r)
-- ensures r >= 0:
--     if v is {int a, int b}:
--         return 0
--     if v is int:
--         if v >= 0:
--             return v
--         return 1
--     if v is {int a}:
--         if v.a is nat:
--             return 3
--     if v is int[]:
--         if |v| > 0 && v[0] is nat:
--             return 4
--         return |v|
--     return 0
abbrev pub narrowed : Core ℕ
narrowed = AliasDecl (record { at = 0; name = (110 ∷ 97 ∷ 116 ∷ []); variables = ((120 ∷ []) ∷ []); ty_at = 0; ty = IntTy; variable = (Some 0); clauses = ((BinaryExpr 28 op.GreaterEqual (VarExpr 26 0) (IntExpr 31 (pos 0))) ∷ []) }) ∷ RoutineDecl (record { at = 33; name = (99 ∷ 108 ∷ 115 ∷ []); is_method = false; variables = ((118 ∷ []) ∷ (114 ∷ []) ∷ []); params = ((record { at = 0; ty = AnyTy; variable = 0 }) ∷ []); result = (Some (record { at = 0; ty = IntTy; variable = (Some 1) })); preconditions = ([]); postconditions = ((BinaryExpr 74 op.GreaterEqual (VarExpr 72 1) (IntExpr 77 (pos 0))) ∷ []); body = (MoreStmts (IfStmt 84 (IsExpr 89 (VarExpr 87 0) (RecordTy (MoreFieldTys (97 ∷ []) IntTy (MoreFieldTys (98 ∷ []) IntTy NoFieldTys)))) (MoreStmts (ReturnStmt 116 (Some (IntExpr 123 (pos 0)))) NoStmts) NoStmts) (MoreStmts (IfStmt 129 (IsExpr 134 (VarExpr 132 0) IntTy) (MoreStmts (IfStmt 150 (BinaryExpr 155 op.GreaterEqual (VarExpr 153 0) (IntExpr 158 (pos 0))) (MoreStmts (ReturnStmt 173 (Some (VarExpr 180 0))) NoStmts) NoStmts) (MoreStmts (ReturnStmt 190 (Some (IntExpr 197 (pos 1)))) NoStmts)) NoStmts) (MoreStmts (IfStmt 203 (IsExpr 208 (VarExpr 206 0) (RecordTy (MoreFieldTys (97 ∷ []) IntTy NoFieldTys))) (MoreStmts (IfStmt 228 (IsExpr 235 (FieldExpr 232 (VarExpr 231 0) (97 ∷ [])) (NamedTy 0)) (MoreStmts (ReturnStmt 255 (Some (IntExpr 262 (pos 3)))) NoStmts) NoStmts) NoStmts) NoStmts) (MoreStmts (IfStmt 268 (IsExpr 273 (VarExpr 271 0) (ArrayTy IntTy)) (MoreStmts (IfStmt 291 (BinaryExpr 302 op.And (BinaryExpr 298 op.Greater (LenExpr 294 (VarExpr 295 0)) (IntExpr 300 (pos 0))) (IsExpr 310 (IndexExpr 306 (VarExpr 305 0) (IntExpr 307 (pos 0))) (NamedTy 0))) (MoreStmts (ReturnStmt 330 (Some (IntExpr 337 (pos 4)))) NoStmts) NoStmts) (MoreStmts (ReturnStmt 347 (Some (LenExpr 354 (VarExpr 355 0)))) NoStmts)) NoStmts) (MoreStmts (ReturnStmt 362 (Some (IntExpr 369 (pos 0)))) NoStmts))))) }) ∷ []

abbrev pub narrowed_numbers : List Ty
narrowed_numbers = (number_type ∷ number_type ∷ other ∷ number_type ∷ number_type ∷ other ∷ other ∷ other ∷ number_type ∷ other ∷ other ∷ other ∷ number_type ∷ other ∷ other ∷ number_type ∷ other ∷ other ∷ other ∷ other ∷ other ∷ number_type ∷ other ∷ other ∷ other ∷ number_type ∷ number_type ∷ other ∷ other ∷ number_type ∷ other ∷ other ∷ other ∷ number_type ∷ other ∷ number_type ∷ number_type ∷ [])

abbrev pub narrowed_0 : Term
narrowed_0 = one (of_kind (record_kind ((97 ∷ []) ∷ (98 ∷ []) ∷ []))) (leaf (val_name (118 ∷ []) 0))

abbrev pub narrowed_1 : Term
narrowed_1 = one (of_kind int_kind) (one (field (97 ∷ [])) (leaf (val_name (118 ∷ []) 0)))

abbrev pub narrowed_2 : Term
narrowed_2 = two at_most (leaf (number (negsuc 39614081257132168796771975167))) (one num (one (field (97 ∷ [])) (leaf (val_name (118 ∷ []) 0))))

abbrev pub narrowed_3 : Term
narrowed_3 = two at_most (one num (one (field (97 ∷ [])) (leaf (val_name (118 ∷ []) 0)))) (leaf (number (pos 39614081257132168796771975167)))

abbrev pub narrowed_4 : Term
narrowed_4 = one (of_kind int_kind) (one (field (98 ∷ [])) (leaf (val_name (118 ∷ []) 0)))

abbrev pub narrowed_5 : Term
narrowed_5 = two at_most (leaf (number (negsuc 39614081257132168796771975167))) (one num (one (field (98 ∷ [])) (leaf (val_name (118 ∷ []) 0))))

abbrev pub narrowed_6 : Term
narrowed_6 = two at_most (one num (one (field (98 ∷ [])) (leaf (val_name (118 ∷ []) 0)))) (leaf (number (pos 39614081257132168796771975167)))

abbrev pub narrowed_7 : Term
narrowed_7 = leaf all_of

abbrev pub narrowed_8 : Term
narrowed_8 = one denied (Of all_of (part (one (of_kind (record_kind ((97 ∷ []) ∷ (98 ∷ []) ∷ []))) (leaf (val_name (118 ∷ []) 0))) (part (Of all_of (part (one (of_kind int_kind) (one (field (97 ∷ [])) (leaf (val_name (118 ∷ []) 0)))) (part (two at_most (leaf (number (negsuc 39614081257132168796771975167))) (one num (one (field (97 ∷ [])) (leaf (val_name (118 ∷ []) 0))))) (part (two at_most (one num (one (field (97 ∷ [])) (leaf (val_name (118 ∷ []) 0)))) (leaf (number (pos 39614081257132168796771975167)))) no_parts)))) (part (Of all_of (part (one (of_kind int_kind) (one (field (98 ∷ [])) (leaf (val_name (118 ∷ []) 0)))) (part (two at_most (leaf (number (negsuc 39614081257132168796771975167))) (one num (one (field (98 ∷ [])) (leaf (val_name (118 ∷ []) 0))))) (part (two at_most (one num (one (field (98 ∷ [])) (leaf (val_name (118 ∷ []) 0)))) (leaf (number (pos 39614081257132168796771975167)))) no_parts)))) no_parts))))

abbrev pub narrowed_9 : Term
narrowed_9 = one (of_kind int_kind) (leaf (val_name (118 ∷ []) 0))

abbrev pub narrowed_10 : Term
narrowed_10 = two at_most (leaf (number (negsuc 39614081257132168796771975167))) (one num (leaf (val_name (118 ∷ []) 0)))

abbrev pub narrowed_11 : Term
narrowed_11 = two at_most (one num (leaf (val_name (118 ∷ []) 0))) (leaf (number (pos 39614081257132168796771975167)))

abbrev pub narrowed_12 : Term
narrowed_12 = two at_most (leaf (number (pos 0))) (one num (leaf (val_name (118 ∷ []) 0)))

abbrev pub narrowed_13 : Term
narrowed_13 = one denied (two at_most (leaf (number (pos 0))) (one num (leaf (val_name (118 ∷ []) 0))))

abbrev pub narrowed_14 : Term
narrowed_14 = one denied (Of all_of (part (one (of_kind int_kind) (leaf (val_name (118 ∷ []) 0))) (part (two at_most (leaf (number (negsuc 39614081257132168796771975167))) (one num (leaf (val_name (118 ∷ []) 0)))) (part (two at_most (one num (leaf (val_name (118 ∷ []) 0))) (leaf (number (pos 39614081257132168796771975167)))) no_parts))))

abbrev pub narrowed_15 : Term
narrowed_15 = one (of_kind (record_kind ((97 ∷ []) ∷ []))) (leaf (val_name (118 ∷ []) 0))

abbrev pub narrowed_16 : Term
narrowed_16 = two at_most (leaf (number (pos 0))) (one num (one (field (97 ∷ [])) (leaf (val_name (118 ∷ []) 0))))

abbrev pub narrowed_17 : Term
narrowed_17 = Of any_of (part (Of all_of (part (one (of_kind (record_kind ((97 ∷ []) ∷ []))) (leaf (val_name (118 ∷ []) 0))) (part (one (of_kind int_kind) (one (field (97 ∷ [])) (leaf (val_name (118 ∷ []) 0)))) (part (two at_most (leaf (number (negsuc 39614081257132168796771975167))) (one num (one (field (97 ∷ [])) (leaf (val_name (118 ∷ []) 0))))) (part (two at_most (one num (one (field (97 ∷ [])) (leaf (val_name (118 ∷ []) 0)))) (leaf (number (pos 39614081257132168796771975167)))) (part (one denied (Of all_of (part (Of all_of (part (one (of_kind int_kind) (one (field (97 ∷ [])) (leaf (val_name (118 ∷ []) 0)))) (part (two at_most (leaf (number (negsuc 39614081257132168796771975167))) (one num (one (field (97 ∷ [])) (leaf (val_name (118 ∷ []) 0))))) (part (two at_most (one num (one (field (97 ∷ [])) (leaf (val_name (118 ∷ []) 0)))) (leaf (number (pos 39614081257132168796771975167)))) no_parts)))) (part (two at_most (leaf (number (pos 0))) (one num (one (field (97 ∷ [])) (leaf (val_name (118 ∷ []) 0))))) no_parts)))) no_parts)))))) (part (one denied (Of all_of (part (one (of_kind (record_kind ((97 ∷ []) ∷ []))) (leaf (val_name (118 ∷ []) 0))) (part (Of all_of (part (one (of_kind int_kind) (one (field (97 ∷ [])) (leaf (val_name (118 ∷ []) 0)))) (part (two at_most (leaf (number (negsuc 39614081257132168796771975167))) (one num (one (field (97 ∷ [])) (leaf (val_name (118 ∷ []) 0))))) (part (two at_most (one num (one (field (97 ∷ [])) (leaf (val_name (118 ∷ []) 0)))) (leaf (number (pos 39614081257132168796771975167)))) no_parts)))) no_parts)))) no_parts))

abbrev pub narrowed_18 : Term
narrowed_18 = one (of_kind array_kind) (leaf (val_name (118 ∷ []) 0))

abbrev pub narrowed_19 : Term
narrowed_19 = two at_most (one len (leaf (val_name (118 ∷ []) 0))) (leaf (number (pos 9223372036854775807)))

abbrev pub narrowed_20 : Term
narrowed_20 = Of (every (107 ∷ []) 1) (part (leaf (number (pos 0))) (part (one len (leaf (val_name (118 ∷ []) 0))) (part (Of all_of (part (one (of_kind int_kind) (two get (leaf (val_name (118 ∷ []) 0)) (leaf (int_name (107 ∷ []) 1)))) (part (two at_most (leaf (number (negsuc 39614081257132168796771975167))) (one num (two get (leaf (val_name (118 ∷ []) 0)) (leaf (int_name (107 ∷ []) 1))))) (part (two at_most (one num (two get (leaf (val_name (118 ∷ []) 0)) (leaf (int_name (107 ∷ []) 1)))) (leaf (number (pos 39614081257132168796771975167)))) no_parts)))) no_parts)))

abbrev pub narrowed_21 : Term
narrowed_21 = one denied (two at_most (one len (leaf (val_name (118 ∷ []) 0))) (leaf (number (pos 0))))

abbrev pub narrowed_22 : Term
narrowed_22 = one (of_kind int_kind) (two get (leaf (val_name (118 ∷ []) 0)) (leaf (number (pos 0))))

abbrev pub narrowed_23 : Term
narrowed_23 = two at_most (leaf (number (negsuc 39614081257132168796771975167))) (one num (two get (leaf (val_name (118 ∷ []) 0)) (leaf (number (pos 0)))))

abbrev pub narrowed_24 : Term
narrowed_24 = two at_most (one num (two get (leaf (val_name (118 ∷ []) 0)) (leaf (number (pos 0))))) (leaf (number (pos 39614081257132168796771975167)))

abbrev pub narrowed_25 : Term
narrowed_25 = two at_most (leaf (number (pos 0))) (one num (two get (leaf (val_name (118 ∷ []) 0)) (leaf (number (pos 0)))))

abbrev pub narrowed_26 : Term
narrowed_26 = one denied (Of all_of (part (one denied (two at_most (one len (leaf (val_name (118 ∷ []) 0))) (leaf (number (pos 0))))) (part (Of all_of (part (Of all_of (part (one (of_kind int_kind) (two get (leaf (val_name (118 ∷ []) 0)) (leaf (number (pos 0))))) (part (two at_most (leaf (number (negsuc 39614081257132168796771975167))) (one num (two get (leaf (val_name (118 ∷ []) 0)) (leaf (number (pos 0)))))) (part (two at_most (one num (two get (leaf (val_name (118 ∷ []) 0)) (leaf (number (pos 0))))) (leaf (number (pos 39614081257132168796771975167)))) no_parts)))) (part (two at_most (leaf (number (pos 0))) (one num (two get (leaf (val_name (118 ∷ []) 0)) (leaf (number (pos 0)))))) no_parts))) no_parts)))

abbrev pub narrowed_27 : Term
narrowed_27 = two at_most (leaf (number (pos 0))) (one len (leaf (val_name (118 ∷ []) 0)))

abbrev pub narrowed_28 : Term
narrowed_28 = one denied (Of all_of (part (one (of_kind array_kind) (leaf (val_name (118 ∷ []) 0))) (part (two at_most (one len (leaf (val_name (118 ∷ []) 0))) (leaf (number (pos 9223372036854775807)))) (part (Of (every (107 ∷ []) 1) (part (leaf (number (pos 0))) (part (one len (leaf (val_name (118 ∷ []) 0))) (part (Of all_of (part (one (of_kind int_kind) (two get (leaf (val_name (118 ∷ []) 0)) (leaf (int_name (107 ∷ []) 1)))) (part (two at_most (leaf (number (negsuc 39614081257132168796771975167))) (one num (two get (leaf (val_name (118 ∷ []) 0)) (leaf (int_name (107 ∷ []) 1))))) (part (two at_most (one num (two get (leaf (val_name (118 ∷ []) 0)) (leaf (int_name (107 ∷ []) 1)))) (leaf (number (pos 39614081257132168796771975167)))) no_parts)))) no_parts)))) no_parts))))

abbrev pub narrowed_conditions : List Owed
narrowed_conditions = (owed kind.Ensures 116 (narrowed_0 ∷ narrowed_1 ∷ narrowed_2 ∷ narrowed_3 ∷ narrowed_4 ∷ narrowed_5 ∷ narrowed_6 ∷ []) narrowed_7 ∷ owed kind.Ensures 173 (narrowed_8 ∷ narrowed_9 ∷ narrowed_10 ∷ narrowed_11 ∷ narrowed_12 ∷ []) narrowed_12 ∷ owed kind.Ensures 190 (narrowed_8 ∷ narrowed_9 ∷ narrowed_10 ∷ narrowed_11 ∷ narrowed_13 ∷ []) narrowed_7 ∷ owed kind.Ensures 255 (narrowed_8 ∷ narrowed_14 ∷ narrowed_15 ∷ narrowed_1 ∷ narrowed_2 ∷ narrowed_3 ∷ narrowed_1 ∷ narrowed_2 ∷ narrowed_3 ∷ narrowed_16 ∷ []) narrowed_7 ∷ owed kind.Index 306 (narrowed_8 ∷ narrowed_14 ∷ narrowed_17 ∷ narrowed_18 ∷ narrowed_19 ∷ narrowed_20 ∷ narrowed_21 ∷ []) narrowed_7 ∷ owed kind.Index 306 (narrowed_8 ∷ narrowed_14 ∷ narrowed_17 ∷ narrowed_18 ∷ narrowed_19 ∷ narrowed_20 ∷ narrowed_21 ∷ []) narrowed_21 ∷ owed kind.Ensures 330 (narrowed_8 ∷ narrowed_14 ∷ narrowed_17 ∷ narrowed_18 ∷ narrowed_19 ∷ narrowed_20 ∷ narrowed_21 ∷ narrowed_22 ∷ narrowed_23 ∷ narrowed_24 ∷ narrowed_25 ∷ []) narrowed_7 ∷ owed kind.Ensures 347 (narrowed_8 ∷ narrowed_14 ∷ narrowed_17 ∷ narrowed_18 ∷ narrowed_19 ∷ narrowed_20 ∷ narrowed_26 ∷ []) narrowed_27 ∷ owed kind.Ensures 362 (narrowed_8 ∷ narrowed_14 ∷ narrowed_17 ∷ narrowed_28 ∷ []) narrowed_7 ∷ [])

-- what the test of the type of `nested` stands for
abbrev pub nested_test : Term
nested_test = Of all_of (part (one (of_kind (record_kind ((107 ∷ 105 ∷ 100 ∷ 115 ∷ []) ∷ (118 ∷ []) ∷ []))) (leaf (val_name (120 ∷ []) 0))) (part (Of all_of (part (one (of_kind array_kind) (one (field (107 ∷ 105 ∷ 100 ∷ 115 ∷ [])) (leaf (val_name (120 ∷ []) 0)))) (part (two at_most (one len (one (field (107 ∷ 105 ∷ 100 ∷ 115 ∷ [])) (leaf (val_name (120 ∷ []) 0)))) (leaf (number (pos 9223372036854775807)))) (part (Of (every (107 ∷ []) 1) (part (leaf (number (pos 0))) (part (one len (one (field (107 ∷ 105 ∷ 100 ∷ 115 ∷ [])) (leaf (val_name (120 ∷ []) 0)))) (part (one (in_type 0) (two get (one (field (107 ∷ 105 ∷ 100 ∷ 115 ∷ [])) (leaf (val_name (120 ∷ []) 0))) (leaf (int_name (107 ∷ []) 1)))) no_parts)))) no_parts)))) (part (Of all_of (part (one (of_kind int_kind) (one (field (118 ∷ [])) (leaf (val_name (120 ∷ []) 0)))) (part (two at_most (leaf (number (negsuc 39614081257132168796771975167))) (one num (one (field (118 ∷ [])) (leaf (val_name (120 ∷ []) 0))))) (part (two at_most (one num (one (field (118 ∷ [])) (leaf (val_name (120 ∷ []) 0)))) (leaf (number (pos 39614081257132168796771975167)))) no_parts)))) no_parts)))
