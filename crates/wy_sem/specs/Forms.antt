-- What each form of expression and statement does in a small program: its value or its fault, with kind and place.
use Rattle.std.specs.Prelude.{◌≡◌, ℕ, List, [], ◌∷◌, Bool, true, false, Option, Some, None, ℤ, pos, negsuc}
use Rattle.wy_sem.specs.Programs.{at_itself}
use Rattle.wy_term.specs.wy_value.Datum.{Datum, Truth, Whole, Array, Record, no_items, item, no_fields, field}
use Rattle.wy_term.specs.wy_value.declared.bounds.TheConstants.{INT_MIN, INT_MAX}
use Rattle.wy_types.specs.wy_core.Types.{IntTy, AnyTy, NamedTy, ArrayTy, UnionTy, NullTy}
use Rattle.wy_types.specs.wy_core.CoreTree.{Expr, NullExpr, BoolExpr, IntExpr, VarExpr, CallExpr, NegExpr, BinaryExpr, IsExpr, IndexExpr, FieldExpr, ListExpr, RepeatExpr, RecordExpr, QuantExpr, Exprs, NoExprs, MoreExprs, NoFields, MoreFields, IndexStep, FieldStep, Stmt, DeclareStmt, AssignStmt, CallStmt, ReturnStmt, AssertStmt, BreakStmt, ContinueStmt, SkipStmt, FailStmt, IfStmt, WhileStmt, Stmts, NoStmts, MoreStmts, Core, Decl, AliasDecl, RoutineDecl}
use Rattle.wy_types.specs.wy_core.declared.expressions.Op.TheVariants.{Add, Sub, Mul, Div, Mod, Less, LessEqual, Greater, GreaterEqual, Equal, And, Or}
use Rattle.wy_term.specs.declared.cond.CondKind.{CondKind}
use Rattle.wy_term.specs.declared.cond.CondKind.TheVariants.{Range, Divisor, Index, Length, Member, Requires, Ensures, Entry, Keep, Assert, Fail}
use Rattle.wy_sem.specs.Meter.{Outcome, Done, Fault, More, Spent}
use Rattle.wy_sem.specs.Evaluation.{evaluate}

-- how a run ends, without what it spent
pub data End : Type 0 where
  gives : (v : Option Datum) (output : List ℕ) → End
  faults : (kind : CondKind) (at : ℕ) (output : List ℕ) → End
  wants_more : (output : List ℕ) → End
  passes_the_limit : End

abbrev pub end_of : Outcome (Option Datum) → End
end_of (Done v m) = gives v m.output
end_of (Fault kind at m) = faults kind at m.output
end_of (More m) = wants_more m.output
end_of Spent = passes_the_limit

abbrev pub name : List ℕ
name = 120 ∷ []

-- type nat is (int x) where x >= 0
abbrev pub nat : Decl ℕ
nat = AliasDecl (record { at = 0; name = name; variables = name ∷ []; ty_at = 0; ty = IntTy; variable = Some 0; clauses = BinaryExpr 900 GreaterEqual (VarExpr 901 0) (IntExpr 902 (pos 0)) ∷ [] })

-- method tell(int x) -> (int r): print([x]) return x
abbrev pub tell : Decl ℕ
tell = RoutineDecl (record {
  at = 800;
  name = name;
  is_method = true;
  variables = name ∷ [];
  params = record { at = 0; ty = IntTy; variable = 0 } ∷ [];
  result = Some (record { at = 0; ty = IntTy; variable = None });
  preconditions = [];
  postconditions = [];
  body = MoreStmts (CallStmt 801 3 (MoreExprs (ListExpr 802 (MoreExprs (VarExpr 803 0) NoExprs)) NoExprs)) (MoreStmts (ReturnStmt 804 (Some (VarExpr 805 0))) NoStmts);
})

-- function wary(any x) -> (nat r) requires 1 / x > -1 ensures r < x ensures r < 5: x = x - 3 return x
abbrev pub wary : Decl ℕ
wary = RoutineDecl (record {
  at = 700;
  name = name;
  is_method = false;
  variables = name ∷ name ∷ [];
  params = record { at = 0; ty = AnyTy; variable = 0 } ∷ [];
  result = Some (record { at = 0; ty = NamedTy 0; variable = Some 1 });
  preconditions = BinaryExpr 701 Greater (BinaryExpr 702 Div (IntExpr 703 (pos 1)) (VarExpr 704 0)) (IntExpr 705 (negsuc 0)) ∷ [];
  postconditions = BinaryExpr 715 Less (VarExpr 716 1) (VarExpr 717 0) ∷ BinaryExpr 706 Less (VarExpr 707 1) (IntExpr 708 (pos 5)) ∷ [];
  body = MoreStmts (AssignStmt 709 0 [] (BinaryExpr 710 Sub (VarExpr 711 0) (IntExpr 712 (pos 3)))) (MoreStmts (ReturnStmt 713 (Some (VarExpr 714 0))) NoStmts);
})

-- a method with four variables and this body, beside `tell` (1) and `wary` (2); 3 is print
abbrev pub program : Stmts ℕ → Core ℕ
program body = nat ∷ RoutineDecl (record {
  at = 600;
  name = name;
  is_method = true;
  variables = name ∷ name ∷ name ∷ name ∷ [];
  params = [];
  result = Some (record { at = 0; ty = AnyTy; variable = None });
  preconditions = [];
  postconditions = [];
  body = body;
}) ∷ tell ∷ wary ∷ []

abbrev pub does : Stmts ℕ → End
does body = end_of (evaluate at_itself (program body) 0 [] 200)

abbrev pub returns : Expr ℕ → End
returns e = does (MoreStmts (ReturnStmt 50 (Some e)) NoStmts)

abbrev pub int : ℤ → Expr ℕ
int z = IntExpr 99 z

abbrev pub one_of : Expr ℕ → Exprs ℕ
one_of e = MoreExprs e NoExprs

abbrev pub two_of : Expr ℕ → Expr ℕ → Exprs ℕ
two_of d e = MoreExprs d (MoreExprs e NoExprs)

abbrev pub then : Stmt ℕ → Stmts ℕ → Stmts ℕ
then st rest = MoreStmts st rest

abbrev pub yields : ℤ → End
yields z = gives (Some (Whole z)) []

abbrev pub is_so : Bool → End
is_so b = gives (Some (Truth b)) []

abbrev pub pair : Expr ℕ
pair = ListExpr 2 (two_of (int (pos 4)) (int (pos 6)))

abbrev pub counts_to : ℤ → List (Expr ℕ) → Stmts ℕ → End
counts_to n invariants body = does (then (DeclareStmt 1 IntTy 0 (Some (int (pos 0)))) (then (WhileStmt 2 (BinaryExpr 3 Less (VarExpr 4 0) (int n)) invariants body) (then (ReturnStmt 5 (Some (VarExpr 6 0))) NoStmts)))

abbrev pub up_by : ℤ → Stmt ℕ
up_by n = AssignStmt 7 0 [] (BinaryExpr 8 Add (VarExpr 9 0) (int n))

abbrev pub told : ℤ → Expr ℕ
told z = CallExpr 20 1 (one_of (int z))

abbrev pub updates_at : ℤ → End
updates_at z = does (then (DeclareStmt 1 AnyTy 0 (Some pair)) (then (AssignStmt 2 0 (IndexStep 3 (BinaryExpr 4 Sub (told z) (int (pos 65))) ∷ []) (told (pos 90))) (then (ReturnStmt 5 (Some (VarExpr 6 0))) NoStmts)))

-- ---- what they do
pub record FormsDo : Type 0 where
  -- ---- numbers: the ends of `int`, and division
  pub adds_past_the_end : returns (BinaryExpr 1 Add (int INT_MAX) (int (pos 1))) ≡ faults Range 1 []
  pub subtracts_past_the_end : returns (BinaryExpr 1 Sub (int INT_MIN) (int (pos 1))) ≡ faults Range 1 []
  pub multiplies_past_128_bits : returns (BinaryExpr 1 Mul (int INT_MAX) (int INT_MAX)) ≡ faults Range 1 []
  pub negates_the_least : returns (NegExpr 1 (int INT_MIN)) ≡ faults Range 1 []
  pub divides_the_least : returns (BinaryExpr 1 Div (int INT_MIN) (int (negsuc 0))) ≡ faults Range 1 []
  pub divides_by_nothing : returns (BinaryExpr 1 Div (int (pos 1)) (int (pos 0))) ≡ faults Divisor 1 []
  pub no_remainder : returns (BinaryExpr 1 Mod (int (pos 1)) (int (pos 0))) ≡ faults Divisor 1 []
  -- 7 = 2 * 3 + 1, -7 = 2 * -4 + 1, 7 = -2 * -3 + 1, -7 = -2 * 4 + 1
  pub quotients : (returns (BinaryExpr 1 Div (int (pos 7)) (int (pos 2))) ≡ yields (pos 3)) × (returns (BinaryExpr 1 Div (int (negsuc 6)) (int (pos 2))) ≡ yields (negsuc 3))
      × (returns (BinaryExpr 1 Div (int (pos 7)) (int (negsuc 1))) ≡ yields (negsuc 2)) × (returns (BinaryExpr 1 Div (int (negsuc 6)) (int (negsuc 1))) ≡ yields (pos 4))
  pub remainders : (returns (BinaryExpr 1 Mod (int (pos 7)) (int (pos 2))) ≡ yields (pos 1)) × (returns (BinaryExpr 1 Mod (int (negsuc 6)) (int (pos 2))) ≡ yields (pos 1))
      × (returns (BinaryExpr 1 Mod (int (pos 7)) (int (negsuc 1))) ≡ yields (pos 1)) × (returns (BinaryExpr 1 Mod (int (negsuc 6)) (int (negsuc 1))) ≡ yields (pos 1))
  -- ---- arrays, records, variables
  pub reads_an_item : returns (IndexExpr 1 pair (int (pos 1))) ≡ yields (pos 6)
  pub reads_behind : returns (IndexExpr 1 pair (int (pos 2))) ≡ faults Index 1 []
  pub reads_before : returns (IndexExpr 1 pair (int (negsuc 0))) ≡ faults Index 1 []
  pub repeats : returns (RepeatExpr 1 (int (pos 7)) (int (pos 2))) ≡ gives (Some (Array (item (Whole (pos 7)) (item (Whole (pos 7)) no_items)))) []
  pub repeats_less_than_nothing : returns (RepeatExpr 1 (int (pos 7)) (int (negsuc 0))) ≡ faults Length 1 []
  pub lacks_the_field : returns (FieldExpr 1 (RecordExpr 2 (MoreFields (97 ∷ []) (int (pos 1)) NoFields)) (98 ∷ [])) ≡ faults Member 1 []
  pub is_unset : returns (VarExpr 1 3) ≡ faults Member 1 []
  pub adds_null : returns (BinaryExpr 1 Add (NullExpr 2) (int (pos 1))) ≡ faults Member 1 []
  pub ends_without_a_result : does (then (SkipStmt 1) NoStmts) ≡ faults Member 600 []
  pub wants_one_argument : returns (CallExpr 1 1 NoExprs) ≡ faults Member 1 []
  -- ---- early ends
  pub leaves_the_right_side : returns (BinaryExpr 1 And (BoolExpr 2 false) (BinaryExpr 3 Equal (BinaryExpr 4 Div (int (pos 1)) (int (pos 0))) (int (pos 0)))) ≡ is_so false
  pub leaves_the_other : returns (BinaryExpr 1 Or (BoolExpr 2 true) (NullExpr 3)) ≡ is_so true
  pub ends_at_the_first_false : returns (QuantExpr 1 true 3 (int (negsuc 1)) (int (pos 5)) (BinaryExpr 2 Less (BinaryExpr 3 Div (int (pos 6)) (VarExpr 4 3)) (int (negsuc 4)))) ≡ is_so false
  pub goes_on_to_the_fault : returns (QuantExpr 1 true 3 (int (negsuc 1)) (int (pos 5)) (BinaryExpr 2 Less (BinaryExpr 3 Div (int (pos 6)) (VarExpr 4 3)) (int (pos 5)))) ≡ faults Divisor 3 []
  pub between_reversed_bounds : (returns (QuantExpr 1 true 3 (int (pos 3)) (int (pos 1)) (BoolExpr 2 false)) ≡ is_so true) × (returns (QuantExpr 1 false 3 (int (pos 3)) (int (pos 1)) (BoolExpr 2 true)) ≡ is_so false)
  -- ---- contracts
  pub asserts_in_vain : does (then (AssertStmt 1 (BoolExpr 2 false)) NoStmts) ≡ faults Assert 1 []
  pub fails : does (then (FailStmt 1) NoStmts) ≡ faults Fail 1 []
  -- 1 / -5 is 0
  pub requires_more : returns (CallExpr 1 2 (one_of (int (negsuc 4)))) ≡ faults Member 713 []
  pub requires_something_else : returns (CallExpr 1 2 (one_of (int (negsuc 0)))) ≡ faults Requires 1 []
  -- the clause itself divides by 0
  pub faults_in_a_clause : returns (CallExpr 1 2 (one_of (int (pos 0)))) ≡ faults Divisor 702 []
  pub ensures_less : returns (CallExpr 1 2 (one_of (int (pos 8)))) ≡ faults Ensures 713 []
  -- 4 < 7: the ensures clause means x as it was at entry
  pub is_wary : returns (CallExpr 1 2 (one_of (int (pos 7)))) ≡ yields (pos 4)
  pub stores_no_natural : does (then (DeclareStmt 1 (NamedTy 0) 0 (Some (int (negsuc 0)))) NoStmts) ≡ faults Member 1 []
  pub counts : counts_to (pos 3) (BinaryExpr 10 LessEqual (VarExpr 11 0) (int (pos 3)) ∷ []) (then (up_by (pos 1)) NoStmts) ≡ yields (pos 3)
  pub enters_in_vain : counts_to (pos 3) (BinaryExpr 10 Less (VarExpr 11 0) (int (pos 0)) ∷ []) (then (up_by (pos 1)) NoStmts) ≡ faults Entry 2 []
  pub keeps_in_vain : counts_to (pos 3) (BinaryExpr 10 Less (VarExpr 11 0) (int (pos 3)) ∷ []) (then (up_by (pos 1)) NoStmts) ≡ faults Keep 2 []
  pub continues_in_vain : counts_to (pos 3) (BinaryExpr 10 Less (VarExpr 11 0) (int (pos 3)) ∷ []) (then (up_by (pos 5)) (then (ContinueStmt 12) NoStmts)) ≡ faults Keep 12 []
  -- an invariant need not hold at a break
  pub breaks_free : counts_to (pos 3) (BinaryExpr 10 Less (VarExpr 11 0) (int (pos 3)) ∷ []) (then (up_by (pos 5)) (then (BreakStmt 12) NoStmts)) ≡ yields (pos 5)
  -- the inner loop is left, and the outer one goes on: 1 + 10, 12 + 10 ..
  pub breaks_the_inner_loop : counts_to (pos 20) [] (then (up_by (pos 1)) (then (WhileStmt 13 (BoolExpr 14 true) [] (then (up_by (pos 10)) (then (IfStmt 15 (BoolExpr 16 true) (then (BreakStmt 17) NoStmts) NoStmts) (then (FailStmt 18) NoStmts)))) NoStmts)) ≡ yields (pos 22)
  pub continues_the_outer_loop : counts_to (pos 3) [] (then (up_by (pos 1)) (then (IfStmt 15 (BoolExpr 16 true) (then (ContinueStmt 17) NoStmts) NoStmts) (then (FailStmt 18) NoStmts))) ≡ yields (pos 3)
  -- ---- path updates: the index, its check, the value, the update; A is 65
  pub updates_an_item : updates_at (pos 66) ≡ gives (Some (Array (item (Whole (pos 4)) (item (Whole (pos 90)) no_items)))) (66 ∷ 90 ∷ [])
  -- the value isn't evaluated, and what was printed stays
  pub updates_no_item : updates_at (pos 67) ≡ faults Index 3 (67 ∷ [])
  pub updates_a_field_of_an_item : does (then (DeclareStmt 1 AnyTy 0 (Some (ListExpr 2 (one_of (RecordExpr 3 (MoreFields (97 ∷ []) (int (pos 1)) (MoreFields (98 ∷ []) (int (pos 2)) NoFields)))))))
      (then (AssignStmt 4 0 (IndexStep 5 (int (pos 0)) ∷ FieldStep 6 (98 ∷ []) ∷ []) (int (pos 9))) (then (ReturnStmt 7 (Some (VarExpr 8 0))) NoStmts)))
      ≡ gives (Some (Array (item (Record (field (97 ∷ []) (Whole (pos 1)) (field (98 ∷ []) (Whole (pos 9)) no_fields))) no_items))) []
  -- a value is a copy: y keeps what x was
  pub copies : does (then (DeclareStmt 1 AnyTy 0 (Some pair)) (then (DeclareStmt 2 AnyTy 1 (Some (VarExpr 3 0))) (then (AssignStmt 4 0 (IndexStep 5 (int (pos 0)) ∷ []) (int (pos 9))) (then (ReturnStmt 7 (Some (IndexExpr 8 (VarExpr 9 1) (int (pos 0))))) NoStmts)))) ≡ yields (pos 4)
  pub prints_no_ascii : does (then (CallStmt 1 3 (one_of (ListExpr 2 (two_of (int (pos 65)) (int (pos 128)))))) NoStmts) ≡ faults Requires 1 []
  -- `is` asks without a member condition
  pub is_natural : (returns (IsExpr 1 (int (pos 3)) (NamedTy 0)) ≡ is_so true) × (returns (IsExpr 1 (int (negsuc 3)) (NamedTy 0)) ≡ is_so false) × (returns (IsExpr 1 pair (ArrayTy (UnionTy NullTy IntTy))) ≡ is_so true)
