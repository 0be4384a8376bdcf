-- Which types the tests of expressions ask about.
use Rattle.std.specs.Prelude.{List, [], ◌∷◌}
use Rattle.wy_core.specs.CoreTree.{Expr, NullExpr, BoolExpr, IntExpr, VarExpr, CallExpr, NegExpr, NotExpr, LenExpr, BinaryExpr, IsExpr, IndexExpr, FieldExpr, ListExpr, RepeatExpr, RecordExpr, QuantExpr, Exprs, NoExprs, MoreExprs, Fields, NoFields, MoreFields}
use Rattle.wy_sound_statements.specs.wy_sound_walks.expressions.Written.{IsWritten}

abbrev mutual
  -- each type that a test of the expression asks about is one that a source may write
  pub TestsWritten : {N : Type 0} → Expr N → Type 0
  TestsWritten (NullExpr k) = Unit {0}
  TestsWritten (BoolExpr k b) = Unit {0}
  TestsWritten (IntExpr k z) = Unit {0}
  TestsWritten (VarExpr k x) = Unit {0}
  TestsWritten (CallExpr k routine args) = AllTestsWritten args
  TestsWritten (NegExpr k a) = TestsWritten a
  TestsWritten (NotExpr k a) = TestsWritten a
  TestsWritten (LenExpr k a) = TestsWritten a
  TestsWritten (BinaryExpr k o a b) = TestsWritten a × TestsWritten b
  TestsWritten (IsExpr k a t) = TestsWritten a × IsWritten t
  TestsWritten (IndexExpr k a b) = TestsWritten a × TestsWritten b
  TestsWritten (FieldExpr k a name) = TestsWritten a
  TestsWritten (ListExpr k items) = AllTestsWritten items
  TestsWritten (RepeatExpr k a b) = TestsWritten a × TestsWritten b
  TestsWritten (RecordExpr k fields) = FieldTestsWritten fields
  TestsWritten (QuantExpr k all x a b body) = TestsWritten a × TestsWritten b × TestsWritten body

  pub AllTestsWritten : {N : Type 0} → Exprs N → Type 0
  AllTestsWritten NoExprs = Unit {0}
  AllTestsWritten (MoreExprs e es) = TestsWritten e × AllTestsWritten es

  pub FieldTestsWritten : {N : Type 0} → Fields N → Type 0
  FieldTestsWritten NoFields = Unit {0}
  FieldTestsWritten (MoreFields name e fs) = TestsWritten e × FieldTestsWritten fs

abbrev pub ClauseTestsWritten : {N : Type 0} → List (Expr N) → Type 0
ClauseTestsWritten [] = Unit {0}
ClauseTestsWritten (e ∷ es) = TestsWritten e × ClauseTestsWritten es
