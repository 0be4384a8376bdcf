-- The core tree as plain data: what each node stands for, with its place.
use Rattle.std.specs.Prelude.{ℕ, Bool, List, [], ◌∷◌, map, Option, Some, None}
use Rattle.wy_core.specs.Types as ty
use Rattle.wy_core.specs.CoreTree as tree
use Rattle.wy_core.specs.declared.types.Ty.{Ty, Ty-F, fold-Ty, out-Ty}
use Rattle.wy_core.specs.declared.types.TyKind.{TyKind-F}
use Rattle.wy_core.specs.declared.types.Conjunct.{Conjunct, Conjunct-F, fold-Conjunct}
use Rattle.wy_core.specs.declared.types.Atom.{Atom, Atom-F, fold-Atom}
use Rattle.wy_core.specs.declared.types.Part.{Part, Part-F, fold-Part}
use Rattle.wy_core.specs.declared.types.Signed.{Signed-F}
use Rattle.wy_core.specs.declared.expressions.Expr.{Expr, Expr-F, fold-Expr}
use Rattle.wy_core.specs.declared.expressions.ExprKind.{ExprKind-F}
use Rattle.wy_core.specs.declared.statements.Stmt.{Stmt, Stmt-F, fold-Stmt}
use Rattle.wy_core.specs.declared.statements.StmtKind.{StmtKind-F}
use Rattle.wy_core.specs.declared.statements.Step.{Step}
use Rattle.wy_core.specs.declared.statements.StepKind.{StepKind}
use Rattle.wy_core.specs.declared.statements.StepKind.TheVariants as step
use Rattle.wy_core.specs.declared.declarations.Alias.{Alias}
use Rattle.wy_core.specs.declared.declarations.Routine.{Routine}
use Rattle.wy_core.specs.declared.declarations.Param.{Param}
use Rattle.wy_core.specs.declared.declarations.Output.{Output}
use Rattle.wy_core.specs.declared.declarations.Decl.{Decl}
use Rattle.wy_core.specs.declared.declarations.Decl.TheVariants as decl
use Rattle.wy_core.specs.declared.declarations.Core.{Core}

-- these field types, in order
abbrev pub field_tys_of : List (List ℕ × ty.Ty) → ty.FieldTys
field_tys_of [] = ty.NoFieldTys
field_tys_of (f ∷ fs) = ty.MoreFieldTys f.0 f.1 (field_tys_of fs)

-- a conjunct by itself: its positive atom and its negative ones
abbrev pub SeenConjunct : Type 0
SeenConjunct = ty.Atom × ty.Atoms

-- these conjuncts, in order
abbrev pub conjuncts_of : List SeenConjunct → ty.Conjuncts
conjuncts_of [] = ty.NoConjuncts
conjuncts_of (c ∷ cs) = ty.MoreConjuncts c.0 c.1 (conjuncts_of cs)

-- these atoms, in order
abbrev pub atoms_of : List ty.Atom → ty.Atoms
atoms_of [] = ty.NoAtoms
atoms_of (a ∷ more) = ty.MoreAtoms a (atoms_of more)

-- these parts of a record, in order
abbrev pub field_parts_of : List (List ℕ × ty.Part) → ty.FieldParts
field_parts_of [] = ty.NoFieldParts
field_parts_of (f ∷ fs) = ty.MoreFieldParts f.0 f.1 (field_parts_of fs)

-- a signed term by itself: its term, whether it is read upward, and whether inside is meant
abbrev pub SeenSigned : Type 0
SeenSigned = ty.Ty × Bool × Bool

-- these signed terms, in order
abbrev pub part_of : List SeenSigned → ty.Part
part_of [] = ty.NoTerms
part_of (s ∷ ss) = ty.MoreTerms s.0 s.1 s.2 (part_of ss)

abbrev pub atom_layer : Atom-F ty.Atom ty.Ty SeenConjunct ty.Part SeenSigned ty.Ty → ty.Atom
atom_layer Atom-F.Atom::Null = ty.NullAtom
atom_layer Atom-F.Atom::Bool = ty.BoolAtom
atom_layer Atom-F.Atom::Int = ty.IntAtom
atom_layer (Atom-F.Atom::Array part) = ty.ArrayAtom part
atom_layer (Atom-F.Atom::Record parts) = ty.RecordAtom (field_parts_of parts)
atom_layer Atom-F.AnyRecord = ty.AnyRecordAtom

abbrev pub kind_layer : TyKind-F ty.Atom ty.Ty SeenConjunct ty.Part SeenSigned ty.Ty → ty.Ty
kind_layer TyKind-F.TyKind::Null = ty.NullTy
kind_layer TyKind-F.TyKind::Bool = ty.BoolTy
kind_layer TyKind-F.TyKind::Int = ty.IntTy
kind_layer TyKind-F.Any = ty.AnyTy
kind_layer TyKind-F.Void = ty.VoidTy
kind_layer (TyKind-F.TyKind::Record fields) = ty.RecordTy (field_tys_of fields)
kind_layer (TyKind-F.TyKind::Array item) = ty.ArrayTy item
kind_layer (TyKind-F.Union left right) = ty.UnionTy left right
kind_layer (TyKind-F.Inter left right) = ty.InterTy left right
kind_layer (TyKind-F.Not t) = ty.NotTy t
kind_layer (TyKind-F.Named number) = ty.NamedTy number
kind_layer (TyKind-F.Normal conjuncts) = ty.NormalTy (conjuncts_of conjuncts)

abbrev pub conjunct_layer : Conjunct-F ty.Atom ty.Ty SeenConjunct ty.Part SeenSigned ty.Ty → SeenConjunct
conjunct_layer c = (c.positive, atoms_of c.negatives)

abbrev pub part_layer : Part-F ty.Atom ty.Ty SeenConjunct ty.Part SeenSigned ty.Ty → ty.Part
part_layer p = part_of p.terms

abbrev pub signed_layer : Signed-F ty.Atom ty.Ty SeenConjunct ty.Part SeenSigned ty.Ty → SeenSigned
signed_layer s = (s.term, s.up, s.inside)

abbrev pub ty_layer : Ty-F ty.Atom ty.Ty SeenConjunct ty.Part SeenSigned ty.Ty → ty.Ty
ty_layer t = t.kind

-- the type that the node stands for
abbrev pub seen_ty : Ty → ty.Ty
seen_ty = fold-Ty ty.Atom ty.Ty SeenConjunct ty.Part SeenSigned ty.Ty atom_layer kind_layer conjunct_layer part_layer signed_layer ty_layer

-- the conjunct that the node stands for
abbrev pub seen_conjunct : Conjunct → SeenConjunct
seen_conjunct = fold-Conjunct ty.Atom ty.Ty SeenConjunct ty.Part SeenSigned ty.Ty atom_layer kind_layer conjunct_layer part_layer signed_layer ty_layer

-- the atom that the node stands for
abbrev pub seen_atom : Atom → ty.Atom
seen_atom = fold-Atom ty.Atom ty.Ty SeenConjunct ty.Part SeenSigned ty.Ty atom_layer kind_layer conjunct_layer part_layer signed_layer ty_layer

-- the part that the node stands for
abbrev pub seen_part : Part → ty.Part
seen_part = fold-Part ty.Atom ty.Ty SeenConjunct ty.Part SeenSigned ty.Ty atom_layer kind_layer conjunct_layer part_layer signed_layer ty_layer

-- the place of a type
abbrev pub place_of_ty : Ty → ℕ
place_of_ty t = (out-Ty t).at

abbrev pub expr_kind_layer : ExprKind-F (ℕ → tree.Expr ℕ) (tree.Expr ℕ) → ℕ → tree.Expr ℕ
expr_kind_layer ExprKind-F.Null at = tree.NullExpr at
expr_kind_layer (ExprKind-F.Bool truth) at = tree.BoolExpr at truth
expr_kind_layer (ExprKind-F.Int number) at = tree.IntExpr at number
expr_kind_layer (ExprKind-F.Var variable) at = tree.VarExpr at variable
expr_kind_layer (ExprKind-F.Call routine args) at = tree.CallExpr at routine (tree.exprs_of args)
expr_kind_layer (ExprKind-F.Neg operand) at = tree.NegExpr at operand
expr_kind_layer (ExprKind-F.Not operand) at = tree.NotExpr at operand
expr_kind_layer (ExprKind-F.Len operand) at = tree.LenExpr at operand
expr_kind_layer (ExprKind-F.Binary op left right) at = tree.BinaryExpr at op left right
expr_kind_layer (ExprKind-F.Is operand t) at = tree.IsExpr at operand (seen_ty t)
expr_kind_layer (ExprKind-F.Index array index) at = tree.IndexExpr at array index
expr_kind_layer (ExprKind-F.Field whole name) at = tree.FieldExpr at whole name
expr_kind_layer (ExprKind-F.List items) at = tree.ListExpr at (tree.exprs_of items)
expr_kind_layer (ExprKind-F.Repeat item count) at = tree.RepeatExpr at item count
expr_kind_layer (ExprKind-F.Record fields) at = tree.RecordExpr at (tree.fields_of fields)
expr_kind_layer (ExprKind-F.Quant all variable from to body) at = tree.QuantExpr at all variable from to body

abbrev pub expr_layer : Expr-F (ℕ → tree.Expr ℕ) (tree.Expr ℕ) → tree.Expr ℕ
expr_layer e = e.kind e.at

-- the expression that the node stands for
abbrev pub seen_expr : Expr → tree.Expr ℕ
seen_expr = fold-Expr (ℕ → tree.Expr ℕ) (tree.Expr ℕ) expr_kind_layer expr_layer

-- these expressions
abbrev pub seen_exprs : List Expr → List (tree.Expr ℕ)
seen_exprs es = map seen_expr es

-- these fields
abbrev pub seen_fields : List (List ℕ × Expr) → tree.Fields ℕ
seen_fields fs = tree.fields_of (map (λ f. (f.0, seen_expr f.1)) fs)

-- an expression that may be absent
abbrev pub seen_option : Option Expr → Option (tree.Expr ℕ)
seen_option None = None
seen_option (Some e) = Some (seen_expr e)

abbrev pub seen_step_kind : StepKind → ℕ → tree.Step ℕ
seen_step_kind (step.Index index) at = tree.IndexStep at (seen_expr index)
seen_step_kind (step.Field name) at = tree.FieldStep at name

-- the step that the node stands for
abbrev pub seen_step : Step → tree.Step ℕ
seen_step s = seen_step_kind s.kind s.at

abbrev pub stmt_kind_layer : StmtKind-F (ℕ → tree.Stmt ℕ) (tree.Stmt ℕ) → ℕ → tree.Stmt ℕ
stmt_kind_layer (StmtKind-F.Declare t variable value) at = tree.DeclareStmt at (seen_ty t) variable (seen_option value)
stmt_kind_layer (StmtKind-F.Assign variable path value) at = tree.AssignStmt at variable (map seen_step path) (seen_expr value)
stmt_kind_layer (StmtKind-F.Call routine args) at = tree.CallStmt at routine (tree.exprs_of (seen_exprs args))
stmt_kind_layer (StmtKind-F.Return value) at = tree.ReturnStmt at (seen_option value)
stmt_kind_layer (StmtKind-F.Assert test) at = tree.AssertStmt at (seen_expr test)
stmt_kind_layer StmtKind-F.Break at = tree.BreakStmt at
stmt_kind_layer StmtKind-F.Continue at = tree.ContinueStmt at
stmt_kind_layer StmtKind-F.Skip at = tree.SkipStmt at
stmt_kind_layer StmtKind-F.Fail at = tree.FailStmt at
stmt_kind_layer (StmtKind-F.If test first second) at = tree.IfStmt at (seen_expr test) (tree.stmts_of first) (tree.stmts_of second)
stmt_kind_layer (StmtKind-F.While test invariants body) at = tree.WhileStmt at (seen_expr test) (seen_exprs invariants) (tree.stmts_of body)

abbrev pub stmt_layer : Stmt-F (ℕ → tree.Stmt ℕ) (tree.Stmt ℕ) → tree.Stmt ℕ
stmt_layer s = s.kind s.at

-- the statement that the node stands for
abbrev pub seen_stmt : Stmt → tree.Stmt ℕ
seen_stmt = fold-Stmt (ℕ → tree.Stmt ℕ) (tree.Stmt ℕ) stmt_kind_layer stmt_layer

-- the block of these statements
abbrev pub seen_block : List Stmt → tree.Stmts ℕ
seen_block ss = tree.stmts_of (map seen_stmt ss)

-- the parameter
abbrev pub seen_param : Param → tree.Param
seen_param p = record { at = place_of_ty p.ty; ty = seen_ty p.ty; variable = p.variable }

-- the result
abbrev pub seen_output : Option Output → Option tree.Output
seen_output None = None
seen_output (Some o) = Some (record { at = place_of_ty o.ty; ty = seen_ty o.ty; variable = o.variable })

-- the declared type
abbrev pub seen_alias : Alias → tree.Alias ℕ
seen_alias a = record
    { at = a.at; name = a.name; variables = a.variables; ty_at = place_of_ty a.ty; ty = seen_ty a.ty; variable = a.variable; clauses = seen_exprs a.clauses }

-- the function or method
abbrev pub seen_routine : Routine → tree.Routine ℕ
seen_routine r = record {
  at = r.at;
  name = r.name;
  is_method = r.is_method;
  variables = r.variables;
  params = map seen_param r.params;
  result = seen_output r.result;
  preconditions = seen_exprs r.preconditions;
  postconditions = seen_exprs r.postconditions;
  body = seen_block r.body;
}

-- the declaration
abbrev pub seen_decl : Decl → tree.Decl ℕ
seen_decl (decl.Alias a) = tree.AliasDecl (seen_alias a)
seen_decl (decl.Routine r) = tree.RoutineDecl (seen_routine r)

-- the program
abbrev pub seen_core : Core → tree.Core ℕ
seen_core c = map seen_decl c.decls
