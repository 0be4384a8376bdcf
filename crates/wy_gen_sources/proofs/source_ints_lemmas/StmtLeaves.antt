-- The statements that are read: names of fields, numbers and codes of texts are what they should be.
use Rattle.std.proofs.Common.{◌≡◌, ℕ, true, List, [], ◌∷◌, map, Option, Some, None, refl, sym, subst, rules}
use Rattle.wy_data.specs.Words.{IsName}
use Rattle.wy_ast.specs.SurfaceTree as tree
use Rattle.wy_ast.specs.SurfaceSeen.{seen_ty, seen_expr, seen_exprs, seen_option, seen_step_kind, seen_step, seen_stmt, seen_block}
use Rattle.wy_ast.specs.declared.types.Ty.{Ty}
use Rattle.wy_ast.specs.declared.expressions.Expr.{Expr}
use Rattle.wy_ast.specs.declared.statements.Stmt as s
use Rattle.wy_ast.specs.declared.statements.Stmt.{Stmt}
use Rattle.wy_ast.specs.declared.statements.StmtKind.{StmtKind}
use Rattle.wy_ast.specs.declared.statements.StmtKind.TheVariants as stmt
use Rattle.wy_ast.specs.declared.statements.Step as path_step
use Rattle.wy_ast.specs.declared.statements.StepKind.{StepKind}
use Rattle.wy_ast.specs.declared.statements.StepKind.TheVariants as step
use Rattle.wy_print_laws.specs.wy_lex.declared.token.TokenKind.{TokenKind}
use Rattle.wy_print_laws.specs.wy_lex.declared.token.TokenKind.TheVariants as k
use Rattle.wy_print_laws.specs.wy_parse_grammar.declared.measured.Measured.{Measured}
use Rattle.wy_print_laws.specs.wy_parse_grammar.declared.measured.Measured.TheVariants.{Low, High}
use Rattle.wy_print_laws.specs.wy_parse_grammar.declared.sort.Class.TheVariants as kinds
use Rattle.wy_print_laws.specs.wy_parse_grammar.Sorts as t
use Rattle.wy_print_laws.specs.wy_parse_grammar.Sorts.{has}
use Rattle.wy_print_laws.specs.wy_parse_grammar.Steps.{Placed, inside}
use Rattle.wy_print_laws.specs.wy_parse_grammar.Trees.{both, made, pushed, none, some, named_ty, array_ty}
use Rattle.wy_print_laws.specs.wy_parse_grammar.TypeGrammar.{T, Type_}
use Rattle.wy_print_laws.specs.wy_parse_grammar.ExprGrammar.{E, Args}
use Rattle.wy_print_laws.specs.wy_parse.StmtTrees as trees
use Rattle.wy_print_laws.specs.wy_parse.StmtTrees.{S, Stmts, Path, Cases}
use Rattle.wy_print_laws.specs.wy_parse.StmtGrammar.{word_kind, WordStmt, FieldStep, ReturnStmt, AssertStmt, Declared, DeclareStmt, CallStmt, Step, Valued, Assigned, BracketStmt, NamedStmt, Where, Wheres}
use Rattle.wy_names.specs.resolved.SourceLiterals.{SourceClauses, SourceOption, SourcePath, SourceStmt, SourceStmts}
use Rattle.wy_gen_sources.specs.source_ints.SourceFields.{FieldsClauses, FieldsOption, FieldsPath, FieldsStmt, FieldsStmts}
use Rattle.wy_print_laws.proofs.round_lemmas.Gives.{Gives, gives-pure, gives-one, gives-then, gives-or, gives-loop, gives-mark, gives-inner, gives-name}
use Rattle.wy_gen_sources.proofs.source_ints_lemmas.LowLemmas.{OnLow, AllOf, low-both, low-made, low-pushed, crossed, crossed_three, crossed_four}
use Rattle.wy_gen_sources.proofs.source_ints_lemmas.TypeFields.{IsTy, IsT, named-t, array-one, gives-type, gives-type_rest, gives-type_tail}
use Rattle.wy_gen_sources.proofs.source_ints_lemmas.ExprLeaves.{IsExpr, IsE, AreArgs, all-exprs, gives-expr, gives-args_in}

-- ---- parts

abbrev pub stmt_at : ℕ → StmtKind → Stmt
stmt_at at kind = record { at = at; kind = kind }

abbrev pub StmtLeavesOf : tree.Stmt → Type 0
StmtLeavesOf y = SourceStmt y × FieldsStmt y

abbrev pub IsStmt : Stmt → Type 0
IsStmt x = StmtLeavesOf (seen_stmt x)

abbrev pub IsS : S → Type 0
IsS m = OnLow IsStmt m

abbrev pub IsBlock : Stmts → Type 0
IsBlock m = OnLow (AllOf IsStmt) m

is-stmt : (x : Stmt) (y : tree.Stmt) → seen_stmt x ≡ y → StmtLeavesOf y → IsStmt x
is-stmt x y same h = subst StmtLeavesOf (sym same) h

pub low-stmt : (at : ℕ) (m : Measured StmtKind) → OnLow (λ (k : StmtKind). IsStmt (stmt_at at k)) m → IsS (trees.stmt_node at m)
low-stmt at (Low kind h) p = p
low-stmt at (High other) p = tt

pub all-stmts : (ss : List Stmt) → AllOf IsStmt ss → SourceStmts (seen_block ss) × FieldsStmts (seen_block ss)
all-stmts [] h = (tt, tt)
all-stmts (x ∷ ss) h = crossed h.0 (all-stmts ss h.1)

pub all-clauses : (es : List Expr) → AllOf IsExpr es → SourceClauses (seen_exprs es) × FieldsClauses (seen_exprs es)
all-clauses [] h = (tt, tt)
all-clauses (x ∷ es) h = crossed h.0 (all-clauses es h.1)

abbrev IsOption : Option Expr → Type 0
IsOption None = Unit {0}
IsOption (Some x) = IsExpr x

option-leaves : (o : Option Expr) → IsOption o → SourceOption (seen_option o) × FieldsOption (seen_option o)
option-leaves None h = (tt, tt)
option-leaves (Some x) h = h

some-e : (m : E) → IsE m → OnLow IsOption (some m)
some-e m p = low-made IsExpr IsOption Some m (λ x h. h) p

abbrev IsPartKind : StepKind → Type 0
IsPartKind (step.Index i) = IsExpr i
IsPartKind (step.Field name) = IsName name

abbrev IsPart : path_step.Step → Type 0
IsPart x = IsPartKind x.kind

abbrev IsPath : Path → Type 0
IsPath p = OnLow (AllOf IsPart) p

part-one : (kind : StepKind) (at : ℕ) (rest : List tree.Step) → IsPartKind kind → SourcePath rest × FieldsPath rest → SourcePath (seen_step_kind kind at ∷ rest) × FieldsPath (seen_step_kind kind at ∷ rest)
part-one (step.Index i) at rest h r = crossed h r
part-one (step.Field name) at rest h r = (r.0, (h, r.1))

all-parts : (xs : List path_step.Step) → AllOf IsPart xs → SourcePath (map seen_step xs) × FieldsPath (map seen_step xs)
all-parts [] h = (tt, tt)
all-parts (x ∷ xs) h = part-one x.kind x.at (map seen_step xs) h.0 (all-parts xs h.1)

-- ---- nodes

seen_declare : (x : Stmt) (ty : Ty) (name : List ℕ) (o : Option Expr) → x.kind ≡ stmt.Declare ty name o → seen_stmt x ≡ tree.DeclareStmt x.at (seen_ty ty) name (seen_option o)
seen_declare x ty name o is = search (rules, s.the_lemmas)

seen_assign : (x : Stmt) (name : List ℕ) (path : List path_step.Step) (a : Expr) → x.kind ≡ stmt.Assign name path a → seen_stmt x ≡ tree.AssignStmt x.at name (map seen_step path) (seen_expr a)
seen_assign x name path a is = search (rules, s.the_lemmas)

seen_call : (x : Stmt) (name : List ℕ) (es : List Expr) → x.kind ≡ stmt.Call name es → seen_stmt x ≡ tree.CallStmt x.at name (tree.exprs_of (seen_exprs es))
seen_call x name es is = search (rules, s.the_lemmas)

seen_return : (x : Stmt) (o : Option Expr) → x.kind ≡ stmt.Return o → seen_stmt x ≡ tree.ReturnStmt x.at (seen_option o)
seen_return x o is = search (rules, s.the_lemmas)

seen_assert : (x : Stmt) (a : Expr) → x.kind ≡ stmt.Assert a → seen_stmt x ≡ tree.AssertStmt x.at (seen_expr a)
seen_assert x a is = search (rules, s.the_lemmas)

seen_break : (x : Stmt) → x.kind ≡ stmt.Break → seen_stmt x ≡ tree.BreakStmt x.at
seen_break x is = search (rules, s.the_lemmas)

seen_continue : (x : Stmt) → x.kind ≡ stmt.Continue → seen_stmt x ≡ tree.ContinueStmt x.at
seen_continue x is = search (rules, s.the_lemmas)

seen_skip : (x : Stmt) → x.kind ≡ stmt.Skip → seen_stmt x ≡ tree.SkipStmt x.at
seen_skip x is = search (rules, s.the_lemmas)

seen_fail : (x : Stmt) → x.kind ≡ stmt.Fail → seen_stmt x ≡ tree.FailStmt x.at
seen_fail x is = search (rules, s.the_lemmas)

seen_if : (x : Stmt) (a : Expr) (first second : List Stmt) → x.kind ≡ stmt.If a first second → seen_stmt x ≡ tree.IfStmt x.at (seen_expr a) (seen_block first) (seen_block second)
seen_if x a first second is = search (rules, s.the_lemmas)

seen_while : (x : Stmt) (a : Expr) (es : List Expr) (body : List Stmt) → x.kind ≡ stmt.While a es body → seen_stmt x ≡ tree.WhileStmt x.at (seen_expr a) (seen_exprs es) (seen_block body)
seen_while x a es body is = search (rules, s.the_lemmas)

seen_do : (x : Stmt) (body : List Stmt) (a : Expr) (es : List Expr) → x.kind ≡ stmt.Do body a es → seen_stmt x ≡ tree.DoStmt x.at (seen_block body) (seen_expr a) (seen_exprs es)
seen_do x body a es is = search (rules, s.the_lemmas)

seen_for : (x : Stmt) (name : List ℕ) (a b : Expr) (es : List Expr) (body : List Stmt) → x.kind ≡ stmt.For name a b es body → seen_stmt x ≡ tree.ForStmt x.at name (seen_expr a) (seen_expr b) (seen_exprs es) (seen_block body)
seen_for x name a b es body is = search (rules, s.the_lemmas)

declare-s : (at : ℕ) (ty : T) (name : List ℕ) (value : Measured (Option Expr)) → IsT ty → OnLow IsOption value → IsS (trees.declare_node at ty name value)
declare-s at ty name value p q =
    low-stmt at (made (λ z. stmt.Declare z.0 name z.1) (both ty value)) (low-made (λ (z : Ty × Option Expr). IsTy z.0 × IsOption z.1) (λ k. IsStmt (stmt_at at k)) (λ z. stmt.Declare z.0 name z.1) (both ty value) (λ z h. is-stmt (stmt_at at (stmt.Declare z.0 name z.1)) (tree.DeclareStmt at (seen_ty z.0) name (seen_option z.1)) (seen_declare (stmt_at at (stmt.Declare z.0 name z.1)) z.0 name z.1 refl) (option-leaves z.1 h.1)) (low-both IsTy IsOption ty value p q))

assign-s : (at : ℕ) (name : List ℕ) (path : Path) (value : E) → IsPath path → IsE value → IsS (trees.assign_node at name path value)
assign-s at name path value p q =
    low-stmt at (made (λ z. stmt.Assign name z.0 z.1) (both path value)) (low-made (λ (z : List path_step.Step × Expr). AllOf IsPart z.0 × IsExpr z.1) (λ k. IsStmt (stmt_at at k)) (λ z. stmt.Assign name z.0 z.1) (both path value) (λ z h. is-stmt (stmt_at at (stmt.Assign name z.0 z.1)) (tree.AssignStmt at name (map seen_step z.0) (seen_expr z.1)) (seen_assign (stmt_at at (stmt.Assign name z.0 z.1)) name z.0 z.1 refl) (crossed (all-parts z.0 h.0) h.1)) (low-both (AllOf IsPart) IsExpr path value p q))

call-s : (at : ℕ) (name : List ℕ) (es : Args) → AreArgs es → IsS (trees.call_node at name es)
call-s at name es p =
    low-stmt at (made (λ z. stmt.Call name z) es) (low-made (AllOf IsExpr) (λ k. IsStmt (stmt_at at k)) (λ z. stmt.Call name z) es (λ z h. is-stmt (stmt_at at (stmt.Call name z)) (tree.CallStmt at name (tree.exprs_of (seen_exprs z))) (seen_call (stmt_at at (stmt.Call name z)) name z refl) (all-exprs z h)) p)

return-s : (at : ℕ) (value : Measured (Option Expr)) → OnLow IsOption value → IsS (trees.return_node at value)
return-s at value p =
    low-stmt at (made stmt.Return value) (low-made (IsOption) (λ k. IsStmt (stmt_at at k)) stmt.Return value (λ z h. is-stmt (stmt_at at (stmt.Return z)) (tree.ReturnStmt at (seen_option z)) (seen_return (stmt_at at (stmt.Return z)) z refl) (option-leaves z h)) p)

assert-s : (at : ℕ) (test : E) → IsE test → IsS (trees.assert_node at test)
assert-s at test p =
    low-stmt at (made stmt.Assert test) (low-made (IsExpr) (λ k. IsStmt (stmt_at at k)) stmt.Assert test (λ z h. is-stmt (stmt_at at (stmt.Assert z)) (tree.AssertStmt at (seen_expr z)) (seen_assert (stmt_at at (stmt.Assert z)) z refl) h) p)

pub if-s : (at : ℕ) (test : E) (first second : Stmts) → IsE test → IsBlock first → IsBlock second → IsS (trees.if_node at test first second)
if-s at test first second p q r =
    low-stmt at (made (λ z. stmt.If z.0 z.1.0 z.1.1) (both test (both first second))) (low-made (λ (z : Expr × (List Stmt × List Stmt)). IsExpr z.0 × (AllOf IsStmt z.1.0 × AllOf IsStmt z.1.1)) (λ k. IsStmt (stmt_at at k)) (λ z. stmt.If z.0 z.1.0 z.1.1) (both test (both first second)) (λ z h. is-stmt (stmt_at at (stmt.If z.0 z.1.0 z.1.1)) (tree.IfStmt at (seen_expr z.0) (seen_block z.1.0) (seen_block z.1.1)) (seen_if (stmt_at at (stmt.If z.0 z.1.0 z.1.1)) z.0 z.1.0 z.1.1 refl) (crossed_three h.0 (all-stmts z.1.0 h.1.0) (all-stmts z.1.1 h.1.1))) (low-both IsExpr (λ (y : List Stmt × List Stmt). AllOf IsStmt y.0 × AllOf IsStmt y.1) test (both first second) p (low-both (AllOf IsStmt) (AllOf IsStmt) first second q r)))

pub while-s : (at : ℕ) (test : E) (es : Args) (body : Stmts) → IsE test → AreArgs es → IsBlock body → IsS (trees.while_node at test es body)
while-s at test es body p q r =
    low-stmt at (made (λ z. stmt.While z.0 z.1.0 z.1.1) (both test (both es body))) (low-made (λ (z : Expr × (List Expr × List Stmt)). IsExpr z.0 × (AllOf IsExpr z.1.0 × AllOf IsStmt z.1.1)) (λ k. IsStmt (stmt_at at k)) (λ z. stmt.While z.0 z.1.0 z.1.1) (both test (both es body)) (λ z h. is-stmt (stmt_at at (stmt.While z.0 z.1.0 z.1.1)) (tree.WhileStmt at (seen_expr z.0) (seen_exprs z.1.0) (seen_block z.1.1)) (seen_while (stmt_at at (stmt.While z.0 z.1.0 z.1.1)) z.0 z.1.0 z.1.1 refl) (crossed_three h.0 (all-clauses z.1.0 h.1.0) (all-stmts z.1.1 h.1.1))) (low-both IsExpr (λ (y : List Expr × List Stmt). AllOf IsExpr y.0 × AllOf IsStmt y.1) test (both es body) p (low-both (AllOf IsExpr) (AllOf IsStmt) es body q r)))

pub do-s : (at : ℕ) (body : Stmts) (test : E) (es : Args) → IsBlock body → IsE test → AreArgs es → IsS (trees.do_node at body test es)
do-s at body test es r p q =
    low-stmt at (made (λ z. stmt.Do z.0 z.1.0 z.1.1) (both body (both test es))) (low-made (λ (z : List Stmt × (Expr × List Expr)). AllOf IsStmt z.0 × (IsExpr z.1.0 × AllOf IsExpr z.1.1)) (λ k. IsStmt (stmt_at at k)) (λ z. stmt.Do z.0 z.1.0 z.1.1) (both body (both test es)) (λ z h. is-stmt (stmt_at at (stmt.Do z.0 z.1.0 z.1.1)) (tree.DoStmt at (seen_block z.0) (seen_expr z.1.0) (seen_exprs z.1.1)) (seen_do (stmt_at at (stmt.Do z.0 z.1.0 z.1.1)) z.0 z.1.0 z.1.1 refl) (crossed_three (all-stmts z.0 h.0) h.1.0 (all-clauses z.1.1 h.1.1))) (low-both (AllOf IsStmt) (λ (y : Expr × List Expr). IsExpr y.0 × AllOf IsExpr y.1) body (both test es) r (low-both IsExpr (AllOf IsExpr) test es p q)))

pub for-s : (at : ℕ) (name : List ℕ) (from to : E) (es : Args) (body : Stmts) → IsE from → IsE to → AreArgs es → IsBlock body → IsS (trees.for_node at name (both from to) es body)
for-s at name from to es body o p q r =
    low-stmt at (made (λ z. stmt.For name z.0.0 z.0.1 z.1.0 z.1.1) (both (both from to) (both es body))) (low-made (λ (z : (Expr × Expr) × (List Expr × List Stmt)). (IsExpr z.0.0 × IsExpr z.0.1) × (AllOf IsExpr z.1.0 × AllOf IsStmt z.1.1)) (λ k. IsStmt (stmt_at at k)) (λ z. stmt.For name z.0.0 z.0.1 z.1.0 z.1.1) (both (both from to) (both es body)) (λ z h. is-stmt (stmt_at at (stmt.For name z.0.0 z.0.1 z.1.0 z.1.1)) (tree.ForStmt at name (seen_expr z.0.0) (seen_expr z.0.1) (seen_exprs z.1.0) (seen_block z.1.1)) (seen_for (stmt_at at (stmt.For name z.0.0 z.0.1 z.1.0 z.1.1)) name z.0.0 z.0.1 z.1.0 z.1.1 refl) (crossed_four h.0.0 h.0.1 (all-clauses z.1.0 h.1.0) (all-stmts z.1.1 h.1.1))) (low-both (λ (y : Expr × Expr). IsExpr y.0 × IsExpr y.1) (λ (y : List Expr × List Stmt). AllOf IsExpr y.0 × AllOf IsStmt y.1) (both from to) (both es body) (low-both IsExpr IsExpr from to o p) (low-both (AllOf IsExpr) (AllOf IsStmt) es body q r)))

word-s : (at : ℕ) (kind : TokenKind) → IsStmt (stmt_at at (word_kind kind))
word-s at k.Break = is-stmt (stmt_at at stmt.Break) (tree.BreakStmt at) (seen_break (stmt_at at stmt.Break) refl) (tt, tt)
word-s at k.Continue = is-stmt (stmt_at at stmt.Continue) (tree.ContinueStmt at) (seen_continue (stmt_at at stmt.Continue) refl) (tt, tt)
word-s at k.Skip = is-stmt (stmt_at at stmt.Skip) (tree.SkipStmt at) (seen_skip (stmt_at at stmt.Skip) refl) (tt, tt)
word-s at _ = is-stmt (stmt_at at stmt.Fail) (tree.FailStmt at) (seen_fail (stmt_at at stmt.Fail) refl) (tt, tt)

-- ---- the rules of statements without blocks

pub gives-word_stmt : Gives WordStmt IsS
unfolding WordStmt
gives-word_stmt =
    gives-then (gives-then (gives-one (has kinds.Word)) (λ w h. gives-pure (trees.stmt_node w.at (Low (word_kind w.kind) 0)) IsS (word-s w.at w.kind))) (λ st p. gives-then (gives-mark t.LINE_END) (λ at h. gives-pure st IsS p))

gives-field_step : (p : Path) → IsPath p → Gives (FieldStep p) IsPath
gives-field_step p r = gives-then (gives-mark t.DOT) (λ at h. gives-then gives-name (λ w v. gives-pure (pushed p (trees.field_step at w.1)) IsPath (low-pushed IsPart p (trees.field_step at w.1) r v)))

index-part : (at : ℕ) (m : E) → IsE m → OnLow IsPart (trees.index_step at m)
index-part at m p = low-made IsExpr IsPart (λ i. record { at = at; kind = step.Index i }) m (λ x h. h) p

module _ (n : ℕ) where
  pub gives-return : Gives (ReturnStmt true n) IsS
  unfolding ReturnStmt
  gives-return =
      gives-then (gives-mark t.RETURN) (λ at h.
      gives-or (gives-then (gives-mark t.LINE_END) (λ r g. gives-pure (trees.return_node at (Low None 0)) IsS (return-s at (Low None 0) tt)))
      (gives-then (gives-expr n) (λ x p. gives-then (gives-mark t.LINE_END) (λ r g. gives-pure (trees.return_node at (some x)) IsS (return-s at (some x) (some-e x p))))))

  pub gives-assert : Gives (AssertStmt true n) IsS
  unfolding AssertStmt
  gives-assert = gives-then (gives-mark t.ASSERT) (λ at h. gives-then (gives-expr n) (λ x p. gives-then (gives-mark t.LINE_END) (λ r g. gives-pure (trees.assert_node at x) IsS (assert-s at x p))))

  gives-declared : (at : ℕ) (ty : T) → IsT ty → Gives (Declared true n at ty) IsS
  unfolding Declared
  gives-declared at ty q =
      gives-then gives-name (λ w v.
      gives-or (gives-then (gives-mark t.ASSIGN) (λ r g. gives-then (gives-expr n) (λ x p. gives-then (gives-mark t.LINE_END) (λ s f. gives-pure (trees.declare_node at ty w.1 (some x)) IsS (declare-s at ty w.1 (some x) q (some-e x p))))))
      (gives-then (gives-mark t.LINE_END) (λ r g. gives-pure (trees.declare_node at ty w.1 (Low None 0)) IsS (declare-s at ty w.1 (Low None 0) q tt))))

  pub gives-declare : Gives (DeclareStmt true n) IsS
  unfolding DeclareStmt
  gives-declare = gives-then placed (λ p q. gives-declared p.0 p.1 q)
    where
      placed : Gives (Placed (Type_ n)) (λ (p : ℕ × T). IsT p.1)
      placed = record { gives = λ i a j r h. let g = gives-type n in g.gives i a.1 j r.1 h }

  gives-call : (at : ℕ) (name : List ℕ) → Gives (CallStmt true n at name) IsS
  unfolding CallStmt
  gives-call at name =
      gives-then (gives-mark t.OPEN_PAREN) (λ r g. gives-then (gives-args_in (inside n)) (λ es p. gives-then (gives-inner (inside n) t.CLOSE_PAREN) (λ s deep.
      gives-then (gives-mark t.LINE_END) (λ l f. gives-pure (trees.call_node at name es) IsS (call-s at name es p)))))

  gives-step : (p : Path) → IsPath p → Gives (Step true n p) IsPath
  gives-step p r =
      gives-or (gives-then (gives-mark t.OPEN_BRACKET) (λ at h. gives-then (gives-expr (inside n)) (λ x q. gives-then (gives-mark t.CLOSE_BRACKET) (λ s g. gives-pure (pushed p (trees.index_step at x)) IsPath (low-pushed IsPart p (trees.index_step at x) r (index-part at x q))))))
      (gives-field_step p r)

  gives-valued : (at : ℕ) (name : List ℕ) (p : Path) → IsPath p → Gives (Valued true n at name p) IsS
  unfolding Valued
  gives-valued at name p r = gives-then (gives-mark t.ASSIGN) (λ s g. gives-then (gives-expr n) (λ x q. gives-then (gives-mark t.LINE_END) (λ l f. gives-pure (trees.assign_node at name p x) IsS (assign-s at name p x r q))))

  gives-assigned : (at : ℕ) (name : List ℕ) (p : Path) → IsPath p → Gives (Assigned true n at name p) IsS
  unfolding Assigned
  gives-assigned at name p r = gives-then (gives-loop gives-step p r) (λ q s. gives-valued at name q s)

  gives-bracket : (at : ℕ) (name : List ℕ) → Gives (BracketStmt true n at name) IsS
  unfolding BracketStmt
  gives-bracket at name =
      gives-then (gives-mark t.OPEN_BRACKET) (λ b h.
      gives-or (gives-then (gives-inner (inside n) t.CLOSE_BRACKET) (λ r deep. gives-then (gives-type_rest n (array_ty b (named_ty at name)) (array-one b (named_ty at name) (named-t at name))) (λ ty q. gives-declared at ty q)))
      (gives-then (gives-expr (inside n)) (λ x p. gives-then (gives-mark t.CLOSE_BRACKET) (λ r g. gives-assigned at name (pushed none (trees.index_step b x)) (low-pushed IsPart none (trees.index_step b x) tt (index-part b x p))))))

  pub gives-named : Gives (NamedStmt true n) IsS
  unfolding NamedStmt
  gives-named =
      gives-then gives-name (λ w v.
      gives-or (gives-call w.0 w.1)
      (gives-or (gives-bracket w.0 w.1)
      (gives-or (gives-then (gives-type_tail n (named_ty w.0 w.1) (named-t w.0 w.1)) (λ ty q. gives-declared w.0 ty q))
      (gives-or (gives-then (gives-field_step none tt) (λ p r. gives-assigned w.0 w.1 p r))
      (gives-valued w.0 w.1 none tt)))))

  pub gives-where : (es : Args) → AreArgs es → Gives (Where true n es) AreArgs
  gives-where es r = gives-then (gives-mark t.WHERE) (λ at h. gives-then (gives-expr n) (λ x p. gives-pure (pushed es x) AreArgs (low-pushed IsExpr es x r p)))

  pub gives-wheres : (es : Args) → AreArgs es → Gives (Wheres true n es) AreArgs
  unfolding Wheres
  gives-wheres es r = gives-loop gives-where es r
