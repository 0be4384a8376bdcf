-- What is shown of each statement, and what it is places aside.
use Rattle.std.proofs.Common.{◌≡◌, ℕ, true, List, [], ◌++◌, map, codes, Option, Some, None, refl, sym, ap, ap₂, ◌∙◌, append-nil, rules}
use Rattle.std.proofs.Math.Path.{fun_ext}
use Rattle.std.specs.Option.{option_map}
use Rattle.wy_ast.specs.SurfaceTree as tree
use Rattle.wy_ast.specs.SurfaceSeen as seen
use Rattle.wy_ast.specs.declared.types.Ty.{Ty}
use Rattle.wy_ast.specs.declared.expressions.Expr.{Expr}
use Rattle.wy_ast.specs.declared.statements.Stmt.{Stmt, the_lemmas}
use Rattle.wy_ast.specs.declared.statements.StmtKind as kind
use Rattle.wy_ast.specs.declared.statements.Case.{Case, roll-Case}
use Rattle.wy_ast.specs.declared.statements.Step.{Step}
use Rattle.wy_ast.specs.declared.statements.StepKind.TheVariants as step
use Rattle.wy_print.specs.Pieces.{line_end, step_in, listed, joined}
use Rattle.wy_print.specs.TypeText.{shown_ty, typed}
use Rattle.wy_print.specs.ExprText.{shown, expr_text, expr_texts, called, range_text}
use Rattle.wy_print.specs.StmtText.{ShownStmt, ShownCase, block, otherwise, switch_text, case_lines, default_lines, step_text, other, one_line, clause_lines, shown_stmt, shown_case}
use Rattle.wy_print_laws.specs.round.Bare.{bare_ty, bare_expr}
use Rattle.wy_print_laws.specs.round.BareStmt.{bare_step, bare_stmt, bare_case}
use Rattle.wy_print_laws.proofs.round_lemmas.TypeRound as types
use Rattle.wy_print_laws.proofs.round_lemmas.TypeRound.{map-map}
use Rattle.wy_print_laws.proofs.round_lemmas.ExprShown as exprs

-- a statement places aside, and as it is shown; a case likewise
abbrev pub View : Type 0
View = tree.Stmt × ShownStmt

abbrev pub view : Stmt → View
view s = (bare_stmt s, shown_stmt s)

abbrev pub CaseView : Type 0
CaseView = seen.SeenCase × ShownCase

abbrev pub case_view : Case → CaseView
case_view c = (bare_case c, shown_case c)

viewed : (s : Stmt) (b : tree.Stmt) (u : ShownStmt) → bare_stmt s ≡ b → shown_stmt s ≡ u → view s ≡ (b, u)
viewed s b u e f = ap₂ (λ (c : tree.Stmt) (v : ShownStmt). (c, v)) e f

-- the trees of views, and what is shown of them
abbrev pub trees : List View → List tree.Stmt
trees vs = map (λ (v : View). v.0) vs

abbrev pub showns : List View → List ShownStmt
showns vs = map (λ (v : View). v.1) vs

pub trees-of : (ss : List Stmt) → map bare_stmt ss ≡ trees (map view ss)
trees-of ss = sym (map-map view (λ (v : View). v.0) ss)

pub showns-of : (ss : List Stmt) → map shown_stmt ss ≡ showns (map view ss)
showns-of ss = sym (map-map view (λ (v : View). v.1) ss)

-- those of expressions
abbrev pub bares : List exprs.View → List tree.Expr
bares vs = map (λ (v : exprs.View). v.0) vs

abbrev pub view_texts : List exprs.View → List (List ℕ)
view_texts vs = map (λ (v : exprs.View). v.1.text) vs

pub bares-of : (es : List Expr) → map bare_expr es ≡ bares (map exprs.view es)
bares-of es = sym (map-map exprs.view (λ (v : exprs.View). v.0) es)

pub texts-of : (es : List Expr) → expr_texts es ≡ view_texts (map exprs.view es)
texts-of es = map-map shown _ es ∙ sym (map-map exprs.view (λ (v : exprs.View). v.1.text) es)

-- ---- statements of one line

declare_none-bare : (s : Stmt) (ty : Ty) (name : List ℕ) → s.kind ≡ kind.Declare ty name None → bare_stmt s ≡ tree.DeclareStmt 0 (bare_ty ty) name None
declare_none-bare s ty name is = search (rules, the_lemmas)

declare_none-shown : (s : Stmt) (ty : Ty) (name : List ℕ) → s.kind ≡ kind.Declare ty name None → shown_stmt s ≡ one_line (typed (shown_ty ty) name ++ [])
declare_none-shown s ty name is = search (rules, the_lemmas)

abbrev pub declare_none_view : types.View → List ℕ → View
declare_none_view w name = (tree.DeclareStmt 0 w.0 name None, one_line (typed w.1 name ++ []))

pub view_declare_none : (s : Stmt) (ty : Ty) (name : List ℕ) → s.kind ≡ kind.Declare ty name None → view s ≡ declare_none_view (types.view ty) name
view_declare_none s ty name is = viewed s _ _ (declare_none-bare s ty name is) (declare_none-shown s ty name is)

declare-bare : (s : Stmt) (ty : Ty) (name : List ℕ) (x : Expr) → s.kind ≡ kind.Declare ty name (Some x) → bare_stmt s ≡ tree.DeclareStmt 0 (bare_ty ty) name (Some (bare_expr x))
declare-bare s ty name x is = search (rules, the_lemmas)

declare-shown : (s : Stmt) (ty : Ty) (name : List ℕ) (x : Expr) → s.kind ≡ kind.Declare ty name (Some x) → shown_stmt s ≡ one_line (typed (shown_ty ty) name ++ (codes " = " ++ expr_text x))
declare-shown s ty name x is = search (rules, the_lemmas)

abbrev pub declare_view : types.View → List ℕ → exprs.View → View
declare_view w name v = (tree.DeclareStmt 0 w.0 name (Some v.0), one_line (typed w.1 name ++ (codes " = " ++ v.1.text)))

pub view_declare : (s : Stmt) (ty : Ty) (name : List ℕ) (x : Expr) → s.kind ≡ kind.Declare ty name (Some x) → view s ≡ declare_view (types.view ty) name (exprs.view x)
view_declare s ty name x is = viewed s _ _ (declare-bare s ty name x is) (declare-shown s ty name x is)

-- a step of a path
abbrev pub StepView : Type 0
StepView = tree.Step × List ℕ

abbrev pub view_step : Step → StepView
view_step s = (bare_step s, step_text s.kind)

abbrev pub index_view : exprs.View → StepView
index_view v = (tree.IndexStep 0 v.0, codes "[" ++ (v.1.text ++ codes "]"))

pub view_index : (s : Step) (x : Expr) → s.kind ≡ step.Index x → view_step s ≡ index_view (exprs.view x)
view_index s x is = rw is refl

pub view_field : (s : Step) (name : List ℕ) → s.kind ≡ step.Field name → view_step s ≡ (tree.FieldStep 0 name, codes "." ++ name)
view_field s name is = rw is refl

assign-bare : (s : Stmt) (name : List ℕ) (path : List Step) (x : Expr) → s.kind ≡ kind.Assign name path x → bare_stmt s ≡ tree.AssignStmt 0 name (map bare_step path) (bare_expr x)
assign-bare s name path x is = search (rules, the_lemmas)

pub assign-shown : (s : Stmt) (name : List ℕ) (path : List Step) (x : Expr) → s.kind ≡ kind.Assign name path x → shown_stmt s ≡ one_line (name ++ (joined (map (λ (p : Step). step_text p.kind) path) ++ (codes " = " ++ expr_text x)))
assign-shown s name path x is = search (rules, the_lemmas)

abbrev pub assign_view : List ℕ → List StepView → exprs.View → View
assign_view name ps v =
    (tree.AssignStmt 0 name (map (λ (p : StepView). p.0) ps) v.0, one_line (name ++ (joined (map (λ (p : StepView). p.1) ps) ++ (codes " = " ++ v.1.text))))

pub view_assign : (s : Stmt) (name : List ℕ) (path : List Step) (x : Expr) → s.kind ≡ kind.Assign name path x → view s ≡ assign_view name (map view_step path) (exprs.view x)
view_assign s name path x is = viewed s _ _
    (assign-bare s name path x is ∙ ap (λ (l : List tree.Step). tree.AssignStmt 0 name l (bare_expr x)) (sym (map-map view_step (λ (p : StepView). p.0) path)))
    (assign-shown s name path x is ∙ ap (λ (l : List (List ℕ)). one_line (name ++ (joined l ++ (codes " = " ++ expr_text x)))) (sym (map-map view_step (λ (p : StepView). p.1) path)))

call-bare : (s : Stmt) (name : List ℕ) (args : List Expr) → s.kind ≡ kind.Call name args → bare_stmt s ≡ tree.CallStmt 0 name (tree.exprs_of (map bare_expr args))
call-bare s name args is = search (rules, the_lemmas)

pub call-shown : (s : Stmt) (name : List ℕ) (args : List Expr) → s.kind ≡ kind.Call name args → shown_stmt s ≡ one_line (called name (expr_texts args))
call-shown s name args is = search (rules, the_lemmas)

abbrev pub call_view : List ℕ → List exprs.View → View
call_view name vs = (tree.CallStmt 0 name (tree.exprs_of (bares vs)), one_line (called name (view_texts vs)))

pub view_call : (s : Stmt) (name : List ℕ) (args : List Expr) → s.kind ≡ kind.Call name args → view s ≡ call_view name (map exprs.view args)
view_call s name args is = viewed s _ _
    (call-bare s name args is ∙ ap (λ (l : List tree.Expr). tree.CallStmt 0 name (tree.exprs_of l)) (bares-of args))
    (call-shown s name args is ∙ ap (λ (l : List (List ℕ)). one_line (called name l)) (texts-of args))

return_none-bare : (s : Stmt) → s.kind ≡ kind.Return None → bare_stmt s ≡ tree.ReturnStmt 0 None
return_none-bare s is = search (rules, the_lemmas)

return_none-shown : (s : Stmt) → s.kind ≡ kind.Return None → shown_stmt s ≡ one_line (codes "return" ++ [])
return_none-shown s is = search (rules, the_lemmas)

pub view_return_none : (s : Stmt) → s.kind ≡ kind.Return None → view s ≡ (tree.ReturnStmt 0 None, one_line (codes "return" ++ []))
view_return_none s is = viewed s _ _ (return_none-bare s is) (return_none-shown s is)

return-bare : (s : Stmt) (x : Expr) → s.kind ≡ kind.Return (Some x) → bare_stmt s ≡ tree.ReturnStmt 0 (Some (bare_expr x))
return-bare s x is = search (rules, the_lemmas)

return-shown : (s : Stmt) (x : Expr) → s.kind ≡ kind.Return (Some x) → shown_stmt s ≡ one_line (codes "return" ++ (codes " " ++ expr_text x))
return-shown s x is = search (rules, the_lemmas)

abbrev pub return_view : exprs.View → View
return_view v = (tree.ReturnStmt 0 (Some v.0), one_line (codes "return" ++ (codes " " ++ v.1.text)))

pub view_return : (s : Stmt) (x : Expr) → s.kind ≡ kind.Return (Some x) → view s ≡ return_view (exprs.view x)
view_return s x is = viewed s _ _ (return-bare s x is) (return-shown s x is)

assert-bare : (s : Stmt) (x : Expr) → s.kind ≡ kind.Assert x → bare_stmt s ≡ tree.AssertStmt 0 (bare_expr x)
assert-bare s x is = search (rules, the_lemmas)

assert-shown : (s : Stmt) (x : Expr) → s.kind ≡ kind.Assert x → shown_stmt s ≡ one_line (codes "assert " ++ expr_text x)
assert-shown s x is = search (rules, the_lemmas)

abbrev pub assert_view : exprs.View → View
assert_view v = (tree.AssertStmt 0 v.0, one_line (codes "assert " ++ v.1.text))

pub view_assert : (s : Stmt) (x : Expr) → s.kind ≡ kind.Assert x → view s ≡ assert_view (exprs.view x)
view_assert s x is = viewed s _ _ (assert-bare s x is) (assert-shown s x is)

pub bare_break : (s : Stmt) → s.kind ≡ kind.Break → bare_stmt s ≡ tree.BreakStmt 0
bare_break s is = search (rules, the_lemmas)

pub shown_break : (s : Stmt) → s.kind ≡ kind.Break → shown_stmt s ≡ one_line (codes "break")
shown_break s is = search (rules, the_lemmas)

pub bare_continue : (s : Stmt) → s.kind ≡ kind.Continue → bare_stmt s ≡ tree.ContinueStmt 0
bare_continue s is = search (rules, the_lemmas)

pub shown_continue : (s : Stmt) → s.kind ≡ kind.Continue → shown_stmt s ≡ one_line (codes "continue")
shown_continue s is = search (rules, the_lemmas)

pub bare_skip : (s : Stmt) → s.kind ≡ kind.Skip → bare_stmt s ≡ tree.SkipStmt 0
bare_skip s is = search (rules, the_lemmas)

pub shown_skip : (s : Stmt) → s.kind ≡ kind.Skip → shown_stmt s ≡ one_line (codes "skip")
shown_skip s is = search (rules, the_lemmas)

pub bare_fail : (s : Stmt) → s.kind ≡ kind.Fail → bare_stmt s ≡ tree.FailStmt 0
bare_fail s is = search (rules, the_lemmas)

pub shown_fail : (s : Stmt) → s.kind ≡ kind.Fail → shown_stmt s ≡ one_line (codes "fail")
shown_fail s is = search (rules, the_lemmas)

-- ---- statements with blocks

if-bare : (s : Stmt) (x : Expr) (first second : List Stmt) → s.kind ≡ kind.If x first second → bare_stmt s ≡ tree.IfStmt 0 (bare_expr x) (tree.stmts_of (map bare_stmt first)) (tree.stmts_of (map bare_stmt second))
if-bare s x first second is = search (rules, the_lemmas)

abbrev pub if_shown : List ℕ → List ShownStmt → List ShownStmt → ShownStmt
if_shown text first second = record { text = λ margin. codes "if " ++ (text ++ (block margin first ++ otherwise margin second)); is_if = true }

pub if-shown : (s : Stmt) (x : Expr) (first second : List Stmt) → s.kind ≡ kind.If x first second → shown_stmt s ≡ if_shown (expr_text x) (map shown_stmt first) (map shown_stmt second)
if-shown s x first second is = search (rules, the_lemmas)

abbrev pub if_view : exprs.View → List View → List View → View
if_view v vs ws = (tree.IfStmt 0 v.0 (tree.stmts_of (trees vs)) (tree.stmts_of (trees ws)), if_shown v.1.text (showns vs) (showns ws))

pub view_if : (s : Stmt) (x : Expr) (first second : List Stmt) → s.kind ≡ kind.If x first second → view s ≡ if_view (exprs.view x) (map view first) (map view second)
view_if s x first second is = viewed s _ _
    (if-bare s x first second is ∙ ap₂ (λ (a b : List tree.Stmt). tree.IfStmt 0 (bare_expr x) (tree.stmts_of a) (tree.stmts_of b)) (trees-of first) (trees-of second))
    (if-shown s x first second is ∙ ap₂ (λ (a b : List ShownStmt). if_shown (expr_text x) a b) (showns-of first) (showns-of second))

while-bare : (s : Stmt) (x : Expr) (es : List Expr) (body : List Stmt) → s.kind ≡ kind.While x es body → bare_stmt s ≡ tree.WhileStmt 0 (bare_expr x) (map bare_expr es) (tree.stmts_of (map bare_stmt body))
while-bare s x es body is = search (rules, the_lemmas)

abbrev pub while_shown : List ℕ → List (List ℕ) → List ShownStmt → ShownStmt
while_shown text clauses body = other (λ margin. (codes "while " ++ (text ++ clause_lines margin (codes "where ") clauses)) ++ block margin body)

pub while-shown : (s : Stmt) (x : Expr) (es : List Expr) (body : List Stmt) → s.kind ≡ kind.While x es body → shown_stmt s ≡ while_shown (expr_text x) (expr_texts es) (map shown_stmt body)
while-shown s x es body is = search (rules, the_lemmas)

abbrev pub while_view : exprs.View → List exprs.View → List View → View
while_view v vs ws = (tree.WhileStmt 0 v.0 (bares vs) (tree.stmts_of (trees ws)), while_shown v.1.text (view_texts vs) (showns ws))

pub view_while : (s : Stmt) (x : Expr) (es : List Expr) (body : List Stmt) → s.kind ≡ kind.While x es body → view s ≡ while_view (exprs.view x) (map exprs.view es) (map view body)
view_while s x es body is = viewed s _ _
    (while-bare s x es body is ∙ ap₂ (λ (a : List tree.Expr) (b : List tree.Stmt). tree.WhileStmt 0 (bare_expr x) a (tree.stmts_of b)) (bares-of es) (trees-of body))
    (while-shown s x es body is ∙ ap₂ (λ (a : List (List ℕ)) (b : List ShownStmt). while_shown (expr_text x) a b) (texts-of es) (showns-of body))

do-bare : (s : Stmt) (body : List Stmt) (x : Expr) (es : List Expr) → s.kind ≡ kind.Do body x es → bare_stmt s ≡ tree.DoStmt 0 (tree.stmts_of (map bare_stmt body)) (bare_expr x) (map bare_expr es)
do-bare s body x es is = search (rules, the_lemmas)

abbrev pub do_shown : List ShownStmt → List ℕ → List (List ℕ) → ShownStmt
do_shown body text clauses = other (λ margin. codes "do" ++ (block margin body ++ (margin ++ ((codes "while " ++ (text ++ clause_lines margin (codes "where ") clauses)) ++ line_end))))

pub do-shown : (s : Stmt) (body : List Stmt) (x : Expr) (es : List Expr) → s.kind ≡ kind.Do body x es → shown_stmt s ≡ do_shown (map shown_stmt body) (expr_text x) (expr_texts es)
do-shown s body x es is = search (rules, the_lemmas)

abbrev pub do_view : List View → exprs.View → List exprs.View → View
do_view ws v vs = (tree.DoStmt 0 (tree.stmts_of (trees ws)) v.0 (bares vs), do_shown (showns ws) v.1.text (view_texts vs))

pub view_do : (s : Stmt) (body : List Stmt) (x : Expr) (es : List Expr) → s.kind ≡ kind.Do body x es → view s ≡ do_view (map view body) (exprs.view x) (map exprs.view es)
view_do s body x es is = viewed s _ _
    (do-bare s body x es is ∙ ap₂ (λ (b : List tree.Stmt) (a : List tree.Expr). tree.DoStmt 0 (tree.stmts_of b) (bare_expr x) a) (trees-of body) (bares-of es))
    (do-shown s body x es is ∙ ap₂ (λ (b : List ShownStmt) (a : List (List ℕ)). do_shown b (expr_text x) a) (showns-of body) (texts-of es))

for-bare : (s : Stmt) (name : List ℕ) (x y : Expr) (es : List Expr) (body : List Stmt) → s.kind ≡ kind.For name x y es body
    → bare_stmt s ≡ tree.ForStmt 0 name (bare_expr x) (bare_expr y) (map bare_expr es) (tree.stmts_of (map bare_stmt body))
for-bare s name x y es body is = search (rules, the_lemmas)

abbrev pub for_shown : List ℕ → List (List ℕ) → List ShownStmt → ShownStmt
for_shown text clauses body = other (λ margin. (codes "for " ++ (text ++ clause_lines margin (codes "where ") clauses)) ++ block margin body)

pub for-shown : (s : Stmt) (name : List ℕ) (x y : Expr) (es : List Expr) (body : List Stmt) → s.kind ≡ kind.For name x y es body → shown_stmt s ≡ for_shown (range_text name (shown x) (shown y)) (expr_texts es) (map shown_stmt body)
for-shown s name x y es body is = search (rules, the_lemmas)

abbrev pub for_view : List ℕ → exprs.View → exprs.View → List exprs.View → List View → View
for_view name v w vs ws = (tree.ForStmt 0 name v.0 w.0 (bares vs) (tree.stmts_of (trees ws)), for_shown (range_text name v.1 w.1) (view_texts vs) (showns ws))

pub view_for : (s : Stmt) (name : List ℕ) (x y : Expr) (es : List Expr) (body : List Stmt) → s.kind ≡ kind.For name x y es body → view s ≡ for_view name (exprs.view x) (exprs.view y) (map exprs.view es) (map view body)
view_for s name x y es body is = viewed s _ _
    (for-bare s name x y es body is ∙ ap₂ (λ (a : List tree.Expr) (b : List tree.Stmt). tree.ForStmt 0 name (bare_expr x) (bare_expr y) a (tree.stmts_of b)) (bares-of es) (trees-of body))
    (for-shown s name x y es body is ∙ ap₂ (λ (a : List (List ℕ)) (b : List ShownStmt). for_shown (range_text name (shown x) (shown y)) a b) (texts-of es) (showns-of body))

-- ---- cases

abbrev pub case_shown : List (List ℕ) → List ShownStmt → ShownCase
case_shown labels body = λ margin. codes "case " ++ (listed labels ++ block margin body)

case-bare : (labels : List Expr) (body : List Stmt) → bare_case (roll-Case (record { labels = labels; body = body })) ≡ (map bare_expr labels, tree.stmts_of (map bare_stmt body))
case-bare labels body = search (rules, the_lemmas)

pub case-shown : (labels : List Expr) (body : List Stmt) → shown_case (roll-Case (record { labels = labels; body = body })) ≡ case_shown (expr_texts labels) (map shown_stmt body)
case-shown labels body = search (rules, the_lemmas)

abbrev pub made_case : List exprs.View → List View → CaseView
made_case vs ws = ((bares vs, tree.stmts_of (trees ws)), case_shown (view_texts vs) (showns ws))

pub view_case : (labels : List Expr) (body : List Stmt) → case_view (roll-Case (record { labels = labels; body = body })) ≡ made_case (map exprs.view labels) (map view body)
view_case labels body = ap₂ (λ (c : seen.SeenCase) (u : ShownCase). (c, u))
    (case-bare labels body ∙ ap₂ (λ (a : List tree.Expr) (b : List tree.Stmt). (a, tree.stmts_of b)) (bares-of labels) (trees-of body))
    (case-shown labels body ∙ ap₂ (λ (a : List (List ℕ)) (b : List ShownStmt). case_shown a b) (texts-of labels) (showns-of body))

-- those of views
abbrev pub case_trees : List CaseView → List seen.SeenCase
case_trees vs = map (λ (v : CaseView). v.0) vs

abbrev pub case_showns : List CaseView → List ShownCase
case_showns vs = map (λ (v : CaseView). v.1) vs

case_trees-of : (cs : List Case) → map bare_case cs ≡ case_trees (map case_view cs)
case_trees-of cs = sym (map-map case_view (λ (v : CaseView). v.0) cs)

case_showns-of : (cs : List Case) → map shown_case cs ≡ case_showns (map case_view cs)
case_showns-of cs = sym (map-map case_view (λ (v : CaseView). v.1) cs)

-- ---- switches

-- the text of a default, where there is one
abbrev pub default_text : List ℕ → Option (List ShownStmt) → List ℕ
default_text further None = []
default_text further (Some ss) = default_lines further ss

abbrev pub switch_shown : List ℕ → List ShownCase → Option (List ShownStmt) → ShownStmt
switch_shown text cs d = other (λ margin. (codes "switch " ++ (text ++ (codes ":" ++ line_end))) ++ (case_lines (margin ++ step_in) cs ++ default_text (margin ++ step_in) d))

switch-bare : (s : Stmt) (x : Expr) (cs : List Case) (d : Option (List Stmt)) → s.kind ≡ kind.Switch x cs d → bare_stmt s ≡ seen.switch_of 0 (bare_expr x) (tree.cases_of (map bare_case cs)) (option_map (map bare_stmt) d)
switch-bare s x cs d is = search (rules, the_lemmas)

switch-text : (s : Stmt) (x : Expr) (cs : List Case) (d : Option (List Stmt)) → s.kind ≡ kind.Switch x cs d → shown_stmt s ≡ other (λ margin. switch_text x (margin ++ step_in) (map shown_case cs) (option_map (map shown_stmt) d))
switch-text s x cs d is = search (rules, the_lemmas)

abbrev pub switch_view : exprs.View → List CaseView → Option (List View) → View
switch_view v cs None = (tree.SwitchStmt 0 v.0 (tree.cases_of (case_trees cs)), switch_shown v.1.text (case_showns cs) None)
switch_view v cs (Some ws) = (tree.SwitchElseStmt 0 v.0 (tree.cases_of (case_trees cs)) (tree.stmts_of (trees ws)), switch_shown v.1.text (case_showns cs) (Some (showns ws)))

-- nothing stands behind the cases where there is no default
no_default : (x : Expr) (cs : List ShownCase) (margin : List ℕ) → switch_text x (margin ++ step_in) cs None ≡ (switch_shown (expr_text x) cs None).text margin
no_default x cs margin = ap (λ (l : List ℕ). (codes "switch " ++ (expr_text x ++ (codes ":" ++ line_end))) ++ l) (sym (append-nil (case_lines (margin ++ step_in) cs)))

pub switch-shown : (s : Stmt) (x : Expr) (cs : List Case) (d : Option (List Stmt)) → s.kind ≡ kind.Switch x cs d → shown_stmt s ≡ switch_shown (expr_text x) (map shown_case cs) (option_map (map shown_stmt) d)
switch-shown s x cs None is = switch-text s x cs None is ∙ ap (λ (f : List ℕ → List ℕ). other f) (fun_ext (λ margin. no_default x (map shown_case cs) margin))
switch-shown s x cs (Some ss) is = switch-text s x cs (Some ss) is

pub view_switch : (s : Stmt) (x : Expr) (cs : List Case) (d : Option (List Stmt)) → s.kind ≡ kind.Switch x cs d → view s ≡ switch_view (exprs.view x) (map case_view cs) (option_map (map view) d)
view_switch s x cs None is = viewed s _ _
    (switch-bare s x cs None is ∙ ap (λ (a : List seen.SeenCase). tree.SwitchStmt 0 (bare_expr x) (tree.cases_of a)) (case_trees-of cs))
    (switch-shown s x cs None is ∙ ap (λ (a : List ShownCase). switch_shown (expr_text x) a None) (case_showns-of cs))
view_switch s x cs (Some ss) is = viewed s _ _
    (switch-bare s x cs (Some ss) is ∙ ap₂ (λ (a : List seen.SeenCase) (b : List tree.Stmt). tree.SwitchElseStmt 0 (bare_expr x) (tree.cases_of a) (tree.stmts_of b)) (case_trees-of cs) (trees-of ss))
    (switch-shown s x cs (Some ss) is ∙ ap₂ (λ (a : List ShownCase) (b : List ShownStmt). switch_shown (expr_text x) a (Some b)) (case_showns-of cs) (showns-of ss))
