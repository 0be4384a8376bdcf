-- What is shown of declarations and programs, and what they are places aside.
use Rattle.std.proofs.Common.{◌≡◌, ℕ, List, [], ◌++◌, map, codes, Option, Some, None, refl, sym, ap, ap₂, ◌∙◌}
use Rattle.wy_ast.specs.SurfaceTree as tree
use Rattle.wy_ast.specs.declared.types.Ty.{Ty}
use Rattle.wy_ast.specs.declared.declarations.Param.{Param}
use Rattle.wy_ast.specs.declared.declarations.Alias.{Alias}
use Rattle.wy_ast.specs.declared.declarations.Function.{Function}
use Rattle.wy_ast.specs.declared.declarations.Method.{Method}
use Rattle.wy_ast.specs.declared.declarations.Property.{Property}
use Rattle.wy_ast.specs.declared.declarations.Decl.{Decl}
use Rattle.wy_ast.specs.declared.declarations.Decl.TheVariants as decl
use Rattle.wy_print.specs.Pieces.{line_end, listed}
use Rattle.wy_print.specs.TypeText.{ShownTy, shown_ty, typed}
use Rattle.wy_print.specs.ExprText.{expr_texts}
use Rattle.wy_print.specs.StmtText.{ShownStmt, clause_lines, block, shown_stmt}
use Rattle.wy_print.specs.ProgramText.{decl_text, param_texts, named_type, result_text}
use Rattle.wy_print_laws.specs.round.Bare.{bare_expr}
use Rattle.wy_print_laws.proofs.round_lemmas.TypeRound as types
use Rattle.wy_print_laws.proofs.round_lemmas.TypeRound.{map-map}
use Rattle.wy_print_laws.proofs.round_lemmas.ExprShown as exprs
use Rattle.wy_print_laws.specs.round.BareStmt.{bare_stmt}
use Rattle.wy_print_laws.proofs.round_lemmas.StmtShown.{View, view, trees, showns, bares, view_texts, bares-of, showns-of, texts-of, trees-of}
use Rattle.wy_print_laws.specs.round.BareProgram.{bare_param, bare_result, bare_decl}

-- a declaration places aside, and its text; a parameter likewise
abbrev pub DeclView : Type 0
DeclView = tree.Decl × List ℕ

abbrev pub view_decl : Decl → DeclView
view_decl d = (bare_decl d, decl_text d)

abbrev pub ParamView : Type 0
ParamView = tree.Param × List ℕ

abbrev pub param_text : Param → List ℕ
param_text p = typed (shown_ty p.ty) p.name

abbrev pub view_param : Param → ParamView
view_param p = (bare_param p, param_text p)

abbrev pub made_param : types.View → List ℕ → ParamView
made_param w name = (record { ty = w.0; name = name }, typed w.1 name)

-- ---- texts by what is seen

abbrev pub named_text : ShownTy → Option (List ℕ) → List ℕ
named_text w None = w.text
named_text w (Some name) = codes "(" ++ (typed w name ++ codes ")")

pub named_text-of : (ty : Ty) (name : Option (List ℕ)) → named_type ty name ≡ named_text (shown_ty ty) name
named_text-of ty None = refl
named_text-of ty (Some name) = refl

abbrev pub sign_text : List ℕ → List ℕ → List (List ℕ) → List ℕ
sign_text word name params = word ++ (name ++ (codes "(" ++ (listed params ++ codes ")")))

abbrev pub contract_lines : List (List ℕ) → List (List ℕ) → List ℕ
contract_lines pre post = clause_lines [] (codes "requires ") pre ++ clause_lines [] (codes "ensures ") post

-- ---- parts of lists of views

abbrev pub param_trees : List ParamView → List tree.Param
param_trees vs = map (λ (v : ParamView). v.0) vs

abbrev pub param_showns : List ParamView → List (List ℕ)
param_showns vs = map (λ (v : ParamView). v.1) vs

param_trees-of : (ps : List Param) → map bare_param ps ≡ param_trees (map view_param ps)
param_trees-of ps = sym (map-map view_param (λ (v : ParamView). v.0) ps)

pub param_showns-of : (ps : List Param) → param_texts ps ≡ param_showns (map view_param ps)
param_showns-of ps = sym (map-map view_param (λ (v : ParamView). v.1) ps)

-- ---- type declarations

abbrev pub alias_view : List ℕ → types.View → Option (List ℕ) → List exprs.View → DeclView
alias_view name w variable vs = (
  tree.AliasDecl (record { at = 0; name = name; ty = w.0; variable = variable; clauses = bares vs }),
  codes "type " ++ (name ++ (codes " is " ++ (named_text w.1 variable ++ (clause_lines [] (codes "where ") (view_texts vs) ++ line_end)))),
)

alias_bare : Alias → List tree.Expr → tree.Decl
alias_bare a es = tree.AliasDecl (record { at = 0; name = a.name; ty = (types.view a.ty).0; variable = a.variable; clauses = es })

alias_shown : Alias → List (List ℕ) → List ℕ
alias_shown a es = codes "type " ++ (a.name ++ (codes " is " ++ (named_text (shown_ty a.ty) a.variable ++ (clause_lines [] (codes "where ") es ++ line_end))))

pub alias-text : (a : Alias) → decl_text (decl.Alias a) ≡ codes "type " ++ (a.name ++ (codes " is " ++ (named_text (shown_ty a.ty) a.variable ++ (clause_lines [] (codes "where ") (expr_texts a.clauses) ++ line_end))))
alias-text a = ap (λ (l : List ℕ). codes "type " ++ (a.name ++ (codes " is " ++ (l ++ (clause_lines [] (codes "where ") (expr_texts a.clauses) ++ line_end))))) (named_text-of a.ty a.variable)

pub view_alias : (a : Alias) → view_decl (decl.Alias a) ≡ alias_view a.name (types.view a.ty) a.variable (map exprs.view a.clauses)
unfolding alias_bare alias_shown
view_alias a = ap₂ (λ (d : tree.Decl) (l : List ℕ). (d, l)) (ap (alias_bare a) (bares-of a.clauses)) (alias-text a ∙ ap (alias_shown a) (texts-of a.clauses))

-- ---- properties

abbrev pub property_view : List ℕ → List ParamView → List exprs.View → DeclView
property_view name ps vs = (
  tree.PropertyDecl (record { at = 0; name = name; params = param_trees ps; clauses = bares vs }),
  sign_text (codes "property ") name (param_showns ps) ++ (clause_lines [] (codes "where ") (view_texts vs) ++ line_end),
)

pub view_property : (p : Property) → view_decl (decl.Property p) ≡ property_view p.name (map view_param p.params) (map exprs.view p.clauses)
view_property p =
    ap₂ (λ (d : tree.Decl) (l : List ℕ). (d, l))
    (ap₂ (λ (ps : List tree.Param) (vs : List tree.Expr). tree.PropertyDecl (record { at = 0; name = p.name; params = ps; clauses = vs })) (param_trees-of p.params) (bares-of p.clauses))
    (ap₂ (λ (ps vs : List (List ℕ)). sign_text (codes "property ") p.name ps ++ (clause_lines [] (codes "where ") vs ++ line_end)) (param_showns-of p.params) (texts-of p.clauses))

-- ---- functions

abbrev pub function_view : List ℕ → List ParamView → types.View → Option (List ℕ) → List exprs.View → List exprs.View → List View → DeclView
function_view name ps w given pre post ws = (
  tree.FunctionDecl (record { at = 0; name = name; params = param_trees ps; result = w.0; result_name = given; preconditions = bares pre; postconditions = bares post; body = tree.stmts_of (trees ws) }),
  sign_text (codes "function ") name (param_showns ps) ++ (codes " -> " ++ (named_text w.1 given ++ (contract_lines (view_texts pre) (view_texts post) ++ block [] (showns ws)))),
)

function_bare : List ℕ → Ty → Option (List ℕ) → List tree.Param → List tree.Expr → List tree.Expr → List tree.Stmt → tree.Decl
function_bare name ty given ps pre post ss = tree.FunctionDecl (record { at = 0; name = name; params = ps; result = (types.view ty).0; result_name = given; preconditions = pre; postconditions = post; body = tree.stmts_of ss })

function_shown : List ℕ → Ty → Option (List ℕ) → List (List ℕ) → List (List ℕ) → List (List ℕ) → List ShownStmt → List ℕ
function_shown name ty given ps pre post ss = sign_text (codes "function ") name ps ++ (codes " -> " ++ (named_text (shown_ty ty) given ++ (contract_lines pre post ++ block [] ss)))

pub function-text : (f : Function) → decl_text (decl.Function f) ≡ sign_text (codes "function ") f.name (param_texts f.params) ++ (codes " -> " ++ (named_text (shown_ty f.result) f.result_name ++ (contract_lines (expr_texts f.preconditions) (expr_texts f.postconditions) ++ block [] (map shown_stmt f.body))))
function-text f =
    ap (λ (l : List ℕ). sign_text (codes "function ") f.name (param_texts f.params) ++ (codes " -> " ++ (l ++ (contract_lines (expr_texts f.preconditions) (expr_texts f.postconditions) ++ block [] (map shown_stmt f.body)))))
    (named_text-of f.result f.result_name)

four : {A B C D X : Type 0} (f : A → B → C → D → X) {a a' : A} {b b' : B} {c c' : C} {d d' : D} → a ≡ a' → b ≡ b' → c ≡ c' → d ≡ d' → f a b c d ≡ f a' b' c' d'
four f {a} {a'} {b} {b'} {c} {c'} {d} {d'} p q r s = ap₂ (λ x y. f x y c d) p q ∙ ap₂ (λ x y. f a' b' x y) r s

pub view_function : (f : Function) → view_decl (decl.Function f) ≡ function_view f.name (map view_param f.params) (types.view f.result) f.result_name (map exprs.view f.preconditions) (map exprs.view f.postconditions) (map view f.body)
unfolding function_bare function_shown
view_function f =
    ap₂ (λ (d : tree.Decl) (l : List ℕ). (d, l))
    (four (function_bare f.name f.result f.result_name) (param_trees-of f.params) (bares-of f.preconditions) (bares-of f.postconditions) (trees-of f.body))
    (function-text f ∙ four (function_shown f.name f.result f.result_name) (param_showns-of f.params) (texts-of f.preconditions) (texts-of f.postconditions) (showns-of f.body))

-- ---- methods

-- a result as it is seen, where there is one
abbrev pub ResultView : Type 0
ResultView = Option (types.View × Option (List ℕ))

abbrev pub view_result : Option (Ty × Option (List ℕ)) → ResultView
view_result None = None
view_result (Some r) = Some (types.view r.0, r.1)

abbrev pub result_tree : ResultView → Option (tree.Ty × Option (List ℕ))
result_tree None = None
result_tree (Some r) = Some (r.0.0, r.1)

abbrev pub result_shown : ResultView → List ℕ
result_shown None = []
result_shown (Some r) = codes " -> " ++ named_text r.0.1 r.1

abbrev pub method_view : List ℕ → List ParamView → ResultView → List exprs.View → List exprs.View → List View → DeclView
method_view name ps r pre post ws = (
  tree.MethodDecl (record { at = 0; name = name; params = param_trees ps; result = result_tree r; preconditions = bares pre; postconditions = bares post; body = tree.stmts_of (trees ws) }),
  sign_text (codes "method ") name (param_showns ps) ++ (result_shown r ++ (contract_lines (view_texts pre) (view_texts post) ++ block [] (showns ws))),
)

method_bare : List ℕ → Option (tree.Ty × Option (List ℕ)) → List tree.Param → List tree.Expr → List tree.Expr → List tree.Stmt → tree.Decl
method_bare name r ps pre post ss = tree.MethodDecl (record { at = 0; name = name; params = ps; result = r; preconditions = pre; postconditions = post; body = tree.stmts_of ss })

method_shown : List ℕ → List ℕ → List (List ℕ) → List (List ℕ) → List (List ℕ) → List ShownStmt → List ℕ
method_shown name r ps pre post ss = sign_text (codes "method ") name ps ++ (r ++ (contract_lines pre post ++ block [] ss))

result_tree-of : (r : Option (Ty × Option (List ℕ))) → bare_result r ≡ result_tree (view_result r)
result_tree-of None = refl
result_tree-of (Some r) = refl

pub result_shown-of : (r : Option (Ty × Option (List ℕ))) → result_text r ≡ result_shown (view_result r)
result_shown-of None = refl
result_shown-of (Some r) = ap (λ (l : List ℕ). codes " -> " ++ l) (named_text-of r.0 r.1)

pub view_method : (m : Method) → view_decl (decl.Method m) ≡ method_view m.name (map view_param m.params) (view_result m.result) (map exprs.view m.preconditions) (map exprs.view m.postconditions) (map view m.body)
unfolding method_bare method_shown
view_method m =
    ap₂ (λ (d : tree.Decl) (l : List ℕ). (d, l))
    (ap (λ (r : Option (tree.Ty × Option (List ℕ))). method_bare m.name r (map bare_param m.params) (map bare_expr m.preconditions) (map bare_expr m.postconditions) (map bare_stmt m.body)) (result_tree-of m.result)
    ∙ four (method_bare m.name (result_tree (view_result m.result))) (param_trees-of m.params) (bares-of m.preconditions) (bares-of m.postconditions) (trees-of m.body))
    (ap (λ (r : List ℕ). method_shown m.name r (param_texts m.params) (expr_texts m.preconditions) (expr_texts m.postconditions) (map shown_stmt m.body)) (result_shown-of m.result)
    ∙ four (method_shown m.name (result_shown (view_result m.result))) (param_showns-of m.params) (texts-of m.preconditions) (texts-of m.postconditions) (showns-of m.body))
