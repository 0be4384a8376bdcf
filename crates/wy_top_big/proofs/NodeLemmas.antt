-- What the nodes of the tree of a large program are written as, by what their parts are written as.
use Rattle.std.proofs.Common.{◌≡◌, ◌∙◌, ℕ, pos, true, List, [], ◌∷◌, ◌++◌, Some, ap, refl, rules}
use Rattle.std.specs.Prelude.{codes}
use Rattle.std.specs.Fmt.{decimal}
use Rattle.wy_ast.specs.declared.expressions.Expr as e
use Rattle.wy_ast.specs.declared.expressions.Expr.{Expr}
use Rattle.wy_ast.specs.declared.expressions.ExprKind as kind
use Rattle.wy_ast.specs.declared.expressions.Op.{Op}
use Rattle.wy_ast.specs.declared.statements.Stmt as s
use Rattle.wy_ast.specs.declared.statements.Stmt.{Stmt}
use Rattle.wy_ast.specs.declared.statements.Step.{Step}
use Rattle.wy_ast.specs.declared.statements.StmtKind as stmt
use Rattle.wy_ast.specs.declared.types.Ty as t
use Rattle.wy_ast.specs.declared.types.Ty.{Ty}
use Rattle.wy_ast.specs.declared.types.TyKind as ty
use Rattle.wy_print.specs.ExprText.{Shown, shown, expr_text, expr_texts, called, combined, left_part, measured, part, plain, right_part}
use Rattle.wy_print.specs.StmtText.{ShownStmt, block, clause_lines, one_line, other, otherwise, path_text, shown_stmt, shown_stmts, value_text, while_text, returned_text}
use Rattle.wy_print.specs.TypeText.{ShownTy, shown_ty, typed, word}
use Rattle.wy_print.specs.TypeText as type_text
use Rattle.wy_top_big.specs.Tree as tree

-- ---- by their kinds

int_is : (x : Ty) → x.kind ≡ ty.Int → shown_ty x ≡ word (codes "int")
int_is x is = search (rules, t.the_lemmas)

array_is : (x item : Ty) → x.kind ≡ ty.Array item → shown_ty x ≡ record { text = type_text.part 2 (shown_ty item) ++ codes "[]"; level = 2 }
array_is x item is = search (rules, t.the_lemmas)

var_is : (x : Expr) (name : List ℕ) → x.kind ≡ kind.Var name → shown x ≡ plain 7 name
var_is x name is = search (rules, e.the_lemmas)

number_is : (x : Expr) (n : ℕ) → x.kind ≡ kind.Int (pos n) → shown x ≡ plain 7 (decimal n)
number_is x n is = search (rules, e.the_lemmas)

both_is : (x a b : Expr) (o : Op) → x.kind ≡ kind.Binary o a b → shown x ≡ combined o (left_part o (shown a)) (right_part o (shown b))
both_is x a b o is = search (rules, e.the_lemmas)

call_is : (x : Expr) (name : List ℕ) (args : List Expr) → x.kind ≡ kind.Call name args → shown x ≡ plain 7 (called name (expr_texts args))
call_is x name args is = search (rules, e.the_lemmas)

repeat_is : (x item count : Expr) → x.kind ≡ kind.Repeat item count
    → shown x ≡ plain 7 (codes "[" ++ (expr_text item ++ (codes "; " ++ (expr_text count ++ codes "]"))))
repeat_is x item count is = search (rules, e.the_lemmas)

length_is : (x operand : Expr) → x.kind ≡ kind.Len operand → shown x ≡ measured (part 4 (shown operand))
length_is x operand is = search (rules, e.the_lemmas)

declare_is : (x : Stmt) (type : Ty) (name : List ℕ) (value : Expr) → x.kind ≡ stmt.Declare type name (Some value)
    → shown_stmt x ≡ one_line (typed (shown_ty type) name ++ value_text (Some value))
declare_is x type name value is = search (rules, s.the_lemmas)

assign_is : (x : Stmt) (name : List ℕ) (path : List Step) (value : Expr) → x.kind ≡ stmt.Assign name path value
    → shown_stmt x ≡ one_line (name ++ (path_text path ++ (codes " = " ++ expr_text value)))
assign_is x name path value is = search (rules, s.the_lemmas)

return_is : (x : Stmt) (value : Expr) → x.kind ≡ stmt.Return (Some value) → shown_stmt x ≡ one_line (codes "return" ++ returned_text (Some value))
return_is x value is = search (rules, s.the_lemmas)

-- an 'if' with this test, first block and second block
abbrev pub if_with : List ℕ → List ShownStmt → List ShownStmt → ShownStmt
if_with test first second = record { text = (λ margin. codes "if " ++ (test ++ (block margin first ++ otherwise margin second))); is_if = true }

if_is : (x : Stmt) (test : Expr) (first second : List Stmt) → x.kind ≡ stmt.If test first second
    → shown_stmt x ≡ if_with (expr_text test) (shown_stmts first) (shown_stmts second)
if_is x test first second is = search (rules, s.the_lemmas)

-- a 'while' with this test, these invariants and this block
abbrev pub while_with : List ℕ → List (List ℕ) → List ShownStmt → ShownStmt
while_with test invariants body = other (λ margin. (codes "while " ++ (test ++ clause_lines margin (codes "where ") invariants)) ++ block margin body)

while_is : (x : Stmt) (test : Expr) (invariants : List Expr) (body : List Stmt) → x.kind ≡ stmt.While test invariants body
    → shown_stmt x ≡ while_with (expr_text test) (expr_texts invariants) (shown_stmts body)
while_is x test invariants body is = search (rules, s.the_lemmas)

-- ---- by their parts

pub int : shown_ty tree.int ≡ word (codes "int")
int = int_is tree.int refl

pub array : (item : Ty) (T : ShownTy) → shown_ty item ≡ T → shown_ty (tree.typed (ty.Array item)) ≡ record { text = type_text.part 2 T ++ codes "[]"; level = 2 }
array item T is = array_is (tree.typed (ty.Array item)) item refl ∙ ap (λ z. record { text = type_text.part 2 z ++ codes "[]"; level = 2 }) is

pub variable : (name : List ℕ) → shown (tree.variable name) ≡ plain 7 name
variable name = var_is (tree.variable name) name refl

pub number : (n : ℕ) → shown (tree.number n) ≡ plain 7 (decimal n)
number n = number_is (tree.number n) n refl

pub both : (o : Op) (a b : Expr) (A B : Shown) → shown a ≡ A → shown b ≡ B → shown (tree.both o a b) ≡ combined o (left_part o A) (right_part o B)
both o a b A B left right =
    both_is (tree.both o a b) a b o refl
    ∙ (ap (λ z. combined o (left_part o z) (right_part o (shown b))) left ∙ ap (λ z. combined o (left_part o A) (right_part o z)) right)

pub call : (name : List ℕ) (arg : Expr) (A : Shown) → shown arg ≡ A → shown (tree.made (kind.Call name (arg ∷ []))) ≡ plain 7 (called name (A.text ∷ []))
call name arg A is = call_is (tree.made (kind.Call name (arg ∷ []))) name (arg ∷ []) refl ∙ ap (λ (z : Shown). plain 7 (called name (z.text ∷ []))) is

pub repeat : (item count : Expr) (A B : Shown) → shown item ≡ A → shown count ≡ B
    → shown (tree.made (kind.Repeat item count)) ≡ plain 7 (codes "[" ++ (A.text ++ (codes "; " ++ (B.text ++ codes "]"))))
repeat item count A B first second =
    repeat_is (tree.made (kind.Repeat item count)) item count refl
    ∙ (ap (λ (z : Shown). plain 7 (codes "[" ++ (z.text ++ (codes "; " ++ (expr_text count ++ codes "]"))))) first
    ∙ ap (λ (z : Shown). plain 7 (codes "[" ++ (A.text ++ (codes "; " ++ (z.text ++ codes "]"))))) second)

pub measure : (operand : Expr) (A : Shown) → shown operand ≡ A → shown (tree.made (kind.Len operand)) ≡ measured (part 4 A)
measure operand A is = length_is (tree.made (kind.Len operand)) operand refl ∙ ap (λ z. measured (part 4 z)) is

pub declares : (type : Ty) (name : List ℕ) (value : Expr) (T : ShownTy) (A : Shown) → shown_ty type ≡ T → shown value ≡ A
    → shown_stmt (tree.declares type name value) ≡ one_line (typed T name ++ (codes " = " ++ A.text))
declares type name value T A first second =
    declare_is (tree.declares type name value) type name value refl
    ∙ (ap (λ z. one_line (typed z name ++ (codes " = " ++ expr_text value))) first
    ∙ ap (λ (z : Shown). one_line (typed T name ++ (codes " = " ++ z.text))) second)

pub assigns : (name : List ℕ) (path : List Step) (value : Expr) (P : List ℕ) (A : Shown) → path_text path ≡ P → shown value ≡ A
    → shown_stmt (tree.done (stmt.Assign name path value)) ≡ one_line (name ++ (P ++ (codes " = " ++ A.text)))
assigns name path value P A first second =
    assign_is (tree.done (stmt.Assign name path value)) name path value refl
    ∙ (ap (λ z. one_line (name ++ (z ++ (codes " = " ++ expr_text value)))) first
    ∙ ap (λ (z : Shown). one_line (name ++ (P ++ (codes " = " ++ z.text)))) second)

pub returns : (value : Expr) (A : Shown) → shown value ≡ A → shown_stmt (tree.returns value) ≡ one_line (codes "return" ++ (codes " " ++ A.text))
returns value A is = return_is (tree.returns value) value refl ∙ ap (λ (z : Shown). one_line (codes "return" ++ (codes " " ++ z.text))) is

pub choice : (test : Expr) (first : List Stmt) (A : Shown) (F : List ShownStmt) → shown test ≡ A → shown_stmts first ≡ F
    → shown_stmt (tree.done (stmt.If test first [])) ≡ if_with A.text F []
choice test first A F is block =
    if_is (tree.done (stmt.If test first [])) test first [] refl
    ∙ (ap (λ (z : Shown). if_with z.text (shown_stmts first) []) is ∙ ap (λ z. if_with A.text z []) block)

pub loop : (test : Expr) (invariants : List Expr) (body : List Stmt) (A : Shown) (I : List (List ℕ)) (B : List ShownStmt)
    → shown test ≡ A → expr_texts invariants ≡ I → shown_stmts body ≡ B
    → shown_stmt (tree.done (stmt.While test invariants body)) ≡ while_with A.text I B
loop test invariants body A I B is kept block =
    while_is (tree.done (stmt.While test invariants body)) test invariants body refl
    ∙ (ap (λ (z : Shown). while_with z.text (expr_texts invariants) (shown_stmts body)) is
    ∙ (ap (λ z. while_with A.text z (shown_stmts body)) kept ∙ ap (λ z. while_with A.text I z) block))
