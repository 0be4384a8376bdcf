-- What `print` writes of the bodies in the tree of a large program.
use Rattle.std.proofs.Common.{◌≡◌, ◌∙◌, ℕ, zero, suc, ◌==◌, Bool, true, false, List, [], ◌∷◌, ◌++◌, refl, sym, ap, append_assoc, append-nil}
use Rattle.std.specs.Prelude.{codes, if◌then◌else◌}
use Rattle.std.specs.Fmt.{decimal, digits}
use Rattle.wy_ast.specs.declared.declarations.Decl.{Decl}
use Rattle.wy_ast.specs.declared.expressions.Expr.{Expr}
use Rattle.wy_ast.specs.declared.expressions.ExprKind.TheVariants as kind
use Rattle.wy_ast.specs.declared.expressions.Op.{Op}
use Rattle.wy_ast.specs.declared.expressions.Op.TheVariants as op
use Rattle.wy_ast.specs.declared.statements.Step.{Step}
use Rattle.wy_ast.specs.declared.statements.StepKind.TheVariants as step
use Rattle.wy_ast.specs.declared.statements.StmtKind.TheVariants as stmt
use Rattle.wy_ast.specs.declared.types.TyKind.TheVariants as ty
use Rattle.wy_print.specs.Pieces.{listed}
use Rattle.wy_ast.specs.declared.statements.Stmt.{Stmt}
use Rattle.wy_print.specs.ExprText.{Shown, shown, expr_texts, plain, called, combined, left_part, measured, right_part}
use Rattle.wy_print.specs.ProgramText.{decl_lines, decl_text, more_decls}
use Rattle.wy_print.specs.StmtText.{ShownStmt, block, clause_lines, lines, one_line, path_text, shown_stmt, shown_stmts}
use Rattle.wy_print.specs.TypeText.{ShownTy, shown_ty, typed, word}
use Rattle.wy_top_big.specs.Bodies as bodies
use Rattle.wy_top_big.specs.Draws.{constant, state_after, template}
use Rattle.wy_top_big.specs.Source as source
use Rattle.wy_top_big.specs.Tree as tree
use Rattle.wy_top_big.proofs.NodeLemmas as node
use Rattle.wy_top_big.proofs.NodeLemmas.{if_with, while_with}

-- the lines of statements in a function
abbrev body_text : List Stmt → List ℕ
body_text ss = lines (codes "    ") (shown_stmts ss)

abbrev written : List ShownStmt → List ℕ
written ss = lines (codes "    ") ss

-- a variable or a number that is written so
abbrev word_of : List ℕ → Shown
word_of text = plain 7 text

-- ---- numbers

zero_is : decimal 0 ≡ codes "0"
unfolding digits
zero_is = refl

one_is : decimal 1 ≡ codes "1"
unfolding digits
one_is = refl

two_is : decimal 2 ≡ codes "2"
unfolding digits
two_is = refl

most_is : decimal 1000 ≡ codes "1000"
unfolding digits
most_is = refl

abbrev literal : (n : ℕ) (text : List ℕ) → decimal n ≡ text → shown (tree.number n) ≡ word_of text
literal n text is = node.number n ∙ ap word_of is

-- ---- expressions

-- a variable and what stands behind the operator
behind : (o : Op) (x : List ℕ) (b : Expr) (B : Shown) → shown b ≡ B
    → shown (tree.both o (tree.variable x) b) ≡ combined o (left_part o (word_of x)) (right_part o B)
behind o x b B is = node.both o (tree.variable x) b (word_of x) B (node.variable x) is

-- one more than a variable
one_more : (x : List ℕ) → shown (tree.both op.Add (tree.variable x) (tree.number 1)) ≡ combined op.Add (word_of x) (word_of (codes "1"))
one_more x = behind op.Add x (tree.number 1) (word_of (codes "1")) (literal 1 (codes "1") one_is)

counted : (x : List ℕ) → shown_stmt (tree.counts x) ≡ one_line (x ++ (codes " = " ++ (x ++ codes " + 1")))
counted x = node.assigns x [] (tree.both op.Add (tree.variable x) (tree.number 1)) [] (combined op.Add (word_of x) (word_of (codes "1"))) refl (one_more x)

-- from 0 to this
abbrev between : List ℕ → Shown → Shown
between x most = combined op.And (combined op.LessEqual (word_of (codes "0")) (word_of x)) (combined op.LessEqual (word_of x) most)

up_to : (x : List ℕ) (n : ℕ) → shown (tree.up_to x (tree.number n)) ≡ between x (word_of (decimal n))
up_to x n =
    let least = tree.both op.LessEqual (tree.number 0) (tree.variable x) in
    let most = tree.both op.LessEqual (tree.variable x) (tree.number n) in
    let zero = word_of (codes "0") in
    node.both op.And least most (combined op.LessEqual zero (word_of x)) (combined op.LessEqual (word_of x) (word_of (decimal n)))
    (node.both op.LessEqual (tree.number 0) (tree.variable x) zero (word_of x) (literal 0 (codes "0") zero_is) (node.variable x))
    (behind op.LessEqual x (tree.number n) (word_of (decimal n)) (node.number n))

-- ---- bodies

choice_text : (c : ℕ) → body_text (tree.choice c) ≡ bodies.choice c
choice_text c =
    let x = codes "x" in
    let n = decimal c in
    let first_lines = codes ":\n        return x + 1\n" in
    let N = word_of n in
    let more = tree.both op.Add (tree.variable x) (tree.number 1) in
    let less = tree.both op.Sub (tree.variable x) (tree.number c) in
    let F : List ShownStmt = one_line (codes "return x + 1") ∷ [] in
    let first : shown_stmts (tree.returns more ∷ []) ≡ F = ap (λ z. z ∷ []) (node.returns more (combined op.Add (word_of x) (word_of (codes "1"))) (one_more x)) in
    let test = tree.both op.Less (tree.variable x) (tree.number c) in
    let T = combined op.Less (word_of x) N in
    ap (λ z. written (z ∷ shown_stmt (tree.returns less) ∷ [])) (node.choice test (tree.returns more ∷ []) T F (behind op.Less x (tree.number c) N (node.number c)) first)
    ∙ (ap (λ z. written (if_with T.text F [] ∷ z ∷ [])) (node.returns less (combined op.Sub (word_of x) N) (behind op.Sub x (tree.number c) N (node.number c)))
    ∙ (ap (λ t. codes "    if x < " ++ t) (append_assoc n first_lines (codes "    return x - " ++ ((n ++ codes "\n") ++ [])))
    ∙ ap (λ t. codes "    if x < " ++ (n ++ (first_lines ++ (codes "    return x - " ++ t)))) (append-nil (n ++ codes "\n"))))

mean_text : (c : ℕ) → body_text (tree.mean c) ≡ bodies.mean c
mean_text c =
    let x = codes "x" in
    let n = decimal c in
    let N = word_of n in
    let sum = tree.both op.Add (tree.variable x) (tree.number c) in
    let S = combined op.Add (word_of x) N in
    let two = word_of (codes "2") in
    let half : shown (tree.both op.Div sum (tree.number 2)) ≡ combined op.Div (left_part op.Div S) two =
    node.both op.Div sum (tree.number 2) S two (behind op.Add x (tree.number c) N (node.number c)) (literal 2 (codes "2") two_is)
    in
    ap (λ z. written (z ∷ [])) (node.returns (tree.both op.Div sum (tree.number 2)) (combined op.Div (left_part op.Div S) two) half)
    ∙ (ap (λ t. codes "    return (x + " ++ t) (append-nil (((n ++ codes ")") ++ codes " / 2") ++ codes "\n"))
    ∙ (ap (λ t. codes "    return (x + " ++ t) (append_assoc (n ++ codes ")") (codes " / 2") (codes "\n"))
    ∙ ap (λ t. codes "    return (x + " ++ t) (append_assoc n (codes ")") (codes " / 2\n"))))

count_up_text : (c : ℕ) → body_text (tree.count_up c) ≡ bodies.count_up c
count_up_text c =
    let s = codes "s" in
    let i = codes "i" in
    let n = decimal c in
    let N = word_of n in
    let head = codes "    int s = 0\n    int i = 0\n    while i < " in
    let clauses = codes "\n    where 0 <= i && i <= " ++ (n ++ codes "\n    where s == i") in
    let inner = codes ":\n        s = s + 1\n        i = i + 1\n" in
    let last = codes "    return s\n" in
    let zero = word_of (codes "0") in
    let at_zero = literal 0 (codes "0") zero_is in
    let value = tree.variable s in
    let test = tree.both op.Less (tree.variable i) (tree.number c) in
    let T = combined op.Less (word_of i) N in
    let range = tree.up_to i (tree.number c) in
    let same = tree.both op.Equal (tree.variable s) (tree.variable i) in
    let I : List (List ℕ) = (between i N).text ∷ codes "s == i" ∷ [] in
    let kept : expr_texts (range ∷ same ∷ []) ≡ I =
    ap (λ (z : Shown). z.text ∷ expr_texts (same ∷ [])) (up_to i c)
    ∙ ap (λ (z : Shown). (between i N).text ∷ z.text ∷ []) (behind op.Equal s (tree.variable i) (word_of i) (node.variable i))
    in
    let B : List ShownStmt = one_line (codes "s = s + 1") ∷ one_line (codes "i = i + 1") ∷ [] in
    let block : shown_stmts (tree.counts s ∷ tree.counts i ∷ []) ≡ B =
    ap (λ z. z ∷ shown_stmt (tree.counts i) ∷ []) (counted s) ∙ ap (λ z. one_line (codes "s = s + 1") ∷ z ∷ []) (counted i)
    in
    let loop = tree.done (stmt.While test (range ∷ same ∷ []) (tree.counts s ∷ tree.counts i ∷ [])) in
    let first = one_line (codes "int s = 0") in
    let second = one_line (codes "int i = 0") in
    let int = word (codes "int") in
    ap (λ z. written (z ∷ shown_stmt (tree.declares tree.int i (tree.number 0)) ∷ shown_stmt loop ∷ shown_stmt (tree.returns value) ∷ [])) (node.declares tree.int s (tree.number 0) int zero node.int at_zero)
    ∙ (ap (λ z. written (first ∷ z ∷ shown_stmt loop ∷ shown_stmt (tree.returns value) ∷ [])) (node.declares tree.int i (tree.number 0) int zero node.int at_zero)
    ∙ (ap (λ z. written (first ∷ second ∷ z ∷ shown_stmt (tree.returns value) ∷ []))
    (node.loop test (range ∷ same ∷ []) (tree.counts s ∷ tree.counts i ∷ []) T I B (behind op.Less i (tree.number c) N (node.number c)) kept block)
    ∙ (ap (λ z. written (first ∷ second ∷ while_with T.text I B ∷ z ∷ [])) (node.returns value (word_of s) (node.variable s))
    ∙ (ap (λ t. head ++ t) (append_assoc (n ++ clauses) inner last) ∙ (ap (λ t. head ++ t) (append_assoc n clauses (inner ++ last))
    ∙ ap (λ t. head ++ (n ++ (codes "\n    where 0 <= i && i <= " ++ t))) (append_assoc n (codes "\n    where s == i") (inner ++ last)))))))

measure_text : (c : ℕ) → body_text (tree.measure c) ≡ bodies.measure c
measure_text c =
    let a = codes "a" in
    let x = codes "x" in
    let n = decimal c in
    let N = word_of n in
    let head = codes "    int[] a = [x; " in
    let last = codes "    return |a|\n" in
    let more = codes "    a[0] = " ++ ((n ++ codes "\n") ++ last) in
    let made = tree.made (kind.Repeat (tree.variable x) (tree.number c)) in
    let M = word_of (codes "[" ++ (x ++ (codes "; " ++ (decimal c ++ codes "]")))) in
    let array = tree.typed (ty.Array tree.int) in
    let A : ShownTy = record { text = codes "int[]"; level = 2 } in
    let path : List Step = record { at = 0; kind = step.Index (tree.number 0) } ∷ [] in
    let first_item : path_text path ≡ codes "[0]" = ap (λ (z : Shown). codes "[" ++ (z.text ++ codes "]") ++ []) (literal 0 (codes "0") zero_is) in
    let put = tree.done (stmt.Assign a path (tree.number c)) in
    let length = tree.made (kind.Len (tree.variable a)) in
    let first = one_line (codes "int[] a = " ++ M.text) in
    let second = one_line (codes "a[0] = " ++ decimal c) in
    ap (λ z. written (z ∷ shown_stmt put ∷ shown_stmt (tree.returns length) ∷ []))
    (node.declares array a made A M (node.array tree.int (word (codes "int")) node.int) (node.repeat (tree.variable x) (tree.number c) (word_of x) N (node.variable x) (node.number c)))
    ∙ (ap (λ z. written (first ∷ z ∷ shown_stmt (tree.returns length) ∷ [])) (node.assigns a path (tree.number c) (codes "[0]") N first_item (node.number c))
    ∙ (ap (λ z. written (first ∷ second ∷ z ∷ [])) (node.returns length (measured (word_of a)) (node.measure (tree.variable a) (word_of a) (node.variable a)))
    ∙ (ap (λ t. head ++ t) (append_assoc (n ++ codes "]") (codes "\n") more) ∙ (ap (λ t. head ++ t) (append_assoc n (codes "]") (codes "\n" ++ more))
    ∙ ap (λ t. head ++ (n ++ (codes "]\n    a[0] = " ++ t))) (append_assoc n (codes "\n") last)))))

by_kind : (first second third : Bool) (c : ℕ)
    → body_text (if first then tree.choice c else (if second then tree.mean c else (if third then tree.count_up c else tree.measure c)))
    ≡ (if first then bodies.choice c else (if second then bodies.mean c else (if third then bodies.count_up c else bodies.measure c)))
by_kind true second third c = choice_text c
by_kind false true third c = mean_text c
by_kind false false true c = count_up_text c
by_kind false false false c = measure_text c

-- ---- functions

-- a function of one number, by what its parts are written as
abbrev function_of : List ℕ → ShownTy → List (List ℕ) → List (List ℕ) → List ShownStmt → List ℕ
function_of name int before after body =
    (codes "function " ++ (name ++ (codes "(" ++ (listed (typed int (codes "x") ∷ []) ++ codes ")"))))
    ++ (codes " -> " ++ ((codes "(" ++ (typed int (codes "r") ++ codes ")")) ++ ((clause_lines [] (codes "requires ") before ++ clause_lines [] (codes "ensures ") after) ++ block [] body)))

function_is : (name text : List ℕ) (ss : List Stmt) → body_text ss ≡ text → decl_text (tree.function name ss) ≡ source.function name text
function_is name text ss is =
    let thousand = word_of (codes "1000") in
    let pre = tree.up_to (codes "x") (tree.number 1000) in
    let post = tree.up_to (codes "r") (tree.number 1000) in
    let P = between (codes "x") thousand in
    let Q = between (codes "r") thousand in
    let pre_is : shown pre ≡ P = up_to (codes "x") 1000 ∙ ap (λ t. between (codes "x") (word_of t)) most_is in
    let post_is : shown post ≡ Q = up_to (codes "r") 1000 ∙ ap (λ t. between (codes "r") (word_of t)) most_is in
    let int = word (codes "int") in
    let begin : decl_text (tree.function name ss) ≡ function_of name (shown_ty tree.int) ((shown pre).text ∷ []) ((shown post).text ∷ []) (shown_stmts ss) = refl in
    let end : function_of name int (P.text ∷ []) (Q.text ∷ []) (shown_stmts ss) ≡ source.function name (body_text ss) = simp (append_assoc, append-nil) in
    begin
    ∙ (ap (λ z. function_of name z ((shown pre).text ∷ []) ((shown post).text ∷ []) (shown_stmts ss)) node.int
    ∙ (ap (λ (z : Shown). function_of name int (z.text ∷ []) ((shown post).text ∷ []) (shown_stmts ss)) pre_is
    ∙ (ap (λ (z : Shown). function_of name int (P.text ∷ []) (z.text ∷ []) (shown_stmts ss)) post_is
    ∙ (end ∙ ap (source.function name) is))))

numbered_is : (n state : ℕ) → decl_text (tree.numbered n state) ≡ source.numbered n state
numbered_is n state =
    let k = template state in
    function_is (tree.name_of n) (bodies.body k (constant state)) (tree.body k (constant state)) (by_kind (k == 0) (k == 1) (k == 2) (constant state))

lines_behind : (a b : List Stmt) → body_text (a ++ b) ≡ body_text a ++ body_text b
lines_behind [] b = refl
lines_behind (s ∷ a) b =
    ap (λ t. codes "    " ++ ((shown_stmt s).text (codes "    ") ++ t)) (lines_behind a b)
    ∙ ap (λ t. codes "    " ++ t) (sym (append_assoc ((shown_stmt s).text (codes "    ")) (body_text a) (body_text b)))

call_is : (n : ℕ) → body_text (tree.call n ∷ []) ≡ source.call n
call_is n =
    let y = codes "y" in
    let value = tree.made (kind.Call (tree.name_of n) (tree.variable y ∷ [])) in
    let V = word_of (called (tree.name_of n) (y ∷ [])) in
    ap (λ z. written (z ∷ [])) (node.assigns y [] value [] V refl (node.call (tree.name_of n) (tree.variable y) (word_of y) (node.variable y)))
    ∙ (ap (λ t. codes "    y = f" ++ t) (append-nil ((decimal n ++ codes "(y)") ++ codes "\n")) ∙ ap (λ t. codes "    y = f" ++ t) (append_assoc (decimal n) (codes "(y)") (codes "\n")))

calls_are : (n : ℕ) → body_text (tree.calls n) ≡ source.calls n
calls_are zero = refl
calls_are (suc n) =
    lines_behind (tree.calls n) (tree.call n ∷ [])
    ∙ (ap (λ t. t ++ body_text (tree.call n ∷ [])) (calls_are n) ∙ ap (λ t. source.calls n ++ t) (call_is n))

main_is : (count : ℕ) → decl_text (tree.main_function count) ≡ source.main_function count
main_is count =
    let y = codes "y" in
    let first = tree.declares tree.int y (tree.variable (codes "x")) in
    let rest = tree.returns (tree.variable y) ∷ [] in
    let first_is : shown_stmt first ≡ one_line (codes "int y = x") = node.declares tree.int y (tree.variable (codes "x")) (word (codes "int")) (word_of (codes "x")) node.int (node.variable (codes "x")) in
    let last : body_text rest ≡ codes "    return y\n" = ap (λ z. written (z ∷ [])) (node.returns (tree.variable y) (word_of y) (node.variable y)) in
    let behind : body_text (tree.calls count ++ rest) ≡ source.calls count ++ codes "    return y\n" =
    lines_behind (tree.calls count) rest ∙ (ap (λ t. t ++ body_text rest) (calls_are count) ∙ ap (λ t. source.calls count ++ t) last)
    in
    let all : body_text (first ∷ (tree.calls count ++ rest)) ≡ source.main_body count =
    ap (λ (z : ShownStmt). codes "    " ++ (z.text (codes "    ") ++ body_text (tree.calls count ++ rest))) first_is
    ∙ ap (λ t. codes "    int y = x\n" ++ t) behind
    in
    function_is source.entry (source.main_body count) (first ∷ (tree.calls count ++ rest)) all

-- ---- programs

-- declarations with a blank line behind each
each : List Decl → List ℕ
each [] = []
each (d ∷ ds) = decl_text d ++ (codes "\n" ++ each ds)

each_behind : (a b : List Decl) → each (a ++ b) ≡ each a ++ each b
unfolding each
each_behind [] b = refl
each_behind (d ∷ a) b = ap (λ t. decl_text d ++ (codes "\n" ++ t)) (each_behind a b) ∙ sym (append_assoc (decl_text d) (codes "\n" ++ each a) (each b))

more_are : (ds : List Decl) (m : Decl) → more_decls (ds ++ m ∷ []) ≡ codes "\n" ++ decl_lines (ds ++ m ∷ [])
more_are [] m = refl
more_are (d ∷ ds) m = refl

before_last : (ds : List Decl) (m : Decl) → decl_lines (ds ++ m ∷ []) ≡ each ds ++ decl_text m
unfolding each
before_last [] m = append-nil (decl_text m)
before_last (d ∷ ds) m =
    ap (λ t. decl_text d ++ t) (more_are ds m ∙ ap (λ t. codes "\n" ++ t) (before_last ds m)) ∙ sym (append_assoc (decl_text d) (codes "\n" ++ each ds) (decl_text m))

one_behind : (ds : List Decl) (d : Decl) (before text : List ℕ) → each ds ≡ before → decl_text d ≡ text → each (ds ++ d ∷ []) ≡ (before ++ text) ++ codes "\n"
unfolding each
one_behind ds d before text first second =
    each_behind ds (d ∷ [])
    ∙ (ap (λ t. t ++ (decl_text d ++ codes "\n")) first
    ∙ (ap (λ t. before ++ (t ++ codes "\n")) second ∙ sym (append_assoc before text (codes "\n"))))

functions_are : (n seed : ℕ) → each (tree.functions n seed) ≡ source.functions n seed
unfolding each
functions_are zero seed = refl
functions_are (suc n) seed =
    let state = state_after (suc n) seed in
    one_behind (tree.functions n seed) (tree.numbered n state) (source.functions n seed) (source.numbered n state) (functions_are n seed) (numbered_is n state)

pub printed : tree.IsPrinted
printed count seed =
    sym (
    before_last (tree.functions count seed) (tree.main_function count)
    ∙ (ap (λ t. t ++ decl_text (tree.main_function count)) (functions_are count seed) ∙ ap (λ t. source.functions count seed ++ t) (main_is count)))
