-- What expressions are written as, by their kinds.
use Rattle.std.proofs.Common.{◌≡◌, ◌∙◌, ℕ, Bool, List, ◌++◌, ap, sym, rules, codes}
use Rattle.wy_ast.specs.declared.expressions.Expr.{Expr, the_lemmas}
use Rattle.wy_ast.specs.declared.expressions.ExprKind as kind
use Rattle.wy_ast.specs.declared.expressions.Op.{Op}
use Rattle.wy_print.specs.Levels.{needs_left, needs_right}
use Rattle.wy_print.specs.declared.levels.TheConstants.{UNARY}
use Rattle.wy_print.specs.Pieces.{listed, quantifier_word}
use Rattle.wy_print.specs.ExprText.{shown, expr_text, expr_texts, bracketed, left_part, right_part, spaced, part, shown_fields, shown_ranges}

binary_text_of : (e a b : Expr) (o : Op) → e.kind ≡ kind.Binary o a b
    → expr_text e ≡ (left_part o (shown a)).text ++ (spaced o ++ (right_part o (shown b)).text)
binary_text_of e a b o is = search (rules, the_lemmas)

-- in brackets where these are needed
pub binary_text : (e a b : Expr) (o : Op) (x y : Bool) → e.kind ≡ kind.Binary o a b → x ≡ needs_left o (shown a).level → y ≡ needs_right o (shown b).level
    → expr_text e ≡ (bracketed x (shown a)).text ++ (spaced o ++ (bracketed y (shown b)).text)
binary_text e a b o x y is f g =
    binary_text_of e a b o is
    ∙ (ap (λ n. (bracketed n (shown a)).text ++ (spaced o ++ (right_part o (shown b)).text)) (sym f)
    ∙ ap (λ n. (bracketed x (shown a)).text ++ (spaced o ++ (bracketed n (shown b)).text)) (sym g))

pub call_text : (e : Expr) (name : List ℕ) (args : List Expr) → e.kind ≡ kind.Call name args
    → expr_text e ≡ name ++ (codes "(" ++ (listed (expr_texts args) ++ codes ")"))
call_text e name args is = search (rules, the_lemmas)

pub neg_text : (e a : Expr) → e.kind ≡ kind.Neg a → expr_text e ≡ codes "- " ++ (part UNARY (shown a)).text
neg_text e a is = search (rules, the_lemmas)

pub not_text : (e a : Expr) → e.kind ≡ kind.Not a → expr_text e ≡ codes "!" ++ (part UNARY (shown a)).text
not_text e a is = search (rules, the_lemmas)

pub record_text : (e : Expr) (fields : List (List ℕ × Expr)) → e.kind ≡ kind.Record fields
    → expr_text e ≡ codes "{" ++ (listed (shown_fields fields) ++ codes "}")
record_text e fields is = search (rules, the_lemmas)

quant_text_of : (e : Expr) (all : Bool) (ranges : List (List ℕ × Expr × Expr)) (body : Expr) → e.kind ≡ kind.Quant all ranges body
    → expr_text e ≡ quantifier_word all ++ (codes " { " ++ (listed (shown_ranges ranges) ++ (codes " | " ++ (expr_text body ++ codes " }"))))
quant_text_of e all ranges body is = search (rules, the_lemmas)

-- behind a word that is the quantifier's
pub quant_text : (e : Expr) (all : Bool) (word : List ℕ) (ranges : List (List ℕ × Expr × Expr)) (body : Expr) → e.kind ≡ kind.Quant all ranges body
    → word ≡ quantifier_word all
    → expr_text e ≡ word ++ (codes " { " ++ (listed (shown_ranges ranges) ++ (codes " | " ++ (expr_text body ++ codes " }"))))
quant_text e all word ranges body is w =
    quant_text_of e all ranges body is
    ∙ ap (λ l. l ++ (codes " { " ++ (listed (shown_ranges ranges) ++ (codes " | " ++ (expr_text body ++ codes " }"))))) (sym w)
