-- What the text of a type or of an expression is read as: the same, but for its places.
use Rattle.std.specs.Prelude.{◌≡◌, ℕ, true, List, [], ◌∷◌, ◌++◌, length}
use Rattle.wy_ast.specs.declared.types.Ty.{Ty}
use Rattle.wy_ast.specs.declared.expressions.Expr.{Expr}
use Rattle.wy_parse_front.specs.wy_lex.declared.token.Token.{Token}
use Rattle.wy_parse_front.specs.wy_lex.declared.token.TokenKind.TheVariants as k
use Rattle.wy_parse_front.specs.wy_lex.Layout.{token}
use Rattle.wy_parse_front.specs.wy_lex.Source.{Tokens}
use Rattle.wy_print.specs.TypeText.{ty_text}
use Rattle.wy_print.specs.ExprText.{expr_text}
use Rattle.wy_parse_front.specs.wy_parse_grammar.declared.measured.Measured.TheVariants.{Low}
use Rattle.wy_parse_front.specs.wy_parse_grammar.TypeGrammar.{Type_}
use Rattle.wy_parse_front.specs.wy_parse_grammar.ExprGrammar.{Expr_}
use Rattle.wy_print_laws.specs.round.Bare.{bare_ty, bare_expr}

-- a source that is this one line is cut into the tokens, and the ends of its line and of itself
abbrev pub IsLineOf : List ℕ → List Token → Type 0
IsLineOf text tokens = Tokens text (tokens ++ token k.LineEnd (length text) ∷ token k.End (length text) ∷ [])

-- where there are so many levels the grammar reads a type of the height that is this one but for its places, and has the same text
pub record ReadsType (levels : ℕ) (ty : Ty) (height : ℕ) (i j : List Token) : Type 0 where
  pub tree : Ty
  pub same : bare_ty tree ≡ bare_ty ty
  pub same_text : ty_text tree ≡ ty_text ty
  pub reads : (Type_ levels).reads i (Low tree height) j

-- the text of the type is cut into tokens that are read so, whatever follows them
pub record TypeAgain (levels : ℕ) (ty : Ty) (height : ℕ) : Type 0 where
  pub tokens : List Token
  pub cut : IsLineOf (ty_text ty) tokens
  pub again : (j : List Token) → ReadsType levels ty height (tokens ++ j) j

-- likewise for an expression
pub record ReadsExpr (levels : ℕ) (expr : Expr) (height : ℕ) (i j : List Token) : Type 0 where
  pub tree : Expr
  pub same : bare_expr tree ≡ bare_expr expr
  pub same_text : expr_text tree ≡ expr_text expr
  pub reads : (Expr_ true levels).reads i (Low tree height) j

pub record ExprAgain (levels : ℕ) (expr : Expr) (height : ℕ) : Type 0 where
  pub tokens : List Token
  pub cut : IsLineOf (expr_text expr) tokens
  pub again : (j : List Token) → ReadsExpr levels expr height (tokens ++ j) j
