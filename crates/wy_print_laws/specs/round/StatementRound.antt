-- What the text of a statement is read as: the same, but for its places.
use Rattle.std.specs.Prelude.{◌≡◌, ℕ, suc, true, List, [], ◌∷◌}
use Rattle.wy_ast.specs.declared.statements.Stmt.{Stmt}
use Rattle.wy_parse_front.specs.wy_lex.declared.token.Token.{Token}
use Rattle.wy_parse_front.specs.wy_lex.declared.token.TokenKind.TheVariants as k
use Rattle.wy_parse_front.specs.wy_lex.Layout.{token}
use Rattle.wy_parse_front.specs.wy_lex.Source.{Tokens}
use Rattle.wy_print.specs.StmtText.{stmt_text}
use Rattle.wy_parse_front.specs.wy_parse_grammar.declared.measured.Measured.TheVariants.{Low}
use Rattle.wy_parse_front.specs.wy_parse_grammar.Steps.{R}
use Rattle.wy_parse_front.specs.wy_parse_grammar.Trees.{none}
use Rattle.wy_parse_front.specs.wy_parse.StmtTrees.{S}
use Rattle.wy_parse_front.specs.wy_parse.BlockGrammar.{Statement, Default, Block, nest}
use Rattle.wy_print_laws.specs.round.BareStmt.{bare_stmt}

-- a statement where there are so many levels inside, and where so many blocks of defaults without cases may stand in one another
abbrev pub StatementOn : ℕ → ℕ → R S
StatementOn inner_levels w = Statement true (suc inner_levels) (nest true inner_levels) (Default (Block true (suc inner_levels) (nest true inner_levels) w) none)

-- a source that is the text of the statement is cut into tokens that the rule reads as this statement but for its places, up to the end; and its text is the same behind every margin
pub record StatementAgain (rule : R S) (s : Stmt) : Type 0 where
  pub tokens : List Token
  pub cut : Tokens (stmt_text [] s) tokens
  pub tree : Stmt
  pub same : bare_stmt tree ≡ bare_stmt s
  pub same_text : (margin : List ℕ) → stmt_text margin tree ≡ stmt_text margin s
  pub end : ℕ
  pub reads : rule.reads tokens (Low tree 0) (token k.End end ∷ [])
