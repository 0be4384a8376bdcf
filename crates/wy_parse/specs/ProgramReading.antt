-- How declarations and programs are read: the grammar's shapes as steps, with each choice made by the next token.
use Rattle.std.specs.Prelude.{ℕ, ◌+◌, Bool, true, false, List, [], ◌∷◌, ◌++◌, Option, Some, None}
use Rattle.wy_reading.specs.Mode.{Mode}
use Rattle.wy_reading.specs.Rule.{lax}
use Rattle.wy_reading.specs.Reader.{◌>>=◌, pure, branch, while, refused, unless, whole}
use Rattle.wy_ast.specs.declared.types.Ty.{Ty}
use Rattle.wy_ast.specs.declared.declarations.Program.{Program}
use Rattle.wy_parse_grammar.specs.declared.fault.Kind.TheVariants.{TooMany}
use Rattle.wy_parse_grammar.specs.declared.measured.Measured.{Measured}
use Rattle.wy_parse_grammar.specs.declared.measured.Measured.TheVariants.{Low}
use Rattle.wy_parse_grammar.specs.declared.sort.Class.TheVariants as class
use Rattle.wy_parse_grammar.specs.Sorts as t
use Rattle.wy_parse_grammar.specs.Sorts.{has, is}
use Rattle.wy_parse_grammar.specs.Steps.{Q, mark, name, inside}
use Rattle.wy_parse_grammar.specs.Trees.{pushed, none, some}
use Rattle.wy_parse_grammar.specs.TypeReading.{type_term, type_rest}
use Rattle.wy_parse_grammar.specs.ExprReading.{readers}
use Rattle.wy_parse.specs.StmtTrees.{Stmts}
use Rattle.wy_parse.specs.StmtReading.{where_clause, wheres}
use Rattle.wy_parse.specs.BlockReading.{nested}
use Rattle.wy_parse.specs.DeclTrees.{Params, Clauses, Contract, D, param, given, alias_node, function_node, method_node, property_node, program_node}
use Rattle.wy_parse.specs.ProgramGrammar.{Typed, Counted, has_place}

module _ (levels : ℕ) where
  unfoldable pub inner_type : Q Typed
  inner_type =
      type_term (inside levels) >>= (λ ty.
      branch (is t.NAME) (name >>= (λ w. mark t.CLOSE_PAREN >>= (λ _. pure (ty, Some w.1))))
      (mark t.CLOSE_PAREN >>= (λ _. type_rest levels ty >>= (λ whole. pure (whole, None)))))

  unfoldable pub named_type : Q Typed
  named_type =
      branch (is t.OPEN_PAREN) (mark t.OPEN_PAREN >>= (λ _. inner_type))
      (unless (is t.OPEN_PAREN) (type_term levels) >>= (λ ty. pure (ty, None)))

  unfoldable pub method_result : Q (Measured (Option (Ty × Option (List ℕ))))
  method_result =
      branch (is t.ARROW) (mark t.ARROW >>= (λ _.
      branch (is t.OPEN_PAREN) (mark t.OPEN_PAREN >>= (λ _.
      branch (is t.CLOSE_PAREN) (mark t.CLOSE_PAREN >>= (λ _. pure (Low None 0)))
      (inner_type >>= (λ p. pure (some (given p.0 p.1))))))
      (unless (is t.OPEN_PAREN) (type_term levels) >>= (λ ty. pure (some (given ty None))))))
      (pure (Low None 0))

  unfoldable pub one_param : Params → Q Params
  one_param ps = type_term (inside levels) >>= (λ ty. name >>= (λ w. pure (pushed ps (param ty w.1))))

  abbrev pub next_param : Params → Q Params
  next_param ps = mark t.COMMA >>= (λ _. one_param ps)

  unfoldable pub param_row : Q Params
  param_row = branch (has class.Type) (one_param none >>= (λ ps. while (is t.COMMA) next_param ps)) (pure none)

  unfoldable pub parameters : Q Params
  parameters = mark t.OPEN_PAREN >>= (λ _. param_row >>= (λ ps. mark t.CLOSE_PAREN >>= (λ _. pure ps)))

module _ (s : Bool) (levels : ℕ) where
  unfoldable pub alias_clauses : Option (List ℕ) → Q Clauses
  alias_clauses None = pure none
  alias_clauses (Some variable) = where_clause s levels none >>= (λ es. wheres s levels es)

  unfoldable pub alias_rest : ℕ → List ℕ → Q D
  alias_rest at name =
      named_type levels >>= (λ p. alias_clauses p.1 >>= (λ es. mark t.LINE_END >>= (λ _. pure (alias_node at name p.0 p.1 es))))

  unfoldable pub alias_decl : Q D
  alias_decl = mark t.TYPE >>= (λ at. name >>= (λ w. mark t.IS >>= (λ _. alias_rest at w.1)))

  unfoldable pub property_rest : ℕ → List ℕ → Params → Q D
  property_rest at name ps =
      where_clause s levels none >>= (λ es. wheres s levels es >>= (λ all. mark t.LINE_END >>= (λ _. pure (property_node at name ps all))))

  unfoldable pub property_decl : Q D
  property_decl = mark t.PROPERTY >>= (λ at. name >>= (λ w. parameters levels >>= (λ ps. property_rest at w.1 ps)))

  unfoldable pub clause : Contract → Q Contract
  clause c =
      branch (is t.REQUIRES) (mark t.REQUIRES >>= (λ _. (readers s levels).expr >>= (λ a. pure (pushed c.0 a, c.1))))
      (mark t.ENSURES >>= (λ _. (readers s levels).expr >>= (λ a. pure (c.0, pushed c.1 a))))

  unfoldable pub contract_of : Q Contract
  contract_of = while (has class.Clause) clause (none, none)

  module _ (block : Q Stmts) where
    unfoldable pub function_body : ℕ → List ℕ → Params → Measured (Ty × Option (List ℕ)) → Q D
    function_body at name ps r =
        contract_of >>= (λ c. mark t.COLON >>= (λ _. block >>= (λ body. pure (function_node at name ps r c body))))

    unfoldable pub function_rest : ℕ → List ℕ → Params → Q D
    function_rest at name ps = mark t.ARROW >>= (λ _. named_type levels >>= (λ r. function_body at name ps (given r.0 r.1)))

    unfoldable pub function_decl : Q D
    function_decl = mark t.FUNCTION >>= (λ at. name >>= (λ w. parameters levels >>= (λ ps. function_rest at w.1 ps)))

    unfoldable pub method_body : ℕ → List ℕ → Params → Measured (Option (Ty × Option (List ℕ))) → Q D
    method_body at name ps r =
        contract_of >>= (λ c. mark t.COLON >>= (λ _. block >>= (λ body. pure (method_node at name ps r c body))))

    unfoldable pub method_rest : ℕ → List ℕ → Params → Q D
    method_rest at name ps = method_result levels >>= (λ r. method_body at name ps r)

    unfoldable pub method_decl : Q D
    method_decl = mark t.METHOD >>= (λ at. name >>= (λ w. parameters levels >>= (λ ps. method_rest at w.1 ps)))

    unfoldable pub declaration : Q D
    declaration = branch (is t.TYPE) alias_decl (branch (is t.FUNCTION) function_decl (branch (is t.METHOD) method_decl property_decl))

abbrev pub capped : Bool → Q D → Q D
capped true q = q
capped false q = refused (has class.Declaration) TooMany

abbrev pub next_decl : Bool → Q D → Counted → Q Counted
next_decl s q c = capped (lax s has_place c.1) q >>= (λ d. pure (pushed c.0 d, c.1 + 1))

abbrev pub import : List (List ℕ × ℕ) → Q (List (List ℕ × ℕ))
import ms = mark t.IMPORT >>= (λ _. name >>= (λ w. mark t.LINE_END >>= (λ _. pure (ms ++ (w.1, w.0) ∷ []))))

unfoldable pub imports : Q (List (List ℕ × ℕ))
imports = while (is t.IMPORT) import []

unfoldable pub decls : Bool → ℕ → Q Counted
decls s levels = while (has class.Declaration) (next_decl s (declaration s levels (nested s (inside levels)).block)) (none, 0)

unfoldable pub program_in : Bool → ℕ → Q (Measured Program)
program_in s levels = imports >>= (λ ms. decls s levels >>= (λ c. mark t.END >>= (λ _. pure (program_node ms c.0))))

unfoldable pub text : Mode → Q (Measured Program)
text m = whole (program_in m.strict m.depth)
