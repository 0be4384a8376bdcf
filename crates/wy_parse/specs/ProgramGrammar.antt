-- The grammar of declarations and programs.
--   program = { import } { decl }     import = 'import' NAME LINE
--   decl    = 'type' NAME 'is' ( type | '(' type NAME ')' where { where } ) LINE
--           | 'function' NAME params '->' result { spec } ':' block
--           | 'method' NAME params [ '->' ( '(' ')' | result ) ] { spec } ':' block
--           | 'property' NAME params where { where } LINE
--   params  = '(' [ type NAME { ',' type NAME } ] ')'
--   result  = '(' type NAME ')' | type, the first where it fits
--   spec    = 'requires' expr | 'ensures' expr
-- The declaration that is one more than may be is refused where it begins.
use Rattle.std.specs.Prelude.{ℕ, ◌+◌, nat_lt, Bool, true, false, List, [], ◌∷◌, ◌++◌, Option, Some, None}
use Rattle.wy_reading.specs.Mode.{Mode}
use Rattle.wy_reading.specs.Rule.{Pure, Then, Loop, Or, Refused, Unless, Whole, lax}
use Rattle.wy_ast.specs.declared.types.Ty.{Ty}
use Rattle.wy_ast.specs.declared.declarations.Decl.{Decl}
use Rattle.wy_ast.specs.declared.declarations.Program.{Program}
use Rattle.wy_parse_grammar.specs.declared.fault.Kind.TheVariants.{TooMany}
use Rattle.wy_parse_grammar.specs.declared.measured.Measured.{Measured}
use Rattle.wy_parse_grammar.specs.declared.measured.Measured.TheVariants.{Low}
use Rattle.wy_parse_grammar.specs.declared.sort.Class.TheVariants as class
use Rattle.wy_parse_grammar.specs.Sorts as t
use Rattle.wy_parse_grammar.specs.Sorts.{has, is}
use Rattle.wy_parse_grammar.specs.Steps.{R, Mark, Name, inside}
use Rattle.wy_parse_grammar.specs.Trees.{pushed, none, some}
use Rattle.wy_parse_grammar.specs.TypeGrammar.{T, Type_, TypeRest}
use Rattle.wy_parse_grammar.specs.ExprGrammar.{Expr_}
use Rattle.wy_parse.specs.StmtTrees.{Stmts}
use Rattle.wy_parse.specs.StmtGrammar.{Where, Wheres}
use Rattle.wy_parse.specs.BlockGrammar.{nest}
use Rattle.wy_parse.specs.DeclTrees.{Params, Clauses, Contract, D, param, given, alias_node, function_node, method_node, property_node, program_node}

-- a type, and the name behind it where it has one
abbrev pub Typed : Type 0
Typed = T × Option (List ℕ)

module _ (levels : ℕ) where
  -- behind '('
  abbrev pub InnerType : R Typed
  InnerType =
      Then (Type_ (inside levels)) (λ ty.
      Or (Then Name (λ w. Then (Mark t.CLOSE_PAREN) (λ _. Pure (ty, Some w.1))))
      (Then (Mark t.CLOSE_PAREN) (λ _. Then (TypeRest levels ty) (λ whole. Pure (whole, None)))))

  -- what begins with a bracket begins with that of a named type, or of a part of the type
  unfoldable pub NamedType : R Typed
  NamedType =
      Or (Then (Mark t.OPEN_PAREN) (λ _. InnerType))
      (Then (Unless (is t.OPEN_PAREN) (Type_ levels)) (λ ty. Pure (ty, None)))

  unfoldable pub MethodResult : R (Measured (Option (Ty × Option (List ℕ))))
  MethodResult =
      Or (Then (Mark t.ARROW) (λ _.
      Or (Then (Mark t.OPEN_PAREN) (λ _.
      Or (Then (Mark t.CLOSE_PAREN) (λ _. Pure (Low None 0)))
      (Then InnerType (λ p. Pure (some (given p.0 p.1))))))
      (Then (Unless (is t.OPEN_PAREN) (Type_ levels)) (λ ty. Pure (some (given ty None))))))
      (Pure (Low None 0))

  abbrev pub OneParam : Params → R Params
  OneParam ps = Then (Type_ (inside levels)) (λ ty. Then Name (λ w. Pure (pushed ps (param ty w.1))))

  abbrev pub NextParam : Params → R Params
  NextParam ps = Then (Mark t.COMMA) (λ _. OneParam ps)

  abbrev pub ParamRow : R Params
  ParamRow = Or (Then (OneParam none) (λ ps. Loop NextParam ps)) (Pure none)

  unfoldable pub Parameters : R Params
  Parameters = Then (Mark t.OPEN_PAREN) (λ _. Then ParamRow (λ ps. Then (Mark t.CLOSE_PAREN) (λ _. Pure ps)))

module _ (s : Bool) (levels : ℕ) where
  -- a type with a variable has clauses, and one without has none
  abbrev pub AliasClauses : Option (List ℕ) → R Clauses
  AliasClauses None = Pure none
  AliasClauses (Some variable) = Then (Where s levels none) (λ es. Wheres s levels es)

  unfoldable pub AliasDecl : R D
  AliasDecl =
      Then (Mark t.TYPE) (λ at. Then Name (λ w. Then (Mark t.IS) (λ _. Then (NamedType levels) (λ p. Then (AliasClauses p.1) (λ es.
      Then (Mark t.LINE_END) (λ _. Pure (alias_node at w.1 p.0 p.1 es)))))))

  unfoldable pub PropertyDecl : R D
  PropertyDecl =
      Then (Mark t.PROPERTY) (λ at. Then Name (λ w. Then (Parameters levels) (λ ps. Then (Where s levels none) (λ es. Then (Wheres s levels es) (λ all.
      Then (Mark t.LINE_END) (λ _. Pure (property_node at w.1 ps all)))))))

  abbrev pub Clause : Contract → R Contract
  Clause c =
      Or (Then (Mark t.REQUIRES) (λ _. Then (Expr_ s levels) (λ a. Pure (pushed c.0 a, c.1))))
      (Then (Mark t.ENSURES) (λ _. Then (Expr_ s levels) (λ a. Pure (c.0, pushed c.1 a))))

  unfoldable pub ContractOf : R Contract
  ContractOf = Loop Clause (none, none)

  -- over the block of the level inside
  module _ (block : R Stmts) where
    unfoldable pub FunctionDecl : R D
    FunctionDecl =
        Then (Mark t.FUNCTION) (λ at. Then Name (λ w. Then (Parameters levels) (λ ps. Then (Mark t.ARROW) (λ _. Then (NamedType levels) (λ r.
        Then ContractOf (λ c. Then (Mark t.COLON) (λ _. Then block (λ body. Pure (function_node at w.1 ps (given r.0 r.1) c body)))))))))

    unfoldable pub MethodDecl : R D
    MethodDecl =
        Then (Mark t.METHOD) (λ at. Then Name (λ w. Then (Parameters levels) (λ ps. Then (MethodResult levels) (λ r.
        Then ContractOf (λ c. Then (Mark t.COLON) (λ _. Then block (λ body. Pure (method_node at w.1 ps r c body))))))))

    unfoldable pub Declaration : R D
    Declaration = Or AliasDecl (Or FunctionDecl (Or MethodDecl PropertyDecl))

-- how many declarations a program may have
abbrev pub most : ℕ
most = 4096

abbrev pub has_place : ℕ → Bool
has_place n = nat_lt n most

-- where there is no place for one more, it is refused
abbrev pub Capped : Bool → R D → R D
Capped true rule = rule
Capped false rule = Refused (has class.Declaration) TooMany

-- declarations, and how many they are
abbrev pub Counted : Type 0
Counted = Measured (List Decl) × ℕ

abbrev pub NextDecl : Bool → R D → Counted → R Counted
NextDecl s rule c = Then (Capped (lax s has_place c.1) rule) (λ d. Pure (pushed c.0 d, c.1 + 1))

abbrev pub Import : List (List ℕ × ℕ) → R (List (List ℕ × ℕ))
Import ms = Then (Mark t.IMPORT) (λ _. Then Name (λ w. Then (Mark t.LINE_END) (λ _. Pure (ms ++ (w.1, w.0) ∷ []))))

-- a program where there are so many levels
unfoldable pub ProgramIn : Bool → ℕ → R (Measured Program)
ProgramIn s levels =
    Then (Loop Import []) (λ ms. Then (Loop (NextDecl s (Declaration s levels (nest s (inside levels)).block)) (none, 0)) (λ c.
    Then (Mark t.END) (λ _. Pure (program_node ms c.0))))

abbrev pub Text : Mode → R (Measured Program)
Text m = Whole (ProgramIn m.strict m.depth)
