-- Declarations are read exactly: a line for each rule.
use Rattle.std.proofs.Common.{ℕ, true≢false, List, [], ◌∷◌, ◌⊎◌, inl, inr, Option, Some, None, refl, sym}
use Rattle.std.specs.Bool.{⊤}
use Rattle.wy_reading.specs.Mode.{Mode}
use Rattle.wy_reading.specs.Rule.{Unless, Then}
use Rattle.wy_reading.specs.Reader.{unless, ◌>>=◌}
use Rattle.wy_reading.proofs.Exactness.{Exact, Passes, Lacks, Any, Sample}
use Rattle.wy_reading.proofs.Single.{nothing}
use Rattle.wy_reading.proofs.Sequence.{sequence}
use Rattle.wy_reading.proofs.Choice.{choice}
use Rattle.wy_reading.proofs.Repetition.{repetition, repetition_before}
use Rattle.wy_reading.proofs.Adapting.{adapt}
use Rattle.wy_reading.proofs.Bars.{unless-exact}
use Rattle.wy_ast.specs.declared.types.TyKind.TheVariants as ty
use Rattle.wy_lex.specs.declared.token.Token.{Token}
use Rattle.wy_lex.specs.declared.token.TokenKind.TheVariants as k
use Rattle.wy_parse_grammar.specs.declared.measured.Measured.TheVariants.{Low}
use Rattle.wy_parse_grammar.specs.declared.sort.Class.TheVariants as class
use Rattle.wy_parse_grammar.specs.Sorts as t
use Rattle.wy_parse_grammar.specs.Sorts.{is, has, members}
use Rattle.wy_parse_grammar.specs.Steps.{R, Q, inside}
use Rattle.wy_parse_grammar.specs.Trees as parts
use Rattle.wy_parse_grammar.specs.TypeGrammar.{Type_}
use Rattle.wy_parse_grammar.specs.TypeReading.{type_term}
use Rattle.wy_parse.specs.StmtTrees.{Stmts}
use Rattle.wy_parse.specs.StmtGrammar as stmts
use Rattle.wy_parse.specs.StmtReading as reads
use Rattle.wy_parse.specs.DeclTrees as trees
use Rattle.wy_parse.specs.DeclTrees.{Params, Clauses, Contract, D}
use Rattle.wy_parse.specs.ProgramGrammar as rule
use Rattle.wy_parse.specs.ProgramReading as read
use Rattle.wy_parse_grammar.proofs.TokenLemmas.{among_these, some, at, at_other, no, one_out, fewer, apart, member, wider, choice_of}
use Rattle.wy_parse_grammar.proofs.StepsExact.{mark-exact, name-exact}
use Rattle.wy_parse_grammar.proofs.InsideExact.{inside-exact}
use Rattle.wy_parse_grammar.proofs.TypesExact.{type-exact, type_rest-exact, type-null, joins_type, AfterType, BeginsType, null}
use Rattle.wy_parse_grammar.proofs.OperatorsExact.{after_expr, After}
use Rattle.wy_parse_grammar.proofs.ExprLevels.{expr-exact}
use Rattle.wy_parse.proofs.StmtsExact.{where_clause-exact, wheres-exact}
use Rattle.wy_parse.proofs.BlocksExact.{BeginsBlock, after_clauses}

abbrev contract_begins : List ℕ
contract_begins = t.COLON ∷ t.REQUIRES ∷ t.ENSURES ∷ []

abbrev after_result : List ℕ
after_result = t.ARROW ∷ joins_type

module _ (n : Mode) where
  -- a type, and none in a bracket
  type-sample : Sample n (λ m. type_term m.depth) (λ a. AfterType) BeginsType (λ a. ⊤)
  type-sample = record {
    text = null ∷ [];
    made = parts.ty_node 0 (Low ty.Null 0);
    wanted = tt;
    deep = 1;
    alive = λ m le deep z f. type-null m.depth z deep f;
    starts = λ z f. refl;
  }

  bare-exact : Exact n (Unless (is t.OPEN_PAREN) (Type_ n.depth)) (λ m. unless (is t.OPEN_PAREN) (type_term m.depth)) AfterType (λ i. BeginsType i × Lacks (is t.OPEN_PAREN) i)
  unfolding type-sample
  bare-exact =
      unless-exact n (is t.OPEN_PAREN) (Type_ n.depth) (λ m. type_term m.depth) (λ a. AfterType) BeginsType (λ a. ⊤) (type-exact n) type-sample
      (λ z f. refl) (λ a. refl) (λ h. absurd (true≢false (sym h)))

  -- a type one level deeper
  inner-exact : Exact n (Type_ (inside n.depth)) (λ m. type_term (inside m.depth)) AfterType BeginsType
  inner-exact = inside-exact (λ s d. Type_ d) (λ s d. type_term d) AfterType BeginsType (λ d s. type-exact (record { depth = d; strict = s })) n.depth n.strict

  inner_type-exact : Exact n (rule.InnerType n.depth) (λ m. read.inner_type m.depth) AfterType BeginsType
  unfolding read.inner_type
  inner_type-exact =
      sequence inner-exact
      (λ ty. choice (is t.NAME)
      (sequence (name-exact {F = Any}) (λ w. sequence (mark-exact {F = Any} t.CLOSE_PAREN (some k.CloseParen) refl) (λ r. nothing (ty, Some w.1)) (λ i b. tt)) (λ i b. tt))
      (sequence (mark-exact {F = Any} t.CLOSE_PAREN (some k.CloseParen) refl) (λ r. sequence (type_rest-exact n ty) (λ whole. nothing (whole, None)) (λ i f. f)) (λ i b. tt))
      (λ i h. h) (λ i h. at_other t.NAME t.CLOSE_PAREN i refl h))
      (λ i b. elim b [ inl h ↦ at t.NAME joins_type i h | inr h ↦ at t.CLOSE_PAREN joins_type i h ])

  named_type-exact : Exact n (rule.NamedType n.depth) (λ m. read.named_type m.depth) AfterType BeginsType
  unfolding read.named_type rule.NamedType
  named_type-exact =
      adapt (choice (is t.OPEN_PAREN)
      (sequence (mark-exact {F = Any} t.OPEN_PAREN (some k.OpenParen) refl) (λ r. inner_type-exact) (λ i b. tt))
      (sequence bare-exact (λ ty. nothing (ty, None)) (λ i f. f))
      (λ i h. h) (λ i b. b.1))
      (λ i f. f) (λ i b. elim b [ inl h ↦ at t.OPEN_PAREN (members class.Type) i h | inr h ↦ h.0 ]) (λ a p. tt)

  method_result-exact : Exact n (rule.MethodResult n.depth) (λ m. read.method_result m.depth) (After after_result) (λ i. Passes (is t.ARROW) i ⊎ After after_result i)
  unfolding read.method_result rule.MethodResult
  method_result-exact =
      choice (is t.ARROW)
      (sequence (mark-exact {F = Any} t.ARROW (some k.Arrow) refl)
      (λ r. adapt {F' = After after_result} {B' = Any} (choice (is t.OPEN_PAREN)
      (sequence (mark-exact {F = Any} t.OPEN_PAREN (some k.OpenParen) refl)
      (λ r. choice (is t.CLOSE_PAREN)
      (sequence (mark-exact {F = Any} t.CLOSE_PAREN (some k.CloseParen) refl) (λ r. nothing (Low None 0)) (λ i b. tt))
      (sequence inner_type-exact (λ p. nothing (parts.some (trees.given p.0 p.1))) (λ i f. f))
      (λ i h. h) (λ i h. no t.CLOSE_PAREN (members class.Type) i refl h))
      (λ i b. tt))
      (sequence bare-exact (λ ty. nothing (parts.some (trees.given ty None))) (λ i f. f))
      (λ i h. h) (λ i b. b.1))
      (λ i f. fewer joins_type after_result i refl f) (λ i b. tt) (λ a p. tt))
      (λ i b. tt))
      (nothing (Low None 0)) (λ i h. h) (λ i f. one_out t.ARROW after_result i refl f)

  -- ---- parameters

  one_param-exact : (ps : Params) → Exact n (rule.OneParam n.depth ps) (λ m. read.one_param m.depth ps) Any BeginsType
  unfolding read.one_param
  one_param-exact ps =
      sequence inner-exact (λ ty. sequence (name-exact {F = Any}) (λ w. nothing (parts.pushed ps (trees.param ty w.1))) (λ i b. tt)) (λ i h. at t.NAME joins_type i h)

  next_param-exact : (ps : Params) → Exact n (rule.NextParam n.depth ps) (λ m. read.next_param m.depth ps) Any (Passes (is t.COMMA))
  next_param-exact ps = sequence (mark-exact {F = Any} t.COMMA (some k.Comma) refl) (λ r. one_param-exact ps) (λ i b. tt)

  abbrev AfterParams : List Token → Type 0
  AfterParams i = Lacks (is t.COMMA) i × Lacks (has class.Type) i

  param_row-exact : Exact n (rule.ParamRow n.depth) (λ m. read.param_row m.depth) AfterParams (λ i. BeginsType i ⊎ AfterParams i)
  unfolding read.param_row
  param_row-exact =
      choice (has class.Type)
      (sequence (one_param-exact parts.none) (λ ps. repetition (is t.COMMA) next_param-exact (λ i h. h) (λ i f. f.0) (λ i f. tt) (λ i h. tt) (refl, refl) ps) (λ i b. tt))
      (nothing parts.none) (λ i h. h) (λ i f. f.1)

  parameters-exact : Exact n (rule.Parameters n.depth) (λ m. read.parameters m.depth) Any (Passes (is t.OPEN_PAREN))
  unfolding read.parameters rule.Parameters
  parameters-exact =
      sequence (mark-exact {F = Any} t.OPEN_PAREN (some k.OpenParen) refl)
      (λ r. sequence param_row-exact
      (λ ps. sequence (mark-exact {F = Any} t.CLOSE_PAREN (some k.CloseParen) refl) (λ r. nothing ps) (λ i b. tt))
      (λ i h. (at_other t.COMMA t.CLOSE_PAREN i refl h, at t.CLOSE_PAREN (members class.Type) i h)))
      (λ i b. tt)

  -- ---- clauses

  abbrev BeginsClauses : List Token → Type 0
  BeginsClauses i = After after_clauses i ⊎ Passes (is t.WHERE) i

  behind : (i : List Token) → BeginsClauses i → After after_expr i
  behind i (inl f) = fewer after_expr after_clauses i refl f
  behind i (inr h) = at t.WHERE after_expr i h

  behind_type : (i : List Token) → BeginsClauses i → AfterType i
  behind_type i (inl f) = fewer joins_type after_clauses i refl f
  behind_type i (inr h) = at t.WHERE joins_type i h

  -- one clause and more
  clauses-exact : Exact n (Then (stmts.Where n.strict n.depth parts.none) (λ es. stmts.Wheres n.strict n.depth es))
      (λ m. reads.where_clause m.strict m.depth parts.none >>= (λ es. reads.wheres m.strict m.depth es)) (After after_clauses) (Passes (is t.WHERE))
  clauses-exact = sequence (where_clause-exact n parts.none) (λ es. wheres-exact n es) behind

  alias_clauses-exact : (variable : Option (List ℕ)) → Exact n (rule.AliasClauses n.strict n.depth variable) (λ m. read.alias_clauses m.strict m.depth variable) (After after_clauses) BeginsClauses
  unfolding read.alias_clauses
  alias_clauses-exact None = adapt (nothing parts.none) (λ i f. f) (λ i b. inl b) (λ a p. tt)
  alias_clauses-exact (Some variable) = adapt clauses-exact (λ i f. f) (λ i b. inr b) (λ a p. tt)

  alias_decl-exact : Exact n (rule.AliasDecl n.strict n.depth) (λ m. read.alias_decl m.strict m.depth) Any (Passes (is t.TYPE))
  unfolding read.alias_decl read.alias_rest rule.AliasDecl
  alias_decl-exact =
      sequence (mark-exact {F = Any} t.TYPE (some k.TypeWord) refl)
      (λ place. sequence (name-exact {F = Any})
      (λ w. sequence (mark-exact {F = Any} t.IS (some k.Is) refl)
      (λ r. sequence named_type-exact
      (λ p. sequence (alias_clauses-exact p.1)
      (λ es. sequence (mark-exact {F = Any} t.LINE_END (some k.LineEnd) refl) (λ r. nothing (trees.alias_node place w.1 p.0 p.1 es)) (λ i b. tt))
      (λ i h. at t.LINE_END after_clauses i h))
      behind_type)
      (λ i b. tt))
      (λ i b. tt))
      (λ i b. tt)

  property_decl-exact : Exact n (rule.PropertyDecl n.strict n.depth) (λ m. read.property_decl m.strict m.depth) Any (Passes (is t.PROPERTY))
  unfolding read.property_decl read.property_rest rule.PropertyDecl
  property_decl-exact =
      sequence (mark-exact {F = Any} t.PROPERTY (some k.Property) refl)
      (λ place. sequence (name-exact {F = Any})
      (λ w. sequence parameters-exact
      (λ ps. sequence (where_clause-exact n parts.none)
      (λ es. sequence (wheres-exact n es)
      (λ all. sequence (mark-exact {F = Any} t.LINE_END (some k.LineEnd) refl) (λ r. nothing (trees.property_node place w.1 ps all)) (λ i b. tt))
      (λ i h. at t.LINE_END after_clauses i h))
      behind)
      (λ i b. tt))
      (λ i b. tt))
      (λ i b. tt)

  clause-exact : (c : Contract) → Exact n (rule.Clause n.strict n.depth c) (λ m. read.clause m.strict m.depth c) (After after_expr) (Passes (has class.Clause))
  unfolding read.clause
  clause-exact c =
      adapt (choice (is t.REQUIRES)
      (sequence (mark-exact {F = Any} t.REQUIRES (some k.Requires) refl) (λ r. sequence (expr-exact n) (λ a. nothing (parts.pushed c.0 a, c.1)) (λ i f. f)) (λ i b. tt))
      (sequence (mark-exact {F = Any} t.ENSURES (some k.Ensures) refl) (λ r. sequence (expr-exact n) (λ a. nothing (c.0, parts.pushed c.1 a)) (λ i f. f)) (λ i b. tt))
      (λ i h. h) (λ i h. at_other t.REQUIRES t.ENSURES i refl h))
      (λ i f. f) (λ i b. elim b [ inl h ↦ member t.REQUIRES (members class.Clause) i refl h | inr h ↦ member t.ENSURES (members class.Clause) i refl h ]) (λ a p. tt)

  -- behind a result stand clauses, or the colon
  contract-exact : Exact n (rule.ContractOf n.strict n.depth) (λ m. read.contract_of m.strict m.depth) (Passes (is t.COLON)) (Passes (among_these contract_begins))
  unfolding read.contract_of rule.ContractOf
  contract-exact =
      adapt (repetition_before (has class.Clause) clause-exact (λ i h. h) (λ i f. at t.COLON (members class.Clause) i f) (λ i f. at t.COLON after_expr i f)
      (λ i h. apart (members class.Clause) after_expr i refl h) (some k.Colon ∷ []) refl (parts.none, parts.none))
      (λ i f. f) (λ i b. elim b [ inl h ↦ member t.COLON contract_begins i refl h | inr h ↦ wider (members class.Clause) contract_begins i refl h ])
      (λ a p. tt)

  -- ---- over the block of the level inside

  module _ (B : R Stmts) (b : Mode → Q Stmts) (block_is : Exact n B b Any BeginsBlock) where
    function_decl-exact : Exact n (rule.FunctionDecl n.strict n.depth B) (λ m. read.function_decl m.strict m.depth (b m)) Any (Passes (is t.FUNCTION))
    unfolding read.function_decl read.function_rest read.function_body rule.FunctionDecl
    function_decl-exact =
        sequence (mark-exact {F = Any} t.FUNCTION (some k.Function) refl)
        (λ place. sequence (name-exact {F = Any})
        (λ w. sequence parameters-exact
        (λ ps. sequence (mark-exact {F = Any} t.ARROW (some k.Arrow) refl)
        (λ r. sequence named_type-exact
        (λ p. sequence contract-exact
        (λ c. sequence (mark-exact {F = Any} t.COLON (some k.Colon) refl)
        (λ r. sequence block_is (λ body. nothing (trees.function_node place w.1 ps (trees.given p.0 p.1) c body)) (λ i f. tt)) (λ i b. tt))
        (λ i h. h))
        (λ i h. apart contract_begins joins_type i refl h))
        (λ i b. tt))
        (λ i b. tt))
        (λ i b. tt))
        (λ i b. tt)

    method_decl-exact : Exact n (rule.MethodDecl n.strict n.depth B) (λ m. read.method_decl m.strict m.depth (b m)) Any (Passes (is t.METHOD))
    unfolding read.method_decl read.method_rest read.method_body rule.MethodDecl
    method_decl-exact =
        sequence (mark-exact {F = Any} t.METHOD (some k.Method) refl)
        (λ place. sequence (name-exact {F = Any})
        (λ w. sequence parameters-exact
        (λ ps. sequence method_result-exact
        (λ p. sequence contract-exact
        (λ c. sequence (mark-exact {F = Any} t.COLON (some k.Colon) refl)
        (λ r. sequence block_is (λ body. nothing (trees.method_node place w.1 ps p c body)) (λ i f. tt)) (λ i b. tt))
        (λ i h. h))
        (λ i h. apart contract_begins after_result i refl h))
        (λ i b. tt))
        (λ i b. tt))
        (λ i b. tt)

    pub declaration-exact : Exact n (rule.Declaration n.strict n.depth B) (λ m. read.declaration m.strict m.depth (b m)) Any (Passes (has class.Declaration))
    unfolding read.declaration rule.Declaration
    declaration-exact =
        choice_of t.TYPE (t.FUNCTION ∷ t.METHOD ∷ t.PROPERTY ∷ []) (members class.Declaration) alias_decl-exact
        (choice_of t.FUNCTION (t.METHOD ∷ t.PROPERTY ∷ []) (t.FUNCTION ∷ t.METHOD ∷ t.PROPERTY ∷ []) function_decl-exact
        (choice_of t.METHOD (t.PROPERTY ∷ []) (t.METHOD ∷ t.PROPERTY ∷ []) method_decl-exact
        (adapt property_decl-exact (λ i f. f) (λ i h. member t.PROPERTY (t.PROPERTY ∷ []) i refl h) (λ a p. tt))
        refl refl refl) refl refl refl) refl refl refl
