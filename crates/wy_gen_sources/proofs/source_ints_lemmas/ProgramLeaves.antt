-- The programs that are read: names of fields are names, numbers `int`s, codes of texts bytes.
use Rattle.std.proofs.Common.{◌∙◌, ℕ, ◌+◌, Bool, true, false, List, [], ◌∷◌, ◌++◌, map, Option, Some, None, sym, subst}
use Rattle.wy_lemmas.proofs.Equations.{Free}
use Rattle.wy_reading.specs.Rule.{Finish, Whole}
use Rattle.wy_ast.specs.SurfaceSeen.{seen_decl}
use Rattle.wy_ast.specs.declared.types.Ty.{Ty}
use Rattle.wy_ast.specs.declared.expressions.Expr.{Expr}
use Rattle.wy_ast.specs.declared.statements.Stmt.{Stmt}
use Rattle.wy_ast.specs.declared.declarations.Param.{Param}
use Rattle.wy_ast.specs.declared.declarations.Decl.{Decl}
use Rattle.wy_ast.specs.declared.declarations.Decl.TheVariants as decl
use Rattle.wy_ast.specs.declared.declarations.Program.{Program}
use Rattle.wy_print_laws.specs.wy_lex.declared.token.Token.{Token}
use Rattle.wy_print_laws.proofs.wy_lex_proofs.ListsMade.{proper}
use Rattle.wy_print_laws.specs.wy_parse_grammar.declared.measured.Measured.{Measured}
use Rattle.wy_print_laws.specs.wy_parse_grammar.declared.measured.Measured.TheVariants.{Low, High}
use Rattle.wy_print_laws.specs.wy_parse_grammar.declared.fault.Kind.TheVariants.{TooMany}
use Rattle.wy_print_laws.specs.wy_parse_grammar.declared.sort.Class.TheVariants as kinds
use Rattle.wy_print_laws.specs.wy_parse_grammar.Sorts as t
use Rattle.wy_print_laws.specs.wy_parse_grammar.Sorts.{has, is}
use Rattle.wy_print_laws.specs.wy_parse_grammar.Steps.{R, inside}
use Rattle.wy_print_laws.specs.wy_parse_grammar.Trees.{both, pushed, none, some}
use Rattle.wy_print_laws.specs.wy_parse_grammar.TypeGrammar.{T}
use Rattle.wy_print_laws.specs.wy_parse.StmtTrees.{Stmts}
use Rattle.wy_print_laws.specs.wy_parse.BlockGrammar.{nest}
use Rattle.wy_print_laws.specs.wy_parse.DeclTrees.{Params, Clauses, Contract, Given, D, param, given, alias_node, function_node, method_node, property_node, program_node}
use Rattle.wy_print_laws.specs.wy_parse.ProgramGrammar.{Typed, InnerType, NamedType, MethodResult, OneParam, NextParam, Parameters, AliasClauses, AliasDecl, PropertyDecl, Clause, ContractOf, FunctionDecl, MethodDecl, Declaration, has_place, Capped, Counted, NextDecl, Import, ProgramIn}
use Rattle.wy_print_laws.specs.wy_parse.Derivation.{Derives, profile}
use Rattle.wy_print_laws.specs.wy_parse_front.Front.{Spells}
use Rattle.wy_names.specs.resolved.SourceLiterals.{SourceDecl, SourceInts}
use Rattle.wy_gen_sources.specs.source_ints.SourceFields.{FieldsDecl, FieldsAreNames}
use Rattle.wy_print_laws.proofs.round_lemmas.Gives.{Gives, Proper, gives-pure, gives-then, gives-or, gives-loop, gives-refused, gives-unless, gives-mark, gives-name}
use Rattle.wy_gen_sources.proofs.source_ints_lemmas.LowLemmas.{OnLow, AllOf, low-both, low-made, low-pushed, crossed, crossed_three}
use Rattle.wy_gen_sources.proofs.source_ints_lemmas.TypeFields.{IsTy, IsT, gives-type, gives-type_rest}
use Rattle.wy_gen_sources.proofs.source_ints_lemmas.ExprLeaves.{IsExpr, AreArgs, gives-expr}
use Rattle.wy_gen_sources.proofs.source_ints_lemmas.StmtLeaves.{IsStmt, IsBlock, all-stmts, all-clauses, gives-where, gives-wheres}
use Rattle.wy_gen_sources.proofs.source_ints_lemmas.BlockLeaves.{gives-nest}

-- ---- nodes

abbrev IsDecl : Decl → Type 0
IsDecl x = SourceDecl (seen_decl x) × FieldsDecl (seen_decl x)

abbrev IsD : D → Type 0
IsD m = OnLow IsDecl m

low-free : {A : Type 0} (m : Measured A) → OnLow Free m
low-free (Low a h) = tt
low-free (High at) = tt

alias-d : (at : ℕ) (name : List ℕ) (ty : T) (variable : Option (List ℕ)) (es : Clauses) → IsT ty → AreArgs es → IsD (alias_node at name ty variable es)
alias-d at name ty variable es p q =
    low-made (λ (z : Ty × List Expr). IsTy z.0 × AllOf IsExpr z.1) IsDecl (λ z. decl.Alias (record { at = at; name = name; ty = z.0; variable = variable; clauses = z.1 })) (both ty es) (λ z h. let c = all-clauses z.1 h.1 in (c.0, (h.0, c.1))) (low-both IsTy (AllOf IsExpr) ty es p q)

property-d : (at : ℕ) (name : List ℕ) (ps : Params) (es : Clauses) → AreArgs es → IsD (property_node at name ps es)
property-d at name ps es q =
    low-made (λ (z : List Param × List Expr). Unit {0} × AllOf IsExpr z.1) IsDecl (λ z. decl.Property (record { at = at; name = name; params = z.0; clauses = z.1 })) (both ps es) (λ z h. all-clauses z.1 h.1) (low-both Free (AllOf IsExpr) ps es (low-free ps) q)

abbrev Rest : (List Expr × List Expr) × List Stmt → Type 0
Rest z = (AllOf IsExpr z.0.0 × AllOf IsExpr z.0.1) × AllOf IsStmt z.1

rest-low : (c : Contract) (body : Stmts) → AreArgs c.0 → AreArgs c.1 → IsBlock body → OnLow Rest (both (both c.0 c.1) body)
rest-low c body p q r = low-both (λ (y : List Expr × List Expr). AllOf IsExpr y.0 × AllOf IsExpr y.1) (AllOf IsStmt) (both c.0 c.1) body (low-both (AllOf IsExpr) (AllOf IsExpr) c.0 c.1 p q) r

function-d : (at : ℕ) (name : List ℕ) (ps : Params) (res : Given) (c : Contract) (body : Stmts) → AreArgs c.0 → AreArgs c.1 → IsBlock body → IsD (function_node at name ps res c body)
function-d at name ps res c body p q r =
    low-made (λ (z : (List Param × (Ty × Option (List ℕ))) × ((List Expr × List Expr) × List Stmt)). Unit {0} × Rest z.1) IsDecl
    (λ z. decl.Function (record { at = at; name = name; params = z.0.0; result = z.0.1.0; result_name = z.0.1.1; preconditions = z.1.0.0; postconditions = z.1.0.1; body = z.1.1 }))
    (both (both ps res) (both (both c.0 c.1) body)) (λ z h. crossed_three (all-clauses z.1.0.0 h.1.0.0) (all-clauses z.1.0.1 h.1.0.1) (all-stmts z.1.1 h.1.1)) (low-both Free Rest (both ps res) (both (both c.0 c.1) body) (low-free (both ps res)) (rest-low c body p q r))

method-d : (at : ℕ) (name : List ℕ) (ps : Params) (res : Measured (Option (Ty × Option (List ℕ)))) (c : Contract) (body : Stmts) → AreArgs c.0 → AreArgs c.1 → IsBlock body → IsD (method_node at name ps res c body)
method-d at name ps res c body p q r =
    low-made (λ (z : (List Param × Option (Ty × Option (List ℕ))) × ((List Expr × List Expr) × List Stmt)). Unit {0} × Rest z.1) IsDecl
    (λ z. decl.Method (record { at = at; name = name; params = z.0.0; result = z.0.1; preconditions = z.1.0.0; postconditions = z.1.0.1; body = z.1.1 }))
    (both (both ps res) (both (both c.0 c.1) body)) (λ z h. crossed_three (all-clauses z.1.0.0 h.1.0.0) (all-clauses z.1.0.1 h.1.0.1) (all-stmts z.1.1 h.1.1)) (low-both Free Rest (both ps res) (both (both c.0 c.1) body) (low-free (both ps res)) (rest-low c body p q r))

-- ---- the rules

abbrev IsTyped : Typed → Type 0
IsTyped p = IsT p.0

abbrev AreContract : Contract → Type 0
AreContract c = AreArgs c.0 × AreArgs c.1

module _ (n : ℕ) where
  gives-inner_type : Gives (InnerType n) IsTyped
  gives-inner_type =
      gives-then (gives-type (inside n)) (λ ty p.
      gives-or (gives-then gives-name (λ w v. gives-then (gives-mark t.CLOSE_PAREN) (λ r g. gives-pure (ty, Some w.1) IsTyped p)))
      (gives-then (gives-mark t.CLOSE_PAREN) (λ r g. gives-then (gives-type_rest n ty p) (λ whole q. gives-pure (whole, None) IsTyped q))))

  gives-named_type : Gives (NamedType n) IsTyped
  unfolding NamedType
  gives-named_type =
      gives-or (gives-then (gives-mark t.OPEN_PAREN) (λ at h. gives-inner_type))
      (gives-then (gives-unless (is t.OPEN_PAREN) (gives-type n)) (λ ty p. gives-pure (ty, None) IsTyped p))

  gives-method_result : Gives (MethodResult n) Free
  unfolding MethodResult
  gives-method_result =
      gives-or (gives-then (gives-mark t.ARROW) (λ at h.
      gives-or (gives-then (gives-mark t.OPEN_PAREN) (λ r g.
      gives-or (gives-then (gives-mark t.CLOSE_PAREN) (λ l f. gives-pure (Low None 0) Free tt))
      (gives-then gives-inner_type (λ p q. gives-pure (some (given p.0 p.1)) Free tt))))
      (gives-then (gives-unless (is t.OPEN_PAREN) (gives-type n)) (λ ty p. gives-pure (some (given ty None)) Free tt))))
      (gives-pure (Low None 0) Free tt)

  gives-one_param : (ps : Params) → Gives (OneParam n ps) Free
  gives-one_param ps = gives-then (gives-type (inside n)) (λ ty p. gives-then gives-name (λ w v. gives-pure (pushed ps (param ty w.1)) Free tt))

  gives-next_param : (ps : Params) → Unit {0} → Gives (NextParam n ps) Free
  gives-next_param ps u = gives-then (gives-mark t.COMMA) (λ at h. gives-one_param ps)

  gives-params : Gives (Parameters n) Free
  unfolding Parameters
  gives-params =
      gives-then (gives-mark t.OPEN_PAREN) (λ at h. gives-then (gives-or (gives-then (gives-one_param none) (λ ps u. gives-loop gives-next_param ps u)) (gives-pure none Free tt)) (λ ps u.
      gives-then (gives-mark t.CLOSE_PAREN) (λ r g. gives-pure ps Free tt)))

  gives-alias_clauses : (variable : Option (List ℕ)) → Gives (AliasClauses true n variable) AreArgs
  gives-alias_clauses None = gives-pure none AreArgs tt
  gives-alias_clauses (Some variable) = gives-then (gives-where n none tt) (λ es p. gives-wheres n es p)

  gives-alias : Gives (AliasDecl true n) IsD
  unfolding AliasDecl
  gives-alias =
      gives-then (gives-mark t.TYPE) (λ at h. gives-then gives-name (λ w v. gives-then (gives-mark t.IS) (λ r g. gives-then gives-named_type (λ p q. gives-then (gives-alias_clauses p.1) (λ es o.
      gives-then (gives-mark t.LINE_END) (λ l f. gives-pure (alias_node at w.1 p.0 p.1 es) IsD (alias-d at w.1 p.0 p.1 es q o)))))))

  gives-property : Gives (PropertyDecl true n) IsD
  unfolding PropertyDecl
  gives-property =
      gives-then (gives-mark t.PROPERTY) (λ at h. gives-then gives-name (λ w v. gives-then gives-params (λ ps u. gives-then (gives-where n none tt) (λ es p. gives-then (gives-wheres n es p) (λ all q.
      gives-then (gives-mark t.LINE_END) (λ l f. gives-pure (property_node at w.1 ps all) IsD (property-d at w.1 ps all q)))))))

  gives-clause : (c : Contract) → AreContract c → Gives (Clause true n c) AreContract
  gives-clause c r =
      gives-or (gives-then (gives-mark t.REQUIRES) (λ at h. gives-then (gives-expr n) (λ x p. gives-pure (pushed c.0 x, c.1) AreContract (low-pushed IsExpr c.0 x r.0 p, r.1))))
      (gives-then (gives-mark t.ENSURES) (λ at h. gives-then (gives-expr n) (λ x p. gives-pure (c.0, pushed c.1 x) AreContract (r.0, low-pushed IsExpr c.1 x r.1 p))))

  gives-contract : Gives (ContractOf true n) AreContract
  unfolding ContractOf
  gives-contract = gives-loop gives-clause (none, none) (tt, tt)

  module _ (B : R Stmts) (block : Gives B IsBlock) where
    gives-function : Gives (FunctionDecl true n B) IsD
    unfolding FunctionDecl
    gives-function =
        gives-then (gives-mark t.FUNCTION) (λ at h. gives-then gives-name (λ w v. gives-then gives-params (λ ps u. gives-then (gives-mark t.ARROW) (λ a g. gives-then gives-named_type (λ r q.
        gives-then gives-contract (λ c o. gives-then (gives-mark t.COLON) (λ l f. gives-then block (λ body b. gives-pure (function_node at w.1 ps (given r.0 r.1) c body) IsD (function-d at w.1 ps (given r.0 r.1) c body o.0 o.1 b)))))))))

    gives-method : Gives (MethodDecl true n B) IsD
    unfolding MethodDecl
    gives-method =
        gives-then (gives-mark t.METHOD) (λ at h. gives-then gives-name (λ w v. gives-then gives-params (λ ps u. gives-then gives-method_result (λ r q.
        gives-then gives-contract (λ c o. gives-then (gives-mark t.COLON) (λ l f. gives-then block (λ body b. gives-pure (method_node at w.1 ps r c body) IsD (method-d at w.1 ps r c body o.0 o.1 b))))))))

    gives-declaration : Gives (Declaration true n B) IsD
    unfolding Declaration
    gives-declaration = gives-or gives-alias (gives-or gives-function (gives-or gives-method gives-property))

gives-capped : (b : Bool) (rule : R D) → Gives rule IsD → Gives (Capped b rule) IsD
gives-capped true rule g = g
gives-capped false rule g = gives-refused IsD (has kinds.Declaration) TooMany

abbrev AreDecls : Counted → Type 0
AreDecls c = OnLow (AllOf IsDecl) c.0

gives-next_decl : (rule : R D) → Gives rule IsD → (c : Counted) → AreDecls c → Gives (NextDecl true rule c) AreDecls
gives-next_decl rule g c r = gives-then (gives-capped (has_place c.1) rule g) (λ d p. gives-pure (pushed c.0 d, c.1 + 1) AreDecls (low-pushed IsDecl c.0 d r p))

gives-import : (ms : List (List ℕ × ℕ)) → Unit {0} → Gives (Import ms) Free
gives-import ms u = gives-then (gives-mark t.IMPORT) (λ at h. gives-then gives-name (λ w v. gives-then (gives-mark t.LINE_END) (λ l f. gives-pure (ms ++ (w.1, w.0) ∷ []) Free tt)))

abbrev IsProgram : Program → Type 0
IsProgram p = SourceInts (map seen_decl p.decls) × FieldsAreNames (map seen_decl p.decls)

all-decls : (ds : List Decl) → AllOf IsDecl ds → SourceInts (map seen_decl ds) × FieldsAreNames (map seen_decl ds)
all-decls [] h = (tt, tt)
all-decls (d ∷ ds) h = crossed h.0 (all-decls ds h.1)

program-low : (ms : List (List ℕ × ℕ)) (c : Counted) → AreDecls c → OnLow IsProgram (program_node ms c.0)
program-low ms c r = low-made (AllOf IsDecl) IsProgram (λ ds. record { imports = ms; decls = ds }) c.0 (λ ds h. all-decls ds h) r

gives-program : (n : ℕ) → Gives (ProgramIn true n) (OnLow IsProgram)
unfolding ProgramIn
gives-program n =
    let inner = gives-nest (inside n) in
    gives-then (gives-loop gives-import [] tt) (λ ms u. gives-then (gives-loop (gives-next_decl (Declaration_of n) (gives-declaration n (nest true (inside n)).block inner.block)) (none, 0) tt) (λ c r.
    gives-then (gives-mark t.END) (λ at h. gives-pure (program_node ms c.0) (OnLow IsProgram) (program-low ms c r))))
  where
    Declaration_of : ℕ → R D
    Declaration_of m = Declaration true m (nest true (inside m)).block

gives-finish : Gives Finish Free
gives-finish = record { gives = λ i x j r h. (tt, subst Proper (r.0 ∙ sym r.1) h) }

gives-whole : {A : Type 0} (P : A → Type 0) (rule : R A) → Gives rule P → Gives (Whole rule) P
gives-whole P rule g = gives-then g (λ a p. gives-then gives-finish (λ u v. gives-pure a P p))

derived : (tokens : List Token) (program : Program) → Proper tokens → Derives tokens program → IsProgram program
derived tokens program h d = let g = gives-whole (OnLow IsProgram) (ProgramIn true profile.depth) (gives-program profile.depth) in (g.gives tokens (Low program d.height) [] d.text h).0

pub read-fields : (bytes : List ℕ) (program : Program) → Spells bytes program → FieldsAreNames (map seen_decl program.decls)
read-fields bytes program s = (derived s.tokens program (proper bytes s.tokens s.cut) s.holds).1

pub read-ints : (bytes : List ℕ) (program : Program) → Spells bytes program → SourceInts (map seen_decl program.decls)
read-ints bytes program s = (derived s.tokens program (proper bytes s.tokens s.cut) s.holds).0
