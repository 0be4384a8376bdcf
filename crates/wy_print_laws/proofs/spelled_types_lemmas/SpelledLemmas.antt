-- What the rules of a program spell: a type with a variable has clauses, and one without has none.
use Rattle.std.proofs.Common.{◌≡◌, ◌∙◌, inl, inr, ℕ, Bool, true, false, nat_lt, List, [], ◌∷◌, ◌++◌, map, Option, Some, None, is_some, refl, sym, subst}
use Rattle.wy_reading.specs.Places.{IsText}
use Rattle.wy_reading.specs.Rule.{Turns, stop, more}
use Rattle.wy_ast.specs.SurfaceSeen.{seen_decl, seen_exprs}
use Rattle.wy_ast.specs.declared.types.Ty.{Ty}
use Rattle.wy_ast.specs.declared.expressions.Expr.{Expr}
use Rattle.wy_ast.specs.declared.statements.Stmt.{Stmt}
use Rattle.wy_ast.specs.declared.declarations.Param.{Param}
use Rattle.wy_ast.specs.declared.declarations.Decl.{Decl}
use Rattle.wy_ast.specs.declared.declarations.Decl.TheVariants as decl
use Rattle.wy_ast.specs.declared.declarations.Program.{Program}
use Rattle.wy_parse_front.specs.wy_lex.declared.token.Token.{Token}
use Rattle.wy_parse_front.specs.wy_parse_grammar.declared.measured.Measured.{Measured}
use Rattle.wy_parse_front.specs.wy_parse_grammar.declared.measured.Measured.TheVariants.{Low, High}
use Rattle.wy_parse_front.specs.wy_parse_grammar.Steps.{R}
use Rattle.wy_parse_front.specs.wy_parse_grammar.Trees.{both, made, pushed, none}
use Rattle.wy_parse_front.specs.wy_parse_grammar.TypeGrammar.{T}
use Rattle.wy_parse_front.specs.wy_parse.StmtTrees.{Stmts}
use Rattle.wy_parse_front.specs.wy_parse.StmtGrammar.{Where, Wheres}
use Rattle.wy_parse_front.specs.wy_parse.DeclTrees.{Clauses, D, given, alias_node, program_node}
use Rattle.wy_parse_front.specs.wy_parse.ProgramGrammar.{AliasClauses, AliasDecl, FunctionDecl, MethodDecl, PropertyDecl, Declaration, Capped, Counted, NextDecl, ProgramIn, Text}
use Rattle.wy_parse_front.specs.wy_parse.Derivation.{profile, Derives}
use Rattle.wy_parse_front.specs.Front.{Spells}
use Rattle.wy_print_laws.specs.spelled_types.SourceVariables.{has_one, OwnVariable, HaveOwnVariables}

-- ---- clauses

abbrev some : List Expr → Bool
some [] = false
some (e ∷ es) = true

-- what is low enough has a clause exactly where there is a variable
abbrev SpeaksLow : Bool → Clauses → Type 0
SpeaksLow named (Low es h) = named ≡ some es
SpeaksLow named (High at) = Unit {0}

last_some : (es : List Expr) (e : Expr) → true ≡ some (es ++ e ∷ [])
last_some [] e = refl
last_some (x ∷ es) e = refl

pushed_speaks : (es : Clauses) (a : Measured Expr) → SpeaksLow true (pushed es a)
pushed_speaks (Low es h) (Low a k) = last_some es a
pushed_speaks (Low es h) (High at) = tt
pushed_speaks (High at) (Low a k) = tt
pushed_speaks (High at) (High other) = tt

where_speaks : (s : Bool) (levels : ℕ) (es b : Clauses) (i k : List Token) → (Where s levels es).reads i b k → SpeaksLow true b
where_speaks s levels es b i k (m, j, mark, (a, rest, read, (same, end))) = subst (SpeaksLow true) (sym same) (pushed_speaks es a)

wheres_speak : (s : Bool) (levels : ℕ) (es all : Clauses) (i k : List Token) → Turns (Where s levels) es i all k → SpeaksLow true es → SpeaksLow true all
wheres_speak s levels es all i k (stop same end) h = subst (SpeaksLow true) (sym same) h
wheres_speak s levels es all i k (more b j read turns) h = wheres_speak s levels b all j k turns (where_speaks s levels es b i j read)

clauses_speak : (s : Bool) (levels : ℕ) (v : Option (List ℕ)) (es : Clauses) (i k : List Token) → (AliasClauses s levels v).reads i es k → SpeaksLow (is_some v) es
unfolding Wheres
clauses_speak s levels None es i k (same, end) = subst (SpeaksLow false) (sym same) refl
clauses_speak s levels (Some v) es i k (first, j, read, turns) = wheres_speak s levels first es j k turns (where_speaks s levels none first i j read)

-- ---- declarations

abbrev Own : Decl → Type 0
Own (decl.Alias a) = is_some a.variable ≡ some a.clauses
Own (decl.Function f) = Unit {0}
Own (decl.Method m) = Unit {0}
Own (decl.Property p) = Unit {0}

abbrev OwnLow : D → Type 0
OwnLow (Low d h) = Own d
OwnLow (High at) = Unit {0}

made_own : {A : Type 0} (f : A → Decl) (m : Measured A) → ((a : A) → Own (f a)) → OwnLow (made f m)
made_own f (Low a h) own = own a
made_own f (High at) own = tt

alias_own : (at : ℕ) (name : List ℕ) (ty : T) (v : Option (List ℕ)) (es : Clauses) → SpeaksLow (is_some v) es → OwnLow (alias_node at name ty v es)
alias_own at name (Low t h) v (Low es k) own = own
alias_own at name (Low t h) v (High there) own = tt
alias_own at name (High there) v (Low es k) own = tt
alias_own at name (High there) v (High other) own = tt

alias_read : (s : Bool) (levels : ℕ) (d : D) (i k : List Token) → (AliasDecl s levels).reads i d k → OwnLow d
unfolding AliasDecl
alias_read s levels d i k (at, j1, m1, (w, j2, m2, (is, j3, m3, (p, j4, m4, (es, j5, m5, (line, j6, m6, (same, end))))))) = subst OwnLow (sym same) (alias_own at w.1 p.0 p.1 es (clauses_speak s levels p.1 es j4 j5 m5))

function_read : (s : Bool) (levels : ℕ) (block : R Stmts) (d : D) (i k : List Token) → (FunctionDecl s levels block).reads i d k → OwnLow d
unfolding FunctionDecl
function_read s levels block d i k (at, j1, m1, (w, j2, m2, (ps, j3, m3, (arrow, j4, m4, (r, j5, m5, (c, j6, m6, (colon, j7, m7, (body, j8, m8, (same, end))))))))) =
    subst OwnLow (sym same)
    (made_own {A = (List Param × (Ty × Option (List ℕ))) × ((List Expr × List Expr) × List Stmt)}
    (λ x. decl.Function (record { at = at; name = w.1; params = x.0.0; result = x.0.1.0; result_name = x.0.1.1; preconditions = x.1.0.0; postconditions = x.1.0.1; body = x.1.1 }))
    (both (both ps (given r.0 r.1)) (both (both c.0 c.1) body)) (λ a. tt {0}))

method_read : (s : Bool) (levels : ℕ) (block : R Stmts) (d : D) (i k : List Token) → (MethodDecl s levels block).reads i d k → OwnLow d
unfolding MethodDecl
method_read s levels block d i k (at, j1, m1, (w, j2, m2, (ps, j3, m3, (r, j4, m4, (c, j5, m5, (colon, j6, m6, (body, j7, m7, (same, end)))))))) =
    subst OwnLow (sym same)
    (made_own {A = (List Param × Option (Ty × Option (List ℕ))) × ((List Expr × List Expr) × List Stmt)}
    (λ x. decl.Method (record { at = at; name = w.1; params = x.0.0; result = x.0.1; preconditions = x.1.0.0; postconditions = x.1.0.1; body = x.1.1 }))
    (both (both ps r) (both (both c.0 c.1) body)) (λ a. tt {0}))

property_read : (s : Bool) (levels : ℕ) (d : D) (i k : List Token) → (PropertyDecl s levels).reads i d k → OwnLow d
unfolding PropertyDecl
property_read s levels d i k (at, j1, m1, (w, j2, m2, (ps, j3, m3, (es, j4, m4, (all, j5, m5, (line, j6, m6, (same, end))))))) =
    subst OwnLow (sym same) (made_own {A = List Param × List Expr} (λ x. decl.Property (record { at = at; name = w.1; params = x.0; clauses = x.1 })) (both ps all) (λ a. tt {0}))

decl_read : (s : Bool) (levels : ℕ) (block : R Stmts) (d : D) (i k : List Token) → (Declaration s levels block).reads i d k → OwnLow d
unfolding Declaration
decl_read s levels block d i k (inl r) = alias_read s levels d i k r
decl_read s levels block d i k (inr (inl r)) = function_read s levels block d i k r
decl_read s levels block d i k (inr (inr (inl r))) = method_read s levels block d i k r
decl_read s levels block d i k (inr (inr (inr r))) = property_read s levels d i k r

-- ---- programs

abbrev AllOwn : List Decl → Type 0
AllOwn [] = Unit {0}
AllOwn (d ∷ ds) = Own d × AllOwn ds

own_last : (ds : List Decl) (d : Decl) → AllOwn ds → Own d → AllOwn (ds ++ d ∷ [])
own_last [] d h own = (own, tt)
own_last (x ∷ ds) d h own = (h.0, own_last ds d h.1 own)

abbrev AllLow : Measured (List Decl) → Type 0
AllLow (Low ds h) = AllOwn ds
AllLow (High at) = Unit {0}

pushed_own : (ds : Measured (List Decl)) (d : D) → AllLow ds → OwnLow d → AllLow (pushed ds d)
pushed_own (Low ds h) (Low d k) all own = own_last ds d all own
pushed_own (Low ds h) (High at) all own = tt
pushed_own (High at) (Low d k) all own = tt
pushed_own (High at) (High other) all own = tt

module _ (rule : R D) (own : (i : List Token) (d : D) (k : List Token) → rule.reads i d k → OwnLow d) where
  next_own : (c b : Counted) (i k : List Token) → (NextDecl true rule c).reads i b k → AllLow c.0 → AllLow b.0
  next_own c b i k (d, j, read, (same, end)) all = by (nat_lt c.1 4096) read
    where
      by : (z : Bool) → (Capped z rule).reads i d j → AllLow b.0
      by true r = subst (λ (x : Counted). AllLow x.0) (sym same) (pushed_own c.0 d all (own i d j r))
      by false r = absurd r

  turns_own : (c b : Counted) (i k : List Token) → Turns (NextDecl true rule) c i b k → AllLow c.0 → AllLow b.0
  turns_own c b i k (stop same end) all = subst (λ (x : Counted). AllLow x.0) (sym same) all
  turns_own c b i k (more x j read turns) all = turns_own x b j k turns (next_own c x i j read all)

low_program : (program : Program) (height : ℕ) (imports : List (List ℕ × ℕ)) (m : Measured (List Decl)) → AllLow m → Low program height ≡ program_node imports m → AllOwn program.decls
low_program program height imports (Low ds h) all same =
    let e : program ≡ record { imports = imports; decls = ds } = cc in
    subst (λ (p : Program). AllOwn p.decls) (sym e) all
low_program program height imports (High at) all same = absurd cc

program_read : (levels : ℕ) (program : Program) (height : ℕ) (p : Measured Program) (i k : List Token) → (ProgramIn true levels).reads i p k → Low program height ≡ p → AllOwn program.decls
unfolding ProgramIn
program_read levels program height p i k (ms, j1, m1, (c, j2, m2, (e, j3, m3, (same, end)))) is =
    let all : AllLow c.0 = turns_own _ (λ i d k r. decl_read true levels _ d i k r) (none, 0) c j1 j2 m2 tt in
    low_program program height ms c.0 all (is ∙ same)

derived : (tokens : List Token) (program : Program) → Derives tokens program → AllOwn program.decls
derived tokens program h = by h.text
  where
    by : IsText Text profile tokens (Low program h.height) → AllOwn program.decls
    by (p, j, read, (u, j2, fin, (same, end))) = program_read 101 program h.height p tokens j read same

-- ---- the law

seen_some : (es : List Expr) → has_one (seen_exprs es) ≡ some es
seen_some [] = refl
seen_some (e ∷ es) = refl

seen_own : (d : Decl) → Own d → OwnVariable (seen_decl d)
seen_own (decl.Alias a) h = h ∙ sym (seen_some a.clauses)
seen_own (decl.Function f) h = tt
seen_own (decl.Method m) h = tt
seen_own (decl.Property p) h = tt

seen_all : (ds : List Decl) → AllOwn ds → HaveOwnVariables (map seen_decl ds)
seen_all [] h = tt
seen_all (d ∷ ds) h = (seen_own d h.0, seen_all ds h.1)

pub spelled_variables : (bytes : List ℕ) (program : Program) → Spells bytes program → HaveOwnVariables (map seen_decl program.decls)
spelled_variables bytes program h = seen_all program.decls (derived h.tokens program h.holds)
