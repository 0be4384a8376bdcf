-- What the rules of a program spell: each property has a clause, and there are few declarations.
use Rattle.std.proofs.Common.{◌≡◌, ◌∙◌, ◌<◌, ◌≤◌, inl, inr, ℕ, suc, ◌+◌, Bool, true, false, nat_lt, List, [], ◌∷◌, ◌++◌, length, map, Option, refl, sym, ap, subst, arith}
use borrow.Author.Tests.{ltb-true}
use Rattle.wy_reading.specs.Places.{IsText}
use Rattle.wy_reading.specs.Rule.{Turns, stop, more}
use Rattle.wy_ast.specs.SurfaceSeen.{seen_decl, seen_exprs}
use Rattle.wy_ast.specs.declared.types.Ty.{Ty}
use Rattle.wy_ast.specs.declared.expressions.Expr.{Expr}
use Rattle.wy_ast.specs.declared.statements.Stmt.{Stmt}
use Rattle.wy_ast.specs.declared.declarations.Param.{Param}
use Rattle.wy_ast.specs.declared.declarations.Decl.{Decl}
use Rattle.wy_ast.specs.declared.declarations.Decl.TheVariants as decl
use Rattle.wy_ast.specs.declared.declarations.Program.{Program}
use Rattle.wy_core.specs.CoreSeen.{seen_core}
use Rattle.wy_core.specs.declared.declarations.Core.{Core}
use Rattle.wy_print_laws.specs.wy_lex.declared.token.Token.{Token}
use Rattle.wy_print_laws.specs.wy_parse_grammar.declared.measured.Measured.{Measured}
use Rattle.wy_print_laws.specs.wy_parse_grammar.declared.measured.Measured.TheVariants.{Low, High}
use Rattle.wy_print_laws.specs.wy_parse_grammar.Steps.{R}
use Rattle.wy_print_laws.specs.wy_parse_grammar.Trees.{both, made, pushed, none}
use Rattle.wy_print_laws.specs.wy_parse.StmtTrees.{Stmts}
use Rattle.wy_print_laws.specs.wy_parse.StmtGrammar.{Where, Wheres}
use Rattle.wy_print_laws.specs.wy_parse.DeclTrees.{Params, Clauses, D, given, property_node, program_node}
use Rattle.wy_print_laws.specs.wy_parse.ProgramGrammar.{AliasDecl, FunctionDecl, MethodDecl, PropertyDecl, Declaration, Capped, Counted, NextDecl, ProgramIn, Text}
use Rattle.wy_print_laws.specs.wy_parse.Derivation.{profile, Derives}
use Rattle.wy_print_laws.specs.wy_parse_front.Front.{Spells}
use Rattle.wy_core.specs.formed.Formed.{Formed}
use Rattle.wy_core.specs.formed.Sizes.{IsSmall}
use Rattle.wy_core.specs.formed.Wholes.{IsQuiet, Wholes}
use Rattle.wy_names.specs.Named.{IsNamed}
use Rattle.wy_names.specs.resolved.SourceLiterals.{SourceInts}
use Rattle.wy_names.specs.resolved.SourceClauses.{HasOne, OwnClauses, HaveClauses}
use Rattle.wy_names.proofs.resolved_lemmas.FormedLemmas.{named_small, named_quiet, named_formed}

-- ---- clauses

abbrev One : List Expr → Type 0
One [] = ⊥
One (e ∷ es) = Unit {0}

-- what is low enough has one
abbrev OneLow : Clauses → Type 0
OneLow (Low es h) = One es
OneLow (High at) = Unit {0}

last_one : (es : List Expr) (e : Expr) → One (es ++ e ∷ [])
last_one [] e = tt
last_one (x ∷ es) e = tt

pushed_one : (es : Clauses) (a : Measured Expr) → OneLow (pushed es a)
pushed_one (Low es h) (Low a k) = last_one es a
pushed_one (Low es h) (High at) = tt
pushed_one (High at) (Low a k) = tt
pushed_one (High at) (High other) = tt

where_one : (s : Bool) (levels : ℕ) (es b : Clauses) (i k : List Token) → (Where s levels es).reads i b k → OneLow b
where_one s levels es b i k (m, j, mark, (a, rest, read, (same, end))) = subst OneLow (sym same) (pushed_one es a)

wheres_one : (s : Bool) (levels : ℕ) (es all : Clauses) (i k : List Token) → Turns (Where s levels) es i all k → OneLow es → OneLow all
wheres_one s levels es all i k (stop same end) h = subst OneLow (sym same) h
wheres_one s levels es all i k (more b j read turns) h = wheres_one s levels b all j k turns (where_one s levels es b i j read)

-- ---- declarations

abbrev Own : Decl → Type 0
Own (decl.Alias a) = Unit {0}
Own (decl.Function f) = Unit {0}
Own (decl.Method m) = Unit {0}
Own (decl.Property p) = One p.clauses

abbrev OwnLow : D → Type 0
OwnLow (Low d h) = Own d
OwnLow (High at) = Unit {0}

made_own : {A : Type 0} (f : A → Decl) (m : Measured A) → ((a : A) → Own (f a)) → OwnLow (made f m)
made_own f (Low a h) own = own a
made_own f (High at) own = tt

property_own : (at : ℕ) (name : List ℕ) (ps : Params) (es : Clauses) → OneLow es → OwnLow (property_node at name ps es)
property_own at name (Low ps h) (Low es k) one = one
property_own at name (Low ps h) (High there) one = tt
property_own at name (High there) (Low es k) one = tt
property_own at name (High there) (High other) one = tt

alias_read : (s : Bool) (levels : ℕ) (d : D) (i k : List Token) → (AliasDecl s levels).reads i d k → OwnLow d
unfolding AliasDecl
alias_read s levels d i k (at, j1, m1, (w, j2, m2, (is, j3, m3, (p, j4, m4, (es, j5, m5, (line, j6, m6, (same, end))))))) = subst OwnLow (sym same) (made_own {A = Ty × List Expr} (λ x. decl.Alias (record { at = at; name = w.1; ty = x.0; variable = p.1; clauses = x.1 })) (both p.0 es) (λ a. tt {0}))

function_read : (s : Bool) (levels : ℕ) (block : R Stmts) (d : D) (i k : List Token) → (FunctionDecl s levels block).reads i d k → OwnLow d
unfolding FunctionDecl
function_read s levels block d i k (at, j1, m1, (w, j2, m2, (ps, j3, m3, (arrow, j4, m4, (r, j5, m5, (c, j6, m6, (colon, j7, m7, (body, j8, m8, (same, end))))))))) = subst OwnLow (sym same) (made_own {A = (List Param × (Ty × Option (List ℕ))) × ((List Expr × List Expr) × List Stmt)} (λ x. decl.Function (record { at = at; name = w.1; params = x.0.0; result = x.0.1.0; result_name = x.0.1.1; preconditions = x.1.0.0; postconditions = x.1.0.1; body = x.1.1 })) (both (both ps (given r.0 r.1)) (both (both c.0 c.1) body)) (λ a. tt {0}))

method_read : (s : Bool) (levels : ℕ) (block : R Stmts) (d : D) (i k : List Token) → (MethodDecl s levels block).reads i d k → OwnLow d
unfolding MethodDecl
method_read s levels block d i k (at, j1, m1, (w, j2, m2, (ps, j3, m3, (r, j4, m4, (c, j5, m5, (colon, j6, m6, (body, j7, m7, (same, end)))))))) = subst OwnLow (sym same) (made_own {A = (List Param × Option (Ty × Option (List ℕ))) × ((List Expr × List Expr) × List Stmt)} (λ x. decl.Method (record { at = at; name = w.1; params = x.0.0; result = x.0.1; preconditions = x.1.0.0; postconditions = x.1.0.1; body = x.1.1 })) (both (both ps r) (both (both c.0 c.1) body)) (λ a. tt {0}))

property_read : (s : Bool) (levels : ℕ) (d : D) (i k : List Token) → (PropertyDecl s levels).reads i d k → OwnLow d
unfolding PropertyDecl Wheres
property_read s levels d i k (at, j1, m1, (w, j2, m2, (ps, j3, m3, (es, j4, m4, (all, j5, m5, (line, j6, m6, (same, end))))))) =
    subst OwnLow (sym same) (property_own at w.1 ps all (wheres_one s levels es all j4 j5 m5 (where_one s levels none es j3 j4 m4)))

decl_read : (s : Bool) (levels : ℕ) (block : R Stmts) (d : D) (i k : List Token) → (Declaration s levels block).reads i d k → OwnLow d
unfolding Declaration
decl_read s levels block d i k (inl r) = alias_read s levels d i k r
decl_read s levels block d i k (inr (inl r)) = function_read s levels block d i k r
decl_read s levels block d i k (inr (inr (inl r))) = method_read s levels block d i k r
decl_read s levels block d i k (inr (inr (inr r))) = property_read s levels d i k r

-- ---- programs

abbrev AllOwn : List Decl → Type 0
AllOwn [] = Unit {0}
AllOwn (d ∷ ds) = Own d × AllOwn ds

own_last : (ds : List Decl) (d : Decl) → AllOwn ds → Own d → AllOwn (ds ++ d ∷ [])
own_last [] d h own = (own, tt)
own_last (x ∷ ds) d h own = (h.0, own_last ds d h.1 own)

length_last : (ds : List Decl) (d : Decl) → length (ds ++ d ∷ []) ≡ length ds + 1
length_last [] d = omega arith
length_last (x ∷ ds) d = let e = length_last ds d in omega (arith, e)

abbrev GoodLow : Measured (List Decl) → ℕ → Type 0
GoodLow (Low ds h) n = AllOwn ds × (length ds ≡ n)
GoodLow (High at) n = Unit {0}

pushed_good : (ds : Measured (List Decl)) (d : D) (n : ℕ) → GoodLow ds n → OwnLow d → GoodLow (pushed ds d) (n + 1)
pushed_good (Low ds h) (Low d k) n g own = (own_last ds d g.0 own, length_last ds d ∙ ap (λ (m : ℕ). m + 1) g.1)
pushed_good (Low ds h) (High at) n g own = tt
pushed_good (High at) (Low d k) n g own = tt
pushed_good (High at) (High other) n g own = tt

-- as many as are counted, and not too many
abbrev Good : Counted → Type 0
Good c = GoodLow c.0 c.1 × (c.1 ≤ 4096)

module _ (rule : R D) (own : (i : List Token) (d : D) (k : List Token) → rule.reads i d k → OwnLow d) where
  next_good : (c b : Counted) (i k : List Token) → (NextDecl true rule c).reads i b k → Good c → Good b
  next_good c b i k (d, j, read, (same, end)) g = by (nat_lt c.1 4096) refl read
    where
      by : (z : Bool) → nat_lt c.1 4096 ≡ z → (Capped z rule).reads i d j → Good b
      by true e r = subst Good (sym same) (pushed_good c.0 d c.1 g.0 (own i d j r), let lt : c.1 < 4096 = ltb-true c.1 4096 e in omega (arith, lt))
      by false e r = absurd r

  turns_good : (c b : Counted) (i k : List Token) → Turns (NextDecl true rule) c i b k → Good c → Good b
  turns_good c b i k (stop same end) g = subst Good (sym same) g
  turns_good c b i k (more x j read turns) g = turns_good x b j k turns (next_good c x i j read g)

-- the declarations of a program are so
record Short (program : Program) : Type 0 where
  own : AllOwn program.decls
  few : length program.decls ≤ 4096

low_program : (program : Program) (height : ℕ) (imports : List (List ℕ × ℕ)) (m : Measured (List Decl)) (n : ℕ) → GoodLow m n → n ≤ 4096 → Low program height ≡ program_node imports m → Short program
low_program program height imports (Low ds h) n g le same =
    let e : program ≡ record { imports = imports; decls = ds } = cc in
    let l : length ds ≡ n = g.1 in
    subst Short (sym e) (record { own = g.0; few = omega (arith, l, le) })
low_program program height imports (High at) n g le same = absurd (cc)

program_read : (levels : ℕ) (program : Program) (height : ℕ) (p : Measured Program) (i k : List Token) → (ProgramIn true levels).reads i p k → Low program height ≡ p → Short program
unfolding ProgramIn
program_read levels program height p i k (ms, j1, m1, (c, j2, m2, (e, j3, m3, (same, end)))) is =
    let good : Good c = turns_good _ (λ i d k r. decl_read true levels _ d i k r) (none, 0) c j1 j2 m2 ((tt, refl), omega arith) in
    low_program program height ms c.0 c.1 good.0 good.1 (is ∙ same)

derived : (tokens : List Token) (program : Program) → Derives tokens program → Short program
derived tokens program h = by h.text
  where
    by : IsText Text profile tokens (Low program h.height) → Short program
    by (p, j, read, (u, j2, fin, (same, end))) = program_read 101 program h.height p tokens j read same

spelled : (bytes : List ℕ) (program : Program) → Spells bytes program → Short program
spelled bytes program h = derived h.tokens program h.holds

-- ---- the laws

seen_one : (es : List Expr) → One es → HasOne (seen_exprs es)
seen_one [] h = h
seen_one (e ∷ es) h = tt

seen_own : (d : Decl) → Own d → OwnClauses (seen_decl d)
seen_own (decl.Alias a) h = tt
seen_own (decl.Function f) h = tt
seen_own (decl.Method m) h = tt
seen_own (decl.Property p) h = seen_one p.clauses h

seen_all : (ds : List Decl) → AllOwn ds → HaveClauses (map seen_decl ds)
seen_all [] h = tt
seen_all (d ∷ ds) h = (seen_own d h.0, seen_all ds h.1)

length_seen : (ds : List Decl) → length (map seen_decl ds) ≡ length ds
length_seen [] = refl
length_seen (d ∷ ds) = ap suc (length_seen ds)

pub spelled_clauses : (bytes : List ℕ) (program : Program) → Spells bytes program → HaveClauses (map seen_decl program.decls)
spelled_clauses bytes program h = seen_all program.decls (spelled bytes program h).own

pub spelled_short : (bytes : List ℕ) (program : Program) → Spells bytes program → length (map seen_decl program.decls) ≤ 4096
spelled_short bytes program h =
    let few : length program.decls ≤ 4096 = (spelled bytes program h).few in
    let e = length_seen program.decls in
    omega (arith, few, e)

pub text_small : (bytes : List ℕ) (program : Program) (core : Core) → Spells bytes program → IsNamed (map seen_decl program.decls) core → Wholes IsSmall (seen_core core)
text_small bytes program core h k = named_small (map seen_decl program.decls) core (spelled_clauses bytes program h) k

pub text_quiet : (bytes : List ℕ) (program : Program) (core : Core) → Spells bytes program → IsNamed (map seen_decl program.decls) core → Wholes IsQuiet (seen_core core)
text_quiet bytes program core h k = named_quiet (map seen_decl program.decls) core (spelled_clauses bytes program h) k

pub text_formed : (bytes : List ℕ) (program : Program) (core : Core) → Spells bytes program → SourceInts (map seen_decl program.decls) → IsNamed (map seen_decl program.decls) core → Formed (seen_core core)
text_formed bytes program core h ints k =
    let few : length (map seen_decl program.decls) ≤ 4096 = spelled_short bytes program h in
    named_formed (map seen_decl program.decls) core (omega (arith, few)) ints (spelled_clauses bytes program h) k
