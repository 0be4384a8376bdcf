-- A program is read again from its text: imports and declarations, with blank lines between.
use Rattle.std.proofs.Common.{◌≡◌, ℕ, suc, ◌+◌, ◌<◌, ◌≤◌, max, Bool, true, false, true≢false, List, [], ◌∷◌, ◌++◌, map, length, length-append, codes, refl, sym, ap, ap₂, ◌∙◌, subst, arith, append_assoc, append-nil}
use Rattle.std.specs.Bool.{⊤}
use lib.Utf8.{encode}
use Rattle.wy_data.specs.Words.{IsName}
use Rattle.wy_reading.specs.Rule.{Whole, Finish, Turns}
use Rattle.wy_reading.specs.Rule.Turns.{stop, more}
use Rattle.wy_ast.specs.SurfaceTree as tree
use Rattle.wy_ast.specs.declared.declarations.Decl.{Decl}
use Rattle.wy_ast.specs.declared.declarations.Program.{Program}
use Rattle.wy_parse_front.specs.wy_lex.declared.token.Token.{Token}
use Rattle.wy_parse_front.specs.wy_lex.declared.token.TokenKind.TheVariants as k
use Rattle.wy_parse_front.specs.wy_lex.declared.symbol.Character.TheVariants as class
use Rattle.wy_parse_front.specs.wy_lex.Kinds.{word_kind}
use Rattle.wy_parse_front.specs.wy_lex.Layout.{token, first_state}
use Rattle.wy_parse_front.specs.wy_lex.Grammar.{Source}
use Rattle.wy_parse_front.specs.wy_lex.Source.{Tokens, profile as source_profile}
use Rattle.wy_parse_front.proofs.wy_lex_proofs.ListsMade.{proper}
use Rattle.wy_print.specs.Pieces.{line_end}
use Rattle.wy_print.specs.ProgramText.{decl_text, import_line, import_lines, more_decls, decl_lines, program_text}
use Rattle.wy_parse_front.specs.wy_parse_grammar.declared.fault.Kind.TheVariants.{TooMany}
use Rattle.wy_parse_front.specs.wy_parse_grammar.declared.measured.Measured.{Measured}
use Rattle.wy_parse_front.specs.wy_parse_grammar.declared.measured.Measured.TheVariants.{Low}
use Rattle.wy_parse_front.specs.wy_parse_grammar.declared.sort.Class.TheVariants as kinds
use Rattle.wy_parse_front.specs.wy_parse_grammar.Sorts as t
use Rattle.wy_parse_front.specs.wy_parse_grammar.Sorts.{has}
use Rattle.wy_parse_front.specs.wy_parse_grammar.Steps.{R}
use Rattle.wy_parse_front.specs.wy_parse_grammar.Trees.{pushed, none}
use Rattle.wy_parse_front.specs.wy_parse.BlockGrammar.{nest}
use Rattle.wy_parse_front.specs.wy_parse.DeclTrees.{D, program_node}
use Rattle.wy_parse_front.specs.wy_parse.ProgramGrammar.{Declaration, most, has_place, Capped, Counted, NextDecl, Import, ProgramIn}
use Rattle.wy_parse_front.specs.wy_parse.Derivation.{Derives}
use Rattle.wy_print_laws.proofs.round_lemmas.Pieces.{Piece, letters, size, IsMark}
use Rattle.wy_print_laws.proofs.round_lemmas.Marks.{lower-mark}
use Rattle.wy_print_laws.proofs.round_lemmas.Segments.{text_of, text-both, Item}
use Rattle.wy_print_laws.proofs.round_lemmas.Sources.{clean-symbols, clean-utf8}
use Rattle.wy_print_laws.proofs.round_lemmas.Heights.{made-low, pushed-low, same_part}
use Rattle.wy_print_laws.proofs.round_lemmas.Gives.{Gives, Proper, gives-pure, gives-then, gives-loop, gives-less, gives-refused, gives-mark, gives-name}
use Rattle.wy_print_laws.proofs.round_lemmas.Commas.{mark-reads, item-any, map-append}
use Rattle.wy_print_laws.proofs.round_lemmas.Enclosed.{begins-letter, name_piece, name-item, name-text, name-reads}
use Rattle.wy_print_laws.proofs.round_lemmas.TypeRound.{map-map}
use Rattle.wy_print_laws.proofs.round_lemmas.ExprGives.{gives-level}
use Rattle.wy_print_laws.proofs.round_lemmas.Lines.{Line, next_at}
use Rattle.wy_print_laws.proofs.round_lemmas.Lines.Line.{fresh as line_at, blank}
use Rattle.wy_print_laws.proofs.round_lemmas.LineRuns.{lines_text}
use Rattle.wy_print_laws.proofs.round_lemmas.StmtLines.{Follows, follows-good, opened, left, left-begun, line-ends, begun-text, blank-text, lines-append}
use Rattle.wy_print_laws.proofs.round_lemmas.StmtOne.{word_gap, behind-word, item-body}
use Rattle.wy_print_laws.proofs.round_lemmas.StmtLoops.{AnyBlock}
use Rattle.wy_print_laws.proofs.round_lemmas.StmtNests.{again-nest}
use Rattle.wy_print_laws.proofs.round_lemmas.StmtAlone.{lines-cut}
use Rattle.wy_print_laws.specs.round.BareProgram.{bare_decl, bare_import}
use Rattle.wy_print_laws.specs.round.ReadAgain.{IsSource, IsSame, ReadsAgain}
use Rattle.wy_print_laws.proofs.round_lemmas.ProgramShown.{DeclView, view_decl}
use Rattle.wy_print_laws.proofs.round_lemmas.DeclAgain.{DeclAgain, IsDecl}
use Rattle.wy_print_laws.proofs.round_lemmas.DeclBodies.{gives-declaration}

-- ---- imports

import-mark : IsMark k.Import (codes "import") class.Part
unfolding word_kind encode
import-mark = lower-mark k.Import 105 (109 ∷ 112 ∷ 111 ∷ 114 ∷ 116 ∷ []) refl refl refl

import_text : text_of (word_gap k.Import (codes "import")) ≡ codes "import "
unfolding encode
import_text = refl

abbrev import_pieces : List ℕ → List Piece
import_pieces name = word_gap k.Import (codes "import") ++ (name_piece name ∷ [])

import-item : (name : List ℕ) → IsName name → Item true true (import_pieces name)
import-item name v = behind-word k.Import 105 (109 ∷ 112 ∷ 111 ∷ 114 ∷ 116 ∷ []) (name_piece name ∷ []) import-mark (begins-letter 105 (omega arith) refl) (record { closed = λ d. refl }) (item-any false false (name_piece name ∷ []) (name-item name v))

import-spelled : (name : List ℕ) → IsName name → text_of (import_pieces name) ≡ codes "import " ++ name
import-spelled name v = text-both (word_gap k.Import (codes "import")) (name_piece name ∷ []) (codes "import ") name import_text (name-text name v)

abbrev Names : List (List ℕ × ℕ) → Type 0
Names [] = ⊤
Names (m ∷ ms) = IsName m.0 × Names ms

names-more : (ms : List (List ℕ × ℕ)) (m : List ℕ × ℕ) → Names ms → IsName m.0 → Names (ms ++ m ∷ [])
names-more [] m h v = (v, tt)
names-more (n ∷ ms) m h v = (h.0, names-more ms m h.1 v)

abbrev import_rows : List (List ℕ × ℕ) → List Line
import_rows [] = []
import_rows (m ∷ ms) = line_at 0 (import_pieces m.0) ∷ import_rows ms

imports-spelled : (ms : List (List ℕ × ℕ)) → Names ms → lines_text (import_rows ms) ≡ import_lines ms
imports-spelled [] h = refl
imports-spelled (m ∷ ms) h =
    begun-text 0 (import_pieces m.0) (import_rows ms)
    ∙ (ap₂ (λ (a b : List ℕ). a ++ 10 ∷ b) (import-spelled m.0 h.0) (imports-spelled ms h.1)
    ∙ (append_assoc (codes "import ") m.0 (10 ∷ import_lines ms) ∙ ap (λ (l : List ℕ). codes "import " ++ l) (sym (append_assoc m.0 line_end (import_lines ms)))
    ∙ sym (append_assoc (codes "import ") (m.0 ++ line_end) (import_lines ms))))

imports-follow : (ms : List (List ℕ × ℕ)) (ls : List Line) → Names ms → Follows 0 ls → Follows 0 (import_rows ms ++ ls)
imports-follow [] ls h f = f
imports-follow (m ∷ ms) ls h f =
    let zero_is : 0 ≤ 0 = omega arith in
    (zero_is, item-body (import_pieces m.0) (import-item m.0 h.0), refl, follows-good 0 0 false (import_rows ms ++ ls) zero_is (imports-follow ms ls h.1 f))

record ReadsImports (ms acc : List (List ℕ × ℕ)) (i : List Token) (ls : List Line) : Type 0 where
  pub read : List (List ℕ × ℕ)
  pub same : map bare_import read ≡ map bare_import ms
  pub place : ℕ
  pub turns : Turns Import acc i (acc ++ read) (left place 0 ls)

imports-read : (p : ℕ) (ms acc : List (List ℕ × ℕ)) (ls : List Line) → Names ms → Follows 0 ls → ReadsImports ms acc (left p 0 (import_rows ms ++ ls)) ls
imports-read p [] acc ls h f = record { read = []; same = refl; place = p; turns = stop (append-nil acc) refl }
imports-read p (m ∷ ms) acc ls h f =
    let rest : List Line = import_rows ms ++ ls in
    let name_at = (p + size (codes "import")) + 1 in
    let end = p + size (letters (import_pieces m.0)) in
    let place = next_at end rest in
    let text_is : left p 0 (line_at 0 (import_pieces m.0) ∷ rest) ≡ token k.Import p ∷ token (k.Name m.0) name_at ∷ token k.LineEnd end ∷ left place 0 rest =
    left-begun p 0 (import_pieces m.0) rest ∙ ap (λ (l : List Token). token k.Import p ∷ token (k.Name m.0) name_at ∷ l) (line-ends end place 0 rest (imports-follow ms ls h.1 f)) in
    let one : List ℕ × ℕ = (m.0, name_at) in
    let q = imports-read place ms (acc ++ one ∷ []) ls h.1 f in
    let last : List Token = token k.LineEnd end ∷ left place 0 rest in
    let turn : (Import acc).reads (token k.Import p ∷ token (k.Name m.0) name_at ∷ last) (acc ++ one ∷ []) (left place 0 rest) =
    (p, token (k.Name m.0) name_at ∷ last, mark-reads t.IMPORT k.Import p (token (k.Name m.0) name_at ∷ last) refl, ((name_at, m.0), last, name-reads m.0 name_at last, (end, left place 0 rest, mark-reads t.LINE_END k.LineEnd end (left place 0 rest) refl, (refl, refl)))) in
    record {
      read = one ∷ q.read;
      same = ap (λ (l : List (List ℕ × ℕ)). (m.0, 0) ∷ l) q.same;
      place = q.place;
      turns = subst (λ (i : List Token). Turns Import acc i (acc ++ one ∷ q.read) (left q.place 0 ls)) (sym text_is)
          (more (acc ++ one ∷ []) (left place 0 rest) turn (subst (λ (a : List (List ℕ × ℕ)). Turns Import (acc ++ one ∷ []) (left place 0 rest) a (left q.place 0 ls)) (append_assoc acc (one ∷ []) q.read) q.turns));
    }

gives-import : (ms : List (List ℕ × ℕ)) → Names ms → Gives (Import ms) Names
gives-import ms h = gives-then (gives-mark t.IMPORT) (λ at f. gives-then gives-name (λ w v. gives-then (gives-mark t.LINE_END) (λ l g. gives-pure (ms ++ (w.1, w.0) ∷ []) Names (names-more ms (w.1, w.0) h v))))

-- ---- declarations

record ADecl (rule : R D) : Type 0 where
  pub decl_is : Decl
  pub again : DeclAgain rule decl_is

abbrev decls_of : (rule : R D) → List (ADecl rule) → List Decl
decls_of rule xs = map (λ (x : ADecl rule). x.decl_is) xs

-- each behind a blank line
abbrev more_rows : (rule : R D) → List (ADecl rule) → List Line
more_rows rule [] = []
more_rows rule (x ∷ xs) = blank ∷ line_at 0 x.again.first ∷ (x.again.rest ++ more_rows rule xs)

abbrev decl_rows : (rule : R D) → List (ADecl rule) → List Line
decl_rows rule [] = []
decl_rows rule (x ∷ xs) = line_at 0 x.again.first ∷ (x.again.rest ++ more_rows rule xs)

row-spelled : (rule : R D) (x : ADecl rule) (ls : List Line) → lines_text (line_at 0 x.again.first ∷ (x.again.rest ++ ls)) ≡ decl_text x.decl_is ++ lines_text ls
row-spelled rule x ls =
    begun-text 0 x.again.first (x.again.rest ++ ls)
    ∙ (ap (λ (l : List ℕ). text_of x.again.first ++ 10 ∷ l) (lines-append x.again.rest ls)
    ∙ (sym (append_assoc (text_of x.again.first) (10 ∷ lines_text x.again.rest) (lines_text ls)) ∙ ap (λ (l : List ℕ). l ++ lines_text ls) x.again.spelled))

more-spelled : (rule : R D) (xs : List (ADecl rule)) → lines_text (more_rows rule xs) ≡ more_decls (decls_of rule xs)
more-spelled rule [] = refl
more-spelled rule (x ∷ xs) =
    blank-text (line_at 0 x.again.first ∷ (x.again.rest ++ more_rows rule xs))
    ∙ ap (λ (l : List ℕ). 10 ∷ l) (row-spelled rule x (more_rows rule xs) ∙ ap (λ (l : List ℕ). decl_text x.decl_is ++ l) (more-spelled rule xs))

decls-spelled : (rule : R D) (xs : List (ADecl rule)) → lines_text (decl_rows rule xs) ≡ decl_lines (decls_of rule xs)
decls-spelled rule [] = refl
decls-spelled rule (x ∷ xs) = row-spelled rule x (more_rows rule xs) ∙ ap (λ (l : List ℕ). decl_text x.decl_is ++ l) (more-spelled rule xs)

row-follows : (rule : R D) (x : ADecl rule) (ls : List Line) → Follows 0 ls → Follows 0 (line_at 0 x.again.first ∷ (x.again.rest ++ ls))
row-follows rule x ls f = let zero_is : 0 ≤ 0 = omega arith in (zero_is, x.again.is_body, x.again.own, x.again.good ls f)

more-follow : (rule : R D) (xs : List (ADecl rule)) → Follows 0 (more_rows rule xs)
more-follow rule [] = tt
more-follow rule (x ∷ xs) = row-follows rule x (more_rows rule xs) (more-follow rule xs)

decls-follow : (rule : R D) (xs : List (ADecl rule)) → Follows 0 (decl_rows rule xs)
decls-follow rule [] = tt
decls-follow rule (x ∷ xs) = row-follows rule x (more_rows rule xs) (more-follow rule xs)

-- there is a place for one more
capped : (b : Bool) (rule : R D) (i : List Token) (d : D) (j : List Token) → b ≡ true → rule.reads i d j → (Capped b rule).reads i d j
capped true rule i d j e r = r
capped false rule i d j e r = absurd (true≢false (sym e))

record ReadsDecls (rule : R D) (xs : List (ADecl rule)) (acc : List Decl) (h n : ℕ) (i : List Token) : Type 0 where
  pub read : List Decl
  pub same : map view_decl read ≡ map view_decl (decls_of rule xs)
  pub height : ℕ
  pub count : ℕ
  pub place : ℕ
  pub turns : Turns (NextDecl true rule) (Low acc h, n) i (Low (acc ++ read) height, count) (left place 0 [])

-- one, and those that were read behind it
decls-more : (rule : R D) (p : ℕ) (x : ADecl rule) (xs : List (ADecl rule)) (acc : List Decl) (h n : ℕ) → n < most
    → ((q l : ℕ) (bs : List Decl) → ReadsDecls rule xs bs l (n + 1) (left q 0 (more_rows rule xs)))
    → ReadsDecls rule (x ∷ xs) acc h n (left p 0 (line_at 0 x.again.first ∷ (x.again.rest ++ more_rows rule xs)))
decls-more rule p x xs acc h n le next =
    let rest : List Line = more_rows rule xs in
    let r = x.again.reads p rest (more-follow rule xs) in
    let q = next r.place (max h r.height) (acc ++ r.tree ∷ []) in
    let text_is : left p 0 (line_at 0 x.again.first ∷ (x.again.rest ++ rest)) ≡ opened p x.again.first 0 (x.again.rest ++ rest) = left-begun p 0 x.again.first (x.again.rest ++ rest) in
    let room : has_place n ≡ true = grind (arith, le) in
    let one = capped (has_place n) rule (opened p x.again.first 0 (x.again.rest ++ rest)) (Low r.tree r.height) (left r.place 0 rest) room r.reads in
    let turn : (NextDecl true rule (Low acc h, n)).reads (opened p x.again.first 0 (x.again.rest ++ rest)) (Low (acc ++ r.tree ∷ []) (max h r.height), n + 1) (left r.place 0 rest) =
    (Low r.tree r.height, left r.place 0 rest, one, (refl, refl)) in
    record {
      read = r.tree ∷ q.read;
      same = ap₂ (λ (v : DeclView) (vs : List DeclView). v ∷ vs) r.same q.same;
      height = q.height;
      count = q.count;
      place = q.place;
      turns = subst (λ (i : List Token). Turns (NextDecl true rule) (Low acc h, n) i (Low (acc ++ r.tree ∷ q.read) q.height, q.count) (left q.place 0 [])) (sym text_is)
          (more (Low (acc ++ r.tree ∷ []) (max h r.height), n + 1) (left r.place 0 rest) turn
          (subst (λ (a : List Decl). Turns (NextDecl true rule) (Low (acc ++ r.tree ∷ []) (max h r.height), n + 1) (left r.place 0 rest) (Low a q.height, q.count) (left q.place 0 [])) (append_assoc acc (r.tree ∷ []) q.read) q.turns));
    }

more-read : (rule : R D) (p : ℕ) (xs : List (ADecl rule)) (acc : List Decl) (h n : ℕ) → n + length xs ≤ most → ReadsDecls rule xs acc h n (left p 0 (more_rows rule xs))
more-read rule p [] acc h n le = record { read = []; same = refl; height = h; count = n; place = p; turns = stop (ap (λ (l : List Decl). (Low l h, n)) (append-nil acc)) refl }
more-read rule p (x ∷ xs) acc h n le =
    let here : n < most = omega (arith, le) in
    let later : (n + 1) + length xs ≤ most = omega (arith, le) in
    let lines : List Line = line_at 0 x.again.first ∷ (x.again.rest ++ more_rows rule xs) in
    decls-more rule (next_at p lines) x xs acc h n here (λ q l bs. more-read rule q xs bs l (n + 1) later)

decls-read : (rule : R D) (p : ℕ) (xs : List (ADecl rule)) → length xs ≤ most → ReadsDecls rule xs [] 0 0 (left p 0 (decl_rows rule xs))
decls-read rule p [] le = more-read rule p [] [] 0 0 (omega arith)
decls-read rule p (x ∷ xs) le =
    let here : 0 < most = omega arith in
    let later : (0 + 1) + length xs ≤ most = omega (arith, le) in
    decls-more rule p x xs [] 0 0 here (λ q l bs. more-read rule q xs bs l (0 + 1) later)

-- what was read of declarations
record SomeDecls (rule : R D) (ds : List Decl) (n : ℕ) : Type 0 where
  pub all : List (ADecl rule)
  pub are : ds ≡ decls_of rule all
  pub count_is : n ≡ length all
  pub within : n ≤ most

record AreDecls (rule : R D) (c : Counted) : Type 0 where
  pub low : (ds : List Decl) (h : ℕ) → c.0 ≡ Low ds h → SomeDecls rule ds c.1

no-decls : (rule : R D) → AreDecls rule (none, 0)
no-decls rule = record { low = λ ds h e. record { all = []; are = sym (same_part [] ds 0 h e); count_is = refl; within = omega arith } }

decls-pushed : (rule : R D) (c : Counted) (d : D) → AreDecls rule c → IsDecl rule d → has_place c.1 ≡ true → AreDecls rule (pushed c.0 d, c.1 + 1)
decls-pushed rule c d r p room = record {
  low = λ ds h e.
      let u = pushed-low c.0 d ds h e in
      let f = r.low u.front u.front_height u.front_is in
      let last : ADecl rule = record { decl_is = u.last; again = p.low u.last u.last_height u.last_is } in
      let count = f.count_is in
      let grown : length (f.all ++ last ∷ []) ≡ length f.all + 1 = length-append f.all (last ∷ []) in
      record {
        all = f.all ++ last ∷ [];
        are = u.value ∙ (ap (λ (l : List Decl). l ++ u.last ∷ []) f.are ∙ sym (map-append (λ (x : ADecl rule). x.decl_is) f.all (last ∷ [])));
        count_is = omega (arith, count, grown);
        within = grind (arith, room);
      };
}

gives-capped : (b : Bool) (rule : R D) → Gives rule (IsDecl rule) → Gives (Capped b rule) (λ (d : D). IsDecl rule d × (b ≡ true))
gives-capped true rule g = gives-less (λ d p. (p, refl)) g
gives-capped false rule g = gives-refused (λ (d : D). IsDecl rule d × (false ≡ true)) (has kinds.Declaration) TooMany

gives-next : (rule : R D) → Gives rule (IsDecl rule) → (c : Counted) → AreDecls rule c → Gives (NextDecl true rule c) (AreDecls rule)
gives-next rule g c r = gives-then (gives-capped (has_place c.1) rule g) (λ d p. gives-pure (pushed c.0 d, c.1 + 1) (AreDecls rule) (decls-pushed rule c d r p.0 p.1))

-- ---- programs

abbrev rule_of : ℕ → R D
rule_of n = Declaration true (suc n) (nest true n).block

record ReadsProgram (n : ℕ) (program : Program) (tokens : List Token) : Type 0 where
  pub tree : Program
  pub height : ℕ
  pub same_imports : map bare_import tree.imports ≡ map bare_import program.imports
  pub same_decls : map view_decl tree.decls ≡ map view_decl program.decls
  pub reads : (Whole (ProgramIn true (suc n))).reads tokens (Low tree height) []

-- the text is cut into tokens that are read as the program
record ProgramAgain (n : ℕ) (program : Program) : Type 0 where
  pub tokens : List Token
  pub cut : Tokens (program_text program) tokens
  pub again : ReadsProgram n program tokens

nothing-cut : Tokens [] (token k.End 0 ∷ [])
nothing-cut =
    let source : (Source 0 source_profile).reads [] (token k.End 0 ∷ []) [] =
    (token k.End 0 ∷ [], [], ([], [], stop refl refl, (first_state [], [], stop refl refl, (refl, refl))), (tt, [], (refl, refl), (refl, refl))) in
    (clean-utf8 [] refl, subst (λ i. (Source 0 source_profile).reads i (token k.End 0 ∷ []) []) (sym (clean-symbols [] refl)) source)

-- the end, and nothing behind it
ends-whole : (n : ℕ) (ms : List (List ℕ × ℕ)) (i j : List Token) (ds : List Decl) (h c p : ℕ) → Turns Import [] i ms j → Turns (NextDecl true (rule_of n)) (none, 0) j (Low ds h, c) (left p 0 []) → (Whole (ProgramIn true (suc n))).reads i (Low (record { imports = ms; decls = ds }) h) []
unfolding ProgramIn
ends-whole n ms i j ds h c p a b =
    let program : Program = record { imports = ms; decls = ds } in
    (Low program h, [], (ms, j, a, ((Low ds h, c), left p 0 [], b, (p, [], mark-reads t.END k.End p [] refl, (refl, refl)))), (tt, [], (refl, refl), (refl, refl)))

program-again : (n : ℕ) (ms : List (List ℕ × ℕ)) (xs : List (ADecl (rule_of n))) → Names ms → length xs ≤ most → ProgramAgain n (record { imports = ms; decls = decls_of (rule_of n) xs })
program-again n [] [] h le = record {
  tokens = token k.End 0 ∷ [];
  cut = nothing-cut;
  again =
      let q = decls-read (rule_of n) 0 [] le in
      record {
        tree = record { imports = []; decls = [] };
        height = 0;
        same_imports = refl;
        same_decls = refl;
        reads = ends-whole n [] (token k.End 0 ∷ []) (token k.End 0 ∷ []) [] 0 0 0 (stop refl refl) (stop refl refl);
      };
}
program-again n [] (x ∷ xs) h le =
    let rule = rule_of n in
    let lines : List Line = decl_rows rule (x ∷ xs) in
    let q = decls-read rule 0 (x ∷ xs) le in
    record {
      tokens = left 0 0 lines;
      cut = subst (λ (l : List ℕ). Tokens l (left 0 0 lines)) (decls-spelled rule (x ∷ xs)) (lines-cut x.again.first (x.again.rest ++ more_rows rule xs) (decls-follow rule (x ∷ xs)));
      again = record {
        tree = record { imports = []; decls = q.read };
        height = q.height;
        same_imports = refl;
        same_decls = q.same;
        reads = ends-whole n [] (left 0 0 lines) (left 0 0 lines) q.read q.height q.count q.place (stop refl refl) q.turns;
      };
    }
program-again n (m ∷ ms) xs h le =
    let rule = rule_of n in
    let lines : List Line = import_rows (m ∷ ms) ++ more_rows rule xs in
    let a = imports-read 0 (m ∷ ms) [] (more_rows rule xs) h (more-follow rule xs) in
    let all : 0 + length xs ≤ most = omega (arith, le) in
    let q = more-read rule a.place xs [] 0 0 all in
    record {
      tokens = left 0 0 lines;
      cut = subst (λ (l : List ℕ). Tokens l (left 0 0 lines))
          (lines-append (import_rows (m ∷ ms)) (more_rows rule xs) ∙ (ap₂ (λ (u v : List ℕ). u ++ v) (imports-spelled (m ∷ ms) h) (more-spelled rule xs) ∙ append_assoc (import_line m) (import_lines ms) (more_decls (decls_of rule xs))))
          (lines-cut (import_pieces m.0) (import_rows ms ++ more_rows rule xs) (imports-follow (m ∷ ms) (more_rows rule xs) h (more-follow rule xs)));
      again = record {
        tree = record { imports = a.read; decls = q.read };
        height = q.height;
        same_imports = a.same;
        same_decls = q.same;
        reads = ends-whole n a.read (left 0 0 lines) (left a.place 0 (more_rows rule xs)) q.read q.height q.count q.place a.turns q.turns;
      };
    }

abbrev program_of : List (List ℕ × ℕ) → List Decl → Program
program_of ms ds = record { imports = ms; decls = ds }

record IsProgram (n : ℕ) (p : Measured Program) : Type 0 where
  pub low : (x : Program) (h : ℕ) → p ≡ Low x h → ProgramAgain n x

program-part : (n : ℕ) (ms : List (List ℕ × ℕ)) (c : Counted) → Names ms → AreDecls (rule_of n) c → IsProgram n (program_node ms c.0)
program-part n ms c v r = record {
  low = λ x h e.
      let f = λ (ds : List Decl). program_of ms ds in
      let m = made-low f c.0 x h e in
      let s = r.low m.of h m.is in
      let is : x ≡ f (decls_of (rule_of n) s.all) = m.value ∙ ap f s.are in
      let count = s.count_is in
      let within = s.within in
      subst (λ (y : Program). ProgramAgain n y) (sym is) (program-again n ms s.all v (omega (arith, count, within)));
}

gives-program : (n : ℕ) → Gives (ProgramIn true (suc n)) (IsProgram n)
unfolding ProgramIn
gives-program n =
    let inner = again-nest n in
    let l = gives-level (suc n) in
    let blocks : Gives (nest true n).block (AnyBlock (nest true n).block) = gives-less (λ b p. record { low = λ ss h e. let q = p.low ss h e in q.again }) inner.blocks in
    gives-then (gives-loop gives-import [] tt) (λ ms v. gives-then (gives-loop (gives-next (rule_of n) (gives-declaration n (nest true n).block l.expr blocks)) (none, 0) (no-decls (rule_of n))) (λ c r.
    gives-then (gives-mark t.END) (λ at h. gives-pure (program_node ms c.0) (IsProgram n) (program-part n ms c v r))))

gives-finish : Gives Finish (λ (u : Unit {0}). Unit {0})
gives-finish = record { gives = λ i x j r h. (tt, subst Proper (r.0 ∙ sym r.1) h) }

gives-whole : {A : Type 0} (P : A → Type 0) (rule : R A) → Gives rule P → Gives (Whole rule) P
gives-whole P rule g = gives-then g (λ a p. gives-then gives-finish (λ u v. gives-pure a P p))

-- ---- the law

views-bare : (ds es : List Decl) → map view_decl ds ≡ map view_decl es → map bare_decl ds ≡ map bare_decl es
views-bare ds es e = sym (map-map view_decl (λ (v : DeclView). v.0) ds) ∙ (ap (λ (vs : List DeclView). map (λ (v : DeclView). v.0) vs) e ∙ map-map view_decl (λ (v : DeclView). v.0) es)

-- the texts of declarations that are seen alike
abbrev shown_more : List DeclView → List ℕ
shown_more [] = []
shown_more (v ∷ vs) = line_end ++ (v.1 ++ shown_more vs)

abbrev shown_decls : List DeclView → List ℕ
shown_decls [] = []
shown_decls (v ∷ vs) = v.1 ++ shown_more vs

more-shown : (ds : List Decl) → more_decls ds ≡ shown_more (map view_decl ds)
more-shown [] = refl
more-shown (d ∷ ds) = ap (λ (l : List ℕ). line_end ++ (decl_text d ++ l)) (more-shown ds)

decls-shown : (ds : List Decl) → decl_lines ds ≡ shown_decls (map view_decl ds)
decls-shown [] = refl
decls-shown (d ∷ ds) = ap (λ (l : List ℕ). decl_text d ++ l) (more-shown ds)

-- and of imports
abbrev program_shown : List (List ℕ × ℕ) → List DeclView → List ℕ
program_shown [] vs = shown_decls vs
program_shown (m ∷ ms) vs = import_line m ++ (import_lines ms ++ shown_more vs)

imports-bare : (ms : List (List ℕ × ℕ)) → import_lines ms ≡ import_lines (map bare_import ms)
imports-bare [] = refl
imports-bare (m ∷ ms) = ap (λ (l : List ℕ). import_line m ++ l) (imports-bare ms)

program-shown : (ms : List (List ℕ × ℕ)) (ds : List Decl) → program_text (program_of ms ds) ≡ program_shown (map bare_import ms) (map view_decl ds)
program-shown [] ds = decls-shown ds
program-shown (m ∷ ms) ds = ap₂ (λ (a b : List ℕ). import_line m ++ (a ++ b)) (imports-bare ms) (more-shown ds)

same-program : (p q : Program) → map bare_import p.imports ≡ map bare_import q.imports → map view_decl p.decls ≡ map view_decl q.decls → IsSame p q
same-program p q e f = record {
  same = ap₂ (λ (ms : List (List ℕ × ℕ)) (ds : List tree.Decl). record { imports = ms; decls = ds }) e (views-bare p.decls q.decls f);
  same_text = program-shown p.imports p.decls ∙ (ap₂ (λ (ms : List (List ℕ × ℕ)) (vs : List DeclView). program_shown ms vs) e f ∙ sym (program-shown q.imports q.decls));
}

derives-again : (tokens : List Token) (program : Program) → Proper tokens → Derives tokens program → ReadsAgain program
derives-again tokens program h d =
    let g = gives-whole (IsProgram 100) (ProgramIn true 101) (gives-program 100) in
    let part = (g.gives tokens (Low program d.height) [] d.text h).0 in
    let a = part.low program d.height refl in
    let r = a.again in
    record {
      tree = r.tree;
      same = same-program r.tree program r.same_imports r.same_decls;
      source = record { tokens = a.tokens; cut = a.cut; derives = record { height = r.height; text = r.reads } };
    }

pub reads-again : (bytes : List ℕ) (program : Program) → IsSource bytes program → ReadsAgain program
reads-again bytes program s = derives-again s.tokens program (proper bytes s.tokens s.cut) s.derives
