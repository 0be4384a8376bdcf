-- Blocks: statements one behind the other, a level deeper than their header; and loops with a test before their block.
use Rattle.std.proofs.Common.{◌≡◌, ℕ, suc, ◌+◌, ◌≤◌, true, false, List, [], ◌∷◌, ◌++◌, map, refl, sym, ap, ap₂, ◌∙◌, subst, arith, append_assoc, append-nil}
use Rattle.wy_reading.specs.Rule.{Turns}
use Rattle.wy_reading.specs.Rule.Turns.{stop, more}
use Rattle.wy_ast.specs.declared.statements.Stmt.{Stmt}
use Rattle.wy_parse_front.specs.wy_lex.declared.token.Token.{Token}
use Rattle.wy_print.specs.StmtText.{lines, block, shown_stmt}
use Rattle.wy_parse_front.specs.wy_parse_grammar.declared.measured.Measured.TheVariants.{Low}
use Rattle.wy_parse_front.specs.wy_parse_grammar.Steps.{R}
use Rattle.wy_parse_front.specs.wy_parse_grammar.Trees.{pushed}
use Rattle.wy_parse_front.specs.wy_parse.StmtTrees.{S, Stmts}
use Rattle.wy_print_laws.proofs.round_lemmas.Pieces.{Piece, letters, size, tokens_from, colon_behind}
use Rattle.wy_print_laws.proofs.round_lemmas.Segments.{text_of}
use Rattle.wy_print_laws.proofs.round_lemmas.Lines.{Line, margin, behind, next_at, Good}
use Rattle.wy_print_laws.proofs.round_lemmas.Lines.Line.{fresh}
use Rattle.wy_print_laws.proofs.round_lemmas.LineRuns.{lines_text}
use Rattle.wy_print_laws.proofs.round_lemmas.StmtShown.{View, view}
use Rattle.wy_print_laws.proofs.round_lemmas.StmtLines.{Follows, opened, left, left-begun, begun-text, lines-append}
use Rattle.wy_print_laws.proofs.round_lemmas.StmtOne.{StmtAgain, colon, colon-text}
use Rattle.wy_print_laws.proofs.round_lemmas.StmtHeads.{head_first, head_rest, head-good, clause_bytes, head-text, following, head-tokens, Clauses, clauses-colon}

-- ---- statements one behind the other

-- a statement with what its text is read as
pub record AStmt (rule : R S) : Type 0 where
  pub stmt_is : Stmt
  pub again : StmtAgain rule stmt_is

abbrev pub stmts_of : (rule : R S) → List (AStmt rule) → List Stmt
stmts_of rule xs = map (λ (x : AStmt rule). x.stmt_is) xs

-- their lines, each on the level
abbrev pub all_lines : (rule : R S) → ℕ → List (AStmt rule) → List Line
all_lines rule n [] = []
all_lines rule n (x ∷ xs) = fresh n x.again.first ∷ (x.again.rest n ++ all_lines rule n xs)

pub follows-lines : (rule : R S) (n : ℕ) (xs : List (AStmt rule)) (ls : List Line) → Follows n ls → Follows n (all_lines rule n xs ++ ls)
follows-lines rule n [] ls f = f
follows-lines rule n (x ∷ xs) ls f =
    let same : n ≤ n = omega arith in (
      same,
      x.again.is_body,
      x.again.own,
      subst (λ (l : List Line). Good n (colon_behind false x.again.first) l) (sym (append_assoc (x.again.rest n) (all_lines rule n xs) ls)) (x.again.good n (all_lines rule n xs ++ ls) (follows-lines rule n xs ls f)),
    )

pub lines-spelled : (rule : R S) (n : ℕ) (xs : List (AStmt rule)) → lines_text (all_lines rule n xs) ≡ lines (margin n) (map shown_stmt (stmts_of rule xs))
lines-spelled rule n [] = refl
lines-spelled rule n (x ∷ xs) =
    begun-text n x.again.first (x.again.rest n ++ all_lines rule n xs)
    ∙ ap (λ (l : List ℕ). margin n ++ l)
    (ap (λ (l : List ℕ). text_of x.again.first ++ 10 ∷ l) (lines-append (x.again.rest n) (all_lines rule n xs))
    ∙ (sym (append_assoc (text_of x.again.first) (10 ∷ lines_text (x.again.rest n)) (lines_text (all_lines rule n xs)))
    ∙ ap₂ (λ (a b : List ℕ). a ++ b) (x.again.spelled n) (lines-spelled rule n xs)))

-- one more statement, as the rules of blocks have it
abbrev pub Piece_of : R S → Stmts → R Stmts
Piece_of rule ss = Rattle.wy_reading.specs.Rule.Then rule (λ st. Rattle.wy_reading.specs.Rule.Pure (pushed ss st))

pub record ReadsStmts (rule : R S) (xs : List (AStmt rule)) (ss : List Stmt) (i : List Token) (n : ℕ) (ls : List Line) : Type 0 where
  pub read : List Stmt
  pub same : map view read ≡ map view (stmts_of rule xs)
  pub place : ℕ
  pub turns : Turns (Piece_of rule) (Low ss 0) i (Low (ss ++ read) 0) (left place n ls)

pub stmts-read : (rule : R S) (p n : ℕ) (xs : List (AStmt rule)) (ss : List Stmt) (ls : List Line) → Follows n ls → ReadsStmts rule xs ss (left p n (all_lines rule n xs ++ ls)) n ls
stmts-read rule p n [] ss ls f = record { read = []; same = refl; place = p; turns = stop (ap (λ (q : List Stmt). Low q 0) (append-nil ss)) refl }
stmts-read rule p n (x ∷ xs) ss ls f =
    let rest : List Line = all_lines rule n xs ++ ls in
    let r = x.again.reads n p rest (follows-lines rule n xs ls f) in
    let q = stmts-read rule r.place n xs (ss ++ r.tree ∷ []) ls f in
    let text_is : left p n (all_lines rule n (x ∷ xs) ++ ls) ≡ opened p x.again.first n (x.again.rest n ++ rest) =
    left-begun p n x.again.first ((x.again.rest n ++ all_lines rule n xs) ++ ls) ∙ ap (λ (l : List Line). opened p x.again.first n l) (append_assoc (x.again.rest n) (all_lines rule n xs) ls) in
    let turn : (Piece_of rule (Low ss 0)).reads (opened p x.again.first n (x.again.rest n ++ rest)) (Low (ss ++ r.tree ∷ []) 0) (left r.place n rest) = (Low r.tree 0, left r.place n rest, r.reads, (refl, refl)) in
    record {
      read = r.tree ∷ q.read;
      same = ap₂ (λ (v : View) (vs : List View). v ∷ vs) r.same q.same;
      place = q.place;
      turns = subst (λ (i : List Token). Turns (Piece_of rule) (Low ss 0) i (Low (ss ++ r.tree ∷ q.read) 0) (left q.place n ls)) (sym text_is)
          (more (Low (ss ++ r.tree ∷ []) 0) (left r.place n rest) turn
          (subst (λ (a : List Stmt). Turns (Piece_of rule) (Low (ss ++ r.tree ∷ []) 0) (left r.place n rest) (Low a 0) (left q.place n ls)) (append_assoc ss (r.tree ∷ []) q.read) q.turns));
    }

-- ---- blocks

pub record ReadsBlock (rule : R Stmts) (i : List Token) (ss : List Stmt) (n : ℕ) (ls : List Line) : Type 0 where
  pub trees : List Stmt
  pub place : ℕ
  pub same : map view trees ≡ map view ss
  pub reads : rule.reads i (Low trees 0) (left place n ls)

-- lines on the level are read as a block behind a header whose line ends before them
pub record BlockAgain (rule : R Stmts) (ss : List Stmt) : Type 0 where
  pub inner : ℕ → List Line
  pub spelled : (n : ℕ) → lines_text (inner n) ≡ lines (margin n) (map shown_stmt ss)
  pub good : (n : ℕ) (ls : List Line) → Follows n ls → Good n true (inner (suc n) ++ ls)
  pub reads : (n end at : ℕ) (ls : List Line) → Follows n ls → ReadsBlock rule (behind end at n (inner (suc n) ++ ls)) ss n ls

-- ---- a head with clauses, a colon and a block

abbrev pub blocked_rest : ℕ → List (List Piece) → (ℕ → List Line) → List Line
blocked_rest m cs inner = head_rest m cs colon ++ inner (suc m)

pub blocked-good : (rule : R Stmts) (ss : List Stmt) (b : BlockAgain rule ss) (m : ℕ) (ps : List Piece) (cs : List (List Piece)) (ls : List Line) → Clauses cs → Follows m ls
    → Good m (colon_behind false (head_first ps cs colon)) (blocked_rest m cs b.inner ++ ls)
blocked-good rule ss b m ps cs ls h f =
    subst (λ (l : List Line). Good m (colon_behind false (head_first ps cs colon)) l) (sym (append_assoc (head_rest m cs colon) (b.inner (suc m)) ls))
    (head-good m colon ps cs (b.inner (suc m) ++ ls) false (clauses-colon cs h) (λ c. b.good m ls f))

pub blocked-text : (rule : R Stmts) (ss : List Stmt) (b : BlockAgain rule ss) (m : ℕ) (ps : List Piece) (cs : List (List Piece)) (text clauses : List ℕ) → text_of ps ≡ text → clause_bytes m cs ≡ clauses
    → text_of (head_first ps cs colon) ++ 10 ∷ lines_text (blocked_rest m cs b.inner) ≡ (text ++ clauses) ++ block (margin m) (map shown_stmt ss)
blocked-text rule ss b m ps cs text clauses e f =
    head-text m colon ps cs (b.inner (suc m))
    ∙ (ap₂ (λ (u v : List ℕ). u ++ v) e (ap₂ (λ (u v : List ℕ). u ++ v) f (ap₂ (λ (u v : List ℕ). u ++ 10 ∷ v) colon-text (b.spelled (suc m))))
    ∙ sym (append_assoc text clauses (block (margin m) (map shown_stmt ss))))

pub blocked-tokens : (at m : ℕ) (ps : List Piece) (cs : List (List Piece)) (inner : ℕ → List Line) (ls : List Line)
    → opened at (head_first ps cs colon) m (blocked_rest m cs inner ++ ls) ≡ tokens_from at ps ++ following (at + size (letters ps)) m cs colon (inner (suc m) ++ ls)
blocked-tokens at m ps cs inner ls =
    ap (λ (l : List Line). opened at (head_first ps cs colon) m l) (append_assoc (head_rest m cs colon) (inner (suc m)) ls) ∙ head-tokens at m colon ps cs (inner (suc m) ++ ls)

-- behind a colon
abbrev pub colon_end : ℕ → ℕ
colon_end p = p + size (letters colon)

pub colon-block : (rule : R Stmts) (ss : List Stmt) (b : BlockAgain rule ss) (p m : ℕ) (ls : List Line) → Follows m ls
    → ReadsBlock rule (behind (colon_end p) (next_at (colon_end p) (b.inner (suc m) ++ ls)) m (b.inner (suc m) ++ ls)) ss m ls
colon-block rule ss b p m ls f = b.reads m (colon_end p) (next_at (colon_end p) (b.inner (suc m) ++ ls)) ls f
