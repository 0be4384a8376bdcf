-- Loops are read again.
use Rattle.std.proofs.Common.{◌≡◌, ℕ, suc, ◌+◌, true, false, List, [], ◌∷◌, ◌++◌, map, codes, refl, sym, ap, ap₂, ◌∙◌, subst, arith, append_assoc, append-nil}
use Rattle.std.specs.Str.{chars}
use lib.Utf8.{encode}
use Rattle.wy_data.specs.Words.{IsName}
use Rattle.wy_ast.specs.declared.expressions.Expr.{Expr}
use Rattle.wy_ast.specs.declared.statements.Stmt.{Stmt}
use Rattle.wy_ast.specs.declared.statements.StmtKind.TheVariants as stmt
use Rattle.wy_parse_front.specs.wy_lex.declared.token.Token.{Token}
use Rattle.wy_parse_front.specs.wy_lex.declared.token.TokenKind.TheVariants as k
use Rattle.wy_parse_front.specs.wy_lex.declared.symbol.Character.TheVariants as class
use Rattle.wy_parse_front.specs.wy_lex.Kinds.{word_kind}
use Rattle.wy_parse_front.specs.wy_lex.Layout.{token}
use Rattle.wy_print.specs.ExprText.{shown, part, expr_text, expr_texts, range_text}
use Rattle.wy_print.specs.StmtText.{ShownStmt, block, clause_lines, shown_stmt}
use Rattle.wy_parse_front.specs.wy_parse_grammar.declared.measured.Measured.TheVariants.{Low}
use Rattle.wy_parse_front.specs.wy_parse_grammar.Sorts as t
use Rattle.wy_parse_front.specs.wy_parse_grammar.Steps.{R}
use Rattle.wy_parse_front.specs.wy_parse_grammar.Trees.{both, made, none}
use Rattle.wy_parse_front.specs.wy_parse_grammar.ExprGrammar.{E, Args, Expr_, SumIn}
use Rattle.wy_parse_front.specs.wy_parse.StmtTrees as trees
use Rattle.wy_parse_front.specs.wy_parse.StmtTrees.{Stmts}
use Rattle.wy_parse_front.specs.wy_parse.StmtGrammar as grammar
use Rattle.wy_parse_front.specs.wy_parse.BlockGrammar.{WhileStmt, DoStmt, ForStmt}
use Rattle.wy_print_laws.proofs.round_lemmas.Pieces.{Piece, letters, size, tokens_from, IsMark}
use Rattle.wy_print_laws.proofs.round_lemmas.Pieces.Piece.{mark}
use Rattle.wy_print_laws.proofs.round_lemmas.Marks.{lower-mark}
use Rattle.wy_print_laws.proofs.round_lemmas.Segments.{text_of, text-both, joined, closed-append, Item}
use Rattle.wy_print_laws.proofs.round_lemmas.Heights.{made-low, both-low}
use Rattle.wy_print_laws.proofs.round_lemmas.Gives.{Gives, gives-pure, gives-then, gives-mark, gives-name}
use Rattle.wy_print_laws.proofs.round_lemmas.Commas.{mark-reads, tokens-behind, item-any}
use Rattle.wy_print_laws.proofs.round_lemmas.Enclosed.{begins-letter, single-item, name-reads}
use Rattle.wy_print_laws.proofs.round_lemmas.ExprShown as exprs
use Rattle.wy_print_laws.proofs.round_lemmas.ExprLines.{Line, Again, IsPart, From, whole-of}
use Rattle.wy_print_laws.proofs.round_lemmas.ExprUnary.{operand-at}
use Rattle.wy_print_laws.proofs.round_lemmas.ExprRanges.{in_pieces, in_pieces-text, in_pieces-segment, dots, dots-text, dots-segment}
use Rattle.wy_print_laws.proofs.round_lemmas.Lines.{Line as SourceLine, margin, behind, next_at, Good}
use Rattle.wy_print_laws.proofs.round_lemmas.Lines.Line.{fresh}
use Rattle.wy_print_laws.proofs.round_lemmas.LineRuns.{lines_text}
use Rattle.wy_print_laws.proofs.round_lemmas.StmtShown.{View, view, while_view, view_while, while-shown, do_view, view_do, do-shown, for_view, view_for, for-shown}
use Rattle.wy_print_laws.proofs.round_lemmas.StmtLines.{Follows, follows-good, opened, left, left-begun, line-ends, begun-text, lines-append}
use Rattle.wy_print_laws.proofs.round_lemmas.StmtOne.{StmtAgain, IsStmt, stmt_node-low, item-colon, colon, word_gap, word_gap-segment, behind-word}
use Rattle.wy_print_laws.proofs.round_lemmas.StmtHeads.{head_first, head_rest, head-good, head-text, following, head-tokens, AnExpr, exprs_of, heights, AreExprs, clauses-end, head-body, head-end, head-own, wheres_pieces, are-wheres, wheres-text, wheres-read, exprs-none, gives-wheres}
use Rattle.wy_print_laws.proofs.round_lemmas.StmtBlocks.{BlockAgain, blocked_rest, blocked-good, blocked-text, blocked-tokens, colon_end, colon-block}

-- ---- the heads

pub while-mark : IsMark k.While (codes "while") class.Part
unfolding word_kind encode
while-mark = lower-mark k.While 119 (104 ∷ 105 ∷ 108 ∷ 101 ∷ []) refl refl refl

do-mark : IsMark k.Do (codes "do") class.Part
unfolding word_kind encode
do-mark = lower-mark k.Do 100 (111 ∷ []) refl refl refl

for-mark : IsMark k.For (codes "for") class.Part
unfolding word_kind encode
for-mark = lower-mark k.For 102 (111 ∷ 114 ∷ []) refl refl refl

while-text : text_of (word_gap k.While (codes "while")) ≡ codes "while "
unfolding encode
while-text = refl

for-text : text_of (word_gap k.For (codes "for")) ≡ codes "for "
unfolding encode
for-text = refl

-- 'while' and a test
abbrev while_pieces : List Piece → List Piece
while_pieces ps = word_gap k.While (codes "while") ++ ps

while-item : (ps : List Piece) → Item true true ps → Item true true (while_pieces ps)
while-item ps h = behind-word k.While 119 (104 ∷ 105 ∷ 108 ∷ 101 ∷ []) ps while-mark (begins-letter 119 (omega arith) refl) (record { closed = λ d. refl }) h

while-spelled : (ps : List Piece) (text : List ℕ) → text_of ps ≡ text → text_of (while_pieces ps) ≡ codes "while " ++ text
while-spelled ps text e = text-both (word_gap k.While (codes "while")) ps (codes "while ") text while-text e

-- ---- loops with a test before their block

while-again : (n : ℕ) (rule : R Stmts) (s : Stmt) (x : Expr) (h : ℕ) (all : List (AnExpr n)) (body : List Stmt) → s.kind ≡ stmt.While x (exprs_of n all) body
    → Again n (λ m. Expr_ true m) (shown x) x h → BlockAgain rule body → StmtAgain (WhileStmt true n rule) s
unfolding WhileStmt grammar.Wheres
while-again n rule s x h all body is a b =
    let ps : List Piece = while_pieces a.pieces in
    let cs : List (List Piece) = wheres_pieces n all in
    let whole : Item true true ps = while-item a.pieces (item-any (shown x).begins (shown x).ends a.pieces a.item) in
    record {
      first = head_first ps cs colon;
      rest = λ m. blocked_rest m cs b.inner;
      spelled = λ m.
          let clauses : List ℕ = clause_lines (margin m) (codes "where ") (expr_texts (exprs_of n all)) in
          let blocked : List ℕ = block (margin m) (map shown_stmt body) in
          blocked-text rule body b m ps cs (codes "while " ++ expr_text x) clauses (while-spelled a.pieces (expr_text x) a.spelled) (wheres-text n m all)
          ∙ (ap (λ (l : List ℕ). l ++ blocked) (append_assoc (codes "while ") (expr_text x) clauses)
          ∙ ap (λ (u : ShownStmt). u.text (margin m)) (sym (while-shown s x (exprs_of n all) body is)));
      is_body = head-body ps cs whole;
      own = head-own ps cs colon tt refl;
      good = λ m ls f. blocked-good rule body b m ps cs ls (are-wheres n all) f;
      reads = λ m at ls f.
          let inner : List SourceLine = b.inner (suc m) ++ ls in
          let there = (at + size (codes "while")) + 1 in
          let next = at + size (letters ps) in
          let clauses : List Token = following next m cs colon inner in
          let tokens : List Token = tokens_from there a.pieces ++ clauses in
          let text_is = blocked-tokens at m ps cs b.inner ls in
          let r = a.reads n (omega arith) there clauses in
          let w = wheres-read n next m all [] 0 colon inner in
          let q = colon-block rule body b w.place m ls f in
          let block_text : List Token = behind (colon_end w.place) (next_at (colon_end w.place) inner) m inner in
          let node : Stmt = record { at = at; kind = stmt.While r.tree w.read q.trees } in
          let path : (WhileStmt true n rule).reads (token k.While at ∷ tokens) (Low node 0) (left q.place m ls) = (
            at,
            tokens,
            mark-reads t.WHILE k.While at tokens refl,
            (
              Low r.tree h,
              clauses,
              r.reads,
              (
                Low w.read (heights n 0 all),
                opened w.place colon m inner,
                w.turns,
                (w.place, block_text, mark-reads t.COLON k.Colon w.place block_text refl, (Low q.trees 0, left q.place m ls, q.reads, (refl, refl))),
              ),
            ),
          ) in
          record {
            tree = node;
            place = q.place;
            same = view_while node r.tree w.read q.trees refl
                ∙ (ap₂ (λ (v : exprs.View) (vs : List exprs.View). while_view v vs (map view q.trees)) r.same w.same
                ∙ (ap (λ (ws : List View). while_view (exprs.view x) (map exprs.view (exprs_of n all)) ws) q.same ∙ sym (view_while s x (exprs_of n all) body is)));
            reads = subst (λ (i : List Token). (WhileStmt true n rule).reads i (Low node 0) (left q.place m ls)) (sym text_is) path;
          };
    }

-- a block that was read
pub record AnyBlock (rule : R Stmts) (b : Stmts) : Type 0 where
  pub low : (ss : List Stmt) (h : ℕ) → b ≡ Low ss h → BlockAgain rule ss

while-part : (n at : ℕ) (rule : R Stmts) (x : E) (es : Args) (b : Stmts) → IsPart (From 0) n x → AreExprs n es → AnyBlock rule b → IsStmt (WhileStmt true n rule) (trees.while_node at x es b)
while-part n at rule x es b p q r = record {
  low = λ s h e.
      let f = λ (c : Expr × (List Expr × List Stmt)). stmt.While c.0 c.1.0 c.1.1 in
      let o = stmt_node-low at (made f (both x (both es b))) s h e in
      let m = made-low f (both x (both es b)) o.kind o.below o.is in
      let u = both-low x (both es b) m.of o.below m.is in
      let v = both-low es b u.second u.second_height u.second_is in
      let all = q.low v.first v.first_height v.first_is in
      let is : s.kind ≡ stmt.While u.first (exprs_of n all.all) v.second =
      o.kind_is ∙ (m.value ∙ (ap f u.value ∙ (ap (λ (c : List Expr × List Stmt). stmt.While u.first c.0 c.1) v.value ∙ ap (λ (c : List Expr). stmt.While u.first c v.second) all.exprs_are))) in
      record {
        again = while-again n rule s u.first u.first_height all.all v.second is (whole-of (From 0) n u.first u.first_height (p.low u.first u.first_height u.first_is)) (r.low v.second v.second_height v.second_is);
        plain = ap (λ (w : ShownStmt). w.is_if) (while-shown s u.first (exprs_of n all.all) v.second is);
      };
}

pub gives-while : (n : ℕ) (rule : R Stmts) → Gives (Expr_ true n) (IsPart (From 0) n) → Gives rule (AnyBlock rule) → Gives (WhileStmt true n rule) (IsStmt (WhileStmt true n rule))
unfolding WhileStmt
gives-while n rule expr block_is =
    gives-then (gives-mark t.WHILE) (λ at h. gives-then expr (λ x p. gives-then (gives-wheres n expr none (exprs-none n)) (λ es q. gives-then (gives-mark t.COLON) (λ c g. gives-then block_is (λ b r.
    gives-pure (trees.while_node at x es b) (IsStmt (WhileStmt true n rule)) (while-part n at rule x es b p q r))))))

-- ---- loops with a test behind their block

abbrev do_pieces : List Piece
do_pieces = mark k.Do (codes "do") class.Part ∷ []

do-item : Item true true do_pieces
do-item = item-any false false do_pieces (single-item k.Do 100 (111 ∷ []) class.Part do-mark (begins-letter 100 (omega arith) refl) tt (record { closed = λ d. refl }))

do-text : text_of (do_pieces ++ colon) ≡ codes "do:"
unfolding encode
do-text = refl

do-again : (n : ℕ) (rule : R Stmts) (s : Stmt) (x : Expr) (h : ℕ) (all : List (AnExpr n)) (body : List Stmt) → s.kind ≡ stmt.Do body x (exprs_of n all)
    → Again n (λ m. Expr_ true m) (shown x) x h → BlockAgain rule body → StmtAgain (DoStmt true n rule) s
unfolding DoStmt grammar.Wheres
do-again n rule s x h all body is a b =
    let ps : List Piece = while_pieces a.pieces in
    let cs : List (List Piece) = wheres_pieces n all in
    let whole : Item true true ps = while-item a.pieces (item-any (shown x).begins (shown x).ends a.pieces a.item) in
    let last : ℕ → List SourceLine = λ m. fresh m (head_first ps cs []) ∷ head_rest m cs [] in
    let ends : (m : ℕ) (ls : List SourceLine) → Follows m ls → Follows m (last m ++ ls) =
    λ m ls f. (omega arith, head-end ps cs whole, head-own ps cs [] tt refl, head-good m [] ps cs ls false (clauses-end cs (are-wheres n all)) (λ c. follows-good m m c ls (omega arith) f)) in
    record {
      first = do_pieces ++ colon;
      rest = λ m. b.inner (suc m) ++ last m;
      spelled = λ m.
          let text : List ℕ = expr_text x in
          let clauses : List ℕ = clause_lines (margin m) (codes "where ") (expr_texts (exprs_of n all)) in
          let tail : lines_text (last m) ≡ margin m ++ ((codes "while " ++ (text ++ clauses)) ++ 10 ∷ []) =
          begun-text m (head_first ps cs []) (head_rest m cs [])
          ∙ ap (λ (l : List ℕ). margin m ++ l)
          (ap (λ (l : List SourceLine). text_of (head_first ps cs []) ++ 10 ∷ lines_text l) (sym (append-nil (head_rest m cs [])))
          ∙ (head-text m [] ps cs []
          ∙ (ap₂ (λ (u v : List ℕ). u ++ (v ++ 10 ∷ [])) (while-spelled a.pieces text a.spelled) (wheres-text n m all)
          ∙ (sym (append_assoc (codes "while " ++ text) clauses (10 ∷ [])) ∙ ap (λ (l : List ℕ). l ++ 10 ∷ []) (append_assoc (codes "while ") text clauses))))) in
          ap₂ (λ (u v : List ℕ). u ++ 10 ∷ v) do-text (lines-append (b.inner (suc m)) (last m) ∙ ap₂ (λ (u v : List ℕ). u ++ v) (b.spelled (suc m)) tail)
          ∙ ap (λ (u : ShownStmt). u.text (margin m)) (sym (do-shown s body x (exprs_of n all) is));
      is_body = item-colon do_pieces do-item;
      own = refl;
      good = λ m ls f. subst (λ (l : List SourceLine). Good m true l) (sym (append_assoc (b.inner (suc m)) (last m) ls)) (b.good m (last m ++ ls) (ends m ls f));
      reads = λ m at ls f.
          let behind_it : List SourceLine = last m ++ ls in
          let f_last : Follows m behind_it = ends m ls f in
          let sign = at + size (codes "do") in
          let block_text : List Token = behind (colon_end sign) (next_at (colon_end sign) (b.inner (suc m) ++ behind_it)) m (b.inner (suc m) ++ behind_it) in
          let text_is : opened at (do_pieces ++ colon) m ((b.inner (suc m) ++ last m) ++ ls) ≡ token k.Do at ∷ token k.Colon sign ∷ block_text =
          ap (λ (l : List SourceLine). opened at (do_pieces ++ colon) m l) (append_assoc (b.inner (suc m)) (last m) ls) ∙ head-tokens at m colon do_pieces [] (b.inner (suc m) ++ behind_it) in
          let q = colon-block rule body b sign m behind_it f_last in
          let word = q.place in
          let there = (word + size (codes "while")) + 1 in
          let next = word + size (letters ps) in
          let clauses : List Token = following next m cs [] ls in
          let tokens : List Token = tokens_from there a.pieces ++ clauses in
          let tail_is : left word m behind_it ≡ token k.While word ∷ tokens = left-begun word m (head_first ps cs []) (head_rest m cs [] ++ ls) ∙ head-tokens word m [] ps cs ls in
          let r = a.reads n (omega arith) there clauses in
          let w = wheres-read n next m all [] 0 [] ls in
          let end = w.place + size [] in
          let place = next_at end ls in
          let line_is : opened w.place [] m ls ≡ token k.LineEnd end ∷ left place m ls = line-ends end place m ls f in
          let node : Stmt = record { at = at; kind = stmt.Do q.trees r.tree w.read } in
          let turns = subst (λ (i : List Token). Rattle.wy_reading.specs.Rule.Turns (grammar.Where true n) none (following next m cs [] ls) (Low w.read (heights n 0 all)) i) line_is w.turns in
          let reads_block = subst (λ (i : List Token). rule.reads block_text (Low q.trees 0) i) tail_is q.reads in
          let path : (DoStmt true n rule).reads (token k.Do at ∷ token k.Colon sign ∷ block_text) (Low node 0) (left place m ls) = (
            at,
            token k.Colon sign ∷ block_text,
            mark-reads t.DO k.Do at (token k.Colon sign ∷ block_text) refl,
            (
              sign,
              block_text,
              mark-reads t.COLON k.Colon sign block_text refl,
              (
                Low q.trees 0,
                token k.While word ∷ tokens,
                reads_block,
                (
                  word,
                  tokens,
                  mark-reads t.WHILE k.While word tokens refl,
                  (
                    Low r.tree h,
                    clauses,
                    r.reads,
                    (Low w.read (heights n 0 all), token k.LineEnd end ∷ left place m ls, turns, (end, left place m ls, mark-reads t.LINE_END k.LineEnd end (left place m ls) refl, (refl, refl))),
                  ),
                ),
              ),
            ),
          ) in
          record {
            tree = node;
            place = place;
            same = view_do node q.trees r.tree w.read refl
                ∙ (ap₂ (λ (v : exprs.View) (vs : List exprs.View). do_view (map view q.trees) v vs) r.same w.same
                ∙ (ap (λ (ws : List View). do_view ws (exprs.view x) (map exprs.view (exprs_of n all))) q.same ∙ sym (view_do s body x (exprs_of n all) is)));
            reads = subst (λ (i : List Token). (DoStmt true n rule).reads i (Low node 0) (left place m ls)) (sym text_is) path;
          };
    }

do-part : (n at : ℕ) (rule : R Stmts) (b : Stmts) (x : E) (es : Args) → AnyBlock rule b → IsPart (From 0) n x → AreExprs n es → IsStmt (DoStmt true n rule) (trees.do_node at b x es)
do-part n at rule b x es r p q = record {
  low = λ s h e.
      let f = λ (c : List Stmt × (Expr × List Expr)). stmt.Do c.0 c.1.0 c.1.1 in
      let o = stmt_node-low at (made f (both b (both x es))) s h e in
      let m = made-low f (both b (both x es)) o.kind o.below o.is in
      let u = both-low b (both x es) m.of o.below m.is in
      let v = both-low x es u.second u.second_height u.second_is in
      let all = q.low v.second v.second_height v.second_is in
      let is : s.kind ≡ stmt.Do u.first v.first (exprs_of n all.all) =
      o.kind_is ∙ (m.value ∙ (ap f u.value ∙ (ap (λ (c : Expr × List Expr). stmt.Do u.first c.0 c.1) v.value ∙ ap (λ (c : List Expr). stmt.Do u.first v.first c) all.exprs_are))) in
      record {
        again = do-again n rule s v.first v.first_height all.all u.first is (whole-of (From 0) n v.first v.first_height (p.low v.first v.first_height v.first_is)) (r.low u.first u.first_height u.first_is);
        plain = ap (λ (w : ShownStmt). w.is_if) (do-shown s u.first v.first (exprs_of n all.all) is);
      };
}

pub gives-do : (n : ℕ) (rule : R Stmts) → Gives (Expr_ true n) (IsPart (From 0) n) → Gives rule (AnyBlock rule) → Gives (DoStmt true n rule) (IsStmt (DoStmt true n rule))
unfolding DoStmt
gives-do n rule expr block_is =
    gives-then (gives-mark t.DO) (λ at h. gives-then (gives-mark t.COLON) (λ c g. gives-then block_is (λ b r. gives-then (gives-mark t.WHILE) (λ w i. gives-then expr (λ x p. gives-then (gives-wheres n expr none (exprs-none n)) (λ es q.
    gives-then (gives-mark t.LINE_END) (λ l j. gives-pure (trees.do_node at b x es) (IsStmt (DoStmt true n rule)) (do-part n at rule b x es r p q))))))))

-- ---- loops over a range

-- pieces of a range behind 'for'
abbrev range_pieces : List ℕ → List Piece → List Piece → List Piece
range_pieces name ps qs = in_pieces name ++ (ps ++ (dots ++ qs))

abbrev for_pieces : List ℕ → List Piece → List Piece → List Piece
for_pieces name ps qs = word_gap k.For (codes "for") ++ range_pieces name ps qs

for-item : (name : List ℕ) (ps qs : List Piece) → IsName name → Item true true ps → Item true true qs → Item true true (for_pieces name ps qs)
for-item name ps qs v h g = record {
  segment = joined (word_gap k.For (codes "for")) (range_pieces name ps qs) (word_gap-segment k.For 102 (111 ∷ 114 ∷ []) for-mark (begins-letter 102 (omega arith) refl))
      (joined (in_pieces name) (ps ++ (dots ++ qs)) (in_pieces-segment name v) (joined ps (dots ++ qs) h.segment (joined dots qs (dots-segment true true) g.segment)));
  leads = tt;
  closed = closed-append (word_gap k.For (codes "for")) (range_pieces name ps qs) (record { closed = λ d. refl })
      (closed-append (in_pieces name) (ps ++ (dots ++ qs)) (record { closed = λ d. refl }) (closed-append ps (dots ++ qs) h.closed (closed-append dots qs (record { closed = λ d. refl }) g.closed)));
}

for-spelled : (name : List ℕ) (ps qs : List Piece) (x y : Expr) → IsName name → text_of ps ≡ (part 4 (shown x)).text → text_of qs ≡ (part 4 (shown y)).text → text_of (for_pieces name ps qs) ≡ codes "for " ++ range_text name (shown x) (shown y)
for-spelled name ps qs x y v e f =
    text-both (word_gap k.For (codes "for")) (range_pieces name ps qs) (codes "for ") (range_text name (shown x) (shown y)) for-text
    (text-both (in_pieces name) (ps ++ (dots ++ qs)) (name ++ codes " in ") ((part 4 (shown x)).text ++ (codes ".." ++ (part 4 (shown y)).text)) (in_pieces-text name v)
    (text-both ps (dots ++ qs) (part 4 (shown x)).text (codes ".." ++ (part 4 (shown y)).text) e (text-both dots qs (codes "..") (part 4 (shown y)).text dots-text f)))

for-again : (n : ℕ) (rule : R Stmts) (s : Stmt) (name : List ℕ) (x y : Expr) (h l : ℕ) (all : List (AnExpr n)) (body : List Stmt) → s.kind ≡ stmt.For name x y (exprs_of n all) body → IsName name
    → Again n (Line 4) (part 4 (shown x)) x h → Again n (Line 4) (part 4 (shown y)) y l → BlockAgain rule body → StmtAgain (ForStmt true n rule) s
unfolding ForStmt grammar.Wheres SumIn
for-again n rule s name x y h l all body is v a c b =
    let ps : List Piece = for_pieces name a.pieces c.pieces in
    let cs : List (List Piece) = wheres_pieces n all in
    let whole : Item true true ps = for-item name a.pieces c.pieces v (item-any (part 4 (shown x)).begins (part 4 (shown x)).ends a.pieces a.item) (item-any (part 4 (shown y)).begins (part 4 (shown y)).ends c.pieces c.item) in
    record {
      first = head_first ps cs colon;
      rest = λ m. blocked_rest m cs b.inner;
      spelled = λ m.
          let text : List ℕ = range_text name (shown x) (shown y) in
          let clauses : List ℕ = clause_lines (margin m) (codes "where ") (expr_texts (exprs_of n all)) in
          let blocked : List ℕ = block (margin m) (map shown_stmt body) in
          blocked-text rule body b m ps cs (codes "for " ++ text) clauses (for-spelled name a.pieces c.pieces x y v a.spelled c.spelled) (wheres-text n m all)
          ∙ (ap (λ (u : List ℕ). u ++ blocked) (append_assoc (codes "for ") text clauses)
          ∙ ap (λ (u : ShownStmt). u.text (margin m)) (sym (for-shown s name x y (exprs_of n all) body is)));
      is_body = head-body ps cs whole;
      own = head-own ps cs colon tt refl;
      good = λ m ls f. blocked-good rule body b m ps cs ls (are-wheres n all) f;
      reads = λ m at ls f.
          let inner : List SourceLine = b.inner (suc m) ++ ls in
          let name_at = (at + size (codes "for")) + 1 in
          let in_at = (name_at + size (chars name)) + 1 in
          let first_at = (in_at + size (codes "in")) + 1 in
          let dots_at = first_at + size (letters a.pieces) in
          let second_at = dots_at + size (46 ∷ 46 ∷ []) in
          let next = at + size (letters ps) in
          let clauses : List Token = following next m cs colon inner in
          let second_text : List Token = tokens_from second_at c.pieces ++ clauses in
          let first_text : List Token = tokens_from first_at a.pieces ++ token k.Range dots_at ∷ second_text in
          let text_is : opened at (head_first ps cs colon) m (blocked_rest m cs b.inner ++ ls) ≡ token k.For at ∷ token (k.Name name) name_at ∷ token k.In in_at ∷ first_text =
          blocked-tokens at m ps cs b.inner ls ∙ ap (λ (i : List Token). token k.For at ∷ token (k.Name name) name_at ∷ token k.In in_at ∷ i) (tokens-behind first_at a.pieces (dots ++ c.pieces) clauses) in
          let r = a.reads n (omega arith) first_at (token k.Range dots_at ∷ second_text) in
          let z = c.reads n (omega arith) second_at clauses in
          let w = wheres-read n next m all [] 0 colon inner in
          let q = colon-block rule body b w.place m ls f in
          let block_text : List Token = behind (colon_end w.place) (next_at (colon_end w.place) inner) m inner in
          let node : Stmt = record { at = at; kind = stmt.For name r.tree z.tree w.read q.trees } in
          let in_text : List Token = token k.In in_at ∷ first_text in
          let path : (ForStmt true n rule).reads (token k.For at ∷ token (k.Name name) name_at ∷ in_text) (Low node 0) (left q.place m ls) = (
            at,
            token (k.Name name) name_at ∷ in_text,
            mark-reads t.FOR k.For at (token (k.Name name) name_at ∷ in_text) refl,
            (
              (name_at, name),
              in_text,
              name-reads name name_at in_text,
              (
                in_at,
                first_text,
                mark-reads t.IN k.In in_at first_text refl,
                (
                  Low r.tree h,
                  token k.Range dots_at ∷ second_text,
                  r.reads,
                  (
                    dots_at,
                    second_text,
                    mark-reads t.RANGE k.Range dots_at second_text refl,
                    (
                      Low z.tree l,
                      clauses,
                      z.reads,
                      (
                        Low w.read (heights n 0 all),
                        opened w.place colon m inner,
                        w.turns,
                        (w.place, block_text, mark-reads t.COLON k.Colon w.place block_text refl, (Low q.trees 0, left q.place m ls, q.reads, (refl, refl))),
                      ),
                    ),
                  ),
                ),
              ),
            ),
          ) in
          record {
            tree = node;
            place = q.place;
            same = view_for node name r.tree z.tree w.read q.trees refl
                ∙ (ap₂ (λ (v : exprs.View) (u : exprs.View). for_view name v u (map exprs.view w.read) (map view q.trees)) r.same z.same
                ∙ (ap₂ (λ (vs : List exprs.View) (ws : List View). for_view name (exprs.view x) (exprs.view y) vs ws) w.same q.same ∙ sym (view_for s name x y (exprs_of n all) body is)));
            reads = subst (λ (i : List Token). (ForStmt true n rule).reads i (Low node 0) (left q.place m ls)) (sym text_is) path;
          };
    }

for-part : (n at : ℕ) (rule : R Stmts) (name : List ℕ) (x y : E) (es : Args) (b : Stmts) → IsName name → IsPart (From 4) n x → IsPart (From 4) n y → AreExprs n es → AnyBlock rule b → IsStmt (ForStmt true n rule) (trees.for_node at name (both x y) es b)
for-part n at rule name x y es b v p z q r = record {
  low = λ s h e.
      let f = λ (c : (Expr × Expr) × (List Expr × List Stmt)). stmt.For name c.0.0 c.0.1 c.1.0 c.1.1 in
      let o = stmt_node-low at (made f (both (both x y) (both es b))) s h e in
      let m = made-low f (both (both x y) (both es b)) o.kind o.below o.is in
      let u = both-low (both x y) (both es b) m.of o.below m.is in
      let i = both-low x y u.first u.first_height u.first_is in
      let j = both-low es b u.second u.second_height u.second_is in
      let all = q.low j.first j.first_height j.first_is in
      let is : s.kind ≡ stmt.For name i.first i.second (exprs_of n all.all) j.second =
      o.kind_is ∙ (m.value ∙ (ap f u.value ∙ (ap₂ (λ (c : Expr × Expr) (d : List Expr × List Stmt). stmt.For name c.0 c.1 d.0 d.1) i.value j.value ∙ ap (λ (c : List Expr). stmt.For name i.first i.second c j.second) all.exprs_are))) in
      record {
        again = for-again n rule s name i.first i.second i.first_height i.second_height all.all j.second is v
            (operand-at n 4 i.first i.first_height (omega arith) (omega arith) (p.low i.first i.first_height i.first_is)) (operand-at n 4 i.second i.second_height (omega arith) (omega arith) (z.low i.second i.second_height i.second_is)) (r.low j.second j.second_height j.second_is);
        plain = ap (λ (w : ShownStmt). w.is_if) (for-shown s name i.first i.second (exprs_of n all.all) j.second is);
      };
}

pub gives-for : (n : ℕ) (rule : R Stmts) → Gives (Expr_ true n) (IsPart (From 0) n) → Gives (SumIn true n) (IsPart (From 4) n) → Gives rule (AnyBlock rule) → Gives (ForStmt true n rule) (IsStmt (ForStmt true n rule))
unfolding ForStmt
gives-for n rule expr sum block_is =
    gives-then (gives-mark t.FOR) (λ at h. gives-then gives-name (λ w v. gives-then (gives-mark t.IN) (λ i g. gives-then sum (λ x p. gives-then (gives-mark t.RANGE) (λ d j. gives-then sum (λ y z.
    gives-then (gives-wheres n expr none (exprs-none n)) (λ es q. gives-then (gives-mark t.COLON) (λ c l. gives-then block_is (λ b r.
    gives-pure (trees.for_node at w.1 (both x y) es b) (IsStmt (ForStmt true n rule)) (for-part n at rule w.1 x y es b v p z q r))))))))))
