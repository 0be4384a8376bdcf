-- Statements that are read again from their texts, and those of one line.
use Rattle.std.proofs.Common.{◌≡◌, ℕ, ◌+◌, ◌≤◌, true, false, true≢false, List, [], ◌∷◌, ◌++◌, codes, Some, None, inl, inr, refl, sym, ap, ap₂, ◌∙◌, subst, arith, append-nil}
use Rattle.std.specs.Str.{encode_utf8_all}
use lib.Utf8.{encode}
use Rattle.wy_data.proofs.WordLemmas.{is_part-ascii}
use Rattle.wy_reading.specs.Rule.{among}
use Rattle.wy_ast.specs.SurfaceTree as tree
use Rattle.wy_ast.specs.declared.expressions.Expr.{Expr}
use Rattle.wy_ast.specs.declared.statements.Stmt.{Stmt}
use Rattle.wy_ast.specs.declared.statements.StmtKind.{StmtKind}
use Rattle.wy_ast.specs.declared.statements.StmtKind.TheVariants as stmt
use Rattle.wy_parse_front.specs.wy_lex.declared.token.Token.{Token}
use Rattle.wy_parse_front.specs.wy_lex.declared.token.TokenKind.{TokenKind}
use Rattle.wy_parse_front.specs.wy_lex.declared.token.TokenKind.TheVariants as k
use Rattle.wy_parse_front.specs.wy_lex.declared.symbol.Character.TheVariants as class
use Rattle.wy_parse_front.specs.wy_lex.Kinds.{word_kind, continues}
use Rattle.wy_parse_front.specs.wy_lex.Layout.{token}
use Rattle.wy_print.specs.ExprText.{shown, expr_text}
use Rattle.wy_print.specs.StmtText.{ShownStmt, one_line, shown_stmt}
use Rattle.wy_parse_front.specs.wy_parse_grammar.declared.measured.Measured.{Measured}
use Rattle.wy_parse_front.specs.wy_parse_grammar.declared.measured.Measured.TheVariants.{Low, High}
use Rattle.wy_parse_front.specs.wy_parse_grammar.declared.sort.Class.TheVariants as kinds
use Rattle.wy_parse_front.specs.wy_parse_grammar.Sorts as t
use Rattle.wy_parse_front.specs.wy_parse_grammar.Sorts.{is, has, sort}
use Rattle.wy_parse_front.specs.wy_parse_grammar.Steps.{R}
use Rattle.wy_parse_front.specs.wy_parse_grammar.Trees.{made, some}
use Rattle.wy_parse_front.specs.wy_parse_grammar.ExprGrammar.{E, Expr_}
use Rattle.wy_parse_front.specs.wy_parse.StmtTrees as trees
use Rattle.wy_parse_front.specs.wy_parse.StmtTrees.{S}
use Rattle.wy_parse_front.specs.wy_parse.StmtGrammar as grammar
use Rattle.wy_print_laws.proofs.round_lemmas.Pieces.{Piece, letters, size, tokens_from, colon_behind, depth-append, last_more, more-append, IsMark, linked-append}
use Rattle.wy_print_laws.proofs.round_lemmas.Pieces.Piece.{gap, mark}
use Rattle.wy_print_laws.proofs.round_lemmas.Marks.{lower-mark}
use Rattle.wy_print_laws.proofs.round_lemmas.Segments.{text_of, text-both, Segment, joined, IsClosed, closed-append, begins_item, Before, after-item, before-blank, leads-append, Item}
use Rattle.wy_print_laws.proofs.round_lemmas.Marked.{colon-mark}
use Rattle.wy_print_laws.proofs.round_lemmas.Heights.{same_part, high_low, made-low}
use Rattle.wy_print_laws.proofs.round_lemmas.Gives.{Gives, gives-pure, gives-one, gives-then, gives-or, gives-mark, numeral-among}
use Rattle.wy_print_laws.proofs.round_lemmas.Commas.{mark-reads, item-any}
use Rattle.wy_print_laws.proofs.round_lemmas.Enclosed.{begins-letter, single-item}
use Rattle.wy_print_laws.proofs.round_lemmas.ExprLines.{Again, IsPart, From, whole-of}
use Rattle.wy_print_laws.proofs.round_lemmas.Lines.{Line, margin, next_at, IsBody, Good, continues_first}
use Rattle.wy_print_laws.proofs.round_lemmas.LineRuns.{lines_text}
use Rattle.wy_print_laws.proofs.round_lemmas.StmtShown.{View, view, view_return_none, return_view, view_return, assert_view, view_assert, bare_break, shown_break, bare_continue, shown_continue, bare_skip, shown_skip, bare_fail, shown_fail}
use Rattle.wy_print_laws.proofs.round_lemmas.StmtLines.{Follows, follows-good, opened, left, line-ends}

-- ---- statements

-- a rule reads a statement that is the same but for its places, and is shown so too; what is left stands before the lines
pub record ReadsStmt (rule : R S) (i : List Token) (s : Stmt) (n : ℕ) (ls : List Line) : Type 0 where
  pub tree : Stmt
  pub place : ℕ
  pub same : view tree ≡ view s
  pub reads : rule.reads i (Low tree 0) (left place n ls)

-- lines that are what is shown, behind any margin, are read as the statement
pub record StmtAgain (rule : R S) (s : Stmt) : Type 0 where
  pub first : List Piece
  pub rest : ℕ → List Line
  pub spelled : (n : ℕ) → text_of first ++ 10 ∷ lines_text (rest n) ≡ (shown_stmt s).text (margin n)
  pub is_body : IsBody first
  pub own : continues_first first ≡ false
  pub good : (n : ℕ) (ls : List Line) → Follows n ls → Good n (colon_behind false first) (rest n ++ ls)
  pub reads : (n at : ℕ) (ls : List Line) → Follows n ls → ReadsStmt rule (opened at first n (rest n ++ ls)) s n ls

-- and it is no 'if'
pub record Plain (rule : R S) (s : Stmt) : Type 0 where
  pub again : StmtAgain rule s
  pub plain : (shown_stmt s).is_if ≡ false

-- what was read, where it is low
pub record IsStmt (rule : R S) (s : S) : Type 0 where
  pub low : (x : Stmt) (h : ℕ) → s ≡ Low x h → Plain rule x

-- a wider rule reads it too
pub again-by : (rule wide : R S) (s : Stmt) → ((i : List Token) (x : S) (j : List Token) → rule.reads i x j → wide.reads i x j) → StmtAgain rule s → StmtAgain wide s
again-by rule wide s f a = record {
  first = a.first;
  rest = a.rest;
  spelled = a.spelled;
  is_body = a.is_body;
  own = a.own;
  good = a.good;
  reads = λ n at ls h.
      let r = a.reads n at ls h in
      record { tree = r.tree; place = r.place; same = r.same; reads = f (opened at a.first n (a.rest n ++ ls)) (Low r.tree 0) (left r.place n ls) r.reads };
}

-- ---- nodes

pub record OfStmt (at : ℕ) (of : Measured StmtKind) (s : Stmt) (h : ℕ) : Type 0 where
  pub kind : StmtKind
  pub below : ℕ
  pub is : of ≡ Low kind below
  pub kind_is : s.kind ≡ kind

pub stmt_node-low : (at : ℕ) (of : Measured StmtKind) (s : Stmt) (h : ℕ) → trees.stmt_node at of ≡ Low s h → OfStmt at of s h
stmt_node-low at (High other) s h e = absurd (high_low other s h e)
stmt_node-low at (Low kind below) s h e =
    let node : Stmt = record { at = at; kind = kind } in
    record { kind = kind; below = below; is = refl; kind_is = ap (λ (x : Stmt). x.kind) (sym (same_part node s 0 h e)) }

-- ---- lines

pub item-body : (ps : List Piece) → Item true true ps → IsBody ps
item-body ps h = record {
  leads = h.leads;
  linked = h.segment.linked class.Blank (before-blank, λ x. refl);
  closed = h.closed.closed 0;
  last = after-item true (last_more class.Blank ps) 10 (h.segment.last class.Blank (before-blank, λ x. refl)) (is_part-ascii 10 (omega arith)) (λ x. refl);
}

abbrev pub colon : List Piece
colon = mark k.Colon (58 ∷ []) class.Nothing ∷ []

pub colon-text : text_of colon ≡ codes ":"
unfolding encode
colon-text = refl

pub item-colon : (ps : List Piece) → Item true true ps → IsBody (ps ++ colon)
item-colon ps h = record {
  leads = leads-append ps colon h.leads;
  linked = linked-append class.Blank ps colon (h.segment.linked class.Blank (before-blank, λ x. refl))
      (after-item true (last_more class.Blank ps) 58 (h.segment.last class.Blank (before-blank, λ x. refl)) (is_part-ascii 58 (omega arith)) (λ x. refl), colon-mark, tt);
  closed = depth-append 0 ps colon ∙ h.closed.closed 0;
  last = ap (λ m. Rattle.wy_print_laws.proofs.round_lemmas.Pieces.grows m 10) (more-append class.Blank ps colon);
}

-- ---- statements of one line

pub record ReadsLine (rule : R S) (i : List Token) (s : Stmt) (j : List Token) : Type 0 where
  pub tree : Stmt
  pub same : view tree ≡ view s
  pub reads : rule.reads i (Low tree 0) j

pub record LineAgain (rule : R S) (s : Stmt) (text : List ℕ) : Type 0 where
  pub pieces : List Piece
  pub spelled : text_of pieces ≡ text
  pub item : Item true true pieces
  pub own : continues_first pieces ≡ false
  pub reads : (at end : ℕ) (j : List Token) → ReadsLine rule (tokens_from at pieces ++ token k.LineEnd end ∷ j) s j

line-stmt : (rule : R S) (s : Stmt) (text : List ℕ) → shown_stmt s ≡ one_line text → LineAgain rule s text → StmtAgain rule s
line-stmt rule s text e a = record {
  first = a.pieces;
  rest = λ n. [];
  spelled = λ n. ap (λ (x : List ℕ). x ++ 10 ∷ []) a.spelled ∙ ap (λ (u : ShownStmt). u.text (margin n)) (sym e);
  is_body = item-body a.pieces a.item;
  own = a.own;
  good = λ n ls f. follows-good n n (colon_behind false a.pieces) ls (omega arith) f;
  reads = λ n at ls f.
      let there = at + size (letters a.pieces) in
      let p = next_at there ls in
      let r = a.reads at there (left p n ls) in
      record {
        tree = r.tree;
        place = p;
        same = r.same;
        reads = subst (λ (x : List Token). rule.reads (tokens_from at a.pieces ++ x) (Low r.tree 0) (left p n ls)) (sym (line-ends there p n ls f)) r.reads;
      };
}

pub line-again : (rule : R S) (s : Stmt) (text : List ℕ) → shown_stmt s ≡ one_line text → LineAgain rule s text → Plain rule s
line-again rule s text e a = record { again = line-stmt rule s text e a; plain = ap (λ (u : ShownStmt). u.is_if) e }

-- ---- words

pub return-mark : IsMark k.Return (codes "return") class.Part
unfolding word_kind encode
return-mark = lower-mark k.Return 114 (101 ∷ 116 ∷ 117 ∷ 114 ∷ 110 ∷ []) refl refl refl

pub assert-mark : IsMark k.Assert (codes "assert") class.Part
unfolding word_kind encode
assert-mark = lower-mark k.Assert 97 (115 ∷ 115 ∷ 101 ∷ 114 ∷ 116 ∷ []) refl refl refl

pub break-mark : IsMark k.Break (codes "break") class.Part
unfolding word_kind encode
break-mark = lower-mark k.Break 98 (114 ∷ 101 ∷ 97 ∷ 107 ∷ []) refl refl refl

pub continue-mark : IsMark k.Continue (codes "continue") class.Part
unfolding word_kind encode
continue-mark = lower-mark k.Continue 99 (111 ∷ 110 ∷ 116 ∷ 105 ∷ 110 ∷ 117 ∷ 101 ∷ []) refl refl refl

pub skip-mark : IsMark k.Skip (codes "skip") class.Part
unfolding word_kind encode
skip-mark = lower-mark k.Skip 115 (107 ∷ 105 ∷ 112 ∷ []) refl refl refl

pub fail-mark : IsMark k.Fail (codes "fail") class.Part
unfolding word_kind encode
fail-mark = lower-mark k.Fail 102 (97 ∷ 105 ∷ 108 ∷ []) refl refl refl

-- a word and a space
abbrev pub word_gap : TokenKind → List ℕ → List Piece
word_gap kind word = mark kind word class.Part ∷ gap ∷ []

pub word_gap-segment : (kind : TokenKind) (c : ℕ) (cs : List ℕ) → IsMark kind (c ∷ cs) class.Part → begins_item c ≡ true → Segment (Before true) (word_gap kind (c ∷ cs)) (Before true)
word_gap-segment kind c cs h b = record { linked = λ m q. (q.0 c b, h, (is_part-ascii 32 (omega arith), tt)); last = λ m q. (before-blank, λ x. refl) }

pub behind-word : (kind : TokenKind) (c : ℕ) (cs : List ℕ) (ps : List Piece) → IsMark kind (c ∷ cs) class.Part → begins_item c ≡ true → IsClosed (word_gap kind (c ∷ cs)) → Item true true ps → Item true true (word_gap kind (c ∷ cs) ++ ps)
behind-word kind c cs ps h b f x = record {
  segment = joined (word_gap kind (c ∷ cs)) ps (word_gap-segment kind c cs h b) x.segment;
  leads = tt;
  closed = closed-append (word_gap kind (c ∷ cs)) ps f x.closed;
}

-- ---- statements of a word

record IsWord (kind : TokenKind) (of : StmtKind) (word : List ℕ) (bare : tree.Stmt) : Type 0 where
  pub has_it : among (t.members kinds.Word) (sort kind) ≡ true
  pub of_is : grammar.word_kind kind ≡ of
  pub shows : (s : Stmt) → s.kind ≡ of → shown_stmt s ≡ one_line word
  pub bare_is : (s : Stmt) → s.kind ≡ of → Rattle.wy_print_laws.specs.round.BareStmt.bare_stmt s ≡ bare
  pub first : ℕ
  pub others : List ℕ
  pub spelled : encode_utf8_all (first ∷ others) ≡ word
  pub written : IsMark kind (first ∷ others) class.Part
  pub begins : begins_item first ≡ true
  pub flat : IsClosed (mark kind (first ∷ others) class.Part ∷ [])
  pub own : continues kind ≡ false

word-break : IsWord k.Break stmt.Break (codes "break") (tree.BreakStmt 0)
unfolding encode
word-break = record { has_it = refl; of_is = refl; shows = shown_break; bare_is = bare_break; first = 98; others = 114 ∷ 101 ∷ 97 ∷ 107 ∷ []; spelled = refl; written = break-mark; begins = begins-letter 98 (omega arith) refl; flat = record { closed = λ d. refl }; own = refl }

word-continue : IsWord k.Continue stmt.Continue (codes "continue") (tree.ContinueStmt 0)
unfolding encode
word-continue = record { has_it = refl; of_is = refl; shows = shown_continue; bare_is = bare_continue; first = 99; others = 111 ∷ 110 ∷ 116 ∷ 105 ∷ 110 ∷ 117 ∷ 101 ∷ []; spelled = refl; written = continue-mark; begins = begins-letter 99 (omega arith) refl; flat = record { closed = λ d. refl }; own = refl }

word-skip : IsWord k.Skip stmt.Skip (codes "skip") (tree.SkipStmt 0)
unfolding encode
word-skip = record { has_it = refl; of_is = refl; shows = shown_skip; bare_is = bare_skip; first = 115; others = 107 ∷ 105 ∷ 112 ∷ []; spelled = refl; written = skip-mark; begins = begins-letter 115 (omega arith) refl; flat = record { closed = λ d. refl }; own = refl }

word-fail : IsWord k.Fail stmt.Fail (codes "fail") (tree.FailStmt 0)
unfolding encode
word-fail = record { has_it = refl; of_is = refl; shows = shown_fail; bare_is = bare_fail; first = 102; others = 97 ∷ 105 ∷ 108 ∷ []; spelled = refl; written = fail-mark; begins = begins-letter 102 (omega arith) refl; flat = record { closed = λ d. refl }; own = refl }

both_seen : (s : Stmt) (b : tree.Stmt) (u : ShownStmt) → Rattle.wy_print_laws.specs.round.BareStmt.bare_stmt s ≡ b → shown_stmt s ≡ u → view s ≡ (b, u)
both_seen s b u e f = ap₂ (λ (c : tree.Stmt) (v : ShownStmt). (c, v)) e f

word-again : (kind : TokenKind) (of : StmtKind) (word : List ℕ) (bare : tree.Stmt) → IsWord kind of word bare → (s : Stmt) → s.kind ≡ of → LineAgain grammar.WordStmt s word
unfolding grammar.WordStmt
word-again kind of word bare w s is = record {
  pieces = mark kind (w.first ∷ w.others) class.Part ∷ [];
  spelled = ap encode_utf8_all (append-nil (w.first ∷ w.others)) ∙ w.spelled;
  item = item-any false false (mark kind (w.first ∷ w.others) class.Part ∷ []) (single-item kind w.first w.others class.Part w.written w.begins tt w.flat);
  own = w.own;
  reads = reads;
}
  where
    reads : (at end : ℕ) (j : List Token) → ReadsLine grammar.WordStmt (token kind at ∷ token k.LineEnd end ∷ j) s j
    reads at end j =
        let node : Stmt = record { at = at; kind = of } in
        let path : Low node 0 ≡ trees.stmt_node at (Low (grammar.word_kind kind) 0) = ap (λ x. trees.stmt_node at (Low x 0)) (sym w.of_is) in
        record {
          tree = node;
          same = both_seen node bare (one_line word) (w.bare_is node refl) (w.shows node refl) ∙ sym (both_seen s bare (one_line word) (w.bare_is s is) (w.shows s is));
          reads = (Low node 0, token k.LineEnd end ∷ j, (token kind at, token k.LineEnd end ∷ j, (w.has_it, refl), (path, refl)), (end, j, mark-reads t.LINE_END k.LineEnd end j refl, (refl, refl)));
        }

word-part : (at : ℕ) (kind : TokenKind) (of : StmtKind) (word : List ℕ) (bare : tree.Stmt) → IsWord kind of word bare → IsStmt grammar.WordStmt (trees.stmt_node at (Low (grammar.word_kind kind) 0))
word-part at kind of word bare w = record {
  low = λ s h e.
      let is : s.kind ≡ of = ap (λ (x : Stmt). x.kind) (sym (same_part (record { at = at; kind = grammar.word_kind kind }) s 0 h e)) ∙ w.of_is in
      line-again grammar.WordStmt s word (w.shows s is) (word-again kind of word bare w s is);
}

word-kinds : (at : ℕ) (kind : TokenKind) → among (t.members kinds.Word) (sort kind) ≡ true → IsStmt grammar.WordStmt (trees.stmt_node at (Low (grammar.word_kind kind) 0))
word-kinds at k.Break h = word-part at k.Break stmt.Break (codes "break") (tree.BreakStmt 0) word-break
word-kinds at k.Continue h = word-part at k.Continue stmt.Continue (codes "continue") (tree.ContinueStmt 0) word-continue
word-kinds at k.Skip h = word-part at k.Skip stmt.Skip (codes "skip") (tree.SkipStmt 0) word-skip
word-kinds at k.Fail h = word-part at k.Fail stmt.Fail (codes "fail") (tree.FailStmt 0) word-fail
word-kinds at (k.Numeral z) h = absurd (true≢false (sym h ∙ numeral-among (t.members kinds.Word) z refl refl refl))
word-kinds at _ h = absurd (true≢false (sym h))

pub gives-word : Gives grammar.WordStmt (IsStmt grammar.WordStmt)
unfolding grammar.WordStmt
gives-word =
    gives-then (gives-then (gives-one (has kinds.Word)) (λ s h. gives-pure (trees.stmt_node s.at (Low (grammar.word_kind s.kind) 0)) (IsStmt grammar.WordStmt) (word-kinds s.at s.kind h.0)))
    (λ st p. gives-then (gives-mark t.LINE_END) (λ e h. gives-pure st (IsStmt grammar.WordStmt) p))

-- ---- what is given back, and assertions

return_none-again : (n : ℕ) (s : Stmt) → s.kind ≡ stmt.Return None → LineAgain (grammar.ReturnStmt true n) s (codes "return" ++ [])
unfolding encode grammar.ReturnStmt
return_none-again n s is = record {
  pieces = mark k.Return (codes "return") class.Part ∷ [];
  spelled = refl;
  item = item-any false false (mark k.Return (codes "return") class.Part ∷ []) (single-item k.Return 114 (101 ∷ 116 ∷ 117 ∷ 114 ∷ 110 ∷ []) class.Part return-mark (begins-letter 114 (omega arith) refl) tt (record { closed = λ d. refl }));
  own = refl;
  reads = reads;
}
  where
    reads : (at end : ℕ) (j : List Token) → ReadsLine (grammar.ReturnStmt true n) (token k.Return at ∷ token k.LineEnd end ∷ j) s j
    reads at end j =
        let node : Stmt = record { at = at; kind = stmt.Return None } in
        record {
          tree = node;
          same = view_return_none node refl ∙ sym (view_return_none s is);
          reads = (at, token k.LineEnd end ∷ j, mark-reads t.RETURN k.Return at (token k.LineEnd end ∷ j) refl, inl (end, j, mark-reads t.LINE_END k.LineEnd end j refl, (refl, refl)));
        }

return-again : (n : ℕ) (s : Stmt) (x : Expr) (h : ℕ) → s.kind ≡ stmt.Return (Some x) → Again n (λ m. Expr_ true m) (shown x) x h → LineAgain (grammar.ReturnStmt true n) s (codes "return" ++ (codes " " ++ expr_text x))
unfolding encode grammar.ReturnStmt
return-again n s x h is a = record {
  pieces = word_gap k.Return (codes "return") ++ a.pieces;
  spelled = text-both (word_gap k.Return (codes "return")) a.pieces (codes "return ") (expr_text x) refl a.spelled;
  item = behind-word k.Return 114 (101 ∷ 116 ∷ 117 ∷ 114 ∷ 110 ∷ []) a.pieces return-mark (begins-letter 114 (omega arith) refl) (record { closed = λ d. refl }) (item-any (shown x).begins (shown x).ends a.pieces a.item);
  own = refl;
  reads = reads;
}
  where
    reads : (at end : ℕ) (j : List Token) → ReadsLine (grammar.ReturnStmt true n) (tokens_from at (word_gap k.Return (codes "return") ++ a.pieces) ++ token k.LineEnd end ∷ j) s j
    reads at end j =
        let there = (at + size (codes "return")) + 1 in
        let rest : List Token = tokens_from there a.pieces ++ token k.LineEnd end ∷ j in
        let same_level : n ≤ n = omega arith in
        let r = a.reads n same_level there (token k.LineEnd end ∷ j) in
        let node : Stmt = record { at = at; kind = stmt.Return (Some r.tree) } in
        record {
          tree = node;
          same = view_return node r.tree refl ∙ (ap return_view r.same ∙ sym (view_return s x is));
          reads = (at, rest, mark-reads t.RETURN k.Return at rest refl, inr (Low r.tree h, token k.LineEnd end ∷ j, r.reads, (end, j, mark-reads t.LINE_END k.LineEnd end j refl, (refl, refl))));
        }

return-part : (n at : ℕ) (x : E) → IsPart (From 0) n x → IsStmt (grammar.ReturnStmt true n) (trees.return_node at (some x))
return-part n at x p = record {
  low = λ s h e.
      let o = stmt_node-low at (made stmt.Return (some x)) s h e in
      let m = made-low stmt.Return (some x) o.kind o.below o.is in
      let q = made-low Some x m.of o.below m.is in
      let is : s.kind ≡ stmt.Return (Some q.of) = o.kind_is ∙ (m.value ∙ ap stmt.Return q.value) in
      line-again (grammar.ReturnStmt true n) s (codes "return" ++ (codes " " ++ expr_text q.of)) (ap (λ (v : View). v.1) (view_return s q.of is)) (return-again n s q.of o.below is (whole-of (From 0) n q.of o.below (p.low q.of o.below q.is)));
}

return_none-part : (n at : ℕ) → IsStmt (grammar.ReturnStmt true n) (trees.return_node at (Low None 0))
return_none-part n at = record {
  low = λ s h e.
      let is : s.kind ≡ stmt.Return None = ap (λ (x : Stmt). x.kind) (sym (same_part (record { at = at; kind = stmt.Return None }) s 0 h e)) in
      line-again (grammar.ReturnStmt true n) s (codes "return" ++ []) (ap (λ (v : View). v.1) (view_return_none s is)) (return_none-again n s is);
}

pub gives-return : (n : ℕ) → Gives (Expr_ true n) (IsPart (From 0) n) → Gives (grammar.ReturnStmt true n) (IsStmt (grammar.ReturnStmt true n))
unfolding grammar.ReturnStmt
gives-return n expr =
    gives-then (gives-mark t.RETURN) (λ at h.
    gives-or (gives-then (gives-mark t.LINE_END) (λ e g. gives-pure (trees.return_node at (Low None 0)) (IsStmt (grammar.ReturnStmt true n)) (return_none-part n at)))
    (gives-then expr (λ x p. gives-then (gives-mark t.LINE_END) (λ e g. gives-pure (trees.return_node at (some x)) (IsStmt (grammar.ReturnStmt true n)) (return-part n at x p)))))

assert-again : (n : ℕ) (s : Stmt) (x : Expr) (h : ℕ) → s.kind ≡ stmt.Assert x → Again n (λ m. Expr_ true m) (shown x) x h → LineAgain (grammar.AssertStmt true n) s (codes "assert " ++ expr_text x)
unfolding encode grammar.AssertStmt
assert-again n s x h is a = record {
  pieces = word_gap k.Assert (codes "assert") ++ a.pieces;
  spelled = text-both (word_gap k.Assert (codes "assert")) a.pieces (codes "assert ") (expr_text x) refl a.spelled;
  item = behind-word k.Assert 97 (115 ∷ 115 ∷ 101 ∷ 114 ∷ 116 ∷ []) a.pieces assert-mark (begins-letter 97 (omega arith) refl) (record { closed = λ d. refl }) (item-any (shown x).begins (shown x).ends a.pieces a.item);
  own = refl;
  reads = reads;
}
  where
    reads : (at end : ℕ) (j : List Token) → ReadsLine (grammar.AssertStmt true n) (tokens_from at (word_gap k.Assert (codes "assert") ++ a.pieces) ++ token k.LineEnd end ∷ j) s j
    reads at end j =
        let there = (at + size (codes "assert")) + 1 in
        let rest : List Token = tokens_from there a.pieces ++ token k.LineEnd end ∷ j in
        let same_level : n ≤ n = omega arith in
        let r = a.reads n same_level there (token k.LineEnd end ∷ j) in
        let node : Stmt = record { at = at; kind = stmt.Assert r.tree } in
        record {
          tree = node;
          same = view_assert node r.tree refl ∙ (ap assert_view r.same ∙ sym (view_assert s x is));
          reads = (at, rest, mark-reads t.ASSERT k.Assert at rest refl, (Low r.tree h, token k.LineEnd end ∷ j, r.reads, (end, j, mark-reads t.LINE_END k.LineEnd end j refl, (refl, refl))));
        }

assert-part : (n at : ℕ) (x : E) → IsPart (From 0) n x → IsStmt (grammar.AssertStmt true n) (trees.assert_node at x)
assert-part n at x p = record {
  low = λ s h e.
      let o = stmt_node-low at (made stmt.Assert x) s h e in
      let m = made-low stmt.Assert x o.kind o.below o.is in
      let is : s.kind ≡ stmt.Assert m.of = o.kind_is ∙ m.value in
      line-again (grammar.AssertStmt true n) s (codes "assert " ++ expr_text m.of) (ap (λ (v : View). v.1) (view_assert s m.of is)) (assert-again n s m.of o.below is (whole-of (From 0) n m.of o.below (p.low m.of o.below m.is)));
}

pub gives-assert : (n : ℕ) → Gives (Expr_ true n) (IsPart (From 0) n) → Gives (grammar.AssertStmt true n) (IsStmt (grammar.AssertStmt true n))
unfolding grammar.AssertStmt
gives-assert n expr =
    gives-then (gives-mark t.ASSERT) (λ at h. gives-then expr (λ x p. gives-then (gives-mark t.LINE_END) (λ e g. gives-pure (trees.assert_node at x) (IsStmt (grammar.AssertStmt true n)) (assert-part n at x p))))
