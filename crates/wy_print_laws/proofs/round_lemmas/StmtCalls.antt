-- Calls and assignments, and statements that begin with a name.
use Rattle.std.proofs.Common.{◌≡◌, ℕ, suc, ◌+◌, ◌≤◌, true, false, max, List, [], ◌∷◌, ◌++◌, map, codes, inl, inr, refl, sym, ap, ap₂, ◌∙◌, subst, arith, append_assoc, append-nil}
use Rattle.std.specs.Str.{chars}
use lib.Utf8.{encode}
use Rattle.wy_data.specs.Words.{IsName}
use Rattle.wy_data.proofs.WordLemmas.{is_start-ascii, is_part-ascii}
use Rattle.wy_reading.specs.Rule.{Turns}
use Rattle.wy_reading.specs.Rule.Turns.{stop, more}
use Rattle.wy_ast.specs.declared.expressions.Expr.{Expr}
use Rattle.wy_ast.specs.declared.statements.Stmt.{Stmt}
use Rattle.wy_ast.specs.declared.statements.StmtKind.TheVariants as stmt
use Rattle.wy_ast.specs.declared.statements.Step.{Step}
use Rattle.wy_ast.specs.declared.statements.StepKind.TheVariants as step
use Rattle.wy_parse_front.specs.wy_lex.declared.token.Token.{Token}
use Rattle.wy_parse_front.specs.wy_lex.declared.token.TokenKind.TheVariants as k
use Rattle.wy_parse_front.specs.wy_lex.declared.symbol.Character.{Character}
use Rattle.wy_parse_front.specs.wy_lex.declared.symbol.Character.TheVariants as class
use Rattle.wy_parse_front.specs.wy_lex.Layout.{token}
use Rattle.wy_print.specs.Pieces.{listed, joined as joined_texts}
use Rattle.wy_print.specs.ExprText.{shown, expr_text, expr_texts, called}
use Rattle.wy_print.specs.StmtText.{step_text}
use Rattle.wy_parse_front.specs.wy_parse_grammar.declared.measured.Measured.TheVariants.{Low}
use Rattle.wy_parse_front.specs.wy_parse_grammar.Sorts as t
use Rattle.wy_parse_front.specs.wy_parse_grammar.Steps.{inside}
use Rattle.wy_parse_front.specs.wy_parse_grammar.Trees.{made, both, pushed, none, named_ty, array_ty}
use Rattle.wy_parse_front.specs.wy_parse_grammar.ExprGrammar.{E, Args, Expr_, ArgsIn}
use Rattle.wy_parse_front.specs.wy_parse.StmtTrees as trees
use Rattle.wy_parse_front.specs.wy_parse.StmtTrees.{S, Path}
use Rattle.wy_parse_front.specs.wy_parse.StmtGrammar as grammar
use Rattle.wy_print_laws.proofs.round_lemmas.Pieces.{Piece, letters, size, tokens_from}
use Rattle.wy_print_laws.proofs.round_lemmas.Pieces.Piece.{mark}
use Rattle.wy_print_laws.proofs.round_lemmas.Segments.{text_of, text-both, Segment, joined, before_more, IsClosed, closed-nil, closed-append, no_item-ascii, before-is, After, after-item}
use Rattle.wy_print_laws.proofs.round_lemmas.Marked.{dot-mark}
use Rattle.wy_print_laws.proofs.round_lemmas.Heights.{made-low, both-low, pushed-low, same_part, same_height}
use Rattle.wy_print_laws.proofs.round_lemmas.Gives.{Gives, gives-pure, gives-then, gives-or, gives-loop, gives-mark, gives-inner, gives-name}
use Rattle.wy_print_laws.proofs.round_lemmas.Commas.{mark-reads, turns-end, tokens-behind, item-any, map-append}
use Rattle.wy_print_laws.proofs.round_lemmas.Enclosed.{name_piece, name-item, name-text, name-reads, parens, square, enclosed, enclosed-segment, enclosed-closed, enclosed-text, enclosed-tokens, inside-item, inner-reads}
use Rattle.wy_print_laws.proofs.round_lemmas.TypeRound as types
use Rattle.wy_print_laws.proofs.round_lemmas.ExprShown as exprs
use Rattle.wy_print_laws.proofs.round_lemmas.ExprLines.{Again, IsPart, From, whole-of}
use Rattle.wy_print_laws.proofs.round_lemmas.ExprInside.{IsArgs, AllArgs, all_args}
use Rattle.wy_print_laws.proofs.round_lemmas.StmtShown.{StepView, view_step, index_view, view_index, view_field, assign_view, view_assign, call_view, view_call, call-shown, assign-shown}
use Rattle.wy_print_laws.proofs.round_lemmas.StmtOne.{LineAgain, line-again, IsStmt, stmt_node-low}
use Rattle.wy_print_laws.proofs.round_lemmas.StmtNamed.{Declares, gives-declared, assign_pieces, assign-text, assign-segment}

-- ---- calls

call-again : (n : ℕ) (s : Stmt) (name : List ℕ) (xs : List Expr) (h : ℕ) → s.kind ≡ stmt.Call name xs → IsName name → 1 ≤ inside n → AllArgs (inside n) xs h → LineAgain (Declares n) s (called name (expr_texts xs))
unfolding grammar.NamedStmt grammar.CallStmt ArgsIn
call-again n s name xs h is v deep a = record {
  pieces = name_piece name ∷ enclosed k.OpenParen 40 k.CloseParen 41 a.pieces;
  spelled = text-both (name_piece name ∷ []) (enclosed k.OpenParen 40 k.CloseParen 41 a.pieces) name (codes "(" ++ (listed (expr_texts xs) ++ codes ")")) (name-text name v) (enclosed-text k.OpenParen 40 k.CloseParen 41 a.pieces (listed (expr_texts xs)) parens a.spelled);
  item = item-any false false (name_piece name ∷ enclosed k.OpenParen 40 k.CloseParen 41 a.pieces) (record {
    segment = joined (name_piece name ∷ []) (enclosed k.OpenParen 40 k.CloseParen 41 a.pieces) (name-item name v).segment
        (enclosed-segment (After false) k.OpenParen 40 k.CloseParen 41 a.pieces parens (λ m q. after-item false m 40 q (is_part-ascii 40 (omega arith)) (λ y. refl)) a.inside_is);
    leads = tt;
    closed = closed-append (name_piece name ∷ []) (enclosed k.OpenParen 40 k.CloseParen 41 a.pieces) (record { closed = λ d. refl }) (enclosed-closed k.OpenParen 40 k.CloseParen 41 a.pieces parens a.inside_is);
  });
  own = refl;
  reads = λ at end j.
      let here = at + size (chars name) in
      let within = here + size (40 ∷ []) in
      let there = within + size (letters a.pieces) in
      let behind : List Token = token k.LineEnd end ∷ j in
      let inner : List Token = tokens_from within a.pieces ++ token k.CloseParen there ∷ behind in
      let r = a.reads (inside n) (omega arith) within (token k.CloseParen there ∷ behind) in
      let node : Stmt = record { at = at; kind = stmt.Call name r.0 } in
      let whole : (Declares n).reads (token (k.Name name) at ∷ token k.OpenParen here ∷ inner) (Low node 0) j =
      inl (
        (at, name),
        token k.OpenParen here ∷ inner,
        name-reads name at (token k.OpenParen here ∷ inner),
        inl (
          here,
          inner,
          mark-reads t.OPEN_PAREN k.OpenParen here inner refl,
          (
            Low r.0 h,
            token k.CloseParen there ∷ behind,
            r.2,
            (there, behind, inner-reads (inside n) t.CLOSE_PAREN k.CloseParen there behind deep refl, (end, j, mark-reads t.LINE_END k.LineEnd end j refl, (refl, refl))),
          ),
        ),
      ) in
      record {
        tree = node;
        same = view_call node name r.0 refl ∙ (ap (call_view name) r.1 ∙ sym (view_call s name xs is));
        reads = subst (λ (i : List Token). (Declares n).reads i (Low node 0) j) (ap (λ (l : List Token). token (k.Name name) at ∷ l) (sym (enclosed-tokens here k.OpenParen 40 k.CloseParen 41 a.pieces behind))) whole;
      };
}

call-part : (n at : ℕ) (name : List ℕ) (es : Args) → IsName name → 1 ≤ inside n → IsArgs (inside n) es → IsStmt (Declares n) (trees.call_node at name es)
call-part n at name es v deep p = record {
  low = λ s h e.
      let o = stmt_node-low at (made (λ (l : List Expr). stmt.Call name l) es) s h e in
      let m = made-low (λ (l : List Expr). stmt.Call name l) es o.kind o.below o.is in
      let is : s.kind ≡ stmt.Call name m.of = o.kind_is ∙ m.value in
      line-again (Declares n) s (called name (expr_texts m.of)) (call-shown s name m.of is) (call-again n s name m.of o.below is v deep (all_args (inside n) m.of o.below (p.low m.of o.below m.is)));
}

-- ---- paths

joined-append : (ts : List (List ℕ)) (u : List ℕ) → joined_texts (ts ++ u ∷ []) ≡ joined_texts ts ++ u
joined-append [] u = append-nil u
joined-append (s ∷ ts) u = ap (λ (l : List ℕ). s ++ l) (joined-append ts u) ∙ sym (append_assoc s (joined_texts ts) u)

abbrev path_text : List Step → List ℕ
path_text path = joined_texts (map (λ (p : Step). step_text p.kind) path)

after-wide : (m : Character) → After false m → After true m
after-wide class.Part h = tt
after-wide class.Nothing h = tt
after-wide (class.Is d) h = (h.0, refl)
after-wide class.Any h = absurd h
after-wide class.Blank h = absurd h
after-wide class.LineEnd h = absurd h
after-wide class.NoLineEnd h = absurd h
after-wide class.Start h = absurd h
after-wide class.Digit h = absurd h
after-wide class.Plain h = absurd h
after-wide class.Inside h = absurd h
after-wide class.Sign h = absurd h
after-wide class.Other h = absurd h
after-wide class.Remark h = absurd h
after-wide class.Piece h = absurd h

record PathAgain (n : ℕ) (path : List Step) (h : ℕ) : Type 0 where
  pub pieces : List Piece
  pub spelled : text_of pieces ≡ path_text path
  pub segment : Segment (After true) pieces (After true)
  pub closed : IsClosed pieces
  pub reads : (at : ℕ) (j : List Token) → (qs : List Step) × (map view_step qs ≡ map view_step path) × Turns (grammar.Step true n) none (tokens_from at pieces ++ j) (Low qs h) j

-- a step by itself, behind any others
record StepAgain (n : ℕ) (s : Step) (h : ℕ) : Type 0 where
  pub pieces : List Piece
  pub spelled : text_of pieces ≡ step_text s.kind
  pub segment : Segment (After true) pieces (After true)
  pub closed : IsClosed pieces
  pub reads : (at : ℕ) (j : List Token) (qs : List Step) (l : ℕ) → (r : Step) × (view_step r ≡ view_step s) × (grammar.Step true n (Low qs l)).reads (tokens_from at pieces ++ j) (Low (qs ++ r ∷ []) (max l h)) j

path-none : (n : ℕ) → PathAgain n [] 0
path-none n = record { pieces = []; spelled = refl; segment = record { linked = λ m q. tt; last = λ m q. q }; closed = closed-nil; reads = λ at j. ([], refl, stop refl refl) }

path-more : (n : ℕ) (path : List Step) (l : ℕ) (s : Step) (h : ℕ) → PathAgain n path l → StepAgain n s h → PathAgain n (path ++ s ∷ []) (max l h)
path-more n path l s h a b = record {
  pieces = a.pieces ++ b.pieces;
  spelled =
      text-both a.pieces b.pieces (path_text path) (step_text s.kind) a.spelled b.spelled
      ∙ (sym (joined-append (map (λ (p : Step). step_text p.kind) path) (step_text s.kind)) ∙ ap joined_texts (sym (map-append (λ (p : Step). step_text p.kind) path (s ∷ []))));
  segment = joined a.pieces b.pieces a.segment b.segment;
  closed = closed-append a.pieces b.pieces a.closed b.closed;
  reads = λ at j.
      let there = at + size (letters a.pieces) in
      let r = a.reads at (tokens_from there b.pieces ++ j) in
      let q = b.reads there j r.0 l in (
        r.0 ++ q.0 ∷ [],
        map-append view_step r.0 (q.0 ∷ []) ∙ (ap₂ (λ (ys zs : List StepView). ys ++ zs) r.1 (ap (λ (y : StepView). y ∷ []) q.1) ∙ sym (map-append view_step path (s ∷ []))),
        subst (λ (i : List Token). Turns (grammar.Step true n) none i (Low (r.0 ++ q.0 ∷ []) (max l h)) j) (sym (tokens-behind at a.pieces b.pieces j))
            (turns-end (grammar.Step true n) none (tokens_from at a.pieces ++ (tokens_from there b.pieces ++ j)) (Low r.0 l) (tokens_from there b.pieces ++ j) (Low (r.0 ++ q.0 ∷ []) (max l h)) j r.2 q.2),
      );
}

index-again : (n : ℕ) (s : Step) (x : Expr) (h : ℕ) → s.kind ≡ step.Index x → Again (inside n) (λ m. Expr_ true m) (shown x) x h → StepAgain n s h
index-again n s x h is a = record {
  pieces = enclosed k.OpenBracket 91 k.CloseBracket 93 a.pieces;
  spelled = enclosed-text k.OpenBracket 91 k.CloseBracket 93 a.pieces (expr_text x) square a.spelled ∙ sym (ap step_text is);
  segment = before_more (enclosed k.OpenBracket 91 k.CloseBracket 93 a.pieces) after-wide
      (enclosed-segment (After true) k.OpenBracket 91 k.CloseBracket 93 a.pieces square (λ m q. after-item true m 91 q (is_part-ascii 91 (omega arith)) (λ y. refl)) (inside-item a.pieces (item-any (shown x).begins (shown x).ends a.pieces a.item)));
  closed = enclosed-closed k.OpenBracket 91 k.CloseBracket 93 a.pieces square (inside-item a.pieces (item-any (shown x).begins (shown x).ends a.pieces a.item));
  reads = λ at j qs l.
      let within = at + size (91 ∷ []) in
      let there = within + size (letters a.pieces) in
      let inner : List Token = tokens_from within a.pieces ++ token k.CloseBracket there ∷ j in
      let r = a.reads (inside n) (omega arith) within (token k.CloseBracket there ∷ j) in
      let one : Step = record { at = at; kind = step.Index r.tree } in
      let turn : (grammar.Step true n (Low qs l)).reads (token k.OpenBracket at ∷ inner) (Low (qs ++ one ∷ []) (max l h)) j =
      inl (at, inner, mark-reads t.OPEN_BRACKET k.OpenBracket at inner refl, (Low r.tree h, token k.CloseBracket there ∷ j, r.reads, (there, j, mark-reads t.CLOSE_BRACKET k.CloseBracket there j refl, (refl, refl)))) in (
        one,
        view_index one r.tree refl ∙ (ap index_view r.same ∙ sym (view_index s x is)),
        subst (λ (i : List Token). (grammar.Step true n (Low qs l)).reads i (Low (qs ++ one ∷ []) (max l h)) j) (sym (enclosed-tokens at k.OpenBracket 91 k.CloseBracket 93 a.pieces j)) turn,
      );
}

field-again : (n : ℕ) (s : Step) (name : List ℕ) → s.kind ≡ step.Field name → IsName name → StepAgain n s 0
unfolding encode
field-again n s name is v = record {
  pieces = mark k.Dot (46 ∷ []) (class.Is 46) ∷ name_piece name ∷ [];
  spelled = text-both (mark k.Dot (46 ∷ []) (class.Is 46) ∷ []) (name_piece name ∷ []) (codes ".") name refl (name-text name v) ∙ sym (ap step_text is);
  segment = joined (mark k.Dot (46 ∷ []) (class.Is 46) ∷ []) (name_piece name ∷ [])
      (record { linked = λ m q. (after-item true m 46 q (is_part-ascii 46 (omega arith)) (λ y. refl), dot-mark, tt); last = λ m q. (before-is 46 (no_item-ascii 46 (is_start-ascii 46 (omega arith)) refl), λ y. refl) })
      (item-any false false (name_piece name ∷ []) (name-item name v)).segment;
  closed = record { closed = λ d. refl };
  reads = λ at j qs l.
      let there = at + size (46 ∷ []) in
      let one : Step = record { at = at; kind = step.Field name } in (
        one,
        view_field one name refl ∙ sym (view_field s name is),
        inr (at, token (k.Name name) there ∷ j, mark-reads t.DOT k.Dot at (token (k.Name name) there ∷ j) refl, ((there, name), j, name-reads name there j, (refl, refl))),
      );
}

record IsPath (n : ℕ) (p : Path) : Type 0 where
  pub low : (path : List Step) (h : ℕ) → p ≡ Low path h → PathAgain n path h

none-path : (n : ℕ) → IsPath n none
none-path n = record { low = λ path h e. subst (λ (l : ℕ). PathAgain n path l) (same_height [] path 0 h e) (subst (λ (q : List Step). PathAgain n q 0) (same_part [] path 0 h e) (path-none n)) }

index-path : (n at : ℕ) (p : Path) (x : E) → IsPath n p → IsPart (From 0) (inside n) x → IsPath n (pushed p (trees.index_step at x))
index-path n at p x g f = record {
  low = λ path h e.
      let u = pushed-low p (trees.index_step at x) path h e in
      let m = made-low _ x u.last u.last_height u.last_is in
      let is : u.last.kind ≡ step.Index m.of = ap (λ (s : Step). s.kind) m.value in
      subst (λ (l : ℕ). PathAgain n path l) (sym u.height_is) (subst (λ (q : List Step). PathAgain n q (max u.front_height u.last_height)) (sym u.value)
      (path-more n u.front u.front_height u.last u.last_height (g.low u.front u.front_height u.front_is)
      (index-again n u.last m.of u.last_height is (whole-of (From 0) (inside n) m.of u.last_height (f.low m.of u.last_height m.is)))));
}

field-path : (n at : ℕ) (p : Path) (name : List ℕ) → IsPath n p → IsName name → IsPath n (pushed p (trees.field_step at name))
field-path n at p name g v = record {
  low = λ path h e.
      let u = pushed-low p (trees.field_step at name) path h e in
      let one : Step = record { at = at; kind = step.Field name } in
      let last : one ≡ u.last = same_part one u.last 0 u.last_height u.last_is in
      let flat : 0 ≡ u.last_height = same_height one u.last 0 u.last_height u.last_is in
      let is : u.last.kind ≡ step.Field name = ap (λ (s : Step). s.kind) (sym last) in
      subst (λ (l : ℕ). PathAgain n path l) (sym u.height_is) (subst (λ (q : List Step). PathAgain n q (max u.front_height u.last_height)) (sym u.value)
      (path-more n u.front u.front_height u.last u.last_height (g.low u.front u.front_height u.front_is) (subst (λ (l : ℕ). StepAgain n u.last l) flat (field-again n u.last name is v))));
}

-- ---- assignments

-- a path and a value behind a name, by the rule that makes each choice by the next token
assigned-named : (n at : ℕ) (name : List ℕ) (i : List Token) (st : S) (l : List Token) → (grammar.Assigned true n at name none).reads i st l → (grammar.NamedStmt true n).reads (token (k.Name name) at ∷ i) st l
unfolding grammar.Assigned grammar.NamedStmt grammar.BracketStmt
assigned-named n at name i st l r = by r.0 r.1 r.2 r.3
  where
    by : (q : Path) (m : List Token) → Turns (grammar.Step true n) none i q m → (grammar.Valued true n at name q).reads m st l → (grammar.NamedStmt true n).reads (token (k.Name name) at ∷ i) st l
    by q m (stop a b) v = (
      (at, name),
      i,
      name-reads name at i,
      inr (inr (inr (inr
          (subst (λ (z : List Token). (grammar.Valued true n at name none).reads z st l) (sym b) (subst (λ (p : Path). (grammar.Valued true n at name p).reads m st l) a v))))),
    )
    by q m (more p o (inl turn) rest) v =
        let first : p ≡ pushed none (trees.index_step turn.0 turn.3.0) = turn.3.3.3.0 in
        let turns : Turns (grammar.Step true n) (pushed none (trees.index_step turn.0 turn.3.0)) turn.3.3.1 q m =
        subst (λ (x : Path). Turns (grammar.Step true n) x turn.3.3.1 q m) first (subst (λ (z : List Token). Turns (grammar.Step true n) p z q m) (sym turn.3.3.3.1) rest) in
        ((at, name), i, name-reads name at i, inr (inl (turn.0, turn.1, turn.2, inr (turn.3.0, turn.3.1, turn.3.2, (turn.3.3.0, turn.3.3.1, turn.3.3.2, (q, m, turns, v))))))
    by q m (more p o (inr turn) rest) v = ((at, name), i, name-reads name at i, inr (inr (inr (inl (p, o, turn, (q, m, rest, v))))))

assign-again : (n : ℕ) (s : Stmt) (name : List ℕ) (path : List Step) (x : Expr) (h l : ℕ) → s.kind ≡ stmt.Assign name path x → IsName name → PathAgain n path h → Again n (λ m. Expr_ true m) (shown x) x l
    → LineAgain (Declares n) s (name ++ (path_text path ++ (codes " = " ++ expr_text x)))
unfolding grammar.Assigned grammar.Valued
assign-again n s name path x h l is v a b = record {
  pieces = name_piece name ∷ (a.pieces ++ (assign_pieces ++ b.pieces));
  spelled = text-both (name_piece name ∷ []) (a.pieces ++ (assign_pieces ++ b.pieces)) name (path_text path ++ (codes " = " ++ expr_text x)) (name-text name v)
      (text-both a.pieces (assign_pieces ++ b.pieces) (path_text path) (codes " = " ++ expr_text x) a.spelled (text-both assign_pieces b.pieces (codes " = ") (expr_text x) assign-text b.spelled));
  item = record {
    segment = joined (name_piece name ∷ []) (a.pieces ++ (assign_pieces ++ b.pieces)) (item-any false false (name_piece name ∷ []) (name-item name v)).segment
        (joined a.pieces (assign_pieces ++ b.pieces) a.segment (joined assign_pieces b.pieces assign-segment (item-any (shown x).begins (shown x).ends b.pieces b.item).segment));
    leads = tt;
    closed = closed-append (name_piece name ∷ []) (a.pieces ++ (assign_pieces ++ b.pieces)) (record { closed = λ d. refl }) (closed-append a.pieces (assign_pieces ++ b.pieces) a.closed (closed-append assign_pieces b.pieces (record { closed = λ d. refl }) b.item.closed));
  };
  own = refl;
  reads = λ at end j.
      let here = at + size (chars name) in
      let sign = (here + size (letters a.pieces)) + 1 in
      let within = (sign + size (61 ∷ [])) + 1 in
      let value : List Token = tokens_from within b.pieces ++ token k.LineEnd end ∷ j in
      let r = a.reads here (token k.Assign sign ∷ value) in
      let q = b.reads n (omega arith) within (token k.LineEnd end ∷ j) in
      let node : Stmt = record { at = at; kind = stmt.Assign name r.0 q.tree } in
      let valued : (grammar.Assigned true n at name none).reads (tokens_from here a.pieces ++ token k.Assign sign ∷ value) (Low node 0) j =
      (Low r.0 h, token k.Assign sign ∷ value, r.2, (sign, value, mark-reads t.ASSIGN k.Assign sign value refl, (Low q.tree l, token k.LineEnd end ∷ j, q.reads, (end, j, mark-reads t.LINE_END k.LineEnd end j refl, (refl, refl))))) in
      let whole = assigned-named n at name (tokens_from here a.pieces ++ token k.Assign sign ∷ value) (Low node 0) j valued in
      record {
        tree = node;
        same = view_assign node name r.0 q.tree refl ∙ (ap₂ (λ (ps : List StepView) (w : exprs.View). assign_view name ps w) r.1 q.same ∙ sym (view_assign s name path x is));
        reads = subst (λ (i : List Token). (Declares n).reads (token (k.Name name) at ∷ i) (Low node 0) j) (sym (tokens-behind here a.pieces (assign_pieces ++ b.pieces) (token k.LineEnd end ∷ j))) (inl whole);
      };
}

assign-part : (n at : ℕ) (name : List ℕ) (p : Path) (x : E) → IsName name → IsPath n p → IsPart (From 0) n x → IsStmt (Declares n) (trees.assign_node at name p x)
assign-part n at name p x v g f = record {
  low = λ s h e.
      let o = stmt_node-low at (made (λ (c : List Step × Expr). stmt.Assign name c.0 c.1) (both p x)) s h e in
      let m = made-low (λ (c : List Step × Expr). stmt.Assign name c.0 c.1) (both p x) o.kind o.below o.is in
      let b = both-low p x m.of o.below m.is in
      let is : s.kind ≡ stmt.Assign name b.first b.second = o.kind_is ∙ (m.value ∙ ap (λ (c : List Step × Expr). stmt.Assign name c.0 c.1) b.value) in
      line-again (Declares n) s (name ++ (path_text b.first ++ (codes " = " ++ expr_text b.second))) (assign-shown s name b.first b.second is)
      (assign-again n s name b.first b.second b.first_height b.second_height is v (g.low b.first b.first_height b.first_is) (whole-of (From 0) n b.second b.second_height (f.low b.second b.second_height b.second_is)));
}

-- ---- what the rules of these statements give

gives-call : (n at : ℕ) (name : List ℕ) → IsName name → Gives (ArgsIn true (inside n)) (IsArgs (inside n)) → Gives (grammar.CallStmt true n at name) (IsStmt (Declares n))
unfolding grammar.CallStmt
gives-call n at name v args =
    gives-then (gives-mark t.OPEN_PAREN) (λ a h. gives-then args (λ es r. gives-then (gives-inner (inside n) t.CLOSE_PAREN) (λ b deep. gives-then (gives-mark t.LINE_END) (λ e f.
    gives-pure (trees.call_node at name es) (IsStmt (Declares n)) (call-part n at name es v deep r)))))

gives-field_step : (n : ℕ) (p : Path) → IsPath n p → Gives (grammar.FieldStep p) (IsPath n)
gives-field_step n p g = gives-then (gives-mark t.DOT) (λ at h. gives-then gives-name (λ w v. gives-pure (pushed p (trees.field_step at w.1)) (IsPath n) (field-path n at p w.1 g v)))

gives-step : (n : ℕ) → Gives (Expr_ true (inside n)) (IsPart (From 0) (inside n)) → (p : Path) → IsPath n p → Gives (grammar.Step true n p) (IsPath n)
gives-step n deeper p g =
    gives-or (gives-then (gives-mark t.OPEN_BRACKET) (λ at h. gives-then deeper (λ x f. gives-then (gives-mark t.CLOSE_BRACKET) (λ b e. gives-pure (pushed p (trees.index_step at x)) (IsPath n) (index-path n at p x g f)))))
    (gives-field_step n p g)

gives-valued : (n at : ℕ) (name : List ℕ) (p : Path) → IsName name → Gives (Expr_ true n) (IsPart (From 0) n) → IsPath n p → Gives (grammar.Valued true n at name p) (IsStmt (Declares n))
unfolding grammar.Valued
gives-valued n at name p v expr g =
    gives-then (gives-mark t.ASSIGN) (λ a h. gives-then expr (λ x f. gives-then (gives-mark t.LINE_END) (λ e d. gives-pure (trees.assign_node at name p x) (IsStmt (Declares n)) (assign-part n at name p x v g f))))

gives-assigned : (n at : ℕ) (name : List ℕ) (p : Path) → IsName name → Gives (Expr_ true n) (IsPart (From 0) n) → Gives (Expr_ true (inside n)) (IsPart (From 0) (inside n)) → IsPath n p → Gives (grammar.Assigned true n at name p) (IsStmt (Declares n))
unfolding grammar.Assigned
gives-assigned n at name p v expr deeper g = gives-then (gives-loop (gives-step n deeper) p g) (λ q f. gives-valued n at name q v expr f)

gives-bracket : (n at : ℕ) (name : List ℕ) → IsName name → Gives (Expr_ true (suc n)) (IsPart (From 0) (suc n)) → Gives (Expr_ true n) (IsPart (From 0) n) → Gives (grammar.BracketStmt true (suc n) at name) (IsStmt (Declares (suc n)))
unfolding grammar.BracketStmt
gives-bracket n at name v expr deeper =
    gives-then (gives-mark t.OPEN_BRACKET) (λ b h.
    gives-or (gives-then (gives-inner n t.CLOSE_BRACKET) (λ c deep.
    gives-then (types.gives-type_rest (suc n) (array_ty b (named_ty at name)) (types.array-part (suc n) b (named_ty at name) deep (types.part-less (suc n) 3 2 (named_ty at name) (omega arith) (types.named-part n at name v))))
    (λ y p. gives-declared (suc n) at y expr p)))
    (gives-then deeper (λ x f. gives-then (gives-mark t.CLOSE_BRACKET) (λ c e. gives-assigned (suc n) at name (pushed none (trees.index_step b x)) v expr deeper (index-path (suc n) b none x (none-path (suc n)) f)))))

pub gives-named : (n : ℕ) → Gives (Expr_ true (suc n)) (IsPart (From 0) (suc n)) → Gives (Expr_ true n) (IsPart (From 0) n) → Gives (ArgsIn true n) (IsArgs n) → Gives (grammar.NamedStmt true (suc n)) (IsStmt (Declares (suc n)))
unfolding grammar.NamedStmt
gives-named n expr deeper args =
    gives-then gives-name (λ w v.
    gives-or (gives-call (suc n) w.0 w.1 v args)
    (gives-or (gives-bracket n w.0 w.1 v expr deeper)
    (gives-or (gives-then (types.gives-type_tail (suc n) (named_ty w.0 w.1) (types.part-less (suc n) 3 1 (named_ty w.0 w.1) (omega arith) (types.named-part n w.0 w.1 v))) (λ y p. gives-declared (suc n) w.0 y expr p))
    (gives-or (gives-then (gives-field_step (suc n) none (none-path (suc n))) (λ p g. gives-assigned (suc n) w.0 w.1 p v expr deeper g))
    (gives-valued (suc n) w.0 w.1 none v expr (none-path (suc n)))))))
