-- What has one operand, and steps: `!`, `-`, lengths, indices and fields are read again.
use Rattle.std.proofs.Common.{◌≡◌, ℕ, zero, suc, ◌+◌, ◌≤◌, ◌==◌, ◌&&◌, Bool, true, false, true≢false, nat_lt, max, List, [], ◌∷◌, ◌++◌, codes, inl, inr, refl, sym, ap, ap₂, ◌∙◌, subst, arith}
use lib.Utf8.{encode}
use Rattle.wy_data.specs.Words.{IsName}
use Rattle.wy_data.proofs.WordLemmas.{is_start-ascii, is_part-ascii}
use Rattle.wy_lemmas.proofs.Choices.{and_false as and-false}
use Rattle.wy_reading.specs.Rule.{heads, among}
use Rattle.wy_reading.specs.Rule.Turns.{stop}
use Rattle.wy_ast.specs.declared.expressions.Expr.{Expr}
use Rattle.wy_ast.specs.declared.expressions.ExprKind.TheVariants as e
use Rattle.wy_parse_front.specs.wy_lex.declared.token.Token.{Token}
use Rattle.wy_parse_front.specs.wy_lex.declared.token.TokenKind.TheVariants as k
use Rattle.wy_parse_front.specs.wy_lex.declared.symbol.Character.{Character}
use Rattle.wy_parse_front.specs.wy_lex.declared.symbol.Character.TheVariants as class
use Rattle.wy_parse_front.specs.wy_lex.Layout.{token}
use Rattle.wy_print.specs.Pieces.{space_if}
use Rattle.wy_print.specs.ExprText.{Shown, shown, part, prefixed, measured, continued}
use Rattle.wy_parse_front.specs.wy_parse_grammar.declared.measured.Measured.TheVariants.{Low}
use Rattle.wy_parse_front.specs.wy_parse_grammar.Sorts as t
use Rattle.wy_parse_front.specs.wy_parse_grammar.Sorts.{sort}
use Rattle.wy_parse_front.specs.wy_parse_grammar.Trees.{highest, both, made, neg, not_expr, len, index, field}
use Rattle.wy_parse_front.specs.wy_parse_grammar.ExprGrammar.{E, touches, Step, Unary, Expr_}
use Rattle.wy_print_laws.proofs.round_lemmas.Pieces.{Piece, letters, size, tokens_from, grows}
use Rattle.wy_print_laws.proofs.round_lemmas.Pieces.Piece.{gap, mark}
use Rattle.wy_print_laws.proofs.round_lemmas.Segments.{text_of, text-both, Segment, joined, Just, IsClosed, closed-nil, closed-append, no_item-ascii, Before, After, after-item, before-is, before-blank, Leads, leads-append, Item}
use Rattle.wy_print_laws.proofs.round_lemmas.Heights.{expr_node-low, expr_node-is, made-low, both-low}
use Rattle.wy_print_laws.proofs.round_lemmas.Marked.{minus-mark, not-mark, bar-mark, dot-mark}
use Rattle.wy_print_laws.proofs.round_lemmas.Commas.{mark-reads, turns-end, tokens-behind, item-any}
use Rattle.wy_print_laws.proofs.round_lemmas.Enclosed.{begins-sign, prefix-item, name_piece, name-item, name-text, name-reads, inside-item, square, enclosed, enclosed-segment, enclosed-closed, enclosed-text, enclosed-tokens}
use Rattle.wy_print_laws.proofs.round_lemmas.ExprShown.{shown_neg, shown_not, shown_len, shown_index, shown_field, neg_view, view_neg, not_view, view_not, len_view, view_len, index_view, view_index, field_view, view_field}
use Rattle.wy_print_laws.proofs.round_lemmas.ExprLines.{Postfix, Line, ReadsTo, Again, own-as, StandsBy, IsPart, From, whole-of}
use Rattle.wy_print_laws.proofs.round_lemmas.ExprOperators.{at-line}

-- an operand at a line
pub operand-at : (n line : ℕ) (x : Expr) (h : ℕ) → 3 ≤ line → line ≤ 7 → StandsBy (From line) n x h → Again n (Line line) (part line (shown x)) x h
operand-at n line x h three seven s = at-line n line (nat_lt (shown x).level line) x h three seven refl s

-- a node of the level, shown so
pub node-stands : (n level line : ℕ) (y : Expr) (h : ℕ) (s : Shown) → shown y ≡ s → s.level ≡ level → line ≤ level → Again n (Line level) s y h → StandsBy (From line) n y h
node-stands n level line y h s shows is le again =
    let line_is : line ≤ (shown y).level = omega (arith, ap (λ (u : Shown). u.level) shows, is, le) in
    inl (line_is, own-as n y h s shows (subst (λ l. Again n (Line l) s y h) (sym is) again))

-- ---- `!`

not-again : (n : ℕ) (x a : Expr) (h : ℕ) → x.kind ≡ e.Not a → nat_lt h highest ≡ true → Again n (Line 6) (part 6 (shown a)) a h → Again (suc n) (Line 6) (prefixed (codes "!") (part 6 (shown a))) x (h + 1)
unfolding Unary Expr_ Rattle.wy_parse_front.specs.wy_parse_grammar.ExprGrammar.level encode
not-again n x a h is fits p = record {
  pieces = mark k.Not (33 ∷ []) (class.Is 61) ∷ p.pieces;
  spelled = ap (λ (l : List ℕ). 33 ∷ l) p.spelled;
  item = prefix-item k.Not 33 61 (part 6 (shown a)).begins (part 6 (shown a)).ends p.pieces not-mark (begins-sign 33 refl) (no_item-ascii 61 (is_start-ascii 61 (omega arith)) refl) refl (record { closed = λ d. refl }) p.item;
  reads = reads;
}
  where
    reads : (m : ℕ) → suc n ≤ m → (at : ℕ) (j : List Token) → ReadsTo (Line 6 m) (tokens_from at (mark k.Not (33 ∷ []) (class.Is 61) ∷ p.pieces) ++ j) x (h + 1) j
    reads zero g at j = absurd (omega (arith, g))
    reads (suc m) g at j =
        let here = at + size (33 ∷ []) in
        let r = p.reads m (omega (arith, g)) here j in
        let node : Expr = record { at = at; kind = e.Not r.tree } in
        record {
          tree = node;
          same = view_not node r.tree refl ∙ (ap not_view r.same ∙ sym (view_not x a is));
          reads = inl (at, tokens_from here p.pieces ++ j, mark-reads t.NOT k.Not at (tokens_from here p.pieces ++ j) refl, (Low r.tree h, j, r.reads, (sym (expr_node-is at (e.Not r.tree) h fits), refl)));
        }

pub not-part : (n at : ℕ) (x : E) → IsPart (From 6) n x → IsPart (From 6) (suc n) (not_expr at x)
not-part n at x p = record {
  low = λ y h f.
      let o = expr_node-low at (made e.Not x) y h f in
      let m = made-low e.Not x o.of o.below o.is in
      let is : y.kind ≡ e.Not m.of = o.kind_is ∙ m.value in
      subst (λ l. StandsBy (From 6) (suc n) y l) (sym o.height_is)
      (node-stands (suc n) 6 6 y (o.below + 1) (prefixed (codes "!") (part 6 (shown m.of))) (shown_not y m.of is) refl (omega arith)
      (not-again n y m.of o.below is o.fits (operand-at n 6 m.of o.below (omega arith) (omega arith) (p.low m.of o.below m.is))));
}

-- ---- `-`, with a space behind it

-- the first token of pieces doesn't touch a minus that stands further before it
no_touch : (at here : ℕ) (ps : List Piece) (j : List Token) → Leads ps → (here == at + 1) ≡ false → heads (touches at) (tokens_from here ps ++ j) ≡ false
no_touch at here [] j h f = absurd h
no_touch at here (gap ∷ ps) j h f = absurd h
no_touch at here (mark kind cs m ∷ ps) j h f = ap (λ b. among (t.NUMERAL ∷ t.BEYOND ∷ []) (sort kind) && b) f ∙ and-false (among (t.NUMERAL ∷ t.BEYOND ∷ []) (sort kind))

apart : (at here : ℕ) → here ≡ at + 2 → (here == at + 1) ≡ false
apart at here h = grind (arith, h)

minus_gap : List Piece
minus_gap = mark k.Minus (45 ∷ []) (class.Is 62) ∷ gap ∷ []

minus_gap-segment : (b : Bool) → Segment (Before false) minus_gap (Before b)
unfolding minus_gap
minus_gap-segment b = record { linked = λ m q. (q.0 45 (begins-sign 45 refl), minus-mark, (refl, tt)); last = λ m q. (before-blank, λ x. refl) }

neg-again : (n : ℕ) (x a : Expr) (h : ℕ) → x.kind ≡ e.Neg a → nat_lt h highest ≡ true → Again n (Line 6) (part 6 (shown a)) a h → Again (suc n) (Line 6) (prefixed (codes "- ") (part 6 (shown a))) x (h + 1)
unfolding Unary Expr_ Rattle.wy_parse_front.specs.wy_parse_grammar.ExprGrammar.level encode minus_gap
neg-again n x a h is fits p = record {
  pieces = minus_gap ++ p.pieces;
  spelled = ap (λ (l : List ℕ). 45 ∷ 32 ∷ l) p.spelled;
  item = record {
    segment = joined minus_gap p.pieces (minus_gap-segment (part 6 (shown a)).begins) p.item.segment;
    leads = tt;
    closed = closed-append minus_gap p.pieces (record { closed = λ d. refl }) p.item.closed;
  };
  reads = reads;
}
  where
    reads : (m : ℕ) → suc n ≤ m → (at : ℕ) (j : List Token) → ReadsTo (Line 6 m) (tokens_from at (minus_gap ++ p.pieces) ++ j) x (h + 1) j
    reads zero g at j = absurd (omega (arith, g))
    reads (suc m) g at j =
        let here = (at + size (45 ∷ [])) + 1 in
        let two : here ≡ at + 2 = omega arith in
        let rest : List Token = tokens_from here p.pieces ++ j in
        let r = p.reads m (omega (arith, g)) here j in
        let node : Expr = record { at = at; kind = e.Neg r.tree } in
        record {
          tree = node;
          same = view_neg node r.tree refl ∙ (ap neg_view r.same ∙ sym (view_neg x a is));
          reads = inr (inl (at, rest, mark-reads t.MINUS k.Minus at rest refl, inr (Low r.tree h, j, (no_touch at here p.pieces j p.item.leads (apart at here two), r.reads), (sym (expr_node-is at (e.Neg r.tree) h fits), refl))));
        }

pub neg-part : (n at : ℕ) (x : E) → IsPart (From 6) n x → IsPart (From 6) (suc n) (neg at x)
neg-part n at x p = record {
  low = λ y h f.
      let o = expr_node-low at (made e.Neg x) y h f in
      let m = made-low e.Neg x o.of o.below o.is in
      let is : y.kind ≡ e.Neg m.of = o.kind_is ∙ m.value in
      subst (λ l. StandsBy (From 6) (suc n) y l) (sym o.height_is)
      (node-stands (suc n) 6 6 y (o.below + 1) (prefixed (codes "- ") (part 6 (shown m.of))) (shown_neg y m.of is) refl (omega arith)
      (neg-again n y m.of o.below is o.fits (operand-at n 6 m.of o.below (omega arith) (omega arith) (p.low m.of o.below m.is))));
}

-- ---- lengths: a space stands between two bars

abbrev gap_if : Bool → List Piece
gap_if true = gap ∷ []
gap_if false = []

gap_if-text : (b : Bool) → text_of (gap_if b) ≡ space_if b
unfolding encode
gap_if-text true = refl
gap_if-text false = refl

gap_if-closed : (b : Bool) → IsClosed (gap_if b)
gap_if-closed true = record { closed = λ d. refl }
gap_if-closed false = closed-nil

bar_piece : Piece
bar_piece = mark k.Bar (124 ∷ []) (class.Is 124)

-- behind a bar
behind-bar : (b : Bool) → Segment (Just (class.Is 124)) (gap_if b) (Before b)
behind-bar true = record { linked = λ m q. (ap (λ n. grows n 32) q, tt); last = λ m q. (before-blank, λ x. refl) }
behind-bar false = record {
  linked = λ m q. tt;
  last = λ m q. subst (Before false) (sym q) (before-is 124 (no_item-ascii 124 (is_start-ascii 124 (omega arith)) refl), λ x. absurd (true≢false (sym x)));
}

-- before a bar
NoBar : Character → Type 0
NoBar m = grows m 124 ≡ false

before-bar : (a : Bool) → Segment (After a) (gap_if a) NoBar
unfolding NoBar
before-bar true = record { linked = λ m q. (after-item true m 32 q (is_part-ascii 32 (omega arith)) (λ x. refl), tt); last = λ m q. refl }
before-bar false = record { linked = λ m q. tt; last = λ m q. after-item false m 124 q (is_part-ascii 124 (omega arith)) (λ x. absurd (true≢false (sym x))) }

barred : Bool → Bool → List Piece → List Piece
barred b a ps = bar_piece ∷ (gap_if b ++ (ps ++ (gap_if a ++ bar_piece ∷ [])))

barred-item : (b a : Bool) (ps : List Piece) → Item b a ps → Item true true (barred b a ps)
unfolding barred bar_piece NoBar
barred-item b a ps h = record {
  segment = joined (bar_piece ∷ []) (gap_if b ++ (ps ++ (gap_if a ++ bar_piece ∷ [])))
      (record { linked = λ m q. (q.1 refl, bar-mark, tt); last = λ m q. refl })
      (joined (gap_if b) (ps ++ (gap_if a ++ bar_piece ∷ [])) (behind-bar b)
      (joined ps (gap_if a ++ bar_piece ∷ []) h.segment
      (joined (gap_if a) (bar_piece ∷ []) (before-bar a) (record { linked = λ m q. (q, bar-mark, tt); last = λ m q. (refl, refl) }))));
  leads = tt;
  closed = closed-append (bar_piece ∷ []) (gap_if b ++ (ps ++ (gap_if a ++ bar_piece ∷ []))) (record { closed = λ d. refl })
      (closed-append (gap_if b) (ps ++ (gap_if a ++ bar_piece ∷ [])) (gap_if-closed b)
      (closed-append ps (gap_if a ++ bar_piece ∷ []) h.closed (closed-append (gap_if a) (bar_piece ∷ []) (gap_if-closed a) (record { closed = λ d. refl }))));
}

barred-text : (b a : Bool) (ps : List Piece) (text : List ℕ) → text_of ps ≡ text → text_of (barred b a ps) ≡ codes "|" ++ (space_if b ++ (text ++ (space_if a ++ codes "|")))
unfolding barred bar_piece encode
barred-text b a ps text f =
    text-both (bar_piece ∷ []) (gap_if b ++ (ps ++ (gap_if a ++ bar_piece ∷ []))) (codes "|") (space_if b ++ (text ++ (space_if a ++ codes "|"))) refl
    (text-both (gap_if b) (ps ++ (gap_if a ++ bar_piece ∷ [])) (space_if b) (text ++ (space_if a ++ codes "|")) (gap_if-text b)
    (text-both ps (gap_if a ++ bar_piece ∷ []) text (space_if a ++ codes "|") f (text-both (gap_if a) (bar_piece ∷ []) (space_if a) (codes "|") (gap_if-text a) refl)))

-- a gap has no tokens
gap_if-tokens : (b : Bool) (at : ℕ) (ps : List Piece) → (here : ℕ) × (tokens_from at (gap_if b ++ ps) ≡ tokens_from here ps)
gap_if-tokens true at ps = (at + 1, refl)
gap_if-tokens false at ps = (at, refl)

-- the tokens of a length: a bar, those of its operand, and a bar
record BarTokens (b a : Bool) (at : ℕ) (ps : List Piece) (j : List Token) : Type 0 where
  pub here : ℕ
  pub there : ℕ
  pub tokens_are : tokens_from at (barred b a ps) ++ j ≡ token k.Bar at ∷ (tokens_from here ps ++ token k.Bar there ∷ j)

bar-tokens : (b a : Bool) (at : ℕ) (ps : List Piece) (j : List Token) → BarTokens b a at ps j
unfolding barred bar_piece
bar-tokens b a at ps j =
    let first = gap_if-tokens b (at + size (124 ∷ [])) (ps ++ (gap_if a ++ bar_piece ∷ [])) in
    let last = gap_if-tokens a (first.0 + size (letters ps)) (bar_piece ∷ []) in
    record {
      here = first.0;
      there = last.0;
      tokens_are = ap (λ (l : List Token). token k.Bar at ∷ (l ++ j)) first.1
          ∙ ap (λ (l : List Token). token k.Bar at ∷ l) (tokens-behind first.0 ps (gap_if a ++ bar_piece ∷ []) j ∙ ap (λ (l : List Token). tokens_from first.0 ps ++ (l ++ j)) last.1);
    }

len-again : (n : ℕ) (x a : Expr) (h : ℕ) → x.kind ≡ e.Len a → nat_lt h highest ≡ true → Again n (Line 4) (part 4 (shown a)) a h → Again (suc n) Postfix (measured (part 4 (shown a))) x (h + 1)
len-again n x a h is fits p = record {
  pieces = barred (part 4 (shown a)).begins (part 4 (shown a)).ends p.pieces;
  spelled = barred-text (part 4 (shown a)).begins (part 4 (shown a)).ends p.pieces (part 4 (shown a)).text p.spelled;
  item = barred-item (part 4 (shown a)).begins (part 4 (shown a)).ends p.pieces p.item;
  reads = reads;
}
  where
    reads : (m : ℕ) → suc n ≤ m → (at : ℕ) (j : List Token) → ReadsTo (Postfix m) (tokens_from at (barred (part 4 (shown a)).begins (part 4 (shown a)).ends p.pieces) ++ j) x (h + 1) j
    reads zero g at j = absurd (omega (arith, g))
    reads (suc m) g at j =
        let b = bar-tokens (part 4 (shown a)).begins (part 4 (shown a)).ends at p.pieces j in
        let inner : List Token = tokens_from b.here p.pieces ++ token k.Bar b.there ∷ j in
        let r = p.reads m (omega (arith, g)) b.here (token k.Bar b.there ∷ j) in
        let node : Expr = record { at = at; kind = e.Len r.tree } in
        let postfix : (Postfix (suc m)).reads (token k.Bar at ∷ inner) (Low node (h + 1)) j =
        inl (
          Low node (h + 1),
          j,
          inr (inr (inr (inl (at, inner, mark-reads t.BAR k.Bar at inner refl, (Low r.tree h, token k.Bar b.there ∷ j, r.reads, (b.there, j, mark-reads t.BAR k.Bar b.there j refl, (sym (expr_node-is at (e.Len r.tree) h fits), refl))))))),
          stop refl refl,
        ) in
        record {
          tree = node;
          same = view_len node r.tree refl ∙ (ap len_view r.same ∙ sym (view_len x a is));
          reads = subst (λ i. (Postfix (suc m)).reads i (Low node (h + 1)) j) (sym b.tokens_are) postfix;
        }

pub len-part : (n at : ℕ) (x : E) → IsPart (From 4) n x → IsPart (From 7) (suc n) (len at x)
len-part n at x p = record {
  low = λ y h f.
      let o = expr_node-low at (made e.Len x) y h f in
      let m = made-low e.Len x o.of o.below o.is in
      let is : y.kind ≡ e.Len m.of = o.kind_is ∙ m.value in
      subst (λ l. StandsBy (From 7) (suc n) y l) (sym o.height_is)
      (node-stands (suc n) 7 7 y (o.below + 1) (measured (part 4 (shown m.of))) (shown_len y m.of is) refl (omega arith)
      (len-again n y m.of o.below is o.fits (operand-at n 4 m.of o.below (omega arith) (omega arith) (p.low m.of o.below m.is))));
}

-- ---- steps

-- one step more
postfix-step : (d : ℕ) (i : List Token) (a : E) (j : List Token) (b : E) (l : List Token) → (Postfix (suc d)).reads i a j → (Step d (Unary true d) (Expr_ true d) a).reads j b l → (Postfix (suc d)).reads i b l
postfix-step d i a j b l (inl r) s = inl (r.0, r.1, r.2, turns-end (Step d (Unary true d) (Expr_ true d)) r.0 r.1 a j b l r.3 s)
postfix-step d i a j b l (inr r) s = inr (r.0, r.1, r.2, (r.3.0, r.3.1, r.3.2, turns-end (Step d (Unary true d) (Expr_ true d)) _ r.3.1 a j b l r.3.3 s))

index-again : (n : ℕ) (x a c : Expr) (h l : ℕ) → x.kind ≡ e.Index a c → nat_lt (max h l) highest ≡ true → Again (suc n) Postfix (part 7 (shown a)) a h → Again n (λ m. Expr_ true m) (shown c) c l
    → Again (suc n) Postfix (continued 7 (part 7 (shown a)) (codes "[" ++ ((shown c).text ++ codes "]"))) x (max h l + 1)
index-again n x a c h l is fits p q = record {
  pieces = p.pieces ++ enclosed k.OpenBracket 91 k.CloseBracket 93 q.pieces;
  spelled = text-both p.pieces (enclosed k.OpenBracket 91 k.CloseBracket 93 q.pieces) (part 7 (shown a)).text (codes "[" ++ ((shown c).text ++ codes "]")) p.spelled (enclosed-text k.OpenBracket 91 k.CloseBracket 93 q.pieces (shown c).text square q.spelled);
  item = record {
    segment = joined p.pieces (enclosed k.OpenBracket 91 k.CloseBracket 93 q.pieces) p.item.segment
        (enclosed-segment (After (part 7 (shown a)).ends) k.OpenBracket 91 k.CloseBracket 93 q.pieces square (λ m z. after-item (part 7 (shown a)).ends m 91 z (is_part-ascii 91 (omega arith)) (λ y. refl)) (inside-item q.pieces (item-any (shown c).begins (shown c).ends q.pieces q.item)));
    leads = leads-append p.pieces (enclosed k.OpenBracket 91 k.CloseBracket 93 q.pieces) p.item.leads;
    closed = closed-append p.pieces (enclosed k.OpenBracket 91 k.CloseBracket 93 q.pieces) p.item.closed (enclosed-closed k.OpenBracket 91 k.CloseBracket 93 q.pieces square (inside-item q.pieces (item-any (shown c).begins (shown c).ends q.pieces q.item)));
  };
  reads = reads;
}
  where
    reads : (m : ℕ) → suc n ≤ m → (at : ℕ) (j : List Token) → ReadsTo (Postfix m) (tokens_from at (p.pieces ++ enclosed k.OpenBracket 91 k.CloseBracket 93 q.pieces) ++ j) x (max h l + 1) j
    reads zero g at j = absurd (omega (arith, g))
    reads (suc m) g at j =
        let here = at + size (letters p.pieces) in
        let inside = here + size (91 ∷ []) in
        let there = inside + size (letters q.pieces) in
        let inner : List Token = tokens_from inside q.pieces ++ token k.CloseBracket there ∷ j in
        let r = p.reads (suc m) g at (token k.OpenBracket here ∷ inner) in
        let s = q.reads m (omega (arith, g)) inside (token k.CloseBracket there ∷ j) in
        let node : Expr = record { at = here; kind = e.Index r.tree s.tree } in
        let step : (Step m (Unary true m) (Expr_ true m) (Low r.tree h)).reads (token k.OpenBracket here ∷ inner) (Low node (max h l + 1)) j =
        inl (here, inner, mark-reads t.OPEN_BRACKET k.OpenBracket here inner refl, (Low s.tree l, token k.CloseBracket there ∷ j, s.reads, (there, j, mark-reads t.CLOSE_BRACKET k.CloseBracket there j refl, (sym (expr_node-is here (e.Index r.tree s.tree) (max h l) fits), refl)))) in
        record {
          tree = node;
          same = view_index node r.tree s.tree refl ∙ (ap₂ index_view r.same s.same ∙ sym (view_index x a c is));
          reads = subst (λ i. (Postfix (suc m)).reads i (Low node (max h l + 1)) j)
              (ap (λ (ts : List Token). tokens_from at p.pieces ++ ts) (sym (enclosed-tokens here k.OpenBracket 91 k.CloseBracket 93 q.pieces j)) ∙ sym (tokens-behind at p.pieces (enclosed k.OpenBracket 91 k.CloseBracket 93 q.pieces) j))
              (postfix-step m (tokens_from at p.pieces ++ token k.OpenBracket here ∷ inner) (Low r.tree h) (token k.OpenBracket here ∷ inner) (Low node (max h l + 1)) j r.reads step);
        }

pub index-part : (n at : ℕ) (x z : E) → IsPart (From 7) (suc n) x → IsPart (From 0) n z → IsPart (From 7) (suc n) (index at x z)
index-part n at x z p q = record {
  low = λ y h f.
      let c = expr_node-low at (made (λ (d : Expr × Expr). e.Index d.0 d.1) (both x z)) y h f in
      let m = made-low (λ (d : Expr × Expr). e.Index d.0 d.1) (both x z) c.of c.below c.is in
      let b = both-low x z m.of c.below m.is in
      let is : y.kind ≡ e.Index b.first b.second = c.kind_is ∙ (m.value ∙ ap (λ (d : Expr × Expr). e.Index d.0 d.1) b.value) in
      let fits : nat_lt (max b.first_height b.second_height) highest ≡ true = ap (λ n. nat_lt n highest) (sym b.height_is) ∙ c.fits in
      subst (λ l. StandsBy (From 7) (suc n) y l) (sym (c.height_is ∙ ap (λ n. n + 1) b.height_is))
      (node-stands (suc n) 7 7 y (max b.first_height b.second_height + 1) (continued 7 (part 7 (shown b.first)) (codes "[" ++ ((shown b.second).text ++ codes "]"))) (shown_index y b.first b.second is) refl (omega arith)
      (index-again n y b.first b.second b.first_height b.second_height is fits (operand-at (suc n) 7 b.first b.first_height (omega arith) (omega arith) (p.low b.first b.first_height b.first_is))
      (whole-of (From 0) n b.second b.second_height (q.low b.second b.second_height b.second_is))));
}

-- a dot and a name
abbrev dot_name : List ℕ → List Piece
dot_name name = mark k.Dot (46 ∷ []) (class.Is 46) ∷ name_piece name ∷ []

dot_name-segment : (a : Bool) (name : List ℕ) → IsName name → Segment (After a) (dot_name name) (After false)
dot_name-segment a name v = joined (mark k.Dot (46 ∷ []) (class.Is 46) ∷ []) (name_piece name ∷ [])
    (record { linked = λ m q. (after-item a m 46 q (is_part-ascii 46 (omega arith)) (λ y. refl), dot-mark, tt); last = λ m q. (before-is 46 (no_item-ascii 46 (is_start-ascii 46 (omega arith)) refl), λ y. absurd (true≢false (sym y))) })
    (name-item name v).segment

dot_name-text : (name : List ℕ) → IsName name → text_of (dot_name name) ≡ codes "." ++ name
unfolding encode
dot_name-text name v = ap (λ (l : List ℕ). 46 ∷ l) (name-text name v)

field-again : (n : ℕ) (x a : Expr) (name : List ℕ) (h : ℕ) → IsName name → x.kind ≡ e.Field a name → nat_lt h highest ≡ true → Again (suc n) Postfix (part 7 (shown a)) a h
    → Again (suc n) Postfix (continued 7 (part 7 (shown a)) (codes "." ++ name)) x (h + 1)
field-again n x a name h v is fits p = record {
  pieces = p.pieces ++ dot_name name;
  spelled = text-both p.pieces (dot_name name) (part 7 (shown a)).text (codes "." ++ name) p.spelled (dot_name-text name v);
  item = record {
    segment = joined p.pieces (dot_name name) p.item.segment (dot_name-segment (part 7 (shown a)).ends name v);
    leads = leads-append p.pieces (dot_name name) p.item.leads;
    closed = closed-append p.pieces (dot_name name) p.item.closed (record { closed = λ d. refl });
  };
  reads = reads;
}
  where
    reads : (m : ℕ) → suc n ≤ m → (at : ℕ) (j : List Token) → ReadsTo (Postfix m) (tokens_from at (p.pieces ++ dot_name name) ++ j) x (h + 1) j
    reads zero g at j = absurd (omega (arith, g))
    reads (suc m) g at j =
        let here = at + size (letters p.pieces) in
        let there = here + size (46 ∷ []) in
        let r = p.reads (suc m) g at (token k.Dot here ∷ token (k.Name name) there ∷ j) in
        let node : Expr = record { at = here; kind = e.Field r.tree name } in
        let step : (Step m (Unary true m) (Expr_ true m) (Low r.tree h)).reads (token k.Dot here ∷ token (k.Name name) there ∷ j) (Low node (h + 1)) j =
        inr (here, token (k.Name name) there ∷ j, mark-reads t.DOT k.Dot here (token (k.Name name) there ∷ j) refl, ((there, name), j, name-reads name there j, (sym (expr_node-is here (e.Field r.tree name) h fits), refl))) in
        record {
          tree = node;
          same = view_field node r.tree name refl ∙ (ap (field_view name) r.same ∙ sym (view_field x a name is));
          reads = subst (λ i. (Postfix (suc m)).reads i (Low node (h + 1)) j) (sym (tokens-behind at p.pieces (dot_name name) j))
              (postfix-step m (tokens_from at p.pieces ++ token k.Dot here ∷ token (k.Name name) there ∷ j) (Low r.tree h) (token k.Dot here ∷ token (k.Name name) there ∷ j) (Low node (h + 1)) j r.reads step);
        }

pub field-part : (n at : ℕ) (x : E) (name : List ℕ) → IsName name → IsPart (From 7) (suc n) x → IsPart (From 7) (suc n) (field at x name)
field-part n at x name v p = record {
  low = λ y h f.
      let o = expr_node-low at (made (λ (r : Expr). e.Field r name) x) y h f in
      let m = made-low (λ (r : Expr). e.Field r name) x o.of o.below o.is in
      let is : y.kind ≡ e.Field m.of name = o.kind_is ∙ m.value in
      subst (λ l. StandsBy (From 7) (suc n) y l) (sym o.height_is)
      (node-stands (suc n) 7 7 y (o.below + 1) (continued 7 (part 7 (shown m.of)) (codes "." ++ name)) (shown_field y m.of name is) refl (omega arith)
      (field-again n y m.of name o.below v is o.fits (operand-at (suc n) 7 m.of o.below (omega arith) (omega arith) (p.low m.of o.below m.is))));
}
