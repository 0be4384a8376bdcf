-- Records and quantifiers are read again.
use Rattle.std.proofs.Common.{◌≡◌, ℕ, zero, suc, ◌+◌, ◌≤◌, Bool, true, false, nat_lt, max, List, [], ◌∷◌, ◌++◌, map, codes, ◌⊎◌, inl, inr, refl, sym, ap, ap₂, ◌∙◌, subst, arith, append_assoc}
use Rattle.std.specs.Str.{chars}
use lib.Utf8.{encode}
use Rattle.wy_data.specs.Words.{IsName}
use Rattle.wy_data.proofs.WordLemmas.{is_part-ascii}
use Rattle.wy_reading.specs.Rule.Turns.{stop}
use Rattle.wy_ast.specs.declared.expressions.Expr.{Expr}
use Rattle.wy_ast.specs.declared.expressions.ExprKind.TheVariants as e
use Rattle.wy_parse_front.specs.wy_lex.declared.token.Token.{Token}
use Rattle.wy_parse_front.specs.wy_lex.declared.token.TokenKind.{TokenKind}
use Rattle.wy_parse_front.specs.wy_lex.declared.token.TokenKind.TheVariants as k
use Rattle.wy_parse_front.specs.wy_lex.declared.symbol.Character.TheVariants as class
use Rattle.wy_parse_front.specs.wy_lex.Layout.{token}
use Rattle.wy_print.specs.Pieces.{listed, quantifier_word}
use Rattle.wy_print.specs.ExprText.{shown, plain, part, field_text, range_text, range_line, quantified}
use Rattle.wy_parse_front.specs.wy_parse_grammar.declared.measured.Measured.TheVariants.{Low}
use Rattle.wy_parse_front.specs.wy_parse_grammar.Sorts as t
use Rattle.wy_parse_front.specs.wy_parse_grammar.Sorts.{is, has, sort}
use Rattle.wy_parse_front.specs.wy_parse_grammar.Steps.{R, InnerName}
use Rattle.wy_parse_front.specs.wy_parse_grammar.Trees.{highest, both, made, pushed, named, fields, range, quant}
use Rattle.wy_parse_front.specs.wy_parse_grammar.ExprGrammar.{E, Fields, Ranges, Quantifier, Field, FieldList, Range, Unary, Expr_}
use Rattle.wy_print_laws.proofs.round_lemmas.Pieces.{Piece, letters, size, tokens_from, grows}
use Rattle.wy_print_laws.proofs.round_lemmas.Pieces.Piece.{gap, mark}
use Rattle.wy_print_laws.proofs.round_lemmas.Segments.{text_of, text-both, Segment, joined, closed-append, Before, After, after-item, before-nothing, before-blank, leads-append, Item}
use Rattle.wy_print_laws.proofs.round_lemmas.Heights.{expr_node-low, expr_node-is, made-low, both-low}
use Rattle.wy_print_laws.proofs.round_lemmas.Marked.{in-mark, all-mark, some-mark, range-mark, colon-mark, bar-mark}
use Rattle.wy_print_laws.proofs.round_lemmas.Commas.{mark-reads, tokens-behind, item-any, spaced, spaced-segment, item-spaced}
use Rattle.wy_print_laws.proofs.round_lemmas.Commas as commas
use Rattle.wy_print_laws.proofs.round_lemmas.Enclosed.{begins-letter, single-item, name_piece, name-item, name-text, name-reads, IsInside, inside-none, inside-item, curly, enclosed, enclosed-item, enclosed-text, enclosed-tokens, inner-reads}
use Rattle.wy_print_laws.proofs.round_lemmas.ExprShown.{View, shown_record, shown_quant, view_value, view_range, record_view, view_record, quant_view, view_quant}
use Rattle.wy_print_laws.proofs.round_lemmas.ExprLines.{Postfix, Line, ReadsTo, Again, StandsBy, IsPart, From, whole-of}
use Rattle.wy_print_laws.proofs.round_lemmas.ExprUnary.{operand-at, node-stands}

-- a name inside of which a level is left
inner_name-reads : (levels : ℕ) (name : List ℕ) (at : ℕ) (j : List Token) → 1 ≤ levels → (InnerName levels).reads (token (k.Name name) at ∷ j) (at, name) j
inner_name-reads zero name at j le = absurd (omega (arith, le))
inner_name-reads (suc levels) name at j le = name-reads name at j

-- ---- the fields of a record

abbrev pub value_text : List ℕ × Expr → List ℕ
value_text f = field_text (f.0, shown f.1)

abbrev pub one_value : ℕ → Fields → R Fields
one_value m fs = Field m (Unary true m) (Expr_ true m) fs

abbrev pub IsValues : ℕ → Fields → Type 0
IsValues n fs = commas.IsRow value_text view_value one_value n fs

abbrev pub AreValues : ℕ → Fields → Type 0
AreValues n fs = commas.IsFull value_text view_value one_value n fs

-- a name, a colon and a space
abbrev named_pieces : List ℕ → List Piece
named_pieces name = name_piece name ∷ spaced k.Colon 58

named_pieces-text : (name : List ℕ) → IsName name → text_of (named_pieces name) ≡ name ++ codes ": "
unfolding encode
named_pieces-text name v = text-both (name_piece name ∷ []) (spaced k.Colon 58) name (codes ": ") (name-text name v) refl

named_pieces-segment : (name : List ℕ) → IsName name → Segment (Before true) (named_pieces name) (Before true)
named_pieces-segment name v = joined (name_piece name ∷ []) (spaced k.Colon 58) (item-any false false (name_piece name ∷ []) (name-item name v)).segment (spaced-segment k.Colon 58 colon-mark (is_part-ascii 58 (omega arith)) refl)

value-one : (n : ℕ) (name : List ℕ) (x : Expr) (h : ℕ) → IsName name → 1 ≤ n → Again n (λ m. Expr_ true m) (shown x) x h → commas.One value_text view_value one_value n (name, x) h
value-one n name x h v deep a = record {
  pieces = named_pieces name ++ a.pieces;
  spelled = text-both (named_pieces name) a.pieces (name ++ codes ": ") (shown x).text (named_pieces-text name v) a.spelled;
  item = record {
    segment = joined (named_pieces name) a.pieces (named_pieces-segment name v) (item-any (shown x).begins (shown x).ends a.pieces a.item).segment;
    leads = tt;
    closed = closed-append (named_pieces name) a.pieces (record { closed = λ d. refl }) a.item.closed;
  };
  reads = λ m g at j xs l.
      let here = at + size (chars name) in
      let there = (here + size (58 ∷ [])) + 1 in
      let rest : List Token = tokens_from there a.pieces ++ j in
      let r = a.reads m g there j in (
        (name, r.tree),
        ap (λ (y : View). (name, y)) r.same,
        ((at, name), token k.Colon here ∷ rest, inner_name-reads m name at (token k.Colon here ∷ rest) (omega (arith, deep, g)), (here, rest, mark-reads t.COLON k.Colon here rest refl, (Low r.tree h, j, r.reads, (refl, refl)))),
      );
}

pub values-pushed : (n : ℕ) (fs : Fields) (name : List ℕ) (x : E) → IsValues n fs → IsName name → 1 ≤ n → IsPart (From 0) n x → AreValues n (pushed fs (named name x))
values-pushed n fs name x r v deep p = commas.row-pushed value_text view_value one_value n fs (named name x) r
    (λ f h g.
    let m = made-low (λ (y : Expr). (name, y)) x f h g in
    subst (λ (c : List ℕ × Expr). commas.One value_text view_value one_value n c h) (sym m.value) (value-one n name m.of h v deep (whole-of (From 0) n m.of h (p.low m.of h m.is))))

value-texts : (fs : List (List ℕ × Expr)) → map value_text fs ≡ map field_text (map (λ (f : List ℕ × Expr). (f.0, shown f.1)) fs)
value-texts [] = refl
value-texts (f ∷ fs) = ap (λ (l : List (List ℕ)). value_text f ∷ l) (value-texts fs)

record_text : List (List ℕ × Expr) → List ℕ
record_text fs = codes "{" ++ (listed (map field_text (map (λ (f : List ℕ × Expr). (f.0, shown f.1)) fs)) ++ codes "}")

record AllValues (n : ℕ) (fs : List (List ℕ × Expr)) (h : ℕ) : Type 0 where
  pub pieces : List Piece
  pub spelled : text_of pieces ≡ listed (map field_text (map (λ (f : List ℕ × Expr). (f.0, shown f.1)) fs))
  pub inside_is : IsInside pieces
  pub reads : (m : ℕ) → n ≤ m → (at : ℕ) (j : List Token) → (gs : List (List ℕ × Expr)) × (map view_value gs ≡ map view_value fs) × (FieldList m (Unary true m) (Expr_ true m)).reads (tokens_from at pieces ++ j) (Low gs h) j

all_values : (n : ℕ) (fs : List (List ℕ × Expr)) (h : ℕ) → ((fs ≡ []) × (h ≡ 0)) ⊎ commas.All value_text view_value one_value n fs h → AllValues n fs h
all_values n fs h (inl f) =
    subst (λ (gs : List (List ℕ × Expr)). AllValues n gs h) (sym f.0) (subst (λ l. AllValues n [] l) (sym f.1)
    (record { pieces = []; spelled = refl; inside_is = inside-none; reads = λ m g at j. ([], refl, inr (refl, refl)) }))
all_values n fs h (inr a) = record {
  pieces = a.pieces;
  spelled = a.spelled ∙ ap listed (value-texts fs);
  inside_is = inside-item a.pieces a.item;
  reads = λ m g at j. let r = a.reads m g at j in (r.0, r.1, inl r.2);
}

record-again : (n : ℕ) (x : Expr) (fs : List (List ℕ × Expr)) (h : ℕ) → x.kind ≡ e.Record fs → nat_lt h highest ≡ true → 1 ≤ n → AllValues n fs h → Again (suc n) Postfix (plain 7 (record_text fs)) x (h + 1)
unfolding record_text
record-again n x fs h is fits deep a = record {
  pieces = enclosed k.OpenBrace 123 k.CloseBrace 125 a.pieces;
  spelled = enclosed-text k.OpenBrace 123 k.CloseBrace 125 a.pieces (listed (map field_text (map (λ (f : List ℕ × Expr). (f.0, shown f.1)) fs))) curly a.spelled;
  item = enclosed-item k.OpenBrace 123 k.CloseBrace 125 a.pieces curly a.inside_is;
  reads = reads;
}
  where
    reads : (m : ℕ) → suc n ≤ m → (at : ℕ) (j : List Token) → ReadsTo (Postfix m) (tokens_from at (enclosed k.OpenBrace 123 k.CloseBrace 125 a.pieces) ++ j) x (h + 1) j
    reads zero g at j = absurd (omega (arith, g))
    reads (suc m) g at j =
        let inside = at + size (123 ∷ []) in
        let there = inside + size (letters a.pieces) in
        let inner : List Token = tokens_from inside a.pieces ++ token k.CloseBrace there ∷ j in
        let r = a.reads m (omega (arith, g)) inside (token k.CloseBrace there ∷ j) in
        let node : Expr = record { at = at; kind = e.Record r.0 } in
        let postfix : (Postfix (suc m)).reads (token k.OpenBrace at ∷ inner) (Low node (h + 1)) j =
        inl (
          Low node (h + 1),
          j,
          inr (inr (inr (inr (inr (inl (
            at,
            inner,
            mark-reads t.OPEN_BRACE k.OpenBrace at inner refl,
            (
              Low r.0 h,
              token k.CloseBrace there ∷ j,
              r.2,
              (there, j, inner-reads m t.CLOSE_BRACE k.CloseBrace there j (omega (arith, deep, g)) refl, (sym (expr_node-is at (e.Record r.0) h fits), refl)),
            ),
          )))))),
          stop refl refl,
        ) in
        record {
          tree = node;
          same = view_record node r.0 refl ∙ (ap record_view r.1 ∙ sym (view_record x fs is));
          reads = subst (λ i. (Postfix (suc m)).reads i (Low node (h + 1)) j) (sym (enclosed-tokens at k.OpenBrace 123 k.CloseBrace 125 a.pieces j)) postfix;
        }

pub record-part : (n at : ℕ) (fs : Fields) → 1 ≤ n → IsValues n fs → IsPart (From 7) (suc n) (fields at fs)
unfolding record_text
record-part n at fs deep r = record {
  low = λ y h f.
      let o = expr_node-low at (made e.Record fs) y h f in
      let m = made-low e.Record fs o.of o.below o.is in
      let is : y.kind ≡ e.Record m.of = o.kind_is ∙ m.value in
      subst (λ l. StandsBy (From 7) (suc n) y l) (sym o.height_is)
      (node-stands (suc n) 7 7 y (o.below + 1) (plain 7 (record_text m.of)) (shown_record y m.of is) refl (omega arith)
      (record-again n y m.of o.below is o.fits deep (all_values n m.of o.below (r.low m.of o.below m.is))));
}

-- ---- ranges

abbrev pub ends_text : List ℕ × Expr × Expr → List ℕ
ends_text r = range_text r.0 (shown r.1) (shown r.2)

abbrev pub one_range : ℕ → Ranges → R Ranges
one_range m rs = Range m (Unary true m) (Expr_ true m) rs

abbrev pub IsRanges : ℕ → Ranges → Type 0
IsRanges n rs = commas.IsRow ends_text view_range one_range n rs

abbrev pub AreRanges : ℕ → Ranges → Type 0
AreRanges n rs = commas.IsFull ends_text view_range one_range n rs

-- a name and `in`, with a space on each side
abbrev pub in_pieces : List ℕ → List Piece
in_pieces name = name_piece name ∷ gap ∷ mark k.In (codes "in") class.Part ∷ gap ∷ []

pub in_pieces-text : (name : List ℕ) → IsName name → text_of (in_pieces name) ≡ name ++ codes " in "
unfolding encode
in_pieces-text name v = text-both (name_piece name ∷ []) (gap ∷ mark k.In (codes "in") class.Part ∷ gap ∷ []) name (codes " in ") (name-text name v) refl

pub in_pieces-segment : (name : List ℕ) → IsName name → Segment (Before true) (in_pieces name) (Before true)
in_pieces-segment name v = joined (name_piece name ∷ []) (gap ∷ mark k.In (codes "in") class.Part ∷ gap ∷ []) (item-any false false (name_piece name ∷ []) (name-item name v)).segment
    (record { linked = λ m q. (after-item true m 32 q (is_part-ascii 32 (omega arith)) (λ x. refl), (refl, in-mark, (is_part-ascii 32 (omega arith), tt))); last = λ m q. (before-blank, λ x. refl) })

abbrev pub dots : List Piece
dots = mark k.Range (46 ∷ 46 ∷ []) class.Nothing ∷ []

pub dots-text : text_of dots ≡ codes ".."
unfolding encode
dots-text = refl

pub dots-segment : (a b : Bool) → Segment (After a) dots (Before b)
dots-segment a b = record { linked = λ m q. (after-item a m 46 q (is_part-ascii 46 (omega arith)) (λ x. refl), range-mark, tt); last = λ m q. (before-nothing, λ x. refl) }

range-one : (n : ℕ) (name : List ℕ) (a b : Expr) (h l : ℕ) → IsName name → 1 ≤ n → Again n (Line 4) (part 4 (shown a)) a h → Again n (Line 4) (part 4 (shown b)) b l → commas.One ends_text view_range one_range n (name, a, b) (max h l)
range-one n name a b h l v deep p q = record {
  pieces = in_pieces name ++ (p.pieces ++ (dots ++ q.pieces));
  spelled = text-both (in_pieces name) (p.pieces ++ (dots ++ q.pieces)) (name ++ codes " in ") ((part 4 (shown a)).text ++ (codes ".." ++ (part 4 (shown b)).text)) (in_pieces-text name v)
      (text-both p.pieces (dots ++ q.pieces) (part 4 (shown a)).text (codes ".." ++ (part 4 (shown b)).text) p.spelled (text-both dots q.pieces (codes "..") (part 4 (shown b)).text dots-text q.spelled));
  item = record {
    segment = joined (in_pieces name) (p.pieces ++ (dots ++ q.pieces)) (in_pieces-segment name v)
        (joined p.pieces (dots ++ q.pieces) (item-any (part 4 (shown a)).begins (part 4 (shown a)).ends p.pieces p.item).segment
        (joined dots q.pieces (dots-segment true true) (item-any (part 4 (shown b)).begins (part 4 (shown b)).ends q.pieces q.item).segment));
    leads = tt;
    closed = closed-append (in_pieces name) (p.pieces ++ (dots ++ q.pieces)) (record { closed = λ d. refl })
        (closed-append p.pieces (dots ++ q.pieces) p.item.closed (closed-append dots q.pieces (record { closed = λ d. refl }) q.item.closed));
  };
  reads = λ m g at j xs i.
      let in_at = (at + size (chars name)) + 1 in
      let first = (in_at + size (codes "in")) + 1 in
      let dots_at = first + size (letters p.pieces) in
      let second = dots_at + size (46 ∷ 46 ∷ []) in
      let rest : List Token = tokens_from second q.pieces ++ j in
      let r = p.reads m g first (token k.Range dots_at ∷ rest) in
      let s = q.reads m g second j in
      let inner : List Token = tokens_from first p.pieces ++ token k.Range dots_at ∷ rest in
      let whole : (Range m (Unary true m) (Expr_ true m) (Low xs i)).reads (token (k.Name name) at ∷ token k.In in_at ∷ inner) (Low (xs ++ (name, r.tree, s.tree) ∷ []) (max i (max h l))) j = (
        (at, name),
        token k.In in_at ∷ inner,
        inner_name-reads m name at (token k.In in_at ∷ inner) (omega (arith, deep, g)),
        (in_at, inner, mark-reads t.IN k.In in_at inner refl, (Low r.tree h, token k.Range dots_at ∷ rest, r.reads, (dots_at, rest, mark-reads t.RANGE k.Range dots_at rest refl, (Low s.tree l, j, s.reads, (refl, refl))))),
      ) in (
        (name, r.tree, s.tree),
        ap₂ (λ (y z : View). (name, y, z)) r.same s.same,
        subst (λ ts. (Range m (Unary true m) (Expr_ true m) (Low xs i)).reads (token (k.Name name) at ∷ token k.In in_at ∷ ts) (Low (xs ++ (name, r.tree, s.tree) ∷ []) (max i (max h l))) j) (sym (tokens-behind first p.pieces (dots ++ q.pieces) j)) whole,
      );
}

pub ranges-pushed : (n : ℕ) (rs : Ranges) (name : List ℕ) (x z : E) → IsRanges n rs → IsName name → 1 ≤ n → IsPart (From 4) n x → IsPart (From 4) n z → AreRanges n (pushed rs (range name x z))
ranges-pushed n rs name x z r v deep p q = commas.row-pushed ends_text view_range one_range n rs (range name x z) r
    (λ f h g.
    let m = made-low (λ (d : Expr × Expr). (name, d.0, d.1)) (both x z) f h g in
    let b = both-low x z m.of h m.is in
    subst (λ (c : List ℕ × Expr × Expr). commas.One ends_text view_range one_range n c h) (sym (m.value ∙ ap (λ (d : Expr × Expr). (name, d.0, d.1)) b.value))
    (subst (λ l. commas.One ends_text view_range one_range n (name, b.first, b.second) l) (sym b.height_is)
    (range-one n name b.first b.second b.first_height b.second_height v deep (operand-at n 4 b.first b.first_height (omega arith) (omega arith) (p.low b.first b.first_height b.first_is)) (operand-at n 4 b.second b.second_height (omega arith) (omega arith) (q.low b.second b.second_height b.second_is)))))

-- ---- quantifiers

abbrev word_kind : Bool → TokenKind
word_kind true = k.All
word_kind false = k.Some

quant_line : List (List ℕ × Expr × Expr) → List (List ℕ)
quant_line rs = map range_line (map (λ (r : List ℕ × Expr × Expr). (r.0, shown r.1, shown r.2)) rs)

range-texts : (rs : List (List ℕ × Expr × Expr)) → map ends_text rs ≡ quant_line rs
unfolding quant_line
range-texts [] = refl
range-texts (r ∷ rs) = ap (λ (l : List (List ℕ)). ends_text r ∷ l) (range-texts rs)

word_piece : Bool → Piece
word_piece all = mark (word_kind all) (quantifier_word all) class.Part

word-item : (all : Bool) → Item false false (word_piece all ∷ [])
unfolding word_piece
word-item true = single-item k.All 97 (108 ∷ 108 ∷ []) class.Part all-mark (begins-letter 97 (omega arith) refl) tt (record { closed = λ d. refl })
word-item false = single-item k.Some 115 (111 ∷ 109 ∷ 101 ∷ []) class.Part some-mark (begins-letter 115 (omega arith) refl) tt (record { closed = λ d. refl })

word-text : (all : Bool) → text_of (word_piece all ∷ []) ≡ quantifier_word all
unfolding word_piece encode
word-text true = refl
word-text false = refl

word-reads : (all : Bool) (at : ℕ) (j : List Token) → Quantifier.reads (token (word_kind all) at ∷ j) (at, all) j
word-reads true at j = (token k.All at, j, (refl, refl), (refl, refl))
word-reads false at j = (token k.Some at, j, (refl, refl), (refl, refl))

-- what stands in the braces: ranges, a bar with a space on each side, and the body, with a space at each end
abbrev bar_between : List Piece
bar_between = gap ∷ mark k.Bar (124 ∷ []) (class.Is 124) ∷ gap ∷ []

in_braces : List Piece → List Piece → List Piece
in_braces ps qs = gap ∷ (ps ++ (bar_between ++ (qs ++ gap ∷ [])))

bar_between-segment : Segment (After true) bar_between (Before true)
bar_between-segment = record { linked = λ m q. (after-item true m 32 q (is_part-ascii 32 (omega arith)) (λ x. refl), (refl, bar-mark, (refl, tt))); last = λ m q. (before-blank, λ x. refl) }

in_braces-inside : (ps qs : List Piece) → Item true true ps → Item true true qs → IsInside (in_braces ps qs)
unfolding in_braces
in_braces-inside ps qs x y = record {
  segment = joined (gap ∷ []) (ps ++ (bar_between ++ (qs ++ gap ∷ [])))
      (record { linked = λ m q. (ap (λ n. grows n 32) q, tt); last = λ m q. (before-blank, λ x. refl) })
      (joined ps (bar_between ++ (qs ++ gap ∷ [])) x.segment
      (joined bar_between (qs ++ gap ∷ []) bar_between-segment
      (joined qs (gap ∷ []) y.segment
      (record { linked = λ m q. (after-item true m 32 q (is_part-ascii 32 (omega arith)) (λ x. refl), tt); last = λ m q. inl refl }))));
  closed = closed-append (gap ∷ []) (ps ++ (bar_between ++ (qs ++ gap ∷ []))) (record { closed = λ d. refl })
      (closed-append ps (bar_between ++ (qs ++ gap ∷ [])) x.closed
      (closed-append bar_between (qs ++ gap ∷ []) (record { closed = λ d. refl }) (closed-append qs (gap ∷ []) y.closed (record { closed = λ d. refl }))));
}

in_braces-text : (ps qs : List Piece) (s u : List ℕ) → text_of ps ≡ s → text_of qs ≡ u → text_of (in_braces ps qs) ≡ codes " " ++ (s ++ (codes " | " ++ (u ++ codes " ")))
unfolding in_braces encode
in_braces-text ps qs s u f g =
    text-both (gap ∷ []) (ps ++ (bar_between ++ (qs ++ gap ∷ []))) (codes " ") (s ++ (codes " | " ++ (u ++ codes " "))) refl
    (text-both ps (bar_between ++ (qs ++ gap ∷ [])) s (codes " | " ++ (u ++ codes " ")) f
    (text-both bar_between (qs ++ gap ∷ []) (codes " | ") (u ++ codes " ") refl (text-both qs (gap ∷ []) u (codes " ") g refl)))

quant_pieces : Bool → List Piece → List Piece → List Piece
quant_pieces all ps qs = word_piece all ∷ gap ∷ enclosed k.OpenBrace 123 k.CloseBrace 125 (in_braces ps qs)

quant-text : (all : Bool) (ps qs : List Piece) (ranges : List (List ℕ)) (body : List ℕ) → text_of ps ≡ listed ranges → text_of qs ≡ body → text_of (quant_pieces all ps qs) ≡ quantified all ranges body
unfolding quant_pieces encode
quant-text all ps qs ranges body f g =
    text-both (word_piece all ∷ []) (gap ∷ enclosed k.OpenBrace 123 k.CloseBrace 125 (in_braces ps qs)) (quantifier_word all) (codes " { " ++ (listed ranges ++ (codes " | " ++ (body ++ codes " }")))) (word-text all)
    (text-both (gap ∷ []) (enclosed k.OpenBrace 123 k.CloseBrace 125 (in_braces ps qs)) (codes " ") (codes "{ " ++ (listed ranges ++ (codes " | " ++ (body ++ codes " }")))) refl
    (enclosed-text k.OpenBrace 123 k.CloseBrace 125 (in_braces ps qs) (codes " " ++ (listed ranges ++ (codes " | " ++ (body ++ codes " ")))) curly (in_braces-text ps qs (listed ranges) body f g)
    ∙ ap (λ (l : List ℕ). codes "{ " ++ l) (append_assoc (listed ranges) (codes " | " ++ (body ++ codes " ")) (codes "}")
    ∙ ap (λ (l : List ℕ). listed ranges ++ (codes " | " ++ l)) (append_assoc body (codes " ") (codes "}")))))

quant-item : (all : Bool) (ps qs : List Piece) → Item true true ps → Item true true qs → Item false false (quant_pieces all ps qs)
unfolding quant_pieces
quant-item all ps qs x y = record {
  segment = joined (word_piece all ∷ []) (gap ∷ enclosed k.OpenBrace 123 k.CloseBrace 125 (in_braces ps qs)) (word-item all).segment
      (joined (gap ∷ []) (enclosed k.OpenBrace 123 k.CloseBrace 125 (in_braces ps qs))
      (record { linked = λ m q. (after-item false m 32 q (is_part-ascii 32 (omega arith)) (λ x. refl), tt); last = λ m q. (before-blank, λ x. refl) })
      (enclosed-item k.OpenBrace 123 k.CloseBrace 125 (in_braces ps qs) curly (in_braces-inside ps qs x y)).segment);
  leads = leads-append (word_piece all ∷ []) (gap ∷ enclosed k.OpenBrace 123 k.CloseBrace 125 (in_braces ps qs)) (word-item all).leads;
  closed = closed-append (word_piece all ∷ []) (gap ∷ enclosed k.OpenBrace 123 k.CloseBrace 125 (in_braces ps qs)) (word-item all).closed
      (closed-append (gap ∷ []) (enclosed k.OpenBrace 123 k.CloseBrace 125 (in_braces ps qs)) (record { closed = λ d. refl })
      (enclosed-item k.OpenBrace 123 k.CloseBrace 125 (in_braces ps qs) curly (in_braces-inside ps qs x y)).closed);
}

quant-again : (n : ℕ) (x : Expr) (all : Bool) (rs : List (List ℕ × Expr × Expr)) (body : Expr) (h l : ℕ) → x.kind ≡ e.Quant all rs body → nat_lt (max h l) highest ≡ true
    → commas.All ends_text view_range one_range n rs h → Again n (λ m. Expr_ true m) (shown body) body l → Again (suc n) Postfix (plain 7 (quantified all (quant_line rs) (shown body).text)) x (max h l + 1)
unfolding quant_pieces in_braces word_piece
quant-again n x all rs body h l is fits a q = record {
  pieces = quant_pieces all a.pieces q.pieces;
  spelled = quant-text all a.pieces q.pieces (quant_line rs) (shown body).text (a.spelled ∙ ap listed (range-texts rs)) q.spelled;
  item = quant-item all a.pieces q.pieces a.item (item-any (shown body).begins (shown body).ends q.pieces q.item);
  reads = reads;
}
  where
    reads : (m : ℕ) → suc n ≤ m → (at : ℕ) (j : List Token) → ReadsTo (Postfix m) (tokens_from at (quant_pieces all a.pieces q.pieces) ++ j) x (max h l + 1) j
    reads zero g at j = absurd (omega (arith, g))
    reads (suc m) g at j =
        let brace = (at + size (quantifier_word all)) + 1 in
        let inside = brace + size (123 ∷ []) in
        let there = inside + size (letters (in_braces a.pieces q.pieces)) in
        let first = inside + 1 in
        let bar = (first + size (letters a.pieces)) + 1 in
        let second = (bar + size (124 ∷ [])) + 1 in
        let last : List Token = token k.CloseBrace there ∷ j in
        let rest : List Token = tokens_from second q.pieces ++ last in
        let inner : List Token = tokens_from first a.pieces ++ token k.Bar bar ∷ rest in
        let behind : tokens_from second (q.pieces ++ gap ∷ []) ++ last ≡ rest = tokens-behind second q.pieces (gap ∷ []) last in
        let text_is : tokens_from inside (in_braces a.pieces q.pieces) ++ last ≡ inner =
        tokens-behind first a.pieces (bar_between ++ (q.pieces ++ gap ∷ [])) last ∙ ap (λ (ts : List Token). tokens_from first a.pieces ++ token k.Bar bar ∷ ts) behind in
        let r = a.reads m (omega (arith, g)) first (token k.Bar bar ∷ rest) in
        let s = q.reads m (omega (arith, g)) second last in
        let node : Expr = record { at = at; kind = e.Quant all r.0 s.tree } in
        let postfix : (Postfix (suc m)).reads (token (word_kind all) at ∷ token k.OpenBrace brace ∷ inner) (Low node (max h l + 1)) j =
        inl (
          Low node (max h l + 1),
          j,
          inr (inr (inr (inr (inr (inr (
            (at, all),
            token k.OpenBrace brace ∷ inner,
            word-reads all at (token k.OpenBrace brace ∷ inner),
            (
              brace,
              inner,
              mark-reads t.OPEN_BRACE k.OpenBrace brace inner refl,
              (
                Low r.0 h,
                token k.Bar bar ∷ rest,
                r.2,
                (
                  bar,
                  rest,
                  mark-reads t.BAR k.Bar bar rest refl,
                  (
                    Low s.tree l,
                    last,
                    s.reads,
                    (there, j, mark-reads t.CLOSE_BRACE k.CloseBrace there j refl, (sym (expr_node-is at (e.Quant all r.0 s.tree) (max h l) fits), refl)),
                  ),
                ),
              ),
            ),
          )))))),
          stop refl refl,
        ) in
        record {
          tree = node;
          same = view_quant node all r.0 s.tree refl ∙ (ap₂ (quant_view all) r.1 s.same ∙ sym (view_quant x all rs body is));
          reads = subst (λ i. (Postfix (suc m)).reads i (Low node (max h l + 1)) j)
              (ap (λ (ts : List Token). token (word_kind all) at ∷ token k.OpenBrace brace ∷ ts) (sym text_is) ∙ ap (λ (ts : List Token). token (word_kind all) at ∷ ts) (sym (enclosed-tokens brace k.OpenBrace 123 k.CloseBrace 125 (in_braces a.pieces q.pieces) j))) postfix;
        }

pub quant-part : (n at : ℕ) (all : Bool) (rs : Ranges) (x : E) → AreRanges n rs → IsPart (From 0) n x → IsPart (From 7) (suc n) (quant at all rs x)
unfolding quant_line
quant-part n at all rs x r p = record {
  low = λ y h f.
      let c = expr_node-low at (made (λ (d : List (List ℕ × Expr × Expr) × Expr). e.Quant all d.0 d.1) (both rs x)) y h f in
      let m = made-low (λ (d : List (List ℕ × Expr × Expr) × Expr). e.Quant all d.0 d.1) (both rs x) c.of c.below c.is in
      let b = both-low rs x m.of c.below m.is in
      let is : y.kind ≡ e.Quant all b.first b.second = c.kind_is ∙ (m.value ∙ ap (λ (d : List (List ℕ × Expr × Expr) × Expr). e.Quant all d.0 d.1) b.value) in
      let fits : nat_lt (max b.first_height b.second_height) highest ≡ true = ap (λ n. nat_lt n highest) (sym b.height_is) ∙ c.fits in
      subst (λ l. StandsBy (From 7) (suc n) y l) (sym (c.height_is ∙ ap (λ n. n + 1) b.height_is))
      (node-stands (suc n) 7 7 y (max b.first_height b.second_height + 1) (plain 7 (quantified all (quant_line b.first) (shown b.second).text)) (shown_quant y all b.first b.second is) refl (omega arith)
      (quant-again n y all b.first b.second b.first_height b.second_height is fits (r.full b.first b.first_height b.first_is) (whole-of (From 0) n b.second b.second_height (p.low b.second b.second_height b.second_is))));
}
