-- Operators of two operands: what was read of them is read again.
use Rattle.std.proofs.Common.{◌≡◌, ℕ, zero, suc, ◌+◌, ◌≤◌, ◌==◌, ◌&&◌, ◌||◌, Bool, true, false, true≢false, nat_lt, max, List, [], ◌∷◌, ◌++◌, codes, inl, inr, refl, sym, ap, ap₂, ◌∙◌, subst, arith}
use lib.Utf8.{encode}
use Rattle.wy_data.proofs.WordLemmas.{is_part-ascii}
use Rattle.wy_lemmas.proofs.Choices.{or_none as or-false}
use Rattle.wy_reading.specs.Rule.{heads, among, Refused}
use Rattle.wy_ast.specs.declared.types.Ty.{Ty}
use Rattle.wy_ast.specs.declared.expressions.Op.{Op}
use Rattle.wy_ast.specs.declared.expressions.Op.TheVariants as op
use Rattle.wy_ast.specs.declared.expressions.Expr.{Expr}
use Rattle.wy_ast.specs.declared.expressions.ExprKind.TheVariants as e
use Rattle.wy_parse_front.specs.wy_lex.declared.token.Token.{Token}
use Rattle.wy_parse_front.specs.wy_lex.declared.token.TokenKind.{TokenKind}
use Rattle.wy_parse_front.specs.wy_lex.declared.token.TokenKind.TheVariants as k
use Rattle.wy_parse_front.specs.wy_lex.declared.symbol.Character.{Character}
use Rattle.wy_parse_front.specs.wy_lex.declared.symbol.Character.TheVariants as class
use Rattle.wy_parse_front.specs.wy_lex.Kinds.{depth_after}
use Rattle.wy_parse_front.specs.wy_lex.Layout.{token}
use Rattle.wy_print.specs.Levels.{level_of, lowest_left, lowest_right, is_or, needs_left, needs_right, symbol}
use Rattle.wy_print.specs.TypeText.{ty_text}
use Rattle.wy_print.specs.ExprText.{Shown, bracketed, shown, part, left_part, right_part, spaced, combined, continued}
use Rattle.wy_parse_front.specs.wy_parse_grammar.declared.fault.Kind.TheVariants.{Deep}
use Rattle.wy_parse_front.specs.wy_parse_grammar.declared.measured.Measured.TheVariants.{Low}
use Rattle.wy_parse_front.specs.wy_parse_grammar.declared.sort.Class.{Class}
use Rattle.wy_parse_front.specs.wy_parse_grammar.declared.sort.Class.TheVariants as kinds
use Rattle.wy_parse_front.specs.wy_parse_grammar.Sorts as t
use Rattle.wy_parse_front.specs.wy_parse_grammar.Sorts.{is, has, sort}
use Rattle.wy_parse_front.specs.wy_parse_grammar.Steps.{R, Operator, op_of}
use Rattle.wy_parse_front.specs.wy_parse_grammar.Trees.{highest, both, made, binary, is_expr}
use Rattle.wy_parse_front.specs.wy_parse_grammar.TypeGrammar.{T, Type_}
use Rattle.wy_parse_front.specs.wy_parse_grammar.ExprGrammar.{E, Factor, Product, Summand, Sum, Compared, Comparison, Connected, joint, Chain, Mix, Logic, ExprOf, Unary, Expr_}
use Rattle.wy_print_laws.proofs.round_lemmas.Pieces.{Piece, letters, size, tokens_from, grows, IsMark}
use Rattle.wy_print_laws.proofs.round_lemmas.Pieces.Piece.{gap, mark}
use Rattle.wy_print_laws.proofs.round_lemmas.Marks.{single-mark, double-mark, implies-mark, slash-mark}
use Rattle.wy_print_laws.proofs.round_lemmas.Segments.{text_of, text-both, Segment, joined, IsClosed, closed-append, Before, After, after-item, before-blank, leads-append, Item}
use Rattle.wy_print_laws.proofs.round_lemmas.Heights.{expr_node-low, expr_node-is, made-low, both-low}
use Rattle.wy_print_laws.proofs.round_lemmas.Marked.{is-mark}
use Rattle.wy_print_laws.proofs.round_lemmas.Gives.{Gives, gives-pure, gives-one, gives-then, gives-or, gives-loop, gives-fenced, gives-mark, numeral-among}
use Rattle.wy_print_laws.proofs.round_lemmas.Commas.{mark-reads, turns-end, tokens-behind}
use Rattle.wy_print_laws.proofs.round_lemmas.TypeRound as types
use Rattle.wy_print_laws.proofs.round_lemmas.ExprShown.{shown_binary, shown_is, binary_view, view_binary, is_view, view_is}
use Rattle.wy_print_laws.proofs.round_lemmas.ExprLines.{LogicIn, Line, lifted, to_and, to_or, to_logic, to_expr, ReadsTo, Again, own-as, StandsBy, IsPart, part-by, From, LeftOfOr, part-of}

-- ---- how operators are written

abbrev pub op_kind : Op → TokenKind
op_kind op.Add = k.Plus
op_kind op.Sub = k.Minus
op_kind op.Mul = k.Star
op_kind op.Div = k.Slash
op_kind op.Mod = k.Percent
op_kind op.Equal = k.Equal
op_kind op.NotEqual = k.NotEqual
op_kind op.Less = k.Less
op_kind op.LessEqual = k.LessEqual
op_kind op.Greater = k.Greater
op_kind op.GreaterEqual = k.GreaterEqual
op_kind op.And = k.And
op_kind op.Or = k.Or
op_kind op.Implies = k.Implies

-- what would lengthen it
abbrev pub op_more : Op → Character
op_more op.Sub = class.Is 62
op_more op.Div = class.Remark
op_more op.Equal = class.Is 62
op_more op.Less = class.Is 61
op_more op.Greater = class.Is 61
op_more _ = class.Nothing

op-mark : (o : Op) → IsMark (op_kind o) (symbol o) (op_more o)
op-mark op.Add = single-mark 43 refl refl
op-mark op.Sub = single-mark 45 refl refl
op-mark op.Mul = single-mark 42 refl refl
op-mark op.Div = slash-mark
op-mark op.Mod = single-mark 37 refl refl
op-mark op.Equal = double-mark 61 61 refl refl refl refl
op-mark op.NotEqual = double-mark 33 61 refl refl refl refl
op-mark op.Less = single-mark 60 refl refl
op-mark op.LessEqual = double-mark 60 61 refl refl refl refl
op-mark op.Greater = single-mark 62 refl refl
op-mark op.GreaterEqual = double-mark 62 61 refl refl refl refl
op-mark op.And = double-mark 38 38 refl refl refl refl
op-mark op.Or = double-mark 124 124 refl refl refl refl
op-mark op.Implies = implies-mark

op-first : (o : Op) → heads (grows class.Blank) (symbol o) ≡ false
op-first op.Add = refl
op-first op.Sub = refl
op-first op.Mul = refl
op-first op.Div = refl
op-first op.Mod = refl
op-first op.Equal = refl
op-first op.NotEqual = refl
op-first op.Less = refl
op-first op.LessEqual = refl
op-first op.Greater = refl
op-first op.GreaterEqual = refl
op-first op.And = refl
op-first op.Or = refl
op-first op.Implies = refl

op-gap : (o : Op) → grows (op_more o) 32 ≡ false
op-gap op.Add = refl
op-gap op.Sub = refl
op-gap op.Mul = refl
op-gap op.Div = refl
op-gap op.Mod = refl
op-gap op.Equal = refl
op-gap op.NotEqual = refl
op-gap op.Less = refl
op-gap op.LessEqual = refl
op-gap op.Greater = refl
op-gap op.GreaterEqual = refl
op-gap op.And = refl
op-gap op.Or = refl
op-gap op.Implies = refl

op-flat : (o : Op) (d : ℕ) → depth_after (op_kind o) d ≡ d
op-flat op.Add d = refl
op-flat op.Sub d = refl
op-flat op.Mul d = refl
op-flat op.Div d = refl
op-flat op.Mod d = refl
op-flat op.Equal d = refl
op-flat op.NotEqual d = refl
op-flat op.Less d = refl
op-flat op.LessEqual d = refl
op-flat op.Greater d = refl
op-flat op.GreaterEqual d = refl
op-flat op.And d = refl
op-flat op.Or d = refl
op-flat op.Implies d = refl

-- the token stands for the operator
op-again : (o : Op) → op_of (op_kind o) ≡ o
op-again op.Add = refl
op-again op.Sub = refl
op-again op.Mul = refl
op-again op.Div = refl
op-again op.Mod = refl
op-again op.Equal = refl
op-again op.NotEqual = refl
op-again op.Less = refl
op-again op.LessEqual = refl
op-again op.Greater = refl
op-again op.GreaterEqual = refl
op-again op.And = refl
op-again op.Or = refl
op-again op.Implies = refl

abbrev pub spaced_pieces : Op → List Piece
spaced_pieces o = gap ∷ mark (op_kind o) (symbol o) (op_more o) ∷ gap ∷ []

spaced-text : (o : Op) → text_of (spaced_pieces o) ≡ spaced o
unfolding encode
spaced-text op.Add = refl
spaced-text op.Sub = refl
spaced-text op.Mul = refl
spaced-text op.Div = refl
spaced-text op.Mod = refl
spaced-text op.Equal = refl
spaced-text op.NotEqual = refl
spaced-text op.Less = refl
spaced-text op.LessEqual = refl
spaced-text op.Greater = refl
spaced-text op.GreaterEqual = refl
spaced-text op.And = refl
spaced-text op.Or = refl
spaced-text op.Implies = refl

spaced-segment : (b a : Bool) (o : Op) → Segment (After a) (spaced_pieces o) (Before b)
spaced-segment b a o = record {
  linked = λ m q. (after-item a m 32 q (is_part-ascii 32 (omega arith)) (λ x. refl), (op-first o, op-mark o, (op-gap o, tt)));
  last = λ m q. (before-blank, λ x. refl);
}

spaced-closed : (o : Op) → IsClosed (spaced_pieces o)
spaced-closed o = record { closed = λ d. op-flat o d }

-- an operator between two items
combined-item : (o : Op) (b a c d : Bool) (ps qs : List Piece) → Item b a ps → Item c d qs → Item b d (ps ++ (spaced_pieces o ++ qs))
combined-item o b a c d ps qs x y = record {
  segment = joined ps (spaced_pieces o ++ qs) x.segment (joined (spaced_pieces o) qs (spaced-segment c a o) y.segment);
  leads = leads-append ps (spaced_pieces o ++ qs) x.leads;
  closed = closed-append ps (spaced_pieces o ++ qs) x.closed (closed-append (spaced_pieces o) qs (spaced-closed o) y.closed);
}

-- ---- where operands stand

-- from the level of the line on, else in brackets
pub at-line : (n line : ℕ) (b : Bool) (x : Expr) (h : ℕ) → 3 ≤ line → line ≤ 7 → b ≡ nat_lt (shown x).level line → StandsBy (From line) n x h → Again n (Line line) (bracketed b (shown x)) x h
at-line n line b x h three seven is s =
    part-of (From line) n (Line line) b x h
    (λ le. is ∙ none le)
    (λ free m i y j r. lifted (shown x).level line m i y j three (from (sym is ∙ free)) r)
    (λ m i y j r. lifted 7 line m i y j three seven r) s
  where
    none : line ≤ (shown x).level → nat_lt (shown x).level line ≡ false
    none le = grind (arith, le)

    from : nat_lt (shown x).level line ≡ false → line ≤ (shown x).level
    from free = grind (arith, free)

-- the left side of an operator whose lowest level there is the line's
left-of : (n line : ℕ) (o : Op) (x : Expr) (h : ℕ) → 3 ≤ line → line ≤ 7 → lowest_left o ≡ line → is_or o ≡ false → StandsBy (From line) n x h → Again n (Line line) (left_part o (shown x)) x h
left-of n line o x h three seven low free s = at-line n line (needs_left o (shown x).level) x h three seven needs s
  where
    needs : needs_left o (shown x).level ≡ nat_lt (shown x).level line
    needs = ap (λ b. nat_lt (shown x).level (lowest_left o) || (b && ((shown x).level == 2))) free ∙ (or-false (nat_lt (shown x).level (lowest_left o)) ∙ ap (nat_lt (shown x).level) low)

right-of : (n line : ℕ) (o : Op) (x : Expr) (h : ℕ) → 3 ≤ line → line ≤ 7 → lowest_right o ≡ line → StandsBy (From line) n x h → Again n (Line line) (right_part o (shown x)) x h
right-of n line o x h three seven low s = at-line n line (needs_right o (shown x).level) x h three seven (ap (nat_lt (shown x).level) low) s

left-of-and : (n : ℕ) (x : Expr) (h : ℕ) → StandsBy (From 2) n x h → Again n (Line 2) (left_part op.And (shown x)) x h
left-of-and n x h s =
    part-of (From 2) n (Line 2) (needs_left op.And (shown x).level) x h
    (λ le. or-false (nat_lt (shown x).level 2) ∙ none le)
    (λ free m i y j r. to_and (shown x).level m i y j (from (sym (or-false (nat_lt (shown x).level 2)) ∙ free)) r)
    (λ m i y j r. to_and 7 m i y j (omega arith) r) s
  where
    none : 2 ≤ (shown x).level → nat_lt (shown x).level 2 ≡ false
    none le = grind (arith, le)

    from : nat_lt (shown x).level 2 ≡ false → 2 ≤ (shown x).level
    from free = grind (arith, free)

left-of-or : (n : ℕ) (x : Expr) (h : ℕ) → StandsBy LeftOfOr n x h → Again n (Line 1) (left_part op.Or (shown x)) x h
left-of-or n x h s =
    part-of LeftOfOr n (Line 1) (needs_left op.Or (shown x).level) x h none
    (λ free m i y j r. to_or (shown x).level m i y j (from free) r)
    (λ m i y j r. to_or 7 m i y j (inr (omega arith)) r) s
  where
    none : LeftOfOr (shown x).level → (nat_lt (shown x).level 1 || ((shown x).level == 2)) ≡ false
    none (inl one) = grind (arith, one)
    none (inr three) = grind (arith, three)

    from : (nat_lt (shown x).level 1 || ((shown x).level == 2)) ≡ false → LeftOfOr (shown x).level
    from free = grind (arith, free)

left-of-implies : (n : ℕ) (x : Expr) (h : ℕ) → StandsBy (From 1) n x h → Again n LogicIn (left_part op.Implies (shown x)) x h
left-of-implies n x h s =
    part-of (From 1) n LogicIn (needs_left op.Implies (shown x).level) x h
    (λ le. or-false (nat_lt (shown x).level 1) ∙ none le)
    (λ free m i y j r. to_logic (shown x).level m i y j (from (sym (or-false (nat_lt (shown x).level 1)) ∙ free)) r)
    (λ m i y j r. to_logic 7 m i y j (omega arith) r) s
  where
    none : 1 ≤ (shown x).level → nat_lt (shown x).level 1 ≡ false
    none le = grind (arith, le)

    from : nat_lt (shown x).level 1 ≡ false → 1 ≤ (shown x).level
    from free = grind (arith, free)

-- a rule one level deeper
abbrev pub Deeper : (ℕ → R E) → ℕ → R E
Deeper rule zero = Refused (λ s. false) Deep
Deeper rule (suc n) = rule n

pub again-deeper : (n : ℕ) (rule : ℕ → R E) (s : Shown) (x : Expr) (h : ℕ) → Again n rule s x h → Again (suc n) (Deeper rule) s x h
again-deeper n rule s x h o = record { pieces = o.pieces; spelled = o.spelled; item = o.item; reads = reads }
  where
    reads : (m : ℕ) → suc n ≤ m → (at : ℕ) (j : List Token) → ReadsTo (Deeper rule m) (tokens_from at o.pieces ++ j) x h j
    reads zero g at j = absurd (omega (arith, g))
    reads (suc m) g at j = let r = o.reads m (omega (arith, g)) at j in record { tree = r.tree; same = r.same; reads = r.reads }

right-of-implies : (n : ℕ) (x : Expr) (h : ℕ) → StandsBy (From 0) n x h → Again (suc n) (Deeper (Expr_ true)) (right_part op.Implies (shown x)) x h
right-of-implies n x h s =
    again-deeper n (Expr_ true) (right_part op.Implies (shown x)) x h
    (part-of (From 0) n (Expr_ true) (needs_right op.Implies (shown x).level) x h none (λ free m i y j r. to_expr (shown x).level m i y j r) (λ m i y j r. to_expr 7 m i y j r) s)
  where
    none : 0 ≤ (shown x).level → nat_lt (shown x).level 0 ≡ false
    none le = grind (arith, le)

-- ---- an operator with its operands

-- how the operands and the operator between them are read
abbrev Join : ℕ → (ℕ → R E) → (ℕ → R E) → Op → ℕ → ℕ → Type 0
Join n left right o h l =
    (m : ℕ) → n ≤ m → (at : ℕ) (i rest j : List Token) (u v : Expr) → (left m).reads i (Low u h) (token (op_kind o) at ∷ rest) → (right m).reads rest (Low v l) j → (Line (level_of o) m).reads i (binary at o (Low u h) (Low v l)) j

binary-again : (n : ℕ) (left right : ℕ → R E) (o : Op) (x a b : Expr) (h l : ℕ) → x.kind ≡ e.Binary o a b → nat_lt (max h l) highest ≡ true
    → Again n left (left_part o (shown a)) a h → Again n right (right_part o (shown b)) b l → Join n left right o h l
    → Again n (Line (level_of o)) (combined o (left_part o (shown a)) (right_part o (shown b))) x (max h l + 1)
binary-again n left right o x a b h l is fits p q join = record {
  pieces = p.pieces ++ (spaced_pieces o ++ q.pieces);
  spelled = text-both p.pieces (spaced_pieces o ++ q.pieces) (left_part o (shown a)).text (spaced o ++ (right_part o (shown b)).text) p.spelled
      (text-both (spaced_pieces o) q.pieces (spaced o) (right_part o (shown b)).text (spaced-text o) q.spelled);
  item = combined-item o (left_part o (shown a)).begins (left_part o (shown a)).ends (right_part o (shown b)).begins (right_part o (shown b)).ends p.pieces q.pieces p.item q.item;
  reads = λ m g at j.
      let here = (at + size (letters p.pieces)) + 1 in
      let there = (here + size (symbol o)) + 1 in
      let rest : List Token = tokens_from there q.pieces ++ j in
      let r = p.reads m g at (token (op_kind o) here ∷ rest) in
      let s = q.reads m g there j in
      let node : Expr = record { at = here; kind = e.Binary o r.tree s.tree } in
      let whole : (Line (level_of o) m).reads (tokens_from at p.pieces ++ token (op_kind o) here ∷ rest) (binary here o (Low r.tree h) (Low s.tree l)) j =
      join m g here (tokens_from at p.pieces ++ token (op_kind o) here ∷ rest) rest j r.tree s.tree r.reads s.reads in
      let low : (Line (level_of o) m).reads (tokens_from at p.pieces ++ token (op_kind o) here ∷ rest) (Low node (max h l + 1)) j =
      subst (λ y. (Line (level_of o) m).reads (tokens_from at p.pieces ++ token (op_kind o) here ∷ rest) y j) (expr_node-is here (e.Binary o r.tree s.tree) (max h l) fits) whole in
      record {
        tree = node;
        same = view_binary node o r.tree s.tree refl ∙ (ap₂ (binary_view o) r.same s.same ∙ sym (view_binary x o a b is));
        reads = subst (λ i. (Line (level_of o) m).reads i (Low node (max h l + 1)) j) (sym (tokens-behind at p.pieces (spaced_pieces o ++ q.pieces) j)) low;
      };
}

binary-part : (n at : ℕ) (left right : ℕ → R E) (o : Op) (x z : E)
    → ((a : Expr) (h : ℕ) → x ≡ Low a h → Again n left (left_part o (shown a)) a h)
    → ((b : Expr) (l : ℕ) → z ≡ Low b l → Again n right (right_part o (shown b)) b l)
    → ((h l : ℕ) → Join n left right o h l)
    → IsPart (λ line. line ≡ level_of o) n (binary at o x z)
binary-part n at left right o x z p q join = record {
  low = λ y h f.
      let c = expr_node-low at (made (λ (d : Expr × Expr). e.Binary o d.0 d.1) (both x z)) y h f in
      let m = made-low (λ (d : Expr × Expr). e.Binary o d.0 d.1) (both x z) c.of c.below c.is in
      let b = both-low x z m.of c.below m.is in
      let is : y.kind ≡ e.Binary o b.first b.second = c.kind_is ∙ (m.value ∙ ap (λ (d : Expr × Expr). e.Binary o d.0 d.1) b.value) in
      let fits : nat_lt (max b.first_height b.second_height) highest ≡ true = ap (λ n. nat_lt n highest) (sym b.height_is) ∙ c.fits in
      let shows : shown y ≡ combined o (left_part o (shown b.first)) (right_part o (shown b.second)) = shown_binary y o b.first b.second is in
      let again = binary-again n left right o y b.first b.second b.first_height b.second_height is fits (p b.first b.first_height b.first_is) (q b.second b.second_height b.second_is) (join b.first_height b.second_height) in
      subst (λ l. StandsBy (λ line. line ≡ level_of o) n y l) (sym (c.height_is ∙ ap (λ n. n + 1) b.height_is))
      (inl (ap (λ (u : Shown). u.level) shows, own-as n y (max b.first_height b.second_height + 1) (combined o (left_part o (shown b.first)) (right_part o (shown b.second))) shows again));
}

-- ---- operators by their classes

operator-reads : (c : Class) (o : Op) (at : ℕ) (i : List Token) → among (t.members c) (sort (op_kind o)) ≡ true → (Operator c).reads (token (op_kind o) at ∷ i) (at, o) i
operator-reads c o at i h = (token (op_kind o) at, i, (h, refl), (ap (λ (p : Op). (at, p)) (sym (op-again o)), refl))

abbrev InClass : Class → ℕ × Op → Type 0
InClass c p = among (t.members c) (sort (op_kind p.1)) ≡ true

factor-kinds : (kind : TokenKind) → among (t.members kinds.Factor) (sort kind) ≡ true → among (t.members kinds.Factor) (sort (op_kind (op_of kind))) ≡ true
factor-kinds k.Star h = refl
factor-kinds k.Slash h = refl
factor-kinds k.Percent h = refl
factor-kinds (k.Numeral z) h = absurd (true≢false (sym h ∙ numeral-among (t.members kinds.Factor) z refl refl refl))
factor-kinds _ h = absurd (true≢false (sym h))

summand-kinds : (kind : TokenKind) → among (t.members kinds.Summand) (sort kind) ≡ true → among (t.members kinds.Summand) (sort (op_kind (op_of kind))) ≡ true
summand-kinds k.Plus h = refl
summand-kinds k.Minus h = refl
summand-kinds (k.Numeral z) h = absurd (true≢false (sym h ∙ numeral-among (t.members kinds.Summand) z refl refl refl))
summand-kinds _ h = absurd (true≢false (sym h))

comparison-kinds : (kind : TokenKind) → among (t.members kinds.Comparison) (sort kind) ≡ true → among (t.members kinds.Comparison) (sort (op_kind (op_of kind))) ≡ true
comparison-kinds k.Equal h = refl
comparison-kinds k.NotEqual h = refl
comparison-kinds k.Less h = refl
comparison-kinds k.LessEqual h = refl
comparison-kinds k.Greater h = refl
comparison-kinds k.GreaterEqual h = refl
comparison-kinds (k.Numeral z) h = absurd (true≢false (sym h ∙ numeral-among (t.members kinds.Comparison) z refl refl refl))
comparison-kinds _ h = absurd (true≢false (sym h))

gives-operator : (c : Class) → ((kind : TokenKind) → among (t.members c) (sort kind) ≡ true → among (t.members c) (sort (op_kind (op_of kind))) ≡ true) → Gives (Operator c) (InClass c)
gives-operator c f = gives-then (gives-one (has c)) (λ s h. gives-pure (s.at, op_of s.kind) (InClass c) (f s.kind h.0))

-- the levels of a class
record HasLevels (o : Op) (level left right : ℕ) : Type 0 where
  pub level_is : level_of o ≡ level
  pub left_is : lowest_left o ≡ left
  pub right_is : lowest_right o ≡ right
  pub no_or : is_or o ≡ false

factor-levels : (o : Op) → among (t.members kinds.Factor) (sort (op_kind o)) ≡ true → HasLevels o 5 5 6
factor-levels op.Mul h = record { level_is = refl; left_is = refl; right_is = refl; no_or = refl }
factor-levels op.Div h = record { level_is = refl; left_is = refl; right_is = refl; no_or = refl }
factor-levels op.Mod h = record { level_is = refl; left_is = refl; right_is = refl; no_or = refl }
factor-levels _ h = absurd (true≢false (sym h))

summand-levels : (o : Op) → among (t.members kinds.Summand) (sort (op_kind o)) ≡ true → HasLevels o 4 4 5
summand-levels op.Add h = record { level_is = refl; left_is = refl; right_is = refl; no_or = refl }
summand-levels op.Sub h = record { level_is = refl; left_is = refl; right_is = refl; no_or = refl }
summand-levels _ h = absurd (true≢false (sym h))

comparison-levels : (o : Op) → among (t.members kinds.Comparison) (sort (op_kind o)) ≡ true → HasLevels o 3 4 4
comparison-levels op.Equal h = record { level_is = refl; left_is = refl; right_is = refl; no_or = refl }
comparison-levels op.NotEqual h = record { level_is = refl; left_is = refl; right_is = refl; no_or = refl }
comparison-levels op.Less h = record { level_is = refl; left_is = refl; right_is = refl; no_or = refl }
comparison-levels op.LessEqual h = record { level_is = refl; left_is = refl; right_is = refl; no_or = refl }
comparison-levels op.Greater h = record { level_is = refl; left_is = refl; right_is = refl; no_or = refl }
comparison-levels op.GreaterEqual h = record { level_is = refl; left_is = refl; right_is = refl; no_or = refl }
comparison-levels _ h = absurd (true≢false (sym h))

at-level : (o : Op) (level n : ℕ) (x : E) → level_of o ≡ level → IsPart (λ line. line ≡ level_of o) n x → IsPart (From level) n x
at-level o level n x is p = part-by (λ line. line ≡ level_of o) (From level) n x (λ l same. let f = is in omega (arith, same, f)) p

factor-join : (n : ℕ) (o : Op) (h l : ℕ) → among (t.members kinds.Factor) (sort (op_kind o)) ≡ true → level_of o ≡ 5 → Join n (Line 5) (Line 6) o h l
factor-join n o h l c is m g at i rest j u v r q =
    let a : E = Low u h in
    let whole : (Line 5 m).reads i (binary at o a (Low v l)) j =
    (r.0, r.1, r.2, turns-end (Factor (Unary true m)) r.0 r.1 a (token (op_kind o) at ∷ rest) (binary at o a (Low v l)) j r.3 ((at, o), rest, operator-reads kinds.Factor o at rest c, (Low v l, j, q, (refl, refl)))) in
    subst (λ level. (Line level m).reads i (binary at o a (Low v l)) j) (sym is) whole

summand-join : (n : ℕ) (o : Op) (h l : ℕ) → among (t.members kinds.Summand) (sort (op_kind o)) ≡ true → level_of o ≡ 4 → Join n (Line 4) (Line 5) o h l
summand-join n o h l c is m g at i rest j u v r q =
    let a : E = Low u h in
    let whole : (Line 4 m).reads i (binary at o a (Low v l)) j =
    (r.0, r.1, r.2, turns-end (Summand (Unary true m)) r.0 r.1 a (token (op_kind o) at ∷ rest) (binary at o a (Low v l)) j r.3 ((at, o), rest, operator-reads kinds.Summand o at rest c, (Low v l, j, q, (refl, refl)))) in
    subst (λ level. (Line level m).reads i (binary at o a (Low v l)) j) (sym is) whole

comparison-join : (n : ℕ) (o : Op) (h l : ℕ) → among (t.members kinds.Comparison) (sort (op_kind o)) ≡ true → level_of o ≡ 3 → Join n (Line 4) (Line 4) o h l
comparison-join n o h l c is m g at i rest j u v r q =
    let a : E = Low u h in
    let whole : (Line 3 m).reads i (binary at o a (Low v l)) j = (a, token (op_kind o) at ∷ rest, r, inl ((at, o), rest, operator-reads kinds.Comparison o at rest c, (Low v l, j, q, (refl, refl)))) in
    subst (λ level. (Line level m).reads i (binary at o a (Low v l)) j) (sym is) whole

and-join : (n h l : ℕ) → Join n (Line 2) (Line 3) op.And h l
and-join n h l m g at i rest j u v r q =
    let a : E = Low u h in
    (r.0, r.1, r.2, turns-end (Connected m (Unary true m) t.AND) r.0 r.1 a (token k.And at ∷ rest) (binary at op.And a (Low v l)) j r.3 (at, rest, mark-reads t.AND k.And at rest refl, (Low v l, j, q, (refl, refl))))

or-join : (n h l : ℕ) → Join n (Line 1) (Line 3) op.Or h l
or-join n h l m g at i rest j u v r q =
    let a : E = Low u h in
    (r.0, r.1, r.2, turns-end (Connected m (Unary true m) t.OR) r.0 r.1 a (token k.Or at ∷ rest) (binary at op.Or a (Low v l)) j r.3 (at, rest, mark-reads t.OR k.Or at rest refl, (Low v l, j, q, (refl, refl))))

implies-join : (n h l : ℕ) → Join n LogicIn (Deeper (Expr_ true)) op.Implies h l
unfolding Expr_ Unary Rattle.wy_parse_front.specs.wy_parse_grammar.ExprGrammar.level
implies-join n h l zero g at i rest j u v r q = absurd q
implies-join n h l (suc m) g at i rest j u v r q = (Low u h, token k.Implies at ∷ rest, r, inl (at, rest, mark-reads t.IMPLIES k.Implies at rest refl, (Low v l, j, q, (refl, refl))))

-- ---- `is`

is_pieces : List Piece
is_pieces = gap ∷ mark k.Is (codes "is") class.Part ∷ gap ∷ []

is-segment : (a : Bool) → Segment (After a) is_pieces (Before false)
unfolding is_pieces
is-segment a = record {
  linked = λ m q. (after-item a m 32 q (is_part-ascii 32 (omega arith)) (λ x. refl), (refl, is-mark, (is_part-ascii 32 (omega arith), tt)));
  last = λ m q. (before-blank, λ x. refl);
}

is-text : text_of is_pieces ≡ codes " is "
unfolding is_pieces encode
is-text = refl

is-again : (n : ℕ) (x a : Expr) (y : Ty) (h l : ℕ) → x.kind ≡ e.Is a y → nat_lt (max h l) highest ≡ true → Again n (Line 4) (part 4 (shown a)) a h → types.Again n 0 (ty_text y) y l
    → Again n (Line 3) (continued 3 (part 4 (shown a)) (codes " is " ++ ty_text y)) x (max h l + 1)
unfolding is_pieces Type_
is-again n x a y h l is fits p q = record {
  pieces = p.pieces ++ (is_pieces ++ q.pieces);
  spelled = text-both p.pieces (is_pieces ++ q.pieces) (part 4 (shown a)).text (codes " is " ++ ty_text y) p.spelled (text-both is_pieces q.pieces (codes " is ") (ty_text y) is-text q.spelled);
  item = record {
    segment = joined p.pieces (is_pieces ++ q.pieces) p.item.segment (joined is_pieces q.pieces (is-segment (part 4 (shown a)).ends) q.item.segment);
    leads = leads-append p.pieces (is_pieces ++ q.pieces) p.item.leads;
    closed = closed-append p.pieces (is_pieces ++ q.pieces) p.item.closed (closed-append is_pieces q.pieces (record { closed = λ d. refl }) q.item.closed);
  };
  reads = λ m g at j.
      let here = (at + size (letters p.pieces)) + 1 in
      let there = (here + size (codes "is")) + 1 in
      let rest : List Token = tokens_from there q.pieces ++ j in
      let r = p.reads m g at (token k.Is here ∷ rest) in
      let s = q.reads m g there j in
      let node : Expr = record { at = here; kind = e.Is r.tree s.tree } in
      let whole : (Line 3 m).reads (tokens_from at p.pieces ++ token k.Is here ∷ rest) (Low node (max h l + 1)) j =
      (Low r.tree h, token k.Is here ∷ rest, r.reads, inr (inl (here, rest, mark-reads t.IS k.Is here rest refl, (Low s.tree l, j, s.reads, (sym (expr_node-is here (e.Is r.tree s.tree) (max h l) fits), refl))))) in
      record {
        tree = node;
        same = view_is node r.tree s.tree refl ∙ (ap₂ is_view r.same s.same ∙ sym (view_is x a y is));
        reads = subst (λ i. (Line 3 m).reads i (Low node (max h l + 1)) j) (sym (tokens-behind at p.pieces (is_pieces ++ q.pieces) j)) whole;
      };
}

is-part : (n at : ℕ) (x : E) (z : T) → IsPart (From 4) n x → types.IsPart n 0 z → IsPart (From 3) n (is_expr at x z)
is-part n at x z p q = record {
  low = λ y h f.
      let c = expr_node-low at (made (λ (d : Expr × Ty). e.Is d.0 d.1) (both x z)) y h f in
      let m = made-low (λ (d : Expr × Ty). e.Is d.0 d.1) (both x z) c.of c.below c.is in
      let b = both-low x z m.of c.below m.is in
      let is : y.kind ≡ e.Is b.first b.second = c.kind_is ∙ (m.value ∙ ap (λ (d : Expr × Ty). e.Is d.0 d.1) b.value) in
      let fits : nat_lt (max b.first_height b.second_height) highest ≡ true = ap (λ n. nat_lt n highest) (sym b.height_is) ∙ c.fits in
      let shows : shown y ≡ continued 3 (part 4 (shown b.first)) (codes " is " ++ ty_text b.second) = shown_is y b.first b.second is in
      let line : 3 ≤ (shown y).level = omega (arith, ap (λ (u : Shown). u.level) shows) in
      let again = is-again n y b.first b.second b.first_height b.second_height is fits (at-line n 4 (nat_lt (shown b.first).level 4) b.first b.first_height (omega arith) (omega arith) refl (p.low b.first b.first_height b.first_is))
      (types.whole-of n b.second b.second_height (q.low b.second b.second_height b.second_is)) in
      subst (λ l. StandsBy (From 3) n y l) (sym (c.height_is ∙ ap (λ n. n + 1) b.height_is))
      (inl (line, own-as n y (max b.first_height b.second_height + 1) (continued 3 (part 4 (shown b.first)) (codes " is " ++ ty_text b.second)) shows again));
}

-- ---- what the rules of operators give

module _ (n : ℕ) (unary : Gives (Unary true n) (IsPart (From 6) n)) where
  gives-factor : (x : E) → IsPart (From 5) n x → Gives (Factor (Unary true n) x) (IsPart (From 5) n)
  gives-factor x p =
      gives-then (gives-operator kinds.Factor factor-kinds) (λ o c. gives-then unary (λ z q.
      let v = factor-levels o.1 c in
      gives-pure (binary o.0 o.1 x z) (IsPart (From 5) n)
      (at-level o.1 5 n (binary o.0 o.1 x z) v.level_is
      (binary-part n o.0 (Line 5) (Line 6) o.1 x z (λ a h f. left-of n 5 o.1 a h (omega arith) (omega arith) v.left_is v.no_or (p.low a h f)) (λ b l f. right-of n 6 o.1 b l (omega arith) (omega arith) v.right_is (q.low b l f))
      (λ h l. factor-join n o.1 h l c v.level_is)))))

  gives-product : Gives (Product (Unary true n)) (IsPart (From 5) n)
  gives-product = gives-then unary (λ x p. gives-loop gives-factor x (part-by (From 6) (From 5) n x (λ l h. omega (arith, h)) p))

  gives-summand : (x : E) → IsPart (From 4) n x → Gives (Summand (Unary true n) x) (IsPart (From 4) n)
  gives-summand x p =
      gives-then (gives-operator kinds.Summand summand-kinds) (λ o c. gives-then gives-product (λ z q.
      let v = summand-levels o.1 c in
      gives-pure (binary o.0 o.1 x z) (IsPart (From 4) n)
      (at-level o.1 4 n (binary o.0 o.1 x z) v.level_is
      (binary-part n o.0 (Line 4) (Line 5) o.1 x z (λ a h f. left-of n 4 o.1 a h (omega arith) (omega arith) v.left_is v.no_or (p.low a h f)) (λ b l f. right-of n 5 o.1 b l (omega arith) (omega arith) v.right_is (q.low b l f))
      (λ h l. summand-join n o.1 h l c v.level_is)))))

  pub gives-sum : Gives (Sum (Unary true n)) (IsPart (From 4) n)
  gives-sum = gives-then gives-product (λ x p. gives-loop gives-summand x (part-by (From 5) (From 4) n x (λ l h. omega (arith, h)) p))

  gives-compared : (x : E) → IsPart (From 4) n x → Gives (Compared n (Unary true n) x) (IsPart (From 3) n)
  gives-compared x p =
      gives-or (gives-then (gives-operator kinds.Comparison comparison-kinds) (λ o c. gives-then gives-sum (λ z q.
      let v = comparison-levels o.1 c in
      gives-pure (binary o.0 o.1 x z) (IsPart (From 3) n)
      (at-level o.1 3 n (binary o.0 o.1 x z) v.level_is
      (binary-part n o.0 (Line 4) (Line 4) o.1 x z (λ a h f. left-of n 4 o.1 a h (omega arith) (omega arith) v.left_is v.no_or (p.low a h f)) (λ b l f. right-of n 4 o.1 b l (omega arith) (omega arith) v.right_is (q.low b l f))
      (λ h l. comparison-join n o.1 h l c v.level_is))))))
      (gives-or (gives-then (gives-mark t.IS) (λ at h. gives-then (types.gives-type n) (λ z q. gives-pure (is_expr at x z) (IsPart (From 3) n) (is-part n at x z p q))))
      (gives-pure x (IsPart (From 3) n) (part-by (From 4) (From 3) n x (λ l h. omega (arith, h)) p)))

  gives-comparison : Gives (Comparison n (Unary true n)) (IsPart (From 3) n)
  gives-comparison = gives-then gives-sum gives-compared

  gives-and : (x : E) → IsPart (From 2) n x → Gives (Connected n (Unary true n) t.AND x) (IsPart (From 2) n)
  gives-and x p =
      gives-then (gives-mark t.AND) (λ at h. gives-then gives-comparison (λ z q.
      gives-pure (binary at op.And x z) (IsPart (From 2) n)
      (at-level op.And 2 n (binary at op.And x z) refl
      (binary-part n at (Line 2) (Line 3) op.And x z (λ a h f. left-of-and n a h (p.low a h f)) (λ b l f. right-of n 3 op.And b l (omega arith) (omega arith) refl (q.low b l f)) (λ h l. and-join n h l)))))

  gives-or_turn : (x : E) → IsPart LeftOfOr n x → Gives (Connected n (Unary true n) t.OR x) (IsPart LeftOfOr n)
  gives-or_turn x p =
      gives-then (gives-mark t.OR) (λ at h. gives-then gives-comparison (λ z q.
      gives-pure (binary at op.Or x z) (IsPart LeftOfOr n)
      (part-by (λ line. line ≡ 1) LeftOfOr n (binary at op.Or x z) (λ l same. inl same)
      (binary-part n at (Line 1) (Line 3) op.Or x z (λ a h f. left-of-or n a h (p.low a h f)) (λ b l f. right-of n 3 op.Or b l (omega arith) (omega arith) refl (q.low b l f)) (λ h l. or-join n h l)))))

  gives-logic : Gives (Logic n (Unary true n) true) (IsPart (From 1) n)
  gives-logic =
      gives-then gives-comparison (λ x p.
      gives-or (gives-then (gives-then (gives-and x (part-by (From 3) (From 2) n x (λ l h. omega (arith, h)) p)) (λ y q. gives-loop gives-and y q))
      (λ y q. gives-fenced (is t.OR) Rattle.wy_parse_front.specs.wy_parse_grammar.declared.fault.Kind.TheVariants.Mixed (Mix n (Unary true n) t.OR) y (part-by (From 2) (From 1) n y (λ l h. omega (arith, h)) q)))
      (gives-or (gives-then (gives-then (gives-or_turn x (part-by (From 3) LeftOfOr n x (λ l h. inr h) p)) (λ y q. gives-loop gives-or_turn y q))
      (λ y q. gives-fenced (is t.AND) Rattle.wy_parse_front.specs.wy_parse_grammar.declared.fault.Kind.TheVariants.Mixed (Mix n (Unary true n) t.AND) y (part-by LeftOfOr (From 1) n y or-one q)))
      (gives-pure x (IsPart (From 1) n) (part-by (From 3) (From 1) n x (λ l h. omega (arith, h)) p))))
    where
      or-one : (l : ℕ) → LeftOfOr l → 1 ≤ l
      or-one l (inl h) = omega (arith, h)
      or-one l (inr h) = omega (arith, h)

-- an expression, over what stands one level deeper
pub gives-expr_of : (d : ℕ) → Gives (Unary true (suc d)) (IsPart (From 6) (suc d)) → Gives (Expr_ true d) (IsPart (From 0) d) → Gives (ExprOf (suc d) (Unary true (suc d)) true (Expr_ true d)) (IsPart (From 0) (suc d))
gives-expr_of d unary deeper =
    gives-then (gives-logic (suc d) unary) (λ x p.
    gives-or (gives-then (gives-mark t.IMPLIES) (λ at h. gives-then deeper (λ z q.
    gives-pure (binary at op.Implies x z) (IsPart (From 0) (suc d))
    (at-level op.Implies 0 (suc d) (binary at op.Implies x z) refl
    (binary-part (suc d) at LogicIn (Deeper (Expr_ true)) op.Implies x z (λ a h f. left-of-implies (suc d) a h (p.low a h f)) (λ b l f. right-of-implies d b l (q.low b l f)) (λ h l. implies-join (suc d) h l))))))
    (gives-pure x (IsPart (From 0) (suc d)) (part-by (From 1) (From 0) (suc d) x (λ l h. omega arith) p)))
