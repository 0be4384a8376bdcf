-- Literals and variables are read again.
use Rattle.std.proofs.Common.{◌≡◌, ℕ, zero, suc, ◌+◌, ◌≤◌, ◌==◌, ◌&&◌, Bool, true, false, cond, true≢false, nat_le, List, [], ◌∷◌, ◌++◌, codes, inl, inr, refl, sym, ap, ◌∙◌, subst, arith, append-nil, pos, negsuc}
use Rattle.std.specs.Prelude.{neg_ℤ}
use Rattle.std.specs.Fmt.{decimal, signed_decimal}
use Rattle.std.specs.Str.{encode_utf8_all}
use lib.Utf8.{encode}
use Rattle.wy_data.specs.Words.{IsName}
use Rattle.wy_data.proofs.WordLemmas.{is_start-ascii}
use Rattle.wy_reading.specs.Rule.{among}
use Rattle.wy_reading.specs.Rule.Turns.{stop}
use Rattle.wy_ast.specs.SurfaceTree as tree
use Rattle.wy_ast.specs.declared.expressions.Expr.{Expr}
use Rattle.wy_ast.specs.declared.expressions.ExprKind.{ExprKind}
use Rattle.wy_ast.specs.declared.expressions.ExprKind.TheVariants as e
use Rattle.wy_parse_front.specs.wy_lex.declared.token.Token.{Token}
use Rattle.wy_parse_front.specs.wy_lex.declared.token.TokenKind.{TokenKind}
use Rattle.wy_parse_front.specs.wy_lex.declared.token.TokenKind.TheVariants as k
use Rattle.wy_parse_front.specs.wy_lex.declared.symbol.Character.TheVariants as class
use Rattle.wy_parse_front.specs.wy_lex.Kinds.{greatest}
use Rattle.wy_parse_front.specs.wy_lex.Layout.{token}
use Rattle.wy_parse_front.specs.wy_lex.Lists.{IsProper, AllText}
use Rattle.wy_print.specs.Pieces.{quoted, all_escaped}
use Rattle.wy_print.specs.ExprText.{Shown, shown, plain}
use Rattle.wy_parse_front.specs.wy_parse_grammar.declared.measured.Measured.TheVariants.{Low}
use Rattle.wy_parse_front.specs.wy_parse_grammar.declared.sort.Class.TheVariants as kinds
use Rattle.wy_parse_front.specs.wy_parse_grammar.Sorts as t
use Rattle.wy_parse_front.specs.wy_parse_grammar.Sorts.{is, has, sort, numeral_sort}
use Rattle.wy_parse_front.specs.wy_parse_grammar.Trees.{leaf}
use Rattle.wy_parse_front.specs.wy_parse_grammar.ExprGrammar.{literal_kind, Literal, touches, opposite, Glued}
use Rattle.wy_print_laws.specs.round.Bare.{bare_expr}
use Rattle.wy_print_laws.proofs.round_lemmas.Pieces.{Piece, tokens_from, size, IsMark}
use Rattle.wy_print_laws.proofs.round_lemmas.Pieces.Piece.{mark}
use Rattle.wy_print_laws.proofs.round_lemmas.Marks.{numeral-mark, text-mark, Writes, decimal_writes, decimal-code, text-code}
use Rattle.wy_print_laws.proofs.round_lemmas.Segments.{text_of, Item, no_item-ascii}
use Rattle.wy_print_laws.proofs.round_lemmas.Heights.{expr_node-low, same_part, same_height}
use Rattle.wy_print_laws.proofs.round_lemmas.Marked.{null-mark, true-mark, false-mark, minus-mark}
use Rattle.wy_print_laws.proofs.round_lemmas.Gives.{Gives, gives-one, gives-pure, gives-then}
use Rattle.wy_print_laws.proofs.round_lemmas.Commas.{mark-reads}
use Rattle.wy_print_laws.proofs.round_lemmas.Enclosed.{begins-sign, begins-letter, begins-digit, single-item, prefix-item, name_piece, name-item, name-text, name-reads}
use Rattle.wy_print_laws.proofs.round_lemmas.ExprShown.{shown_null, bare_null, shown_bool, bare_bool, shown_int, bare_int, shown_text, bare_text, shown_var, viewed, view_int, view_var}
use Rattle.wy_print_laws.proofs.round_lemmas.ExprLines.{Postfix, Line, ReadsTo, Again, own-as, StandsBy, IsPart, From}

-- ---- leaves in general

-- a node without parts, of this kind, shown so by itself
pub leaf-part : (n at : ℕ) (kind : ExprKind) (s : Shown) → s.level ≡ 7 → ((x : Expr) → x.kind ≡ kind → shown x ≡ s) → ((x : Expr) → x.kind ≡ kind → Again n Postfix s x 1) → IsPart (From 7) n (leaf at kind)
leaf-part n at kind s seven shows again = record {
  low = λ y h f.
      let o = expr_node-low at (Low kind 0) y h f in
      let is : y.kind ≡ kind = o.kind_is ∙ sym (same_part kind o.of 0 o.below o.is) in
      let height_is : h ≡ 1 = o.height_is ∙ ap (λ l. l + 1) (sym (same_height kind o.of 0 o.below o.is)) in
      let line : 7 ≤ (shown y).level = omega (arith, ap (λ (u : Shown). u.level) (shows y is), seven) in
      subst (λ l. StandsBy (From 7) n y l) (sym height_is)
      (inl (line, own-as n y 1 s (shows y is) (subst (λ l. Again n (Line l) s y 1) (sym seven) (again y is))));
}

-- ---- literals of one token

-- a token that is a literal: its kind, how it is shown and what it is places aside
pub record IsLiteral (kind : TokenKind) (of : ExprKind) (word : List ℕ) (bare : tree.Expr) : Type 0 where
  pub literal : among (t.members kinds.Literal) (sort kind) ≡ true
  pub of_is : literal_kind kind ≡ of
  pub shows : (x : Expr) → x.kind ≡ of → shown x ≡ plain 7 word
  pub bare_is : (x : Expr) → x.kind ≡ of → bare_expr x ≡ bare
  pub pieces : List Piece
  pub spelled : text_of pieces ≡ word
  pub item : Item false false pieces
  pub tokens : (at : ℕ) → tokens_from at pieces ≡ token kind at ∷ []

literal-again : (n : ℕ) (kind : TokenKind) (of : ExprKind) (word : List ℕ) (bare : tree.Expr) → IsLiteral kind of word bare → (x : Expr) → x.kind ≡ of → Again (suc n) Postfix (plain 7 word) x 1
literal-again n kind of word bare l x is = record { pieces = l.pieces; spelled = l.spelled; item = l.item; reads = reads }
  where
    reads : (m : ℕ) → suc n ≤ m → (at : ℕ) (j : List Token) → ReadsTo (Postfix m) (tokens_from at l.pieces ++ j) x 1 j
    reads zero g at j = absurd (omega (arith, g))
    reads (suc m) g at j =
        let node : Expr = record { at = at; kind = of } in
        let path : Low node 1 ≡ leaf at (literal_kind kind) = ap (leaf at) (sym l.of_is) in
        let r : (Postfix (suc m)).reads (token kind at ∷ j) (Low node 1) j = inl (Low node 1, j, inl (token kind at, j, (l.literal, refl), (path, refl)), stop refl refl) in
        record { tree = node; same = viewed node bare (plain 7 word) (l.bare_is node refl) (l.shows node refl) ∙ sym (viewed x bare (plain 7 word) (l.bare_is x is) (l.shows x is)); reads = subst (λ ts. (Postfix (suc m)).reads (ts ++ j) (Low node 1) j) (sym (l.tokens at)) r }

literal-part : (n at : ℕ) (kind : TokenKind) (of : ExprKind) (word : List ℕ) (bare : tree.Expr) → IsLiteral kind of word bare → IsPart (From 7) (suc n) (leaf at (literal_kind kind))
literal-part n at kind of word bare l =
    subst (λ c. IsPart (From 7) (suc n) (leaf at c)) (sym l.of_is) (leaf-part (suc n) at of (plain 7 word) refl l.shows (literal-again n kind of word bare l))

pub literal-null : IsLiteral k.Null e.Null (codes "null") (tree.NullExpr 0)
unfolding encode
literal-null = record {
  literal = refl;
  of_is = refl;
  shows = shown_null;
  bare_is = bare_null;
  pieces = mark k.Null (codes "null") class.Part ∷ [];
  spelled = refl;
  item = single-item k.Null 110 (117 ∷ 108 ∷ 108 ∷ []) class.Part null-mark (begins-letter 110 (omega arith) refl) tt (record { closed = λ d. refl });
  tokens = λ at. refl;
}

pub literal-true : IsLiteral k.True (e.Bool true) (codes "true") (tree.BoolExpr 0 true)
unfolding encode
literal-true = record {
  literal = refl;
  of_is = refl;
  shows = λ x. shown_bool x true;
  bare_is = λ x. bare_bool x true;
  pieces = mark k.True (codes "true") class.Part ∷ [];
  spelled = refl;
  item = single-item k.True 116 (114 ∷ 117 ∷ 101 ∷ []) class.Part true-mark (begins-letter 116 (omega arith) refl) tt (record { closed = λ d. refl });
  tokens = λ at. refl;
}

pub literal-false : IsLiteral k.False (e.Bool false) (codes "false") (tree.BoolExpr 0 false)
unfolding encode
literal-false = record {
  literal = refl;
  of_is = refl;
  shows = λ x. shown_bool x false;
  bare_is = λ x. bare_bool x false;
  pieces = mark k.False (codes "false") class.Part ∷ [];
  spelled = refl;
  item = single-item k.False 102 (97 ∷ 108 ∷ 115 ∷ 101 ∷ []) class.Part false-mark (begins-letter 102 (omega arith) refl) tt (record { closed = λ d. refl });
  tokens = λ at. refl;
}

quoted-item : (cs : List ℕ) → AllText cs → Item false false (mark (k.Text cs) (quoted cs) class.Nothing ∷ [])
quoted-item cs h = single-item (k.Text cs) 34 (all_escaped cs ++ 34 ∷ []) class.Nothing (text-mark cs h) (begins-sign 34 refl) tt (record { closed = λ d. refl })

literal-text : (cs : List ℕ) → AllText cs → IsLiteral (k.Text cs) (e.Text cs) (quoted cs) (tree.TextExpr 0 cs)
literal-text cs h = record {
  literal = refl;
  of_is = refl;
  shows = λ x. shown_text x cs;
  bare_is = λ x. bare_text x cs;
  pieces = mark (k.Text cs) (quoted cs) class.Nothing ∷ [];
  spelled = ap encode_utf8_all (append-nil (quoted cs)) ∙ text-code cs h;
  item = quoted-item cs h;
  tokens = λ at. refl;
}

-- ---- numerals

-- the digits of a number, as a piece
abbrev pub digits_piece : ℕ → Piece
digits_piece n = mark (k.Numeral (pos n)) (decimal n) class.Part

pub digits-item : (n : ℕ) → n ≤ greatest → Item false false (digits_piece n ∷ [])
digits-item n most = by (decimal n) (decimal_writes n (omega (arith, most))) (numeral-mark n most)
  where
    by : (ds : List ℕ) → Writes n ds → IsMark (k.Numeral (pos n)) ds class.Part → Item false false (mark (k.Numeral (pos n)) ds class.Part ∷ [])
    by ds w m =
        subst (λ l. Item false false (mark (k.Numeral (pos n)) l class.Part ∷ [])) (sym w.shape)
        (single-item (k.Numeral (pos n)) w.head w.tail class.Part (subst (λ l. IsMark (k.Numeral (pos n)) l class.Part) w.shape m) (begins-digit w.head w.starts) tt (record { closed = λ d. refl }))

pub digits-text : (n : ℕ) → n ≤ greatest → text_of (digits_piece n ∷ []) ≡ decimal n
digits-text n most = ap encode_utf8_all (append-nil (decimal n)) ∙ decimal-code n most

pub literal-numeral : (n : ℕ) → n ≤ greatest → among (t.members kinds.Literal) (sort (k.Numeral (pos n))) ≡ true → IsLiteral (k.Numeral (pos n)) (e.Int (pos n)) (decimal n) (tree.IntExpr 0 (pos n))
literal-numeral n most h = record {
  literal = h;
  of_is = refl;
  shows = λ x. shown_int x (pos n);
  bare_is = λ x. bare_int x (pos n);
  pieces = digits_piece n ∷ [];
  spelled = digits-text n most;
  item = digits-item n most;
  tokens = λ at. refl;
}

-- what a token that is a literal gives
literal-kinds : (n at : ℕ) (kind : TokenKind) → among (t.members kinds.Literal) (sort kind) ≡ true → IsProper kind → IsPart (From 7) (suc n) (leaf at (literal_kind kind))
literal-kinds n at (k.Numeral z) h p =
    subst (λ y. IsPart (From 7) (suc n) (leaf at (e.Int y))) (sym p.1)
    (literal-part n at (k.Numeral (pos p.0)) (e.Int (pos p.0)) (decimal p.0) (tree.IntExpr 0 (pos p.0)) (literal-numeral p.0 p.2 (ap (λ y. among (t.members kinds.Literal) (numeral_sort y)) (sym p.1) ∙ h)))
literal-kinds n at (k.Text cs) h p = literal-part n at (k.Text cs) (e.Text cs) (quoted cs) (tree.TextExpr 0 cs) (literal-text cs p)
literal-kinds n at k.Null h p = literal-part n at k.Null e.Null (codes "null") (tree.NullExpr 0) literal-null
literal-kinds n at k.True h p = literal-part n at k.True (e.Bool true) (codes "true") (tree.BoolExpr 0 true) literal-true
literal-kinds n at k.False h p = literal-part n at k.False (e.Bool false) (codes "false") (tree.BoolExpr 0 false) literal-false
literal-kinds n at _ h p = absurd (true≢false (sym h))

pub gives-literal : (n : ℕ) → Gives Literal (IsPart (From 7) (suc n))
gives-literal n = gives-then (gives-one (has kinds.Literal)) (λ s h. gives-pure (leaf s.at (literal_kind s.kind)) (IsPart (From 7) (suc n)) (literal-kinds n s.at s.kind h.0 h.1))

-- ---- variables

var-again : (n : ℕ) (name : List ℕ) → IsName name → (x : Expr) → x.kind ≡ e.Var name → Again (suc n) Postfix (plain 7 name) x 1
var-again n name v x is = record { pieces = name_piece name ∷ []; spelled = name-text name v; item = name-item name v; reads = reads }
  where
    reads : (m : ℕ) → suc n ≤ m → (at : ℕ) (j : List Token) → ReadsTo (Postfix m) (token (k.Name name) at ∷ j) x 1 j
    reads zero g at j = absurd (omega (arith, g))
    reads (suc m) g at j =
        let node : Expr = record { at = at; kind = e.Var name } in
        record {
          tree = node;
          same = view_var node name refl ∙ sym (view_var x name is);
          reads = inl (Low node 1, j, inr (inl ((at, name), j, name-reads name at j, inr (refl, refl))), stop refl refl);
        }

pub var-part : (n at : ℕ) (name : List ℕ) → IsName name → IsPart (From 7) (suc n) (leaf at (e.Var name))
var-part n at name v = leaf-part (suc n) at (e.Var name) (plain 7 name) refl (λ x. shown_var x name) (var-again n name v)

-- ---- a minus and the numeral that touches it

in_range : (m : ℕ) → m ≤ greatest → nat_le m greatest ≡ true
in_range m most = grind (arith, most)

pub opposite-is : (m : ℕ) → m ≤ greatest → neg_ℤ (pos m) ≡ opposite (k.Numeral (pos m))
opposite-is m most = sym (ap (λ b. cond b (neg_ℤ (pos m)) (pos 0)) (in_range m most))

numeral-touches : (m : ℕ) → m ≤ greatest → among (t.NUMERAL ∷ t.BEYOND ∷ []) (numeral_sort (pos m)) ≡ true
numeral-touches m most = by (nat_le m 39614081257132168796771975167) (m == 39614081257132168796771975168) refl refl
  where
    by : (a b : Bool) → nat_le m 39614081257132168796771975167 ≡ a → (m == 39614081257132168796771975168) ≡ b → among (t.NUMERAL ∷ t.BEYOND ∷ []) (cond a t.NUMERAL (cond b t.BEYOND t.NO_NUMERAL)) ≡ true
    by true b f g = refl
    by false true f g = refl
    by false false f g = absurd (grind (arith, most, f, g))

same-place : (at here : ℕ) → here ≡ at + 1 → (here == at + 1) ≡ true
same-place at here h = grind (arith, h)

pub touches-behind : (at m : ℕ) → m ≤ greatest → touches at (token (k.Numeral (pos m)) (at + size (45 ∷ []))) ≡ true
unfolding encode
touches-behind at m most = rw (numeral-touches m most, same-place at (at + size (45 ∷ [])) refl) refl

-- how the opposite of a number is written: 0 without a minus
opposite-again : (n m : ℕ) → m ≤ greatest → (x : Expr) → x.kind ≡ e.Int (neg_ℤ (pos m)) → Again (suc n) Postfix (plain 7 (signed_decimal (neg_ℤ (pos m)))) x 1
unfolding encode
opposite-again n zero most x is = literal-again n (k.Numeral (pos 0)) (e.Int (pos 0)) (decimal 0) (tree.IntExpr 0 (pos 0)) (literal-numeral 0 most refl) x is
opposite-again n (suc m) most x is = record {
  pieces = mark k.Minus (45 ∷ []) (class.Is 62) ∷ digits_piece (suc m) ∷ [];
  spelled = ap (λ (l : List ℕ). 45 ∷ l) (digits-text (suc m) most);
  item = prefix-item k.Minus 45 62 false false (digits_piece (suc m) ∷ []) minus-mark (begins-sign 45 refl) (no_item-ascii 62 (is_start-ascii 62 (omega arith)) refl) refl (record { closed = λ d. refl }) (digits-item (suc m) most);
  reads = reads;
}
  where
    reads : (l : ℕ) → suc n ≤ l → (at : ℕ) (j : List Token) → ReadsTo (Postfix l) (token k.Minus at ∷ token (k.Numeral (pos (suc m))) (at + size (45 ∷ [])) ∷ j) x 1 j
    reads zero g at j = absurd (omega (arith, g))
    reads (suc l) g at j =
        let here = at + size (45 ∷ []) in
        let node : Expr = record { at = at; kind = e.Int (negsuc m) } in
        let numeral : Token = token (k.Numeral (pos (suc m))) here in
        let touching : touches at numeral ≡ true = touches-behind at (suc m) most in
        let value : negsuc m ≡ opposite (k.Numeral (pos (suc m))) = opposite-is (suc m) most in
        let glued : (Glued at).reads (numeral ∷ j) (negsuc m) j = (numeral, j, (touching, refl), (value, refl)) in
        record {
          tree = node;
          same = view_int node (negsuc m) refl ∙ sym (view_int x (negsuc m) is);
          reads = inr (at, numeral ∷ j, mark-reads t.MINUS k.Minus at (numeral ∷ j) refl, (negsuc m, j, glued, stop refl refl));
        }

opposite-part : (n at m : ℕ) → m ≤ greatest → IsPart (From 7) (suc n) (leaf at (e.Int (neg_ℤ (pos m))))
opposite-part n at m most = leaf-part (suc n) at (e.Int (neg_ℤ (pos m))) (plain 7 (signed_decimal (neg_ℤ (pos m)))) refl (λ x. shown_int x (neg_ℤ (pos m))) (opposite-again n m most)

touching-kinds : (n at place : ℕ) (kind : TokenKind) → (among (t.NUMERAL ∷ t.BEYOND ∷ []) (sort kind) && (place == at + 1)) ≡ true → IsProper kind → IsPart (From 7) (suc n) (leaf at (e.Int (opposite kind)))
touching-kinds n at place (k.Numeral z) h p =
    subst (λ y. IsPart (From 7) (suc n) (leaf at (e.Int (opposite (k.Numeral y))))) (sym p.1)
    (subst (λ y. IsPart (From 7) (suc n) (leaf at (e.Int y))) (opposite-is p.0 p.2) (opposite-part n at p.0 p.2))
touching-kinds n at place _ h p = absurd (true≢false (sym h))

-- a literal with a minus
pub gives-glued : (n at : ℕ) → Gives (Glued at) (λ z. IsPart (From 7) (suc n) (leaf at (e.Int z)))
gives-glued n at = gives-then (gives-one (touches at)) (λ s h. gives-pure (opposite s.kind) (λ z. IsPart (From 7) (suc n) (leaf at (e.Int z))) (touching-kinds n at s.at s.kind h.0 h.1))
