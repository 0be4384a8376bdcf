-- The labels of a case are read again.
use Rattle.std.proofs.Common.{◌≡◌, ℕ, ℤ, zero, suc, ◌+◌, ◌≤◌, ◌==◌, ◌&&◌, Bool, true, false, cond, true≢false, nat_le, List, [], ◌∷◌, ◌++◌, map, codes, inl, inr, refl, sym, ap, ap₂, ◌∙◌, subst, arith, append-nil, pos, negsuc}
use Rattle.std.specs.Prelude.{neg_ℤ}
use Rattle.std.specs.Fmt.{decimal}
use lib.Utf8.{encode}
use Rattle.wy_data.proofs.WordLemmas.{is_start-ascii}
use Rattle.wy_reading.specs.Rule.{among}
use Rattle.wy_reading.specs.Rule.Turns.{stop}
use Rattle.wy_ast.specs.SurfaceTree as tree
use Rattle.wy_ast.specs.declared.expressions.Expr.{Expr}
use Rattle.wy_ast.specs.declared.expressions.ExprKind.{ExprKind}
use Rattle.wy_ast.specs.declared.expressions.ExprKind.TheVariants as e
use Rattle.wy_parse_front.specs.wy_lex.declared.token.Token.{Token}
use Rattle.wy_parse_front.specs.wy_lex.declared.token.TokenKind.{TokenKind}
use Rattle.wy_parse_front.specs.wy_lex.declared.token.TokenKind.TheVariants as k
use Rattle.wy_parse_front.specs.wy_lex.declared.symbol.Character.TheVariants as class
use Rattle.wy_parse_front.specs.wy_lex.Kinds.{greatest}
use Rattle.wy_parse_front.specs.wy_lex.Layout.{token}
use Rattle.wy_parse_front.specs.wy_lex.Lists.{IsProper}
use Rattle.wy_print.specs.Pieces.{listed}
use Rattle.wy_print.specs.ExprText.{Shown, plain, expr_text, expr_texts}
use Rattle.wy_parse_front.specs.wy_parse_grammar.declared.sort.Class.TheVariants as kinds
use Rattle.wy_parse_front.specs.wy_parse_grammar.Sorts as t
use Rattle.wy_parse_front.specs.wy_parse_grammar.Sorts.{is, has, sort, numeral_sort}
use Rattle.wy_parse_front.specs.wy_parse_grammar.ExprGrammar.{literal_kind, touches, opposite, Glued}
use Rattle.wy_parse_front.specs.wy_parse_grammar.LabelGrammar.{Negative, LabelWord, Label, NextLabel, Labels}
use Rattle.wy_print_laws.proofs.round_lemmas.Pieces.{Piece, letters, size, tokens_from}
use Rattle.wy_print_laws.proofs.round_lemmas.Pieces.Piece.{mark}
use Rattle.wy_print_laws.proofs.round_lemmas.Segments.{text_of, text-both, no_item-ascii, Item}
use Rattle.wy_print_laws.proofs.round_lemmas.Marked.{minus-mark}
use Rattle.wy_print_laws.proofs.round_lemmas.Gives.{Gives, gives-pure, gives-one, gives-then, gives-or, gives-loop, gives-unless, gives-mark}
use Rattle.wy_print_laws.proofs.round_lemmas.Commas.{mark-reads, turns-end, tokens-behind, item-any, comma, item-comma, listed-append}
use Rattle.wy_print_laws.proofs.round_lemmas.Enclosed.{begins-sign, prefix-item}
use Rattle.wy_print_laws.proofs.round_lemmas.ExprShown as exprs
use Rattle.wy_print_laws.proofs.round_lemmas.ExprShown.{viewed, shown_int, view_int}
use Rattle.wy_print_laws.proofs.round_lemmas.ExprLeaves.{IsLiteral, literal-null, literal-true, literal-false, literal-numeral, digits_piece, digits-item, digits-text, touches-behind, opposite-is}

-- a label is read again from its text, behind any others
pub record LabelAgain (x : Expr) : Type 0 where
  pub pieces : List Piece
  pub spelled : text_of pieces ≡ expr_text x
  pub item : Item true true pieces
  pub reads : (at : ℕ) (j : List Token) (ls : List Expr) → (y : Expr) × (exprs.view y ≡ exprs.view x) × (Label ls).reads (tokens_from at pieces ++ j) (ls ++ y ∷ []) j

-- ---- words and numerals

literal-label : (kind : TokenKind) (of : ExprKind) (word : List ℕ) (bare : tree.Expr) → IsLiteral kind of word bare → among (t.members kinds.LabelWord) (sort kind) ≡ true → (x : Expr) → x.kind ≡ of → LabelAgain x
literal-label kind of word bare l h x is = record {
  pieces = l.pieces;
  spelled = l.spelled ∙ ap (λ (u : Shown). u.text) (sym (l.shows x is));
  item = item-any false false l.pieces l.item;
  reads = λ at j ls.
      let node : Expr = record { at = at; kind = of } in
      let path : node ≡ record { at = at; kind = literal_kind kind } = ap (λ (c : ExprKind). record { at = at; kind = c }) (sym l.of_is) in
      let read : (Label ls).reads (token kind at ∷ j) (ls ++ node ∷ []) j = inr (node, j, (token kind at, j, (h, refl), (path, refl)), (refl, refl)) in (
        node,
        viewed node bare (plain 7 word) (l.bare_is node refl) (l.shows node refl) ∙ sym (viewed x bare (plain 7 word) (l.bare_is x is) (l.shows x is)),
        subst (λ (ts : List Token). (Label ls).reads (ts ++ j) (ls ++ node ∷ []) j) (sym (l.tokens at)) read,
      );
}

-- a numeral that is a label is a literal
numeral-literal : (z : ℤ) → among (t.members kinds.LabelWord) (numeral_sort z) ≡ true → among (t.members kinds.Literal) (numeral_sort z) ≡ true
numeral-literal (pos m) h = by (nat_le m 39614081257132168796771975167) (m == 39614081257132168796771975168) h
  where
    by : (a b : Bool) → among (t.members kinds.LabelWord) (cond a t.NUMERAL (cond b t.BEYOND t.NO_NUMERAL)) ≡ true → among (t.members kinds.Literal) (cond a t.NUMERAL (cond b t.BEYOND t.NO_NUMERAL)) ≡ true
    by true b x = refl
    by false true x = absurd (true≢false (sym x))
    by false false x = absurd (true≢false (sym x))
numeral-literal (negsuc m) h = absurd (true≢false (sym h))

numeral-label : (m : ℕ) → m ≤ greatest → among (t.members kinds.LabelWord) (numeral_sort (pos m)) ≡ true → (x : Expr) → x.kind ≡ e.Int (pos m) → LabelAgain x
numeral-label m most h x is = literal-label (k.Numeral (pos m)) (e.Int (pos m)) (decimal m) (tree.IntExpr 0 (pos m)) (literal-numeral m most (numeral-literal (pos m) h)) h x is

word-labels : (at : ℕ) (kind : TokenKind) → among (t.members kinds.LabelWord) (sort kind) ≡ true → IsProper kind → LabelAgain (record { at = at; kind = literal_kind kind })
word-labels at (k.Numeral z) h p =
    subst (λ (y : ℤ). LabelAgain (record { at = at; kind = e.Int y })) (sym p.1)
    (numeral-label p.0 p.2 (ap (λ (y : ℤ). among (t.members kinds.LabelWord) (numeral_sort y)) (sym p.1) ∙ h) (record { at = at; kind = e.Int (pos p.0) }) refl)
word-labels at k.Null h p = literal-label k.Null e.Null (codes "null") (tree.NullExpr 0) literal-null refl (record { at = at; kind = e.Null }) refl
word-labels at k.True h p = literal-label k.True (e.Bool true) (codes "true") (tree.BoolExpr 0 true) literal-true refl (record { at = at; kind = e.Bool true }) refl
word-labels at k.False h p = literal-label k.False (e.Bool false) (codes "false") (tree.BoolExpr 0 false) literal-false refl (record { at = at; kind = e.Bool false }) refl
word-labels at _ h p = absurd (true≢false (sym h))

-- ---- a minus and a numeral, which touch in the text

opposite-label : (m : ℕ) → m ≤ greatest → (x : Expr) → x.kind ≡ e.Int (neg_ℤ (pos m)) → LabelAgain x
unfolding encode
opposite-label zero most x is = numeral-label 0 most refl x is
opposite-label (suc m) most x is = record {
  pieces = mark k.Minus (45 ∷ []) (class.Is 62) ∷ digits_piece (suc m) ∷ [];
  spelled = ap (λ (l : List ℕ). 45 ∷ l) (digits-text (suc m) most) ∙ ap (λ (u : Shown). u.text) (sym (shown_int x (negsuc m) is));
  item = item-any false false (mark k.Minus (45 ∷ []) (class.Is 62) ∷ digits_piece (suc m) ∷ [])
      (prefix-item k.Minus 45 62 false false (digits_piece (suc m) ∷ []) minus-mark (begins-sign 45 refl) (no_item-ascii 62 (is_start-ascii 62 (omega arith)) refl) refl (record { closed = λ d. refl }) (digits-item (suc m) most));
  reads = λ at j ls.
      let here = at + size (45 ∷ []) in
      let node : Expr = record { at = at; kind = e.Int (negsuc m) } in
      let numeral : Token = token (k.Numeral (pos (suc m))) here in
      let touching : touches at numeral ≡ true = touches-behind at (suc m) most in
      let value : negsuc m ≡ opposite (k.Numeral (pos (suc m))) = opposite-is (suc m) most in
      let glued : (Glued at).reads (numeral ∷ j) (negsuc m) j = (numeral, j, (touching, refl), (value, refl)) in (
        node,
        view_int node (negsuc m) refl ∙ sym (view_int x (negsuc m) is),
        inl (at, numeral ∷ j, mark-reads t.MINUS k.Minus at (numeral ∷ j) refl, (negsuc m, j, inl glued, (refl, refl))),
      );
}

-- the opposite of a numeral that may be written
record IsOpposite (z : ℤ) : Type 0 where
  pub number : ℕ
  pub most : number ≤ greatest
  pub is : z ≡ neg_ℤ (pos number)

opposite-numeral : (z : ℤ) → IsProper (k.Numeral z) → IsOpposite (opposite (k.Numeral z))
opposite-numeral z p = record { number = p.0; most = p.2; is = ap (λ (y : ℤ). opposite (k.Numeral y)) p.1 ∙ sym (opposite-is p.0 p.2) }

touching-opposite : (at place : ℕ) (kind : TokenKind) → (among (t.NUMERAL ∷ t.BEYOND ∷ []) (sort kind) && (place == at + 1)) ≡ true → IsProper kind → IsOpposite (opposite kind)
touching-opposite at place (k.Numeral z) h p = opposite-numeral z p
touching-opposite at place _ h p = absurd (true≢false (sym h))

apart-opposite : (kind : TokenKind) → (sort kind == t.NUMERAL) ≡ true → IsProper kind → IsOpposite (opposite kind)
apart-opposite (k.Numeral z) h p = opposite-numeral z p
apart-opposite _ h p = absurd (true≢false (sym h))

gives-negative : (at : ℕ) → Gives (Negative at) IsOpposite
gives-negative at =
    gives-or (gives-then (gives-one (touches at)) (λ w h. gives-pure (opposite w.kind) IsOpposite (touching-opposite at w.at w.kind h.0 h.1)))
    (gives-unless (touches at) (gives-then (gives-one (is t.NUMERAL)) (λ w h. gives-pure (opposite w.kind) IsOpposite (apart-opposite w.kind h.0 h.1))))

-- ---- labels with commas

texts-append : (xs : List Expr) (x : Expr) → expr_texts (xs ++ x ∷ []) ≡ expr_texts xs ++ expr_text x ∷ []
texts-append [] x = refl
texts-append (y ∷ xs) x = ap (λ (l : List (List ℕ)). expr_text y ∷ l) (texts-append xs x)

views-append : (xs : List Expr) (x : Expr) → map exprs.view (xs ++ x ∷ []) ≡ map exprs.view xs ++ exprs.view x ∷ []
views-append [] x = refl
views-append (y ∷ xs) x = ap (λ (l : List exprs.View). exprs.view y ∷ l) (views-append xs x)

comma_is : text_of comma ≡ codes ", "
unfolding encode
comma_is = refl

pub record LabelsAgain (xs : List Expr) : Type 0 where
  pub first : Expr
  pub others : List Expr
  pub shape : xs ≡ first ∷ others
  pub pieces : List Piece
  pub spelled : text_of pieces ≡ listed (expr_texts xs)
  pub item : Item true true pieces
  pub reads : (at : ℕ) (j : List Token) → (ys : List Expr) × (map exprs.view ys ≡ map exprs.view xs) × Labels.reads (tokens_from at pieces ++ j) ys j

labels-one : (x : Expr) → LabelAgain x → LabelsAgain (x ∷ [])
unfolding Labels
labels-one x o = record {
  first = x;
  others = [];
  shape = refl;
  pieces = o.pieces;
  spelled = o.spelled ∙ sym (append-nil (expr_text x));
  item = o.item;
  reads = λ at j. let r = o.reads at j [] in (r.0 ∷ [], ap (λ (y : exprs.View). y ∷ []) r.1, (r.0 ∷ [], j, r.2, stop refl refl));
}

labels-more : (xs : List Expr) → LabelsAgain xs → (x : Expr) → LabelAgain x → LabelsAgain (xs ++ x ∷ [])
unfolding Labels
labels-more xs a x o = record {
  first = a.first;
  others = a.others ++ x ∷ [];
  shape = ap (λ (ys : List Expr). ys ++ x ∷ []) a.shape;
  pieces = a.pieces ++ (comma ++ o.pieces);
  spelled =
      text-both a.pieces (comma ++ o.pieces) (listed (expr_texts xs)) (codes ", " ++ expr_text x) a.spelled (text-both comma o.pieces (codes ", ") (expr_text x) comma_is o.spelled)
      ∙ (ap (λ (ys : List Expr). listed (expr_texts ys) ++ (codes ", " ++ expr_text x)) a.shape
      ∙ (sym (listed-append (expr_text a.first) (expr_texts a.others) (expr_text x))
      ∙ (ap listed (sym (texts-append (a.first ∷ a.others) x)) ∙ ap (λ (ys : List Expr). listed (expr_texts (ys ++ x ∷ []))) (sym a.shape))));
  item = item-comma a.pieces o.pieces a.item o.item;
  reads = λ at j.
      let here = at + size (letters a.pieces) in
      let there = (here + size (44 ∷ [])) + 1 in
      let rest : List Token = tokens_from there o.pieces ++ j in
      let text_is : tokens_from at (a.pieces ++ (comma ++ o.pieces)) ++ j ≡ tokens_from at a.pieces ++ token k.Comma here ∷ rest = tokens-behind at a.pieces (comma ++ o.pieces) j in
      let r = a.reads at (token k.Comma here ∷ rest) in
      let q = o.reads there j r.0 in
      let turn : (NextLabel r.0).reads (token k.Comma here ∷ rest) (r.0 ++ q.0 ∷ []) j = (here, rest, mark-reads t.COMMA k.Comma here rest refl, q.2) in
      let whole : Labels.reads (tokens_from at a.pieces ++ token k.Comma here ∷ rest) (r.0 ++ q.0 ∷ []) j =
      (r.2.0, r.2.1, r.2.2, turns-end NextLabel r.2.0 r.2.1 r.0 (token k.Comma here ∷ rest) (r.0 ++ q.0 ∷ []) j r.2.3 turn) in (
        r.0 ++ q.0 ∷ [],
        views-append r.0 q.0 ∙ (ap₂ (λ (ys : List exprs.View) (z : exprs.View). ys ++ z ∷ []) r.1 q.1 ∙ sym (views-append xs x)),
        subst (λ (i : List Token). Labels.reads i (r.0 ++ q.0 ∷ []) j) (sym text_is) whole,
      );
}

gives-label_word : Gives LabelWord LabelAgain
gives-label_word = gives-then (gives-one (has kinds.LabelWord)) (λ w h. gives-pure (record { at = w.at; kind = literal_kind w.kind }) LabelAgain (word-labels w.at w.kind h.0 h.1))

gives-label : (ls : List Expr) → ((x : Expr) → LabelAgain x → LabelsAgain (ls ++ x ∷ [])) → Gives (Label ls) LabelsAgain
gives-label ls f =
    gives-or (gives-then (gives-mark t.MINUS) (λ at h. gives-then (gives-negative at) (λ n o.
    let x : Expr = record { at = at; kind = e.Int n } in
    gives-pure (ls ++ x ∷ []) LabelsAgain (f x (opposite-label o.number o.most x (ap e.Int o.is))))))
    (gives-then gives-label_word (λ l p. gives-pure (ls ++ l ∷ []) LabelsAgain (f l p)))

pub gives-labels : Gives Labels LabelsAgain
unfolding Labels
gives-labels = gives-then (gives-label [] labels-one) (λ ls r. gives-loop (λ ms q. gives-then (gives-mark t.COMMA) (λ at h. gives-label ms (labels-more ms q))) ls r)
