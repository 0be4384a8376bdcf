-- What has expressions inside: calls, lists, records and quantifiers are read again.
use Rattle.std.proofs.Common.{◌≡◌, ℕ, zero, suc, ◌+◌, ◌≤◌, true, false, nat_lt, max, List, [], ◌∷◌, ◌++◌, map, codes, ◌⊎◌, inl, inr, refl, sym, ap, ap₂, ◌∙◌, subst, arith, append_assoc}
use Rattle.std.specs.Str.{chars}
use lib.Utf8.{encode}
use Rattle.wy_data.specs.Words.{IsName}
use Rattle.wy_data.proofs.WordLemmas.{is_part-ascii}
use Rattle.wy_reading.specs.Rule.{Pure, Then, Turns}
use Rattle.wy_reading.specs.Rule.Turns.{stop}
use Rattle.wy_ast.specs.declared.expressions.Expr.{Expr}
use Rattle.wy_ast.specs.declared.expressions.ExprKind.TheVariants as e
use Rattle.wy_parse_front.specs.wy_lex.declared.token.Token.{Token}
use Rattle.wy_parse_front.specs.wy_lex.declared.token.TokenKind.TheVariants as k
use Rattle.wy_parse_front.specs.wy_lex.Layout.{token}
use Rattle.wy_print.specs.Pieces.{listed}
use Rattle.wy_print.specs.ExprText.{shown, plain, texts, called}
use Rattle.wy_parse_front.specs.wy_parse_grammar.declared.measured.Measured.TheVariants.{Low}
use Rattle.wy_parse_front.specs.wy_parse_grammar.Sorts as t
use Rattle.wy_parse_front.specs.wy_parse_grammar.Sorts.{is, has, sort}
use Rattle.wy_parse_front.specs.wy_parse_grammar.Steps.{R}
use Rattle.wy_parse_front.specs.wy_parse_grammar.Trees.{highest, both, made, pushed, none, call, list, repeat}
use Rattle.wy_parse_front.specs.wy_parse_grammar.ExprGrammar.{E, Args, NextArg, MoreArgs, ArgList, Unary, Expr_}
use Rattle.wy_print_laws.proofs.round_lemmas.Pieces.{Piece, letters, size, tokens_from}
use Rattle.wy_print_laws.proofs.round_lemmas.Segments.{text_of, text-both, joined, closed-append, After, after-item, Item}
use Rattle.wy_print_laws.proofs.round_lemmas.Heights.{expr_node-low, expr_node-is, made-low, both-low, same_part, same_height}
use Rattle.wy_print_laws.proofs.round_lemmas.Marked.{semicolon-mark}
use Rattle.wy_print_laws.proofs.round_lemmas.Commas.{mark-reads, turns-end, tokens-behind, item-any, spaced, spaced-segment, item-spaced}
use Rattle.wy_print_laws.proofs.round_lemmas.Commas as commas
use Rattle.wy_print_laws.proofs.round_lemmas.Enclosed.{name_piece, name-item, name-text, name-reads, IsInside, inside-none, inside-item, parens, square, enclosed, enclosed-segment, enclosed-closed, enclosed-item, enclosed-text, enclosed-tokens, inner-reads}
use Rattle.wy_print_laws.proofs.round_lemmas.ExprShown.{view, shown_call, shown_list, shown_repeat, call_view, view_call, list_view, view_list, repeat_view, view_repeat}
use Rattle.wy_print_laws.proofs.round_lemmas.ExprLines.{Postfix, ReadsTo, Again, StandsBy, IsPart, From, whole-of}
use Rattle.wy_print_laws.proofs.round_lemmas.ExprUnary.{node-stands}

-- ---- arguments

abbrev pub arg_text : Expr → List ℕ
arg_text x = (shown x).text

abbrev pub one_arg : ℕ → Args → R Args
one_arg m es = Then (Expr_ true m) (λ a. Pure (pushed es a))

abbrev pub IsArgs : ℕ → Args → Type 0
IsArgs n es = commas.IsRow arg_text view one_arg n es

abbrev pub AreArgs : ℕ → Args → Type 0
AreArgs n es = commas.IsFull arg_text view one_arg n es

arg-one : (n : ℕ) (x : Expr) (h : ℕ) → Again n (λ m. Expr_ true m) (shown x) x h → commas.One arg_text view one_arg n x h
arg-one n x h a = record {
  pieces = a.pieces;
  spelled = a.spelled;
  item = item-any (shown x).begins (shown x).ends a.pieces a.item;
  reads = λ m g at j xs l. let r = a.reads m g at j in (r.tree, r.same, (Low r.tree h, j, r.reads, (refl, refl)));
}

pub args-pushed : (n : ℕ) (es : Args) (x : E) → IsArgs n es → IsPart (From 0) n x → AreArgs n (pushed es x)
args-pushed n es x r p = commas.row-pushed arg_text view one_arg n es x r (λ y h f. arg-one n y h (whole-of (From 0) n y h (p.low y h f)))

args-texts : (xs : List Expr) → map arg_text xs ≡ texts (map shown xs)
args-texts [] = refl
args-texts (x ∷ xs) = ap (λ (l : List (List ℕ)). arg_text x ∷ l) (args-texts xs)

-- a fresh of arguments, as the rule of lists of them has it
row-args : (m : ℕ) (i : List Token) (x : Args) (j : List Token) → (commas.Row arg_text view one_arg m).reads i x j
    → (Then (Expr_ true m) (λ a. MoreArgs m (Unary true m) (Expr_ true m) (pushed none a))).reads i x j
row-args m i x j r =
    let q = r.2 in
    (q.0, r.1, subst (λ l. (Expr_ true m).reads i q.0 l) q.3.1 q.2, subst (λ b. Turns (NextArg m (Unary true m) (Expr_ true m)) b r.1 x j) q.3.0 r.3)

pub record AllArgs (n : ℕ) (xs : List Expr) (h : ℕ) : Type 0 where
  pub pieces : List Piece
  pub spelled : text_of pieces ≡ listed (texts (map shown xs))
  pub inside_is : IsInside pieces
  pub reads : (m : ℕ) → n ≤ m → (at : ℕ) (j : List Token) → (ys : List Expr) × (map view ys ≡ map view xs) × (ArgList m (Unary true m) (Expr_ true m)).reads (tokens_from at pieces ++ j) (Low ys h) j

pub all_args : (n : ℕ) (xs : List Expr) (h : ℕ) → ((xs ≡ []) × (h ≡ 0)) ⊎ commas.All arg_text view one_arg n xs h → AllArgs n xs h
all_args n xs h (inl f) =
    subst (λ (ys : List Expr). AllArgs n ys h) (sym f.0) (subst (λ l. AllArgs n [] l) (sym f.1)
    (record { pieces = []; spelled = refl; inside_is = inside-none; reads = λ m g at j. ([], refl, inr (refl, refl)) }))
all_args n xs h (inr a) = record {
  pieces = a.pieces;
  spelled = a.spelled ∙ ap listed (args-texts xs);
  inside_is = inside-item a.pieces a.item;
  reads = λ m g at j. let r = a.reads m g at j in (r.0, r.1, inl (row-args m (tokens_from at a.pieces ++ j) (Low r.0 h) j r.2));
}

-- ---- calls

call-again : (n : ℕ) (x : Expr) (name : List ℕ) (xs : List Expr) (h : ℕ) → IsName name → x.kind ≡ e.Call name xs → nat_lt h highest ≡ true → 1 ≤ n → AllArgs n xs h
    → Again (suc n) Postfix (plain 7 (called name (texts (map shown xs)))) x (h + 1)
call-again n x name xs h v is fits deep a = record {
  pieces = name_piece name ∷ enclosed k.OpenParen 40 k.CloseParen 41 a.pieces;
  spelled = text-both (name_piece name ∷ []) (enclosed k.OpenParen 40 k.CloseParen 41 a.pieces) name (codes "(" ++ (listed (texts (map shown xs)) ++ codes ")")) (name-text name v) (enclosed-text k.OpenParen 40 k.CloseParen 41 a.pieces (listed (texts (map shown xs))) parens a.spelled);
  item = record {
    segment = joined (name_piece name ∷ []) (enclosed k.OpenParen 40 k.CloseParen 41 a.pieces) (name-item name v).segment
        (enclosed-segment (After false) k.OpenParen 40 k.CloseParen 41 a.pieces parens (λ m q. after-item false m 40 q (is_part-ascii 40 (omega arith)) (λ y. refl)) a.inside_is);
    leads = tt;
    closed = closed-append (name_piece name ∷ []) (enclosed k.OpenParen 40 k.CloseParen 41 a.pieces) (record { closed = λ d. refl }) (enclosed-closed k.OpenParen 40 k.CloseParen 41 a.pieces parens a.inside_is);
  };
  reads = reads;
}
  where
    reads : (m : ℕ) → suc n ≤ m → (at : ℕ) (j : List Token) → ReadsTo (Postfix m) (tokens_from at (name_piece name ∷ enclosed k.OpenParen 40 k.CloseParen 41 a.pieces) ++ j) x (h + 1) j
    reads zero g at j = absurd (omega (arith, g))
    reads (suc m) g at j =
        let here = at + size (chars name) in
        let inside = here + size (40 ∷ []) in
        let there = inside + size (letters a.pieces) in
        let inner : List Token = tokens_from inside a.pieces ++ token k.CloseParen there ∷ j in
        let r = a.reads m (omega (arith, g)) inside (token k.CloseParen there ∷ j) in
        let node : Expr = record { at = at; kind = e.Call name r.0 } in
        let postfix : (Postfix (suc m)).reads (token (k.Name name) at ∷ token k.OpenParen here ∷ inner) (Low node (h + 1)) j =
        inl (
          Low node (h + 1),
          j,
          inr (inl (
            (at, name),
            token k.OpenParen here ∷ inner,
            name-reads name at (token k.OpenParen here ∷ inner),
            inl (
              here,
              inner,
              mark-reads t.OPEN_PAREN k.OpenParen here inner refl,
              (
                Low r.0 h,
                token k.CloseParen there ∷ j,
                r.2,
                (there, j, inner-reads m t.CLOSE_PAREN k.CloseParen there j (omega (arith, deep, g)) refl, (sym (expr_node-is at (e.Call name r.0) h fits), refl)),
              ),
            ),
          )),
          stop refl refl,
        ) in
        record {
          tree = node;
          same = view_call node name r.0 refl ∙ (ap (call_view name) r.1 ∙ sym (view_call x name xs is));
          reads = subst (λ i. (Postfix (suc m)).reads i (Low node (h + 1)) j) (ap (λ (l : List Token). token (k.Name name) at ∷ l) (sym (enclosed-tokens here k.OpenParen 40 k.CloseParen 41 a.pieces j))) postfix;
        }

pub call-part : (n at : ℕ) (name : List ℕ) (es : Args) → IsName name → 1 ≤ n → IsArgs n es → IsPart (From 7) (suc n) (call at name es)
call-part n at name es v deep r = record {
  low = λ y h f.
      let o = expr_node-low at (made (λ (l : List Expr). e.Call name l) es) y h f in
      let m = made-low (λ (l : List Expr). e.Call name l) es o.of o.below o.is in
      let is : y.kind ≡ e.Call name m.of = o.kind_is ∙ m.value in
      subst (λ l. StandsBy (From 7) (suc n) y l) (sym o.height_is)
      (node-stands (suc n) 7 7 y (o.below + 1) (plain 7 (called name (texts (map shown m.of)))) (shown_call y name m.of is) refl (omega arith)
      (call-again n y name m.of o.below v is o.fits deep (all_args n m.of o.below (r.low m.of o.below m.is))));
}

-- ---- lists

list_text : List Expr → List ℕ
list_text xs = codes "[" ++ (listed (texts (map shown xs)) ++ codes "]")

none-again : (n : ℕ) (x : Expr) → x.kind ≡ e.List [] → 1 ≤ n → Again (suc n) Postfix (plain 7 (list_text [])) x 1
unfolding list_text
none-again n x is deep = record {
  pieces = enclosed k.OpenBracket 91 k.CloseBracket 93 [];
  spelled = enclosed-text k.OpenBracket 91 k.CloseBracket 93 [] [] square refl;
  item = enclosed-item k.OpenBracket 91 k.CloseBracket 93 [] square inside-none;
  reads = reads;
}
  where
    reads : (m : ℕ) → suc n ≤ m → (at : ℕ) (j : List Token) → ReadsTo (Postfix m) (tokens_from at (enclosed k.OpenBracket 91 k.CloseBracket 93 []) ++ j) x 1 j
    reads zero g at j = absurd (omega (arith, g))
    reads (suc m) g at j =
        let there = at + size (91 ∷ []) in
        let node : Expr = record { at = at; kind = e.List [] } in
        record {
          tree = node;
          same = view_list node [] refl ∙ sym (view_list x [] is);
          reads = inl (Low node 1, j, inr (inr (inr (inr (inl (at, token k.CloseBracket there ∷ j, mark-reads t.OPEN_BRACKET k.OpenBracket at (token k.CloseBracket there ∷ j) refl, inl (there, j, inner-reads m t.CLOSE_BRACKET k.CloseBracket there j (omega (arith, deep, g)) refl, (refl, refl))))))), stop refl refl);
        }

list-again : (n : ℕ) (x : Expr) (xs : List Expr) (h : ℕ) → x.kind ≡ e.List xs → nat_lt h highest ≡ true → commas.All arg_text view one_arg n xs h → Again (suc n) Postfix (plain 7 (list_text xs)) x (h + 1)
unfolding list_text
list-again n x xs h is fits a = record {
  pieces = enclosed k.OpenBracket 91 k.CloseBracket 93 a.pieces;
  spelled = enclosed-text k.OpenBracket 91 k.CloseBracket 93 a.pieces (listed (texts (map shown xs))) square (a.spelled ∙ ap listed (args-texts xs));
  item = enclosed-item k.OpenBracket 91 k.CloseBracket 93 a.pieces square (inside-item a.pieces a.item);
  reads = reads;
}
  where
    reads : (m : ℕ) → suc n ≤ m → (at : ℕ) (j : List Token) → ReadsTo (Postfix m) (tokens_from at (enclosed k.OpenBracket 91 k.CloseBracket 93 a.pieces) ++ j) x (h + 1) j
    reads zero g at j = absurd (omega (arith, g))
    reads (suc m) g at j =
        let inside = at + size (91 ∷ []) in
        let there = inside + size (letters a.pieces) in
        let inner : List Token = tokens_from inside a.pieces ++ token k.CloseBracket there ∷ j in
        let r = a.reads m (omega (arith, g)) inside (token k.CloseBracket there ∷ j) in
        let node : Expr = record { at = at; kind = e.List r.0 } in
        let q = row-args m inner (Low r.0 h) (token k.CloseBracket there ∷ j) r.2 in
        let postfix : (Postfix (suc m)).reads (token k.OpenBracket at ∷ inner) (Low node (h + 1)) j =
        inl (
          Low node (h + 1),
          j,
          inr (inr (inr (inr (inl (
            at,
            inner,
            mark-reads t.OPEN_BRACKET k.OpenBracket at inner refl,
            inr (q.0, q.1, q.2, inr (Low r.0 h, token k.CloseBracket there ∷ j, q.3, (there, j, mark-reads t.CLOSE_BRACKET k.CloseBracket there j refl, (sym (expr_node-is at (e.List r.0) h fits), refl)))),
          ))))),
          stop refl refl,
        ) in
        record {
          tree = node;
          same = view_list node r.0 refl ∙ (ap list_view r.1 ∙ sym (view_list x xs is));
          reads = subst (λ i. (Postfix (suc m)).reads i (Low node (h + 1)) j) (sym (enclosed-tokens at k.OpenBracket 91 k.CloseBracket 93 a.pieces j)) postfix;
        }

pub none-part : (n at : ℕ) → 1 ≤ n → IsPart (From 7) (suc n) (list at none)
unfolding list_text
none-part n at deep = record {
  low = λ y h f.
      let o = expr_node-low at (Low (e.List []) 0) y h f in
      let is : y.kind ≡ e.List [] = o.kind_is ∙ sym (same_part (e.List []) o.of 0 o.below o.is) in
      let height_is : h ≡ 1 = o.height_is ∙ ap (λ l. l + 1) (sym (same_height (e.List []) o.of 0 o.below o.is)) in
      subst (λ l. StandsBy (From 7) (suc n) y l) (sym height_is)
      (node-stands (suc n) 7 7 y 1 (plain 7 (list_text [])) (shown_list y [] is) refl (omega arith) (none-again n y is deep));
}

pub list-part : (n at : ℕ) (es : Args) → AreArgs n es → IsPart (From 7) (suc n) (list at es)
unfolding list_text
list-part n at es r = record {
  low = λ y h f.
      let o = expr_node-low at (made e.List es) y h f in
      let m = made-low e.List es o.of o.below o.is in
      let is : y.kind ≡ e.List m.of = o.kind_is ∙ m.value in
      subst (λ l. StandsBy (From 7) (suc n) y l) (sym o.height_is)
      (node-stands (suc n) 7 7 y (o.below + 1) (plain 7 (list_text m.of)) (shown_list y m.of is) refl (omega arith)
      (list-again n y m.of o.below is o.fits (r.full m.of o.below m.is)));
}

-- ---- an item and how often it stands

semicolon-text : text_of (spaced k.Semicolon 59) ≡ codes "; "
unfolding encode
semicolon-text = refl

repeat-again : (n : ℕ) (x a c : Expr) (h l : ℕ) → x.kind ≡ e.Repeat a c → nat_lt (max h l) highest ≡ true → Again n (λ m. Expr_ true m) (shown a) a h → Again n (λ m. Expr_ true m) (shown c) c l
    → Again (suc n) Postfix (plain 7 (codes "[" ++ ((shown a).text ++ (codes "; " ++ ((shown c).text ++ codes "]"))))) x (max h l + 1)
repeat-again n x a c h l is fits p q = record {
  pieces = enclosed k.OpenBracket 91 k.CloseBracket 93 inner_pieces;
  spelled = enclosed-text k.OpenBracket 91 k.CloseBracket 93 inner_pieces ((shown a).text ++ (codes "; " ++ (shown c).text)) square
      (text-both p.pieces (spaced k.Semicolon 59 ++ q.pieces) (shown a).text (codes "; " ++ (shown c).text) p.spelled (text-both (spaced k.Semicolon 59) q.pieces (codes "; ") (shown c).text semicolon-text q.spelled))
      ∙ ap (λ (t : List ℕ). codes "[" ++ t) (append_assoc (shown a).text (codes "; " ++ (shown c).text) (codes "]") ∙ ap (λ (t : List ℕ). (shown a).text ++ t) (append_assoc (codes "; ") (shown c).text (codes "]")));
  item = enclosed-item k.OpenBracket 91 k.CloseBracket 93 inner_pieces square (inside-item inner_pieces inner_item);
  reads = reads;
}
  where
    inner_pieces : List Piece
    inner_pieces = p.pieces ++ (spaced k.Semicolon 59 ++ q.pieces)

    inner_item : Item true true (p.pieces ++ (spaced k.Semicolon 59 ++ q.pieces))
    inner_item = item-spaced k.Semicolon 59 p.pieces q.pieces semicolon-mark (is_part-ascii 59 (omega arith)) refl (record { closed = λ d. refl }) (item-any (shown a).begins (shown a).ends p.pieces p.item) (item-any (shown c).begins (shown c).ends q.pieces q.item)

    reads : (m : ℕ) → suc n ≤ m → (at : ℕ) (j : List Token) → ReadsTo (Postfix m) (tokens_from at (enclosed k.OpenBracket 91 k.CloseBracket 93 (p.pieces ++ (spaced k.Semicolon 59 ++ q.pieces))) ++ j) x (max h l + 1) j
    reads zero g at j = absurd (omega (arith, g))
    reads (suc m) g at j =
        let inside = at + size (91 ∷ []) in
        let there = inside + size (letters (p.pieces ++ (spaced k.Semicolon 59 ++ q.pieces))) in
        let here = inside + size (letters p.pieces) in
        let second = (here + size (59 ∷ [])) + 1 in
        let last : List Token = token k.CloseBracket there ∷ j in
        let rest : List Token = tokens_from second q.pieces ++ last in
        let r = p.reads m (omega (arith, g)) inside (token k.Semicolon here ∷ rest) in
        let s = q.reads m (omega (arith, g)) second last in
        let node : Expr = record { at = at; kind = e.Repeat r.tree s.tree } in
        let inner : List Token = tokens_from inside p.pieces ++ token k.Semicolon here ∷ rest in
        let postfix : (Postfix (suc m)).reads (token k.OpenBracket at ∷ inner) (Low node (max h l + 1)) j =
        inl (
          Low node (max h l + 1),
          j,
          inr (inr (inr (inr (inl (
            at,
            inner,
            mark-reads t.OPEN_BRACKET k.OpenBracket at inner refl,
            inr (Low r.tree h, token k.Semicolon here ∷ rest, r.reads, inl (here, rest, mark-reads t.SEMICOLON k.Semicolon here rest refl, (Low s.tree l, last, s.reads, (there, j, mark-reads t.CLOSE_BRACKET k.CloseBracket there j refl, (sym (expr_node-is at (e.Repeat r.tree s.tree) (max h l) fits), refl))))),
          ))))),
          stop refl refl,
        ) in
        record {
          tree = node;
          same = view_repeat node r.tree s.tree refl ∙ (ap₂ repeat_view r.same s.same ∙ sym (view_repeat x a c is));
          reads = subst (λ i. (Postfix (suc m)).reads i (Low node (max h l + 1)) j)
              (ap (λ (ts : List Token). token k.OpenBracket at ∷ ts) (sym (tokens-behind inside p.pieces (spaced k.Semicolon 59 ++ q.pieces) last)) ∙ sym (enclosed-tokens at k.OpenBracket 91 k.CloseBracket 93 (p.pieces ++ (spaced k.Semicolon 59 ++ q.pieces)) j)) postfix;
        }

pub repeat-part : (n at : ℕ) (x z : E) → IsPart (From 0) n x → IsPart (From 0) n z → IsPart (From 7) (suc n) (repeat at x z)
repeat-part n at x z p q = record {
  low = λ y h f.
      let c = expr_node-low at (made (λ (d : Expr × Expr). e.Repeat d.0 d.1) (both x z)) y h f in
      let m = made-low (λ (d : Expr × Expr). e.Repeat d.0 d.1) (both x z) c.of c.below c.is in
      let b = both-low x z m.of c.below m.is in
      let is : y.kind ≡ e.Repeat b.first b.second = c.kind_is ∙ (m.value ∙ ap (λ (d : Expr × Expr). e.Repeat d.0 d.1) b.value) in
      let fits : nat_lt (max b.first_height b.second_height) highest ≡ true = ap (λ n. nat_lt n highest) (sym b.height_is) ∙ c.fits in
      subst (λ l. StandsBy (From 7) (suc n) y l) (sym (c.height_is ∙ ap (λ n. n + 1) b.height_is))
      (node-stands (suc n) 7 7 y (max b.first_height b.second_height + 1) (plain 7 (codes "[" ++ ((shown b.first).text ++ (codes "; " ++ ((shown b.second).text ++ codes "]"))))) (shown_repeat y b.first b.second is) refl (omega arith)
      (repeat-again n y b.first b.second b.first_height b.second_height is fits (whole-of (From 0) n b.first b.first_height (p.low b.first b.first_height b.first_is)) (whole-of (From 0) n b.second b.second_height (q.low b.second b.second_height b.second_is))));
}
