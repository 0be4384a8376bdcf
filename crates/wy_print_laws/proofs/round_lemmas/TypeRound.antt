-- Types: one that was read is read again from its text, on as many levels, and has the same height.
use Rattle.std.proofs.Common.{◌≡◌, ℕ, zero, suc, ◌+◌, ◌≤◌, Bool, true, false, true≢false, nat_lt, max, List, [], ◌∷◌, ◌++◌, map, codes, ◌⊎◌, inl, inr, refl, sym, ap, ap₂, ◌∙◌, subst, arith, append-nil, rules}
use Rattle.std.specs.Str.{encode_utf8_all}
use lib.Utf8.{encode}
use Rattle.wy_data.specs.Words.{IsName, is_part}
use Rattle.wy_data.proofs.WordLemmas.{is_start-ascii, is_part-ascii}
use Rattle.wy_reading.specs.Rule.{among}
use Rattle.wy_reading.specs.Rule.Turns.{stop}
use Rattle.wy_ast.specs.SurfaceTree as tree
use Rattle.wy_ast.specs.declared.types.Ty.{Ty, the_lemmas}
use Rattle.wy_ast.specs.declared.types.TyKind.{TyKind}
use Rattle.wy_ast.specs.declared.types.TyKind.TheVariants as ty
use Rattle.wy_parse_front.specs.wy_lex.declared.token.Token.{Token}
use Rattle.wy_parse_front.specs.wy_lex.declared.token.TokenKind.{TokenKind}
use Rattle.wy_parse_front.specs.wy_lex.declared.token.TokenKind.TheVariants as k
use Rattle.wy_parse_front.specs.wy_lex.declared.symbol.Character.TheVariants as class
use Rattle.wy_parse_front.specs.wy_lex.Layout.{token}
use Rattle.wy_print.specs.Pieces.{listed}
use Rattle.wy_print.specs.TypeText.{ShownTy, bracketed, part, typed, field_texts, shown_ty, ty_text}
use Rattle.wy_parse_front.specs.wy_parse_grammar.declared.fault.Kind.TheVariants.{Deep}
use Rattle.wy_parse_front.specs.wy_parse_grammar.declared.measured.Measured.TheVariants.{Low}
use Rattle.wy_parse_front.specs.wy_parse_grammar.declared.sort.Class.TheVariants as kinds
use Rattle.wy_parse_front.specs.wy_parse_grammar.Sorts as t
use Rattle.wy_parse_front.specs.wy_parse_grammar.Sorts.{is, has, sort}
use Rattle.wy_parse_front.specs.wy_parse_grammar.Steps.{R, inside}
use Rattle.wy_parse_front.specs.wy_parse_grammar.Trees.{highest, both, made, pushed, named, none, ty_node, named_ty, array_ty, not_ty, union_ty, inter_ty, record_ty}
use Rattle.wy_parse_front.specs.wy_parse_grammar.TypeGrammar.{T, Fields, base_kind, Base, Brackets, Suffixes, Suffix, AndSuffix, Inters, Inter, OrInter, Unions, Union, Field, NextField, FieldList, TightOf, Tight, Type_, TypeRest, TypeTail}
use Rattle.wy_print_laws.specs.round.Bare.{bare_ty}
use Rattle.wy_print_laws.proofs.round_lemmas.Pieces.{Piece, letters, size, tokens_from, IsMark}
use Rattle.wy_print_laws.proofs.round_lemmas.Pieces.Piece.{gap, mark}
use Rattle.wy_print_laws.proofs.round_lemmas.Segments.{text_of, text-both, Segment, joined, IsClosed, closed-append, begins_item, no_item-ascii, Before, After, after-item, before-is, before-blank, leads-append, Item}
use Rattle.wy_print_laws.proofs.round_lemmas.Heights.{ty_node-low, ty_node-is, made-low, both-low, same_part, same_height}
use Rattle.wy_print_laws.proofs.round_lemmas.Marked.{null-mark, bool-mark, int-mark, any-mark, void-mark, open_bracket-mark, close_bracket-mark, not-mark, ampersand-mark, bar-mark}
use Rattle.wy_print_laws.proofs.round_lemmas.Gives.{Gives, gives-pure, gives-one, gives-then, gives-or, gives-loop, gives-refused, gives-less, gives-mark, gives-inner, gives-name, numeral-among}
use Rattle.wy_print_laws.proofs.round_lemmas.Commas.{mark-reads, turns-end, tokens-behind, item-any, comma}
use Rattle.wy_print_laws.proofs.round_lemmas.Commas as commas
use Rattle.wy_print_laws.proofs.round_lemmas.Enclosed.{begins-sign, begins-letter, single-item, name_piece, name-item, name-text, name-reads, IsInside, inside-none, inside-item, parens, curly, enclosed, enclosed-item, enclosed-text, enclosed-tokens, inner-reads}

-- ---- the lines of the grammar, by the levels of the printer

abbrev pub Line : ℕ → ℕ → R T
Line zero n = Union n (Tight n)
Line (suc zero) n = Inter n (Tight n)
Line (suc (suc zero)) n = Suffix n (Tight n)
Line (suc (suc (suc k))) n = Tight n

-- what a line gives the line before it does
lift-one : (k n : ℕ) (i : List Token) (x : T) (j : List Token) → (Line (suc k) n).reads i x j → (Line k n).reads i x j
lift-one zero n i x j r = (x, j, r, stop refl refl)
lift-one (suc zero) n i x j r = (x, j, r, stop refl refl)
lift-one (suc (suc zero)) n i x j r = (x, j, r, stop refl refl)
lift-one (suc (suc (suc k))) n i x j r = r

pub lift : (k line n : ℕ) (i : List Token) (x : T) (j : List Token) → line ≤ k → (Line k n).reads i x j → (Line line n).reads i x j
lift zero line n i x j le r = let e : zero ≡ line = omega (arith, le) in subst (λ l. (Line l n).reads i x j) e r
lift (suc k) line n i x j le r = by (λ h. lift k line n i x j h (lift-one k n i x j r)) cases
  where
    cases : (line ≤ k) ⊎ (suc k ≡ line)
    cases = grind (arith, le)

    by : (line ≤ k → (Line line n).reads i x j) → (line ≤ k) ⊎ (suc k ≡ line) → (Line line n).reads i x j
    by ih (inl h) = ih h
    by ih (inr e) = subst (λ l. (Line l n).reads i x j) e r

-- ---- read again

-- a type places aside, and as it is shown
abbrev pub View : Type 0
View = tree.Ty × ShownTy

abbrev pub view : Ty → View
view x = (bare_ty x, shown_ty x)

pub viewed : (x : Ty) (b : tree.Ty) (s : ShownTy) → bare_ty x ≡ b → shown_ty x ≡ s → view x ≡ (b, s)
viewed x b s e f = ap₂ (λ (c : tree.Ty) (u : ShownTy). (c, u)) e f

pub map-map : {A B C : Type 0} (f : A → B) (g : B → C) (xs : List A) → map g (map f xs) ≡ map (λ x. g (f x)) xs
map-map f g [] = refl
map-map f g (x ∷ xs) = ap (λ l. g (f x) ∷ l) (map-map f g xs)

-- a rule reads a type that is the same but for its places, and is shown so too
pub record ReadsTo (rule : R T) (i : List Token) (x : Ty) (h : ℕ) (j : List Token) : Type 0 where
  pub tree : Ty
  pub same : view tree ≡ view x
  pub reads : rule.reads i (Low tree h) j

-- pieces that spell the text are read as the type on n levels and on more, by the line
pub record Again (n line : ℕ) (text : List ℕ) (x : Ty) (h : ℕ) : Type 0 where
  pub pieces : List Piece
  pub spelled : text_of pieces ≡ text
  pub item : Item false false pieces
  pub reads : (m : ℕ) → n ≤ m → (at : ℕ) (j : List Token) → ReadsTo (Line line m) (tokens_from at pieces ++ j) x h j

-- by its own line
abbrev pub Own : ℕ → Ty → ℕ → Type 0
Own n x h = Again n (shown_ty x).level (ty_text x) x h

-- where one of the line may stand, in brackets where there are to be some
abbrev pub Part : ℕ → ℕ → Ty → ℕ → Type 0
Part n line x h = Again n line (part line (shown_ty x)) x h

pub own-on : (n m : ℕ) (x : Ty) (h : ℕ) → n ≤ m → Own n x h → Own m x h
own-on n m x h le o = record { pieces = o.pieces; spelled = o.spelled; item = o.item; reads = λ l g at j. o.reads l (omega (arith, le, g)) at j }

-- it stands by itself, or it has a level more inside, for brackets
abbrev pub Stands : ℕ → ℕ → Ty → ℕ → Type 0
Stands n line x h = ((line ≤ (shown_ty x).level) × Own n x h) ⊎ ((m : ℕ) × (n ≡ suc m) × Own m x h)

-- what was read, where it is low
pub record IsPart (n line : ℕ) (x : T) : Type 0 where
  pub low : (y : Ty) (h : ℕ) → x ≡ Low y h → Stands n line y h

pub part-less : (n line k : ℕ) (x : T) → k ≤ line → IsPart n line x → IsPart n k x
part-less n line k x le p = record { low = λ y h e. by y h (p.low y h e) }
  where
    by : (y : Ty) (h : ℕ) → Stands n line y h → Stands n k y h
    by y h (inl s) = inl (omega (arith, le, s.0), s.1)
    by y h (inr s) = inr s

-- ---- brackets

-- where no brackets are needed
unbracketed : (n line : ℕ) (x : Ty) (h : ℕ) → nat_lt (shown_ty x).level line ≡ false → Own n x h → Part n line x h
unbracketed n line x h e o =
    let le : line ≤ (shown_ty x).level = grind (arith, e) in
    record {
      pieces = o.pieces;
      spelled = o.spelled ∙ sym (ap (λ b. bracketed b (ty_text x)) e);
      item = o.item;
      reads = λ m g at j.
          let r = o.reads m g at j in
          record { tree = r.tree; same = r.same; reads = lift (shown_ty x).level line m (tokens_from at o.pieces ++ j) (Low r.tree h) j le r.reads };
    }

-- where they are, they take a level
in_brackets : (n line : ℕ) (x : Ty) (h : ℕ) → line ≤ 3 → nat_lt (shown_ty x).level line ≡ true → Own n x h → Part (suc n) line x h
unfolding Tight
in_brackets n line x h within e o = record {
  pieces = enclosed k.OpenParen 40 k.CloseParen 41 o.pieces;
  spelled = enclosed-text k.OpenParen 40 k.CloseParen 41 o.pieces (ty_text x) parens o.spelled ∙ sym (ap (λ b. bracketed b (ty_text x)) e);
  item = enclosed-item k.OpenParen 40 k.CloseParen 41 o.pieces parens (inside-item o.pieces (item-any false false o.pieces o.item));
  reads = reads;
}
  where
    reads : (m : ℕ) → suc n ≤ m → (at : ℕ) (j : List Token) → ReadsTo (Line line m) (tokens_from at (enclosed k.OpenParen 40 k.CloseParen 41 o.pieces) ++ j) x h j
    reads zero g at j = absurd (omega (arith, g))
    reads (suc m) g at j =
        let here = at + size (40 ∷ []) in
        let there = here + size (letters o.pieces) in
        let inner : List Token = tokens_from here o.pieces ++ token k.CloseParen there ∷ j in
        let r = o.reads m (omega (arith, g)) here (token k.CloseParen there ∷ j) in
        let whole : (Union m (Tight m)).reads inner (Low r.tree h) (token k.CloseParen there ∷ j) = lift (shown_ty x).level 0 m inner (Low r.tree h) (token k.CloseParen there ∷ j) (omega arith) r.reads in
        let tight : (Tight (suc m)).reads (token k.OpenParen at ∷ inner) (Low r.tree h) j =
        inr (inl (at, inner, mark-reads t.OPEN_PAREN k.OpenParen at inner refl, (Low r.tree h, token k.CloseParen there ∷ j, whole, (there, j, mark-reads t.CLOSE_PAREN k.CloseParen there j refl, (refl, refl))))) in
        record {
          tree = r.tree;
          same = r.same;
          reads = lift 3 line (suc m) (tokens_from at (enclosed k.OpenParen 40 k.CloseParen 41 o.pieces) ++ j) (Low r.tree h) j within (subst (λ i. (Tight (suc m)).reads i (Low r.tree h) j) (sym (enclosed-tokens at k.OpenParen 40 k.CloseParen 41 o.pieces j)) tight);
        }

pub part-of : (n line : ℕ) (x : Ty) (h : ℕ) → line ≤ 3 → Stands n line x h → Part n line x h
part-of n line x h within (inl s) = unbracketed n line x h (none s.0) s.1
  where
    none : line ≤ (shown_ty x).level → nat_lt (shown_ty x).level line ≡ false
    none le = grind (arith, le)
part-of n line x h within (inr s) = subst (λ l. Part l line x h) (sym s.1) (by (nat_lt (shown_ty x).level line) refl)
  where
    by : (b : Bool) → nat_lt (shown_ty x).level line ≡ b → Part (suc s.0) line x h
    by true e = in_brackets s.0 line x h within e s.2
    by false e = unbracketed (suc s.0) line x h e (own-on s.0 (suc s.0) x h (omega arith) s.2)

-- what is read in brackets
pub in-paren : (n : ℕ) (x : T) → IsPart n 0 x → IsPart (suc n) 3 x
in-paren n x p = record { low = λ y h e. by y h (p.low y h e) }
  where
    by : (y : Ty) (h : ℕ) → Stands n 0 y h → Stands (suc n) 3 y h
    by y h (inl s) = inr (n, refl, s.1)
    by y h (inr s) = inr (n, refl, subst (λ l. Own l y h) (sym s.1) (own-on s.0 (suc s.0) y h (omega arith) s.2))

-- ---- what is shown of a node, and what it is places aside

pub own-as : (n : ℕ) (x : Ty) (h : ℕ) (s : ShownTy) → shown_ty x ≡ s → Again n s.level s.text x h → Own n x h
own-as n x h s e o = subst (λ (u : ShownTy). Again n u.level u.text x h) (sym e) o

stands-as : (n line : ℕ) (x : Ty) (h : ℕ) (s : ShownTy) → shown_ty x ≡ s → line ≤ s.level → Again n s.level s.text x h → Stands n line x h
stands-as n line x h s e le o = inl (subst (λ (u : ShownTy). line ≤ u.level) (sym e) le, own-as n x h s e o)

shown_not : (x a : Ty) → x.kind ≡ ty.Not a → shown_ty x ≡ record { text = codes "!" ++ part 3 (shown_ty a); level = 3 }
shown_not x a e = search (rules, the_lemmas)

bare_not : (x a : Ty) → x.kind ≡ ty.Not a → bare_ty x ≡ tree.NotTy 0 (bare_ty a)
bare_not x a e = search (rules, the_lemmas)

abbrev not_view : View → View
not_view v = (tree.NotTy 0 v.0, record { text = codes "!" ++ part 3 v.1; level = 3 })

view_not : (x a : Ty) → x.kind ≡ ty.Not a → view x ≡ not_view (view a)
view_not x a e = viewed x _ _ (bare_not x a e) (shown_not x a e)

shown_array : (x a : Ty) → x.kind ≡ ty.Array a → shown_ty x ≡ record { text = part 2 (shown_ty a) ++ codes "[]"; level = 2 }
shown_array x a e = search (rules, the_lemmas)

bare_array : (x a : Ty) → x.kind ≡ ty.Array a → bare_ty x ≡ tree.ArrayTy 0 (bare_ty a)
bare_array x a e = search (rules, the_lemmas)

abbrev array_view : View → View
array_view v = (tree.ArrayTy 0 v.0, record { text = part 2 v.1 ++ codes "[]"; level = 2 })

view_array : (x a : Ty) → x.kind ≡ ty.Array a → view x ≡ array_view (view a)
view_array x a e = viewed x _ _ (bare_array x a e) (shown_array x a e)

shown_union : (x a b : Ty) → x.kind ≡ ty.Union a b → shown_ty x ≡ record { text = part 0 (shown_ty a) ++ (codes "|" ++ part 1 (shown_ty b)); level = 0 }
shown_union x a b e = search (rules, the_lemmas)

bare_union : (x a b : Ty) → x.kind ≡ ty.Union a b → bare_ty x ≡ tree.UnionTy 0 (bare_ty a) (bare_ty b)
bare_union x a b e = search (rules, the_lemmas)

abbrev union_view : View → View → View
union_view v w = (tree.UnionTy 0 v.0 w.0, record { text = part 0 v.1 ++ (codes "|" ++ part 1 w.1); level = 0 })

view_union : (x a b : Ty) → x.kind ≡ ty.Union a b → view x ≡ union_view (view a) (view b)
view_union x a b e = viewed x _ _ (bare_union x a b e) (shown_union x a b e)

shown_inter : (x a b : Ty) → x.kind ≡ ty.Inter a b → shown_ty x ≡ record { text = part 1 (shown_ty a) ++ (codes "&" ++ part 2 (shown_ty b)); level = 1 }
shown_inter x a b e = search (rules, the_lemmas)

bare_inter : (x a b : Ty) → x.kind ≡ ty.Inter a b → bare_ty x ≡ tree.InterTy 0 (bare_ty a) (bare_ty b)
bare_inter x a b e = search (rules, the_lemmas)

abbrev inter_view : View → View → View
inter_view v w = (tree.InterTy 0 v.0 w.0, record { text = part 1 v.1 ++ (codes "&" ++ part 2 w.1); level = 1 })

view_inter : (x a b : Ty) → x.kind ≡ ty.Inter a b → view x ≡ inter_view (view a) (view b)
view_inter x a b e = viewed x _ _ (bare_inter x a b e) (shown_inter x a b e)

shown_named : (x : Ty) (name : List ℕ) → x.kind ≡ ty.Named name → shown_ty x ≡ record { text = name; level = 3 }
shown_named x name e = search (rules, the_lemmas)

bare_named : (x : Ty) (name : List ℕ) → x.kind ≡ ty.Named name → bare_ty x ≡ tree.NamedTy 0 name
bare_named x name e = search (rules, the_lemmas)

view_named : (x : Ty) (name : List ℕ) → x.kind ≡ ty.Named name → view x ≡ (tree.NamedTy 0 name, record { text = name; level = 3 })
view_named x name e = viewed x _ _ (bare_named x name e) (shown_named x name e)

-- ---- `!`

not-again : (n : ℕ) (x a : Ty) (h : ℕ) → x.kind ≡ ty.Not a → nat_lt h highest ≡ true → Part n 3 a h → Again (suc n) 3 (codes "!" ++ part 3 (shown_ty a)) x (h + 1)
unfolding Tight encode
not-again n x a h is fits p = record {
  pieces = mark k.Not (33 ∷ []) (class.Is 61) ∷ p.pieces;
  spelled = ap (λ (l : List ℕ). 33 ∷ l) p.spelled;
  item = record {
    segment = joined (mark k.Not (33 ∷ []) (class.Is 61) ∷ []) p.pieces
        (record { linked = λ m q. (q.0 33 (begins-sign 33 refl), not-mark, tt); last = λ m q. (before-is 61 (no_item-ascii 61 (is_start-ascii 61 (omega arith)) refl), λ b. absurd (true≢false (sym b))) }) p.item.segment;
    leads = tt;
    closed = record { closed = p.item.closed.closed };
  };
  reads = reads;
}
  where
    reads : (m : ℕ) → suc n ≤ m → (at : ℕ) (j : List Token) → ReadsTo (Line 3 m) (tokens_from at (mark k.Not (33 ∷ []) (class.Is 61) ∷ p.pieces) ++ j) x (h + 1) j
    reads zero g at j = absurd (omega (arith, g))
    reads (suc m) g at j =
        let here = at + size (33 ∷ []) in
        let r = p.reads m (omega (arith, g)) here j in
        let node : Ty = record { at = at; kind = ty.Not r.tree } in
        record {
          tree = node;
          same = view_not node r.tree refl ∙ (ap not_view r.same ∙ sym (view_not x a is));
          reads = inl (
            at,
            tokens_from here p.pieces ++ j,
            mark-reads t.NOT k.Not at (tokens_from here p.pieces ++ j) refl,
            (Low r.tree h, j, r.reads, (sym (ty_node-is at (ty.Not r.tree) h fits), refl)),
          );
        }

not-part : (n at : ℕ) (x : T) → IsPart n 3 x → IsPart (suc n) 3 (not_ty at x)
not-part n at x p = record {
  low = λ y h e.
      let o = ty_node-low at (made ty.Not x) y h e in
      let m = made-low ty.Not x o.of o.below o.is in
      let is : y.kind ≡ ty.Not m.of = o.kind_is ∙ m.value in
      subst (λ l. Stands (suc n) 3 y l) (sym o.height_is)
      (stands-as (suc n) 3 y (o.below + 1) (record { text = codes "!" ++ part 3 (shown_ty m.of); level = 3 }) (shown_not y m.of is) (omega arith)
      (not-again n y m.of o.below is o.fits (part-of n 3 m.of o.below (omega arith) (p.low m.of o.below m.is))));
}

-- ---- `[]`

pair_of : List Piece
pair_of = mark k.OpenBracket (91 ∷ []) class.Nothing ∷ mark k.CloseBracket (93 ∷ []) class.Nothing ∷ []

pair-segment : Segment (After false) pair_of (After false)
unfolding pair_of
pair-segment = record {
  linked = λ m q. (after-item false m 91 q (is_part-ascii 91 (omega arith)) (λ b. refl), open_bracket-mark, (refl, close_bracket-mark, tt));
  last = λ m q. tt;
}

pair-closed : IsClosed pair_of
unfolding pair_of
pair-closed = record { closed = λ d. omega arith }

pair-text : text_of pair_of ≡ codes "[]"
unfolding pair_of encode
pair-text = refl

inside-grows : (n m : ℕ) → n ≤ m → 1 ≤ inside n → 1 ≤ inside m
inside-grows zero m le h = absurd (omega (arith, h))
inside-grows (suc n) zero le h = absurd (omega (arith, le))
inside-grows (suc n) (suc m) le h = omega (arith, le, h)

array-again : (n : ℕ) (x a : Ty) (h : ℕ) → x.kind ≡ ty.Array a → nat_lt h highest ≡ true → 1 ≤ inside n → Part n 2 a h → Again n 2 (part 2 (shown_ty a) ++ codes "[]") x (h + 1)
unfolding pair_of
array-again n x a h is fits deep p = record {
  pieces = p.pieces ++ pair_of;
  spelled = text-both p.pieces pair_of (part 2 (shown_ty a)) (codes "[]") p.spelled pair-text;
  item = record {
    segment = joined p.pieces pair_of p.item.segment pair-segment;
    leads = leads-append p.pieces pair_of p.item.leads;
    closed = closed-append p.pieces pair_of p.item.closed pair-closed;
  };
  reads = λ m g at j.
      let here = at + size (letters p.pieces) in
      let there = here + size (91 ∷ []) in
      let behind : List Token = token k.OpenBracket here ∷ token k.CloseBracket there ∷ j in
      let r = p.reads m g at behind in
      let node : Ty = record { at = here; kind = ty.Array r.tree } in
      let turn : (Brackets m (Low r.tree h)).reads behind (Low node (h + 1)) j = (
        here,
        token k.CloseBracket there ∷ j,
        mark-reads t.OPEN_BRACKET k.OpenBracket here (token k.CloseBracket there ∷ j) refl,
        (there, j, inner-reads (inside m) t.CLOSE_BRACKET k.CloseBracket there j (inside-grows n m g deep) refl, (sym (ty_node-is here (ty.Array r.tree) h fits), refl)),
      ) in
      let q = r.reads in
      let whole : (Suffix m (Tight m)).reads (tokens_from at p.pieces ++ behind) (Low node (h + 1)) j =
      (q.0, q.1, q.2, turns-end (Brackets m) q.0 q.1 (Low r.tree h) behind (Low node (h + 1)) j q.3 turn) in
      record {
        tree = node;
        same = view_array node r.tree refl ∙ (ap array_view r.same ∙ sym (view_array x a is));
        reads = subst (λ i. (Suffix m (Tight m)).reads i (Low node (h + 1)) j) (sym (tokens-behind at p.pieces pair_of j)) whole;
      };
}

pub array-part : (n at : ℕ) (x : T) → 1 ≤ inside n → IsPart n 2 x → IsPart n 2 (array_ty at x)
array-part n at x deep p = record {
  low = λ y h e.
      let o = ty_node-low at (made ty.Array x) y h e in
      let m = made-low ty.Array x o.of o.below o.is in
      let is : y.kind ≡ ty.Array m.of = o.kind_is ∙ m.value in
      subst (λ l. Stands n 2 y l) (sym o.height_is)
      (stands-as n 2 y (o.below + 1) (record { text = part 2 (shown_ty m.of) ++ codes "[]"; level = 2 }) (shown_array y m.of is) (omega arith)
      (array-again n y m.of o.below is o.fits deep (part-of n 2 m.of o.below (omega arith) (p.low m.of o.below m.is))));
}

-- ---- `&` and `|`

sign_of : TokenKind → ℕ → List Piece
sign_of kind c = mark kind (c ∷ []) (class.Is c) ∷ []

sign-segment : (kind : TokenKind) (c : ℕ) → IsMark kind (c ∷ []) (class.Is c) → is_part c ≡ false → begins_item c ≡ false → Segment (After false) (sign_of kind c) (Before false)
unfolding sign_of
sign-segment kind c h p b = record {
  linked = λ m q. (after-item false m c q p (λ e. absurd (true≢false (sym e))), h, tt);
  last = λ m q. (before-is c b, λ e. absurd (true≢false (sym e)));
}

between-item : (kind : TokenKind) (c : ℕ) (ps qs : List Piece) → IsMark kind (c ∷ []) (class.Is c) → is_part c ≡ false → begins_item c ≡ false → IsClosed (sign_of kind c) → Item false false ps → Item false false qs
    → Item false false (ps ++ (sign_of kind c ++ qs))
between-item kind c ps qs h p b f x y = record {
  segment = joined ps (sign_of kind c ++ qs) x.segment (joined (sign_of kind c) qs (sign-segment kind c h p b) y.segment);
  leads = leads-append ps (sign_of kind c ++ qs) x.leads;
  closed = closed-append ps (sign_of kind c ++ qs) x.closed (closed-append (sign_of kind c) qs f y.closed);
}

inter-again : (n : ℕ) (x a b : Ty) (h l : ℕ) → x.kind ≡ ty.Inter a b → nat_lt (max h l) highest ≡ true → Part n 1 a h → Part n 2 b l
    → Again n 1 (part 1 (shown_ty a) ++ (codes "&" ++ part 2 (shown_ty b))) x (max h l + 1)
unfolding sign_of encode
inter-again n x a b h l is fits p q = record {
  pieces = p.pieces ++ (sign_of k.Ampersand 38 ++ q.pieces);
  spelled = text-both p.pieces (sign_of k.Ampersand 38 ++ q.pieces) (part 1 (shown_ty a)) (codes "&" ++ part 2 (shown_ty b)) p.spelled (text-both (sign_of k.Ampersand 38) q.pieces (codes "&") (part 2 (shown_ty b)) refl q.spelled);
  item = between-item k.Ampersand 38 p.pieces q.pieces ampersand-mark (is_part-ascii 38 (omega arith)) (no_item-ascii 38 (is_start-ascii 38 (omega arith)) refl) (record { closed = λ d. refl }) p.item q.item;
  reads = λ m g at j.
      let here = at + size (letters p.pieces) in
      let there = here + size (38 ∷ []) in
      let rest : List Token = tokens_from there q.pieces ++ j in
      let r = p.reads m g at (token k.Ampersand here ∷ rest) in
      let s = q.reads m g there j in
      let node : Ty = record { at = here; kind = ty.Inter r.tree s.tree } in
      let turn : (AndSuffix m (Tight m) (Low r.tree h)).reads (token k.Ampersand here ∷ rest) (Low node (max h l + 1)) j =
      (here, rest, mark-reads t.AMPERSAND k.Ampersand here rest refl, (Low s.tree l, j, s.reads, (sym (ty_node-is here (ty.Inter r.tree s.tree) (max h l) fits), refl))) in
      let u = r.reads in
      let whole : (Inter m (Tight m)).reads (tokens_from at p.pieces ++ token k.Ampersand here ∷ rest) (Low node (max h l + 1)) j =
      (u.0, u.1, u.2, turns-end (AndSuffix m (Tight m)) u.0 u.1 (Low r.tree h) (token k.Ampersand here ∷ rest) (Low node (max h l + 1)) j u.3 turn) in
      record {
        tree = node;
        same = view_inter node r.tree s.tree refl ∙ (ap₂ inter_view r.same s.same ∙ sym (view_inter x a b is));
        reads = subst (λ i. (Inter m (Tight m)).reads i (Low node (max h l + 1)) j) (sym (tokens-behind at p.pieces (sign_of k.Ampersand 38 ++ q.pieces) j)) whole;
      };
}

inter-part : (n at : ℕ) (x z : T) → IsPart n 1 x → IsPart n 2 z → IsPart n 1 (inter_ty at x z)
inter-part n at x z p q = record {
  low = λ y h e.
      let o = ty_node-low at (made (λ (c : Ty × Ty). ty.Inter c.0 c.1) (both x z)) y h e in
      let m = made-low (λ (c : Ty × Ty). ty.Inter c.0 c.1) (both x z) o.of o.below o.is in
      let b = both-low x z m.of o.below m.is in
      let is : y.kind ≡ ty.Inter b.first b.second = o.kind_is ∙ (m.value ∙ ap (λ (c : Ty × Ty). ty.Inter c.0 c.1) b.value) in
      let fits : nat_lt (max b.first_height b.second_height) highest ≡ true = ap (λ n. nat_lt n highest) (sym b.height_is) ∙ o.fits in
      subst (λ l. Stands n 1 y l) (sym (o.height_is ∙ ap (λ n. n + 1) b.height_is))
      (stands-as n 1 y (max b.first_height b.second_height + 1) (record { text = part 1 (shown_ty b.first) ++ (codes "&" ++ part 2 (shown_ty b.second)); level = 1 }) (shown_inter y b.first b.second is) (omega arith)
      (inter-again n y b.first b.second b.first_height b.second_height is fits (part-of n 1 b.first b.first_height (omega arith) (p.low b.first b.first_height b.first_is))
      (part-of n 2 b.second b.second_height (omega arith) (q.low b.second b.second_height b.second_is))));
}

union-again : (n : ℕ) (x a b : Ty) (h l : ℕ) → x.kind ≡ ty.Union a b → nat_lt (max h l) highest ≡ true → Part n 0 a h → Part n 1 b l
    → Again n 0 (part 0 (shown_ty a) ++ (codes "|" ++ part 1 (shown_ty b))) x (max h l + 1)
unfolding sign_of encode
union-again n x a b h l is fits p q = record {
  pieces = p.pieces ++ (sign_of k.Bar 124 ++ q.pieces);
  spelled = text-both p.pieces (sign_of k.Bar 124 ++ q.pieces) (part 0 (shown_ty a)) (codes "|" ++ part 1 (shown_ty b)) p.spelled (text-both (sign_of k.Bar 124) q.pieces (codes "|") (part 1 (shown_ty b)) refl q.spelled);
  item = between-item k.Bar 124 p.pieces q.pieces bar-mark (is_part-ascii 124 (omega arith)) (no_item-ascii 124 (is_start-ascii 124 (omega arith)) refl) (record { closed = λ d. refl }) p.item q.item;
  reads = λ m g at j.
      let here = at + size (letters p.pieces) in
      let there = here + size (124 ∷ []) in
      let rest : List Token = tokens_from there q.pieces ++ j in
      let r = p.reads m g at (token k.Bar here ∷ rest) in
      let s = q.reads m g there j in
      let node : Ty = record { at = here; kind = ty.Union r.tree s.tree } in
      let turn : (OrInter m (Tight m) (Low r.tree h)).reads (token k.Bar here ∷ rest) (Low node (max h l + 1)) j =
      (here, rest, mark-reads t.BAR k.Bar here rest refl, (Low s.tree l, j, s.reads, (sym (ty_node-is here (ty.Union r.tree s.tree) (max h l) fits), refl))) in
      let u = r.reads in
      let whole : (Union m (Tight m)).reads (tokens_from at p.pieces ++ token k.Bar here ∷ rest) (Low node (max h l + 1)) j =
      (u.0, u.1, u.2, turns-end (OrInter m (Tight m)) u.0 u.1 (Low r.tree h) (token k.Bar here ∷ rest) (Low node (max h l + 1)) j u.3 turn) in
      record {
        tree = node;
        same = view_union node r.tree s.tree refl ∙ (ap₂ union_view r.same s.same ∙ sym (view_union x a b is));
        reads = subst (λ i. (Union m (Tight m)).reads i (Low node (max h l + 1)) j) (sym (tokens-behind at p.pieces (sign_of k.Bar 124 ++ q.pieces) j)) whole;
      };
}

union-part : (n at : ℕ) (x z : T) → IsPart n 0 x → IsPart n 1 z → IsPart n 0 (union_ty at x z)
union-part n at x z p q = record {
  low = λ y h e.
      let o = ty_node-low at (made (λ (c : Ty × Ty). ty.Union c.0 c.1) (both x z)) y h e in
      let m = made-low (λ (c : Ty × Ty). ty.Union c.0 c.1) (both x z) o.of o.below o.is in
      let b = both-low x z m.of o.below m.is in
      let is : y.kind ≡ ty.Union b.first b.second = o.kind_is ∙ (m.value ∙ ap (λ (c : Ty × Ty). ty.Union c.0 c.1) b.value) in
      let fits : nat_lt (max b.first_height b.second_height) highest ≡ true = ap (λ n. nat_lt n highest) (sym b.height_is) ∙ o.fits in
      subst (λ l. Stands n 0 y l) (sym (o.height_is ∙ ap (λ n. n + 1) b.height_is))
      (stands-as n 0 y (max b.first_height b.second_height + 1) (record { text = part 0 (shown_ty b.first) ++ (codes "|" ++ part 1 (shown_ty b.second)); level = 0 }) (shown_union y b.first b.second is) (omega arith)
      (union-again n y b.first b.second b.first_height b.second_height is fits (part-of n 0 b.first b.first_height (omega arith) (p.low b.first b.first_height b.first_is))
      (part-of n 1 b.second b.second_height (omega arith) (q.low b.second b.second_height b.second_is))));
}

-- ---- names and words

named-again : (n : ℕ) (x : Ty) (name : List ℕ) → x.kind ≡ ty.Named name → IsName name → Again (suc n) 3 name x 1
unfolding Tight
named-again n x name is h = record {
  pieces = name_piece name ∷ [];
  spelled = name-text name h;
  item = name-item name h;
  reads = reads;
}
  where
    reads : (m : ℕ) → suc n ≤ m → (at : ℕ) (j : List Token) → ReadsTo (Line 3 m) (token (k.Name name) at ∷ j) x 1 j
    reads zero g at j = absurd (omega (arith, g))
    reads (suc m) g at j =
        let node : Ty = record { at = at; kind = ty.Named name } in
        record {
          tree = node;
          same = view_named node name refl ∙ sym (view_named x name is);
          reads = inr (inr (inr (inl ((at, name), j, (token (k.Name name) at, j, (refl, refl), (refl, refl)), (refl, refl)))));
        }

pub named-part : (n at : ℕ) (name : List ℕ) → IsName name → IsPart (suc n) 3 (named_ty at name)
named-part n at name v = record {
  low = λ y h e.
      let o = ty_node-low at (Low (ty.Named name) 0) y h e in
      let is : y.kind ≡ ty.Named name = o.kind_is ∙ sym (same_part (ty.Named name) o.of 0 o.below o.is) in
      let height_is : h ≡ 1 = o.height_is ∙ ap (λ l. l + 1) (sym (same_height (ty.Named name) o.of 0 o.below o.is)) in
      subst (λ l. Stands (suc n) 3 y l) (sym height_is)
      (stands-as (suc n) 3 y 1 (record { text = name; level = 3 }) (shown_named y name is) (omega arith) (named-again n y name is v));
}

-- a word for the kind of a type
record IsBase (kind : TokenKind) (of : TyKind) (word : List ℕ) (bare : tree.Ty) : Type 0 where
  pub base : among (t.members kinds.BaseType) (sort kind) ≡ true
  pub of_is : base_kind kind ≡ of
  pub shown : (x : Ty) → x.kind ≡ of → shown_ty x ≡ record { text = word; level = 3 }
  pub bare_is : (x : Ty) → x.kind ≡ of → bare_ty x ≡ bare
  pub first : ℕ
  pub others : List ℕ
  pub spelled : encode_utf8_all (first ∷ others) ≡ word
  pub written : IsMark kind (first ∷ others) class.Part
  pub begins : begins_item first ≡ true
  pub flat : IsClosed (mark kind (first ∷ others) class.Part ∷ [])

shown_null : (x : Ty) → x.kind ≡ ty.Null → shown_ty x ≡ record { text = codes "null"; level = 3 }
shown_null x e = search (rules, the_lemmas)

bare_null : (x : Ty) → x.kind ≡ ty.Null → bare_ty x ≡ tree.NullTy 0
bare_null x e = search (rules, the_lemmas)

shown_bool : (x : Ty) → x.kind ≡ ty.Bool → shown_ty x ≡ record { text = codes "bool"; level = 3 }
shown_bool x e = search (rules, the_lemmas)

bare_bool : (x : Ty) → x.kind ≡ ty.Bool → bare_ty x ≡ tree.BoolTy 0
bare_bool x e = search (rules, the_lemmas)

shown_int : (x : Ty) → x.kind ≡ ty.Int → shown_ty x ≡ record { text = codes "int"; level = 3 }
shown_int x e = search (rules, the_lemmas)

bare_int : (x : Ty) → x.kind ≡ ty.Int → bare_ty x ≡ tree.IntTy 0
bare_int x e = search (rules, the_lemmas)

shown_any : (x : Ty) → x.kind ≡ ty.Any → shown_ty x ≡ record { text = codes "any"; level = 3 }
shown_any x e = search (rules, the_lemmas)

bare_any : (x : Ty) → x.kind ≡ ty.Any → bare_ty x ≡ tree.AnyTy 0
bare_any x e = search (rules, the_lemmas)

shown_void : (x : Ty) → x.kind ≡ ty.Void → shown_ty x ≡ record { text = codes "void"; level = 3 }
shown_void x e = search (rules, the_lemmas)

bare_void : (x : Ty) → x.kind ≡ ty.Void → bare_ty x ≡ tree.VoidTy 0
bare_void x e = search (rules, the_lemmas)

base-null : IsBase k.Null ty.Null (codes "null") (tree.NullTy 0)
unfolding encode
base-null = record { base = refl; of_is = refl; shown = shown_null; bare_is = bare_null; first = 110; others = 117 ∷ 108 ∷ 108 ∷ []; spelled = refl; written = null-mark; begins = begins-letter 110 (omega arith) refl; flat = record { closed = λ d. refl } }

base-bool : IsBase k.Bool ty.Bool (codes "bool") (tree.BoolTy 0)
unfolding encode
base-bool = record { base = refl; of_is = refl; shown = shown_bool; bare_is = bare_bool; first = 98; others = 111 ∷ 111 ∷ 108 ∷ []; spelled = refl; written = bool-mark; begins = begins-letter 98 (omega arith) refl; flat = record { closed = λ d. refl } }

base-int : IsBase k.Int ty.Int (codes "int") (tree.IntTy 0)
unfolding encode
base-int = record { base = refl; of_is = refl; shown = shown_int; bare_is = bare_int; first = 105; others = 110 ∷ 116 ∷ []; spelled = refl; written = int-mark; begins = begins-letter 105 (omega arith) refl; flat = record { closed = λ d. refl } }

base-any : IsBase k.Any ty.Any (codes "any") (tree.AnyTy 0)
unfolding encode
base-any = record { base = refl; of_is = refl; shown = shown_any; bare_is = bare_any; first = 97; others = 110 ∷ 121 ∷ []; spelled = refl; written = any-mark; begins = begins-letter 97 (omega arith) refl; flat = record { closed = λ d. refl } }

base-void : IsBase k.Void ty.Void (codes "void") (tree.VoidTy 0)
unfolding encode
base-void = record { base = refl; of_is = refl; shown = shown_void; bare_is = bare_void; first = 118; others = 111 ∷ 105 ∷ 100 ∷ []; spelled = refl; written = void-mark; begins = begins-letter 118 (omega arith) refl; flat = record { closed = λ d. refl } }

base-again : (n : ℕ) (kind : TokenKind) (of : TyKind) (word : List ℕ) (bare : tree.Ty) (x : Ty) → IsBase kind of word bare → x.kind ≡ of → Again (suc n) 3 word x 1
unfolding Tight
base-again n kind of word bare x b is = record {
  pieces = mark kind (b.first ∷ b.others) class.Part ∷ [];
  spelled = ap encode_utf8_all (append-nil (b.first ∷ b.others)) ∙ b.spelled;
  item = single-item kind b.first b.others class.Part b.written b.begins tt b.flat;
  reads = reads;
}
  where
    reads : (m : ℕ) → suc n ≤ m → (at : ℕ) (j : List Token) → ReadsTo (Line 3 m) (token kind at ∷ j) x 1 j
    reads zero g at j = absurd (omega (arith, g))
    reads (suc m) g at j =
        let node : Ty = record { at = at; kind = of } in
        let path : Low node 1 ≡ ty_node at (Low (base_kind kind) 0) = ap (λ (c : TyKind). ty_node at (Low c 0)) (sym b.of_is) in
        record {
          tree = node;
          same = viewed node bare (record { text = word; level = 3 }) (b.bare_is node refl) (b.shown node refl) ∙ sym (viewed x bare (record { text = word; level = 3 }) (b.bare_is x is) (b.shown x is));
          reads = inr (inr (inr (inr (token kind at, j, (b.base, refl), (path, refl)))));
        }

base-part : (n at : ℕ) (kind : TokenKind) (of : TyKind) (word : List ℕ) (bare : tree.Ty) → IsBase kind of word bare → IsPart (suc n) 3 (ty_node at (Low (base_kind kind) 0))
base-part n at kind of word bare b = record {
  low = λ y h e.
      let o = ty_node-low at (Low (base_kind kind) 0) y h e in
      let is : y.kind ≡ of = o.kind_is ∙ (sym (same_part (base_kind kind) o.of 0 o.below o.is) ∙ b.of_is) in
      let height_is : h ≡ 1 = o.height_is ∙ ap (λ l. l + 1) (sym (same_height (base_kind kind) o.of 0 o.below o.is)) in
      subst (λ l. Stands (suc n) 3 y l) (sym height_is)
      (stands-as (suc n) 3 y 1 (record { text = word; level = 3 }) (b.shown y is) (omega arith) (base-again n kind of word bare y b is));
}

base-kinds : (n at : ℕ) (kind : TokenKind) → among (t.members kinds.BaseType) (sort kind) ≡ true → IsPart (suc n) 3 (ty_node at (Low (base_kind kind) 0))
base-kinds n at k.Null h = base-part n at k.Null ty.Null (codes "null") (tree.NullTy 0) base-null
base-kinds n at k.Bool h = base-part n at k.Bool ty.Bool (codes "bool") (tree.BoolTy 0) base-bool
base-kinds n at k.Int h = base-part n at k.Int ty.Int (codes "int") (tree.IntTy 0) base-int
base-kinds n at k.Any h = base-part n at k.Any ty.Any (codes "any") (tree.AnyTy 0) base-any
base-kinds n at k.Void h = base-part n at k.Void ty.Void (codes "void") (tree.VoidTy 0) base-void
base-kinds n at (k.Numeral z) h = absurd (true≢false (sym h ∙ numeral-among (t.members kinds.BaseType) z refl refl refl))
base-kinds n at _ h = absurd (true≢false (sym h))

-- ---- whole types

pub whole-of : (n : ℕ) (x : Ty) (h : ℕ) → Stands n 0 x h → Again n 0 (ty_text x) x h
whole-of n x h s = by s
  where
    made_whole : (m : ℕ) → m ≤ n → Own m x h → Again n 0 (ty_text x) x h
    made_whole m le o = record {
      pieces = o.pieces;
      spelled = o.spelled;
      item = o.item;
      reads = λ l g at j.
          let r = o.reads l (omega (arith, le, g)) at j in
          record { tree = r.tree; same = r.same; reads = lift (shown_ty x).level 0 l (tokens_from at o.pieces ++ j) (Low r.tree h) j (omega arith) r.reads };
    }

    by : Stands n 0 x h → Again n 0 (ty_text x) x h
    by (inl s) = made_whole n (omega arith) s.1
    by (inr s) = made_whole s.0 (omega (arith, s.1)) s.2

-- ---- a type, a space and a name

pub name_behind : List ℕ → List Piece
name_behind name = gap ∷ name_piece name ∷ []

name_behind-segment : (name : List ℕ) → IsName name → Segment (After false) (name_behind name) (After false)
unfolding name_behind
name_behind-segment name v = record {
  linked = λ m q. (after-item false m 32 q (is_part-ascii 32 (omega arith)) (λ b. refl), (name-item name v).segment.linked class.Blank (before-blank, λ b. absurd (true≢false (sym b))));
  last = λ m q. tt;
}

name_behind-text : (name : List ℕ) → IsName name → text_of (name_behind name) ≡ codes " " ++ name
unfolding name_behind encode
name_behind-text name v = ap (λ (l : List ℕ). 32 ∷ l) (name-text name v)

-- pieces of a type with a name behind it
unfoldable pub typed_pieces : List Piece → List ℕ → List Piece
typed_pieces ps name = ps ++ name_behind name

pub typed-item : (ps : List Piece) (name : List ℕ) → IsName name → Item false false ps → Item false false (typed_pieces ps name)
unfolding typed_pieces name_behind
typed-item ps name v h = record {
  segment = joined ps (name_behind name) h.segment (name_behind-segment name v);
  leads = leads-append ps (name_behind name) h.leads;
  closed = closed-append ps (name_behind name) h.closed (record { closed = λ d. refl });
}

pub typed-text : (ps : List Piece) (name : List ℕ) (x : Ty) → IsName name → text_of ps ≡ ty_text x → text_of (typed_pieces ps name) ≡ typed (shown_ty x) name
unfolding typed_pieces
typed-text ps name x v e = text-both ps (name_behind name) (ty_text x) (codes " " ++ name) e (name_behind-text name v)

pub typed-tokens : (at : ℕ) (ps : List Piece) (name : List ℕ) (j : List Token) → tokens_from at (typed_pieces ps name) ++ j ≡ tokens_from at ps ++ token (k.Name name) ((at + size (letters ps)) + 1) ∷ j
unfolding typed_pieces name_behind
typed-tokens at ps name j = tokens-behind at ps (name_behind name) j

-- ---- fields

abbrev pub field_text : List ℕ × Ty → List ℕ
field_text f = typed (shown_ty f.1) f.0

abbrev pub view_field : List ℕ × Ty → List ℕ × View
view_field f = (f.0, view f.1)

abbrev pub one_field : ℕ → Fields → R Fields
one_field n fs = Field n (Tight n) fs

abbrev pub IsFields : ℕ → Fields → Type 0
IsFields n fs = commas.IsRow field_text view_field one_field n fs

field-one : (n : ℕ) (name : List ℕ) (x : Ty) (h : ℕ) → IsName name → Again n 0 (ty_text x) x h → commas.One field_text view_field one_field n (name, x) h
field-one n name x h v a = record {
  pieces = typed_pieces a.pieces name;
  spelled = typed-text a.pieces name x v a.spelled;
  item = item-any false false (typed_pieces a.pieces name) (typed-item a.pieces name v a.item);
  reads = λ m g at j xs l.
      let here = (at + size (letters a.pieces)) + 1 in
      let r = a.reads m g at (token (k.Name name) here ∷ j) in
      let whole : (Field m (Tight m) (Low xs l)).reads (tokens_from at a.pieces ++ token (k.Name name) here ∷ j) (Low (xs ++ (name, r.tree) ∷ []) (max l h)) j =
      (Low r.tree h, token (k.Name name) here ∷ j, r.reads, ((here, name), j, name-reads name here j, (refl, refl))) in
      ((name, r.tree), ap (λ (y : View). (name, y)) r.same, subst (λ i. (Field m (Tight m) (Low xs l)).reads i (Low (xs ++ (name, r.tree) ∷ []) (max l h)) j) (sym (typed-tokens at a.pieces name j)) whole);
}

abbrev AreFields : ℕ → Fields → Type 0
AreFields n fs = commas.IsFull field_text view_field one_field n fs

fields-pushed : (n : ℕ) (fs : Fields) (name : List ℕ) (x : T) → IsFields n fs → IsName name → IsPart n 0 x → AreFields n (pushed fs (named name x))
fields-pushed n fs name x r v p = commas.row-pushed field_text view_field one_field n fs (named name x) r
    (λ f h e.
    let m = made-low (λ (y : Ty). (name, y)) x f h e in
    subst (λ (g : List ℕ × Ty). commas.One field_text view_field one_field n g h) (sym m.value) (field-one n name m.of h v (whole-of n m.of h (p.low m.of h m.is))))

shown_fields-map : (fs : List (List ℕ × Ty)) → field_texts (map (λ (f : List ℕ × Ty). (f.0, shown_ty f.1)) fs) ≡ map field_text fs
shown_fields-map [] = refl
shown_fields-map (f ∷ fs) = ap (λ (l : List (List ℕ)). field_text f ∷ l) (shown_fields-map fs)

record_shown : List (List ℕ × Ty) → ShownTy
record_shown fs = record { text = codes "{" ++ (listed (map field_text fs) ++ codes "}"); level = 3 }

shown_record_of : (x : Ty) (fs : List (List ℕ × Ty)) → x.kind ≡ ty.Record fs
    → shown_ty x ≡ record { text = codes "{" ++ (listed (field_texts (map (λ (f : List ℕ × Ty). (f.0, shown_ty f.1)) fs)) ++ codes "}"); level = 3 }
shown_record_of x fs e = search (rules, the_lemmas)

shown_record : (x : Ty) (fs : List (List ℕ × Ty)) → x.kind ≡ ty.Record fs → shown_ty x ≡ record_shown fs
unfolding record_shown
shown_record x fs e = shown_record_of x fs e ∙ ap (λ (l : List (List ℕ)). record { text = codes "{" ++ (listed l ++ codes "}"); level = 3 }) (shown_fields-map fs)

bare_record : (x : Ty) (fs : List (List ℕ × Ty)) → x.kind ≡ ty.Record fs → bare_ty x ≡ tree.RecordTy 0 (tree.field_tys_of (map (λ (f : List ℕ × Ty). (f.0, bare_ty f.1)) fs))
bare_record x fs e = search (rules, the_lemmas)

-- fields with what is seen of their types
abbrev record_view : List (List ℕ × View) → View
record_view fs =
    (tree.RecordTy 0 (tree.field_tys_of (map (λ (f : List ℕ × View). (f.0, f.1.0)) fs)), record { text = codes "{" ++ (listed (map (λ (f : List ℕ × View). typed f.1.1 f.0) fs) ++ codes "}"); level = 3 })

view_record : (x : Ty) (fs : List (List ℕ × Ty)) → x.kind ≡ ty.Record fs → view x ≡ record_view (map view_field fs)
unfolding record_shown
view_record x fs e = viewed x _ _
    (bare_record x fs e ∙ ap (λ (l : List (List ℕ × tree.Ty)). tree.RecordTy 0 (tree.field_tys_of l)) (sym (map-map view_field (λ (f : List ℕ × View). (f.0, f.1.0)) fs)))
    (shown_record x fs e ∙ ap (λ (l : List (List ℕ)). record { text = codes "{" ++ (listed l ++ codes "}"); level = 3 }) (sym (map-map view_field (λ (f : List ℕ × View). typed f.1.1 f.0) fs)))

-- fields that are read again, or none
record AllFields (n : ℕ) (fs : List (List ℕ × Ty)) (h : ℕ) : Type 0 where
  pub pieces : List Piece
  pub spelled : text_of pieces ≡ listed (map field_text fs)
  pub inside_is : IsInside pieces
  pub reads : (m : ℕ) → n ≤ m → (at : ℕ) (j : List Token) → (gs : List (List ℕ × Ty)) × (map view_field gs ≡ map view_field fs) × (FieldList m (Tight m)).reads (tokens_from at pieces ++ j) (Low gs h) j

all_fields : (n : ℕ) (fs : List (List ℕ × Ty)) (h : ℕ) → ((fs ≡ []) × (h ≡ 0)) ⊎ commas.All field_text view_field one_field n fs h → AllFields n fs h
all_fields n fs h (inl e) =
    subst (λ (gs : List (List ℕ × Ty)). AllFields n gs h) (sym e.0) (subst (λ l. AllFields n [] l) (sym e.1)
    (record { pieces = []; spelled = refl; inside_is = inside-none; reads = λ m g at j. ([], refl, inr (refl, refl)) }))
all_fields n fs h (inr a) = record {
  pieces = a.pieces;
  spelled = a.spelled;
  inside_is = inside-item a.pieces a.item;
  reads = λ m g at j. let r = a.reads m g at j in (r.0, r.1, inl r.2);
}

record-again : (n : ℕ) (x : Ty) (fs : List (List ℕ × Ty)) (h : ℕ) → x.kind ≡ ty.Record fs → nat_lt h highest ≡ true → 1 ≤ n → AllFields n fs h → Again (suc n) 3 (codes "{" ++ (listed (map field_text fs) ++ codes "}")) x (h + 1)
unfolding Tight
record-again n x fs h is fits deep a = record {
  pieces = enclosed k.OpenBrace 123 k.CloseBrace 125 a.pieces;
  spelled = enclosed-text k.OpenBrace 123 k.CloseBrace 125 a.pieces (listed (map field_text fs)) curly a.spelled;
  item = enclosed-item k.OpenBrace 123 k.CloseBrace 125 a.pieces curly a.inside_is;
  reads = reads;
}
  where
    reads : (m : ℕ) → suc n ≤ m → (at : ℕ) (j : List Token) → ReadsTo (Line 3 m) (tokens_from at (enclosed k.OpenBrace 123 k.CloseBrace 125 a.pieces) ++ j) x (h + 1) j
    reads zero g at j = absurd (omega (arith, g))
    reads (suc m) g at j =
        let here = at + size (123 ∷ []) in
        let there = here + size (letters a.pieces) in
        let inner : List Token = tokens_from here a.pieces ++ token k.CloseBrace there ∷ j in
        let r = a.reads m (omega (arith, g)) here (token k.CloseBrace there ∷ j) in
        let node : Ty = record { at = at; kind = ty.Record r.0 } in
        let tight : (Tight (suc m)).reads (token k.OpenBrace at ∷ inner) (Low node (h + 1)) j =
        inr (inr (inl (
          at,
          inner,
          mark-reads t.OPEN_BRACE k.OpenBrace at inner refl,
          (Low r.0 h, token k.CloseBrace there ∷ j, r.2, (there, j, inner-reads m t.CLOSE_BRACE k.CloseBrace there j (omega (arith, deep, g)) refl, (sym (ty_node-is at (ty.Record r.0) h fits), refl))),
        ))) in
        record {
          tree = node;
          same = view_record node r.0 refl ∙ (ap record_view r.1 ∙ sym (view_record x fs is));
          reads = subst (λ i. (Tight (suc m)).reads i (Low node (h + 1)) j) (sym (enclosed-tokens at k.OpenBrace 123 k.CloseBrace 125 a.pieces j)) tight;
        }

record-part : (n at : ℕ) (fs : Fields) → 1 ≤ n → IsFields n fs → IsPart (suc n) 3 (record_ty at fs)
unfolding record_shown
record-part n at fs deep r = record {
  low = λ y h e.
      let o = ty_node-low at (made ty.Record fs) y h e in
      let m = made-low ty.Record fs o.of o.below o.is in
      let is : y.kind ≡ ty.Record m.of = o.kind_is ∙ m.value in
      subst (λ l. Stands (suc n) 3 y l) (sym o.height_is)
      (stands-as (suc n) 3 y (o.below + 1) (record_shown m.of) (shown_record y m.of is) (omega arith)
      (record-again n y m.of o.below is o.fits deep (all_fields n m.of o.below (r.low m.of o.below m.is))));
}

-- ---- what the rules of types give

module _ (n : ℕ) (V : R T) (tight : Gives V (IsPart n 3)) where
  gives-brackets : (x : T) → IsPart n 2 x → Gives (Brackets n x) (IsPart n 2)
  gives-brackets x p = gives-then (gives-mark t.OPEN_BRACKET) (λ at h. gives-then (gives-inner (inside n) t.CLOSE_BRACKET) (λ r deep. gives-pure (array_ty at x) (IsPart n 2) (array-part n at x deep p)))

  pub gives-suffixes : (x : T) → IsPart n 2 x → Gives (Suffixes n x) (IsPart n 2)
  gives-suffixes x p = gives-loop gives-brackets x p

  pub gives-suffix : Gives (Suffix n V) (IsPart n 2)
  gives-suffix = gives-then tight (λ x p. gives-suffixes x (part-less n 3 2 x (omega arith) p))

  gives-and_suffix : (x : T) → IsPart n 1 x → Gives (AndSuffix n V x) (IsPart n 1)
  gives-and_suffix x p = gives-then (gives-mark t.AMPERSAND) (λ at h. gives-then gives-suffix (λ z q. gives-pure (inter_ty at x z) (IsPart n 1) (inter-part n at x z p q)))

  pub gives-inters : (x : T) → IsPart n 1 x → Gives (Inters n V x) (IsPart n 1)
  gives-inters x p = gives-loop gives-and_suffix x p

  pub gives-inter : Gives (Inter n V) (IsPart n 1)
  gives-inter = gives-then gives-suffix (λ x p. gives-inters x (part-less n 2 1 x (omega arith) p))

  gives-or_inter : (x : T) → IsPart n 0 x → Gives (OrInter n V x) (IsPart n 0)
  gives-or_inter x p = gives-then (gives-mark t.BAR) (λ at h. gives-then gives-inter (λ z q. gives-pure (union_ty at x z) (IsPart n 0) (union-part n at x z p q)))

  pub gives-unions : (x : T) → IsPart n 0 x → Gives (Unions n V x) (IsPart n 0)
  gives-unions x p = gives-loop gives-or_inter x p

  pub gives-union : Gives (Union n V) (IsPart n 0)
  gives-union = gives-then gives-inter (λ x p. gives-unions x (part-less n 1 0 x (omega arith) p))

  gives-field : (fs : Fields) → IsFields n fs → Gives (Field n V fs) (AreFields n)
  gives-field fs r = gives-then gives-union (λ x p. gives-then gives-name (λ w v. gives-pure (pushed fs (named w.1 x)) (AreFields n) (fields-pushed n fs w.1 x r v p)))

  gives-next_field : (fs : Fields) → AreFields n fs → Gives (NextField n V fs) (AreFields n)
  gives-next_field fs r = gives-then (gives-mark t.COMMA) (λ at h. gives-field fs (commas.row-full field_text view_field one_field n fs r))

  gives-field_list : Gives (FieldList n V) (IsFields n)
  gives-field_list =
      gives-or (gives-less (λ fs r. commas.row-full field_text view_field one_field n fs r) (gives-then (gives-field none (commas.row-none field_text view_field one_field n)) (λ fs r. gives-loop gives-next_field fs r)))
      (gives-pure none (IsFields n) (commas.row-none field_text view_field one_field n))

  gives-base : Gives Base (IsPart (suc n) 3)
  gives-base = gives-then (gives-one (has kinds.BaseType)) (λ s h. gives-pure (ty_node s.at (Low (base_kind s.kind) 0)) (IsPart (suc n) 3) (base-kinds n s.at s.kind h.0))

  gives-tight_of : Gives (TightOf n V) (IsPart (suc n) 3)
  gives-tight_of =
      gives-or (gives-then (gives-mark t.NOT) (λ at h. gives-then tight (λ x p. gives-pure (not_ty at x) (IsPart (suc n) 3) (not-part n at x p))))
      (gives-or (gives-then (gives-mark t.OPEN_PAREN) (λ at h. gives-then gives-union (λ x p. gives-then (gives-mark t.CLOSE_PAREN) (λ r g. gives-pure x (IsPart (suc n) 3) (in-paren n x p)))))
      (gives-or (gives-then (gives-mark t.OPEN_BRACE) (λ at h. gives-then gives-field_list (λ fs r. gives-then (gives-inner n t.CLOSE_BRACE) (λ g deep. gives-pure (record_ty at fs) (IsPart (suc n) 3) (record-part n at fs deep r)))))
      (gives-or (gives-then gives-name (λ w v. gives-pure (named_ty w.0 w.1) (IsPart (suc n) 3) (named-part n w.0 w.1 v)))
      gives-base)))

pub gives-tight : (n : ℕ) → Gives (Tight n) (IsPart n 3)
unfolding Tight
gives-tight zero = gives-refused (IsPart 0 3) (has kinds.Type) Deep
gives-tight (suc n) = gives-tight_of n (Tight n) (gives-tight n)

pub gives-type : (n : ℕ) → Gives (Type_ n) (IsPart n 0)
unfolding Type_
gives-type n = gives-union n (Tight n) (gives-tight n)

-- what goes on with a type that begins so
pub gives-type_rest : (n : ℕ) (x : T) → IsPart n 2 x → Gives (TypeRest n x) (IsPart n 0)
unfolding TypeRest
gives-type_rest n x p =
    gives-then (gives-suffixes n (Tight n) (gives-tight n) x p) (λ y q. gives-then (gives-inters n (Tight n) (gives-tight n) y (part-less n 2 1 y (omega arith) q)) (λ z r. gives-unions n (Tight n) (gives-tight n) z (part-less n 1 0 z (omega arith) r)))

pub gives-type_tail : (n : ℕ) (x : T) → IsPart n 1 x → Gives (TypeTail n x) (IsPart n 0)
unfolding TypeTail
gives-type_tail n x p =
    gives-then (gives-inters n (Tight n) (gives-tight n) x p) (λ z r. gives-unions n (Tight n) (gives-tight n) z (part-less n 1 0 z (omega arith) r))
