-- The lines of the grammar of expressions, by the levels of the printer; and expressions that are read again from their text.
use Rattle.std.proofs.Common.{◌≡◌, ℕ, zero, suc, ◌+◌, ◌≤◌, Bool, true, false, List, [], ◌∷◌, ◌++◌, ◌⊎◌, inl, inr, refl, sym, subst, arith}
use Rattle.wy_reading.specs.Rule.{Then, Or, Loop, Refused, Turns}
use Rattle.wy_reading.specs.Rule.Turns.{stop, more}
use Rattle.wy_ast.specs.declared.expressions.Expr.{Expr}
use Rattle.wy_ast.specs.declared.expressions.ExprKind.TheVariants as e
use Rattle.wy_parse_front.specs.wy_lex.declared.token.Token.{Token}
use Rattle.wy_parse_front.specs.wy_lex.declared.token.TokenKind.TheVariants as k
use Rattle.wy_parse_front.specs.wy_lex.Layout.{token}
use Rattle.wy_print.specs.ExprText.{Shown, bracketed, shown}
use Rattle.wy_parse_front.specs.wy_parse_grammar.declared.fault.Kind.TheVariants.{Deep}
use Rattle.wy_parse_front.specs.wy_parse_grammar.declared.measured.Measured.TheVariants.{Low}
use Rattle.wy_parse_front.specs.wy_parse_grammar.Sorts as t
use Rattle.wy_parse_front.specs.wy_parse_grammar.Steps.{R, Mark}
use Rattle.wy_parse_front.specs.wy_parse_grammar.Trees.{leaf}
use Rattle.wy_parse_front.specs.wy_parse_grammar.ExprGrammar.{E, Glued, Product, Sum, Comparison, Connected, Logic, Primary, Steps, level, Unary, Expr_}
use Rattle.wy_print_laws.proofs.round_lemmas.Pieces.{Piece, letters, size, tokens_from}
use Rattle.wy_print_laws.proofs.round_lemmas.Segments.{text_of, Item}
use Rattle.wy_print_laws.proofs.round_lemmas.Commas.{mark-reads, item-any}
use Rattle.wy_print_laws.proofs.round_lemmas.ExprShown.{view}
use Rattle.wy_print_laws.proofs.round_lemmas.Enclosed.{inside-item, parens, enclosed, enclosed-item, enclosed-text, enclosed-tokens}

-- ---- lines

-- comparisons with one operator between them, or one alone
abbrev pub ChainOf : ℕ → ℕ → R E
ChainOf c n = Then (Comparison n (Unary true n)) (λ a. Loop (Connected n (Unary true n) c) a)

-- what steps go on with: a primary, or a minus with the numeral that touches it
abbrev pub Postfix : ℕ → R E
Postfix zero = Refused (λ s. false) Deep
Postfix (suc d) =
    Or (Then (Primary d (Unary true d) (Expr_ true d)) (Steps d (Unary true d) (Expr_ true d)))
    (Then (Mark t.MINUS) (λ at. Then (Glued at) (λ n. Steps d (Unary true d) (Expr_ true d) (leaf at (e.Int n)))))

abbrev pub LogicIn : ℕ → R E
LogicIn n = Logic n (Unary true n) true

-- by the level: an implication, a chain of `||`, a chain of `&&`, a comparison, a sum, a product, a unary, a postfix
abbrev pub Line : ℕ → ℕ → R E
Line zero n = Expr_ true n
Line (suc zero) n = ChainOf t.OR n
Line (suc (suc zero)) n = ChainOf t.AND n
Line (suc (suc (suc zero))) n = Comparison n (Unary true n)
Line (suc (suc (suc (suc zero)))) n = Sum (Unary true n)
Line (suc (suc (suc (suc (suc zero))))) n = Product (Unary true n)
Line (suc (suc (suc (suc (suc (suc zero)))))) n = Unary true n
Line (suc (suc (suc (suc (suc (suc (suc k))))))) n = Postfix n

-- ---- from line to line

unary_postfix : (n : ℕ) (i : List Token) (x : E) (j : List Token) → (Postfix n).reads i x j → (Unary true n).reads i x j
unfolding Unary Expr_ level
unary_postfix zero i x j r = absurd r
unary_postfix (suc d) i x j (inl r) = inr (inr r)
unary_postfix (suc d) i x j (inr r) = inr (inl (r.0, r.1, r.2, inl r.3))

-- from a comparison on, what a line gives the line before it does
lift-one : (l n : ℕ) (i : List Token) (x : E) (j : List Token) → (Line (suc (suc (suc (suc l)))) n).reads i x j → (Line (suc (suc (suc l))) n).reads i x j
lift-one zero n i x j r = (x, j, r, inr (inr (refl, refl)))
lift-one (suc zero) n i x j r = (x, j, r, stop refl refl)
lift-one (suc (suc zero)) n i x j r = (x, j, r, stop refl refl)
lift-one (suc (suc (suc zero))) n i x j r = unary_postfix n i x j r
lift-one (suc (suc (suc (suc l)))) n i x j r = r

pub lift : (l line n : ℕ) (i : List Token) (x : E) (j : List Token) → line ≤ l → (Line (suc (suc (suc l))) n).reads i x j → (Line (suc (suc (suc line))) n).reads i x j
lift zero line n i x j le r = let same : zero ≡ line = omega (arith, le) in subst (λ m. (Line (suc (suc (suc m))) n).reads i x j) same r
lift (suc l) line n i x j le r = by (λ h. lift l line n i x j h (lift-one l n i x j r)) cases
  where
    cases : (line ≤ l) ⊎ (suc l ≡ line)
    cases = grind (arith, le)

    by : (line ≤ l → (Line (suc (suc (suc line))) n).reads i x j) → (line ≤ l) ⊎ (suc l ≡ line) → (Line (suc (suc (suc line))) n).reads i x j
    by ih (inl h) = ih h
    by ih (inr same) = subst (λ m. (Line (suc (suc (suc m))) n).reads i x j) same r

-- at a line from the comparison on
pub lifted : (level line n : ℕ) (i : List Token) (x : E) (j : List Token) → 3 ≤ line → line ≤ level → (Line level n).reads i x j → (Line line n).reads i x j
lifted zero line n i x j three le r = absurd (omega (arith, three, le))
lifted (suc zero) line n i x j three le r = absurd (omega (arith, three, le))
lifted (suc (suc zero)) line n i x j three le r = absurd (omega (arith, three, le))
lifted (suc (suc (suc l))) zero n i x j three le r = absurd (omega (arith, three))
lifted (suc (suc (suc l))) (suc zero) n i x j three le r = absurd (omega (arith, three))
lifted (suc (suc (suc l))) (suc (suc zero)) n i x j three le r = absurd (omega (arith, three))
lifted (suc (suc (suc l))) (suc (suc (suc m))) n i x j three le r = lift l m n i x j (omega (arith, le)) r

-- a comparison is a chain
pub to_chain : (c n : ℕ) (i : List Token) (x : E) (j : List Token) → (Line 3 n).reads i x j → (ChainOf c n).reads i x j
to_chain c n i x j r = (x, j, r, stop refl refl)

-- where a chain of `&&` may stand
pub to_and : (level n : ℕ) (i : List Token) (x : E) (j : List Token) → 2 ≤ level → (Line level n).reads i x j → (Line 2 n).reads i x j
to_and zero n i x j two r = absurd (omega (arith, two))
to_and (suc zero) n i x j two r = absurd (omega (arith, two))
to_and (suc (suc zero)) n i x j two r = r
to_and (suc (suc (suc l))) n i x j two r = to_chain t.AND n i x j (lift l 0 n i x j (omega arith) r)

-- where a chain of `||` may stand: everything but a chain of `&&`
pub to_or : (level n : ℕ) (i : List Token) (x : E) (j : List Token) → (level ≡ 1) ⊎ (3 ≤ level) → (Line level n).reads i x j → (Line 1 n).reads i x j
to_or zero n i x j h r = absurd (elim h [ inl a ↦ omega (arith, a) | inr a ↦ omega (arith, a) ])
to_or (suc zero) n i x j h r = r
to_or (suc (suc zero)) n i x j h r = absurd (elim h [ inl a ↦ omega (arith, a) | inr a ↦ omega (arith, a) ])
to_or (suc (suc (suc l))) n i x j h r = to_chain t.OR n i x j (lift l 0 n i x j (omega arith) r)

-- chains, and what may stand in them, are logic
and_logic : (n : ℕ) (i : List Token) (x : E) (j : List Token) → (ChainOf t.AND n).reads i x j → (LogicIn n).reads i x j
and_logic n i x j r = by r.0 r.1 r.2 r.3
  where
    by : (a : E) (m : List Token) → (Comparison n (Unary true n)).reads i a m → Turns (Connected n (Unary true n) t.AND) a m x j → (LogicIn n).reads i x j
    by a m c (stop same end) = (a, m, c, inr (inr (same, end)))
    by a m c (more b l turn rest) = (a, m, c, inl (x, j, (b, l, turn, rest), inr (refl, refl)))

or_logic : (n : ℕ) (i : List Token) (x : E) (j : List Token) → (ChainOf t.OR n).reads i x j → (LogicIn n).reads i x j
or_logic n i x j r = by r.0 r.1 r.2 r.3
  where
    by : (a : E) (m : List Token) → (Comparison n (Unary true n)).reads i a m → Turns (Connected n (Unary true n) t.OR) a m x j → (LogicIn n).reads i x j
    by a m c (stop same end) = (a, m, c, inr (inr (same, end)))
    by a m c (more b l turn rest) = (a, m, c, inr (inl (x, j, (b, l, turn, rest), inr (refl, refl))))

-- where logic may stand: everything but an implication
pub to_logic : (level n : ℕ) (i : List Token) (x : E) (j : List Token) → 1 ≤ level → (Line level n).reads i x j → (LogicIn n).reads i x j
to_logic zero n i x j one r = absurd (omega (arith, one))
to_logic (suc zero) n i x j one r = or_logic n i x j r
to_logic (suc (suc zero)) n i x j one r = and_logic n i x j r
to_logic (suc (suc (suc l))) n i x j one r = and_logic n i x j (to_chain t.AND n i x j (lift l 0 n i x j (omega arith) r))

logic_expr : (n : ℕ) (i : List Token) (x : E) (j : List Token) → (LogicIn n).reads i x j → (Expr_ true n).reads i x j
unfolding Unary Expr_ level
logic_expr zero i x j r = absurd (r.2.2.2.2)
logic_expr (suc d) i x j r = (x, j, r, inr (refl, refl))

-- where an expression may stand
pub to_expr : (level n : ℕ) (i : List Token) (x : E) (j : List Token) → (Line level n).reads i x j → (Expr_ true n).reads i x j
to_expr zero n i x j r = r
to_expr (suc l) n i x j r = logic_expr n i x j (to_logic (suc l) n i x j (omega arith) r)

-- ---- read again

-- a rule reads an expression that is the same but for its places, and is shown so too
pub record ReadsTo (rule : R E) (i : List Token) (x : Expr) (h : ℕ) (j : List Token) : Type 0 where
  pub tree : Expr
  pub same : view tree ≡ view x
  pub reads : rule.reads i (Low tree h) j

-- pieces that are what is shown are read as the expression, where there are n levels and where there are more
pub record Again (n : ℕ) (rule : ℕ → R E) (s : Shown) (x : Expr) (h : ℕ) : Type 0 where
  pub pieces : List Piece
  pub spelled : text_of pieces ≡ s.text
  pub item : Item s.begins s.ends pieces
  pub reads : (m : ℕ) → n ≤ m → (at : ℕ) (j : List Token) → ReadsTo (rule m) (tokens_from at pieces ++ j) x h j

-- by its own line
abbrev pub Own : ℕ → Expr → ℕ → Type 0
Own n x h = Again n (Line (shown x).level) (shown x) x h

pub own-on : (n m : ℕ) (x : Expr) (h : ℕ) → n ≤ m → Own n x h → Own m x h
own-on n m x h le o = record { pieces = o.pieces; spelled = o.spelled; item = o.item; reads = λ l g at j. o.reads l (omega (arith, le, g)) at j }

pub own-as : (n : ℕ) (x : Expr) (h : ℕ) (s : Shown) → shown x ≡ s → Again n (Line s.level) s x h → Own n x h
own-as n x h s e o = subst (λ (u : Shown). Again n (Line u.level) u x h) (sym e) o

-- what a wider rule reads too
pub again-by : (n : ℕ) (rule wide : ℕ → R E) (s : Shown) (x : Expr) (h : ℕ) → ((m : ℕ) (i : List Token) (y : E) (j : List Token) → (rule m).reads i y j → (wide m).reads i y j) → Again n rule s x h → Again n wide s x h
again-by n rule wide s x h f o = record {
  pieces = o.pieces;
  spelled = o.spelled;
  item = o.item;
  reads = λ m g at j. let r = o.reads m g at j in record { tree = r.tree; same = r.same; reads = f m (tokens_from at o.pieces ++ j) (Low r.tree h) j r.reads };
}

-- its level passes, or it has a level more inside, for brackets
abbrev pub StandsBy : (ℕ → Type 0) → ℕ → Expr → ℕ → Type 0
StandsBy P n x h = (P (shown x).level × Own n x h) ⊎ ((m : ℕ) × (n ≡ suc m) × Own m x h)

-- what was read, where it is low
pub record IsPart (P : ℕ → Type 0) (n : ℕ) (x : E) : Type 0 where
  pub low : (y : Expr) (h : ℕ) → x ≡ Low y h → StandsBy P n y h

pub part-by : (P Q : ℕ → Type 0) (n : ℕ) (x : E) → ((l : ℕ) → P l → Q l) → IsPart P n x → IsPart Q n x
part-by P Q n x f p = record { low = λ y h e. by y h (p.low y h e) }
  where
    by : (y : Expr) (h : ℕ) → StandsBy P n y h → StandsBy Q n y h
    by y h (inl s) = inl (f (shown y).level s.0, s.1)
    by y h (inr s) = inr s

-- levels from the one on, and those of the left side of `||`
abbrev pub From : ℕ → ℕ → Type 0
From line l = line ≤ l

abbrev pub LeftOfOr : ℕ → Type 0
LeftOfOr l = (l ≡ 1) ⊎ (3 ≤ l)

-- ---- brackets

-- in brackets, which take a level
in_brackets : (n : ℕ) (x : Expr) (h : ℕ) → Own n x h → Again (suc n) Postfix (bracketed true (shown x)) x h
in_brackets n x h o = record {
  pieces = enclosed k.OpenParen 40 k.CloseParen 41 o.pieces;
  spelled = enclosed-text k.OpenParen 40 k.CloseParen 41 o.pieces (shown x).text parens o.spelled;
  item = enclosed-item k.OpenParen 40 k.CloseParen 41 o.pieces parens (inside-item o.pieces (item-any (shown x).begins (shown x).ends o.pieces o.item));
  reads = reads;
}
  where
    reads : (m : ℕ) → suc n ≤ m → (at : ℕ) (j : List Token) → ReadsTo (Postfix m) (tokens_from at (enclosed k.OpenParen 40 k.CloseParen 41 o.pieces) ++ j) x h j
    reads zero g at j = absurd (omega (arith, g))
    reads (suc m) g at j =
        let here = at + size (40 ∷ []) in
        let there = here + size (letters o.pieces) in
        let inner : List Token = tokens_from here o.pieces ++ token k.CloseParen there ∷ j in
        let r = o.reads m (omega (arith, g)) here (token k.CloseParen there ∷ j) in
        let whole : (Expr_ true m).reads inner (Low r.tree h) (token k.CloseParen there ∷ j) = to_expr (shown x).level m inner (Low r.tree h) (token k.CloseParen there ∷ j) r.reads in
        let postfix : (Postfix (suc m)).reads (token k.OpenParen at ∷ inner) (Low r.tree h) j =
        inl (
          Low r.tree h,
          j,
          inr (inr (inl (at, inner, mark-reads t.OPEN_PAREN k.OpenParen at inner refl, (Low r.tree h, token k.CloseParen there ∷ j, whole, (there, j, mark-reads t.CLOSE_PAREN k.CloseParen there j refl, (refl, refl)))))),
          stop refl refl,
        ) in
        record { tree = r.tree; same = r.same; reads = subst (λ i. (Postfix (suc m)).reads i (Low r.tree h) j) (sym (enclosed-tokens at k.OpenParen 40 k.CloseParen 41 o.pieces j)) postfix }

-- where a rule reads it: in brackets where b says so
pub part-of : (P : ℕ → Type 0) (n : ℕ) (rule : ℕ → R E) (b : Bool) (x : Expr) (h : ℕ)
    → (P (shown x).level → b ≡ false)
    → (b ≡ false → (m : ℕ) (i : List Token) (y : E) (j : List Token) → (Line (shown x).level m).reads i y j → (rule m).reads i y j)
    → ((m : ℕ) (i : List Token) (y : E) (j : List Token) → (Postfix m).reads i y j → (rule m).reads i y j)
    → StandsBy P n x h → Again n rule (bracketed b (shown x)) x h
part-of P n rule b x h none plain postfix (inl s) = subst (λ c. Again n rule (bracketed c (shown x)) x h) (sym (none s.0)) (again-by n (Line (shown x).level) rule (shown x) x h (plain (none s.0)) s.1)
part-of P n rule b x h none plain postfix (inr s) = subst (λ l. Again l rule (bracketed b (shown x)) x h) (sym s.1) (by b refl)
  where
    by : (c : Bool) → b ≡ c → Again (suc s.0) rule (bracketed c (shown x)) x h
    by true e = again-by (suc s.0) Postfix rule (bracketed true (shown x)) x h postfix (in_brackets s.0 x h s.2)
    by false e = again-by (suc s.0) (Line (shown x).level) rule (shown x) x h (plain e) (own-on s.0 (suc s.0) x h (omega arith) s.2)

-- a whole expression
pub whole-of : (P : ℕ → Type 0) (n : ℕ) (x : Expr) (h : ℕ) → StandsBy P n x h → Again n (λ m. Expr_ true m) (shown x) x h
whole-of P n x h (inl s) = again-by n (Line (shown x).level) (λ m. Expr_ true m) (shown x) x h (λ m i y j r. to_expr (shown x).level m i y j r) s.1
whole-of P n x h (inr s) =
    again-by n (Line (shown x).level) (λ m. Expr_ true m) (shown x) x h (λ m i y j r. to_expr (shown x).level m i y j r) (own-on s.0 n x h (let e = s.1 in omega (arith, e)) s.2)

-- what is read in brackets
pub in-paren : (P Q : ℕ → Type 0) (n : ℕ) (x : E) → IsPart P n x → IsPart Q (suc n) x
in-paren P Q n x p = record { low = λ y h e. by y h (p.low y h e) }
  where
    by : (y : Expr) (h : ℕ) → StandsBy P n y h → StandsBy Q (suc n) y h
    by y h (inl s) = inr (n, refl, s.1)
    by y h (inr s) = inr (n, refl, subst (λ l. Own l y h) (sym s.1) (own-on s.0 (suc s.0) y h (omega arith) s.2))
