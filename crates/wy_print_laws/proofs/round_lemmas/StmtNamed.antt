-- Declarations, calls and assignments: which rule reads them.
use Rattle.std.proofs.Common.{◌≡◌, ℕ, zero, suc, ◌+◌, ◌==◌, Bool, true, false, cond, true≢false, List, [], ◌∷◌, ◌++◌, codes, Option, Some, None, inl, inr, refl, sym, ap, ap₂, ◌∙◌, subst, arith, append_assoc, append-nil, eqb-true}
use lib.Utf8.{encode}
use Rattle.wy_data.specs.Words.{IsName}
use Rattle.wy_data.proofs.WordLemmas.{is_part-ascii}
use Rattle.wy_reading.specs.Rule.{among, Or, Unless, Turns}
use Rattle.wy_reading.specs.Rule.Turns.{stop, more}
use Rattle.wy_ast.specs.declared.types.Ty.{Ty}
use Rattle.wy_ast.specs.declared.expressions.Expr.{Expr}
use Rattle.wy_ast.specs.declared.statements.Stmt.{Stmt}
use Rattle.wy_ast.specs.declared.statements.StmtKind.TheVariants as stmt
use Rattle.wy_parse_front.specs.wy_lex.declared.token.Token.{Token}
use Rattle.wy_parse_front.specs.wy_lex.declared.token.TokenKind.{TokenKind}
use Rattle.wy_parse_front.specs.wy_lex.declared.token.TokenKind.TheVariants as k
use Rattle.wy_parse_front.specs.wy_lex.declared.symbol.Character.TheVariants as class
use Rattle.wy_parse_front.specs.wy_lex.Kinds.{continues}
use Rattle.wy_parse_front.specs.wy_lex.Layout.{token}
use Rattle.wy_print.specs.TypeText.{shown_ty, ty_text, typed}
use Rattle.wy_print.specs.ExprText.{shown, expr_text}
use Rattle.wy_parse_front.specs.wy_parse_grammar.declared.measured.Measured.TheVariants.{Low}
use Rattle.wy_parse_front.specs.wy_parse_grammar.declared.sort.Class.TheVariants as kinds
use Rattle.wy_parse_front.specs.wy_parse_grammar.Sorts as t
use Rattle.wy_parse_front.specs.wy_parse_grammar.Sorts.{is, has, sort}
use Rattle.wy_parse_front.specs.wy_parse_grammar.Steps.{R, Mark, Name, name_of}
use Rattle.wy_parse_front.specs.wy_parse_grammar.Trees.{made, some, both, named_ty, array_ty}
use Rattle.wy_parse_front.specs.wy_parse_grammar.TypeGrammar.{T, Brackets, Inters, Tight, Type_, TypeRest, TypeTail}
use Rattle.wy_parse_front.specs.wy_parse_grammar.ExprGrammar.{E, Expr_}
use Rattle.wy_parse_front.specs.wy_parse.StmtTrees as trees
use Rattle.wy_parse_front.specs.wy_parse.StmtTrees.{S}
use Rattle.wy_parse_front.specs.wy_parse.StmtGrammar as grammar
use Rattle.wy_print_laws.proofs.round_lemmas.Pieces.{Piece, letters, size, tokens_from, IsMark}
use Rattle.wy_print_laws.proofs.round_lemmas.Pieces.Piece.{gap, mark}
use Rattle.wy_print_laws.proofs.round_lemmas.Marks.{single-mark}
use Rattle.wy_print_laws.proofs.round_lemmas.Segments.{text_of, text-both, Segment, joined, closed-append, Before, After, after-item, before-blank, Leads, leads-append, Item}
use Rattle.wy_print_laws.proofs.round_lemmas.Heights.{made-low, both-low, same_part}
use Rattle.wy_print_laws.proofs.round_lemmas.Gives.{Gives, gives-pure, gives-then, gives-or, gives-mark, gives-name}
use Rattle.wy_print_laws.proofs.round_lemmas.Commas.{mark-reads, tokens-behind, item-any}
use Rattle.wy_print_laws.proofs.round_lemmas.Enclosed.{name-reads}
use Rattle.wy_print_laws.proofs.round_lemmas.TypeRound as types
use Rattle.wy_print_laws.proofs.round_lemmas.TypeRound.{typed_pieces, typed-item, typed-text, typed-tokens}
use Rattle.wy_print_laws.proofs.round_lemmas.ExprShown as exprs
use Rattle.wy_print_laws.proofs.round_lemmas.ExprLines.{Again, IsPart, From, whole-of}
use Rattle.wy_print_laws.proofs.round_lemmas.Lines.{continues_first}
use Rattle.wy_print_laws.proofs.round_lemmas.StmtShown.{View, declare_none_view, view_declare_none, declare_view, view_declare}
use Rattle.wy_print_laws.proofs.round_lemmas.StmtOne.{LineAgain, line-again, IsStmt, stmt_node-low}

-- ---- what a type begins with

abbrev pub first_token : Token → List Token → Token
first_token s [] = s
first_token s (u ∷ i) = u

pub same_first : (s u : Token) (i j : List Token) → s ∷ i ≡ u ∷ j → u ≡ s
same_first s u i j e = ap (first_token s) (sym e)

abbrev pub rest_of : List Token → List Token
rest_of [] = []
rest_of (s ∷ i) = i

-- a token of one sort is read by the mark of that sort alone
pub marked-sort : (c : ℕ) (s : Token) (i : List Token) (at : ℕ) (j : List Token) → (Mark c).reads (s ∷ i) at j → (sort s.kind == c) ≡ true
marked-sort c s i at j r = ap (λ (u : Token). sort u.kind == c) (sym (same_first s r.0 i r.1 r.2.1)) ∙ r.2.0

-- the sorts with which a type begins
abbrev begins_type : List ℕ
begins_type = t.NOT ∷ t.OPEN_PAREN ∷ t.OPEN_BRACE ∷ t.NAME ∷ t.members kinds.BaseType

is_first : (c d : ℕ) (cs : List ℕ) → (d == c) ≡ true → among (c ∷ cs) d ≡ true
is_first c d cs h = rw h refl

is_later : (c d : ℕ) (cs : List ℕ) → among cs d ≡ true → among (c ∷ cs) d ≡ true
is_later c d cs h = by (d == c)
  where
    by : (b : Bool) → cond b true (among cs d) ≡ true
    by true = refl
    by false = h

abbrev behind_brace : List ℕ
behind_brace = t.NAME ∷ t.members kinds.BaseType

abbrev behind_paren : List ℕ
behind_paren = t.OPEN_BRACE ∷ behind_brace

abbrev behind_not : List ℕ
behind_not = t.OPEN_PAREN ∷ behind_paren

tight-begins : (n : ℕ) (s : Token) (i : List Token) (v : T) (j : List Token) → (Tight n).reads (s ∷ i) v j → among begins_type (sort s.kind) ≡ true
unfolding Tight
tight-begins zero s i v j r = absurd r
tight-begins (suc n) s i v j (inl r) = is_first t.NOT (sort s.kind) behind_not (marked-sort t.NOT s i r.0 r.1 r.2)
tight-begins (suc n) s i v j (inr (inl r)) = is_later t.NOT (sort s.kind) behind_not (is_first t.OPEN_PAREN (sort s.kind) behind_paren (marked-sort t.OPEN_PAREN s i r.0 r.1 r.2))
tight-begins (suc n) s i v j (inr (inr (inl r))) =
    is_later t.NOT (sort s.kind) behind_not (is_later t.OPEN_PAREN (sort s.kind) behind_paren (is_first t.OPEN_BRACE (sort s.kind) behind_brace (marked-sort t.OPEN_BRACE s i r.0 r.1 r.2)))
tight-begins (suc n) s i v j (inr (inr (inr (inl r)))) =
    is_later t.NOT (sort s.kind) behind_not (is_later t.OPEN_PAREN (sort s.kind) behind_paren (is_later t.OPEN_BRACE (sort s.kind) behind_brace (is_first t.NAME (sort s.kind) (t.members kinds.BaseType)
    (ap (λ (u : Token). sort u.kind == t.NAME) (sym (same_first s r.2.0 i r.2.1 r.2.2.1)) ∙ r.2.2.0))))
tight-begins (suc n) s i v j (inr (inr (inr (inr r)))) =
    is_later t.NOT (sort s.kind) behind_not (is_later t.OPEN_PAREN (sort s.kind) behind_paren (is_later t.OPEN_BRACE (sort s.kind) behind_brace (is_later t.NAME (sort s.kind) (t.members kinds.BaseType)
    (ap (λ (u : Token). among (t.members kinds.BaseType) (sort u.kind)) (sym (same_first s r.0 i r.1 r.2.1)) ∙ r.2.0))))

type-begins : (n : ℕ) (s : Token) (i : List Token) (v : T) (j : List Token) → (Type_ n).reads (s ∷ i) v j → among begins_type (sort s.kind) ≡ true
unfolding Type_
type-begins n s i v j r = tight-begins n s i r.2.2.0 r.2.2.1 r.2.2.2

-- it continues no line
begins-own : (kind : TokenKind) → among begins_type (sort kind) ≡ true → continues kind ≡ false
begins-own k.Requires h = absurd (true≢false (sym h))
begins-own k.Ensures h = absurd (true≢false (sym h))
begins-own k.Where h = absurd (true≢false (sym h))
begins-own _ h = refl

-- ---- a type that begins with a name

record NameTight (n at : ℕ) (kind : TokenKind) (i : List Token) (v : T) (j : List Token) : Type 0 where
  pub tree_is : v ≡ named_ty at (name_of kind)
  pub rest_is : i ≡ j

none_is : (c : ℕ) (s : Token) → (sort s.kind == t.NAME) ≡ true → (t.NAME == c) ≡ false → (sort s.kind == c) ≡ true → ⊥
none_is c s h g e = true≢false (sym e ∙ (ap (λ (d : ℕ). d == c) (eqb-true (sort s.kind) t.NAME h) ∙ g))

name-tight : (n at : ℕ) (kind : TokenKind) (i : List Token) (v : T) (j : List Token) → (sort kind == t.NAME) ≡ true → (Tight n).reads (token kind at ∷ i) v j → NameTight n at kind i v j
unfolding Tight
name-tight zero at kind i v j h r = absurd r
name-tight (suc n) at kind i v j h (inl r) = absurd (none_is t.NOT (token kind at) h refl (marked-sort t.NOT (token kind at) i r.0 r.1 r.2))
name-tight (suc n) at kind i v j h (inr (inl r)) = absurd (none_is t.OPEN_PAREN (token kind at) h refl (marked-sort t.OPEN_PAREN (token kind at) i r.0 r.1 r.2))
name-tight (suc n) at kind i v j h (inr (inr (inl r))) = absurd (none_is t.OPEN_BRACE (token kind at) h refl (marked-sort t.OPEN_BRACE (token kind at) i r.0 r.1 r.2))
name-tight (suc n) at kind i v j h (inr (inr (inr (inl r)))) =
    let word : r.0 ≡ (at, name_of kind) = r.2.3.0 ∙ ap (λ (u : Token). (u.at, name_of u.kind)) (same_first (token kind at) r.2.0 i r.2.1 r.2.2.1) in
    record { tree_is = r.3.0 ∙ ap (λ (w : ℕ × List ℕ). named_ty w.0 w.1) word; rest_is = ap rest_of r.2.2.1 ∙ (r.2.3.1 ∙ r.3.1) }
name-tight (suc n) at kind i v j h (inr (inr (inr (inr r)))) =
    absurd (true≢false (sym (ap (λ (u : Token). among (t.members kinds.BaseType) (sort u.kind)) (sym (same_first (token kind at) r.0 i r.1 r.2.1)) ∙ r.2.0) ∙ ap (among (t.members kinds.BaseType)) (eqb-true (sort kind) t.NAME h)))

-- a declaration by either rule: one whose type begins with a name, or another
abbrev pub Declares : ℕ → R S
Declares n = Or (grammar.NamedStmt true n) (Unless (is t.NAME) (grammar.DeclareStmt true n))

named-route : (n at : ℕ) (kind : TokenKind) (i : List Token) (y : T) (j : List Token) (st : S) (l : List Token) → (sort kind == t.NAME) ≡ true
    → (Type_ n).reads (token kind at ∷ i) y j → (grammar.Declared true n at y).reads j st l → (grammar.NamedStmt true n).reads (token kind at ∷ i) st l
unfolding Type_ TypeRest TypeTail grammar.NamedStmt grammar.BracketStmt
named-route n at kind i y j st l h r d =
    let head = name-tight n at kind i r.2.2.0 r.2.2.1 h r.2.2.2 in
    by r.2.2.0 r.2.2.1 head.tree_is head.rest_is r.2.2.3
  where
    name_is : Name.reads (token kind at ∷ i) (at, name_of kind) i
    name_is = (token kind at, i, (h, refl), (refl, refl))

    by : (v : T) (m : List Token) → v ≡ named_ty at (name_of kind) → i ≡ m → Turns (Brackets n) v m r.2.0 r.2.1 → (grammar.NamedStmt true n).reads (token kind at ∷ i) st l
    by v m ve me (stop a b) =
        let inters : (Inters n (Tight n) (named_ty at (name_of kind))).reads i r.0 r.1 =
        subst (λ (x : T). (Inters n (Tight n) x).reads i r.0 r.1) (a ∙ ve) (subst (λ (z : List Token). (Inters n (Tight n) r.2.0).reads z r.0 r.1) (sym (me ∙ b)) r.2.3) in
        ((at, name_of kind), i, name_is, inr (inr (inl (y, j, (r.0, r.1, inters, r.3), d))))
    by v m ve me (more b o turn rest) =
        let here : (Mark t.OPEN_BRACKET).reads i turn.0 turn.1 = subst (λ (z : List Token). (Mark t.OPEN_BRACKET).reads z turn.0 turn.1) (sym me) turn.2 in
        let array : b ≡ array_ty turn.0 (named_ty at (name_of kind)) = turn.3.3.0 ∙ ap (array_ty turn.0) ve in
        let turns : Turns (Brackets n) (array_ty turn.0 (named_ty at (name_of kind))) turn.3.1 r.2.0 r.2.1 =
        subst (λ (x : T). Turns (Brackets n) x turn.3.1 r.2.0 r.2.1) array (subst (λ (z : List Token). Turns (Brackets n) b z r.2.0 r.2.1) (sym turn.3.3.1) rest) in
        ((at, name_of kind), i, name_is, inr (inl (turn.0, turn.1, here, inl (turn.3.0, turn.3.1, turn.3.2, (y, j, (r.2.0, r.2.1, turns, (r.0, r.1, r.2.3, r.3)), d)))))

declares : (n at : ℕ) (kind : TokenKind) (i : List Token) (y : T) (j : List Token) (st : S) (l : List Token)
    → (Type_ n).reads (token kind at ∷ i) y j → (grammar.Declared true n at y).reads j st l → (Declares n).reads (token kind at ∷ i) st l
unfolding grammar.DeclareStmt
declares n at kind i y j st l r d = by (sort kind == t.NAME) refl
  where
    by : (b : Bool) → (sort kind == t.NAME) ≡ b → (Declares n).reads (token kind at ∷ i) st l
    by true e = inl (named-route n at kind i y j st l e r d)
    by false e = inr (e, ((at, y), j, (refl, r), d))

-- of pieces that begin with a token
pub declares-pieces : (n at : ℕ) (ps : List Piece) (i : List Token) (y : T) (j : List Token) (st : S) (l : List Token) → Leads ps
    → (Type_ n).reads (tokens_from at ps ++ i) y j → (grammar.Declared true n at y).reads j st l → (Declares n).reads (tokens_from at ps ++ i) st l
declares-pieces n at [] i y j st l h r d = absurd h
declares-pieces n at (gap ∷ ps) i y j st l h r d = absurd h
declares-pieces n at (mark kind cs m ∷ ps) i y j st l h r d = declares n at kind (tokens_from (at + size cs) ps ++ i) y j st l r d

-- they continue no line
pub own-pieces : (n at : ℕ) (ps qs : List Piece) (i : List Token) (y : T) (j : List Token) → Leads ps → (Type_ n).reads (tokens_from at ps ++ i) y j → continues_first (ps ++ qs) ≡ false
own-pieces n at [] qs i y j h r = absurd h
own-pieces n at (gap ∷ ps) qs i y j h r = absurd h
own-pieces n at (mark kind cs m ∷ ps) qs i y j h r = begins-own kind (type-begins n (token kind at) (tokens_from (at + size cs) ps ++ i) y j r)

-- ---- values

pub assign-mark : IsMark k.Assign (61 ∷ []) (class.Is 61)
assign-mark = single-mark 61 refl refl

abbrev pub assign_pieces : List Piece
assign_pieces = gap ∷ mark k.Assign (61 ∷ []) (class.Is 61) ∷ gap ∷ []

pub assign-text : text_of assign_pieces ≡ codes " = "
unfolding encode
assign-text = refl

pub assign-segment : Segment (After true) assign_pieces (Before true)
assign-segment = record { linked = λ m q. (after-item true m 32 q (is_part-ascii 32 (omega arith)) (λ x. refl), (refl, assign-mark, (refl, tt))); last = λ m q. (before-blank, λ x. refl) }

pub item-assign : (ps qs : List Piece) → Item true true ps → Item true true qs → Item true true (ps ++ (assign_pieces ++ qs))
item-assign ps qs h g = record {
  segment = joined ps (assign_pieces ++ qs) h.segment (joined assign_pieces qs assign-segment g.segment);
  leads = leads-append ps (assign_pieces ++ qs) h.leads;
  closed = closed-append ps (assign_pieces ++ qs) h.closed (closed-append assign_pieces qs (record { closed = λ d. refl }) g.closed);
}

-- ---- declarations

declare_none-again : (n : ℕ) (s : Stmt) (ty : Ty) (name : List ℕ) (h : ℕ) → s.kind ≡ stmt.Declare ty name None → IsName name → types.Again n 0 (ty_text ty) ty h → LineAgain (Declares n) s (typed (shown_ty ty) name ++ [])
unfolding Type_ typed_pieces grammar.Declared
declare_none-again n s ty name h is v a = record {
  pieces = typed_pieces a.pieces name;
  spelled = typed-text a.pieces name ty v a.spelled ∙ sym (append-nil (typed (shown_ty ty) name));
  item = item-any false false (typed_pieces a.pieces name) (typed-item a.pieces name v a.item);
  own = own-pieces n 0 a.pieces _ [] (Low (a.reads n (omega arith) 0 []).tree h) [] a.item.leads (a.reads n (omega arith) 0 []).reads;
  reads = λ at end j.
      let there = (at + size (letters a.pieces)) + 1 in
      let name_token : List Token = token (k.Name name) there ∷ token k.LineEnd end ∷ j in
      let r = a.reads n (omega arith) at name_token in
      let node : Stmt = record { at = at; kind = stmt.Declare r.tree name None } in
      let rest : (grammar.Declared true n at (Low r.tree h)).reads name_token (Low node 0) j = declared_none at there end j r.tree in
      record {
        tree = node;
        same = view_declare_none node r.tree name refl ∙ (ap (λ (w : types.View). declare_none_view w name) r.same ∙ sym (view_declare_none s ty name is));
        reads = subst (λ (i : List Token). (Declares n).reads i (Low node 0) j) (sym (typed-tokens at a.pieces name (token k.LineEnd end ∷ j))) (declares-pieces n at a.pieces name_token (Low r.tree h) name_token (Low node 0) j a.item.leads r.reads rest);
      };
}
  where
    declared_none : (at there end : ℕ) (j : List Token) (tree : Ty) → (grammar.Declared true n at (Low tree h)).reads (token (k.Name name) there ∷ token k.LineEnd end ∷ j) (Low (record { at = at; kind = stmt.Declare tree name None }) 0) j
    declared_none at there end j tree = ((there, name), token k.LineEnd end ∷ j, name-reads name there (token k.LineEnd end ∷ j), inr (end, j, mark-reads t.LINE_END k.LineEnd end j refl, (refl, refl)))

declare-again : (n : ℕ) (s : Stmt) (ty : Ty) (name : List ℕ) (x : Expr) (h l : ℕ) → s.kind ≡ stmt.Declare ty name (Some x) → IsName name → types.Again n 0 (ty_text ty) ty h → Again n (λ m. Expr_ true m) (shown x) x l
    → LineAgain (Declares n) s (typed (shown_ty ty) name ++ (codes " = " ++ expr_text x))
unfolding Type_ typed_pieces grammar.Declared
declare-again n s ty name x h l is v a b = record {
  pieces = typed_pieces a.pieces name ++ (assign_pieces ++ b.pieces);
  spelled = text-both (typed_pieces a.pieces name) (assign_pieces ++ b.pieces) (typed (shown_ty ty) name) (codes " = " ++ expr_text x) (typed-text a.pieces name ty v a.spelled) (text-both assign_pieces b.pieces (codes " = ") (expr_text x) assign-text b.spelled);
  item = item-assign (typed_pieces a.pieces name) b.pieces (item-any false false (typed_pieces a.pieces name) (typed-item a.pieces name v a.item)) (item-any (shown x).begins (shown x).ends b.pieces b.item);
  own = ap continues_first (append_assoc a.pieces _ (assign_pieces ++ b.pieces)) ∙ own-pieces n 0 a.pieces _ [] (Low (a.reads n (omega arith) 0 []).tree h) [] a.item.leads (a.reads n (omega arith) 0 []).reads;
  reads = λ at end j.
      let there = (at + size (letters a.pieces)) + 1 in
      let sign = (at + size (letters (typed_pieces a.pieces name))) + 1 in
      let inner = (sign + size (61 ∷ [])) + 1 in
      let value : List Token = tokens_from inner b.pieces ++ token k.LineEnd end ∷ j in
      let name_token : List Token = token (k.Name name) there ∷ token k.Assign sign ∷ value in
      let r = a.reads n (omega arith) at name_token in
      let q = b.reads n (omega arith) inner (token k.LineEnd end ∷ j) in
      let node : Stmt = record { at = at; kind = stmt.Declare r.tree name (Some q.tree) } in
      let rest : (grammar.Declared true n at (Low r.tree h)).reads name_token (Low node 0) j = declared at there sign end value j r.tree q.tree q.reads in
      let text_is : tokens_from at (typed_pieces a.pieces name ++ (assign_pieces ++ b.pieces)) ++ token k.LineEnd end ∷ j ≡ tokens_from at a.pieces ++ name_token =
      tokens-behind at (typed_pieces a.pieces name) (assign_pieces ++ b.pieces) (token k.LineEnd end ∷ j) ∙ typed-tokens at a.pieces name (token k.Assign sign ∷ value) in
      record {
        tree = node;
        same = view_declare node r.tree name q.tree refl ∙ (ap₂ (λ (w : types.View) (u : exprs.View). declare_view w name u) r.same q.same ∙ sym (view_declare s ty name x is));
        reads = subst (λ (i : List Token). (Declares n).reads i (Low node 0) j) (sym text_is) (declares-pieces n at a.pieces name_token (Low r.tree h) name_token (Low node 0) j a.item.leads r.reads rest);
      };
}
  where
    declared : (at there sign end : ℕ) (value j : List Token) (tree : Ty) (given : Expr) → (Expr_ true n).reads value (Low given l) (token k.LineEnd end ∷ j)
        → (grammar.Declared true n at (Low tree h)).reads (token (k.Name name) there ∷ token k.Assign sign ∷ value) (Low (record { at = at; kind = stmt.Declare tree name (Some given) }) 0) j
    declared at there sign end value j tree given e = (
      (there, name),
      token k.Assign sign ∷ value,
      name-reads name there (token k.Assign sign ∷ value),
      inl (sign, value, mark-reads t.ASSIGN k.Assign sign value refl, (Low given l, token k.LineEnd end ∷ j, e, (end, j, mark-reads t.LINE_END k.LineEnd end j refl, (refl, refl)))),
    )

declare_none-part : (n at : ℕ) (y : T) (name : List ℕ) → IsName name → types.IsPart n 0 y → IsStmt (Declares n) (trees.declare_node at y name (Low None 0))
declare_none-part n at y name v p = record {
  low = λ s h e.
      let o = stmt_node-low at (made (λ (c : Ty × Option Expr). stmt.Declare c.0 name c.1) (both y (Low None 0))) s h e in
      let m = made-low (λ (c : Ty × Option Expr). stmt.Declare c.0 name c.1) (both y (Low None 0)) o.kind o.below o.is in
      let b = both-low y (Low None 0) m.of o.below m.is in
      let nothing : None ≡ b.second = same_part None b.second 0 b.second_height b.second_is in
      let is : s.kind ≡ stmt.Declare b.first name None = o.kind_is ∙ (m.value ∙ (ap (λ (c : Ty × Option Expr). stmt.Declare c.0 name c.1) b.value ∙ ap (λ (c : Option Expr). stmt.Declare b.first name c) (sym nothing))) in
      line-again (Declares n) s (typed (shown_ty b.first) name ++ []) (ap (λ (u : View). u.1) (view_declare_none s b.first name is)) (declare_none-again n s b.first name b.first_height is v (types.whole-of n b.first b.first_height (p.low b.first b.first_height b.first_is)));
}

declare-part : (n at : ℕ) (y : T) (name : List ℕ) (x : E) → IsName name → types.IsPart n 0 y → IsPart (From 0) n x → IsStmt (Declares n) (trees.declare_node at y name (some x))
declare-part n at y name x v p g = record {
  low = λ s h e.
      let o = stmt_node-low at (made (λ (c : Ty × Option Expr). stmt.Declare c.0 name c.1) (both y (some x))) s h e in
      let m = made-low (λ (c : Ty × Option Expr). stmt.Declare c.0 name c.1) (both y (some x)) o.kind o.below o.is in
      let b = both-low y (some x) m.of o.below m.is in
      let q = made-low Some x b.second b.second_height b.second_is in
      let is : s.kind ≡ stmt.Declare b.first name (Some q.of) = o.kind_is ∙ (m.value ∙ (ap (λ (c : Ty × Option Expr). stmt.Declare c.0 name c.1) b.value ∙ ap (λ (c : Option Expr). stmt.Declare b.first name c) q.value)) in
      line-again (Declares n) s (typed (shown_ty b.first) name ++ (codes " = " ++ expr_text q.of)) (ap (λ (u : View). u.1) (view_declare s b.first name q.of is))
      (declare-again n s b.first name q.of b.first_height b.second_height is v (types.whole-of n b.first b.first_height (p.low b.first b.first_height b.first_is)) (whole-of (From 0) n q.of b.second_height (g.low q.of b.second_height q.is)));
}

pub gives-declared : (n at : ℕ) (y : T) → Gives (Expr_ true n) (IsPart (From 0) n) → types.IsPart n 0 y → Gives (grammar.Declared true n at y) (IsStmt (Declares n))
unfolding grammar.Declared
gives-declared n at y expr p =
    gives-then gives-name (λ w v.
    gives-or (gives-then (gives-mark t.ASSIGN) (λ a h. gives-then expr (λ x g. gives-then (gives-mark t.LINE_END) (λ e f. gives-pure (trees.declare_node at y w.1 (some x)) (IsStmt (Declares n)) (declare-part n at y w.1 x v p g)))))
    (gives-then (gives-mark t.LINE_END) (λ e f. gives-pure (trees.declare_node at y w.1 (Low None 0)) (IsStmt (Declares n)) (declare_none-part n at y w.1 v p))))
