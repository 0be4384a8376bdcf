-- Parts of declarations that are read again: parameters, signatures, contracts, and heads that end with a line.
use Rattle.std.proofs.Common.{◌≡◌, ℕ, suc, ◌+◌, max, Bool, true, false, true≢false, List, [], ◌∷◌, ◌++◌, map, codes, ◌⊎◌, inl, inr, refl, sym, ap, ap₂, ◌∙◌, subst, arith, append-nil}
use Rattle.std.specs.Str.{chars}
use lib.Utf8.{encode}
use Rattle.wy_data.specs.Words.{IsName}
use Rattle.wy_data.proofs.WordLemmas.{is_part-ascii}
use Rattle.wy_reading.specs.Rule.{Pure, Then, Loop, Turns}
use Rattle.wy_reading.specs.Rule.Turns.{stop, more}
use Rattle.wy_ast.specs.declared.types.Ty.{Ty}
use Rattle.wy_ast.specs.declared.expressions.Expr.{Expr}
use Rattle.wy_ast.specs.declared.declarations.Param.{Param}
use Rattle.wy_parse_front.specs.wy_lex.declared.token.Token.{Token}
use Rattle.wy_parse_front.specs.wy_lex.declared.token.TokenKind.{TokenKind}
use Rattle.wy_parse_front.specs.wy_lex.declared.token.TokenKind.TheVariants as k
use Rattle.wy_parse_front.specs.wy_lex.declared.symbol.Character.TheVariants as class
use Rattle.wy_parse_front.specs.wy_lex.Kinds.{word_kind, continues}
use Rattle.wy_parse_front.specs.wy_lex.Layout.{token}
use Rattle.wy_print.specs.Pieces.{listed}
use Rattle.wy_print.specs.TypeText.{ty_text}
use Rattle.wy_print.specs.ExprText.{expr_texts}
use Rattle.wy_print.specs.ProgramText.{param_texts}
use Rattle.wy_parse_front.specs.wy_parse_grammar.declared.measured.Measured.TheVariants.{Low}
use Rattle.wy_parse_front.specs.wy_parse_grammar.Sorts as t
use Rattle.wy_parse_front.specs.wy_parse_grammar.Steps.{R, Name}
use Rattle.wy_parse_front.specs.wy_parse_grammar.Trees.{pushed, none}
use Rattle.wy_parse_front.specs.wy_parse_grammar.TypeGrammar.{T, Type_}
use Rattle.wy_parse_front.specs.wy_parse_grammar.ExprGrammar.{E, Args, Expr_}
use Rattle.wy_parse_front.specs.wy_parse.StmtGrammar as statements
use Rattle.wy_parse_front.specs.wy_parse.DeclTrees.{Params, Contract, param}
use Rattle.wy_parse_front.specs.wy_parse.ProgramGrammar.{ParamRow, Parameters, Clause, ContractOf}
use Rattle.wy_print_laws.proofs.round_lemmas.Pieces.{Piece, letters, size, tokens_from, colon_behind, IsMark}
use Rattle.wy_print_laws.proofs.round_lemmas.Pieces.Piece.{gap, mark}
use Rattle.wy_print_laws.proofs.round_lemmas.Marks.{lower-mark, double-mark}
use Rattle.wy_print_laws.proofs.round_lemmas.Segments.{text_of, text-both, joined, IsClosed, closed-append, begins_item, After, after-item, before-blank, leads-append, Item}
use Rattle.wy_print_laws.proofs.round_lemmas.Heights.{made-low, pushed-low, same_part, same_height}
use Rattle.wy_print_laws.proofs.round_lemmas.Gives.{Gives, gives-pure, gives-then, gives-or, gives-loop, gives-less, gives-mark, gives-name}
use Rattle.wy_print_laws.proofs.round_lemmas.Commas.{mark-reads, tokens-behind, item-any, map-append}
use Rattle.wy_print_laws.proofs.round_lemmas.Commas as commas
use Rattle.wy_print_laws.proofs.round_lemmas.Enclosed.{begins-letter, name_piece, name-item, name-text, name-reads, IsInside, inside-none, inside-item, parens, enclosed, enclosed-segment, enclosed-closed, enclosed-text, enclosed-tokens}
use Rattle.wy_print_laws.proofs.round_lemmas.TypeRound as types
use Rattle.wy_print_laws.proofs.round_lemmas.TypeRound.{typed_pieces, typed-item, typed-text, typed-tokens}
use Rattle.wy_print_laws.proofs.round_lemmas.ExprShown as exprs
use Rattle.wy_print_laws.proofs.round_lemmas.ExprLines.{IsPart, From, whole-of}
use Rattle.wy_print_laws.proofs.round_lemmas.Lines.{Line, next_at, Good, continues_first}
use Rattle.wy_print_laws.proofs.round_lemmas.LineRuns.{lines_text}
use Rattle.wy_print_laws.proofs.round_lemmas.StmtLines.{Follows, follows-good, opened, left, line-ends}
use Rattle.wy_print_laws.proofs.round_lemmas.StmtOne.{word_gap, word_gap-segment}
use Rattle.wy_print_laws.proofs.round_lemmas.StmtHeads.{head_first, head_rest, head-good, clause_bytes, head-text, following, AnExpr, exprs_of, heights, heights-last, AreExprs, exprs-none, exprs-pushed, Clauses as AreAllClauses, clauses-append, clauses-end, IsClauseWord, clauses_of, are-clauses, clauses-text, bytes-append, StepsBy, clauses-read}
use Rattle.wy_print_laws.proofs.round_lemmas.ProgramShown.{view_param, param_text, made_param, sign_text, contract_lines}

-- ---- parameters

abbrev pub one_param : ℕ → Params → R Params
one_param m ps = Then (Type_ m) (λ (ty : T). Then Name (λ (w : ℕ × List ℕ). Pure (pushed ps (param ty w.1))))

abbrev pub IsParams : ℕ → Params → Type 0
IsParams n ps = commas.IsRow param_text view_param one_param n ps

abbrev AreParams : ℕ → Params → Type 0
AreParams n ps = commas.IsFull param_text view_param one_param n ps

abbrev pub param_of : Ty → List ℕ → Param
param_of ty name = record { ty = ty; name = name }

param-one : (n : ℕ) (name : List ℕ) (x : Ty) (h : ℕ) → IsName name → types.Again n 0 (ty_text x) x h → commas.One param_text view_param one_param n (param_of x name) h
unfolding Type_
param-one n name x h v a = record {
  pieces = typed_pieces a.pieces name;
  spelled = typed-text a.pieces name x v a.spelled;
  item = item-any false false (typed_pieces a.pieces name) (typed-item a.pieces name v a.item);
  reads = λ m g at j xs l.
      let here = (at + size (letters a.pieces)) + 1 in
      let r = a.reads m g at (token (k.Name name) here ∷ j) in
      let whole : (one_param m (Low xs l)).reads (tokens_from at a.pieces ++ token (k.Name name) here ∷ j) (Low (xs ++ param_of r.tree name ∷ []) (max l h)) j =
      (Low r.tree h, token (k.Name name) here ∷ j, r.reads, ((here, name), j, name-reads name here j, (refl, refl))) in (
        param_of r.tree name,
        ap (λ (w : types.View). made_param w name) r.same,
        subst (λ (i : List Token). (one_param m (Low xs l)).reads i (Low (xs ++ param_of r.tree name ∷ []) (max l h)) j) (sym (typed-tokens at a.pieces name j)) whole,
      );
}

params-pushed : (n : ℕ) (ps : Params) (name : List ℕ) (x : T) → IsParams n ps → IsName name → types.IsPart n 0 x → AreParams n (pushed ps (param x name))
params-pushed n ps name x r v p = commas.row-pushed param_text view_param one_param n ps (param x name) r
    (λ f h e.
    let m = made-low (λ (y : Ty). param_of y name) x f h e in
    subst (λ (g : Param). commas.One param_text view_param one_param n g h) (sym m.value) (param-one n name m.of h v (types.whole-of n m.of h (p.low m.of h m.is))))

-- in brackets
pub record ParamsAgain (n : ℕ) (ps : List Param) (h : ℕ) : Type 0 where
  pub pieces : List Piece
  pub spelled : text_of pieces ≡ listed (param_texts ps)
  pub inside_is : IsInside pieces
  pub reads : (at : ℕ) (j : List Token) → (qs : List Param) × (map view_param qs ≡ map view_param ps) × (ParamRow (suc n)).reads (tokens_from at pieces ++ j) (Low qs h) j

pub params-again : (n : ℕ) (ps : List Param) (h : ℕ) → ((ps ≡ []) × (h ≡ 0)) ⊎ commas.All param_text view_param one_param n ps h → ParamsAgain n ps h
params-again n ps h (inl f) =
    subst (λ (qs : List Param). ParamsAgain n qs h) (sym f.0) (subst (λ (l : ℕ). ParamsAgain n [] l) (sym f.1)
    (record { pieces = []; spelled = refl; inside_is = inside-none; reads = λ at j. ([], refl, inr (refl, refl)) }))
params-again n ps h (inr a) = record {
  pieces = a.pieces;
  spelled = a.spelled;
  inside_is = inside-item a.pieces a.item;
  reads = λ at j. let r = a.reads n (omega arith) at j in (r.0, r.1, inl r.2);
}

pub gives-parameters : (n : ℕ) → Gives (Parameters (suc n)) (IsParams n)
unfolding Parameters
gives-parameters n =
    let one : (ps : Params) → IsParams n ps → Gives (one_param n ps) (AreParams n) =
    λ ps r. gives-then (types.gives-type n) (λ ty p. gives-then gives-name (λ w v. gives-pure (pushed ps (param ty w.1)) (AreParams n) (params-pushed n ps w.1 ty r v p))) in
    let full = λ (ps : Params) (r : AreParams n ps). commas.row-full param_text view_param one_param n ps r in
    gives-then (gives-mark t.OPEN_PAREN) (λ at h. gives-then
    (gives-or (gives-less full (gives-then (one none (commas.row-none param_text view_param one_param n)) (λ ps r. gives-loop (λ qs q. gives-then (gives-mark t.COMMA) (λ c g. one qs (full qs q))) ps r)))
    (gives-pure none (IsParams n) (commas.row-none param_text view_param one_param n)))
    (λ ps r. gives-then (gives-mark t.CLOSE_PAREN) (λ c g. gives-pure ps (IsParams n) r)))

-- ---- signatures

-- a word that begins a declaration
pub record IsDeclWord (kind : TokenKind) (c : ℕ) (w text : List ℕ) : Type 0 where
  pub written : IsMark kind (c ∷ w) class.Part
  pub begins : begins_item c ≡ true
  pub flat : IsClosed (word_gap kind (c ∷ w))
  pub own : continues kind ≡ false
  pub spelled : text_of (word_gap kind (c ∷ w)) ≡ text

pub record ReadsSign (n : ℕ) (kind : TokenKind) (name : List ℕ) (ps : List Param) (h : ℕ) (at : ℕ) (i j : List Token) : Type 0 where
  pub name_at : ℕ
  pub behind_name : List Token
  pub is : i ≡ token kind at ∷ token (k.Name name) name_at ∷ behind_name
  pub params : List Param
  pub same : map view_param params ≡ map view_param ps
  pub reads : (Parameters (suc n)).reads behind_name (Low params h) j

pub record SignAgain (n : ℕ) (kind : TokenKind) (text name : List ℕ) (ps : List Param) (h : ℕ) : Type 0 where
  pub pieces : List Piece
  pub spelled : text_of pieces ≡ sign_text text name (param_texts ps)
  pub item : Item true true pieces
  pub own : continues_first pieces ≡ false
  pub reads : (at : ℕ) (j : List Token) → ReadsSign n kind name ps h at (tokens_from at pieces ++ j) j

pub sign-again : (n : ℕ) (kind : TokenKind) (c : ℕ) (w text name : List ℕ) (ps : List Param) (h : ℕ) → IsDeclWord kind c w text → IsName name → ParamsAgain n ps h → SignAgain n kind text name ps h
unfolding Parameters
sign-again n kind c w text name ps h d v a =
    let bracket : List Piece = enclosed k.OpenParen 40 k.CloseParen 41 a.pieces in
    let behind_word : List Piece = name_piece name ∷ bracket in
    record {
      pieces = word_gap kind (c ∷ w) ++ behind_word;
      spelled = text-both (word_gap kind (c ∷ w)) behind_word text (name ++ (codes "(" ++ (listed (param_texts ps) ++ codes ")"))) d.spelled
          (text-both (name_piece name ∷ []) bracket name (codes "(" ++ (listed (param_texts ps) ++ codes ")")) (name-text name v) (enclosed-text k.OpenParen 40 k.CloseParen 41 a.pieces (listed (param_texts ps)) parens a.spelled));
      item = item-any true false (word_gap kind (c ∷ w) ++ behind_word) (record {
        segment = joined (word_gap kind (c ∷ w)) behind_word (word_gap-segment kind c w d.written d.begins)
            (joined (name_piece name ∷ []) bracket (item-any false false (name_piece name ∷ []) (name-item name v)).segment
            (enclosed-segment (After true) k.OpenParen 40 k.CloseParen 41 a.pieces parens (λ m q. after-item true m 40 q (is_part-ascii 40 (omega arith)) (λ y. refl)) a.inside_is));
        leads = tt;
        closed = closed-append (word_gap kind (c ∷ w)) behind_word d.flat (closed-append (name_piece name ∷ []) bracket (record { closed = λ x. refl }) (enclosed-closed k.OpenParen 40 k.CloseParen 41 a.pieces parens a.inside_is));
      });
      own = d.own;
      reads = λ at j.
          let name_at = (at + size (c ∷ w)) + 1 in
          let here = name_at + size (chars name) in
          let within = here + size (40 ∷ []) in
          let close = within + size (letters a.pieces) in
          let last : List Token = token k.CloseParen close ∷ j in
          let inner : List Token = tokens_from within a.pieces ++ last in
          let r = a.reads within last in
          record {
            name_at = name_at;
            behind_name = token k.OpenParen here ∷ inner;
            is = ap (λ (l : List Token). token kind at ∷ token (k.Name name) name_at ∷ l) (enclosed-tokens here k.OpenParen 40 k.CloseParen 41 a.pieces j);
            params = r.0;
            same = r.1;
            reads = (here, inner, mark-reads t.OPEN_PAREN k.OpenParen here inner refl, (Low r.0 h, last, r.2, (close, j, mark-reads t.CLOSE_PAREN k.CloseParen close j refl, (refl, refl))));
          };
    }

-- ---- arrows

pub arrow-mark : IsMark k.Arrow (45 ∷ 62 ∷ []) class.Nothing
arrow-mark = double-mark 45 62 refl refl refl refl

abbrev pub arrow_pieces : List Piece
arrow_pieces = gap ∷ mark k.Arrow (45 ∷ 62 ∷ []) class.Nothing ∷ gap ∷ []

pub arrow-text : text_of arrow_pieces ≡ codes " -> "
unfolding encode
arrow-text = refl

pub item-arrow : (ps qs : List Piece) → Item true true ps → Item true true qs → Item true true (ps ++ (arrow_pieces ++ qs))
item-arrow ps qs h g = record {
  segment = joined ps (arrow_pieces ++ qs) h.segment
      (joined arrow_pieces qs (record { linked = λ m q. (after-item true m 32 q (is_part-ascii 32 (omega arith)) (λ x. refl), (refl, arrow-mark, (refl, tt))); last = λ m q. (before-blank, λ x. refl) }) g.segment);
  leads = leads-append ps (arrow_pieces ++ qs) h.leads;
  closed = closed-append ps (arrow_pieces ++ qs) h.closed (closed-append arrow_pieces qs (record { closed = λ d. refl }) g.closed);
}

-- ---- contracts

requires-mark : IsMark k.Requires (codes "requires") class.Part
unfolding word_kind encode
requires-mark = lower-mark k.Requires 114 (101 ∷ 113 ∷ 117 ∷ 105 ∷ 114 ∷ 101 ∷ 115 ∷ []) refl refl refl

ensures-mark : IsMark k.Ensures (codes "ensures") class.Part
unfolding word_kind encode
ensures-mark = lower-mark k.Ensures 101 (110 ∷ 115 ∷ 117 ∷ 114 ∷ 101 ∷ 115 ∷ []) refl refl refl

requires-word : IsClauseWord k.Requires 114 (101 ∷ 113 ∷ 117 ∷ 105 ∷ 114 ∷ 101 ∷ 115 ∷ []) (codes "requires ")
unfolding encode
requires-word = record { written = requires-mark; begins = begins-letter 114 (omega arith) refl; flat = record { closed = λ d. refl }; further_it = refl; spelled = refl }

ensures-word : IsClauseWord k.Ensures 101 (110 ∷ 115 ∷ 117 ∷ 114 ∷ 101 ∷ 115 ∷ []) (codes "ensures ")
unfolding encode
ensures-word = record { written = ensures-mark; begins = begins-letter 101 (omega arith) refl; flat = record { closed = λ d. refl }; further_it = refl; spelled = refl }

-- clauses before a call, and behind it
abbrev pub contract_pieces : (n : ℕ) → List (AnExpr n) → List (AnExpr n) → List (List Piece)
contract_pieces n xs ys = clauses_of n k.Requires (codes "requires") xs ++ clauses_of n k.Ensures (codes "ensures") ys

pub are-contract : (n : ℕ) (xs ys : List (AnExpr n)) → AreAllClauses (contract_pieces n xs ys)
are-contract n xs ys =
    clauses-append (clauses_of n k.Requires (codes "requires") xs) (clauses_of n k.Ensures (codes "ensures") ys)
    (are-clauses n k.Requires 114 (101 ∷ 113 ∷ 117 ∷ 105 ∷ 114 ∷ 101 ∷ 115 ∷ []) (codes "requires ") requires-word xs)
    (are-clauses n k.Ensures 101 (110 ∷ 115 ∷ 117 ∷ 114 ∷ 101 ∷ 115 ∷ []) (codes "ensures ") ensures-word ys)

pub contract-lines : (n : ℕ) (xs ys : List (AnExpr n)) → clause_bytes 0 (contract_pieces n xs ys) ≡ contract_lines (expr_texts (exprs_of n xs)) (expr_texts (exprs_of n ys))
contract-lines n xs ys =
    bytes-append 0 (clauses_of n k.Requires (codes "requires") xs) (clauses_of n k.Ensures (codes "ensures") ys)
    ∙ ap₂ (λ (a b : List ℕ). a ++ b) (clauses-text n k.Requires 114 (101 ∷ 113 ∷ 117 ∷ 105 ∷ 114 ∷ 101 ∷ 115 ∷ []) (codes "requires ") requires-word 0 xs)
    (clauses-text n k.Ensures 101 (110 ∷ 115 ∷ 117 ∷ 114 ∷ 101 ∷ 115 ∷ []) (codes "ensures ") ensures-word 0 ys)

abbrev requires_value : List Expr → ℕ → Contract
requires_value es l = (Low es l, none)

abbrev ensures_value : List Expr → ℕ → List Expr → ℕ → Contract
ensures_value rs g es l = (Low rs g, Low es l)

requires-step : (n : ℕ) → StepsBy n k.Requires (Clause true n) requires_value
requires-step n es l here inner rest y h r = inl (here, inner, mark-reads t.REQUIRES k.Requires here inner refl, (Low y h, rest, r, (refl, refl)))

ensures-step : (n : ℕ) (rs : List Expr) (g : ℕ) → StepsBy n k.Ensures (Clause true n) (ensures_value rs g)
ensures-step n rs g es l here inner rest y h r = inr (here, inner, mark-reads t.ENSURES k.Ensures here inner refl, (Low y h, rest, r, (refl, refl)))

turns-both : {A : Type 0} (turn : A → R A) (a : A) (i : List Token) (b : A) (j : List Token) (c : A) (l : List Token) → Turns turn a i b j → Turns turn b j c l → Turns turn a i c l
turns-both turn a i b j c l (stop e f) r = subst (λ x. Turns turn x i c l) e (subst (λ m. Turns turn b m c l) (sym f) r)
turns-both turn a i b j c l (more d m q rest) r = more d m q (turns-both turn d m b j c l rest r)

pub record ReadsContract (n : ℕ) (xs ys : List (AnExpr n)) (i : List Token) (closing : List Piece) (ls : List Line) : Type 0 where
  pub pre : List Expr
  pub post : List Expr
  pub same_pre : map exprs.view pre ≡ map exprs.view (exprs_of n xs)
  pub same_post : map exprs.view post ≡ map exprs.view (exprs_of n ys)
  pub place : ℕ
  pub reads : (ContractOf true n).reads i (Low pre (heights n 0 xs), Low post (heights n 0 ys)) (opened place closing 0 ls)

pub contract-read : (n at : ℕ) (xs ys : List (AnExpr n)) (closing : List Piece) (ls : List Line) → ReadsContract n xs ys (following at 0 (contract_pieces n xs ys) closing ls) closing ls
unfolding ContractOf
contract-read n at xs ys closing ls =
    let later : List (List Piece) = clauses_of n k.Ensures (codes "ensures") ys in
    let a = clauses-read n k.Requires (codes "requires") (Clause true n) requires_value (requires-step n) at 0 xs [] 0 later closing ls in
    let b = clauses-read n k.Ensures (codes "ensures") (Clause true n) (ensures_value a.read (heights n 0 xs)) (ensures-step n a.read (heights n 0 xs)) a.place 0 ys [] 0 [] closing ls in
    let second : Turns (Clause true n) (Low a.read (heights n 0 xs), none) (following a.place 0 later closing ls) (Low a.read (heights n 0 xs), Low b.read (heights n 0 ys)) (opened b.place closing 0 ls) =
    subst (λ (cs : List (List Piece)). Turns (Clause true n) (Low a.read (heights n 0 xs), none) (following a.place 0 cs closing ls) (Low a.read (heights n 0 xs), Low b.read (heights n 0 ys)) (opened b.place closing 0 ls)) (append-nil later) b.turns in
    record {
      pre = a.read;
      post = b.read;
      same_pre = a.same;
      same_post = b.same;
      place = b.place;
      reads = turns-both (Clause true n) (none, none) (following at 0 (contract_pieces n xs ys) closing ls) (Low a.read (heights n 0 xs), none) (following a.place 0 later closing ls) (Low a.read (heights n 0 xs), Low b.read (heights n 0 ys)) (opened b.place closing 0 ls) a.turns second;
    }

pub gives-contract : (n : ℕ) → Gives (Expr_ true n) (IsPart (From 0) n) → Gives (ContractOf true n) (λ (c : Contract). AreExprs n c.0 × AreExprs n c.1)
unfolding ContractOf
gives-contract n expr =
    gives-loop
    (λ c q.
    gives-or (gives-then (gives-mark t.REQUIRES) (λ at h. gives-then expr (λ x p. gives-pure (pushed c.0 x, c.1) (λ (d : Contract). AreExprs n d.0 × AreExprs n d.1) (exprs-pushed n c.0 x q.0 p, q.1))))
    (gives-then (gives-mark t.ENSURES) (λ at h. gives-then expr (λ x p. gives-pure (c.0, pushed c.1 x) (λ (d : Contract). AreExprs n d.0 × AreExprs n d.1) (q.0, exprs-pushed n c.1 x q.1 p)))))
    (none, none) (exprs-none n, exprs-none n)

-- ---- at least one clause

pub record SomeExprs (n : ℕ) (es : List Expr) (h : ℕ) : Type 0 where
  pub first : AnExpr n
  pub others : List (AnExpr n)
  pub exprs_are : es ≡ exprs_of n (first ∷ others)
  pub height_is : h ≡ heights n 0 (first ∷ others)

pub record AreSomeExprs (n : ℕ) (es : Args) : Type 0 where
  pub low : (xs : List Expr) (h : ℕ) → es ≡ Low xs h → SomeExprs n xs h

some-first : (n : ℕ) (x : E) → IsPart (From 0) n x → AreSomeExprs n (pushed none x)
some-first n x p = record {
  low = λ xs h e.
      let u = pushed-low none x xs h e in
      let nothing : [] ≡ u.front = same_part [] u.front 0 u.front_height u.front_is in
      let flat : 0 ≡ u.front_height = same_height [] u.front 0 u.front_height u.front_is in
      record {
        first = record { expr = u.last; height = u.last_height; again = whole-of (From 0) n u.last u.last_height (p.low u.last u.last_height u.last_is) };
        others = [];
        exprs_are = u.value ∙ ap (λ (l : List Expr). l ++ u.last ∷ []) (sym nothing);
        height_is = u.height_is ∙ ap (λ (l : ℕ). max l u.last_height) (sym flat);
      };
}

some-more : (n : ℕ) (es : Args) (x : E) → AreSomeExprs n es → IsPart (From 0) n x → AreSomeExprs n (pushed es x)
some-more n es x r p = record {
  low = λ xs h e.
      let u = pushed-low es x xs h e in
      let f = r.low u.front u.front_height u.front_is in
      let last : AnExpr n = record { expr = u.last; height = u.last_height; again = whole-of (From 0) n u.last u.last_height (p.low u.last u.last_height u.last_is) } in
      record {
        first = f.first;
        others = f.others ++ last ∷ [];
        exprs_are = u.value ∙ (ap (λ (l : List Expr). l ++ u.last ∷ []) f.exprs_are ∙ sym (map-append (λ (y : AnExpr n). y.expr) (f.first ∷ f.others) (last ∷ [])));
        height_is = u.height_is ∙ (ap (λ (l : ℕ). max l u.last_height) f.height_is ∙ sym (heights-last n 0 (f.first ∷ f.others) last));
      };
}

-- a 'where', and others behind it
abbrev pub SomeWheres : ℕ → R Args
SomeWheres n = Then (statements.Where true n none) (λ (es : Args). statements.Wheres true n es)

pub gives-some_wheres : (n : ℕ) → Gives (Expr_ true n) (IsPart (From 0) n) → Gives (SomeWheres n) (AreSomeExprs n)
unfolding statements.Wheres
gives-some_wheres n expr =
    gives-then (gives-then (gives-mark t.WHERE) (λ at h. gives-then expr (λ x p. gives-pure (pushed none x) (AreSomeExprs n) (some-first n x p))))
    (λ es r. gives-loop (λ fs q. gives-then (gives-mark t.WHERE) (λ at h. gives-then expr (λ x p. gives-pure (pushed fs x) (AreSomeExprs n) (some-more n fs x q p)))) es r)

first-turn : {A : Type 0} (turn : A → R A) (a : A) (i : List Token) (b : A) (j : List Token) → (b ≡ a → ⊥) → Turns turn a i b j → (Then (turn a) (λ (c : A). Loop turn c)).reads i b j
first-turn turn a i b j n (stop e f) = absurd (n e)
first-turn turn a i b j n (more c l q rest) = (c, l, q, rest)

is_empty : List Expr → Bool
is_empty [] = true
is_empty (e ∷ es) = false

is_unseen : List exprs.View → Bool
is_unseen [] = true
is_unseen (v ∷ vs) = false

no_views : (es : List Expr) (v : exprs.View) (vs : List exprs.View) → map exprs.view es ≡ v ∷ vs → es ≡ [] → ⊥
unfolding is_unseen is_empty
no_views [] v vs e f = true≢false (ap is_unseen e)
no_views (x ∷ es) v vs e f = true≢false (sym (ap is_empty f))

-- clauses that were read one after the other, of which there is one
pub some-wheres : (n : ℕ) (i : List Token) (es : List Expr) (h : ℕ) (j : List Token) (x : AnExpr n) (xs : List (AnExpr n)) → map exprs.view es ≡ map exprs.view (exprs_of n (x ∷ xs)) → Turns (statements.Where true n) none i (Low es h) j → (SomeWheres n).reads i (Low es h) j
unfolding statements.Wheres
some-wheres n i es h j x xs e r = first-turn (statements.Where true n) none i (Low es h) j (λ f. no_views es (exprs.view x.expr) (map exprs.view (exprs_of n xs)) e (sym (same_part [] es 0 h (sym f)))) r

-- ---- a head that ends with a line

pub ended-text : (m : ℕ) (ps : List Piece) (cs : List (List Piece)) (text clauses : List ℕ) → text_of ps ≡ text → clause_bytes m cs ≡ clauses → text_of (head_first ps cs []) ++ 10 ∷ lines_text (head_rest m cs []) ≡ text ++ (clauses ++ 10 ∷ [])
ended-text m ps cs text clauses e f =
    ap (λ (l : List Line). text_of (head_first ps cs []) ++ 10 ∷ lines_text l) (sym (append-nil (head_rest m cs [])))
    ∙ (head-text m [] ps cs [] ∙ ap₂ (λ (u v : List ℕ). u ++ (v ++ 10 ∷ [])) e f)

pub ended-good : (m : ℕ) (ps : List Piece) (cs : List (List Piece)) (ls : List Line) → AreAllClauses cs → Follows m ls → Good m (colon_behind false (head_first ps cs [])) (head_rest m cs [] ++ ls)
ended-good m ps cs ls h f = head-good m [] ps cs ls false (clauses-end cs h) (λ c. follows-good m m c ls (omega arith) f)

-- the end of that line
abbrev pub line_end_at : ℕ → ℕ
line_end_at p = p + size []

pub ended-line : (p m : ℕ) (ls : List Line) → Follows m ls → opened p [] m ls ≡ token k.LineEnd (line_end_at p) ∷ left (next_at (line_end_at p) ls) m ls
ended-line p m ls f = line-ends (line_end_at p) (next_at (line_end_at p) ls) m ls f
