-- A head with clauses behind it, each on a line of its own, and what closes the last of these lines.
use Rattle.std.proofs.Common.{◌≡◌, ℕ, ◌+◌, ◌≤◌, max, Bool, true, false, List, [], ◌∷◌, ◌++◌, map, codes, refl, sym, ap, ap₂, ◌∙◌, subst, arith, append_assoc, append-nil}
use Rattle.std.specs.Bool.{⊤}
use lib.Utf8.{encode}
use Rattle.wy_reading.specs.Rule.{Turns}
use Rattle.wy_reading.specs.Rule.Turns.{stop, more}
use Rattle.wy_ast.specs.declared.expressions.Expr.{Expr}
use Rattle.wy_parse_front.specs.wy_lex.declared.token.Token.{Token}
use Rattle.wy_parse_front.specs.wy_lex.declared.token.TokenKind.{TokenKind}
use Rattle.wy_parse_front.specs.wy_lex.declared.token.TokenKind.TheVariants as k
use Rattle.wy_parse_front.specs.wy_lex.declared.symbol.Character.TheVariants as class
use Rattle.wy_parse_front.specs.wy_lex.Kinds.{word_kind, continues}
use Rattle.wy_parse_front.specs.wy_lex.Layout.{token}
use Rattle.wy_print.specs.ExprText.{shown, expr_text, expr_texts}
use Rattle.wy_print.specs.StmtText.{clause_lines}
use Rattle.wy_parse_front.specs.wy_parse_grammar.declared.measured.Measured.TheVariants.{Low}
use Rattle.wy_parse_front.specs.wy_parse_grammar.Sorts as t
use Rattle.wy_parse_front.specs.wy_parse_grammar.Steps.{R}
use Rattle.wy_parse_front.specs.wy_parse_grammar.Trees.{pushed, none}
use Rattle.wy_parse_front.specs.wy_parse_grammar.ExprGrammar.{E, Args, Expr_}
use Rattle.wy_parse_front.specs.wy_parse.StmtGrammar as grammar
use Rattle.wy_print_laws.proofs.round_lemmas.Pieces.{Piece, letters, size, tokens_from, colon_behind, colon-append, letters-append, size-append, tokens-append, IsMark}
use Rattle.wy_print_laws.proofs.round_lemmas.Pieces.Piece.{gap, mark}
use Rattle.wy_print_laws.proofs.round_lemmas.Marks.{lower-mark}
use Rattle.wy_print_laws.proofs.round_lemmas.Segments.{text_of, text-both, text-append, IsClosed, begins_item, Leads, Item}
use Rattle.wy_print_laws.proofs.round_lemmas.Heights.{pushed-low, same_part, same_height}
use Rattle.wy_print_laws.proofs.round_lemmas.Gives.{Gives, gives-pure, gives-then, gives-loop, gives-mark}
use Rattle.wy_print_laws.proofs.round_lemmas.Commas.{mark-reads, item-any, map-append}
use Rattle.wy_print_laws.proofs.round_lemmas.Enclosed.{begins-letter}
use Rattle.wy_print_laws.proofs.round_lemmas.ExprShown as exprs
use Rattle.wy_print_laws.proofs.round_lemmas.ExprLines.{Again, IsPart, From, whole-of}
use Rattle.wy_print_laws.proofs.round_lemmas.Lines.{Line, margin, behind, next_at, IsBody, Good, continues_first}
use Rattle.wy_print_laws.proofs.round_lemmas.Lines.Line.{further}
use Rattle.wy_print_laws.proofs.round_lemmas.LineRuns.{lines_text}
use Rattle.wy_print_laws.proofs.round_lemmas.StmtLines.{opened, further-text}
use Rattle.wy_print_laws.proofs.round_lemmas.StmtOne.{item-body, item-colon, colon, word_gap, behind-word}

-- ---- lines

-- the first line of pieces with clauses behind them, and the lines behind it
abbrev pub head_first : List Piece → List (List Piece) → List Piece → List Piece
head_first ps [] closing = ps ++ closing
head_first ps (c ∷ cs) closing = ps

abbrev pub head_rest : ℕ → List (List Piece) → List Piece → List Line
head_rest n [] closing = []
head_rest n (c ∷ cs) closing = further n (head_first c cs closing) ∷ head_rest n cs closing

-- lines that continue the one before
abbrev pub AreClauses : List Piece → List (List Piece) → Type 0
AreClauses closing [] = ⊤
AreClauses closing (c ∷ cs) = IsBody (head_first c cs closing) × (continues_first (head_first c cs closing) ≡ true) × AreClauses closing cs

pub head-good : (n : ℕ) (closing ps : List Piece) (cs : List (List Piece)) (ls : List Line) (b : Bool) → AreClauses closing cs → ((h : Bool) → Good n (colon_behind h closing) ls)
    → Good n (colon_behind b (head_first ps cs closing)) (head_rest n cs closing ++ ls)
head-good n closing ps [] ls b h f = subst (λ c. Good n c ls) (sym (colon-append b ps closing)) (f (colon_behind b ps))
head-good n closing ps (c ∷ cs) ls b h f = let same : n ≤ n = omega arith in (h.0, h.1, same, head-good n closing c cs ls (colon_behind b ps) h.2 f)

-- ---- texts

abbrev pub clause_bytes : ℕ → List (List Piece) → List ℕ
clause_bytes n [] = []
clause_bytes n (c ∷ cs) = 10 ∷ (margin n ++ (text_of c ++ clause_bytes n cs))

pub head-text : (n : ℕ) (closing ps : List Piece) (cs : List (List Piece)) (ls : List Line)
    → text_of (head_first ps cs closing) ++ 10 ∷ lines_text (head_rest n cs closing ++ ls) ≡ text_of ps ++ (clause_bytes n cs ++ (text_of closing ++ 10 ∷ lines_text ls))
head-text n closing ps [] ls = ap (λ (l : List ℕ). l ++ 10 ∷ lines_text ls) (text-append ps closing) ∙ append_assoc (text_of ps) (text_of closing) (10 ∷ lines_text ls)
head-text n closing ps (c ∷ cs) ls =
    let last : List ℕ = text_of closing ++ 10 ∷ lines_text ls in
    ap (λ (l : List ℕ). text_of ps ++ 10 ∷ l) (further-text n (head_first c cs closing) (head_rest n cs closing ++ ls) ∙ ap (λ (l : List ℕ). margin n ++ l) (head-text n closing c cs ls))
    ∙ ap (λ (l : List ℕ). text_of ps ++ 10 ∷ l) (ap (λ (l : List ℕ). margin n ++ l) (sym (append_assoc (text_of c) (clause_bytes n cs) last)) ∙ sym (append_assoc (margin n) (text_of c ++ clause_bytes n cs) last))

-- ---- tokens

-- behind the head
abbrev pub following : ℕ → ℕ → List (List Piece) → List Piece → List Line → List Token
following at n [] closing ls = opened at closing n ls
following at n (c ∷ cs) closing ls = opened (next_at at (head_rest n (c ∷ cs) closing ++ ls)) (head_first c cs closing) n (head_rest n cs closing ++ ls)

pub head-tokens : (at n : ℕ) (closing ps : List Piece) (cs : List (List Piece)) (ls : List Line)
    → opened at (head_first ps cs closing) n (head_rest n cs closing ++ ls) ≡ tokens_from at ps ++ following (at + size (letters ps)) n cs closing ls
head-tokens at n closing ps [] ls =
    let there = at + size (letters ps) in
    let end : at + size (letters (ps ++ closing)) ≡ there + size (letters closing) = ap (λ (l : List ℕ). at + size l) (letters-append ps closing) ∙ (let e = size-append (letters ps) (letters closing) in omega (arith, e)) in
    ap₂ (λ (a b : List Token). a ++ b) (tokens-append at ps closing) (ap (λ (z : ℕ). behind z (next_at z ls) n ls) end)
    ∙ append_assoc (tokens_from at ps) (tokens_from there closing) (behind (there + size (letters closing)) (next_at (there + size (letters closing)) ls) n ls)
head-tokens at n closing ps (c ∷ cs) ls = refl

-- ---- clauses that are expressions

-- an expression with what its text is read as
pub record AnExpr (n : ℕ) : Type 0 where
  pub expr : Expr
  pub height : ℕ
  pub again : Again n (λ m. Expr_ true m) (shown expr) expr height

abbrev pub exprs_of : (n : ℕ) → List (AnExpr n) → List Expr
exprs_of n xs = map (λ (x : AnExpr n). x.expr) xs

abbrev pub heights : (n : ℕ) → ℕ → List (AnExpr n) → ℕ
heights n l [] = l
heights n l (x ∷ xs) = heights n (max l x.height) xs

pub heights-last : (n l : ℕ) (xs : List (AnExpr n)) (x : AnExpr n) → heights n l (xs ++ x ∷ []) ≡ max (heights n l xs) x.height
heights-last n l [] x = refl
heights-last n l (y ∷ xs) x = heights-last n (max l y.height) xs x

-- what was read of clauses
pub record Exprs (n : ℕ) (es : List Expr) (h : ℕ) : Type 0 where
  pub all : List (AnExpr n)
  pub exprs_are : es ≡ exprs_of n all
  pub height_is : h ≡ heights n 0 all

pub record AreExprs (n : ℕ) (es : Args) : Type 0 where
  pub low : (xs : List Expr) (h : ℕ) → es ≡ Low xs h → Exprs n xs h

pub exprs-none : (n : ℕ) → AreExprs n none
exprs-none n = record { low = λ xs h e. record { all = []; exprs_are = sym (same_part [] xs 0 h e); height_is = sym (same_height [] xs 0 h e) } }

pub exprs-pushed : (n : ℕ) (es : Args) (x : E) → AreExprs n es → IsPart (From 0) n x → AreExprs n (pushed es x)
exprs-pushed n es x r p = record {
  low = λ xs h e.
      let u = pushed-low es x xs h e in
      let front = r.low u.front u.front_height u.front_is in
      let last : AnExpr n = record { expr = u.last; height = u.last_height; again = whole-of (From 0) n u.last u.last_height (p.low u.last u.last_height u.last_is) } in
      record {
        all = front.all ++ last ∷ [];
        exprs_are = u.value ∙ (ap (λ (l : List Expr). l ++ u.last ∷ []) front.exprs_are ∙ sym (map-append (λ (y : AnExpr n). y.expr) front.all (last ∷ [])));
        height_is = u.height_is ∙ (ap (λ (l : ℕ). max l u.last_height) front.height_is ∙ sym (heights-last n 0 front.all last));
      };
}

-- ---- clauses: a word, and an expression on the same line

-- pieces each of which continues the line before
abbrev pub Clauses : List (List Piece) → Type 0
Clauses [] = ⊤
Clauses (c ∷ cs) = Item true true c × (continues_first c ≡ true) × Clauses cs

pub clauses-append : (cs ds : List (List Piece)) → Clauses cs → Clauses ds → Clauses (cs ++ ds)
clauses-append [] ds h g = g
clauses-append (c ∷ cs) ds h g = (h.0, h.1, clauses-append cs ds h.2 g)

pub first-append : (ps qs : List Piece) → Leads ps → continues_first (ps ++ qs) ≡ continues_first ps
first-append [] qs h = absurd h
first-append (gap ∷ ps) qs h = absurd h
first-append (mark kind cs m ∷ ps) qs h = refl

pub clauses-colon : (cs : List (List Piece)) → Clauses cs → AreClauses colon cs
clauses-colon [] h = tt
clauses-colon (c ∷ []) h = (item-colon c h.0, first-append c colon h.0.leads ∙ h.1, tt)
clauses-colon (c ∷ d ∷ cs) h = (item-body c h.0, h.1, clauses-colon (d ∷ cs) h.2)

pub bare-body : (ps : List Piece) → Item true true ps → IsBody (ps ++ [])
bare-body ps h = subst IsBody (sym (append-nil ps)) (item-body ps h)

pub clauses-end : (cs : List (List Piece)) → Clauses cs → AreClauses [] cs
clauses-end [] h = tt
clauses-end (c ∷ []) h = (bare-body c h.0, first-append c [] h.0.leads ∙ h.1, tt)
clauses-end (c ∷ d ∷ cs) h = (item-body c h.0, h.1, clauses-end (d ∷ cs) h.2)

-- the first line of a head with clauses
pub head-body : (ps : List Piece) (cs : List (List Piece)) → Item true true ps → IsBody (head_first ps cs colon)
head-body ps [] h = item-colon ps h
head-body ps (c ∷ cs) h = item-body ps h

pub head-end : (ps : List Piece) (cs : List (List Piece)) → Item true true ps → IsBody (head_first ps cs [])
head-end ps [] h = bare-body ps h
head-end ps (c ∷ cs) h = item-body ps h

pub head-own : (ps : List Piece) (cs : List (List Piece)) (closing : List Piece) → Leads ps → continues_first ps ≡ false → continues_first (head_first ps cs closing) ≡ false
head-own ps [] closing l h = first-append ps closing l ∙ h
head-own ps (c ∷ cs) closing l h = h

-- a word that continues a line
pub record IsClauseWord (kind : TokenKind) (c : ℕ) (w : List ℕ) (text : List ℕ) : Type 0 where
  pub written : IsMark kind (c ∷ w) class.Part
  pub begins : begins_item c ≡ true
  pub flat : IsClosed (word_gap kind (c ∷ w))
  pub further_it : continues kind ≡ true
  pub spelled : text_of (word_gap kind (c ∷ w)) ≡ text

abbrev pub clause : (n : ℕ) → TokenKind → List ℕ → AnExpr n → List Piece
clause n kind w x = word_gap kind w ++ x.again.pieces

abbrev pub clauses_of : (n : ℕ) → TokenKind → List ℕ → List (AnExpr n) → List (List Piece)
clauses_of n kind w xs = map (clause n kind w) xs

pub are-clauses : (n : ℕ) (kind : TokenKind) (c : ℕ) (w text : List ℕ) → IsClauseWord kind c w text → (xs : List (AnExpr n)) → Clauses (clauses_of n kind (c ∷ w) xs)
are-clauses n kind c w text h [] = tt
are-clauses n kind c w text h (x ∷ xs) =
    (behind-word kind c w x.again.pieces h.written h.begins h.flat (item-any (shown x.expr).begins (shown x.expr).ends x.again.pieces x.again.item), h.further_it, are-clauses n kind c w text h xs)

pub clauses-text : (n : ℕ) (kind : TokenKind) (c : ℕ) (w text : List ℕ) → IsClauseWord kind c w text → (m : ℕ) (xs : List (AnExpr n)) → clause_bytes m (clauses_of n kind (c ∷ w) xs) ≡ clause_lines (margin m) text (expr_texts (exprs_of n xs))
clauses-text n kind c w text h m [] = refl
clauses-text n kind c w text h m (x ∷ xs) =
    ap (λ (l : List ℕ). 10 ∷ (margin m ++ l))
    (ap₂ (λ (a b : List ℕ). a ++ b) (text-both (word_gap kind (c ∷ w)) x.again.pieces text (expr_text x.expr) h.spelled x.again.spelled) (clauses-text n kind c w text h m xs)
    ∙ append_assoc text (expr_text x.expr) (clause_lines (margin m) text (expr_texts (exprs_of n xs))))

pub bytes-append : (m : ℕ) (cs ds : List (List Piece)) → clause_bytes m (cs ++ ds) ≡ clause_bytes m cs ++ clause_bytes m ds
bytes-append m [] ds = refl
bytes-append m (c ∷ cs) ds =
    ap (λ (l : List ℕ). 10 ∷ (margin m ++ (text_of c ++ l))) (bytes-append m cs ds)
    ∙ ap (λ (l : List ℕ). 10 ∷ l)
    (ap (λ (l : List ℕ). margin m ++ l) (sym (append_assoc (text_of c) (clause_bytes m cs) (clause_bytes m ds))) ∙ sym (append_assoc (margin m) (text_of c ++ clause_bytes m cs) (clause_bytes m ds)))

-- they are read one after the other: a turn puts the expression behind those that were read
pub record ReadsClauses (n : ℕ) {X : Type 0} (turn : X → R X) (value : List Expr → ℕ → X) (xs : List (AnExpr n)) (es : List Expr) (l : ℕ) (i : List Token) (m : ℕ) (cs : List (List Piece)) (closing : List Piece) (ls : List Line) : Type 0 where
  pub read : List Expr
  pub same : map exprs.view read ≡ map exprs.view (exprs_of n xs)
  pub place : ℕ
  pub turns : Turns turn (value es l) i (value (es ++ read) (heights n l xs)) (following place m cs closing ls)

abbrev pub StepsBy : (n : ℕ) (kind : TokenKind) {X : Type 0} (turn : X → R X) (value : List Expr → ℕ → X) → Type 0
StepsBy n kind turn value = (es : List Expr) (l here : ℕ) (inner rest : List Token) (y : Expr) (h : ℕ) → (Expr_ true n).reads inner (Low y h) rest → (turn (value es l)).reads (token kind here ∷ inner) (value (es ++ y ∷ []) (max l h)) rest

pub clauses-read : (n : ℕ) (kind : TokenKind) (w : List ℕ) {X : Type 0} (turn : X → R X) (value : List Expr → ℕ → X) → StepsBy n kind turn value
    → (at m : ℕ) (xs : List (AnExpr n)) (es : List Expr) (l : ℕ) (cs : List (List Piece)) (closing : List Piece) (ls : List Line)
    → ReadsClauses n turn value xs es l (following at m (clauses_of n kind w xs ++ cs) closing ls) m cs closing ls
clauses-read n kind w {X} turn value step at m [] es l cs closing ls = record { read = []; same = refl; place = at; turns = stop (ap (λ (q : List Expr). value q l) (append-nil es)) refl }
clauses-read n kind w {X} turn value step at m (x ∷ xs) es l cs closing ls =
    let here = next_at at (head_rest m (clauses_of n kind w (x ∷ xs) ++ cs) closing ++ ls) in
    let text_is = head-tokens here m closing (clause n kind w x) (clauses_of n kind w xs ++ cs) ls in
    let there = (here + size w) + 1 in
    let next = here + size (letters (clause n kind w x)) in
    let rest : List Token = following next m (clauses_of n kind w xs ++ cs) closing ls in
    let r = x.again.reads n (omega arith) there rest in
    let q = clauses-read n kind w turn value step next m xs (es ++ r.tree ∷ []) (max l x.height) cs closing ls in
    let inner : List Token = tokens_from there x.again.pieces ++ rest in
    let turn_is : (turn (value es l)).reads (token kind here ∷ inner) (value (es ++ r.tree ∷ []) (max l x.height)) rest = step es l here inner rest r.tree x.height r.reads in
    record {
      read = r.tree ∷ q.read;
      same = ap₂ (λ (v : exprs.View) (vs : List exprs.View). v ∷ vs) r.same q.same;
      place = q.place;
      turns = subst (λ (i : List Token). Turns turn (value es l) i (value (es ++ r.tree ∷ q.read) (heights n (max l x.height) xs)) (following q.place m cs closing ls)) (sym text_is)
          (more (value (es ++ r.tree ∷ []) (max l x.height)) rest turn_is
          (subst (λ (a : List Expr). Turns turn (value (es ++ r.tree ∷ []) (max l x.height)) rest (value a (heights n (max l x.height) xs)) (following q.place m cs closing ls)) (append_assoc es (r.tree ∷ []) q.read) q.turns));
    }

-- ---- where clauses

where-mark : IsMark k.Where (codes "where") class.Part
unfolding word_kind encode
where-mark = lower-mark k.Where 119 (104 ∷ 101 ∷ 114 ∷ 101 ∷ []) refl refl refl

pub where-word : IsClauseWord k.Where 119 (104 ∷ 101 ∷ 114 ∷ 101 ∷ []) (codes "where ")
unfolding encode
where-word = record { written = where-mark; begins = begins-letter 119 (omega arith) refl; flat = record { closed = λ d. refl }; further_it = refl; spelled = refl }

abbrev pub wheres_pieces : (n : ℕ) → List (AnExpr n) → List (List Piece)
wheres_pieces n xs = clauses_of n k.Where (codes "where") xs

pub are-wheres : (n : ℕ) (xs : List (AnExpr n)) → Clauses (wheres_pieces n xs)
are-wheres n xs = are-clauses n k.Where 119 (104 ∷ 101 ∷ 114 ∷ 101 ∷ []) (codes "where ") where-word xs

pub wheres-text : (n m : ℕ) (xs : List (AnExpr n)) → clause_bytes m (wheres_pieces n xs) ≡ clause_lines (margin m) (codes "where ") (expr_texts (exprs_of n xs))
wheres-text n m xs = clauses-text n k.Where 119 (104 ∷ 101 ∷ 114 ∷ 101 ∷ []) (codes "where ") where-word m xs

abbrev pub low_list : List Expr → ℕ → Args
low_list es l = Low es l

where-step : (n : ℕ) → StepsBy n k.Where (grammar.Where true n) low_list
where-step n es l here inner rest y h r = (here, inner, mark-reads t.WHERE k.Where here inner refl, (Low y h, rest, r, (refl, refl)))

-- they are read up to what closes the head
pub wheres-read : (n at m : ℕ) (xs : List (AnExpr n)) (es : List Expr) (l : ℕ) (closing : List Piece) (ls : List Line) → ReadsClauses n (grammar.Where true n) low_list xs es l (following at m (wheres_pieces n xs) closing ls) m [] closing ls
wheres-read n at m xs es l closing ls =
    subst (λ (cs : List (List Piece)). ReadsClauses n (grammar.Where true n) low_list xs es l (following at m cs closing ls) m [] closing ls) (append-nil (wheres_pieces n xs))
    (clauses-read n k.Where (codes "where") (grammar.Where true n) low_list (where-step n) at m xs es l [] closing ls)

pub gives-where : (n : ℕ) → Gives (Expr_ true n) (IsPart (From 0) n) → (es : Args) → AreExprs n es → Gives (grammar.Where true n es) (AreExprs n)
gives-where n expr es r = gives-then (gives-mark t.WHERE) (λ at h. gives-then expr (λ x p. gives-pure (pushed es x) (AreExprs n) (exprs-pushed n es x r p)))

pub gives-wheres : (n : ℕ) → Gives (Expr_ true n) (IsPart (From 0) n) → (es : Args) → AreExprs n es → Gives (grammar.Wheres true n es) (AreExprs n)
unfolding grammar.Wheres
gives-wheres n expr es r = gives-loop (gives-where n expr) es r
