-- An 'if' is read again, with what stands behind its block: nothing, a block, or another 'if'.
use Rattle.std.proofs.Common.{◌≡◌, ℕ, suc, ◌+◌, Bool, true, false, List, [], ◌∷◌, ◌++◌, map, codes, inl, inr, refl, sym, ap, ap₂, ◌∙◌, subst, arith, append_assoc}
use lib.Utf8.{encode}
use Rattle.wy_data.proofs.WordLemmas.{is_part-ascii}
use Rattle.wy_ast.specs.declared.expressions.Expr.{Expr}
use Rattle.wy_ast.specs.declared.statements.Stmt.{Stmt}
use Rattle.wy_ast.specs.declared.statements.StmtKind.TheVariants as stmt
use Rattle.wy_parse_front.specs.wy_lex.declared.token.Token.{Token}
use Rattle.wy_parse_front.specs.wy_lex.declared.token.TokenKind.TheVariants as k
use Rattle.wy_parse_front.specs.wy_lex.declared.symbol.Character.TheVariants as class
use Rattle.wy_parse_front.specs.wy_lex.Kinds.{word_kind}
use Rattle.wy_parse_front.specs.wy_lex.Layout.{token}
use Rattle.wy_print.specs.ExprText.{shown, expr_text}
use Rattle.wy_print.specs.StmtText.{ShownStmt, is_if_alone, lines, else_block, otherwise, shown_stmt}
use Rattle.wy_parse_front.specs.wy_parse_grammar.declared.measured.Measured.TheVariants.{Low}
use Rattle.wy_parse_front.specs.wy_parse_grammar.Sorts as t
use Rattle.wy_parse_front.specs.wy_parse_grammar.Steps.{R}
use Rattle.wy_parse_front.specs.wy_parse_grammar.Trees.{both, made, pushed, none}
use Rattle.wy_parse_front.specs.wy_parse_grammar.ExprGrammar.{E, Expr_}
use Rattle.wy_parse_front.specs.wy_parse.StmtTrees as trees
use Rattle.wy_parse_front.specs.wy_parse.StmtTrees.{S, Stmts}
use Rattle.wy_parse_front.specs.wy_parse.BlockGrammar.{Otherwise, IfStmt}
use Rattle.wy_print_laws.proofs.round_lemmas.Pieces.{Piece, letters, size, tokens_from, colon_behind, IsMark}
use Rattle.wy_print_laws.proofs.round_lemmas.Pieces.Piece.{mark}
use Rattle.wy_print_laws.proofs.round_lemmas.Marks.{lower-mark}
use Rattle.wy_print_laws.proofs.round_lemmas.Segments.{text_of, text-both, text-append, Item}
use Rattle.wy_print_laws.proofs.round_lemmas.Heights.{made-low, both-low, pushed-low, same_part}
use Rattle.wy_print_laws.proofs.round_lemmas.Gives.{Gives, gives-pure, gives-then, gives-or, gives-less, gives-mark}
use Rattle.wy_print_laws.proofs.round_lemmas.Commas.{mark-reads, item-any}
use Rattle.wy_print_laws.proofs.round_lemmas.Enclosed.{begins-letter, single-item}
use Rattle.wy_print_laws.proofs.round_lemmas.ExprShown as exprs
use Rattle.wy_print_laws.proofs.round_lemmas.ExprLines.{Again, IsPart, From, whole-of}
use Rattle.wy_print_laws.proofs.round_lemmas.Lines.{Line as SourceLine, margin, behind, next_at, IsBody, Good}
use Rattle.wy_print_laws.proofs.round_lemmas.Lines.Line.{fresh}
use Rattle.wy_print_laws.proofs.round_lemmas.LineRuns.{lines_text}
use Rattle.wy_print_laws.proofs.round_lemmas.StmtShown.{View, view, if_view, view_if, if-shown}
use Rattle.wy_print_laws.proofs.round_lemmas.StmtLines.{Follows, opened, left, left-begun, begun-text, lines-append}
use Rattle.wy_print_laws.proofs.round_lemmas.StmtOne.{StmtAgain, stmt_node-low, item-colon, colon, colon-text, word_gap, behind-word}
use Rattle.wy_print_laws.proofs.round_lemmas.StmtHeads.{head-good, head-text, head-tokens}
use Rattle.wy_print_laws.proofs.round_lemmas.StmtBlocks.{BlockAgain, colon_end, colon-block}

if-mark : IsMark k.If (codes "if") class.Part
unfolding word_kind encode
if-mark = lower-mark k.If 105 (102 ∷ []) refl refl refl

else-mark : IsMark k.Else (codes "else") class.Part
unfolding word_kind encode
else-mark = lower-mark k.Else 101 (108 ∷ 115 ∷ 101 ∷ []) refl refl refl

-- ---- blocks with what is known of a single 'if' in them

-- statements, at least one, that are read again as a block; where they are an 'if' alone the other rule reads it
pub record SomeBlock (rule : R Stmts) (branch : R S) (ss : List Stmt) : Type 0 where
  pub first : Stmt
  pub others : List Stmt
  pub are : ss ≡ first ∷ others
  pub again : BlockAgain rule ss
  pub lone : others ≡ [] → (shown_stmt first).is_if ≡ true → StmtAgain branch first

pub record IsBlock (rule : R Stmts) (branch : R S) (b : Stmts) : Type 0 where
  pub low : (ss : List Stmt) (h : ℕ) → b ≡ Low ss h → SomeBlock rule branch ss

-- an 'if' that is read again
pub record Branch (branch : R S) (s : Stmt) : Type 0 where
  pub again : StmtAgain branch s
  pub is_if : (shown_stmt s).is_if ≡ true

pub record IsBranch (branch : R S) (s : S) : Type 0 where
  pub low : (x : Stmt) (h : ℕ) → s ≡ Low x h → Branch branch x

-- ---- what stands behind the block of an 'if'

pub record ReadsElse (rule : R Stmts) (i : List Token) (ss : List Stmt) (n : ℕ) (ls : List SourceLine) : Type 0 where
  pub trees : List Stmt
  pub place : ℕ
  pub same : map view trees ≡ map view ss
  pub reads : rule.reads i (Low trees 0) (left place n ls)

pub record ElseAgain (rule : R Stmts) (ss : List Stmt) : Type 0 where
  pub lines_of : ℕ → List SourceLine
  pub spelled : (n : ℕ) → lines_text (lines_of n) ≡ otherwise (margin n) (map shown_stmt ss)
  pub follows : (n : ℕ) (ls : List SourceLine) → Follows n ls → Follows n (lines_of n ++ ls)
  pub reads : (n p : ℕ) (ls : List SourceLine) → Follows n ls → ReadsElse rule (left p n (lines_of n ++ ls)) ss n ls

pub record IsElse (rule : R Stmts) (b : Stmts) : Type 0 where
  pub low : (ss : List Stmt) (h : ℕ) → b ≡ Low ss h → ElseAgain rule ss

-- 'else' and a colon, and 'else' and a space
abbrev else_colon : List Piece
else_colon = mark k.Else (codes "else") class.Part ∷ colon

abbrev else_gap : List Piece
else_gap = word_gap k.Else (codes "else")

else_colon-body : IsBody else_colon
else_colon-body = item-colon (mark k.Else (codes "else") class.Part ∷ [])
    (item-any false false (mark k.Else (codes "else") class.Part ∷ []) (single-item k.Else 101 (108 ∷ 115 ∷ 101 ∷ []) class.Part else-mark (begins-letter 101 (omega arith) refl) tt (record { closed = λ d. refl })))

else_colon-text : text_of else_colon ≡ codes "else:"
unfolding encode
else_colon-text = refl

else_gap-text : text_of else_gap ≡ codes "else "
unfolding encode
else_gap-text = refl

else_gap-body : (ps : List Piece) → IsBody ps → IsBody (else_gap ++ ps)
else_gap-body ps h = record { leads = tt; linked = (refl, else-mark, (is_part-ascii 32 (omega arith), h.linked)); closed = h.closed; last = h.last }

module _ (rule : R Stmts) (branch : R S) where
  else-none : ElseAgain (Otherwise rule branch) []
  unfolding Otherwise
  else-none = record { lines_of = λ n. []; spelled = λ n. refl; follows = λ n ls f. f; reads = λ n p ls f. record { trees = []; place = p; same = refl; reads = inr (refl, refl) } }

  else-blocked : (x : Stmt) (xs : List Stmt) → is_if_alone (shown_stmt x) (map shown_stmt xs) ≡ false → BlockAgain rule (x ∷ xs) → ElseAgain (Otherwise rule branch) (x ∷ xs)
  unfolding Otherwise
  else-blocked x xs e b = record {
    lines_of = λ n. fresh n else_colon ∷ b.inner (suc n);
    spelled = λ n.
        begun-text n else_colon (b.inner (suc n))
        ∙ (ap (λ (l : List ℕ). margin n ++ l) (ap₂ (λ (u v : List ℕ). u ++ 10 ∷ v) else_colon-text (b.spelled (suc n)))
        ∙ ap (λ (c : Bool). margin n ++ (codes "else" ++ else_block (margin n) c (shown_stmt x) (map shown_stmt xs))) (sym e));
    follows = λ n ls f. (omega arith, else_colon-body, refl, b.good n ls f);
    reads = λ n p ls f.
        let sign = p + size (codes "else") in
        let inner : List SourceLine = b.inner (suc n) ++ ls in
        let q = colon-block rule (x ∷ xs) b sign n ls f in
        let block_text : List Token = behind (colon_end sign) (next_at (colon_end sign) inner) n inner in
        let text_is : left p n (fresh n else_colon ∷ inner) ≡ token k.Else p ∷ token k.Colon sign ∷ block_text = left-begun p n else_colon inner ∙ head-tokens p n colon (mark k.Else (codes "else") class.Part ∷ []) [] inner in
        let path : (Otherwise rule branch).reads (token k.Else p ∷ token k.Colon sign ∷ block_text) (Low q.trees 0) (left q.place n ls) =
        inl (p, token k.Colon sign ∷ block_text, mark-reads t.ELSE k.Else p (token k.Colon sign ∷ block_text) refl, inl (sign, block_text, mark-reads t.COLON k.Colon sign block_text refl, q.reads)) in
        record { trees = q.trees; place = q.place; same = q.same; reads = subst (λ (i : List Token). (Otherwise rule branch).reads i (Low q.trees 0) (left q.place n ls)) (sym text_is) path };
  }

  else-if : (x : Stmt) → Branch branch x → ElseAgain (Otherwise rule branch) (x ∷ [])
  unfolding Otherwise
  else-if x d =
      let a = d.again in
      record {
        lines_of = λ n. fresh n (else_gap ++ a.first) ∷ a.rest n;
        spelled = λ n.
            begun-text n (else_gap ++ a.first) (a.rest n)
            ∙ (ap (λ (l : List ℕ). margin n ++ l)
            (ap (λ (l : List ℕ). l ++ 10 ∷ lines_text (a.rest n)) (text-append else_gap a.first ∙ ap (λ (l : List ℕ). l ++ text_of a.first) else_gap-text)
            ∙ (append_assoc (codes "else ") (text_of a.first) (10 ∷ lines_text (a.rest n)) ∙ ap (λ (l : List ℕ). codes "else " ++ l) (a.spelled n)))
            ∙ ap (λ (c : Bool). margin n ++ (codes "else" ++ else_block (margin n) c (shown_stmt x) [])) (sym d.is_if));
        follows = λ n ls f. (omega arith, else_gap-body a.first a.is_body, refl, a.good n ls f);
        reads = λ n p ls f.
            let there = p + size (letters else_gap) in
            let behind_it : List SourceLine = a.rest n ++ ls in
            let r = a.reads n there ls f in
            let inner : List Token = opened there a.first n behind_it in
            let text_is : left p n (fresh n (else_gap ++ a.first) ∷ behind_it) ≡ token k.Else p ∷ inner = left-begun p n (else_gap ++ a.first) behind_it ∙ head-tokens p n a.first else_gap [] behind_it in
            let path : (Otherwise rule branch).reads (token k.Else p ∷ inner) (Low (r.tree ∷ []) 0) (left r.place n ls) =
            inl (p, inner, mark-reads t.ELSE k.Else p inner refl, inr (Low r.tree 0, left r.place n ls, r.reads, (refl, refl))) in
            record { trees = r.tree ∷ []; place = r.place; same = ap (λ (v : View). v ∷ []) r.same; reads = subst (λ (i : List Token). (Otherwise rule branch).reads i (Low (r.tree ∷ []) 0) (left r.place n ls)) (sym text_is) path };
      }

  -- a block behind 'else:', which is printed as 'else if' where it is an 'if' alone
  else-of : (x : Stmt) (xs : List Stmt) → BlockAgain rule (x ∷ xs) → (xs ≡ [] → (shown_stmt x).is_if ≡ true → StmtAgain branch x) → ElseAgain (Otherwise rule branch) (x ∷ xs)
  else-of x (y ∷ ys) b f = else-blocked x (y ∷ ys) refl b
  else-of x [] b f = by (shown_stmt x).is_if refl
    where
      by : (c : Bool) → (shown_stmt x).is_if ≡ c → ElseAgain (Otherwise rule branch) (x ∷ [])
      by true e = else-if x (record { again = f refl e; is_if = e })
      by false e = else-blocked x [] e b

  else-block : (b : Stmts) → IsBlock rule branch b → IsElse (Otherwise rule branch) b
  else-block b p = record {
    low = λ ss h e.
        let q = p.low ss h e in
        subst (λ (l : List Stmt). ElseAgain (Otherwise rule branch) l) (sym q.are) (else-of q.first q.others (subst (λ (l : List Stmt). BlockAgain rule l) q.are q.again) q.lone);
  }

  else-branch : (st : S) → IsBranch branch st → IsElse (Otherwise rule branch) (pushed none st)
  else-branch st p = record {
    low = λ ss h e.
        let u = pushed-low none st ss h e in
        let nothing : [] ≡ u.front = same_part [] u.front 0 u.front_height u.front_is in
        let are : ss ≡ u.last ∷ [] = u.value ∙ ap (λ (l : List Stmt). l ++ u.last ∷ []) (sym nothing) in
        subst (λ (l : List Stmt). ElseAgain (Otherwise rule branch) l) (sym are) (else-if u.last (p.low u.last u.last_height u.last_is));
  }

  else-nothing : IsElse (Otherwise rule branch) none
  else-nothing = record { low = λ ss h e. subst (λ (l : List Stmt). ElseAgain (Otherwise rule branch) l) (same_part [] ss 0 h e) else-none }

  pub gives-otherwise : Gives rule (IsBlock rule branch) → Gives branch (IsBranch branch) → Gives (Otherwise rule branch) (IsElse (Otherwise rule branch))
  unfolding Otherwise
  gives-otherwise blocks branches =
      gives-or (gives-then (gives-mark t.ELSE) (λ at h.
      gives-or (gives-then (gives-mark t.COLON) (λ c g. gives-less else-block blocks))
      (gives-then branches (λ st p. gives-pure (pushed none st) (IsElse (Otherwise rule branch)) (else-branch st p)))))
      (gives-pure none (IsElse (Otherwise rule branch)) else-nothing)

-- ---- 'if'

if-text : text_of (word_gap k.If (codes "if")) ≡ codes "if "
unfolding encode
if-text = refl

module _ (n : ℕ) (rule : R Stmts) (branch : R S) where
  if-again : (s : Stmt) (x : Expr) (h : ℕ) (first second : List Stmt) → s.kind ≡ stmt.If x first second → Again n (λ m. Expr_ true m) (shown x) x h → BlockAgain rule first → ElseAgain (Otherwise rule branch) second → StmtAgain (IfStmt true n rule branch) s
  unfolding IfStmt
  if-again s x h first second is a b c =
      let ps : List Piece = word_gap k.If (codes "if") ++ a.pieces in
      let whole : Item true true ps = behind-word k.If 105 (102 ∷ []) a.pieces if-mark (begins-letter 105 (omega arith) refl) (record { closed = λ d. refl }) (item-any (shown x).begins (shown x).ends a.pieces a.item) in
      record {
        first = ps ++ colon;
        rest = λ m. b.inner (suc m) ++ c.lines_of m;
        spelled = λ m.
            let text : List ℕ = expr_text x in
            let blocked : List ℕ = lines (margin (suc m)) (map shown_stmt first) in
            let tail : List ℕ = otherwise (margin m) (map shown_stmt second) in
            head-text m colon ps [] (b.inner (suc m) ++ c.lines_of m)
            ∙ (ap₂ (λ (u v : List ℕ). u ++ v) (text-both (word_gap k.If (codes "if")) a.pieces (codes "if ") text if-text a.spelled)
            (ap₂ (λ (u v : List ℕ). u ++ 10 ∷ v) colon-text (lines-append (b.inner (suc m)) (c.lines_of m) ∙ ap₂ (λ (u v : List ℕ). u ++ v) (b.spelled (suc m)) (c.spelled m)))
            ∙ (append_assoc (codes "if ") text (codes ":" ++ (10 ∷ (blocked ++ tail)))
            ∙ ap (λ (u : ShownStmt). u.text (margin m)) (sym (if-shown s x first second is))));
        is_body = item-colon ps whole;
        own = refl;
        good = λ m ls f.
            subst (λ (l : List SourceLine). Good m (colon_behind false (ps ++ colon)) l) (sym (append_assoc (b.inner (suc m)) (c.lines_of m) ls))
            (head-good m colon ps [] (b.inner (suc m) ++ (c.lines_of m ++ ls)) false tt (λ d. b.good m (c.lines_of m ++ ls) (c.follows m ls f)));
        reads = λ m at ls f.
            let behind_it : List SourceLine = c.lines_of m ++ ls in
            let inner : List SourceLine = b.inner (suc m) ++ behind_it in
            let there = (at + size (codes "if")) + 1 in
            let sign = at + size (letters ps) in
            let block_text : List Token = behind (colon_end sign) (next_at (colon_end sign) inner) m inner in
            let tokens : List Token = tokens_from there a.pieces ++ token k.Colon sign ∷ block_text in
            let text_is : opened at (ps ++ colon) m ((b.inner (suc m) ++ c.lines_of m) ++ ls) ≡ token k.If at ∷ tokens =
            ap (λ (l : List SourceLine). opened at (ps ++ colon) m l) (append_assoc (b.inner (suc m)) (c.lines_of m) ls) ∙ head-tokens at m colon ps [] inner in
            let r = a.reads n (omega arith) there (token k.Colon sign ∷ block_text) in
            let q = colon-block rule first b sign m behind_it (c.follows m ls f) in
            let z = c.reads m q.place ls f in
            let node : Stmt = record { at = at; kind = stmt.If r.tree q.trees z.trees } in
            let path : (IfStmt true n rule branch).reads (token k.If at ∷ tokens) (Low node 0) (left z.place m ls) = (
              at,
              tokens,
              mark-reads t.IF k.If at tokens refl,
              (
                Low r.tree h,
                token k.Colon sign ∷ block_text,
                r.reads,
                (
                  sign,
                  block_text,
                  mark-reads t.COLON k.Colon sign block_text refl,
                  (Low q.trees 0, left q.place m behind_it, q.reads, (Low z.trees 0, left z.place m ls, z.reads, (refl, refl))),
                ),
              ),
            ) in
            record {
              tree = node;
              place = z.place;
              same = view_if node r.tree q.trees z.trees refl
                  ∙ (ap₂ (λ (v : exprs.View) (vs : List View). if_view v vs (map view z.trees)) r.same q.same
                  ∙ (ap (λ (ws : List View). if_view (exprs.view x) (map view first) ws) z.same ∙ sym (view_if s x first second is)));
              reads = subst (λ (i : List Token). (IfStmt true n rule branch).reads i (Low node 0) (left z.place m ls)) (sym text_is) path;
            };
      }

  if-part : (at : ℕ) (x : E) (b c : Stmts) → IsPart (From 0) n x → IsBlock rule branch b → IsElse (Otherwise rule branch) c → IsBranch (IfStmt true n rule branch) (trees.if_node at x b c)
  if-part at x b c p q r = record {
    low = λ s h e.
        let f = λ (d : Expr × (List Stmt × List Stmt)). stmt.If d.0 d.1.0 d.1.1 in
        let o = stmt_node-low at (made f (both x (both b c))) s h e in
        let m = made-low f (both x (both b c)) o.kind o.below o.is in
        let u = both-low x (both b c) m.of o.below m.is in
        let v = both-low b c u.second u.second_height u.second_is in
        let is : s.kind ≡ stmt.If u.first v.first v.second = o.kind_is ∙ (m.value ∙ (ap f u.value ∙ ap (λ (d : List Stmt × List Stmt). stmt.If u.first d.0 d.1) v.value)) in
        let some = q.low v.first v.first_height v.first_is in
        record {
          again = if-again s u.first u.first_height v.first v.second is (whole-of (From 0) n u.first u.first_height (p.low u.first u.first_height u.first_is)) some.again (r.low v.second v.second_height v.second_is);
          is_if = ap (λ (w : ShownStmt). w.is_if) (if-shown s u.first v.first v.second is);
        };
  }

  pub gives-if : Gives (Expr_ true n) (IsPart (From 0) n) → Gives rule (IsBlock rule branch) → Gives branch (IsBranch branch) → Gives (IfStmt true n rule branch) (IsBranch (IfStmt true n rule branch))
  unfolding IfStmt
  gives-if expr blocks branches =
      gives-then (gives-mark t.IF) (λ at h. gives-then expr (λ x p. gives-then (gives-mark t.COLON) (λ c g. gives-then blocks (λ first q. gives-then (gives-otherwise rule branch blocks branches) (λ second r.
      gives-pure (trees.if_node at x first second) (IsBranch (IfStmt true n rule branch)) (if-part at x first second p q r))))))
