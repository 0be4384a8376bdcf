-- A switch is read again, with its cases and its default.
use Rattle.std.proofs.Common.{◌≡◌, ℕ, suc, ◌+◌, Bool, true, false, List, [], ◌∷◌, ◌++◌, map, codes, Option, Some, None, inr, refl, sym, ap, ap₂, ◌∙◌, subst, arith, append_assoc, append-nil}
use Rattle.std.specs.Option.{option_map}
use lib.Utf8.{encode}
use Rattle.wy_reading.specs.Rule.{Then, Or}
use Rattle.wy_ast.specs.declared.expressions.Expr.{Expr}
use Rattle.wy_ast.specs.declared.statements.Stmt.{Stmt}
use Rattle.wy_ast.specs.declared.statements.StmtKind.TheVariants as stmt
use Rattle.wy_ast.specs.declared.statements.Case.{Case, roll-Case}
use Rattle.wy_parse_front.specs.wy_lex.declared.token.Token.{Token}
use Rattle.wy_parse_front.specs.wy_lex.declared.token.TokenKind.TheVariants as k
use Rattle.wy_parse_front.specs.wy_lex.declared.symbol.Character.TheVariants as class
use Rattle.wy_parse_front.specs.wy_lex.Kinds.{word_kind}
use Rattle.wy_parse_front.specs.wy_lex.Layout.{token}
use Rattle.wy_print.specs.Pieces.{line_end, listed}
use Rattle.wy_print.specs.ExprText.{shown, expr_text, expr_texts}
use Rattle.wy_print.specs.StmtText.{ShownStmt, ShownCase, block, case_lines, shown_stmt, shown_case}
use Rattle.wy_parse_front.specs.wy_parse_grammar.declared.measured.Measured.{Measured}
use Rattle.wy_parse_front.specs.wy_parse_grammar.declared.measured.Measured.TheVariants.{Low}
use Rattle.wy_parse_front.specs.wy_parse_grammar.Sorts as t
use Rattle.wy_parse_front.specs.wy_parse_grammar.Steps.{R, Mark}
use Rattle.wy_parse_front.specs.wy_parse_grammar.ExprGrammar.{E, Expr_}
use Rattle.wy_parse_front.specs.wy_parse.StmtTrees as trees
use Rattle.wy_parse_front.specs.wy_parse.StmtTrees.{Stmts, Cases}
use Rattle.wy_parse_front.specs.wy_parse.BlockGrammar.{CaseList, CaseRest, Default, LastOut}
use Rattle.wy_print_laws.proofs.round_lemmas.Pieces.{Piece, letters, size, tokens_from, colon_behind, IsMark}
use Rattle.wy_print_laws.proofs.round_lemmas.Pieces.Piece.{mark}
use Rattle.wy_print_laws.proofs.round_lemmas.Marks.{lower-mark}
use Rattle.wy_print_laws.proofs.round_lemmas.Segments.{text_of, text-both, Item}
use Rattle.wy_print_laws.proofs.round_lemmas.Commas.{mark-reads, item-any}
use Rattle.wy_print_laws.proofs.round_lemmas.Enclosed.{begins-letter, single-item}
use Rattle.wy_print_laws.proofs.round_lemmas.ExprShown as exprs
use Rattle.wy_print_laws.proofs.round_lemmas.ExprLines.{Again}
use Rattle.wy_print_laws.proofs.round_lemmas.Lines.{Line as SourceLine, margin, behind, next_at, IsBody, Good, continues_first}
use Rattle.wy_print_laws.proofs.round_lemmas.Lines.Line.{fresh}
use Rattle.wy_print_laws.proofs.round_lemmas.LineRuns.{lines_text}
use Rattle.wy_print_laws.proofs.round_lemmas.StmtShown.{View, view, CaseView, case_view, made_case, view_case, case-shown, default_text, switch-shown, switch_view, view_switch}
use Rattle.wy_print_laws.proofs.round_lemmas.StmtLines.{Follows, follows-deeper, colon-led, opened, left, left-begun, entry-new, begun-text, lines-append, block-ends}
use Rattle.wy_print_laws.proofs.round_lemmas.StmtOne.{StmtAgain, item-colon, colon, colon-text, word_gap, behind-word}
use Rattle.wy_print_laws.proofs.round_lemmas.StmtHeads.{head-good, head-text, head-tokens}
use Rattle.wy_print_laws.proofs.round_lemmas.StmtBlocks.{BlockAgain, colon_end, colon-block}
use Rattle.wy_print_laws.proofs.round_lemmas.StmtLabels.{LabelsAgain}

switch-mark : IsMark k.Switch (codes "switch") class.Part
unfolding word_kind encode
switch-mark = lower-mark k.Switch 115 (119 ∷ 105 ∷ 116 ∷ 99 ∷ 104 ∷ []) refl refl refl

case-mark : IsMark k.Case (codes "case") class.Part
unfolding word_kind encode
case-mark = lower-mark k.Case 99 (97 ∷ 115 ∷ 101 ∷ []) refl refl refl

default-mark : IsMark k.Default (codes "default") class.Part
unfolding word_kind encode
default-mark = lower-mark k.Default 100 (101 ∷ 102 ∷ 97 ∷ 117 ∷ 108 ∷ 116 ∷ []) refl refl refl

-- ---- cases that stand behind others

-- their texts
abbrev pub cases_text : ℕ → List Case → Option (List Stmt) → List ℕ
cases_text m cs d = case_lines (margin m) (map shown_case cs) ++ default_text (margin m) (option_map (map shown_stmt) d)

-- behind those that were read the rule reads these, and what is left stands before the lines
pub record ReadsCases (rule : R Cases) (i : List Token) (bs cs : List Case) (d : Option (List Stmt)) (n : ℕ) (ls : List SourceLine) : Type 0 where
  pub cases : List Case
  pub default : Option (List Stmt)
  pub place : ℕ
  pub same_cases : map case_view cases ≡ map case_view cs
  pub same_default : option_map (map view) default ≡ option_map (map view) d
  pub reads : rule.reads i (Low (bs ++ cases, default) 0) (left place n ls)

-- the rest of a switch, perhaps nothing
pub record CasesAgain (rule : CaseList → R Cases) (cs : List Case) (d : Option (List Stmt)) : Type 0 where
  pub lines_of : ℕ → List SourceLine
  pub spelled : (m : ℕ) → lines_text (lines_of m) ≡ cases_text m cs d
  pub follows : (n : ℕ) (ls : List SourceLine) → Follows n ls → Follows (suc n) (lines_of (suc n) ++ ls)
  pub reads : (n p : ℕ) (ls : List SourceLine) (bs : List Case) → Follows n ls → ReadsCases (rule (Low bs 0)) (left p (suc n) (lines_of (suc n) ++ ls)) bs cs d n ls

-- the rest of a switch that begins with a line of its own, behind cases of which P holds
pub record HeadedCases (rule : List Case → R Cases) (P : List Case → Type 0) (cs : List Case) (d : Option (List Stmt)) : Type 0 where
  pub first : List Piece
  pub rest : ℕ → List SourceLine
  pub spelled : (m : ℕ) → margin m ++ (text_of first ++ 10 ∷ lines_text (rest m)) ≡ cases_text m cs d
  pub is_body : IsBody first
  pub own : continues_first first ≡ false
  pub good : (n : ℕ) (ls : List SourceLine) → Follows n ls → Good (suc n) (colon_behind false first) (rest (suc n) ++ ls)
  pub reads : (n at : ℕ) (ls : List SourceLine) (bs : List Case) → P bs → Follows n ls → ReadsCases (rule bs) (opened at first (suc n) (rest (suc n) ++ ls)) bs cs d n ls

abbrev pub Any : List Case → Type 0
Any bs = Unit {0}

abbrev pub Nothing : List Case → Type 0
Nothing bs = bs ≡ []

pub headed-by : (rule wide : List Case → R Cases) (P Q : List Case → Type 0) (cs : List Case) (d : Option (List Stmt)) → ((bs : List Case) → Q bs → P bs × ((i : List Token) (x : Cases) (j : List Token) → (rule bs).reads i x j → (wide bs).reads i x j))
    → HeadedCases rule P cs d → HeadedCases wide Q cs d
headed-by rule wide P Q cs d f h = record {
  first = h.first;
  rest = h.rest;
  spelled = h.spelled;
  is_body = h.is_body;
  own = h.own;
  good = h.good;
  reads = λ n at ls bs q g.
      let w = f bs q in
      let r = h.reads n at ls bs w.0 g in
      record {
        cases = r.cases;
        default = r.default;
        place = r.place;
        same_cases = r.same_cases;
        same_default = r.same_default;
        reads = w.1 (opened at h.first (suc n) (h.rest (suc n) ++ ls)) (Low (bs ++ r.cases, r.default) 0) (left r.place n ls) r.reads;
      };
}

pub headed-again : (rule : CaseList → R Cases) (cs : List Case) (d : Option (List Stmt)) → HeadedCases (λ (bs : List Case). rule (Low bs 0)) Any cs d → CasesAgain rule cs d
headed-again rule cs d h = record {
  lines_of = λ m. fresh m h.first ∷ h.rest m;
  spelled = λ m. begun-text m h.first (h.rest m) ∙ h.spelled m;
  follows = λ n ls f. (omega arith, h.is_body, h.own, h.good n ls f);
  reads = λ n p ls bs f.
      let r = h.reads n p ls bs tt f in
      record {
        cases = r.cases;
        default = r.default;
        place = r.place;
        same_cases = r.same_cases;
        same_default = r.same_default;
        reads = subst (λ (i : List Token). (rule (Low bs 0)).reads i (Low (bs ++ r.cases, r.default) 0) (left r.place n ls)) (sym (left-begun p (suc n) h.first (h.rest (suc n) ++ ls))) r.reads;
      };
}

-- ---- a case

case-regroup : (m w l b c d : List ℕ) → m ++ ((w ++ l) ++ (b ++ (c ++ d))) ≡ (m ++ ((w ++ (l ++ b)) ++ c)) ++ d
case-regroup m w l b c d =
    ap (λ (x : List ℕ). m ++ x)
    (append_assoc w l (b ++ (c ++ d)) ∙ (ap (λ (x : List ℕ). w ++ x) (sym (append_assoc l b (c ++ d))) ∙ (sym (append_assoc w (l ++ b) (c ++ d)) ∙ sym (append_assoc (w ++ (l ++ b)) c d))))
    ∙ sym (append_assoc m ((w ++ (l ++ b)) ++ c) d)

case-text : text_of (word_gap k.Case (codes "case")) ≡ codes "case "
unfolding encode
case-text = refl

abbrev pub case_of : List Expr → List Stmt → Case
case_of labels body = roll-Case (record { labels = labels; body = body })

-- a case, and what follows it
abbrev pub CaseThen : R Stmts → (CaseList → R Cases) → CaseList → R Cases
CaseThen rule inner cs = Then (Mark t.CASE) (λ (at : ℕ). Then (CaseRest rule cs) inner)

pub case-headed : (rule : R Stmts) (inner : CaseList → R Cases) (labels : List Expr) (body : List Stmt) (cs : List Case) (d : Option (List Stmt)) → LabelsAgain labels → BlockAgain rule body → CasesAgain inner cs d
    → HeadedCases (λ (bs : List Case). CaseThen rule inner (Low bs 0)) Any (case_of labels body ∷ cs) d
unfolding CaseRest
case-headed rule inner labels body cs d l b z =
    let ps : List Piece = word_gap k.Case (codes "case") ++ l.pieces in
    let whole : Item true true ps = behind-word k.Case 99 (97 ∷ 115 ∷ 101 ∷ []) l.pieces case-mark (begins-letter 99 (omega arith) refl) (record { closed = λ x. refl }) l.item in
    record {
      first = ps ++ colon;
      rest = λ m. b.inner (suc m) ++ z.lines_of m;
      spelled = λ m.
          let more : List ℕ = case_lines (margin m) (map shown_case cs) in
          let last : List ℕ = default_text (margin m) (option_map (map shown_stmt) d) in
          let text : List ℕ = listed (expr_texts labels) in
          let blocked : List ℕ = block (margin m) (map shown_stmt body) in
          ap (λ (x : List ℕ). margin m ++ x)
          (head-text m colon ps [] (b.inner (suc m) ++ z.lines_of m)
          ∙ ap₂ (λ (u v : List ℕ). u ++ v) (text-both (word_gap k.Case (codes "case")) l.pieces (codes "case ") text case-text l.spelled)
          (ap₂ (λ (u v : List ℕ). u ++ 10 ∷ v) colon-text (lines-append (b.inner (suc m)) (z.lines_of m) ∙ ap₂ (λ (u v : List ℕ). u ++ v) (b.spelled (suc m)) (z.spelled m))))
          ∙ (case-regroup (margin m) (codes "case ") text blocked more last
          ∙ ap (λ (f : ShownCase). (margin m ++ (f (margin m) ++ more)) ++ last) (sym (case-shown labels body)));
      is_body = item-colon ps whole;
      own = refl;
      good = λ n ls f.
          subst (λ (x : List SourceLine). Good (suc n) (colon_behind false (ps ++ colon)) x) (sym (append_assoc (b.inner (suc (suc n))) (z.lines_of (suc n)) ls))
          (head-good (suc n) colon ps [] (b.inner (suc (suc n)) ++ (z.lines_of (suc n) ++ ls)) false tt (λ c. b.good (suc n) (z.lines_of (suc n) ++ ls) (z.follows n ls f)));
      reads = λ n at ls bs g f.
          let behind_it : List SourceLine = z.lines_of (suc n) ++ ls in
          let lines_in : List SourceLine = b.inner (suc (suc n)) ++ behind_it in
          let there = (at + size (codes "case")) + 1 in
          let sign = at + size (letters ps) in
          let block_text : List Token = behind (colon_end sign) (next_at (colon_end sign) lines_in) (suc n) lines_in in
          let tokens : List Token = tokens_from there l.pieces ++ token k.Colon sign ∷ block_text in
          let text_is : opened at (ps ++ colon) (suc n) ((b.inner (suc (suc n)) ++ z.lines_of (suc n)) ++ ls) ≡ token k.Case at ∷ tokens =
          ap (λ (x : List SourceLine). opened at (ps ++ colon) (suc n) x) (append_assoc (b.inner (suc (suc n))) (z.lines_of (suc n)) ls) ∙ head-tokens at (suc n) colon ps [] lines_in in
          let r = l.reads there (token k.Colon sign ∷ block_text) in
          let q = colon-block rule body b sign (suc n) behind_it (z.follows n ls f) in
          let c : Case = case_of r.0 q.trees in
          let w = z.reads n q.place ls (bs ++ c ∷ []) f in
          let path : (CaseThen rule inner (Low bs 0)).reads (token k.Case at ∷ tokens) (Low ((bs ++ c ∷ []) ++ w.cases, w.default) 0) (left w.place n ls) = (
            at,
            tokens,
            mark-reads t.CASE k.Case at tokens refl,
            (
              Low (bs ++ c ∷ []) 0,
              left q.place (suc n) behind_it,
              (r.0, token k.Colon sign ∷ block_text, r.2, (sign, block_text, mark-reads t.COLON k.Colon sign block_text refl, (Low q.trees 0, left q.place (suc n) behind_it, q.reads, (refl, refl)))),
              w.reads,
            ),
          ) in
          record {
            cases = c ∷ w.cases;
            default = w.default;
            place = w.place;
            same_cases = ap₂ (λ (v : CaseView) (vs : List CaseView). v ∷ vs) (view_case r.0 q.trees ∙ (ap₂ (λ (v : List exprs.View) (vs : List View). made_case v vs) r.1 q.same ∙ sym (view_case labels body))) w.same_cases;
            same_default = w.same_default;
            reads = subst (λ (i : List Token). (CaseThen rule inner (Low bs 0)).reads i (Low (bs ++ c ∷ w.cases, w.default) 0) (left w.place n ls)) (sym text_is)
                (subst (λ (x : List Case). (CaseThen rule inner (Low bs 0)).reads (token k.Case at ∷ tokens) (Low (x, w.default) 0) (left w.place n ls)) (append_assoc bs (c ∷ []) w.cases) path);
          };
    }

-- ---- a default

abbrev default_pieces : List Piece
default_pieces = mark k.Default (codes "default") class.Part ∷ []

default-body : IsBody (default_pieces ++ colon)
default-body = item-colon default_pieces
    (item-any false false default_pieces (single-item k.Default 100 (101 ∷ 102 ∷ 97 ∷ 117 ∷ 108 ∷ 116 ∷ []) class.Part default-mark (begins-letter 100 (omega arith) refl) tt (record { closed = λ d. refl })))

default_text-is : text_of (default_pieces ++ colon) ≡ codes "default:"
unfolding encode
default_text-is = refl

pub default-headed : (rule : R Stmts) (body : List Stmt) → BlockAgain rule body → HeadedCases (λ (bs : List Case). Default rule (Low bs 0)) Any [] (Some body)
unfolding Default
default-headed rule body b = record {
  first = default_pieces ++ colon;
  rest = λ m. b.inner (suc m);
  spelled = λ m. ap (λ (x : List ℕ). margin m ++ x) (ap₂ (λ (u v : List ℕ). u ++ 10 ∷ v) default_text-is (b.spelled (suc m)));
  is_body = default-body;
  own = refl;
  good = λ n ls f. b.good (suc n) ls (follows-deeper n (suc n) ls (omega arith) f);
  reads = λ n at ls bs g f.
      let deeper : Follows (suc n) ls = follows-deeper n (suc n) ls (omega arith) f in
      let lines_in : List SourceLine = b.inner (suc (suc n)) ++ ls in
      let sign = at + size (codes "default") in
      let block_text : List Token = behind (colon_end sign) (next_at (colon_end sign) lines_in) (suc n) lines_in in
      let text_is : opened at (default_pieces ++ colon) (suc n) lines_in ≡ token k.Default at ∷ token k.Colon sign ∷ block_text = head-tokens at (suc n) colon default_pieces [] lines_in in
      let q = colon-block rule body b sign (suc n) ls deeper in
      let o = block-ends q.place n ls f in
      let out : (Mark t.BLOCK_OUT).reads (left q.place (suc n) ls) o.place (left q.place n ls) = subst (λ (l : List Token). (Mark t.BLOCK_OUT).reads l o.place (left q.place n ls)) (sym o.is) (mark-reads t.BLOCK_OUT k.BlockOut o.place (left q.place n ls) refl) in
      let path : (Default rule (Low bs 0)).reads (token k.Default at ∷ token k.Colon sign ∷ block_text) (Low (bs, Some q.trees) 0) (left q.place n ls) = (
        at,
        token k.Colon sign ∷ block_text,
        mark-reads t.DEFAULT k.Default at (token k.Colon sign ∷ block_text) refl,
        (
          sign,
          block_text,
          mark-reads t.COLON k.Colon sign block_text refl,
          (Low q.trees 0, left q.place (suc n) ls, q.reads, (o.place, left q.place n ls, out, (refl, refl))),
        ),
      ) in
      record {
        cases = [];
        default = Some q.trees;
        place = q.place;
        same_cases = refl;
        same_default = ap (λ (vs : List View). Some vs) q.same;
        reads = subst (λ (i : List Token). (Default rule (Low bs 0)).reads i (Low (bs ++ [], Some q.trees) 0) (left q.place n ls)) (sym text_is)
            (subst (λ (x : List Case). (Default rule (Low bs 0)).reads (token k.Default at ∷ token k.Colon sign ∷ block_text) (Low (x, Some q.trees) 0) (left q.place n ls)) (sym (append-nil bs)) path);
      };
}

-- ---- the end of a switch

pub last-again : CasesAgain LastOut [] None
unfolding LastOut
last-again = record {
  lines_of = λ m. [];
  spelled = λ m. refl;
  follows = λ n ls f. follows-deeper n (suc n) ls (omega arith) f;
  reads = λ n p ls bs f.
      let o = block-ends p n ls f in
      let out : (Mark t.BLOCK_OUT).reads (left p (suc n) ls) o.place (left p n ls) = subst (λ (l : List Token). (Mark t.BLOCK_OUT).reads l o.place (left p n ls)) (sym o.is) (mark-reads t.BLOCK_OUT k.BlockOut o.place (left p n ls) refl) in
      record {
        cases = [];
        default = None;
        place = p;
        same_cases = refl;
        same_default = refl;
        reads = subst (λ (x : List Case). (LastOut (Low bs 0)).reads (left p (suc n) ls) (Low (x, None) 0) (left p n ls)) (sym (append-nil bs)) (o.place, left p n ls, out, (refl, refl));
      };
}

pub again-wide : (rule wide : CaseList → R Cases) (cs : List Case) (d : Option (List Stmt)) → ((bs : CaseList) (i : List Token) (x : Cases) (j : List Token) → (rule bs).reads i x j → (wide bs).reads i x j) → CasesAgain rule cs d → CasesAgain wide cs d
again-wide rule wide cs d f a = record {
  lines_of = a.lines_of;
  spelled = a.spelled;
  follows = a.follows;
  reads = λ n p ls bs g.
      let r = a.reads n p ls bs g in
      record {
        cases = r.cases;
        default = r.default;
        place = r.place;
        same_cases = r.same_cases;
        same_default = r.same_default;
        reads = f (Low bs 0) (left p (suc n) (a.lines_of (suc n) ++ ls)) (Low (bs ++ r.cases, r.default) 0) (left r.place n ls) r.reads;
      };
}

-- ---- the whole

switch-regroup : (w x c l : List ℕ) → (w ++ x) ++ (c ++ l) ≡ (w ++ (x ++ c)) ++ l
switch-regroup w x c l = append_assoc w x (c ++ l) ∙ (ap (λ (y : List ℕ). w ++ y) (sym (append_assoc x c l)) ∙ sym (append_assoc w (x ++ c) l))

switch_word-text : text_of (word_gap k.Switch (codes "switch")) ≡ codes "switch "
unfolding encode
switch_word-text = refl

-- the rule of a switch over what stands in it
abbrev pub SwitchOf : ℕ → R Cases → R (Measured Stmt)
SwitchOf n inner =
    Then (Mark t.SWITCH) (λ (at : ℕ). Then (Expr_ true n) (λ (value : E). Then (Mark t.COLON) (λ (c : ℕ). Then (Mark t.LINE_END) (λ (l : ℕ). Then (Mark t.BLOCK_IN) (λ (b : ℕ). Then inner (λ (cs : Cases).
    Rattle.wy_reading.specs.Rule.Pure (trees.switch_node at value cs)))))))

pub switch-again : (n : ℕ) (inner : R Cases) (s : Stmt) (x : Expr) (h : ℕ) (cs : List Case) (d : Option (List Stmt)) → s.kind ≡ stmt.Switch x cs d → Again n (λ m. Expr_ true m) (shown x) x h → HeadedCases (λ (bs : List Case). inner) Nothing cs d → StmtAgain (SwitchOf n inner) s
switch-again n inner s x h cs d is a z =
    let ps : List Piece = word_gap k.Switch (codes "switch") ++ a.pieces in
    let whole : Item true true ps = behind-word k.Switch 115 (119 ∷ 105 ∷ 116 ∷ 99 ∷ 104 ∷ []) a.pieces switch-mark (begins-letter 115 (omega arith) refl) (record { closed = λ c. refl }) (item-any (shown x).begins (shown x).ends a.pieces a.item) in
    let inside : ℕ → List SourceLine = λ m. fresh (suc m) z.first ∷ z.rest (suc m) in
    record {
      first = ps ++ colon;
      rest = inside;
      spelled = λ m.
          head-text m colon ps [] (inside m)
          ∙ (ap₂ (λ (u v : List ℕ). u ++ v) (text-both (word_gap k.Switch (codes "switch")) a.pieces (codes "switch ") (expr_text x) switch_word-text a.spelled)
          (ap₂ (λ (u v : List ℕ). u ++ 10 ∷ v) colon-text (begun-text (suc m) z.first (z.rest (suc m)) ∙ z.spelled (suc m)))
          ∙ (switch-regroup (codes "switch ") (expr_text x) (codes ":" ++ line_end) (cases_text (suc m) cs d)
          ∙ ap (λ (u : ShownStmt). u.text (margin m)) (sym (switch-shown s x cs d is))));
      is_body = item-colon ps whole;
      own = refl;
      good = λ m ls f.
          head-good m colon ps [] (inside m ++ ls) false tt (λ c.
          (z.is_body, z.own, inr (refl, refl), subst (λ (e : Bool). Good (suc m) e (z.rest (suc m) ++ ls)) (colon-led false true z.first z.is_body) (z.good m ls f)));
      reads = λ m at ls f.
          let there = (at + size (codes "switch")) + 1 in
          let sign = at + size (letters ps) in
          let end = colon_end sign in
          let begins = next_at end (inside m ++ ls) in
          let first_text : List Token = opened begins z.first (suc m) (z.rest (suc m) ++ ls) in
          let block_text : List Token = token k.LineEnd end ∷ token k.BlockIn begins ∷ first_text in
          let tokens : List Token = tokens_from there a.pieces ++ token k.Colon sign ∷ block_text in
          let text_is : opened at (ps ++ colon) m (inside m ++ ls) ≡ token k.Switch at ∷ tokens =
          head-tokens at m colon ps [] (inside m ++ ls) ∙ ap (λ (l : List Token). token k.Switch at ∷ (tokens_from there a.pieces ++ token k.Colon sign ∷ token k.LineEnd end ∷ (l ++ first_text))) (entry-new m begins) in
          let r = a.reads n (omega arith) there (token k.Colon sign ∷ block_text) in
          let w = z.reads m begins ls [] refl f in
          let node : Stmt = record { at = at; kind = stmt.Switch r.tree w.cases w.default } in
          let path : (SwitchOf n inner).reads (token k.Switch at ∷ tokens) (Low node 0) (left w.place m ls) = (
            at,
            tokens,
            mark-reads t.SWITCH k.Switch at tokens refl,
            (
              Low r.tree h,
              token k.Colon sign ∷ block_text,
              r.reads,
              (
                sign,
                block_text,
                mark-reads t.COLON k.Colon sign block_text refl,
                (
                  end,
                  token k.BlockIn begins ∷ first_text,
                  mark-reads t.LINE_END k.LineEnd end (token k.BlockIn begins ∷ first_text) refl,
                  (
                    begins,
                    first_text,
                    mark-reads t.BLOCK_IN k.BlockIn begins first_text refl,
                    (Low (w.cases, w.default) 0, left w.place m ls, w.reads, (refl, refl)),
                  ),
                ),
              ),
            ),
          ) in
          record {
            tree = node;
            place = w.place;
            same = view_switch node r.tree w.cases w.default refl
                ∙ (ap₂ (λ (v : exprs.View) (vs : List CaseView). switch_view v vs (option_map (map view) w.default)) r.same w.same_cases
                ∙ (ap (λ (vs : Option (List View)). switch_view (exprs.view x) (map case_view cs) vs) w.same_default ∙ sym (view_switch s x cs d is)));
            reads = subst (λ (i : List Token). (SwitchOf n inner).reads i (Low node 0) (left w.place m ls)) (sym text_is) path;
          };
    }
