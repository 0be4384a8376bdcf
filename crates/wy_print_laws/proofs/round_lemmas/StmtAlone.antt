-- A statement as the whole of a source.
use Rattle.std.proofs.Common.{◌≡◌, ℕ, ◌+◌, List, [], ◌∷◌, ◌++◌, refl, sym, ap, ◌∙◌, subst, arith, append-nil}
use Rattle.wy_ast.specs.declared.statements.Stmt.{Stmt}
use Rattle.wy_parse_front.specs.wy_lex.declared.token.Token.{Token}
use Rattle.wy_parse_front.specs.wy_lex.Lists.{Each, IsProper}
use Rattle.wy_parse_front.specs.wy_lex.Source.{Tokens}
use Rattle.wy_parse_front.specs.wy_parse_grammar.declared.measured.Measured.TheVariants.{Low}
use Rattle.wy_parse_front.specs.wy_parse_grammar.Steps.{R}
use Rattle.wy_parse_front.specs.wy_parse.StmtTrees.{S}
use Rattle.wy_print_laws.proofs.round_lemmas.Pieces.{Piece, letters, size, tokens_from}
use Rattle.wy_print_laws.proofs.round_lemmas.Segments.{text_of}
use Rattle.wy_print_laws.specs.round.StatementRound.{StatementOn, StatementAgain}
use Rattle.wy_print_laws.proofs.round_lemmas.Lines.{Line, behind, next_at}
use Rattle.wy_print_laws.proofs.round_lemmas.Lines.Line.{fresh}
use Rattle.wy_print_laws.proofs.round_lemmas.LineRuns.{lines_text, source_tokens, source-lines}
use Rattle.wy_print_laws.proofs.round_lemmas.StmtShown.{View}
use Rattle.wy_print_laws.proofs.round_lemmas.StmtLines.{Follows, left, left-begun, begun-text}
use Rattle.wy_print_laws.proofs.round_lemmas.StmtOne.{StmtAgain}
use Rattle.wy_print_laws.proofs.round_lemmas.StmtNests.{gives-statement_on}

-- lines at the top are cut into what is left behind nothing
pub lines-cut : (ps : List Piece) (ls : List Line) → Follows 0 (fresh 0 ps ∷ ls) → Tokens (lines_text (fresh 0 ps ∷ ls)) (left 0 0 (fresh 0 ps ∷ ls))
lines-cut ps ls f =
    let there : size (letters ps) ≡ 0 + size (letters ps) = omega arith in
    let same : source_tokens ps ls ≡ left 0 0 (fresh 0 ps ∷ ls) = ap (λ (z : ℕ). tokens_from 0 ps ++ behind z (next_at z ls) 0 ls) there ∙ sym (left-begun 0 0 ps ls) in
    subst (λ (ts : List Token). Tokens (lines_text (fresh 0 ps ∷ ls)) ts) same (source-lines ps ls f.1 f.2 f.3)

alone : (rule : R S) (s : Stmt) → StmtAgain rule s → StatementAgain rule s
alone rule s a =
    let lines : List Line = a.rest 0 ++ [] in
    let follows : Follows 0 (fresh 0 a.first ∷ lines) = (omega arith, a.is_body, a.own, a.good 0 [] tt) in
    let r = a.reads 0 0 [] tt in
    let text_is = begun-text 0 a.first lines ∙ (ap (λ (l : List Line). text_of a.first ++ 10 ∷ lines_text l) (append-nil (a.rest 0)) ∙ a.spelled 0) in
    record {
      tokens = left 0 0 (fresh 0 a.first ∷ lines);
      cut = subst (λ (l : List ℕ). Tokens l (left 0 0 (fresh 0 a.first ∷ lines))) text_is (lines-cut a.first lines follows);
      tree = r.tree;
      same = ap (λ (v : View). v.0) r.same;
      same_text = λ margin. ap (λ (v : View). v.1.text margin) r.same;
      end = r.place;
      reads = subst (λ (i : List Token). rule.reads i (Low r.tree 0) (left r.place 0 [])) (sym (left-begun 0 0 a.first lines)) r.reads;
    }

pub statement-again : (d w : ℕ) (i : List Token) (s : Stmt) (h : ℕ) (j : List Token) → Each IsProper i → (StatementOn d w).reads i (Low s h) j → StatementAgain (StatementOn d w) s
statement-again d w i s h j proper r =
    let part = ((gives-statement_on d w).gives i (Low s h) j r proper).0 in
    alone (StatementOn d w) s (part.low s h refl).again
