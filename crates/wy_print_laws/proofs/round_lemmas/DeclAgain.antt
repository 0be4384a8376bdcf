-- Declarations that are read again.
use Rattle.std.proofs.Common.{◌≡◌, ℕ, false, List, ◌∷◌, ◌++◌}
use Rattle.wy_ast.specs.declared.declarations.Decl.{Decl}
use Rattle.wy_parse_front.specs.wy_lex.declared.token.Token.{Token}
use Rattle.wy_print.specs.ProgramText.{decl_text}
use Rattle.wy_parse_front.specs.wy_parse_grammar.declared.measured.Measured.TheVariants.{Low}
use Rattle.wy_parse_front.specs.wy_parse_grammar.Steps.{R}
use Rattle.wy_parse_front.specs.wy_parse.DeclTrees.{D}
use Rattle.wy_print_laws.proofs.round_lemmas.Pieces.{Piece, colon_behind}
use Rattle.wy_print_laws.proofs.round_lemmas.Segments.{text_of}
use Rattle.wy_print_laws.proofs.round_lemmas.Lines.{Line, IsBody, Good, continues_first}
use Rattle.wy_print_laws.proofs.round_lemmas.LineRuns.{lines_text}
use Rattle.wy_print_laws.proofs.round_lemmas.StmtLines.{Follows, opened, left}
use Rattle.wy_print_laws.proofs.round_lemmas.ProgramShown.{view_decl}

-- ---- declarations

-- a rule reads a declaration that is the same but for its places; what is left stands before the lines
pub record ReadsDecl (rule : R D) (i : List Token) (d : Decl) (ls : List Line) : Type 0 where
  pub tree : Decl
  pub height : ℕ
  pub place : ℕ
  pub same : view_decl tree ≡ view_decl d
  pub reads : rule.reads i (Low tree height) (left place 0 ls)

-- lines at the top are read as the declaration
pub record DeclAgain (rule : R D) (d : Decl) : Type 0 where
  pub first : List Piece
  pub rest : List Line
  pub spelled : text_of first ++ 10 ∷ lines_text rest ≡ decl_text d
  pub is_body : IsBody first
  pub own : continues_first first ≡ false
  pub good : (ls : List Line) → Follows 0 ls → Good 0 (colon_behind false first) (rest ++ ls)
  pub reads : (at : ℕ) (ls : List Line) → Follows 0 ls → ReadsDecl rule (opened at first 0 (rest ++ ls)) d ls

pub record IsDecl (rule : R D) (d : D) : Type 0 where
  pub low : (x : Decl) (h : ℕ) → d ≡ Low x h → DeclAgain rule x

pub decl-by : (rule wide : R D) (d : D) → ((i : List Token) (x : D) (j : List Token) → rule.reads i x j → wide.reads i x j) → IsDecl rule d → IsDecl wide d
decl-by rule wide d f p = record {
  low = λ x h e.
      let a = p.low x h e in
      record {
        first = a.first;
        rest = a.rest;
        spelled = a.spelled;
        is_body = a.is_body;
        own = a.own;
        good = a.good;
        reads = λ at ls g.
            let r = a.reads at ls g in
            record { tree = r.tree; height = r.height; place = r.place; same = r.same; reads = f (opened at a.first 0 (a.rest ++ ls)) (Low r.tree r.height) (left r.place 0 ls) r.reads };
      };
}
