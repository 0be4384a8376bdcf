-- Types and expressions that were read are read again from their texts.
use Rattle.std.proofs.Common.{◌≡◌, ℕ, Bool, true, false, List, refl, ap, subst, arith}
use Rattle.wy_ast.specs.declared.types.Ty.{Ty}
use Rattle.wy_ast.specs.declared.expressions.Expr.{Expr}
use Rattle.wy_parse_front.specs.wy_lex.declared.token.Token.{Token}
use Rattle.wy_parse_front.specs.wy_lex.declared.symbol.Character.TheVariants as class
use Rattle.wy_parse_front.specs.wy_lex.Lists.{Each, IsProper}
use Rattle.wy_print.specs.TypeText.{ty_text}
use Rattle.wy_print.specs.ExprText.{shown, expr_text}
use Rattle.wy_parse_front.specs.wy_parse_grammar.declared.measured.Measured.TheVariants.{Low}
use Rattle.wy_parse_front.specs.wy_parse_grammar.TypeGrammar.{Type_}
use Rattle.wy_parse_front.specs.wy_parse_grammar.ExprGrammar.{Expr_}
use Rattle.wy_print_laws.specs.round.RoundTrip.{IsLineOf, TypeAgain, ExprAgain}
use Rattle.wy_print_laws.proofs.round_lemmas.Pieces.{Piece, tokens_from}
use Rattle.wy_print_laws.proofs.round_lemmas.Segments.{text_of, before-blank, Item}
use Rattle.wy_print_laws.proofs.round_lemmas.Sources.{one-line}
use Rattle.wy_print_laws.proofs.round_lemmas.TypeRound as types
use Rattle.wy_print_laws.proofs.round_lemmas.ExprShown as exprs
use Rattle.wy_print_laws.proofs.round_lemmas.ExprLines as lines
use Rattle.wy_print_laws.proofs.round_lemmas.ExprGives.{gives-level}

-- an item is a line by itself
item-line : (b e : Bool) (ps : List Piece) (text : List ℕ) → text_of ps ≡ text → Item b e ps → IsLineOf text (tokens_from 0 ps)
item-line b e ps text f h = subst (λ (l : List ℕ). IsLineOf l (tokens_from 0 ps)) f (one-line ps h.leads (h.segment.linked class.Blank (before-blank, λ x. refl)) (h.closed.closed 0))

pub type-again : (levels : ℕ) (i : List Token) (ty : Ty) (height : ℕ) (j : List Token) → Each IsProper i → (Type_ levels).reads i (Low ty height) j → TypeAgain levels ty height
unfolding Type_
type-again levels i ty height j proper r =
    let part = (types.gives-type levels).gives i (Low ty height) j r proper in
    let a = types.whole-of levels ty height (part.0.low ty height refl) in
    record {
      tokens = tokens_from 0 a.pieces;
      cut = item-line false false a.pieces (ty_text ty) a.spelled a.item;
      again = λ l.
          let q = a.reads levels (omega arith) 0 l in
          record { tree = q.tree; same = ap (λ (v : types.View). v.0) q.same; same_text = ap (λ (v : types.View). v.1.text) q.same; reads = q.reads };
    }

pub expr-again : (levels : ℕ) (i : List Token) (expr : Expr) (height : ℕ) (j : List Token) → Each IsProper i → (Expr_ true levels).reads i (Low expr height) j → ExprAgain levels expr height
expr-again levels i expr height j proper r =
    let part = (gives-level levels).expr.gives i (Low expr height) j r proper in
    let a = lines.whole-of (lines.From 0) levels expr height (part.0.low expr height refl) in
    record {
      tokens = tokens_from 0 a.pieces;
      cut = item-line (shown expr).begins (shown expr).ends a.pieces (expr_text expr) a.spelled a.item;
      again = λ l.
          let q = a.reads levels (omega arith) 0 l in
          record { tree = q.tree; same = ap (λ (v : exprs.View). v.0) q.same; same_text = ap (λ (v : exprs.View). v.1.text) q.same; reads = q.reads };
    }
