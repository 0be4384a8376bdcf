-- Each token as a piece.
use Rattle.std.proofs.Common.{[], ◌∷◌, codes, refl}
use lib.Utf8.{encode}
use Rattle.wy_parse_front.specs.wy_lex.declared.token.TokenKind.TheVariants as k
use Rattle.wy_parse_front.specs.wy_lex.declared.symbol.Character.TheVariants as class
use Rattle.wy_parse_front.specs.wy_lex.Kinds.{word_kind}
use Rattle.wy_print_laws.proofs.round_lemmas.Pieces.{IsMark}
use Rattle.wy_print_laws.proofs.round_lemmas.Marks.{lower-mark, single-mark, double-mark}

-- ---- words

pub null-mark : IsMark k.Null (codes "null") class.Part
unfolding word_kind encode
null-mark = lower-mark k.Null 110 (117 ∷ 108 ∷ 108 ∷ []) refl refl refl

pub bool-mark : IsMark k.Bool (codes "bool") class.Part
unfolding word_kind encode
bool-mark = lower-mark k.Bool 98 (111 ∷ 111 ∷ 108 ∷ []) refl refl refl

pub int-mark : IsMark k.Int (codes "int") class.Part
unfolding word_kind encode
int-mark = lower-mark k.Int 105 (110 ∷ 116 ∷ []) refl refl refl

pub any-mark : IsMark k.Any (codes "any") class.Part
unfolding word_kind encode
any-mark = lower-mark k.Any 97 (110 ∷ 121 ∷ []) refl refl refl

pub void-mark : IsMark k.Void (codes "void") class.Part
unfolding word_kind encode
void-mark = lower-mark k.Void 118 (111 ∷ 105 ∷ 100 ∷ []) refl refl refl

pub true-mark : IsMark k.True (codes "true") class.Part
unfolding word_kind encode
true-mark = lower-mark k.True 116 (114 ∷ 117 ∷ 101 ∷ []) refl refl refl

pub false-mark : IsMark k.False (codes "false") class.Part
unfolding word_kind encode
false-mark = lower-mark k.False 102 (97 ∷ 108 ∷ 115 ∷ 101 ∷ []) refl refl refl

pub is-mark : IsMark k.Is (codes "is") class.Part
unfolding word_kind encode
is-mark = lower-mark k.Is 105 (115 ∷ []) refl refl refl

pub in-mark : IsMark k.In (codes "in") class.Part
unfolding word_kind encode
in-mark = lower-mark k.In 105 (110 ∷ []) refl refl refl

pub all-mark : IsMark k.All (codes "all") class.Part
unfolding word_kind encode
all-mark = lower-mark k.All 97 (108 ∷ 108 ∷ []) refl refl refl

pub some-mark : IsMark k.Some (codes "some") class.Part
unfolding word_kind encode
some-mark = lower-mark k.Some 115 (111 ∷ 109 ∷ 101 ∷ []) refl refl refl

-- ---- symbols

pub minus-mark : IsMark k.Minus (45 ∷ []) (class.Is 62)
minus-mark = single-mark 45 refl refl

pub dot-mark : IsMark k.Dot (46 ∷ []) (class.Is 46)
dot-mark = single-mark 46 refl refl

pub range-mark : IsMark k.Range (46 ∷ 46 ∷ []) class.Nothing
range-mark = double-mark 46 46 refl refl refl refl

pub colon-mark : IsMark k.Colon (58 ∷ []) class.Nothing
colon-mark = single-mark 58 refl refl

pub semicolon-mark : IsMark k.Semicolon (59 ∷ []) class.Nothing
semicolon-mark = single-mark 59 refl refl

pub open_paren-mark : IsMark k.OpenParen (40 ∷ []) class.Nothing
open_paren-mark = single-mark 40 refl refl

pub close_paren-mark : IsMark k.CloseParen (41 ∷ []) class.Nothing
close_paren-mark = single-mark 41 refl refl

pub open_bracket-mark : IsMark k.OpenBracket (91 ∷ []) class.Nothing
open_bracket-mark = single-mark 91 refl refl

pub close_bracket-mark : IsMark k.CloseBracket (93 ∷ []) class.Nothing
close_bracket-mark = single-mark 93 refl refl

pub open_brace-mark : IsMark k.OpenBrace (123 ∷ []) class.Nothing
open_brace-mark = single-mark 123 refl refl

pub close_brace-mark : IsMark k.CloseBrace (125 ∷ []) class.Nothing
close_brace-mark = single-mark 125 refl refl

pub comma-mark : IsMark k.Comma (44 ∷ []) class.Nothing
comma-mark = single-mark 44 refl refl

pub not-mark : IsMark k.Not (33 ∷ []) (class.Is 61)
not-mark = single-mark 33 refl refl

pub ampersand-mark : IsMark k.Ampersand (38 ∷ []) (class.Is 38)
ampersand-mark = single-mark 38 refl refl

pub bar-mark : IsMark k.Bar (124 ∷ []) (class.Is 124)
bar-mark = single-mark 124 refl refl
