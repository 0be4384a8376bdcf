-- Blocks and their ends.
use Rattle.std.proofs.Common.{◌≡◌, ℕ, suc, List, [], ◌∷◌, ◌++◌, append_assoc}
use Rattle.wy_lex.specs.declared.token.Token.{Token}
use Rattle.wy_lex.specs.declared.token.TokenKind.TheVariants as k
use Rattle.wy_lex.specs.Layout.{token, outs}

-- one more block ends
pub outs_next : (made : List Token) (n m at : ℕ) → n ≡ suc m → (made ++ token k.BlockOut at ∷ []) ++ outs m at ≡ made ++ outs n at
outs_next made n m at e = rw e (append_assoc made (token k.BlockOut at ∷ []) (outs m at))
