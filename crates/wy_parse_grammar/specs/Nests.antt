-- Function values that read what stands on a level.
use Rattle.std.specs.Prelude.{ℕ, List, Result}
use Rattle.std.specs.declared.alloc.Global.{Global}
use Rattle.wy_reading.specs.declared.stop.Stop.{Stop}
use Rattle.wy_reading.specs.Reader.{Reads}
use Rattle.wy_lex.specs.declared.token.Token.{Token}
use Rattle.wy_parse_grammar.specs.declared.fault.Kind.{Kind}
use Rattle.wy_parse_grammar.specs.Steps.{Q}
use denote.Ref.{Bor}

-- the function value may be called on the level, and reads there what the reader does
pub record Nests {A : Type 0} (q : ℕ → Q A) (levels : ℕ) (pre : Global → Bor (List Token) → ℕ → Type 0)
    (post : Global → Bor (List Token) → ℕ → Result (A × Bor (List Token)) (Stop Kind) → Type 0) : Type 0 where
  pub callable : (alloc : Global) (tokens : Bor (List Token)) → pre alloc tokens levels
  pub reads : (alloc : Global) (tokens : Bor (List Token)) (r : Result (A × Bor (List Token)) (Stop Kind)) → post alloc tokens levels r → Reads (q levels tokens.now) r
