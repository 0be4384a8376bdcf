-- Bodies and contracts of formed programs are such as the kinds of expressions ask for.
use Rattle.std.specs.Prelude.{◌≡◌, ℕ, Bool, List, true, false}
use Rattle.wy_core.specs.Types.{Ty}
use Rattle.wy_core.specs.CoreTree.{Expr, Stmts}
use Rattle.wy_core.specs.formed.Offers.{Offers, IsCall}
use Rattle.wy_core.specs.formed.Bound.{Scope, Around, BoundTy, BoundClauses, BoundStmts}
use Rattle.wy_core.specs.formed.Calls.{Nothing, MayCall, CallsClauses, CallsStmts}
use Rattle.wy_core.specs.formed.Literals.{IntsClauses, IntsStmts}
use Rattle.wy_core.specs.formed.Sizes.{IsSmall}
use Rattle.wy_core.specs.formed.Wholes.{IsQuiet, EachClause, EachWholeIn}
use Rattle.wy_sound_statements.specs.wy_sound_kinds.fits.Fit.{ClausesReady}
use Rattle.wy_sound_programs.specs.Along.{Allowed}
use Rattle.wy_sound_programs.specs.Made.{all_marked, AllMade}

-- what a program offers may be asked about and called
pub record Offering (o : Offers) (a : Allowed) : Type 0 where
  pub tested : (t : Ty) → BoundTy o.types t → a.rules.tested t ≡ true
  pub called : (f n : ℕ) → IsCall o true f n → a.rules.called f n ≡ true
  pub stated : (f n : ℕ) → IsCall o false f n → a.statements f n ≡ true

pub record FormedBodiesAreMade : Type 0 where
  pub body : (o : Offers) (a : Allowed) (around : Around) (vs : Scope) (method : Bool) (block : Stmts ℕ) → Offering o a → BoundStmts o a.many around vs block → CallsStmts (MayCall o method) block → IntsStmts block → EachWholeIn IsQuiet block → EachWholeIn IsSmall block → AllMade a block
  pub clauses : (o : Offers) (a : Allowed) (vs : Scope) (es : List (Expr ℕ)) → Offering o a → BoundClauses o a.many vs es → CallsClauses Nothing es → IntsClauses es → EachClause IsSmall es → ClausesReady a.rules a.many all_marked es
