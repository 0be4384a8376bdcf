use Rattle.std.proofs.Common.{ℕ, length}
use Rattle.wy_term.specs.Term.{Term}
use Rattle.wy_term_subst.specs.View.{Kept}
use Rattle.wy_term_subst.specs.Walk.{IsOpen, Ask, Fits, Avoids, GoesOn}
use Rattle.wy_term_subst.proofs.walk.run.Given as goal

-- the open term leads to what the first one was to lead to
abbrev pub invariant-loop-turn : goal.invariant-loop-turn
invariant-loop-turn l = record {
  fits : Fits l.terms l.walk;
  current : IsOpen l.terms (length l.walk.scopes.items) l.current;
  kept : Kept l.fn.terms l.terms;
  leads : (u : Term) (base : ℕ) (ask : Ask) → Avoids l.avoided u → GoesOn l.fn.terms l.fn.walk u base ask l.fn.first → GoesOn l.terms l.walk u base ask l.current;
}
