use Rattle.std.proofs.Common.{◌≡◌, ◌+◌, ◌-◌, ℕ, List}
use Rattle.wy_term_subst.specs.Names.{top, first_free}
use Rattle.wy_term_subst.specs.View.{Counts}
use Rattle.wy_term_subst.proofs.names.first_free.Given as goal

abbrev pub invariant-loop-least : goal.invariant-loop-least
invariant-loop-least l = (ns : List ℕ) → Counts l.taken ns → first_free (top ns + 1 - l.least) l.least ns ≡ first_free (top ns + 1) 0 ns
