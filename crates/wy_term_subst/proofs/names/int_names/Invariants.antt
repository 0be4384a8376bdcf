use Rattle.std.proofs.Common.{◌≡◌, ℕ, List, take}
use Rattle.std.specs.HashSet.{contains}
use Rattle.wy_term_subst.specs.Names.{names_it}
use Rattle.wy_term_subst.specs.View.{any_at, same_name}
use Rattle.wy_term_subst.proofs.names.int_names.Given as goal

abbrev pub invariant-loop-k : goal.invariant-loop-k
invariant-loop-k l = (w : List ℕ) (n : ℕ) → contains same_name l.names.names (w, n) ≡ any_at l.terms (names_it w n) (take l.k-index l.all)
