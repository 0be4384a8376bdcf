use Rattle.std.proofs.Common.{◌≡◌, drop, nat_eq}
use Rattle.std.specs.HashSet.{contains}
use Rattle.wy_term_subst.specs.View.{all_noted}
use Rattle.wy_term_subst.proofs.within.all_noted.Given as goal

abbrev pub invariant-loop-part : goal.invariant-loop-part
invariant-loop-part l = all_noted (contains nat_eq l.noted) (drop l.part-index l.parts) ≡ all_noted (contains nat_eq l.noted) l.parts
