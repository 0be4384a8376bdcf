use Rattle.std.proofs.Common.{nat_eq}
use Rattle.std.specs.HashMap.{get}
use Rattle.wy_term.specs.Nodes.{tree_at}
use Rattle.wy_cong.specs.Firsts.{HaveKinds}
use Rattle.wy_cong.specs.Seen.{terms_of}
use Rattle.wy_cong.proofs.firsts.first_kinds.Given as goal

abbrev pub invariant-loop-i : goal.invariant-loop-i
invariant-loop-i l = HaveKinds (terms_of (tree_at l.terms) l.present) l.labels (tree_at l.terms) l.kinds (get nat_eq l.firsts) l.i
