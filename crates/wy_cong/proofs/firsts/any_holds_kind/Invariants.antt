use Rattle.std.proofs.Common.{◌<◌, ℕ, nat_eq}
use Rattle.std.specs.HashMap.{get}
use Rattle.wy_term.specs.Nodes.{tree_at}
use Rattle.wy_cong.specs.Firsts.{IsOther}
use Rattle.wy_cong.specs.Seen.{terms_of}
use Rattle.wy_cong.proofs.firsts.any_holds_kind.Given as goal

abbrev pub invariant-loop-i : goal.invariant-loop-i
invariant-loop-i l = (j : ℕ) → j < l.i → IsOther (terms_of (tree_at l.terms) l.present) l.labels (tree_at l.terms) l.kinds (get nat_eq l.firsts) l.denied j
