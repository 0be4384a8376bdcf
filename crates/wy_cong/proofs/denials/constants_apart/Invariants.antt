use Rattle.std.proofs.Common.{◌≡◌, drop, map}
use Rattle.wy_search_spec.specs.Classes.{constants_apart}
use Rattle.wy_term.specs.Nodes.{tree_at}
use Rattle.wy_cong.specs.Seen.{terms_of}
use Rattle.wy_cong.proofs.denials.constants_apart.Given as goal

abbrev pub invariant-loop-i : goal.invariant-loop-i
invariant-loop-i l = constants_apart (terms_of (tree_at l.terms) l.present) l.labels (tree_at l.terms l.s) (map (tree_at l.terms) (drop l.i l.present.numbers.items)) ≡ constants_apart (terms_of (tree_at l.terms) l.present) l.labels (tree_at l.terms l.s) (terms_of (tree_at l.terms) l.present)
