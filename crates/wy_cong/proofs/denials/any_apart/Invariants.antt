use Rattle.std.proofs.Common.{◌≡◌, drop, map}
use Rattle.wy_search_spec.specs.Classes.{any_apart}
use Rattle.wy_term.specs.Nodes.{tree_at}
use Rattle.wy_cong.specs.Seen.{terms_of}
use Rattle.wy_cong.proofs.denials.any_apart.Given as goal

abbrev pub invariant-loop-i : goal.invariant-loop-i
invariant-loop-i l = any_apart (terms_of (tree_at l.terms) l.present) l.labels (map (tree_at l.terms) (drop l.i l.present.numbers.items)) ≡ any_apart (terms_of (tree_at l.terms) l.present) l.labels (terms_of (tree_at l.terms) l.present)
