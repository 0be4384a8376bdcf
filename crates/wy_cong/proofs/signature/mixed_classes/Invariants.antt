use Rattle.std.proofs.Common.{◌≡◌, drop, map}
use Rattle.wy_term.specs.Nodes.{tree_at}
use Rattle.wy_cong.specs.Seen.{terms_of}
use Rattle.wy_cong.specs.Signatures.{class_at, mixed_all}
use Rattle.wy_cong.proofs.signature.mixed_classes.Given as goal

abbrev pub invariant-loop-i : goal.invariant-loop-i
invariant-loop-i l = mixed_all l.key (map (class_at (terms_of (tree_at l.terms) l.present) l.labels (tree_at l.terms)) (drop l.i l.parts)) ≡ mixed_all l.fn.key (map (class_at (terms_of (tree_at l.terms) l.present) l.labels (tree_at l.terms)) l.parts)
