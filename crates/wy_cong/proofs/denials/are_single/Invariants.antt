use Rattle.std.proofs.Common.{◌<◌, ℕ, nat_eq}
use Rattle.std.specs.HashMap.{get}
use Rattle.std.specs.Prelude.{slice_index}
use Rattle.wy_term.specs.Nodes.{tree_at}
use Rattle.wy_cong.specs.Seen.{terms_of}
use Rattle.wy_cong.specs.Signatures.{IsNoted, IsTold}
use Rattle.wy_cong.proofs.denials.are_single.Given as goal

abbrev pub invariant-loop-i : goal.invariant-loop-i
invariant-loop-i l = record {
  each : (j : ℕ) → j < l.i → IsNoted l.terms (terms_of (tree_at l.terms) l.present) l.labels (get nat_eq l.groups.found) (slice_index l.present.numbers.items j);
  told : IsTold l.groups;
}
