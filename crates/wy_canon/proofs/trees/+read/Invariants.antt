use Rattle.std.proofs.Common.{◌≡◌, ℕ, ◌+◌, ◌*◌, take, map, List, Bool}
use Rattle.wy_types.specs.wy_core.Types.{Ty, Part}
use Rattle.wy_types.specs.wy_core.CoreSeen.{seen_ty, seen_conjunct, seen_atom, seen_part}
use Rattle.wy_types.specs.Reading as reading
use Rattle.wy_types.specs.SeenTypes.{seen_signed}
use Rattle.wy_canon.proofs.trees.+read.Given as goal

abbrev pub invariant-fields_at-loop-field : goal.invariant-fields_at-loop-field
invariant-fields_at-loop-field l = map {B = List ℕ × Ty} (λ f. (f.0, seen_ty f.1)) l.made ≡ map {B = List ℕ × Ty} (λ f. (f.0, reading.ty_at l.table l.depth f.1)) (take l.field-index l.fields)

abbrev pub invariant-conjuncts_at-loop-conjunct : goal.invariant-conjuncts_at-loop-conjunct
invariant-conjuncts_at-loop-conjunct l = map seen_conjunct l.made ≡ map (reading.conjunct_at (reading.ty_at l.table l.depth)) (take l.conjunct-index l.conjuncts)

abbrev pub invariant-atoms_at-loop-atom : goal.invariant-atoms_at-loop-atom
invariant-atoms_at-loop-atom l = map seen_atom l.made ≡ map (reading.atom_at (reading.ty_at l.table l.depth)) (take l.atom-index l.atoms)

abbrev pub invariant-parts_at-loop-part : goal.invariant-parts_at-loop-part
invariant-parts_at-loop-part l = map {B = List ℕ × Part} (λ f. (f.0, seen_part f.1)) l.made ≡ map {B = List ℕ × Part} (λ f. (f.0, reading.part_at (reading.ty_at l.table l.depth) f.1.terms)) (take l.part-index l.parts)

abbrev pub invariant-part_at-loop-signed : goal.invariant-part_at-loop-signed
invariant-part_at-loop-signed l = map seen_signed l.made ≡ map {B = Ty × Bool × Bool} (λ s. (reading.ty_at l.table l.depth s.term, s.up, s.inside)) (take l.signed-index l.part.terms)

abbrev pub decreases-ty_at : goal.decreases-ty_at
decreases-ty_at l = 8 * l.depth + 0

abbrev pub decreases-boxed_at : goal.decreases-boxed_at
decreases-boxed_at l = 8 * l.depth + 1

abbrev pub decreases-part_at : goal.decreases-part_at
decreases-part_at l = 8 * l.depth + 1

abbrev pub decreases-parts_at : goal.decreases-parts_at
decreases-parts_at l = 8 * l.depth + 2

abbrev pub decreases-atom_at : goal.decreases-atom_at
decreases-atom_at l = 8 * l.depth + 3

abbrev pub decreases-atoms_at : goal.decreases-atoms_at
decreases-atoms_at l = 8 * l.depth + 4

abbrev pub decreases-conjuncts_at : goal.decreases-conjuncts_at
decreases-conjuncts_at l = 8 * l.depth + 5

abbrev pub decreases-fields_at : goal.decreases-fields_at
decreases-fields_at l = 8 * l.depth + 1

abbrev pub decreases-kind_at : goal.decreases-kind_at
decreases-kind_at l = 8 * l.depth + 6
