use Rattle.std.proofs.Common.{◌≡◌, [], drop}
use Rattle.wy_subtype_parts.specs.Items as items
use Rattle.wy_subtype_parts.proofs.array_items.elements.Given as goal

abbrev pub invariant-loop-conjunct : goal.invariant-loop-conjunct
invariant-loop-conjunct l = record { value : items.elements l.table l.depth l.all (drop l.conjunct-index l.conjuncts) ≡ items.elements l.table l.depth [] l.conjuncts; width : items.narrow_elements l.table l.depth (drop l.conjunct-index l.conjuncts) ≡ items.narrow_elements l.table l.depth l.conjuncts }
