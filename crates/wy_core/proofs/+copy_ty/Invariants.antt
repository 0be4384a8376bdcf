use Rattle.std.proofs.Common.{◌≡◌, take}
use Rattle.wy_core.proofs.+copy_ty.Given as goal

abbrev pub invariant-copies::type_copies::copy_fields-loop-field : goal.invariant-copies::type_copies::copy_fields-loop-field
invariant-copies::type_copies::copy_fields-loop-field l = l.made ≡ take l.field-index l.all

abbrev pub invariant-copies::type_copies::copy_conjuncts-loop-conjunct : goal.invariant-copies::type_copies::copy_conjuncts-loop-conjunct
invariant-copies::type_copies::copy_conjuncts-loop-conjunct l = l.made ≡ take l.conjunct-index l.all

abbrev pub invariant-copies::type_copies::copy_atoms-loop-atom : goal.invariant-copies::type_copies::copy_atoms-loop-atom
invariant-copies::type_copies::copy_atoms-loop-atom l = l.made ≡ take l.atom-index l.all

abbrev pub invariant-copies::type_copies::copy_parts-loop-part : goal.invariant-copies::type_copies::copy_parts-loop-part
invariant-copies::type_copies::copy_parts-loop-part l = l.made ≡ take l.part-index l.all

abbrev pub invariant-copies::type_copies::copy_terms-loop-term : goal.invariant-copies::type_copies::copy_terms-loop-term
invariant-copies::type_copies::copy_terms-loop-term l = l.made ≡ take l.term-index l.all
