use Rattle.std.proofs.Common.{◌≡◌, ◌++◌, drop}
use Rattle.wy_types.specs.Numbering as numbering
use Rattle.wy_types.specs.SeenTypes as seen
use Rattle.wy_types.proofs.tree_numbers.+put.Given as goal

abbrev pub invariant-put_fields-loop-field : goal.invariant-put_fields-loop-field
invariant-put_fields-loop-field l = record {
  nodes : (numbering.put_fields l.nodes (seen.seen_fields (drop l.field-index l.fields))).0 ≡ (numbering.put_fields l.fn.nodes (seen.seen_fields l.fields)).0;
  made : l.made ++ (numbering.put_fields l.nodes (seen.seen_fields (drop l.field-index l.fields))).1 ≡ (numbering.put_fields l.fn.nodes (seen.seen_fields l.fields)).1;
}

abbrev pub invariant-put_conjuncts-loop-conjunct : goal.invariant-put_conjuncts-loop-conjunct
invariant-put_conjuncts-loop-conjunct l = record {
  nodes : (numbering.put_conjuncts l.nodes (seen.seen_conjuncts (drop l.conjunct-index l.conjuncts))).0 ≡ (numbering.put_conjuncts l.fn.nodes (seen.seen_conjuncts l.conjuncts)).0;
  made : l.made ++ (numbering.put_conjuncts l.nodes (seen.seen_conjuncts (drop l.conjunct-index l.conjuncts))).1 ≡ (numbering.put_conjuncts l.fn.nodes (seen.seen_conjuncts l.conjuncts)).1;
}

abbrev pub invariant-put_atoms-loop-atom : goal.invariant-put_atoms-loop-atom
invariant-put_atoms-loop-atom l = record {
  nodes : (numbering.put_atoms l.nodes (seen.seen_atoms (drop l.atom-index l.atoms))).0 ≡ (numbering.put_atoms l.fn.nodes (seen.seen_atoms l.atoms)).0;
  made : l.made ++ (numbering.put_atoms l.nodes (seen.seen_atoms (drop l.atom-index l.atoms))).1 ≡ (numbering.put_atoms l.fn.nodes (seen.seen_atoms l.atoms)).1;
}

abbrev pub invariant-put_parts-loop-part : goal.invariant-put_parts-loop-part
invariant-put_parts-loop-part l = record {
  nodes : (numbering.put_parts l.nodes (seen.seen_parts (drop l.part-index l.parts))).0 ≡ (numbering.put_parts l.fn.nodes (seen.seen_parts l.parts)).0;
  made : l.made ++ (numbering.put_parts l.nodes (seen.seen_parts (drop l.part-index l.parts))).1 ≡ (numbering.put_parts l.fn.nodes (seen.seen_parts l.parts)).1;
}

abbrev pub invariant-put_terms-loop-signed : goal.invariant-put_terms-loop-signed
invariant-put_terms-loop-signed l = record {
  nodes : (numbering.put_terms l.nodes (seen.seen_terms (drop l.signed-index l.terms))).0 ≡ (numbering.put_terms l.fn.nodes (seen.seen_terms l.terms)).0;
  made : l.made ++ (numbering.put_terms l.nodes (seen.seen_terms (drop l.signed-index l.terms))).1 ≡ (numbering.put_terms l.fn.nodes (seen.seen_terms l.terms)).1;
}
