use Rattle.std.proofs.Common.{◌≡◌, drop}
use Rattle.wy_subtype_parts.specs.Fields as at_field
use Rattle.wy_subtype_parts.proofs.record_fields.all_have.Given as goal

abbrev pub invariant-loop-conjunct : goal.invariant-loop-conjunct
invariant-loop-conjunct l = at_field.all_have l.name (drop l.conjunct-index l.conjuncts) ≡ at_field.all_have l.name l.conjuncts
