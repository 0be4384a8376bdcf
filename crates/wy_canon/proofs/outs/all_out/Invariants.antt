use Rattle.std.proofs.Common.{◌≡◌, drop}
use Rattle.wy_types.specs.Conjuncts.{same_term}
use Rattle.wy_types.specs.Merge as merging
use Rattle.wy_canon.proofs.outs.all_out.Given as goal

abbrev pub invariant-loop-conjunct : goal.invariant-loop-conjunct
invariant-loop-conjunct l = record { value : merging.merge_outs same_term l.made (drop l.conjunct-index l.others) ≡ merging.all_out same_term l.conjuncts; width : merging.narrow_outs same_term l.made (drop l.conjunct-index l.others) ≡ merging.narrow_all_out same_term l.conjuncts }
