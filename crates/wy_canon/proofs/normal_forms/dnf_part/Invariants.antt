use Rattle.std.proofs.Common.{◌≡◌, drop}
use Rattle.wy_types.specs.Conjuncts as conjuncts
use Rattle.wy_canon.proofs.normal_forms.dnf_part.Given as goal

abbrev pub invariant-loop-signed : goal.invariant-loop-signed
invariant-loop-signed l = record { value : conjuncts.dnf_more l.table l.depth l.made (drop l.signed-index l.others) ≡ conjuncts.dnf_part l.table l.depth l.part; width : conjuncts.narrow_more l.table l.depth l.made (drop l.signed-index l.others) ≡ conjuncts.narrow_part l.table l.depth l.part }
