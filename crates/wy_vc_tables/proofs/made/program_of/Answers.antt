use Rattle.std.proofs.Common.{◌∙◌, List, Bool, ap}
use Rattle.wy_vc_tables.specs.sizes.Marks.{mark_at}
use Rattle.wy_vc_tables.proofs.TableLemmas.{described_by}
use Rattle.wy_vc_tables.proofs.made.program_of.Goals as goal

pub returns-clause-described : goal.returns-clause-described
returns-clause-described c =
    described_by c.args.core.now (record { types = c.in_ok-types.types; routines = c.in_ok-tables.tables.routines; constrained = c.into_vec.result; is_number = c.args.is_number })
    c.as_slice.result.now c.in_ok-tables.tables.places.items c.as_slice-4.result.now c.in_ok-tables.tables.entries.items c.as_slice-2.result.now c.as_slice-3.result.now c.in_ok-marks.marks c.as_slice-5.result.now
    c.as_slice.ensures c.in_ok-tables.ensures.places c.as_slice-4.ensures.value c.as_slice-5.ensures c.in_ok-types.ensures.value
    c.in_ok-tables.ensures.entries c.as_slice-2.ensures.value c.in_ok-marks.ensures.value
    c.as_slice-3.ensures.value (λ n. ap (λ (l : List Bool). mark_at l n) c.into_vec.ensures ∙ c.in_ok-reached.ensures.value n)
    c.in_ok-tables.ensures.routines
