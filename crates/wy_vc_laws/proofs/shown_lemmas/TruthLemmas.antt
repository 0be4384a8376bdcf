-- Where a program's conditions have valid certificates, they are true.
use Rattle.std.proofs.Common.{List, [], ◌∷◌}
use Rattle.wy_check_laws.specs.wy_term.Term.{Term}
use Rattle.wy_check_laws.specs.wy_term.Sorts.{formula_sort}
use Rattle.wy_check_laws.specs.wy_term.Condition.{Entry, Condition}
use Rattle.wy_check_laws.specs.sound.Sortedness.{AreFormulas, AreSortedEntries}
use Rattle.wy_vc_laws.specs.shown.Certified.{IsFormed, AreFormed}
use Rattle.wy_vc_laws.proofs.shown_lemmas.CertifiedLemmas.{certified_conditions_hold}
use Rattle.wy_sound_terms.specs.formed.OwedConditions.{AllHave, AllTold, IsWellFormed, AreWellFormed, owed_conditions}
use Rattle.wy_sound_terms.proofs.formed_lemmas.OwedLemmas.{conditions_formed}
use Rattle.wy_vc_laws.specs.shown.Truths.{OwedConditionsMeetPremises, CertifiedProgramsOweTruths}

are_formulas : (fs : List Term) → AllHave formula_sort fs → AreFormulas fs
are_formulas [] h = tt
are_formulas (f ∷ fs) h = (h.0, are_formulas fs h.1)

are_entries : (es : List Entry) → AllTold formula_sort es → AreSortedEntries es
are_entries [] h = tt
are_entries (e ∷ es) h = (h.0, are_entries es h.1)

is_formed : (c : Condition) → IsWellFormed c → IsFormed c
is_formed c h = record { sorted = record { hyps = are_formulas c.hyps h.hyps; goal = h.goal; types = are_entries c.types h.types }; are_closed = h.are_closed }

are_formed : (cs : List Condition) → AreWellFormed cs → AreFormed cs
are_formed [] h = tt
are_formed (c ∷ cs) h = (is_formed c h.0, are_formed cs h.1)

pub premises_met : OwedConditionsMeetPremises
premises_met core flow = are_formed (owed_conditions core flow) (conditions_formed core flow)

pub program_truths : CertifiedProgramsOweTruths
program_truths core flow bytes certs reads valid = certified_conditions_hold bytes certs (owed_conditions core flow) reads (premises_met core flow) valid
