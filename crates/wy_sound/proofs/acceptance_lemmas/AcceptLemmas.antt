-- Where each condition of a program has a valid certificate, all of them are true.
use Rattle.std.proofs.Common.{◌≡◌, ℕ, List, [], ◌∷◌, sym, subst}
use Rattle.wy_sound.specs.acceptance.Acceptance.{AreProved}
use Rattle.wy_cert.specs.Steps.{Written}
use Rattle.wy_sound_types.proofs.wy_vc_laws_proofs.shown_lemmas.TruthLemmas.{premises_met}
use Rattle.wy_core.specs.CoreTree.{Core}
use Rattle.wy_core.specs.Types.{Ty}
use Rattle.wy_sound_programs.specs.wy_sound_terms.formed.OwedConditions.{owed_conditions}
use Rattle.wy_sound_types.specs.wy_vc_laws.shown.Certified.{AllHold, AreFormed}
use Rattle.wy_sound_types.proofs.wy_check_laws_proofs.sound_lemmas.SoundLemmas.{valid_implies_true}
use Rattle.wy_term.specs.Condition.{Condition}

all_hold : (cs : List Condition) (ss : List (List Written)) → AreFormed cs → AreProved cs ss → AllHold cs
all_hold [] ss formed proved = tt
all_hold (c ∷ cs) [] formed proved = absurd proved
all_hold (c ∷ cs) (s ∷ ss) formed proved = (valid_implies_true c s formed.0.sorted formed.0.are_closed proved.0.sorted proved.0.valid, all_hold cs ss formed.1 proved.1)

pub are_true : (core : Core ℕ) (flow : List Ty) (cs : List Condition) (ss : List (List Written)) → cs ≡ owed_conditions core flow → AreProved cs ss → AllHold (owed_conditions core flow)
are_true core flow cs ss is proved = subst AllHold is (all_hold cs ss (subst AreFormed (sym is) (premises_met core flow)) proved)
