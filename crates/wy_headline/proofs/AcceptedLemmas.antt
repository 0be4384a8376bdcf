-- The code of an accepted program does what the program does.
use Rattle.std.proofs.Common.{ℕ, map, subst}
use Rattle.wy_core.specs.CoreTree.{aliases_of}
use Rattle.wy_sound.specs.wy_sem.Evaluation.{Callee}
use Rattle.wy_sound.specs.wy_sem.Precondition.{CalleeMeets, RoutineMeets}
use Rattle.wy_top.proofs.wy_mach_run_proofs.sound_lemmas.ProperLemmas.{values_proper}
use Rattle.wy_top.proofs.wy_mach_run_proofs.sound_lemmas.RunLemmas.{run_rightly}
use Rattle.wy_value.specs.Seen.{seen}
use Rattle.wy_headline.specs.Sources.{AcceptedSourcesRunRightly, ShownProgramsRunRightly}
use Rattle.wy_headline.proofs.FaultLemmas.{faultless, values_bounded}
use Rattle.wy_headline.proofs.SourceLemmas.{source_shown}

pub shown_rightly : ShownProgramsRunRightly
shown_rightly place core flow h code is f r vs declared values meets =
    let met : RoutineMeets place (aliases_of core) r (map seen vs) = subst (λ (c : Callee ℕ). CalleeMeets place (aliases_of core) c (map seen vs)) declared meets in
    run_rightly place core h.shown.formed h.asked.order h.asked.theirs code is f r (map seen vs) declared met.count (values_proper vs values)
    (faultless place core flow h.shown f r (map seen vs) declared (values_bounded vs values) meets)

pub sources_rightly : AcceptedSourcesRunRightly
sources_rightly place bytes core flow p holds code is = shown_rightly place core flow (source_shown bytes core flow p holds) code is
