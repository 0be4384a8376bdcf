-- The conditions of a program are folded.
use Rattle.std.proofs.Common.{ℕ, List, [], ◌∷◌, map}
use Rattle.wy_check_laws.specs.wy_term.Term.{Term}
use Rattle.wy_sound_terms.specs.wy_vc_spec.Numbered.{numbered_core}
use Rattle.wy_sound_terms.specs.wy_vc_spec.Values.{Setting, x_word, word_if}
use Rattle.wy_sound_terms.specs.wy_sem.TypeTests.{alias_at}
use Rattle.wy_sound_terms.specs.wy_vc_spec.Owed.{Owed}
use Rattle.wy_sound_terms.specs.wy_vc_spec.Limits.{types_of, unfolded}
use Rattle.wy_sound_terms.specs.wy_vc_spec.Programs.{setting_of}
use Rattle.wy_sound_terms.specs.formed.OwedConditions.{with_types}
use Rattle.wy_vc_laws.specs.folded.FoldedConditions.{AllFolded, AllToldFolded, IsFoldedThroughout, AreFoldedThroughout, OwedConditionsAreFolded}
use Rattle.wy_vc_laws.proofs.folded_lemmas.MakingLemmas.{AllFold, none, more, val_name_folds}
use Rattle.wy_vc_laws.proofs.folded_lemmas.ValueLemmas.{test_folds}
use Rattle.wy_vc_laws.proofs.folded_lemmas.WalkLemmas.{OwesFolded, AllOweFolded, nothing, owed}
use Rattle.wy_vc_laws.proofs.folded_lemmas.ProgramLemmas.{program_owed}

all_folded : {ts : List Term} → AllFold ts → AllFolded ts
all_folded none = tt
all_folded (more h all) = (h.is, all_folded all)

entries_folded : {N : Type 0} (s : Setting N) (ns : List ℕ) → AllToldFolded (map (unfolded s) ns)
entries_folded s [] = tt
entries_folded s (n ∷ ns) =
    let a = alias_at s.types n in ((val_name_folds (word_if a.variables a.variable x_word) 0).is, (test_folds s n).is, entries_folded s ns)

is_folded : {N : Type 0} (s : Setting N) (c : Owed) → OwesFolded c → IsFoldedThroughout (with_types s c)
is_folded s c h = record { hyps = all_folded h.hyps; goal = h.goal.is; types = entries_folded s (types_of s c) }

are_folded : {N : Type 0} (s : Setting N) {cs : List Owed} → AllOweFolded cs → AreFoldedThroughout (map (with_types s) cs)
are_folded s nothing = tt
are_folded s (owed {c = c} h all) = (is_folded s c h, are_folded s all)

pub conditions_folded : OwedConditionsAreFolded
conditions_folded core flow = are_folded (setting_of (numbered_core core) flow) (program_owed core flow)
