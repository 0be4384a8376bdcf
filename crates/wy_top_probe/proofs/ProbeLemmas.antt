-- The steps of the command `probe`.
use Rattle.std.proofs.Common.{◌≡◌, ◌⊎◌, inl, inr, ◌∙◌, ℕ, List, Ok, Err, refl, sym, ap, subst}
use Rattle.wy_core.specs.CoreTree.{Core, Routine, routines_of}
use Rattle.wy_mach_run.specs.Entries.{HasNoEntry, IsEntry}
use Rattle.wy_mach_run.proofs.EntryLemmas.{one_first}
use Rattle.wy_probe.specs.Comes.{probe_of}
use Rattle.wy_probe.specs.Trials.{Finding, FindsFirst, tuples_of}
use Rattle.wy_probe.proofs.OnceLemmas.{finds_once}
use Rattle.wy_link_load.specs.wy_top_answers.Answers.{IsRefusal, no_memory}
use Rattle.wy_link_load.specs.wy_top_answers.Steps.{Answers, Came, Gives, Sense, Setting}
use Rattle.wy_link_load.specs.wy_top_answers.declared.answer.Answer.{Answer}
use Rattle.wy_link_load.specs.wy_top_answers.report.Lines.{no_entry}
use Rattle.wy_link_load.proofs.wy_top_answers_proofs.AnswerLemmas.{last_answers, memory_answers}
use Rattle.wy_link_load.proofs.wy_top_answers_proofs.CallLemmas.{called_fault, called_value}
use Rattle.wy_link_load.proofs.wy_top_answers_proofs.StepLemmas.{value_gives}
use Rattle.wy_top_probe.specs.Probing.{IsProbed, enters, entry_faults, found_answer, probes}

-- ---- the entry

module _ (s : Setting) (core : Core ℕ) (name : List ℕ) where
  abbrev Numbered : Sense → ℕ → Type 0
  Numbered m number = (r : Routine ℕ) × IsEntry core name number r

  abbrev There : Sense → Unit {0} → Type 0
  There m f = HasNoEntry core name

  pub entry_value : (number : ℕ) (r : Routine ℕ) → IsEntry core name number r → Gives s (enters core name) (Ok number)
  entry_value number r is =
      called_value s Numbered (entry_faults name) There number (r, is) (λ y h. (one_first (routines_of core) name number y r h.0 is h.1).number) (λ f none. none number r is.there is.name_is)

  pub entry_fault : (a : Answer) → HasNoEntry core name → IsRefusal 7 (no_entry name) a → Gives s (enters core name) (Err a)
  entry_fault a none answers = called_fault s Numbered (entry_faults name) There tt a (λ known. none) (λ y h. absurd (none y h.0 h.1.there h.1.name_is)) (λ g h known. refl) answers

-- ---- the finding

module _ (s : Setting) (bytes : List ℕ) (core : Core ℕ) (tuples ticks entry : ℕ) where
  one_answer : (f g : Finding) → FindsFirst (probe_of core entry ticks) tuples f → FindsFirst (probe_of core entry ticks) tuples g → f ≡ g
  one_answer f g h k = finds_once (probe_of core entry ticks) (tuples_of (probe_of core entry ticks) tuples) f g h k

  pub found_answers : (f : Finding) (a : Answer) → FindsFirst (probe_of core entry ticks) tuples f → (a ≡ found_answer bytes f) ⊎ (a ≡ no_memory) → Answers s (probes bytes core tuples ticks entry) a
  found_answers f a finds (inl e) =
      let is : IsProbed bytes core tuples ticks entry (Ok a) = record { finding = f; finds = finds; answer = ap (λ (b : Answer). Ok b) e } in
      last_answers s (probes bytes core tuples ticks entry) a (value_gives s (probes bytes core tuples ticks entry) a is
      (λ other h. h.answer ∙ (ap (λ (g : Finding). Ok (found_answer bytes g)) (one_answer h.finding f h.finds finds) ∙ sym (ap (λ (b : Answer). Ok b) e))))
  found_answers f a finds (inr e) = memory_answers s (probes bytes core tuples ticks entry) a e
