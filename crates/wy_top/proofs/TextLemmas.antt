-- The text of a source as a step.
use Rattle.std.proofs.Common.{◌≡◌, ℕ, List, false, IsTrue, Ok, Err}
use Rattle.wy_top_probe.specs.wy_top_answers.Calls.{AnswersFault}
use Rattle.wy_top_probe.specs.wy_top_answers.Steps.{Setting, Gives}
use Rattle.wy_top_probe.specs.wy_top_answers.declared.answer.Answer.{Answer}
use Rattle.wy_top_probe.proofs.wy_top_answers_proofs.CallLemmas.{called_value, called_fault}
use Rattle.wy_top_probe.specs.wy_top_source.texts.Refusals.{is_no_memory}
use Rattle.wy_top_probe.specs.wy_top_source.declared.refusal.Refusal.{Refusal}
use Rattle.wy_top_probe.specs.wy_top_source.texts.Again.{IsAgain}
use Rattle.wy_top_probe.specs.wy_top_source.texts.Texts.{IsDue, IsRefused, IsText}
use Rattle.wy_top_probe.specs.wy_top_source.declared.texts.kind.Kind.{Kind}
use Rattle.wy_top.specs.Texts.{has_text, program_text}
use Rattle.wy_top_probe.specs.Texts.{fault_lines, is_faulted, source_faults}

pub text_value : (s : Setting) (kind : Kind) (name bytes t : List ℕ) → IsText kind bytes t → IsAgain kind bytes t → ((u : List ℕ) → IsText kind bytes u → t ≡ u) → ((f : Refusal) → IsDue kind bytes f → ⊥)
    → Gives s (program_text kind name bytes) (Ok t)
text_value s kind name bytes t is again complete exact = called_value s (has_text kind bytes) (source_faults name bytes) (is_faulted kind bytes) t (is, again) complete exact

pub text_fault : (s : Setting) (kind : Kind) (name bytes : List ℕ) (f : Refusal) (a : Answer) → (is_no_memory f ≡ false → IsRefused kind bytes f)
    → ((u : List ℕ) → IsText kind bytes u → IsTrue (is_no_memory f)) → ((g : Refusal) → IsDue kind bytes g → is_no_memory f ≡ false → f ≡ g)
    → AnswersFault (is_no_memory f) 1 (fault_lines name bytes f) a → Gives s (program_text kind name bytes) (Err a)
text_fault s kind name bytes f a refused complete exact answers = called_fault s (has_text kind bytes) (source_faults name bytes) (is_faulted kind bytes) f a refused complete exact answers
