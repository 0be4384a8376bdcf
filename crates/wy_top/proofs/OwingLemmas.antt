-- The program of a source as a step.
use Rattle.std.proofs.Common.{◌≡◌, ℕ, List, false, IsTrue, Ok, Err, ap, ◌∙◌}
use Rattle.wy_core.specs.CoreTree.{Core}
use Rattle.wy_core.specs.Types.{Ty}
use Rattle.wy_top.specs.Faults.{is_no_memory}
use Rattle.wy_top.specs.Owed.{IsDue, IsOwed, IsRefused, Owes}
use Rattle.wy_top.specs.declared.fault.OwedFault.{OwedFault}
use Rattle.wy_top_probe.specs.wy_top_answers.Calls.{AnswersFault}
use Rattle.wy_top_probe.specs.wy_top_answers.Steps.{Setting, Gives}
use Rattle.wy_top_probe.specs.wy_top_answers.declared.answer.Answer.{Answer}
use Rattle.wy_top_probe.proofs.wy_top_answers_proofs.CallLemmas.{called_value, called_fault}
use Rattle.wy_top.specs.Programs.{Program, fault_lines, is_faulted, lists, owed_faults, owes}

made : Core ℕ → List Ty → Program
made core flow = record { core = core; flow = flow }

same_program : (p : Program) (core : Core ℕ) (flow : List Ty) → core ≡ p.core → flow ≡ p.flow → made core flow ≡ p
unfolding made
same_program p core flow c f = ap (λ (d : Core ℕ). made d flow) c ∙ ap (λ (g : List Ty). made p.core g) f

pub owes_value : (s : Setting) (name bytes : List ℕ) (p : Program) → Owes bytes p.core p.flow
    → ((core : Core ℕ) (flow : List Ty) → Owes bytes core flow → (p.core ≡ core) × (p.flow ≡ flow)) → ((f : OwedFault) → IsDue bytes f → ⊥) → Gives s (owes name bytes) (Ok p)
unfolding made
owes_value s name bytes p is complete exact =
    called_value s (λ m q. Owes bytes q.core q.flow) (owed_faults name bytes) (is_faulted bytes) p is
    (λ q h. let same = complete q.core q.flow h in same_program q p.core p.flow same.0 same.1) exact

pub owes_fault : (s : Setting) (name bytes : List ℕ) (f : OwedFault) (a : Answer) → (is_no_memory f ≡ false → IsRefused bytes f)
    → ((core : Core ℕ) (flow : List Ty) → Owes bytes core flow → IsTrue (is_no_memory f)) → ((g : OwedFault) → IsDue bytes g → is_no_memory f ≡ false → f ≡ g)
    → AnswersFault (is_no_memory f) 1 (fault_lines name bytes f) a → Gives s (owes name bytes) (Err a)
owes_fault s name bytes f a refused complete exact answers =
    called_fault s (λ m q. Owes bytes q.core q.flow) (owed_faults name bytes) (is_faulted bytes) f a refused (λ q h. complete q.core q.flow h) exact answers

pub lists_value : (s : Setting) (name bytes t : List ℕ) → IsOwed bytes t → ((u : List ℕ) → IsOwed bytes u → t ≡ u) → ((f : OwedFault) → IsDue bytes f → ⊥) → Gives s (lists name bytes) (Ok t)
lists_value s name bytes t is complete exact = called_value s (λ m u. IsOwed bytes u) (owed_faults name bytes) (is_faulted bytes) t is complete exact

pub lists_fault : (s : Setting) (name bytes : List ℕ) (f : OwedFault) (a : Answer) → (is_no_memory f ≡ false → IsRefused bytes f)
    → ((u : List ℕ) → IsOwed bytes u → IsTrue (is_no_memory f)) → ((g : OwedFault) → IsDue bytes g → is_no_memory f ≡ false → f ≡ g)
    → AnswersFault (is_no_memory f) 1 (fault_lines name bytes f) a → Gives s (lists name bytes) (Err a)
lists_fault s name bytes f a refused complete exact answers = called_fault s (λ m u. IsOwed bytes u) (owed_faults name bytes) (is_faulted bytes) f a refused complete exact answers
