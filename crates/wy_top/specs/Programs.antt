-- Which typed program a source has and what it owes, as a step of a command.
use Rattle.std.specs.Prelude.{ℕ, List, length}
use Rattle.wy_top_probe.specs.wy_top_answers.Calls.{Faults, called}
use Rattle.wy_top_probe.specs.wy_top_answers.Steps.{Came, Sense, stated, due}
use Rattle.wy_core.specs.CoreTree.{Core}
use Rattle.wy_core.specs.Types.{Ty}
use Rattle.wy_top_probe.specs.wy_top_answers.wy_sound_terms.formed.OwedConditions.{owed_conditions}
use Rattle.wy_top_probe.specs.wy_link_load.wy_parse_front.Places.{place_of}
use Rattle.wy_top.specs.Faults.{is_no_memory, offset, word}
use Rattle.wy_top.specs.Owed.{IsDue, IsOwed, IsRefused, Owes}
use Rattle.wy_top.specs.declared.fault.OwedFault.{OwedFault}
use Rattle.wy_top_probe.specs.wy_top_answers.report.Lines.{source_fault}
use Rattle.wy_term.specs.Condition.{Condition}

-- a program with its flow types
pub record Program : Type 0 where
  pub core : Core ℕ
  pub flow : List Ty

-- the conditions that it owes, in order
abbrev pub conditions_of : Program → List Condition
conditions_of p = owed_conditions p.core p.flow

abbrev pub count_of : Program → ℕ
count_of p = length (conditions_of p)

-- the line of a fault of the source with these bytes
abbrev pub fault_lines : List ℕ → List ℕ → OwedFault → List ℕ
fault_lines name bytes f = source_fault name (place_of bytes (offset f)).0 (place_of bytes (offset f)).1 (word f)

-- the faults of a source that has no list of conditions
abbrev pub owed_faults : List ℕ → List ℕ → Faults OwedFault
owed_faults name bytes = record { lacks_memory = is_no_memory; status = λ f. 1; lines = fault_lines name bytes }

abbrev pub is_faulted : List ℕ → Sense → OwedFault → Type 0
is_faulted bytes stated f = IsRefused bytes f
is_faulted bytes due f = IsDue bytes f

-- the bytes have this typed and assigned program, and what it owes passes no limit; or the line of the first fault is the answer
abbrev pub owes : List ℕ → List ℕ → Sense → Came Program → Type 0
owes name bytes = called (λ m p. Owes bytes p.core p.flow) (owed_faults name bytes) (is_faulted bytes)

-- likewise for the list of the conditions that the program owes
abbrev pub lists : List ℕ → List ℕ → Sense → Came (List ℕ) → Type 0
lists name bytes = called (λ m t. IsOwed bytes t) (owed_faults name bytes) (is_faulted bytes)
