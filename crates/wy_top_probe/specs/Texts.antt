-- What does a command come to, where its source is faulted?
use Rattle.std.specs.Prelude.{ℕ, List}
use Rattle.wy_link_load.specs.wy_parse_front.Places.{place_of}
use Rattle.wy_link_load.specs.wy_top_answers.Calls.{Faults}
use Rattle.wy_link_load.specs.wy_top_answers.Steps.{Sense, due, stated}
use Rattle.wy_link_load.specs.wy_top_answers.report.Lines.{source_fault}
use Rattle.wy_top_source.specs.declared.refusal.Refusal.{Refusal}
use Rattle.wy_top_source.specs.declared.texts.kind.Kind.{Kind}
use Rattle.wy_top_source.specs.texts.Refusals.{is_no_memory, offset, word}
use Rattle.wy_top_source.specs.texts.Texts.{IsDue, IsRefused}

-- the line of a fault of the source with these bytes
abbrev pub fault_lines : List ℕ → List ℕ → Refusal → List ℕ
fault_lines name bytes f = source_fault name (place_of bytes (offset f)).0 (place_of bytes (offset f)).1 (word f)

abbrev pub source_faults : List ℕ → List ℕ → Faults Refusal
source_faults name bytes = record { lacks_memory = is_no_memory; status = λ f. 1; lines = fault_lines name bytes }

abbrev pub is_faulted : Kind → List ℕ → Sense → Refusal → Type 0
is_faulted kind bytes stated f = IsRefused kind bytes f
is_faulted kind bytes due f = IsDue kind bytes f
