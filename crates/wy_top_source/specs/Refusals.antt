-- What refusals of a source are called, and where they stand.
use Rattle.std.specs.Prelude.{ℕ, Bool, true, false, List, [], codes}
use Rattle.wy_assign.specs.declared.fault.AssignFault.{AssignFault}
use Rattle.wy_assign.specs.declared.fault.AssignFault.TheVariants as assign
use Rattle.wy_print_laws.specs.wy_parse_front.Faults as front
use Rattle.wy_names.specs.declared.name_fault.NameFault.{NameFault}
use Rattle.wy_names.specs.declared.name_fault.NameFault.TheVariants as name
use Rattle.wy_top_source.specs.declared.refusal.Refusal.{Refusal}
use Rattle.wy_top_source.specs.declared.refusal.Refusal.TheVariants.{Text, Name, Flow, Assign}
use Rattle.wy_assign.specs.wy_flow_spec.declared.typing.fault.FlowFault.{FlowFault}
use Rattle.wy_assign.specs.wy_flow_spec.declared.typing.fault.FlowFault.TheVariants as flow

-- ---- names

abbrev pub name_offset : NameFault → ℕ
name_offset (name.Unknown at) = at
name_offset (name.Twice at) = at
name_offset (name.BareRecursion at) = at
name_offset (name.PropertyLoop at) = at
name_offset (name.CallInContract at) = at
name_offset (name.MethodInFunction at) = at
name_offset (name.Arity at) = at
name_offset (name.OutsideLoop at) = at
name_offset (name.TooLarge at) = at
name_offset name.NoMemory = 0

abbrev pub name_word : NameFault → List ℕ
name_word (name.Unknown at) = codes "Unknown"
name_word (name.Twice at) = codes "Twice"
name_word (name.BareRecursion at) = codes "BareRecursion"
name_word (name.PropertyLoop at) = codes "PropertyLoop"
name_word (name.CallInContract at) = codes "CallInContract"
name_word (name.MethodInFunction at) = codes "MethodInFunction"
name_word (name.Arity at) = codes "Arity"
name_word (name.OutsideLoop at) = codes "OutsideLoop"
name_word (name.TooLarge at) = codes "TooLarge"
name_word name.NoMemory = []

abbrev pub lacks_memory_for_names : NameFault → Bool
lacks_memory_for_names (name.Unknown at) = false
lacks_memory_for_names (name.Twice at) = false
lacks_memory_for_names (name.BareRecursion at) = false
lacks_memory_for_names (name.PropertyLoop at) = false
lacks_memory_for_names (name.CallInContract at) = false
lacks_memory_for_names (name.MethodInFunction at) = false
lacks_memory_for_names (name.Arity at) = false
lacks_memory_for_names (name.OutsideLoop at) = false
lacks_memory_for_names (name.TooLarge at) = false
lacks_memory_for_names name.NoMemory = true

-- ---- flow types

abbrev pub flow_offset : FlowFault → ℕ
flow_offset (flow.NotSubtype at) = at
flow_offset (flow.NotArray at) = at
flow_offset (flow.NoField at) = at
flow_offset (flow.NotBool at) = at
flow_offset (flow.NotInt at) = at
flow_offset (flow.TypeWide at) = at
flow_offset flow.NoMemory = 0

abbrev pub flow_word : FlowFault → List ℕ
flow_word (flow.NotSubtype at) = codes "NotSubtype"
flow_word (flow.NotArray at) = codes "NotArray"
flow_word (flow.NoField at) = codes "NoField"
flow_word (flow.NotBool at) = codes "NotBool"
flow_word (flow.NotInt at) = codes "NotInt"
flow_word (flow.TypeWide at) = codes "TypeWide"
flow_word flow.NoMemory = []

abbrev pub lacks_memory_for_types : FlowFault → Bool
lacks_memory_for_types (flow.NotSubtype at) = false
lacks_memory_for_types (flow.NotArray at) = false
lacks_memory_for_types (flow.NoField at) = false
lacks_memory_for_types (flow.NotBool at) = false
lacks_memory_for_types (flow.NotInt at) = false
lacks_memory_for_types (flow.TypeWide at) = false
lacks_memory_for_types flow.NoMemory = true

-- ---- assignment

abbrev pub assign_offset : AssignFault → ℕ
assign_offset (assign.Unset at) = at
assign_offset (assign.NoReturn at) = at
assign_offset assign.NoMemory = 0

abbrev pub assign_word : AssignFault → List ℕ
assign_word (assign.Unset at) = codes "Unset"
assign_word (assign.NoReturn at) = codes "NoReturn"
assign_word assign.NoMemory = []

abbrev pub lacks_memory_for_paths : AssignFault → Bool
lacks_memory_for_paths (assign.Unset at) = false
lacks_memory_for_paths (assign.NoReturn at) = false
lacks_memory_for_paths assign.NoMemory = true

-- ---- refusals

-- the byte offset where it stands
abbrev pub offset : Refusal → ℕ
offset (Text fault) = front.offset fault
offset (Name fault) = name_offset fault
offset (Flow fault) = flow_offset fault
offset (Assign fault) = assign_offset fault

-- the word for it
abbrev pub word : Refusal → List ℕ
word (Text fault) = front.word fault
word (Name fault) = name_word fault
word (Flow fault) = flow_word fault
word (Assign fault) = assign_word fault

-- whether memory ran out
abbrev pub is_no_memory : Refusal → Bool
is_no_memory (Text fault) = front.is_no_memory fault
is_no_memory (Name fault) = lacks_memory_for_names fault
is_no_memory (Flow fault) = lacks_memory_for_types fault
is_no_memory (Assign fault) = lacks_memory_for_paths fault
