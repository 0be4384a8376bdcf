-- A core has one outcome of its types and one of its paths, so the answer is that one.
use Rattle.std.proofs.Common.{◌≡◌, ◌≢◌, ℕ, List, false, IsTrue, map, sym, ap, ◌∙◌, subst}
use Rattle.wy_assign.specs.Assigned as assign
use Rattle.wy_assign.specs.declared.fault.AssignFault.{AssignFault}
use Rattle.wy_assign.specs.declared.fault.AssignFault.TheVariants as assign_fault
use Rattle.wy_ast.specs.SurfaceSeen.{seen_decl}
use Rattle.wy_core.specs.CoreSeen.{seen_core}
use Rattle.wy_core.specs.CoreTree as tree
use Rattle.wy_core.specs.Types.{Ty}
use Rattle.wy_core.specs.declared.declarations.Core.{Core}
use Rattle.wy_flow.proofs.wy_types_proofs.formed_lemmas.OrderLemmas.{ordered_types}
use Rattle.wy_names.proofs.resolved_lemmas.CallDeclLemmas.{named_calls_well}
use Rattle.wy_names.proofs.resolved_lemmas.ResolvedCoreLemmas.{named_bound}
use Rattle.wy_names.proofs.resolved_lemmas.RecursionLemmas.{named_recurs_well}
use Rattle.wy_top_source.proofs.MemoryLemmas.{flow_memory, flow_apart, assign_memory, assign_apart, memory_apart}
use Rattle.wy_top_source.specs.Refusals.{is_no_memory}
use Rattle.wy_top_source.specs.Sources.{HasCore, IsDue, IsEarly, IsFormed, IsProgram, IsRefused, Naming}
use Rattle.wy_top_source.specs.declared.refusal.Refusal.{Refusal}
use Rattle.wy_top_source.specs.declared.refusal.Refusal.TheVariants.{Text, Name, Flow, Assign}
use Rattle.wy_flow.specs.wy_types.Names.{names_in}
use Rattle.wy_flow.specs.wy_types.Recursion.{RecurThroughParts}
use Rattle.wy_assign.specs.wy_flow_spec.typing.Outcomes.{Fails}
use Rattle.wy_assign.specs.wy_flow_spec.typing.Programs as typing
use Rattle.wy_assign.specs.wy_flow_spec.declared.typing.fault.FlowFault.{FlowFault}
use Rattle.wy_assign.specs.wy_flow_spec.declared.typing.fault.FlowFault.TheVariants as flow_fault

-- ---- a core of a source

pub formed : (bytes : List ℕ) (core : Core) → HasCore bytes core → IsFormed (seen_core core)
formed bytes core h =
    let ds = map seen_decl h.program.decls in
    (named_bound ds core h.holds, named_calls_well ds core h.holds, named_recurs_well ds core h.holds)

pub recurs : (bytes : List ℕ) (core : Core) → HasCore bytes core → RecurThroughParts (names_in (seen_core core))
recurs bytes core h =
    let ds = map seen_decl h.program.decls in
    ordered_types (seen_core core) (named_bound ds core h.holds) (named_recurs_well ds core h.holds)

-- the core is the one of the source
abbrev pub Cores : List ℕ → Core → Type 0
Cores bytes core = (other : Core) → HasCore bytes other → seen_core core ≡ seen_core other

-- no refusal comes before the core
abbrev pub NoneBefore : List ℕ → Type 0
NoneBefore bytes = (g : Refusal) → IsEarly g → IsDue bytes g → ⊥

-- what is said of some core of the source is said of this one
said : (bytes : List ℕ) (core : Core) (P : tree.Core ℕ → Type 0) → Cores bytes core → Naming bytes P → P (seen_core core)
said bytes core P cores h = subst P (sym (cores h.core h.named)) h.holds

-- ---- there is no core

-- the refusal before a core
pub early_complete : (bytes : List ℕ) (e : Refusal) → ((core : Core) → HasCore bytes core → IsTrue (is_no_memory e))
    → (core : tree.Core ℕ) (flow : List Ty) → IsProgram bytes core flow → IsTrue (is_no_memory e)
early_complete bytes e none core flow h = none h.core h.named

pub early_exact : (bytes : List ℕ) (e : Refusal) → ((core : Core) → HasCore bytes core → IsTrue (is_no_memory e))
    → ((g : Refusal) → IsEarly g → IsDue bytes g → is_no_memory e ≡ false → e ≡ g)
    → (g : Refusal) → IsDue bytes g → is_no_memory e ≡ false → e ≡ g
early_exact bytes e none exact (Text g) due un_so = exact (Text g) tt due un_so
early_exact bytes e none exact (Name g) due un_so = exact (Name g) tt due un_so
early_exact bytes e none exact (Flow g) due un_so = memory_apart e (Flow g) (none due.core due.named) un_so
early_exact bytes e none exact (Assign g) due un_so = memory_apart e (Assign g) (none due.core due.named) un_so

-- ---- the core isn't well typed

-- the types fail so, and in no other way
abbrev pub FlowComplete : Core → FlowFault → Type 0
FlowComplete core f = (flow : List Ty) → typing.IsTyped (seen_core core) flow → f ≡ flow_fault.NoMemory

abbrev pub FlowExact : Core → FlowFault → Type 0
FlowExact core f = (g : FlowFault) → typing.CoreTyped (seen_core core) (Fails g) → f ≢ flow_fault.NoMemory → f ≡ g

pub flow_complete : (bytes : List ℕ) (c : Core) (f : FlowFault) → Cores bytes c → FlowComplete c f
    → (core : tree.Core ℕ) (flow : List Ty) → IsProgram bytes core flow → IsTrue (is_no_memory (Flow f))
flow_complete bytes c f cores none core flow h =
    flow_memory f (none flow (said bytes c (λ d. (d ≡ core) × typing.IsTyped d flow × assign.IsAssigned d) cores h).1)

pub flow_refused : (bytes : List ℕ) (c : Core) (f : FlowFault) → HasCore bytes c → (f ≢ flow_fault.NoMemory → typing.CoreTyped (seen_core c) (Fails f))
    → is_no_memory (Flow f) ≡ false → IsRefused bytes (Flow f)
flow_refused bytes c f h fails un_so = record { core = c; named = h; holds = fails (flow_apart f un_so) }

pub flow_exact : (bytes : List ℕ) (c : Core) (f : FlowFault) → Cores bytes c → NoneBefore bytes → FlowComplete c f → FlowExact c f
    → (g : Refusal) → IsDue bytes g → is_no_memory (Flow f) ≡ false → Flow f ≡ g
flow_exact bytes c f cores before none exact (Text g) due un_so = absurd (before (Text g) tt due)
flow_exact bytes c f cores before none exact (Name g) due un_so = absurd (before (Name g) tt due)
flow_exact bytes c f cores before none exact (Flow g) due un_so = ap Flow (exact g (said bytes c (λ d. typing.CoreTyped d (Fails g)) cores due) (flow_apart f un_so))
flow_exact bytes c f cores before none exact (Assign g) due un_so =
    let h = said bytes c (λ d. (flow : List Ty) × typing.IsTyped d flow × assign.IsFault d g) cores due in
    absurd (flow_apart f un_so (none h.0 h.1))

-- ---- the core is typed

-- these are its types, and no fault is
abbrev pub Types : Core → List Ty → Type 0
Types core flow = (other : List Ty) → typing.IsTyped (seen_core core) other → flow ≡ other

abbrev pub NoFlowFault : Core → Type 0
NoFlowFault core = (g : FlowFault) → typing.CoreTyped (seen_core core) (Fails g) → ⊥

pub assign_complete : (bytes : List ℕ) (c : Core) (t : tree.Core ℕ) (f : AssignFault) → Cores bytes c → t ≡ seen_core c → (assign.IsAssigned t → f ≡ assign_fault.NoMemory)
    → (core : tree.Core ℕ) (flow : List Ty) → IsProgram bytes core flow → IsTrue (is_no_memory (Assign f))
assign_complete bytes c t f cores same none core flow h =
    assign_memory f (none (subst assign.IsAssigned (sym same) (said bytes c (λ d. (d ≡ core) × typing.IsTyped d flow × assign.IsAssigned d) cores h).2))

pub assign_refused : (bytes : List ℕ) (c : Core) (t : tree.Core ℕ) (flow : List Ty) (f : AssignFault) → HasCore bytes c → t ≡ seen_core c → typing.IsTyped (seen_core c) flow
    → (f ≢ assign_fault.NoMemory → assign.IsFault t f) → is_no_memory (Assign f) ≡ false → IsRefused bytes (Assign f)
assign_refused bytes c t flow f h same typed fails un_so =
    record { core = c; named = h; holds = (flow, typed, subst (λ d. assign.IsFault d f) same (fails (assign_apart f un_so))) }

pub assign_exact : (bytes : List ℕ) (c : Core) (t : tree.Core ℕ) (f : AssignFault) → Cores bytes c → NoneBefore bytes → NoFlowFault c → t ≡ seen_core c
    → ((g : AssignFault) → assign.IsFault t g → f ≢ assign_fault.NoMemory → f ≡ g)
    → (g : Refusal) → IsDue bytes g → is_no_memory (Assign f) ≡ false → Assign f ≡ g
assign_exact bytes c t f cores before typed same exact (Text g) due un_so = absurd (before (Text g) tt due)
assign_exact bytes c t f cores before typed same exact (Name g) due un_so = absurd (before (Name g) tt due)
assign_exact bytes c t f cores before typed same exact (Flow g) due un_so = absurd (typed g (said bytes c (λ d. typing.CoreTyped d (Fails g)) cores due))
assign_exact bytes c t f cores before typed same exact (Assign g) due un_so =
    let h = said bytes c (λ d. (flow : List Ty) × typing.IsTyped d flow × assign.IsFault d g) cores due in
    ap Assign (exact g (subst (λ d. assign.IsFault d g) (sym same) h.2) (assign_apart f un_so))

-- ---- each use is assigned

pub program_is : (bytes : List ℕ) (c : Core) (t : tree.Core ℕ) (flow : List Ty) → HasCore bytes c → t ≡ seen_core c → typing.IsTyped (seen_core c) flow → assign.IsAssigned t
    → IsProgram bytes t flow
program_is bytes c t flow h same typed assigned =
    record { core = c; named = h; holds = (sym same, typed, subst assign.IsAssigned same assigned) }

pub program_complete : (bytes : List ℕ) (c : Core) (t : tree.Core ℕ) (own : List Ty) → Cores bytes c → t ≡ seen_core c → Types c own
    → (core : tree.Core ℕ) (flow : List Ty) → IsProgram bytes core flow → (t ≡ core) × (own ≡ flow)
program_complete bytes c t own cores same types core flow h =
    let k = said bytes c (λ d. (d ≡ core) × typing.IsTyped d flow × assign.IsAssigned d) cores h in
    (same ∙ k.0, types flow k.1)

pub program_exact : (bytes : List ℕ) (c : Core) (t : tree.Core ℕ) → Cores bytes c → NoneBefore bytes → NoFlowFault c → t ≡ seen_core c → ((g : AssignFault) → assign.IsFault t g → ⊥)
    → (g : Refusal) → IsDue bytes g → ⊥
program_exact bytes c t cores before typed same none (Text g) due = before (Text g) tt due
program_exact bytes c t cores before typed same none (Name g) due = before (Name g) tt due
program_exact bytes c t cores before typed same none (Flow g) due = typed g (said bytes c (λ d. typing.CoreTyped d (Fails g)) cores due)
program_exact bytes c t cores before typed same none (Assign g) due =
    let h = said bytes c (λ d. (flow : List Ty) × typing.IsTyped d flow × assign.IsFault d g) cores due in
    none g (subst (λ d. assign.IsFault d g) (sym same) h.2)

pub program_formed : (bytes : List ℕ) (c : Core) (t : tree.Core ℕ) → HasCore bytes c → t ≡ seen_core c → IsFormed t
program_formed bytes c t h same = subst IsFormed (sym same) (formed bytes c h)
