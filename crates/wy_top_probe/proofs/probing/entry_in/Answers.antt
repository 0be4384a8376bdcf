use Rattle.std.proofs.Common.{◌≡◌, ◌∙◌, ℕ, List, map, ap, subst}
use Rattle.wy_core.specs.CoreSeen.{seen_decl}
use Rattle.wy_core.specs.CoreTree.{Core, routines_of}
use Rattle.wy_mach_run.specs.wy_flow_spec.typing.TypedPrograms.{core_of}
use Rattle.wy_mach_run.specs.Entries.{HasEntry, HasNoEntry, HasNone}
use Rattle.wy_link_load.specs.wy_top_answers.report.Lines.{no_entry}
use Rattle.wy_link_load.proofs.wy_top_answers_proofs.StepLemmas.{memory_gives}
use Rattle.wy_top_probe.specs.Probing.{enters}
use Rattle.wy_top_probe.proofs.ProbeLemmas.{entry_fault, entry_value}
use Rattle.wy_top_probe.proofs.probing.entry_in.Goals as goal

pub returns-in-Ok : goal.returns-in-Ok
returns-in-Ok c =
    let core = core_of c.args.typed.now in
    let same : map seen_decl c.as_slice.result.now ≡ core = ap (λ l. map seen_decl l) c.as_slice.ensures ∙ c.core-core.ensures.value in
    let has = subst (λ (l : Core ℕ). HasEntry (routines_of l) c.args.name.now c.in-Ok.entry) same c.in-Ok.ensures.found in
    record { gives = λ s. entry_value s core c.args.name.now c.in-Ok.entry.number has.routine has.is; routine = (has.routine, has.is.there) }

pub returns-in-Err-NoEntry : goal.returns-in-Err-NoEntry
returns-in-Err-NoEntry c =
    let core = core_of c.args.typed.now in
    let same : map seen_decl c.as_slice.result.now ≡ core = ap (λ l. map seen_decl l) c.as_slice.ensures ∙ c.core-core.ensures.value in
    let lacks = rw c.in-Err-NoEntry.field-0-is at c.in-Err-NoEntry.ensures.found in
    let none = subst (λ (l : Core ℕ). HasNone (routines_of l) c.args.name.now) same lacks in
    record { gives = λ s. entry_fault s core c.args.name.now c.refusal.result none (c.refusal.ensures.value (no_entry c.args.name.now) c.no_entry.ensures.value); routine = tt }

pub returns-in-Err : goal.returns-in-Err
returns-in-Err c = record { gives = λ s. memory_gives s (enters (core_of c.args.typed.now) c.args.name.now) c.no_memory.result c.no_memory.ensures.value; routine = tt }
