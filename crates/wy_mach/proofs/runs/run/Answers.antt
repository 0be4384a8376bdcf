use Rattle.std.proofs.Common.{Bool, map, subst}
use Rattle.wy_value.specs.Seen.{seen}
use Rattle.wy_code_spec.specs.step.Step.{State, after, start}
use Rattle.wy_mach.specs.declared.runs.RunEnd.{RunEnd}
use Rattle.wy_mach.specs.Running.{Ran, PrintsFront, ShowsFirst, state_behind}
use Rattle.wy_mach.proofs.TurnLemmas.{if_ok, on_err}
use Rattle.wy_mach.proofs.RunLemmas.{no_front}
use Rattle.wy_mach.specs.SharedTurns.{DoneShared, RanShared}
use Rattle.wy_mach.proofs.runs.run.Goals as goal

pub returns-in_default-clause-no_memory : goal.returns-in_default-clause-no_memory
returns-in_default-clause-no_memory g c = no_front (g.O.Sink.taken c.args.out.now) (state_behind c.args.code.now c.args.entry (map seen c.args.args.now) c.args.steps)

pub turns-end-requires : goal.turns-end-requires
turns-end-requires g c = record { is = c.in-Ok.ensures.is; steps = (start c.args.code.now c.args.entry (map seen c.args.args.now), c.in-Ok.ensures.starts, c.requires.steps) }

pub stop-requires : goal.stop-requires
stop-requires g c = record { stands = c.turns-end.ensures.is.stands }

pub returns-clause-ran : goal.returns-clause-ran
returns-clause-ran g c =
    let code = c.args.code.now in
    let first = start code c.args.entry (map seen c.args.args.now) in
    let k = c.in-Ok.machine in
    let before = g.O.Sink.taken c.args.out.now in
    let now = g.O.Sink.taken c.turns-end.new.out in
    let failed = g.O.Sink.faults c.args.out.now in
    let fails = g.O.Sink.faults c.turns-end.new.out in
    if_ok c.turns-end.result (λ (e : RunEnd). (st : State) → ShowsFirst k st → Ran (after code c.args.steps st) k.has_result before now failed fails e)
    (λ (e : RunEnd). Ran (after code c.args.steps first) c.args.has_result before now failed fails e)
    (λ e ran. subst (λ (b : Bool). Ran (after code c.args.steps first) b before now failed fails e) c.in-Ok.ensures.has_result (ran first c.in-Ok.ensures.starts)) c.turns-end.ensures.ran

pub returns-clause-no_memory : goal.returns-clause-no_memory
returns-clause-no_memory g c =
    let code = c.args.code.now in
    let first = start code c.args.entry (map seen c.args.args.now) in
    let k = c.in-Ok.machine in
    let before = g.O.Sink.taken c.args.out.now in
    let now = g.O.Sink.taken c.turns-end.new.out in
    on_err c.turns-end.result ((st : State) → ShowsFirst k st → PrintsFront before now (after code c.args.steps st)) (PrintsFront before now (after code c.args.steps first))
    (λ front. front first c.in-Ok.ensures.starts) c.turns-end.ensures.no_memory

pub returns-clause-shared : goal.returns-clause-shared
returns-clause-shared g c =
    let code = c.args.code.now in
    let k = c.in-Ok.machine in
    if_ok c.turns-end.result (DoneShared code k c.args.steps) (RanShared code c.args.entry (map seen c.args.args.now) c.args.steps c.args.cap)
    (λ e done. record { first = k; is = c.in-Ok.ensures.is; starts = c.in-Ok.ensures.starts; cap_is = c.in-Ok.ensures.cap; none = c.in-Ok.ensures.copies; begins = c.in-Ok.ensures.first; done = done }) c.turns-end.ensures.shared
