use Rattle.std.proofs.Common.{◌≡◌, ◌≤◌, ◌+◌, ◌-◌, suc, refl, sym, subst, ◌∙◌, arith, rules}
use Rattle.wy_lemmas.proofs.Options.{on_any_err}
use Rattle.wy_code_spec.specs.step.Step.{State, after}
use Rattle.wy_mach.specs.Running.{Steps, Turned, PrintsFront, ShowsFirst, next_in}
use Rattle.std.specs.Prelude.{IfOk, OnErr}
use Rattle.wy_mach.specs.Pacing.{turn_of}
use Rattle.wy_mach.specs.declared.machine.Pace.{Pace}
use Rattle.wy_mach.proofs.TurnLemmas.{no_instr}
use Rattle.wy_mach.proofs.RunLemmas.{follows_first, follows_on, run_done, run_fault, run_front, comes_next, run_spent, rose_later}
use Rattle.wy_mach.specs.SharedTurns.{TurnsShared}
use Rattle.wy_mach.proofs.SharedTurnLemmas.{along_more, ends_shared, shows_next}
use Rattle.wy_mach.proofs.runs.turns.Goals as goal

pub loop-i-init : goal.loop-i-init
loop-i-init g c = record {
  is = c.requires.is;
  follows = follows_first c.args.code.now c.args.machine.now (g.O.Sink.taken c.args.out.now) c.args.steps (c.args.steps - 0) (omega arith);
  along = refl;
  has_result = refl;
  faults = omega arith;
}

pub loop-i-preserved-in-Went : goal.loop-i-preserved-in-Went
loop-i-preserved-in-Went g c =
    let code = c.args.code.now in
    let old = c.loop-i.machine in
    let new = c.returned.new.self in
    let steps = c.args.steps in
    let i = c.loop-i.i in
    let first = g.O.Sink.taken c.args.out.now in
    let before = g.O.Sink.taken c.loop-i.out in
    let failed = g.O.Sink.faults c.loop-i.out in
    let less : steps - i ≡ suc (steps - (i + 1)) = omega (arith, c.loop-i-test.true) in
    let went : Steps (next_in code) old new before before = subst (Turned (next_in code) old new before before failed failed) c.in-Went.is (c.in_ok-returned-in-Return.ensures.turned before failed) in
    record {
      is = c.returned.ensures.is;
      follows = follows_on code c.args.machine.now old new first before before steps (steps - i) (steps - (i + 1)) less c.loop-i.invariant.follows went;
      along = along_more code i (i + 1) c.args.machine.now old new (omega arith) c.loop-i.invariant.along (subst (TurnsShared code old new) c.in-Went.is c.in_ok-returned-in-Return.ensures.shared)
          (shows_next code old new before before went);
      has_result = c.returned.ensures.has_result ∙ c.loop-i.invariant.has_result;
      faults = c.loop-i.invariant.faults;
    }

pub loop-i-preserved : goal.loop-i-preserved
loop-i-preserved g c =
    let code = c.args.code.now in
    let old = c.loop-i.machine in
    let new = c.turn.new.self in
    let steps = c.args.steps in
    let i = c.loop-i.i in
    let first = g.O.Sink.taken c.args.out.now in
    let before = g.O.Sink.taken c.loop-i.out in
    let failed = g.O.Sink.faults c.loop-i.out in
    let less : steps - i ≡ suc (steps - (i + 1)) = omega (arith, c.loop-i-test.true) in
    let now = g.O.Sink.taken c.turn.new.out in
    let fails = g.O.Sink.faults c.turn.new.out in
    let went : Steps (next_in code) old new before now = subst (λ (p : Pace). IfOk (turn_of p) (Turned (next_in code) old new before now failed fails)) c.in-Went-turn.is c.turn.ensures.turned in
    record {
      is = c.turn.ensures.is;
      follows = follows_on code c.args.machine.now old new first before now steps (steps - i) (steps - (i + 1)) less c.loop-i.invariant.follows went;
      along = along_more code i (i + 1) c.args.machine.now old new (omega arith) c.loop-i.invariant.along (subst (λ (p : Pace). IfOk (turn_of p) (TurnsShared code old new)) c.in-Went-turn.is c.turn.ensures.shared)
          (shows_next code old new before now went);
      has_result = c.turn.ensures.has_result ∙ c.loop-i.invariant.has_result;
      faults = omega (arith, c.turn.ensures.count, c.loop-i.invariant.faults);
    }

pub unreachable-requires : goal.unreachable-requires
unreachable-requires g c =
    let code = c.args.code.now in
    let old = c.loop-i.machine in
    let steps = c.args.steps in
    let i = c.loop-i.i in
    let less : steps - i ≡ suc (steps - (i + 1)) = omega (arith, c.loop-i-test.true) in
    comes_next code c.args.machine.now old (g.O.Sink.taken c.args.out.now) (g.O.Sink.taken c.loop-i.out) steps (steps - i) (steps - (i + 1)) less c.loop-i.invariant.follows c.requires.steps (no_instr code old (sym c.in_default.ensures.value))

pub returns-in-Done-clause-ran : goal.returns-in-Done-clause-ran
returns-in-Done-clause-ran g c st shows =
    let code = c.args.code.now in
    let old = c.loop-i.machine in
    let new = c.returned.new.self in
    let steps = c.args.steps in
    let i = c.loop-i.i in
    let first = g.O.Sink.taken c.args.out.now in
    let before = g.O.Sink.taken c.loop-i.out in
    let failed = g.O.Sink.faults c.loop-i.out in
    let less : steps - i ≡ suc (steps - (i + 1)) = omega (arith, c.loop-i-test.true) in
    run_done code c.args.machine.now old first before before steps (steps - i) (steps - (i + 1)) c.in-Done.text c.in-Done.copies c.in-Done.nodes less c.loop-i.invariant.has_result c.loop-i.invariant.follows
    (subst (Turned (next_in code) old new before before failed failed) c.in-Done.is (c.in_ok-returned-in-Return.ensures.turned before failed)) st shows

pub returns-in-OutFault-clause-ran : goal.returns-in-OutFault-clause-ran
returns-in-OutFault-clause-ran g c st shows =
    let code = c.args.code.now in
    let old = c.loop-i.machine in
    let new = c.returned.new.self in
    let steps = c.args.steps in
    let i = c.loop-i.i in
    let first = g.O.Sink.taken c.args.out.now in
    let before = g.O.Sink.taken c.loop-i.out in
    let failed = g.O.Sink.faults c.loop-i.out in
    let less : steps - i ≡ suc (steps - (i + 1)) = omega (arith, c.loop-i-test.true) in
    let turned = (subst (Turned (next_in code) old new before before failed failed) c.in-OutFault.is (c.in_ok-returned-in-Return.ensures.turned before failed)) in (
      run_fault code c.args.machine.now old first before before steps (steps - i) (steps - (i + 1)) less c.loop-i.invariant.follows turned.0 st shows,
      rose_later (g.O.Sink.faults c.args.out.now) failed failed c.loop-i.invariant.faults turned.1,
    )

pub unreachable-requires-in-Stuck : goal.unreachable-requires-in-Stuck
unreachable-requires-in-Stuck g c =
    let code = c.args.code.now in
    let old = c.loop-i.machine in
    let new = c.returned.new.self in
    let steps = c.args.steps in
    let i = c.loop-i.i in
    let first = g.O.Sink.taken c.args.out.now in
    let before = g.O.Sink.taken c.loop-i.out in
    let failed = g.O.Sink.faults c.loop-i.out in
    let less : steps - i ≡ suc (steps - (i + 1)) = omega (arith, c.loop-i-test.true) in
    let turned = (subst (Turned (next_in code) old new before before failed failed) c.in-Stuck.is (c.in_ok-returned-in-Return.ensures.turned before failed)) in
    comes_next code c.args.machine.now old first before steps (steps - i) (steps - (i + 1)) less c.loop-i.invariant.follows c.requires.steps turned.0

pub returns-in-OutFault-turn-clause-ran : goal.returns-in-OutFault-turn-clause-ran
returns-in-OutFault-turn-clause-ran g c st shows =
    let code = c.args.code.now in
    let old = c.loop-i.machine in
    let new = c.turn.new.self in
    let steps = c.args.steps in
    let i = c.loop-i.i in
    let first = g.O.Sink.taken c.args.out.now in
    let before = g.O.Sink.taken c.loop-i.out in
    let failed = g.O.Sink.faults c.loop-i.out in
    let less : steps - i ≡ suc (steps - (i + 1)) = omega (arith, c.loop-i-test.true) in
    let now = g.O.Sink.taken c.turn.new.out in
    let fails = g.O.Sink.faults c.turn.new.out in
    let turned = (subst (λ (p : Pace). IfOk (turn_of p) (Turned (next_in code) old new before now failed fails)) c.in-OutFault-turn.is c.turn.ensures.turned) in (
      run_fault code c.args.machine.now old first before now steps (steps - i) (steps - (i + 1)) less c.loop-i.invariant.follows turned.0 st shows,
      rose_later (g.O.Sink.faults c.args.out.now) failed fails c.loop-i.invariant.faults turned.1,
    )

pub unreachable-requires-in-Stuck-turn : goal.unreachable-requires-in-Stuck-turn
unreachable-requires-in-Stuck-turn g c =
    let code = c.args.code.now in
    let old = c.loop-i.machine in
    let new = c.turn.new.self in
    let steps = c.args.steps in
    let i = c.loop-i.i in
    let first = g.O.Sink.taken c.args.out.now in
    let before = g.O.Sink.taken c.loop-i.out in
    let failed = g.O.Sink.faults c.loop-i.out in
    let less : steps - i ≡ suc (steps - (i + 1)) = omega (arith, c.loop-i-test.true) in
    let now = g.O.Sink.taken c.turn.new.out in
    let fails = g.O.Sink.faults c.turn.new.out in
    let turned = (subst (λ (p : Pace). IfOk (turn_of p) (Turned (next_in code) old new before now failed fails)) c.in-Stuck-turn.is c.turn.ensures.turned) in
    comes_next code c.args.machine.now old first before steps (steps - i) (steps - (i + 1)) less c.loop-i.invariant.follows c.requires.steps turned.0

pub returns-in_err-returned-in-Return-clause-no_memory : goal.returns-in_err-returned-in-Return-clause-no_memory
returns-in_err-returned-in-Return-clause-no_memory g c =
    let code = c.args.code.now in
    let first = g.O.Sink.taken c.args.out.now in
    let before = g.O.Sink.taken c.loop-i.out in
    on_any_err c.from_residual.result ((st : State) → ShowsFirst c.args.machine.now st → PrintsFront first before (after code c.args.steps st))
    (λ st shows. run_front code c.args.machine.now c.loop-i.machine first before before c.args.steps (c.args.steps - c.loop-i.i) refl c.loop-i.invariant.follows st shows)

pub returns-in-NoMemory-clause-no_memory : goal.returns-in-NoMemory-clause-no_memory
returns-in-NoMemory-clause-no_memory g c st shows =
    let code = c.args.code.now in
    let first = g.O.Sink.taken c.args.out.now in
    let before = g.O.Sink.taken c.loop-i.out in
    let now = g.O.Sink.taken c.turn.new.out in
    let nothing = subst (λ (p : Pace). OnErr (turn_of p) (now ≡ before)) c.in-NoMemory.is c.turn.ensures.nothing in
    run_front code c.args.machine.now c.loop-i.machine first before now c.args.steps (c.args.steps - c.loop-i.i) nothing c.loop-i.invariant.follows st shows

pub returns-clause-ran : goal.returns-clause-ran
returns-clause-ran g c st shows =
    let past : c.args.steps ≤ c.loop-i.i = search rules in
    run_spent c.args.code.now c.args.machine.now c.loop-i.machine (g.O.Sink.taken c.args.out.now) (g.O.Sink.taken c.loop-i.out) c.args.steps (c.args.steps - c.loop-i.i) (omega (arith, past)) c.loop-i.invariant.follows st shows

pub returns-in-Done-clause-shared : goal.returns-in-Done-clause-shared
returns-in-Done-clause-shared g c =
    let code = c.args.code.now in
    let old = c.loop-i.machine in
    let new = c.returned.new.self in
    let ends = (subst (TurnsShared code old new) c.in-Done.is c.in_ok-returned-in-Return.ensures.shared) in
    ends_shared code c.args.machine.now old c.loop-i.i c.args.steps c.in-Done.copies c.in-Done.nodes (omega (arith, c.loop-i-test.true)) c.loop-i.invariant.along ends.0 ends.1
