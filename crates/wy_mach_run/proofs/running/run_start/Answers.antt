use Rattle.std.proofs.Common.{List, map, subst, sym}
use Rattle.wy_mach.specs.Running.{LacksNone, Ran, state_behind}
use Rattle.wy_value.specs.Seen.{seen}
use Rattle.wy_value.specs.declared.value.Value.{Value}
use Rattle.wy_mach_run.specs.Running.{most_holders, state_of}
use Rattle.wy_mach.specs.SharedTurns.{RanShared}
use Rattle.wy_mach_run.proofs.CountLemmas.{counts_so}
use Rattle.wy_mach_run.proofs.running.run_start.Goals as goal

pub run-requires-clause-steps : goal.run-requires-clause-steps
run-requires-clause-steps g c =
    let s = c.args.start.now in
    subst (λ (vs : List Value). LacksNone (state_behind s.code s.entry (map seen vs) c.args.steps)) (sym c.as_slice-args.ensures) (c.requires.goes c.args.steps)

pub returns-in-Ok-clause-runs : goal.returns-in-Ok-clause-runs
returns-in-Ok-clause-runs g c =
    let s = c.args.start.now in
    let before = g.O.Sink.taken c.args.out.now in
    let middle = g.O.Sink.taken c.run.new.out in
    let failed = g.O.Sink.faults c.args.out.now in
    let fails = g.O.Sink.faults c.run.new.out in
    c.ended.ensures.ended s.has_result (state_of s c.args.steps) before failed c.run.ensures.count
    (subst (λ (vs : List Value). Ran (state_behind s.code s.entry (map seen vs) c.args.steps) s.has_result before middle failed fails c.in-Ok.end) c.as_slice-args.ensures c.in-Ok.ensures.ran)

pub returns-in-Ok-clause-counts : goal.returns-in-Ok-clause-counts
returns-in-Ok-clause-counts g c =
    let s = c.args.start.now in
    counts_so s c.args.steps c.in-Ok.end c.ended.result
    (subst (λ (vs : List Value). RanShared s.code s.entry (map seen vs) c.args.steps most_holders c.in-Ok.end) c.as_slice-args.ensures c.in-Ok.ensures.shared) c.ended.ensures.counts
