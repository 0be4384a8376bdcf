use Rattle.std.proofs.Common.{◌∙◌, ℕ, List, inr, refl, ap, subst}
use Rattle.wy_port.specs.Taken.{TookFront, with_taken}
use Rattle.wy_top_probe.specs.wy_mach_run.Running.{state_of}
use Rattle.wy_top.specs.Runs.{no_memory, of_lines, sink_failed}
use Rattle.wy_top.proofs.RunLemmas.{ran_ends, writes_nothing}
use Rattle.wy_top.proofs.running.run.Goals as goal

pub returns-in-Err : goal.returns-in-Err
returns-in-Err g c =
    let l = c.args.launch.now in
    let took = subst (λ (t : List ℕ). TookFront (g.E.Sink.taken c.args.err.now) (g.E.Sink.taken c.write_whole.new.sink) t) c.as_slice.ensures.value c.in-Err.ensures.front in
    record { ran = sink_failed refl (inr c.in-Err.ensures.cause) (writes_nothing l.start.has_result (state_of l.start c.args.steps) (g.O.Sink.taken c.args.out.now)) (of_lines took) }

pub returns-in-Ok-run_start : goal.returns-in-Ok-run_start
returns-in-Ok-run_start g c =
    let l = c.args.launch.now in
    let lines = c.in-Ok.ensures.taken ∙ ap (with_taken (g.E.Sink.taken c.args.err.now)) c.as_slice.ensures.value in
    record {
      ran = ran_ends (record {
        lines = l.lines;
        wanted = l.start.has_result;
        asked = c.args.asked;
        st = state_of l.start c.args.steps;
        out_before = g.O.Sink.taken c.args.out.now;
        out_after = g.O.Sink.taken c.run_start.new.out;
        out_f = g.O.Sink.faults c.args.out.now;
        out_g = g.O.Sink.faults c.run_start.new.out;
        err_before = g.E.Sink.taken c.args.err.now;
        err_between = g.E.Sink.taken c.write_whole.new.sink;
        err_after = g.E.Sink.taken c.ended.new.err;
        err_f = g.E.Sink.faults c.args.err.now;
        err_g = g.E.Sink.faults c.write_whole.new.sink;
        err_h = g.E.Sink.faults c.ended.new.err;
      }) l.start c.args.steps c.ended.result c.in-Ok.ensures.count c.ended.ensures.count lines c.in-Ok-run_start.end c.in-Ok-run_start.ensures.runs c.in-Ok-run_start.ensures.counts c.ended.ensures.ends;
    }

pub returns-in-Err-run_start : goal.returns-in-Err-run_start
returns-in-Err-run_start g c =
    let l = c.args.launch.now in
    let lines = c.in-Ok.ensures.taken ∙ ap (with_taken (g.E.Sink.taken c.args.err.now)) c.as_slice.ensures.value in
    record { ran = no_memory refl c.in-Err-run_start.ensures.no_memory lines }
