use Rattle.std.proofs.Common.{[], ◌∷◌}
use Rattle.wy_mach_run.proofs.WritingLemmas.{err_front}
use Rattle.wy_mach_run.proofs.running.put_line.Goals as goal

pub returns-clause-front : goal.returns-clause-front
returns-clause-front g c =
    err_front c.write_whole-2.result (g.O.Sink.taken c.args.out.now) (g.O.Sink.taken c.write_whole.new.sink) (g.O.Sink.taken c.write_whole-2.new.sink) c.args.text.now (10 ∷ []) c.in_ok-write_whole.ensures.taken c.write_whole-2.ensures.front
