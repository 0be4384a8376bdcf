use Rattle.std.proofs.Common.{List, ℕ, inl, inr, refl, subst, ap, ◌∙◌}
use Rattle.wy_port.specs.Taken.{TookFront, with_taken}
use Rattle.wy_top_answers.proofs.ShowLemmas.{took_nothing, took_whole}
use Rattle.wy_top_answers.proofs.showing.show.Goals as goal

pub returns-in-Err-clause-shown : goal.returns-in-Err-clause-shown
returns-in-Err-clause-shown g c =
    inr (record {
      answer = refl;
      fault = inr c.in-Err.ensures.cause;
      out = took_nothing _ c.args.answer.now.out;
      err = subst (λ (t : List ℕ). TookFront (g.E.Sink.taken c.args.err.now) (g.E.Sink.taken c.write_whole.new.sink) t) c.as_slice.ensures.value c.in-Err.ensures.front;
    })

pub returns-in-Err-write_whole-clause-shown : goal.returns-in-Err-write_whole-clause-shown
returns-in-Err-write_whole-clause-shown g c =
    inr (record {
      answer = refl;
      fault = inl c.in-Err-write_whole.ensures.cause;
      out = subst (λ (t : List ℕ). TookFront (g.O.Sink.taken c.args.out.now) (g.O.Sink.taken c.write_whole-2.new.sink) t) c.as_slice-2.ensures.value c.in-Err-write_whole.ensures.front;
      err = took_whole _ _ c.args.answer.now.err (c.in-Ok.ensures.taken ∙ ap (with_taken (g.E.Sink.taken c.args.err.now)) c.as_slice.ensures.value);
    })

pub returns-in-Ok-write_whole-clause-shown : goal.returns-in-Ok-write_whole-clause-shown
returns-in-Ok-write_whole-clause-shown g c =
    inl (record {
      answer = refl;
      out = c.in-Ok-write_whole.ensures.taken ∙ ap (with_taken (g.O.Sink.taken c.args.out.now)) c.as_slice-2.ensures.value;
      err = c.in-Ok.ensures.taken ∙ ap (with_taken (g.E.Sink.taken c.args.err.now)) c.as_slice.ensures.value;
    })
