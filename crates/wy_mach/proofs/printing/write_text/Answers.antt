use Rattle.std.proofs.Common.{◌≡◌, ◌≤◌, ℕ, List, length, take, drop, ap, ◌∙◌, arith, rules}
use Rattle.std.proofs.lemmas.List.{take_all}
use Rattle.wy_lemmas.proofs.Options.{on_any_err}
use Rattle.wy_port.specs.Taken.{TookFront, with_taken}
use Rattle.wy_mach.specs.Texts.{IsText}
use Rattle.wy_mach.proofs.TextLemmas.{same_text}
use Rattle.wy_mach.proofs.PrintLemmas.{piece_taken, piece_front}
use Rattle.wy_mach.proofs.printing.write_text.Goals as goal

pub gather-requires-clause-there : goal.gather-requires-clause-there
gather-requires-clause-there g c = (c.args.count, c.requires.text, omega (arith, c.next_many-many.ensures.within, c.loop-start-test.true))

pub returns-in_err-write_whole-clause-front : goal.returns-in_err-write_whole-clause-front
returns-in_err-write_whole-clause-front g c =
    let h = c.args.heap.now in
    let p = c.args.place.now in
    let many = c.next_many-many.result in
    let start = c.loop-start.start in
    let piece = c.gather.new.piece in
    let first = g.O.Sink.taken c.args.out.now in
    on_any_err c.from_residual.result ((bytes : List ℕ) → IsText h p bytes → TookFront first (g.O.Sink.taken c.write_whole.new.sink) bytes)
    (λ bytes is.
    let same = same_text h p bytes c.requires.text.0 is c.requires.text.1 in
    let within : start ≤ length bytes = omega (arith, ap length same, c.requires.text.2, c.loop-start.invariant.within) in
    let sent_is : take many piece ≡ take many (drop start bytes) = c.gather.ensures.value bytes is in
    piece_front first (g.O.Sink.taken c.loop-start.out) (g.O.Sink.taken c.write_whole.new.sink) bytes (take many piece) start many within (c.loop-start.invariant.taken bytes is) sent_is c.in_err-write_whole.ensures.front)

pub loop-start-preserved : goal.loop-start-preserved
loop-start-preserved g c =
    let many = c.next_many-many.result in
    let start = c.loop-start.start in
    let piece = c.gather.new.piece in
    record {
      within = omega (arith, c.next_many-many.ensures.within, c.loop-start-test.true);
      long = search rules;
      taken = λ bytes is.
          let sent_is : take many piece ≡ take many (drop start bytes) = c.gather.ensures.value bytes is in
          piece_taken (g.O.Sink.taken c.args.out.now) (g.O.Sink.taken c.loop-start.out) (g.O.Sink.taken c.write_whole.new.sink) bytes (take many piece) start many (c.loop-start.invariant.taken bytes is) sent_is c.in_ok-write_whole.ensures.taken;
      faults = omega (arith, c.in_ok-write_whole.ensures.count, c.loop-start.invariant.faults);
    }

pub returns-clause-taken : goal.returns-clause-taken
returns-clause-taken g c bytes is =
    let same = same_text c.args.heap.now c.args.place.now bytes c.requires.text.0 is c.requires.text.1 in
    let past : length bytes ≤ c.loop-start.start = omega (arith, ap length same, c.requires.text.2, c.loop-start-test.false) in
    c.loop-start.invariant.taken bytes is ∙ ap (with_taken (g.O.Sink.taken c.args.out.now)) (take_all c.loop-start.start bytes past)
