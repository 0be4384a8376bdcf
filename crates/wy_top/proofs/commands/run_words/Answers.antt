use Rattle.std.proofs.Common.{◌≡◌, ℕ, List, Option, None, inl, inr, sym, subst}
use Rattle.std.specs.Prelude.{IfOk}
use Rattle.std.specs.String.{string_bytes}
use Rattle.wy_top_probe.specs.wy_top_answers.Answers.{IsRefusal}
use Rattle.wy_top_probe.specs.wy_top_answers.Showing.{Shown, Sinks, sinks}
use Rattle.wy_top_probe.specs.wy_top_answers.Steps.{Setting, setting}
use Rattle.wy_top_probe.specs.wy_top_answers.declared.answer.Answer.{Answer}
use Rattle.wy_top_probe.specs.wy_top_answers.report.Lines.{words_refused}
use Rattle.wy_top_words.specs.CommandLine.{Asked, command_of}
use Rattle.wy_top_words.specs.Plain.{words_in}
use Rattle.wy_top.specs.Saves.{Saving, saving}
use Rattle.wy_top.specs.Statement.{Comes, DoesIf, IsKeptBy, saved_name}
use Rattle.wy_top.proofs.commands.run_words.Goals as goal

-- words that ask for nothing
nothing : (words : List (List ℕ)) (s : Setting) (v : Saving) (status : ℕ) (k : Sinks) (a : Answer) → command_of words ≡ None → IsRefusal 2 words_refused a → Shown a status k → Comes words s v status k
nothing words s v status k a none (inl e) shown = inl (subst (λ (o : Option Asked). DoesIf o s v status k) (sym none) (subst (λ (b : Answer). Shown b status k) e shown))
nothing words s v status k a none (inr e) shown = inr (subst (λ (b : Answer). Shown b status k) e shown)

pub returns-in-Ok-clause-comes : goal.returns-in-Ok-clause-comes
returns-in-Ok-clause-comes g c =
    let old = c.args.files.now in
    let new = c.perform.new.files in
    let k = sinks (g.O.Sink.taken c.args.out.now) (g.O.Sink.taken c.perform.new.out) (g.O.Sink.faults c.args.out.now) (g.O.Sink.faults c.perform.new.out) (g.E.Sink.taken c.args.err.now) (g.E.Sink.taken c.perform.new.err) (g.E.Sink.faults c.args.err.now) (g.E.Sink.faults c.perform.new.err) in
    inl (subst (λ (o : Option Asked). DoesIf o (setting (g.F.Files.told old) (g.F.Files.load_faults old) (g.F.Files.load_faults new) (g.F.Files.misses old) (g.F.Files.misses new))
    (saving (g.F.Files.told old (saved_name o)) (g.F.Files.told new (saved_name o)) (g.F.Files.save_faults old) (g.F.Files.save_faults new)) c.perform.result k)
    (sym c.in-Ok.ensures.command) c.perform.ensures.does)

pub returns-in-Ok-clause-kept : goal.returns-in-Ok-clause-kept
returns-in-Ok-clause-kept g c = λ other h.
    c.perform.ensures.kept other (subst (λ (o : Option Asked). IsKeptBy o other) c.in-Ok.ensures.command h)

pub returns-in-Err-Refused-clause-comes : goal.returns-in-Err-Refused-clause-comes
returns-in-Err-Refused-clause-comes g c =
    nothing (words_in c.args.words.now) _ _ c.show.result _ c.refusal-answer.result (c.in-Err-Refused.ensures.command c.in-Err-Refused.field-0-is)
    (c.refusal-answer.ensures.value words_refused (subst (λ (t : List ℕ). IfOk c.from_str.result (λ s. string_bytes s ≡ t)) c.words_refused.ensures.value c.from_str.ensures.ok)) c.show.ensures.shown

pub returns-in-Err-NoMemory-clause-comes : goal.returns-in-Err-NoMemory-clause-comes
returns-in-Err-NoMemory-clause-comes g c =
    inr (subst (λ (a : Answer). Shown a c.show-in-Err-NoMemory.result (sinks (g.O.Sink.taken c.args.out.now) (g.O.Sink.taken c.show-in-Err-NoMemory.new.out) (g.O.Sink.faults c.args.out.now) (g.O.Sink.faults c.show-in-Err-NoMemory.new.out) (g.E.Sink.taken c.args.err.now) (g.E.Sink.taken c.show-in-Err-NoMemory.new.err) (g.E.Sink.faults c.args.err.now) (g.E.Sink.faults c.show-in-Err-NoMemory.new.err))) c.no_memory-answer.ensures.value c.show-in-Err-NoMemory.ensures.shown)
