-- The steps of `big`.
use Rattle.std.proofs.Common.{◌≡◌, ◌≤◌, ◌<◌, ◌∙◌, ◌++◌, ℕ, List, [], length, Option, Some, None, Ok, Err, inl, inr, arith, refl, sym, ap, subst}
use Rattle.wy_top_probe.specs.wy_top_answers.Answers.{refused, written as writes, no_memory, IsRefusal}
use Rattle.wy_top_probe.specs.wy_top_answers.Loading.{source_limit}
use Rattle.wy_top_probe.specs.wy_top_answers.Steps.{Setting, Came, Gives, Answers}
use Rattle.wy_top_probe.specs.wy_top_answers.Texts.{of_file}
use Rattle.wy_top_probe.specs.wy_top_answers.declared.answer.Answer.{Answer}
use Rattle.wy_top_probe.proofs.wy_top_answers_proofs.StepLemmas.{value_gives, refusal_gives}
use Rattle.wy_top_probe.proofs.wy_top_answers_proofs.AnswerLemmas.{last_answers, memory_answers}
use Rattle.wy_top_big.specs.Source.{source_of}
use Rattle.wy_lemmas.proofs.Lists.{same_bytes}
use Rattle.wy_top_probe.specs.wy_mach_run.wy_mach.Running.{Spends}
use Rattle.wy_top_probe.specs.wy_top_answers.report.Lines.{steps_spent}
use Rattle.wy_top_probe.specs.wy_mach_run.Running.{EndsSo, Finished, written}
use Rattle.wy_top_probe.specs.wy_mach_run.declared.end.RunEnd.{RunEnd}
use Rattle.wy_top_probe.specs.wy_mach_run.declared.end.RunEnd.TheVariants.{Done, Spent, OutFault}
use Rattle.wy_gen_sources.specs.wy_code_spec.step.Step as step
use Rattle.wy_gen_sources.specs.wy_code_spec.step.Step.{State, Ended, Frame, Caller}
use Rattle.wy_value.specs.Datum.{Datum}
use Rattle.wy_top.specs.Large.{IsLine, finishes_in, head, large_name, makes, makes_one}
use Rattle.wy_top.specs.declared.launching.Launch.{Launch}
use Rattle.std.specs.Prelude.{codes}

-- ---- the source

only_made : (functions seed : ℕ) (bytes : List ℕ) → bytes ≡ source_of functions seed → length bytes ≤ source_limit → (other : Came (List ℕ)) → makes_one functions seed other → other ≡ Ok bytes
only_made functions seed bytes e within (Ok b) h = ap (λ (x : List ℕ). Ok x) (h.0 ∙ sym e)
only_made functions seed bytes e within (Err a) h = let same = ap (λ (x : List ℕ). length x) e in let long = h.0 in absurd (omega (arith, same, long, within))

pub makes_value : (s : Setting) (functions seed : ℕ) (bytes : List ℕ) → bytes ≡ source_of functions seed → length bytes ≤ source_limit → Gives s (makes functions seed) (Ok bytes)
makes_value s functions seed bytes e within = value_gives s (makes functions seed) bytes (e, within) (λ other h. only_made functions seed bytes e within other h)

only_long : (functions seed : ℕ) → source_limit < length (source_of functions seed) → (other : Came (List ℕ)) → makes_one functions seed other → other ≡ Err (refused 10 (of_file large_name (codes "too long")))
only_long functions seed long (Ok b) h = let same = ap (λ (x : List ℕ). length x) h.0 in let within = h.1 in absurd (omega (arith, same, long, within))
only_long functions seed long (Err a) h = ap (λ (b : Answer). Err b) h.1

pub makes_long : (s : Setting) (functions seed : ℕ) (a : Answer) → source_limit < length (source_of functions seed) → IsRefusal 10 (of_file large_name (codes "too long")) a → Gives s (makes functions seed) (Err a)
makes_long s functions seed a long refusal =
    refusal_gives s (makes functions seed) 10 (of_file large_name (codes "too long")) a refusal (long, refl) (λ other h. only_long functions seed long other h)

-- ---- the run

bytes_or : List ℕ → Option (List ℕ) → List ℕ
bytes_or d None = d
bytes_or d (Some x) = x

by_line : (s : Setting) (functions conditions : ℕ) (l : Launch) (v : Datum) (output wrote : List ℕ) (a : Answer) → wrote ≡ written l.start.has_result output v → IsLine functions conditions wrote a
    → Answers s (finishes_in functions conditions l (Ended v output)) a
by_line s functions conditions l v output wrote a e (inl is) =
    let whole : a ≡ writes (head functions conditions ++ written l.start.has_result output v) = is ∙ ap (λ (w : List ℕ). writes (head functions conditions ++ w)) e in
    last_answers s (finishes_in functions conditions l (Ended v output)) a
    (value_gives s (finishes_in functions conditions l (Ended v output)) a (ap (λ (b : Answer). Ok b) whole) (λ other h. h ∙ ap (λ (b : Answer). Ok b) (sym whole)))
by_line s functions conditions l v output wrote a e (inr is) = memory_answers s (finishes_in functions conditions l (Ended v output)) a is

-- of what has no step nothing is said
stuck_answers : (s : Setting) (functions conditions : ℕ) (l : Launch) (a : Answer) → Answers s (finishes_in functions conditions l step.Stuck) a
stuck_answers s functions conditions l a = last_answers s (finishes_in functions conditions l step.Stuck) a (value_gives s (finishes_in functions conditions l step.Stuck) a tt (λ other h. absurd h))

pub done_answers : (s : Setting) (functions conditions : ℕ) (l : Launch) (st : State) (copies nodes : ℕ) (wrote : List ℕ) (a : Answer) → Finished l.start.has_result copies nodes (Some []) (Some wrote) st
    → IsLine functions conditions wrote a → Answers s (finishes_in functions conditions l st) a
done_answers s functions conditions l (step.Runs fr callers output) copies nodes wrote a h line = absurd h
done_answers s functions conditions l (Ended v output) copies nodes wrote a h line = by_line s functions conditions l v output wrote a (same_bytes wrote (written l.start.has_result output v) h.1) line
done_answers s functions conditions l step.Stuck copies nodes wrote a h line = stuck_answers s functions conditions l a

by_steps : (s : Setting) (functions conditions : ℕ) (l : Launch) (fr : Frame) (callers : List Caller) (output : List ℕ) (a : Answer) → IsRefusal 8 steps_spent a → Answers s (finishes_in functions conditions l (step.Runs fr callers output)) a
by_steps s functions conditions l fr callers output a (inl e) =
    last_answers s (finishes_in functions conditions l (step.Runs fr callers output)) a
    (value_gives s (finishes_in functions conditions l (step.Runs fr callers output)) a (ap (λ (b : Answer). Ok b) e) (λ other h. h ∙ ap (λ (b : Answer). Ok b) (sym e)))
by_steps s functions conditions l fr callers output a (inr e) = memory_answers s (finishes_in functions conditions l (step.Runs fr callers output)) a e

pub spent_answers : (s : Setting) (functions conditions : ℕ) (l : Launch) (st : State) (before after : Option (List ℕ)) (a : Answer) → Spends before after st → IsRefusal 8 steps_spent a → Answers s (finishes_in functions conditions l st) a
spent_answers s functions conditions l (step.Runs fr callers output) before after a h refusal = by_steps s functions conditions l fr callers output a refusal
spent_answers s functions conditions l (Ended v output) before after a h refusal = absurd h
spent_answers s functions conditions l step.Stuck before after a h refusal = stuck_answers s functions conditions l a

-- the answer that goes with an end of the run, where this was written
abbrev pub GoesWith : ℕ → ℕ → List ℕ → RunEnd → Answer → Type 0
GoesWith functions conditions wrote (Done copies nodes) a = IsLine functions conditions wrote a
GoesWith functions conditions wrote Spent a = IsRefusal 8 steps_spent a
GoesWith functions conditions wrote OutFault a = a ≡ no_memory

pub end_answers : (s : Setting) (functions conditions : ℕ) (l : Launch) (st : State) (end : RunEnd) (before : Option (List ℕ)) (wrote : List ℕ) (f g : ℕ) (a : Answer) → before ≡ Some []
    → EndsSo l.start.has_result st before (Some wrote) f g end → GoesWith functions conditions wrote end a → Answers s (finishes_in functions conditions l st) a
end_answers s functions conditions l st (Done copies nodes) before wrote f g a empty ran goes =
    done_answers s functions conditions l st copies nodes wrote a (subst (λ (b : Option (List ℕ)). Finished l.start.has_result copies nodes b (Some wrote) st) empty ran) goes
end_answers s functions conditions l st Spent before wrote f g a empty ran goes = spent_answers s functions conditions l st before (Some wrote) a ran goes
end_answers s functions conditions l st OutFault before wrote f g a empty ran goes = memory_answers s (finishes_in functions conditions l st) a goes
