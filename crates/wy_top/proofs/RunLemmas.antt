-- What a run that started shows.
use Rattle.std.proofs.Common.{◌≡◌, ◌≤◌, ◌⊎◌, ◌∙◌, ◌++◌, ◌+◌, ℕ, List, length, map, take, Bool, Option, Some, None, inl, inr, arith, refl, sym, ap}
use Rattle.std.proofs.Math.Seq.{take-append-add}
use Rattle.std.proofs.lemmas.List.{append_assoc, length-append}
use Rattle.wy_top_probe.specs.wy_top_answers.Showing.{sinks}
use Rattle.wy_top_probe.proofs.wy_top_answers_proofs.LoadLemmas.{rose_within}
use Rattle.wy_top_probe.proofs.wy_top_answers_proofs.ShowLemmas.{took_nothing, took_whole}
use Rattle.wy_top_probe.specs.wy_mach_run.wy_mach.Running.{Spends}
use Rattle.wy_port.specs.Count.{Rose}
use Rattle.wy_port.specs.Taken.{TookFront, with_taken}
use Rattle.wy_top_probe.specs.wy_top_answers.report.Lines.{steps_spent}
use Rattle.wy_top_probe.specs.wy_mach_run.Running.{Counts, CountsSo, EndsSo, Finished, WritesFront, written}
use Rattle.wy_top_probe.specs.wy_mach_run.declared.end.RunEnd.{RunEnd}
use Rattle.wy_top_probe.specs.wy_mach_run.declared.end.RunEnd.TheVariants.{Done, Spent, OutFault}
use Rattle.wy_gen_sources.specs.wy_code_spec.step.Step as step
use Rattle.wy_gen_sources.specs.wy_code_spec.step.Step.{State, Ended}
use Rattle.wy_top_probe.specs.wy_mach_run.declared.parts.Start.{Start}
use Rattle.wy_value.specs.Seen.{seen}
use Rattle.wy_top.specs.Runs.{Reports, whole, front, EndsRun, Shows, finished, of_done, of_lines, of_spent, spends, sink_failed, no_memory, stats_text}

-- ---- texts one behind the other

pub with_taken-append : (known : Option (List ℕ)) (xs ys : List ℕ) → with_taken (with_taken known xs) ys ≡ with_taken known (xs ++ ys)
with_taken-append None xs ys = refl
with_taken-append (Some bytes) xs ys = ap (λ (all : List ℕ). Some all) (append_assoc bytes xs ys)

-- a front of what stands behind some lines, as a front of both
pub front_behind : (before between after : Option (List ℕ)) (lines text : List ℕ) → between ≡ with_taken before lines → TookFront between after text → TookFront before after (lines ++ text)
front_behind before between after lines text e f = record {
  count = length lines + f.count;
  within = rw length-append (omega (arith, f.within));
  took = f.took ∙ (ap (λ (b : Option (List ℕ)). with_taken b (take f.count text)) e ∙ (with_taken-append before lines (take f.count text) ∙ ap (with_taken before) (sym (take-append-add lines text f.count))));
}

-- the whole text behind some lines
pub whole_behind : (before between after : Option (List ℕ)) (lines text : List ℕ) → between ≡ with_taken before lines → after ≡ with_taken between text → after ≡ with_taken before (lines ++ text)
whole_behind before between after lines text e f = f ∙ (ap (λ (b : Option (List ℕ)). with_taken b text) e ∙ with_taken-append before lines text)

-- ---- nothing is a front of what a run writes

pub writes_nothing : (wanted : Bool) (st : State) (known : Option (List ℕ)) → WritesFront wanted known known st
writes_nothing wanted (step.Runs fr callers output) known = took_nothing known output
writes_nothing wanted (Ended v output) known = took_nothing known (written wanted output v)
writes_nothing wanted step.Stuck known = tt

writes_done : (wanted : Bool) (copies nodes : ℕ) (before after : Option (List ℕ)) (st : State) → Finished wanted copies nodes before after st → WritesFront wanted before after st
writes_done wanted copies nodes before after (step.Runs fr callers output) h = absurd h
writes_done wanted copies nodes before after (Ended v output) h = took_whole before after (written wanted output v) h.1
writes_done wanted copies nodes before after step.Stuck h = tt

writes_spent : (wanted : Bool) (before after : Option (List ℕ)) (st : State) → Spends before after st → WritesFront wanted before after st
writes_spent wanted before after (step.Runs fr callers output) h = took_whole before after output h
writes_spent wanted before after (Ended v output) h = absurd h
writes_spent wanted before after step.Stuck h = tt

-- ---- the ends

-- the counts and the bytes of both sinks
pub record Around : Type 0 where
  pub lines : List ℕ
  pub wanted : Bool
  pub asked : Bool
  pub st : State
  pub out_before : Option (List ℕ)
  pub out_after : Option (List ℕ)
  pub out_f : ℕ
  pub out_g : ℕ
  pub err_before : Option (List ℕ)
  pub err_between : Option (List ℕ)
  pub err_after : Option (List ℕ)
  pub err_f : ℕ
  pub err_g : ℕ
  pub err_h : ℕ

-- what is left of a run of what a start has, for so many steps
module _ (a : Around) (s : Start) (steps : ℕ) where
  abbrev Told : ℕ → ℕ → Type 0
  Told copies nodes = Counts s.code s.entry (map seen s.args) steps copies nodes

  abbrev pub ShowsAround : ℕ → Type 0
  ShowsAround status = Shows a.lines a.wanted a.asked Told a.st status (sinks a.out_before a.out_after a.out_f a.out_g a.err_before a.err_after a.err_f a.err_h)

  module _ (status : ℕ) (fg : a.err_f ≤ a.err_g) (gh : a.err_g ≤ a.err_h) (between : a.err_between ≡ with_taken a.err_before a.lines) where
    rose : Rose a.err_g a.err_h → Rose a.err_f a.err_h
    rose r = rose_within a.err_f a.err_g a.err_h a.err_h fg gh (omega arith) r

    behind : (text : List ℕ) → TookFront a.err_between a.err_after text → TookFront a.err_before a.err_after (a.lines ++ text)
    behind text took = front_behind a.err_before a.err_between a.err_after a.lines text between took

    by_done : (copies nodes : ℕ) → Finished a.wanted copies nodes a.out_before a.out_after a.st → Told copies nodes
        → Reports 0 (stats_text a.asked copies nodes) status a.err_between a.err_after a.err_g a.err_h ⊎ ((status ≡ 9) × (a.err_after ≡ a.err_between)) → ShowsAround status
    by_done copies nodes h counts (inl (whole zero took)) = finished copies nodes zero h counts (whole_behind a.err_before a.err_between a.err_after a.lines (stats_text a.asked copies nodes) between took)
    by_done copies nodes h counts (inl (front five r took)) =
        sink_failed five (inr (rose r)) (writes_done a.wanted copies nodes a.out_before a.out_after a.st h) (of_done copies nodes h counts (behind (stats_text a.asked copies nodes) took))
    by_done copies nodes h counts (inr none) = no_memory none.0 (writes_done a.wanted copies nodes a.out_before a.out_after a.st h) (none.1 ∙ between)

    by_spent : Spends a.out_before a.out_after a.st → Reports 8 steps_spent status a.err_between a.err_after a.err_g a.err_h → ShowsAround status
    by_spent h (whole eight took) = spends eight h (whole_behind a.err_before a.err_between a.err_after a.lines steps_spent between took)
    by_spent h (front five r took) = sink_failed five (inr (rose r)) (writes_spent a.wanted a.out_before a.out_after a.st h) (of_spent h (behind steps_spent took))

    pub ran_ends : (end : RunEnd) → EndsSo a.wanted a.st a.out_before a.out_after a.out_f a.out_g end → CountsSo s steps end → EndsRun a.asked end status a.err_between a.err_after a.err_g a.err_h → ShowsAround status
    ran_ends (Done copies nodes) ran counts ends = by_done copies nodes ran counts ends
    ran_ends Spent ran counts ends = by_spent ran ends
    ran_ends OutFault ran counts ends = sink_failed ends.0 (inl ran.1) ran.0 (of_lines (took_whole a.err_before a.err_after a.lines (ends.1 ∙ between)))
