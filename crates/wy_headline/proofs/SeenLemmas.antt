-- Status 13 comes of `prove` alone, for a condition that was found and not certified.
use Rattle.std.proofs.Common.{◌≡◌, ◌≢◌, ◌⊎◌, inl, inr, ℕ, List, Bool, true, false, Option, Some, None, IfSome, Ok, Err, refl, sym, ◌∙◌, subst, arith}
use Rattle.wy_top.specs.wy_top_answers.Answers.{refused, no_memory}
use Rattle.wy_top.specs.wy_top_answers.Showing.{Shown, Sinks}
use Rattle.wy_top.specs.wy_top_answers.Steps.{Came, EndsOutside, Setting, stated}
use Rattle.wy_top.specs.wy_top_answers.Texts.{not_certified}
use Rattle.wy_top.specs.wy_top_answers.declared.answer.Answer.{Answer}
use Rattle.wy_core.specs.CoreTree.{Core}
use Rattle.wy_port.specs.Taken.{with_taken}
use Rattle.wy_top.specs.wy_top_answers.report.Lines.{save_failed, words_refused}
use Rattle.wy_top.specs.wy_probe.Trials.{Finding, Faulted, Faultless}
use Rattle.wy_top.specs.Acceptance.{are_closed, check_steps}
use Rattle.wy_top.specs.wy_batch.Known.{Known}
use Rattle.wy_top.specs.wy_top_probe.Probing.{IsProbed, enters, found_answer, probe_steps, reads}
use Rattle.wy_top.specs.Programs.{Program}
use Rattle.wy_top.specs.Again.{Renews, renews_file}
use Rattle.wy_top.specs.Proofs.{IsJudged, Proves, proof_answer, proves_file}
use Rattle.wy_top.specs.Saves.{Saves, Saving}
use Rattle.wy_top.specs.Saves as saves
use Rattle.wy_top.specs.Statement.{Does, DoesIf, ShowsSaved}
use Rattle.wy_top.specs.Texts.{source_for, text, text_steps}
use Rattle.wy_top.specs.declared.texts.Text.{Text}
use Rattle.wy_top.specs.declared.texts.Text.TheVariants as kind_of
use Rattle.wy_top_words.specs.CommandLine.{Asked, check, run, prove, conds, fmt, dis, big, probe, again, command_of}
use Rattle.wy_headline.specs.Headline.{HasNoRun, Headline, IsOfRun}
use Rattle.wy_headline.specs.Runs.{Entry}
use Rattle.wy_headline.specs.Seen.{IsNeverStuck, IsNotCertified, NeverSticks}
use Rattle.wy_headline.proofs.AgainLemmas.{renewal_bad, renewal_good}
use Rattle.wy_headline.proofs.HeadlineLemmas.{none_apart, runs_right}
use Rattle.wy_headline.proofs.LargeLemmas.{large_comes, large_right}
use Rattle.wy_headline.proofs.ApartLemmas.{Apart, answered_apart, check_bad, check_good, faulted_apart, no_0, no_1, no_12, no_2, no_5, no_7, no_8, no_9, none_is, other, others, outside_apart, shown_apart, value_apart}
use Rattle.wy_headline.proofs.StepLemmas.{alone_refused, loaded_refused, no_value, of_steps, owes_refused, value_is}

-- ---- what is found and not certified

-- where its status is 13, it is the line for a condition that was found and not certified
abbrev Fine : Answer → Type 0
Fine a = a.status ≡ 13 → a ≡ refused 13 not_certified

fine : (a : Answer) → Apart a → Fine a
fine a apart e = absurd (apart e)

found : (a : Answer) → a ≡ refused 13 not_certified → Fine a
found a is e = is

shown_fine : (a : Answer) (status : ℕ) (k : Sinks) → Fine a → Shown a status k → IsNotCertified status k
shown_fine a status k is_fine (inl w) e =
    let is = is_fine (sym w.answer ∙ e) in
    (subst (λ (b : Answer). k.out_after ≡ with_taken k.out_before b.out) is w.out, subst (λ (b : Answer). k.err_after ≡ with_taken k.err_before b.err) is w.err)
shown_fine a status k is_fine (inr f) e = let five = f.answer in absurd (omega (arith, five, e))

-- ---- commands that answer

text_good : (s : Setting) (kind : Text) (source : List ℕ) (a : Answer) → text_steps s kind source stated (Ok a) → Apart a
text_good s kind source a h = value_apart _ _ (λ x b g. other 0 b _ (value_is b _ g) refl no_0) a h

text_kind_apart : (kind : Text) (source bytes : List ℕ) (a : Answer) → text kind source bytes stated (Err a) → Apart a
text_kind_apart kind_of.Layout source bytes a h = faulted_apart _ _ (λ f. no_1) a h
text_kind_apart kind_of.Listing source bytes a h = faulted_apart _ _ (λ f. no_1) a h
text_kind_apart kind_of.Conditions source bytes a h = faulted_apart _ _ (λ f. no_1) a h

text_source_apart : (s : Setting) (kind : Text) (source : List ℕ) (a : Answer) → source_for s kind source stated (Err a) → Apart a
text_source_apart s kind_of.Layout source a h = loaded_refused Apart none_is s source _ a h
text_source_apart s kind_of.Listing source a h = alone_refused Apart none_is s source a h
text_source_apart s kind_of.Conditions source a h = alone_refused Apart none_is s source a h

text_bad : (s : Setting) (kind : Text) (source : List ℕ) (a : Answer) → text_steps s kind source stated (Err a) → Apart a
text_bad s kind source a h =
    of_steps Apart _ _ (λ b g. of_steps Apart _ _ (λ c f. text_source_apart s kind source c f) (λ bytes c f. text_kind_apart kind source bytes c f) b g) (λ x b g. absurd (no_value _ b g)) a h

-- ---- runs

ran_apart : (status : ℕ) → IsOfRun status → status ≢ 13
ran_apart status (inl is) = others 0 status is no_0
ran_apart status (inr (inl is)) = others 8 status is no_8
ran_apart status (inr (inr (inl is))) = others 5 status is no_5
ran_apart status (inr (inr (inr is))) = others 9 status is no_9

module _ (s : Setting) (source cert name arguments : List ℕ) (budget steps : ℕ) (stats : Bool) (status : ℕ) (k : Sinks) where
  by_run : (run : Option Entry) → IfSome run (λ e. IsOfRun status) → (run ≡ None → (a : Answer) × HasNoRun s source cert name arguments budget a × Shown a status k) → status ≢ 13
  by_run (Some e) is refused = ran_apart status is
  by_run None is refused = let h = refused refl in shown_apart h.0 status k (none_apart s source cert name arguments budget h.0 h.1) h.2

  run_comes : Headline s source cert name arguments budget steps stats status k → status ≢ 13
  run_comes h = by_run h.run h.status_is h.refused

-- ---- the command `probe`

found_apart : (bytes : List ℕ) (f : Finding) (a : Answer) → a ≡ found_answer bytes f → Apart a
found_apart bytes (Faulted number vs kind at) a is = other 12 a _ is refl no_12
found_apart bytes (Faultless tried met undecided) a is = other 0 a _ is refl no_0

probed_apart : (bytes : List ℕ) (core : Core ℕ) (tuples ticks entry : ℕ) (a : Answer) → IsProbed bytes core tuples ticks entry (Ok a) → Apart a
probed_apart bytes core tuples ticks entry a h = found_apart bytes h.finding a (value_is a _ h.answer)

enters_apart : (core : Core ℕ) (name : List ℕ) (a : Answer) → enters core name stated (Err a) → Apart a
enters_apart core name a h = faulted_apart _ _ (λ f. no_7) a h

reads_apart : (name bytes : List ℕ) (a : Answer) → reads name bytes stated (Err a) → Apart a
reads_apart name bytes a h = faulted_apart _ _ (λ f. no_1) a h

pub probe_good : (s : Setting) (source name : List ℕ) (tuples ticks : ℕ) (a : Answer) → probe_steps s source name tuples ticks stated (Ok a) → Apart a
probe_good s source name tuples ticks a h =
    value_apart _ _ (λ bytes b g. value_apart _ _ (λ p c f. value_apart _ _ (λ entry d e. probed_apart bytes p.core tuples ticks entry d e) c f) b g) a h

pub probe_bad : (s : Setting) (source name : List ℕ) (tuples ticks : ℕ) (a : Answer) → probe_steps s source name tuples ticks stated (Err a) → Apart a
probe_bad s source name tuples ticks a h =
    of_steps Apart _ _ (λ b g. alone_refused Apart none_is s source b g) (λ bytes b g. of_steps Apart _ _ (λ c f. reads_apart source bytes c f)
    (λ p c f. of_steps Apart _ _ (λ d e. enters_apart p.core name d e) (λ entry d e. absurd (no_value _ d e.answer)) c f) b g) a h

-- ---- the command `prove`

proof_apart : (name bytes : List ℕ) (p : Program) (budget : ℕ) (ks : List Known) (b : Bool) (a : Answer) → a ≡ proof_answer name bytes p budget ks b → Apart a
proof_apart name bytes p budget ks true a is = other 0 a _ is refl no_0
proof_apart name bytes p budget ks false a is = other 1 a _ is refl no_1

judged_apart : (name bytes : List ℕ) (p : Program) (budget : ℕ) (a : Answer) → IsJudged name bytes p budget a → Apart a
judged_apart name bytes p budget a h = proof_apart name bytes p budget h.verdicts (are_closed h.verdicts) a h.answer

proof_good : (s : Setting) (source : List ℕ) (budget : ℕ) (a : Answer) → proves_file s source budget stated (Ok a) → Apart a
proof_good s source budget a h = value_apart _ _ (λ bytes b g. value_apart _ _ (λ p c f. judged_apart source bytes p budget c f) b g) a h

proof_bad : (s : Setting) (source : List ℕ) (budget : ℕ) (a : Answer) → proves_file s source budget stated (Err a) → Fine a
proof_bad s source budget a h = of_steps Fine _ _ (λ b g. fine b (alone_refused Apart none_is s source b g)) (λ bytes b g. of_steps Fine _ _ (λ c f. fine c (owes_refused Apart none_is source bytes c f)) (λ p c f. found c f.answer) b g) a h

saved_apart : (name saved : List ℕ) (a : Answer) (v : Saving) (status : ℕ) (k : Sinks) → Apart a → Saves name saved a v status k → status ≢ 13
saved_apart name saved a v status k apart (saves.whole is shown) = shown_apart a status k apart shown
saved_apart name saved a v status k apart (saves.failed rose lost (inl shown)) = shown_apart (refused 5 (save_failed name)) status k no_5 shown
saved_apart name saved a v status k apart (saves.failed rose lost (inr shown)) = shown_apart no_memory status k no_9 shown
saved_apart name saved a v status k apart (saves.no_memory same shown) = shown_apart no_memory status k no_9 shown

-- a status that isn't 13
weak : (status : ℕ) (k : Sinks) → status ≢ 13 → IsNotCertified status k
weak status k apart e = absurd (apart e)

proved_fine : (s : Setting) (source output : List ℕ) (budget : ℕ) (v : Saving) (status : ℕ) (k : Sinks) (r : Came Answer) → proves_file s source budget stated r ⊎ EndsOutside s r → ShowsSaved (Proves s source budget) output v status k r → IsNotCertified status k
proved_fine s source output budget v status k (Ok a) (inl h) shown = weak status k (saved_apart output shown.0 a v status k (proof_good s source budget a h) shown.2)
proved_fine s source output budget v status k (Ok a) (inr h) shown = absurd h
proved_fine s source output budget v status k (Err a) (inl h) shown = shown_fine a status k (proof_bad s source budget a h) shown.0
proved_fine s source output budget v status k (Err a) (inr h) shown = weak status k (shown_apart a status k (outside_apart s a h) shown.0)

-- ---- the command `again`

renewed_apart : (s : Setting) (source cache : List ℕ) (budget : ℕ) (v : Saving) (status : ℕ) (k : Sinks) (r : Came Answer) → renews_file s source cache budget stated r ⊎ EndsOutside s r → ShowsSaved (Renews s source cache budget) cache v status k r → status ≢ 13
renewed_apart s source cache budget v status k (Ok a) (inl h) shown = saved_apart cache shown.0 a v status k (renewal_good s source cache budget a h) shown.2
renewed_apart s source cache budget v status k (Ok a) (inr h) shown = absurd h
renewed_apart s source cache budget v status k (Err a) (inl h) shown = shown_apart a status k (renewal_bad s source cache budget a h) shown.0
renewed_apart s source cache budget v status k (Err a) (inr h) shown = shown_apart a status k (outside_apart s a h) shown.0

-- ---- all commands

done_fine : (asked : Asked) (s : Setting) (v : Saving) (status : ℕ) (k : Sinks) → Does asked s v status k → IsNeverStuck (Some asked) status k
done_fine (check source cert budget) s v status k h = answered_apart s (check_steps s source cert budget) (check_good s source cert budget) (check_bad s source cert budget) status k h
done_fine (run source cert name arguments budget steps stats) s v status k h = run_comes s source cert name arguments budget steps stats status k (runs_right s source cert name arguments budget steps stats status k h)
done_fine (prove source output budget) s v status k h = proved_fine s source output budget v status k h.last h.gives.comes h.shown
done_fine (conds source) s v status k h = answered_apart s (text_steps s kind_of.Conditions source) (text_good s kind_of.Conditions source) (text_bad s kind_of.Conditions source) status k h
done_fine (fmt source) s v status k h = answered_apart s (text_steps s kind_of.Layout source) (text_good s kind_of.Layout source) (text_bad s kind_of.Layout source) status k h
done_fine (dis source) s v status k h = answered_apart s (text_steps s kind_of.Listing source) (text_good s kind_of.Listing source) (text_bad s kind_of.Listing source) status k h
done_fine (big functions seed budget steps) s v status k h =
    let g = large_right s functions seed budget steps status k h in
    shown_apart g.answer status k (large_comes s functions seed budget steps g.answer g.comes) g.shown
done_fine (probe source name tuples ticks) s v status k h = answered_apart s (probe_steps s source name tuples ticks) (probe_good s source name tuples ticks) (probe_bad s source name tuples ticks) status k h
done_fine (again source cache budget) s v status k h = renewed_apart s source cache budget v status k h.last h.gives.comes h.shown

asked_fine : (asked : Option Asked) (s : Setting) (v : Saving) (status : ℕ) (k : Sinks) → DoesIf asked s v status k → IsNeverStuck asked status k
asked_fine (Some asked) s v status k h = done_fine asked s v status k h
asked_fine None s v status k shown = shown_apart (refused 2 words_refused) status k no_2 shown

-- whatever is asked for
all_weak : (asked : Option Asked) (status : ℕ) (k : Sinks) → status ≢ 13 → IsNeverStuck asked status k
all_weak None status k apart = apart
all_weak (Some (check source cert budget)) status k apart = apart
all_weak (Some (run source cert name arguments budget steps stats)) status k apart = apart
all_weak (Some (prove source output budget)) status k apart = weak status k apart
all_weak (Some (conds source)) status k apart = apart
all_weak (Some (fmt source)) status k apart = apart
all_weak (Some (dis source)) status k apart = apart
all_weak (Some (big functions seed budget steps)) status k apart = apart
all_weak (Some (probe source name tuples ticks)) status k apart = apart
all_weak (Some (again source cache budget)) status k apart = apart

pub never_sticks : NeverSticks
never_sticks words s v status k (inl h) = asked_fine (command_of words) s v status k h
never_sticks words s v status k (inr shown) = all_weak (command_of words) status k (shown_apart no_memory status k no_9 shown)
