use Rattle.std.proofs.Common.{◌≡◌, ◌⊎◌, ℕ, List, Err, inl, inr, subst, ap}
use Rattle.wy_port.specs.declared.files.SaveFault.{SaveFault}
use Rattle.wy_top_probe.specs.wy_top_answers.Answers.{IsRefusal, no_memory as lacks_memory, refused}
use Rattle.wy_top_probe.specs.wy_top_answers.Showing.{Shown, Sinks}
use Rattle.wy_top_probe.specs.wy_top_answers.declared.answer.Answer.{Answer}
use Rattle.wy_port.specs.Told.{IsSaved}
use Rattle.wy_top_probe.specs.wy_top_answers.report.Lines.{save_failed}
use Rattle.wy_top.specs.Saves.{whole, failed, no_memory}
use Rattle.wy_top.proofs.saving.save.Goals as goal

shown_as : (name : List ℕ) (a : Answer) (status : ℕ) (k : Sinks) → IsRefusal 5 (save_failed name) a → Shown a status k → Shown (refused 5 (save_failed name)) status k ⊎ Shown lacks_memory status k
shown_as name a status k (inl e) h = inl (subst (λ (b : Answer). Shown b status k) e h)
shown_as name a status k (inr e) h = inr (subst (λ (b : Answer). Shown b status k) e h)

shown_none : (a : Answer) (status : ℕ) (k : Sinks) → a ≡ lacks_memory → Shown a status k → Shown lacks_memory status k
shown_none a status k e h = subst (λ (b : Answer). Shown b status k) e h

pub returns-in-Ok-clause-saves : goal.returns-in-Ok-clause-saves
returns-in-Ok-clause-saves g c =
    whole (subst (λ (b : List ℕ). IsSaved (g.F.Files.told c.args.files.now c.args.name.now) (g.F.Files.told c.save.new.self c.args.name.now) b) c.as_slice.ensures.value c.in-Ok.ensures.saved) c.show.ensures.shown

pub returns-in-Err-Failed-clause-saves : goal.returns-in-Err-Failed-clause-saves
returns-in-Err-Failed-clause-saves g c =
    let is = ap (λ (f : SaveFault). Err f) c.in-Err-Failed.field-0-is in
    failed (c.in-Err-Failed.ensures.cause is) (c.in-Err-Failed.ensures.untold is) (shown_as c.args.name.now c.refusal-answer.result _ _ (c.refusal-answer.ensures.value (save_failed c.args.name.now) c.save_failed.ensures.value) c.show-in-Err-Failed.ensures.shown)

pub returns-in-Err-NoMemory-clause-saves : goal.returns-in-Err-NoMemory-clause-saves
returns-in-Err-NoMemory-clause-saves g c =
    no_memory (c.in-Err-NoMemory.ensures.no_memory (ap (λ (f : SaveFault). Err f) c.in-Err-NoMemory.field-0-is)) (shown_none c.no_memory-answer.result _ _ c.no_memory-answer.ensures.value c.show-in-Err-NoMemory.ensures.shown)
