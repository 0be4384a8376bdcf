-- What does a call come to over files and streams that tell no contents, and that count their faults from 0?
use Rattle.std.specs.Prelude.{ℕ, List, None, String}
use Rattle.std.specs.declared.alloc.Global.{Global}
use Rattle.wy_port.specs.Told.Told.{Unknown}
use Rattle.wy_top.specs.wy_top_answers.Showing.{Sinks, sinks}
use Rattle.wy_top.specs.wy_top_answers.Steps.{Setting, setting}
use Rattle.wy_top.specs.Saves.{Saving, saving}
use Rattle.wy_top.specs.Statement.{Comes}
use Rattle.wy_top_words.specs.Plain.{words_in}
use Rattle.wy_headline.specs.Complete.{IsComplete}
use Rattle.wy_headline.specs.Means.{Means}

-- counts of faults: of loads, of files that weren't there, of saves, and of both sinks
pub record Counts : Type 0 where
  pub load_faults : ℕ
  pub misses : ℕ
  pub save_faults : ℕ
  pub out_faults : ℕ
  pub err_faults : ℕ

abbrev pub none : Counts
none = record { load_faults = 0; misses = 0; save_faults = 0; out_faults = 0; err_faults = 0 }

-- what is known before a call and after it, by the counts alone
abbrev pub files_between : Counts → Counts → Setting
files_between before after = setting (λ name. Unknown) (λ name. before.load_faults) (λ name. after.load_faults) (λ name. before.misses) (λ name. after.misses)

abbrev pub save_between : Counts → Counts → Saving
save_between before after = saving Unknown Unknown before.save_faults after.save_faults

abbrev pub sinks_between : Counts → Counts → Sinks
sinks_between before after = sinks None None before.out_faults after.out_faults None None before.err_faults after.err_faults

-- what the clauses of `run_words` say of the call
pub record Shows (words : List (List ℕ)) (before after : Counts) (status : ℕ) : Type 0 where
  pub comes : Comes words (files_between before after) (save_between before after) status (sinks_between before after)
  pub means : Means words (files_between before after) status (sinks_between before after)
  pub complete : IsComplete words (files_between before after) (save_between before after) status (sinks_between before after)

-- from counts of 0 on, up to whatever counts
abbrev pub IsStatus : List (String Global) → ℕ → Type 0
IsStatus words status = (ends : Counts) × Shows (words_in words) none ends status
