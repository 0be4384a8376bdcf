-- What does the command `again` make of a source and a cache?
use Rattle.std.specs.Prelude.{◌≡◌, ◌-◌, ℕ, List, [], ◌∷◌, Bool, true, false, codes, Ok, Err}
use Rattle.std.specs.Fmt.{decimal}
use Rattle.wy_batch.specs.Known.{Known, count}
use Rattle.wy_cache.specs.Cached.{rows_of}
use Rattle.wy_cache_text.specs.Files.{Entries}
use Rattle.wy_cache_text.specs.Written.{IsLongest}
use Rattle.wy_cert.specs.Steps.{Certificates}
use Rattle.wy_top_probe.specs.wy_link_load.Alone.{IsAlone, loads_alone}
use Rattle.wy_top_probe.specs.wy_top_answers.Answers.{refused, written}
use Rattle.wy_top_probe.specs.wy_top_answers.Steps.{Came, Sense, Setting, and_then, stated}
use Rattle.wy_top_probe.specs.wy_top_answers.declared.answer.Answer.{Answer}
use Rattle.wy_top_probe.specs.wy_top_answers.report.Lines.{line}
use Rattle.wy_top.specs.Acceptance.{are_closed}
use Rattle.wy_top.specs.Caches.{AreSaved, AreSeen, caches, is_kept}
use Rattle.wy_top.specs.Owed.{Owes, told_by}
use Rattle.wy_top.specs.Programs.{Program, conditions_of, count_of, owes}
use Rattle.wy_top.specs.Refusals.{refusal_lines}

-- ---- what is answered

-- how many conditions there are, how many of them are kept, and how many are not
abbrev pub accepted_line : ℕ → ℕ → List ℕ
accepted_line n kept = line (codes "accepted " ∷ decimal n ∷ codes " conditions, " ∷ decimal kept ∷ codes " kept, " ∷ decimal (n - kept) ∷ codes " searched" ∷ [])

-- what is written behind the save, where all conditions are closed and where some aren't
abbrev pub renewal_answer : List ℕ → List ℕ → Program → ℕ → ℕ → List Known → Bool → Answer
renewal_answer name bytes p budget kept ks true = written (accepted_line (count_of p) kept)
renewal_answer name bytes p budget kept ks false = refused 1 (refusal_lines name bytes budget (told_by p.core p.flow) ks)

-- this is known of the conditions, by the entries of the cache and by searches, and this is written behind the save
pub record IsRenewal (name bytes : List ℕ) (p : Program) (budget : ℕ) (es : Entries) (a : Answer) : Type 0 where
  pub verdicts : List Known
  pub seen : AreSeen es budget (conditions_of p) verdicts
  pub answer : a ≡ renewal_answer name bytes p budget (count is_kept verdicts) verdicts (are_closed verdicts)

-- ---- steps

abbrev pub renews : List ℕ → List ℕ → Program → ℕ → Entries → Sense → Came Answer → Type 0
renews name bytes p budget es m (Ok a) = IsRenewal name bytes p budget es a
renews name bytes p budget es m (Err a) = ⊥

-- the cache, and what it shows of the program
abbrev pub renews_with : Setting → List ℕ → List ℕ → ℕ → List ℕ → Program → Sense → Came Answer → Type 0
renews_with s name cache budget bytes p = and_then (caches s cache) (renews name bytes p budget)

abbrev pub renews_source : Setting → List ℕ → List ℕ → ℕ → List ℕ → Sense → Came Answer → Type 0
renews_source s name cache budget bytes = and_then (owes name bytes) (renews_with s name cache budget bytes)

-- the order of the steps up to the save: the source, which imports nothing, what it owes, the cache, the verdicts
abbrev pub renews_file : Setting → List ℕ → List ℕ → ℕ → Sense → Came Answer → Type 0
renews_file s name cache budget = and_then (loads_alone s name) (renews_source s name cache budget)

-- ---- what is saved

-- the text is a cache of as many of these entries as fit: for each condition of the program that is kept, with the certificate that was kept; and for each that was found, with a valid one
pub record IsCacheOf (p : Program) (budget : ℕ) (es : Entries) (text : List ℕ) : Type 0 where
  pub verdicts : List Known
  pub seen : AreSeen es budget (conditions_of p) verdicts
  pub certificates : Certificates
  pub saved : AreSaved es 1 (conditions_of p) verdicts certificates
  pub is : IsLongest (rows_of (conditions_of p) certificates) text

-- it is one of the program, with the cache in this file
pub record RenewsProgram (s : Setting) (cache : List ℕ) (budget : ℕ) (p : Program) (text : List ℕ) : Type 0 where
  pub entries : Entries
  pub cached : caches s cache stated (Ok entries)
  pub file : IsCacheOf p budget entries text

-- it is one of the program of the source with these bytes
pub record RenewsBytes (s : Setting) (cache : List ℕ) (budget : ℕ) (bytes text : List ℕ) : Type 0 where
  pub program : Program
  pub owes : Owes bytes program.core program.flow
  pub renews : RenewsProgram s cache budget program text

-- it is one of the program of the source in this file
pub record Renews (s : Setting) (name cache : List ℕ) (budget : ℕ) (text : List ℕ) : Type 0 where
  pub bytes : List ℕ
  pub alone : IsAlone s name bytes
  pub renews : RenewsBytes s cache budget bytes text
