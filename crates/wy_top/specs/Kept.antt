-- What the code keeps of a program and of what it owes.
use Rattle.std.specs.Prelude.{◌≡◌, ◌≤◌, ℕ, List, All, length, map}
use Rattle.wy_batch.specs.wy_check.Within.{IsWithin}
use Rattle.wy_cache_text.specs.Files.{Entries}
use Rattle.wy_cache_text.specs.Seen.{all_held}
use Rattle.wy_cache_text.specs.declared.entry.Cache.{Cache}
use Rattle.wy_prove.specs.Answers.{IsFormedThroughout}
use Rattle.wy_top.specs.Acceptance.{Acceptance, AreVerdicts}
use Rattle.wy_top.specs.Programs.{Program, conditions_of}
use Rattle.wy_top.specs.declared.accepting.Accepted.{Accepted}
use Rattle.wy_top.specs.declared.judging.Judged.{Judged}
use Rattle.wy_top.specs.declared.owing.Owed.{Owed}
use Rattle.wy_top.specs.declared.proving.Proof.{Proof}
use Rattle.wy_top_probe.specs.wy_top_answers.declared.answer.Answer.{Answer}
use Rattle.wy_top_probe.specs.wy_top_source.wy_assign.Assigned.{IsAssigned}
use Rattle.wy_vc.specs.wy_vc_spec.Limits.{most_conditions}
use Rattle.wy_cert.specs.Steps.{Certificates}
use Rattle.wy_top.specs.Owed.{Owes, told_by}
use Rattle.wy_top.specs.Taken.{AreTaken}
use Rattle.wy_top_probe.specs.wy_top_answers.wy_vc_laws.shown.Certified.{AllHold, AreFormed}
use Rattle.wy_term.specs.Condition.{condition_of}
use Rattle.wy_term.specs.Nodes.{Plain}
use Rattle.wy_top_probe.specs.wy_flow_spec.typing.TypedPrograms.{core_of, flow_of}
use Rattle.wy_vc.specs.Listed.{seen_conds}
use Rattle.wy_vc.specs.Told.{seen_cond}
use Rattle.wy_batch.specs.Known.{Known}
use Rattle.wy_batch.specs.Seen.{NameTerms, known}

-- the program that is kept
abbrev pub program_in : Owed → Program
program_in o = record { core = core_of o.typed; flow = flow_of o.typed }

-- the program is that of some source, and owes no more than it may
pub record IsOfSource (p : Program) : Type 0 where
  pub bytes : List ℕ
  pub owes : Owes bytes p.core p.flow

-- the conditions are those that the program owes, and what the judges of certificates ask of them holds
pub record IsKept (o : Owed) : Type 0 where
  pub conditions : map (condition_of o.conds.terms) o.conds.list.items ≡ conditions_of (program_in o)
  pub told : seen_conds o.conds ≡ told_by (core_of o.typed) (flow_of o.typed)
  pub numbers : All (IsWithin (length o.conds.terms)) o.conds.list.items
  pub formed : AreFormed (map (condition_of o.conds.terms) o.conds.list.items)
  pub few : length o.conds.list.items ≤ most_conditions
  pub assigned : IsAssigned (core_of o.typed)
  pub source : IsOfSource (program_in o)

-- the program whose conditions were judged
abbrev pub judged_program : Judged → Program
judged_program j = record { core = core_of j.typed; flow = flow_of j.typed }

-- there is a verdict on each condition, there are few of them, each names its own terms, the conditions' numbers are those of their terms, and their formulas are sorted and folded
pub record AreEach (j : Judged) : Type 0 where
  pub each : length j.verdicts.items ≡ length j.conds.list.items
  pub few : length j.conds.list.items ≤ most_conditions
  pub named : NameTerms j.verdicts.items
  pub within : All (IsWithin (length j.conds.terms)) j.conds.list.items
  pub formed : All (λ c. IsFormedThroughout (condition_of j.conds.terms c)) j.conds.list.items

-- these numbers have the conditions of the program
pub record SpellsConditions (p : Program) (j : Judged) : Type 0 where
  pub nodes : List Plain
  pub told : map (seen_cond nodes) j.conds.list.items ≡ told_by p.core p.flow

-- what was judged are the conditions of the program, and what is known of them is this
pub record IsJudgedAs (p : Program) (is_known : List Known → Type 0) (j : Judged) : Type 0 where
  pub program : judged_program j ≡ p
  pub known : is_known (map known j.verdicts.items)
  pub conditions : map (condition_of j.conds.terms) j.conds.list.items ≡ conditions_of p
  pub formed : AreFormed (conditions_of p)
  pub count : length j.conds.list.items ≡ length (conditions_of p)
  pub told : SpellsConditions p j

-- the verdicts are those on the conditions of the program, where these certificates are supplied
abbrev pub HasVerdicts : Program → Certificates → ℕ → Judged → Type 0
HasVerdicts p certs budget j = IsJudgedAs p (AreVerdicts certs budget p) j

-- the certificates are those that a cache has for the conditions of the program, and what is known is that these are kept, and what the searches of the others end in
abbrev pub HasTaken : Entries → Program → Certificates → ℕ → Judged → Type 0
HasTaken es p certs budget j = IsJudgedAs p (λ ks. AreTaken es budget 1 (conditions_of p) ks certs) j

-- so it is for some cache and some program
pub record HasSomeTaken (certs : Certificates) (budget : ℕ) (j : Judged) : Type 0 where
  pub entries : Entries
  pub program : Program
  pub taken : HasTaken entries program certs budget j

-- the accepted program, with the lines for certificates that aren't valid
abbrev pub acceptance_in : Accepted → Acceptance
acceptance_in a = record { program = record { core = core_of a.typed; flow = flow_of a.typed }; lines = a.lines }

-- so many conditions were accepted, of a program of some source, and all of them are true
pub record IsWhole (a : Accepted) : Type 0 where
  pub count : a.count ≡ length (conditions_of (acceptance_in a).program)
  pub source : IsOfSource (acceptance_in a).program
  pub holds : AllHold (conditions_of (acceptance_in a).program)

-- the entries of a cache
abbrev pub entries_in : Cache → Entries
entries_in cache = all_held cache.entries.items

-- what is answered behind the save
abbrev pub answer_in : Proof → Answer
answer_in p = p.answer
