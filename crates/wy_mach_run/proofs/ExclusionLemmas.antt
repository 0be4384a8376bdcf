-- At most one start and at most one refusal comes of words.
use Rattle.std.proofs.Common.{◌≡◌, ◌≢◌, ◌<◌, ℕ, List, length, map, None, refl, sym, ap, ◌∙◌, subst, arith}
use Rattle.std.specs.Prelude.{is_some}
use Rattle.wy_value.specs.Seen.{seen}
use Rattle.wy_value.specs.declared.value.Value.{Value}
use Rattle.wy_value.proofs.LawLemmas.{one_reading}
use Rattle.wy_core.specs.CoreTree.{Core, Routine, routines_of}
use Rattle.wy_gen_laws.specs.wy_sem.Meter.{Outcome}
use Rattle.wy_gen_laws.specs.wy_sem.Evaluation.{start}
use Rattle.wy_gen_laws.specs.wy_sem.Precondition as spec
use Rattle.wy_gen_laws.specs.wy_sem.Precondition.{Verdict, cost, precondition}
use Rattle.wy_eval_exprs.specs.Settings.{here}
use Rattle.wy_mach_run.specs.Entries.{IsEntry, HasNoEntry}
use Rattle.wy_mach_run.specs.Starting.{IsMet, IsNotMet, IsRefused, IsStopped, Shows, Starts, most_turns}
use Rattle.wy_mach_run.specs.Laws.{HaveOneStart, HaveOneRefusal, StartOrRefuse}
use Rattle.wy_mach_run.specs.declared.parts.Start.{Start}
use Rattle.wy_mach_run.specs.declared.fault.StartFault.{StartFault}
use Rattle.wy_mach_run.specs.declared.fault.StartFault.TheVariants.{NoEntry, Argument, OtherCount, OtherType, RequiresFails, TurnsSpent, NoMemory}
use Rattle.wy_mach_run.proofs.EntryLemmas.{one_first}
use Rattle.wy_mach_run.proofs.TextLemmas.{no_fault, one_fault}
use Rattle.wy_mach_run.proofs.MeetingLemmas.{costs_nothing, met_count, miscounted, not_met, one_verdict}

-- ---- one start

same_start : (s t : Start) → s.code ≡ t.code → s.entry ≡ t.entry → s.args ≡ t.args → s.has_result ≡ t.has_result → s ≡ t
same_start s t code entry args result =
    ap (λ c. record s { code = c }) code
    ∙ (ap (λ n. record t { entry = n; args = s.args; has_result = s.has_result }) entry
    ∙ (ap (λ vs. record t { args = vs; has_result = s.has_result }) args
    ∙ ap (λ b. record t { has_result = b }) result))

pub have_one_start : HaveOneStart
have_one_start core name arguments s t a b =
    let one = one_first (routines_of core) name s.entry t.entry a.routine b.routine a.entry b.entry in
    same_start s t (a.code ∙ sym b.code) one.number (one_reading arguments s.args t.args a.spelled b.spelled) (a.has_result ∙ (ap (λ (r : Routine ℕ). is_some r.result) one.routine ∙ sym b.has_result))

-- ---- arguments that don't meet an entry

module _ (core : Core ℕ) (name : List ℕ) (f : ℕ) (r : Routine ℕ) (entry : IsEntry core name f r) (args : List Value) where
  abbrev told : Outcome Verdict
  told = precondition here None core f (map seen args)

  -- another number is no other verdict, and costs nothing
  no_other : (v : Verdict) → length args ≢ length r.params → Shows core f args v → spec.CountFails ≡ v
  no_other v other shows = one_verdict spec.CountFails v told (start 0, miscounted core name f r entry args other) shows.found

  no_cost : length args ≢ length r.params → most_turns < cost here core f (map seen args) → ⊥
  no_cost other spent = let nothing = costs_nothing core name f r entry args other in absurd (omega (arith, nothing, spent))

  no_more : (v : Verdict) → Shows core f args v → most_turns < cost here core f (map seen args) → ⊥
  no_more v shows spent = absurd (omega (arith, shows.told, spent))

  one_stop : (x y : StartFault) → x ≢ NoMemory → y ≢ NoMemory → IsNotMet core f r args x → IsNotMet core f r args y → x ≡ y
  one_stop NoEntry y g h a b = absurd a
  one_stop (Argument fault) y g h a b = absurd a
  one_stop NoMemory y g h a b = absurd (g refl)
  one_stop (OtherCount n) y g h a b = by y h b
    where
      by : (z : StartFault) → z ≢ NoMemory → IsNotMet core f r args z → OtherCount n ≡ z
      by NoEntry k c = absurd c
      by (Argument fault) k c = absurd c
      by (OtherCount m) k c = ap OtherCount (a.1 ∙ sym c.1)
      by (OtherType j) k c = let e = no_other (spec.TypeFails j) a.0 c in absurd cc
      by (RequiresFails j) k c = let e = no_other (spec.RequiresFails j) a.0 c in absurd cc
      by TurnsSpent k c = absurd (no_cost a.0 c)
      by NoMemory k c = absurd (k refl)
  one_stop (OtherType i) y g h a b = by y h b
    where
      by : (z : StartFault) → z ≢ NoMemory → IsNotMet core f r args z → OtherType i ≡ z
      by NoEntry k c = absurd c
      by (Argument fault) k c = absurd c
      by (OtherCount m) k c = let e = no_other (spec.TypeFails i) c.0 a in absurd cc
      by (OtherType j) k c = let e = one_verdict (spec.TypeFails i) (spec.TypeFails j) told a.found c.found in let same : i ≡ j = cc in ap OtherType same
      by (RequiresFails j) k c = let e = one_verdict (spec.TypeFails i) (spec.RequiresFails j) told a.found c.found in absurd cc
      by TurnsSpent k c = absurd (no_more (spec.TypeFails i) a c)
      by NoMemory k c = absurd (k refl)
  one_stop (RequiresFails i) y g h a b = by y h b
    where
      by : (z : StartFault) → z ≢ NoMemory → IsNotMet core f r args z → RequiresFails i ≡ z
      by NoEntry k c = absurd c
      by (Argument fault) k c = absurd c
      by (OtherCount m) k c = let e = no_other (spec.RequiresFails i) c.0 a in absurd cc
      by (OtherType j) k c = let e = one_verdict (spec.RequiresFails i) (spec.TypeFails j) told a.found c.found in absurd cc
      by (RequiresFails j) k c = let e = one_verdict (spec.RequiresFails i) (spec.RequiresFails j) told a.found c.found in let same : i ≡ j = cc in ap RequiresFails same
      by TurnsSpent k c = absurd (no_more (spec.RequiresFails i) a c)
      by NoMemory k c = absurd (k refl)
  one_stop TurnsSpent y g h a b = by y h b
    where
      by : (z : StartFault) → z ≢ NoMemory → IsNotMet core f r args z → TurnsSpent ≡ z
      by NoEntry k c = absurd c
      by (Argument fault) k c = absurd c
      by (OtherCount m) k c = absurd (no_cost c.0 a)
      by (OtherType j) k c = absurd (no_more (spec.TypeFails j) c a)
      by (RequiresFails j) k c = absurd (no_more (spec.RequiresFails j) c a)
      by TurnsSpent k c = refl
      by NoMemory k c = absurd (k refl)

  -- arguments that meet the entry are not stopped
  no_stop : (x : StartFault) → x ≢ NoMemory → IsMet core f args → IsNotMet core f r args x → ⊥
  no_stop NoEntry g met a = a
  no_stop (Argument fault) g met a = a
  no_stop (OtherCount n) g met a = a.0 (met_count core name f r entry args met.met)
  no_stop (OtherType i) g met a = not_met core f args (spec.TypeFails i) a.found (λ e. absurd cc) met.met
  no_stop (RequiresFails i) g met a = not_met core f args (spec.RequiresFails i) a.found (λ e. absurd cc) met.met
  no_stop TurnsSpent g met a = absurd (omega (arith, met.told, a))
  no_stop NoMemory g met a = g refl

-- ---- refusals

module _ (core : Core ℕ) (name arguments : List ℕ) where
  no_entry : (f : ℕ) (r : Routine ℕ) → HasNoEntry core name → IsEntry core name f r → ⊥
  no_entry f r none entry = none f r entry.there entry.name_is

  both_stopped : (x y : StartFault) → x ≢ NoMemory → y ≢ NoMemory → IsStopped core name arguments x → IsStopped core name arguments y → x ≡ y
  both_stopped x y g h a b =
      let one = one_first (routines_of core) name b.number a.number b.routine a.routine b.entry a.entry in
      let args : b.args ≡ a.args = one_reading arguments b.args a.args b.spelled a.spelled in
      let there : IsNotMet core a.number a.routine a.args y =
      subst (λ vs. IsNotMet core a.number a.routine vs y) args (subst (λ s. IsNotMet core a.number s b.args y) one.routine (subst (λ n. IsNotMet core n b.routine b.args y) one.number b.not_met)) in
      one_stop core name a.number a.routine a.entry a.args x y g h a.not_met there

  -- what stops the start behind the argument text
  abbrev Behind : StartFault → Type 0
  Behind x = IsStopped core name arguments x

  behind : (x y : StartFault) → x ≢ NoMemory → y ≢ NoMemory → Behind x → IsRefused core name arguments y → x ≡ y
  behind x NoEntry g h a b = absurd (no_entry a.number a.routine b a.entry)
  behind x (Argument fault) g h a b = absurd (no_fault arguments a.args fault a.spelled b.due)
  behind x (OtherCount n) g h a b = both_stopped x (OtherCount n) g h a b
  behind x (OtherType j) g h a b = both_stopped x (OtherType j) g h a b
  behind x (RequiresFails j) g h a b = both_stopped x (RequiresFails j) g h a b
  behind x TurnsSpent g h a b = both_stopped x TurnsSpent g h a b
  behind x NoMemory g h a b = absurd (h refl)

  one_refusal : (x y : StartFault) → x ≢ NoMemory → y ≢ NoMemory → IsRefused core name arguments x → IsRefused core name arguments y → x ≡ y
  one_refusal (OtherCount n) y g h a b = behind (OtherCount n) y g h a b
  one_refusal (OtherType i) y g h a b = behind (OtherType i) y g h a b
  one_refusal (RequiresFails i) y g h a b = behind (RequiresFails i) y g h a b
  one_refusal TurnsSpent y g h a b = behind TurnsSpent y g h a b
  one_refusal NoMemory y g h a b = absurd (g refl)
  one_refusal NoEntry y g h a b = by y h b
    where
      by : (z : StartFault) → z ≢ NoMemory → IsRefused core name arguments z → NoEntry ≡ z
      by NoEntry k c = refl
      by (Argument fault) k c = absurd (no_entry c.number c.routine a c.entry)
      by (OtherCount n) k c = absurd (no_entry c.number c.routine a c.entry)
      by (OtherType j) k c = absurd (no_entry c.number c.routine a c.entry)
      by (RequiresFails j) k c = absurd (no_entry c.number c.routine a c.entry)
      by TurnsSpent k c = absurd (no_entry c.number c.routine a c.entry)
      by NoMemory k c = absurd (k refl)
  one_refusal (Argument fault) y g h a b = by y h b
    where
      by : (z : StartFault) → z ≢ NoMemory → IsRefused core name arguments z → Argument fault ≡ z
      by NoEntry k c = absurd (no_entry a.number a.routine c a.entry)
      by (Argument other) k c = ap Argument (one_fault arguments fault other a.due c.due)
      by (OtherCount n) k c = absurd (no_fault arguments c.args fault c.spelled a.due)
      by (OtherType j) k c = absurd (no_fault arguments c.args fault c.spelled a.due)
      by (RequiresFails j) k c = absurd (no_fault arguments c.args fault c.spelled a.due)
      by TurnsSpent k c = absurd (no_fault arguments c.args fault c.spelled a.due)
      by NoMemory k c = absurd (k refl)

  stopped_apart : (s : Start) (x : StartFault) → x ≢ NoMemory → Starts core name arguments s → IsStopped core name arguments x → ⊥
  stopped_apart s x g a b =
      let one = one_first (routines_of core) name b.number s.entry b.routine a.routine b.entry a.entry in
      let args : b.args ≡ s.args = one_reading arguments b.args s.args b.spelled a.spelled in
      let there : IsNotMet core s.entry a.routine s.args x =
      subst (λ vs. IsNotMet core s.entry a.routine vs x) args (subst (λ r. IsNotMet core s.entry r b.args x) one.routine (subst (λ n. IsNotMet core n b.routine b.args x) one.number b.not_met)) in
      no_stop core name s.entry a.routine a.entry s.args x g a.met there

  apart : (s : Start) (x : StartFault) → x ≢ NoMemory → Starts core name arguments s → IsRefused core name arguments x → ⊥
  apart s NoEntry g a b = no_entry s.entry a.routine b a.entry
  apart s (Argument fault) g a b = no_fault arguments s.args fault a.spelled b.due
  apart s (OtherCount n) g a b = stopped_apart s (OtherCount n) g a b
  apart s (OtherType j) g a b = stopped_apart s (OtherType j) g a b
  apart s (RequiresFails j) g a b = stopped_apart s (RequiresFails j) g a b
  apart s TurnsSpent g a b = stopped_apart s TurnsSpent g a b
  apart s NoMemory g a b = g refl

pub have_one_refusal : HaveOneRefusal
have_one_refusal core name arguments e f g h a b = one_refusal core name arguments e f g h a b

pub start_or_refuse : StartOrRefuse
start_or_refuse core name arguments s e g a b = apart core name arguments s e g a b
