-- Which answers have another status than 13.
use Rattle.std.proofs.Common.{◌≡◌, ◌≢◌, ◌⊎◌, inl, inr, ℕ, List, Ok, Err, refl, sym, ◌∙◌, ap, subst, arith}
use Rattle.wy_top.specs.wy_top_answers.Calls.{Faults, IsFaulted}
use Rattle.wy_top.specs.wy_top_answers.Showing.{Shown, Sinks}
use Rattle.wy_top.specs.wy_top_answers.Steps.{Came, EndsOutside, Follows, goes_on, ends, IsOutside, Sense, Setting, answer_in, stated}
use Rattle.wy_top.specs.wy_top_answers.declared.answer.Answer.{Answer}
use Rattle.wy_top.specs.wy_mach_run.declared.fault.StartFault.{StartFault}
use Rattle.wy_top.specs.wy_mach_run.declared.fault.StartFault.TheVariants as start
use Rattle.wy_top.specs.Acceptance.{Acceptance, check_steps}
use Rattle.wy_top.specs.Launching.{fault_status, run_steps, starts}
use Rattle.wy_top.specs.Statement.{IsAnswered}
use Rattle.wy_headline.proofs.StepLemmas.{Refuses, by_status, file_refused, no_err, no_value, of_steps, outside_by, value_is}

-- ---- answers

-- its status isn't 13
abbrev pub Apart : Answer → Type 0
Apart a = a.status ≢ 13

-- an answer with another status
pub other : (n : ℕ) (a b : Answer) → a ≡ b → b.status ≡ n → n ≢ 13 → Apart a
other n a b is of apart e = absurd (apart (sym of ∙ (sym (ap (λ (x : Answer). x.status) is) ∙ e)))

pub no_0 : ◌≢◌ {A = ℕ} 0 13
no_0 e = omega (arith, e)

pub no_1 : ◌≢◌ {A = ℕ} 1 13
no_1 e = omega (arith, e)

pub no_2 : ◌≢◌ {A = ℕ} 2 13
no_2 e = omega (arith, e)

pub no_3 : ◌≢◌ {A = ℕ} 3 13
no_3 e = omega (arith, e)

pub no_4 : ◌≢◌ {A = ℕ} 4 13
no_4 e = omega (arith, e)

pub no_5 : ◌≢◌ {A = ℕ} 5 13
no_5 e = omega (arith, e)

pub no_6 : ◌≢◌ {A = ℕ} 6 13
no_6 e = omega (arith, e)

pub no_7 : ◌≢◌ {A = ℕ} 7 13
no_7 e = omega (arith, e)

pub no_8 : ◌≢◌ {A = ℕ} 8 13
no_8 e = omega (arith, e)

pub no_9 : ◌≢◌ {A = ℕ} 9 13
no_9 e = omega (arith, e)

pub no_10 : ◌≢◌ {A = ℕ} 10 13
no_10 e = omega (arith, e)

pub no_11 : ◌≢◌ {A = ℕ} 11 13
no_11 e = omega (arith, e)

pub no_12 : ◌≢◌ {A = ℕ} 12 13
no_12 e = omega (arith, e)

pub shown_apart : (a : Answer) (status : ℕ) (k : Sinks) → Apart a → Shown a status k → status ≢ 13
shown_apart a status k apart (inl w) e = apart (sym w.answer ∙ e)
shown_apart a status k apart (inr f) e = let five = f.answer in omega (arith, five, e)

-- another status
pub others : (n status : ℕ) → status ≡ n → n ≢ 13 → status ≢ 13
others n status is apart e = absurd (apart (sym is ∙ e))

-- ---- steps

pub outside_apart : (s : Setting) (a : Answer) → IsOutside s a → Apart a
outside_apart s a o = outside_by (λ (n : ℕ). n ≢ 13) no_4 no_9 s a o

-- why a source isn't accepted
pub none_is : Refuses Apart
none_is = by_status (λ (n : ℕ). n ≢ 13) no_1 no_3 no_4 no_6 no_9 no_10

-- a fault of another status
pub faulted_apart : {F : Type 0} (faults : Faults F) (there : F → Type 0) → ((f : F) → faults.status f ≢ 13) → (a : Answer) → IsFaulted faults there a → Apart a
faulted_apart faults there apart a h = other (faults.status h.fault) a _ h.answer refl (apart h.fault)

start_status : (f : StartFault) → fault_status f ≢ 13
start_status start.NoEntry = no_7
start_status (start.Argument fault) = no_7
start_status (start.OtherCount count) = no_7
start_status (start.OtherType number) = no_7
start_status (start.RequiresFails number) = no_7
start_status start.TurnsSpent = no_11
start_status start.NoMemory = no_9

pub starts_apart : (name arguments : List ℕ) (a : Acceptance) (b : Answer) → starts name arguments a stated (Err b) → Apart b
starts_apart name arguments a b h = faulted_apart _ _ start_status b h

pub run_apart : (s : Setting) (source cert name arguments : List ℕ) (budget : ℕ) (a : Answer) → run_steps s source cert name arguments budget stated (Err a) → Apart a
run_apart s source cert name arguments budget a h = of_steps Apart _ _ (λ b g. file_refused Apart none_is s source cert budget b g) (λ x b g. starts_apart name arguments x b g) a h

-- ---- commands that answer

-- what steps come to has another status, where it came from outside too
pub of_last : (s : Setting) (step : Sense → Came Answer → Type 0) → ((a : Answer) → step stated (Ok a) → Apart a) → ((a : Answer) → step stated (Err a) → Apart a)
    → (last : Came Answer) → step stated last ⊎ EndsOutside s last → Apart (answer_in last)
of_last s step good bad (Ok a) (inl h) = good a h
of_last s step good bad (Ok a) (inr h) = absurd h
of_last s step good bad (Err a) (inl h) = bad a h
of_last s step good bad (Err a) (inr h) = outside_apart s a h

pub answered_apart : (s : Setting) (step : Sense → Came Answer → Type 0) → ((a : Answer) → step stated (Ok a) → Apart a) → ((a : Answer) → step stated (Err a) → Apart a)
    → (status : ℕ) (k : Sinks) → IsAnswered s step status k → status ≢ 13
answered_apart s step good bad status k h = shown_apart h.answer status k (subst Apart (sym h.answers.is) (of_last s step good bad h.answers.last h.answers.gives.comes)) h.shown

-- what stands last in two steps
pub value_apart : {X : Type 0} (first : Came X → Type 0) (next : X → Came Answer → Type 0) → ((x : X) (a : Answer) → next x (Ok a) → Apart a) → (a : Answer) → Follows first next (Ok a) → Apart a
value_apart first next two a (goes_on x h g) = two x a g
value_apart first next two a (ends b h e) = absurd (no_err a b e)

pub check_good : (s : Setting) (source cert : List ℕ) (budget : ℕ) (a : Answer) → check_steps s source cert budget stated (Ok a) → Apart a
check_good s source cert budget a h = value_apart _ _ (λ x b g. other 0 b _ (value_is b _ g) refl no_0) a h

pub check_bad : (s : Setting) (source cert : List ℕ) (budget : ℕ) (a : Answer) → check_steps s source cert budget stated (Err a) → Apart a
check_bad s source cert budget a h = of_steps Apart _ _ (λ b g. file_refused Apart none_is s source cert budget b g) (λ x b g. absurd (no_value _ b g)) a h
