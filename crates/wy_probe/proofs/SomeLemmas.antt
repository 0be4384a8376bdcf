-- There is a finding: of each tuple it can be told what it comes to.
use Rattle.std.proofs.Common.{◌≡◌, ◌⊎◌, inl, inr, ◌≤◌, ◌<◌, ℕ, suc, List, [], ◌∷◌, length, Bool, true, false, Option, None, refl, ap, arith}
use Rattle.std.proofs.lemmas.Bool.{cases_eq, cases_lt}
use Rattle.wy_term.specs.declared.cond.CondKind.{CondKind}
use Rattle.wy_value.specs.Datum.{Datum}
use Rattle.wy_core.specs.CoreTree.{Alias, Expr, Param, Routine, aliases_of, routines_of}
use Rattle.wy_sem.specs.Meter.{Meter, Outcome, Done, Fault, More, Spent}
use Rattle.wy_sem.specs.Expressions.{Setting, Store, holds}
use Rattle.wy_sem.specs.TypeTests.{clause_setting}
use Rattle.wy_sem.specs.Membership.{is_member, is_yes}
use Rattle.wy_sem.specs.Evaluation.{Callee, Declared, Print, PrintInt, Undeclared, callee, contract_cost, entry_of, evaluate, start}
use Rattle.wy_sem.specs.Precondition.{AreMembers, AreTrue, CalleeMeets, Meets, RoutineMeets, cost}
use Rattle.wy_eval_exprs.specs.Settings.{here}
use Rattle.wy_probe.specs.Trials.{Counted, no_more, one_more, not_one, DoesFault, Faulted, Faultless, Finding, Finds, FindsSome, IsMet, IsUndecided, NeverFaults, NoneFaults, Probe, turns}

abbrev Told : Type 0 → Type 0
Told P = P ⊎ (P → ⊥)

both_told : (P Q : Type 0) → Told P → Told Q → Told (P × Q)
both_told P Q (inl p) (inl q) = inl (p, q)
both_told P Q (inl p) (inr never) = inr (λ h. never h.1)
both_told P Q (inr never) t = inr (λ h. never h.0)

truth_told : (b : Bool) → Told (b ≡ true)
truth_told true = inl refl
truth_told false = inr (λ e. absurd cc)

-- ---- the precondition

members_told : (types : List (Alias ℕ)) (ps : List Param) (vs : List Datum) → Told (AreMembers here types ps vs)
members_told types [] vs = inl tt
members_told types (p ∷ ps) [] = inl tt
members_told types (p ∷ ps) (v ∷ vs) = both_told _ _ (truth_told (is_member here types v p.ty)) (members_told types ps vs)

clauses_told : (w : Setting ℕ) (es : List (Expr ℕ)) (s : Store) → Told (AreTrue w es s)
clauses_told w [] s = inl tt
clauses_told w (e ∷ es) s = both_told _ _ (truth_told (is_yes (holds w e s (start 0)))) (clauses_told w es s)

count_told : (m n : ℕ) → Told (m ≡ n)
count_told m n = cases_eq m n

routine_told : (types : List (Alias ℕ)) (r : Routine ℕ) (vs : List Datum) → Told (RoutineMeets here types r vs)
routine_told types r vs = by (count_told (length vs) (length r.params)) (members_told types r.params vs) (clauses_told (clause_setting here None types) r.preconditions (entry_of r vs))
  where
    by : Told (length vs ≡ length r.params) → Told (AreMembers here types r.params vs) → Told (AreTrue (clause_setting here None types) r.preconditions (entry_of r vs)) → Told (RoutineMeets here types r vs)
    by (inl e) (inl m) (inl h) = inl (record { count = e; members = m; requires_hold = h })
    by (inl e) (inl m) (inr never) = inr (λ g. never g.requires_hold)
    by (inl e) (inr never) t = inr (λ g. never g.members)
    by (inr never) t u = inr (λ g. never g.count)

callee_told : (types : List (Alias ℕ)) (c : Callee ℕ) (vs : List Datum) → Told (CalleeMeets here types c vs)
callee_told types (Declared r) vs = routine_told types r vs
callee_told types Print vs = inr (λ h. h)
callee_told types PrintInt vs = inr (λ h. h)
callee_told types Undeclared vs = inr (λ h. h)

-- ---- one tuple

within_or : (n : ℕ) → (n ≤ turns) ⊎ (turns < n)
within_or n = by (cases_lt turns n)
  where
    by : (turns < n) ⊎ (n ≤ turns) → (n ≤ turns) ⊎ (turns < n)
    by (inl more) = inr more
    by (inr le) = inl le

fault_told : (o : Outcome (Option Datum)) → ((kind : CondKind) × (at : ℕ) × (m : Meter) × (o ≡ Fault kind at m)) ⊎ ((kind : CondKind) (at : ℕ) (m : Meter) → o ≡ Fault kind at m → ⊥)
fault_told (Done v m) = inr (λ kind at k e. absurd cc)
fault_told (Fault kind at m) = inl (kind, at, m, refl)
fault_told (More m) = inr (λ kind at k e. absurd cc)
fault_told Spent = inr (λ kind at k e. absurd cc)

module _ (p : Probe) (vs : List Datum) where
  met_told : Told (IsMet p vs)
  met_told = by (within_or (cost here p.core p.entry vs)) (callee_told (aliases_of p.core) (callee (routines_of p.core) p.entry) vs)
    where
      by : (cost here p.core p.entry vs ≤ turns) ⊎ (turns < cost here p.core p.entry vs) → Told (Meets here p.core p.entry vs) → Told (IsMet p vs)
      by (inl le) (inl meets) = inl (record { within = le; meets = meets })
      by (inl le) (inr never) = inr (λ h. never h.meets)
      by (inr more) t = inr (λ h. let le = h.within in omega (arith, le, more))

  undecided_told : Told (IsUndecided p vs)
  undecided_told = by (within_or (cost here p.core p.entry vs)) met_told (within_or (contract_cost here p.core p.entry vs p.ticks))
    where
      neither : cost here p.core p.entry vs ≤ turns → (IsMet p vs × (turns < contract_cost here p.core p.entry vs p.ticks) → ⊥) → IsUndecided p vs → ⊥
      neither le never (inl more) = omega (arith, le, more)
      neither le never (inr both) = never both

      by : (cost here p.core p.entry vs ≤ turns) ⊎ (turns < cost here p.core p.entry vs) → Told (IsMet p vs)
          → (contract_cost here p.core p.entry vs p.ticks ≤ turns) ⊎ (turns < contract_cost here p.core p.entry vs p.ticks) → Told (IsUndecided p vs)
      by (inr more) t u = inl (inl more)
      by (inl le) (inl met) (inr more) = inl (inr (met, more))
      by (inl le) (inl met) (inl few) = inr (neither le (λ h. let more = h.1 in omega (arith, few, more)))
      by (inl le) (inr never) u = inr (neither le (λ h. never h.0))

  faults_told : ((kind : CondKind) × (at : ℕ) × DoesFault p vs kind at) ⊎ NeverFaults p vs
  faults_told = by met_told (within_or (contract_cost here p.core p.entry vs p.ticks)) (fault_told (evaluate here p.core p.entry vs p.ticks))
    where
      by : Told (IsMet p vs) → (contract_cost here p.core p.entry vs p.ticks ≤ turns) ⊎ (turns < contract_cost here p.core p.entry vs p.ticks)
          → ((kind : CondKind) × (at : ℕ) × (m : Meter) × (evaluate here p.core p.entry vs p.ticks ≡ Fault kind at m)) ⊎ ((kind : CondKind) (at : ℕ) (m : Meter) → evaluate here p.core p.entry vs p.ticks ≡ Fault kind at m → ⊥)
          → ((kind : CondKind) × (at : ℕ) × DoesFault p vs kind at) ⊎ NeverFaults p vs
      by (inr never) t u = inr (λ kind at f. never f.met)
      by (inl met) (inr more) u = inr (λ kind at f. let le = f.decided in omega (arith, le, more))
      by (inl met) (inl le) (inl f) = inl (f.0, f.1, record { met = met; decided = le; rest = f.2; faults = f.3 })
      by (inl met) (inl le) (inr never) = inr (λ kind at f. never kind at f.rest f.faults)

-- ---- all of them

counted_some : (P : List Datum → Type 0) → ((vs : List Datum) → Told (P vs)) → (all : List (List Datum)) → (n : ℕ) × Counted P all n
counted_some P told [] = (0, no_more)
counted_some P told (vs ∷ rest) = by (told vs) (counted_some P told rest)
  where
    by : Told (P vs) → (n : ℕ) × Counted P rest n → (n : ℕ) × Counted P (vs ∷ rest) n
    by (inl is) h = (suc h.0, one_more is h.1)
    by (inr never) h = (h.0, not_one never h.1)

first_or_none : (p : Probe) (all : List (List Datum)) → ((number : ℕ) × (vs : List Datum) × (kind : CondKind) × (at : ℕ) × Finds p all (Faulted number vs kind at)) ⊎ NoneFaults p all
first_or_none p [] = inr tt
first_or_none p (vs ∷ rest) = by (faults_told p vs) (first_or_none p rest)
  where
    by : ((kind : CondKind) × (at : ℕ) × DoesFault p vs kind at) ⊎ NeverFaults p vs → ((number : ℕ) × (ws : List Datum) × (kind : CondKind) × (at : ℕ) × Finds p rest (Faulted number ws kind at)) ⊎ NoneFaults p rest
        → ((number : ℕ) × (ws : List Datum) × (kind : CondKind) × (at : ℕ) × Finds p (vs ∷ rest) (Faulted number ws kind at)) ⊎ NoneFaults p (vs ∷ rest)
    by (inl f) t = inl (1, vs, f.0, f.1, record { before = []; behind = rest; all_are = refl; number_is = refl; none_before = tt; faults = f.2 })
    by (inr never) (inl h) = let g = h.4 in
        inl (suc h.0, h.1, h.2, h.3, record { before = vs ∷ g.before; behind = g.behind; all_are = ap (λ l. vs ∷ l) g.all_are; number_is = ap (λ n. suc n) g.number_is; none_before = (never, g.none_before); faults = g.faults })
    by (inr never) (inr none) = inr (never, none)

pub finds_some : FindsSome
finds_some p all = by (first_or_none p all) (counted_some (IsMet p) (met_told p) all) (counted_some (IsUndecided p) (undecided_told p) all)
  where
    by : ((number : ℕ) × (vs : List Datum) × (kind : CondKind) × (at : ℕ) × Finds p all (Faulted number vs kind at)) ⊎ NoneFaults p all
        → (n : ℕ) × Counted (IsMet p) all n → (n : ℕ) × Counted (IsUndecided p) all n → (f : Finding) × Finds p all f
    by (inl h) m u = (Faulted h.0 h.1 h.2 h.3, h.4)
    by (inr none) m u = (Faultless (length all) m.0 u.0, record { none = none; tried_are = refl; met_are = m.1; undecided_are = u.1 })
