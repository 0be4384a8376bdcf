-- What the laws of the semantics say of an end.
use Rattle.std.proofs.Common.{◌≡◌, ◌≢◌, ℕ, ◌<◌, ◌≤◌, ◌⊎◌, inl, inr, true, List, [], Some, refl, sym, ap, ◌∙◌}
use Rattle.std.proofs.lemmas.Bool.{cases_lt}
use Rattle.wy_sem.specs.Meter.{Meter, Outcome, Done, Spent}
use Rattle.wy_value.specs.Datum.{Datum}
use Rattle.wy_core.specs.CoreTree.{Alias, Core, aliases_of, routines_of}
use Rattle.wy_sem.specs.Evaluation.{callee}
use Rattle.wy_sem.specs.Growth.{Settles}
use Rattle.wy_sem.specs.Precondition as spec
use Rattle.wy_sem.specs.Precondition.{Verdict}
use Rattle.wy_eval_exprs.specs.declared.precondition.MeetsEnd.{MeetsEnd}
use Rattle.wy_eval_exprs.specs.declared.precondition.MeetsEnd.TheVariants as end
use Rattle.wy_eval_exprs.specs.Settings.{here}
use Rattle.wy_eval_exprs.specs.Verdicts.{Finds, IsExact, Says, is_verdict, verdict_of}

-- what the test of a precondition begins with
pub begins : (turns limit : ℕ) (types : List (Alias ℕ)) (core : Core ℕ) (f : ℕ) (vs : List Datum) (out : List ℕ) → limit ≡ turns → types ≡ aliases_of core → out ≡ []
    → spec.precondition here (Some turns) core f vs ≡ spec.callee_met here (Some limit) types (callee (routines_of core) f) vs (record { ticks = 0; turns = 0; output = out })
begins turns limit types core f vs out limit_is types_are none =
    let c = callee (routines_of core) f in
    let meter : List ℕ → Meter = λ o. record { ticks = 0; turns = 0; output = o } in
    ap (λ n. spec.callee_met here (Some n) (aliases_of core) c vs (meter [])) (sym limit_is)
    ∙ (ap (λ l. spec.callee_met here (Some limit) l c vs (meter [])) (sym types_are)
    ∙ ap (λ o. spec.callee_met here (Some limit) types c vs (meter o)) (sym none))

-- an answer is the verdict that it stands for
pub says_verdict : (e : MeetsEnd) (o : Outcome Verdict) (m : Meter) → o ≡ Done (verdict_of e) m → is_verdict e ≡ true → Says e o
says_verdict end.Met o m h is = (m, h)
says_verdict end.CountFails o m h is = (m, h)
says_verdict (end.TypeFails k) o m h is = (m, h)
says_verdict (end.RequiresFails k) o m h is = (m, h)
says_verdict end.TurnsSpent o m h is = absurd cc

found_by : (turns cost : ℕ) (whole limited : Outcome Verdict) (v : Verdict) → Settles turns cost whole limited → Finds v limited → (turns < cost) ⊎ (cost ≤ turns) → (cost ≤ turns) × Finds v whole
found_by turns cost whole limited v s h (inl e) = let spent : limited ≡ Spent = s.beyond e in let done : limited ≡ Done v h.0 = h.1 in absurd cc
found_by turns cost whole limited v s h (inr e) = (e, (h.0, sym (s.within e) ∙ h.1))

found : (turns cost : ℕ) (whole limited : Outcome Verdict) (v : Verdict) → Settles turns cost whole limited → Finds v limited → (cost ≤ turns) × Finds v whole
found turns cost whole limited v s h = found_by turns cost whole limited v s h (cases_lt turns cost)

passed_by : (turns cost : ℕ) (whole limited : Outcome Verdict) → Settles turns cost whole limited → limited ≡ Spent → whole ≢ Spent → (turns < cost) ⊎ (cost ≤ turns) → turns < cost
passed_by turns cost whole limited s h not_spent (inl e) = e
passed_by turns cost whole limited s h not_spent (inr e) = absurd (not_spent (sym (s.within e) ∙ h))

-- what is found is Met exactly where this holds
abbrev pub Tells : Outcome Verdict → Type 0 → Type 0
Tells o M = (v : Verdict) (m : Meter) → o ≡ Done v m → (v ≡ spec.Met → M) × (M → v ≡ spec.Met)

holds : (whole : Outcome Verdict) (M : Type 0) → Tells whole M → Finds spec.Met whole → M
holds whole M tells h = (tells spec.Met h.0 h.1).0 refl

fails : (whole : Outcome Verdict) (M : Type 0) (v : Verdict) → Tells whole M → Finds v whole → (v ≡ spec.Met → ⊥) → M → ⊥
fails whole M v tells h other m = other ((tells v h.0 h.1).1 m)

pub exact : (e : MeetsEnd) (turns cost : ℕ) (whole limited : Outcome Verdict) (M : Type 0) → Settles turns cost whole limited → whole ≢ Spent → Tells whole M → Says e limited → IsExact e turns cost whole M
exact end.Met turns cost whole limited M s unspent tells h =
    let f : (cost ≤ turns) × Finds spec.Met whole = found turns cost whole limited spec.Met s h in (f.0, f.1, holds whole M tells f.1)
exact end.CountFails turns cost whole limited M s unspent tells h =
    let f : (cost ≤ turns) × Finds spec.CountFails whole = found turns cost whole limited spec.CountFails s h in (f.0, f.1, fails whole M spec.CountFails tells f.1 (λ q. cc))
exact (end.TypeFails k) turns cost whole limited M s unspent tells h =
    let f : (cost ≤ turns) × Finds (spec.TypeFails k) whole = found turns cost whole limited (spec.TypeFails k) s h in (f.0, f.1, fails whole M (spec.TypeFails k) tells f.1 (λ q. cc))
exact (end.RequiresFails k) turns cost whole limited M s unspent tells h =
    let f : (cost ≤ turns) × Finds (spec.RequiresFails k) whole = found turns cost whole limited (spec.RequiresFails k) s h in (f.0, f.1, fails whole M (spec.RequiresFails k) tells f.1 (λ q. cc))
exact end.TurnsSpent turns cost whole limited M s unspent tells h = passed_by turns cost whole limited s h unspent (cases_lt turns cost)
