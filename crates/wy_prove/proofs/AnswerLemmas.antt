-- What an answer with a certificate tells, and one without.
use Rattle.std.proofs.Common.{Option, Some, None, sym, subst}
use Rattle.std.specs.Prelude.{ℕ, Result, Ok, Err, IfOk, IfSome}
use Rattle.wy_term.specs.Condition.{Condition}
use Rattle.wy_cert.specs.declared.step.Cert.{Cert}
use Rattle.wy_cert.specs.Steps.{steps_of}
use Rattle.wy_prove_leaves.specs.wy_search_spec.Tree.{Verdict, found, IsVerdict}
use Rattle.wy_prove_leaves.proofs.wy_search_spec_proofs.VerdictLemmas.{one_verdict}
use Rattle.wy_prove_leaves.proofs.wy_search_laws_proofs.ends_lemmas.RoundLemmas.{every_ends}
use Rattle.wy_prove_leaves.specs.wy_search_laws.ends.Ends.{HasVerdict}
use Rattle.wy_prove_writable.specs.Writable.{AreWritable}
use Rattle.wy_prove.specs.Answers.{AnswersWhatIsFound, IsFormedThroughout, IsFoundWithin, IsItIfWritable}
use Rattle.wy_prove.specs.Tracks.{EndsWith, IsFound}
use Rattle.wy_prove.specs.Walks.{IsWhole}

-- ---- the verdict

pub has_verdict : (c : Condition) (budget : ℕ) → IsFormedThroughout c → HasVerdict c budget
has_verdict c budget h = every_ends c budget h.sorted h.closed

pub ends_with : (c : Condition) (budget : ℕ) (h : IsFormedThroughout c) → EndsWith c budget (has_verdict c budget h).0
ends_with c budget h = record { formed = h; verdict = (has_verdict c budget h).1 }

found_within : (c : Condition) (budget : ℕ) (v : Verdict) → IsVerdict c budget v → IsFound v → IsFoundWithin c budget
found_within c budget v is h = (h.0, subst (IsVerdict c budget) h.1 is)

-- ---- without a certificate

pub none_is_found : (c : Condition) (budget : ℕ) (v : Verdict) → IsVerdict c budget v → (IsFound v → ⊥) → AnswersWhatIsFound c budget None
none_is_found c budget v is never = λ h. absurd (never (h.0, one_verdict c budget v (found h.0) is h.1))

-- ---- with one

pub one_is_found : {E : Type 0} (c : Condition) (budget : ℕ) (v : Verdict) (cert : Cert) (r : Result (Option Cert) E) → IsVerdict c budget v → IsWhole c v cert → IfOk r (IsItIfWritable cert) → IfOk r (AnswersWhatIsFound c budget)
one_is_found c budget v cert (Ok (Some x)) is whole h = found_within c budget v is whole.found
one_is_found c budget v cert (Ok None) is whole h = λ within. record { steps = steps_of cert; valid = whole.valid; sorted = whole.sorted; unwritable = h }
one_is_found c budget v cert (Err e) is whole h = tt

-- what holds of it holds of the answer
pub told_of_it : {E : Type 0} (P : Cert → Type 0) (cert : Cert) (r : Result (Option Cert) E) → P cert → IfOk r (IsItIfWritable cert) → IfOk r (λ o. IfSome o P)
told_of_it P cert (Ok (Some x)) p h = subst P (sym h.0) p
told_of_it P cert (Ok None) p h = tt
told_of_it P cert (Err e) p h = tt

pub written_of_it : {E : Type 0} (cert : Cert) (r : Result (Option Cert) E) → IfOk r (IsItIfWritable cert) → IfOk r (λ o. IfSome o (λ c. AreWritable (steps_of c)))
written_of_it cert (Ok (Some x)) h = subst (λ (c : Cert). AreWritable (steps_of c)) (sym h.0) h.1
written_of_it cert (Ok None) h = tt
written_of_it cert (Err e) h = tt
