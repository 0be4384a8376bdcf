-- The verdicts of `prove` as a step.
use Rattle.std.proofs.Common.{◌≡◌, ◌∙◌, ◌<◌, ◌^◌, ℕ, List, [], length, Ok, Err, inl, inr, sym, ap, subst}
use Rattle.wy_batch.specs.Known.{Known}
use Rattle.wy_batch.proofs.OneLemmas.{one_list}
use Rattle.std.specs.Prelude.{IfErr, IfOk, IfSome, Option, Result, Some, map}
use Rattle.wy_top_probe.specs.wy_top_answers.Answers.{IsRefusal, no_memory}
use Rattle.wy_top_probe.specs.wy_top_answers.Steps.{Setting, Came, Gives, came, due, uncertified}
use Rattle.wy_top_probe.specs.wy_top_answers.Texts.{not_certified}
use Rattle.wy_top_probe.specs.wy_top_answers.declared.answer.Answer.{Answer}
use Rattle.wy_top_probe.proofs.wy_top_answers_proofs.StepLemmas.{value_gives, free_gives, memory_gives}
use Rattle.wy_top.specs.Acceptance.{AreVerdicts, are_closed}
use Rattle.wy_top.specs.Programs.{Program, conditions_of}
use Rattle.wy_cert.specs.File.{ReadsFile}
use Rattle.wy_cert.specs.Steps.{Certificates, certificates_of}
use Rattle.wy_cert.specs.declared.step.Certs.{Certs}
use Rattle.wy_cert.specs.writing.Text.{file_text}
use Rattle.wy_top.specs.Found.{AreFor, LacksOne}
use Rattle.wy_term.specs.Condition.{Condition, condition_of}
use Rattle.wy_term.specs.declared.cond.Cond.{Cond}
use Rattle.wy_top.specs.Kept.{answer_in}
use Rattle.wy_batch.specs.Seen.{known}
use Rattle.wy_top.specs.declared.judging.Judged.{Judged}
use Rattle.wy_batch.specs.declared.verdict.Verdict.{Verdict}
use Rattle.wy_top.specs.Proofs.{IsProofFile, LeavesOut, judges, proof_answer}
use Rattle.wy_top.specs.declared.proving.Proof.{Proof}
use Rattle.wy_top.proofs.WritableLemmas.{found_is_read}

by_verdicts : List ℕ → List ℕ → Program → ℕ → List Known → Answer
by_verdicts name bytes p budget ks = proof_answer name bytes p budget ks (are_closed ks)

only_judged : (name bytes : List ℕ) (p : Program) (budget : ℕ) (ks : List Known) → AreVerdicts [] budget p ks → (other : Came Answer) → judges name bytes p budget due other → other ≡ Ok (by_verdicts name bytes p budget ks)
unfolding by_verdicts
only_judged name bytes p budget ks known (Ok a) h = ap (λ (b : Answer). Ok b) (h.answer ∙ ap (by_verdicts name bytes p budget) (one_list [] budget 1 (conditions_of p) h.verdicts ks h.known known))
only_judged name bytes p budget ks known (Err a) h = absurd h

pub judged_gives : (s : Setting) (name bytes : List ℕ) (p : Program) (budget : ℕ) (a : Answer) (ks : List Known) → AreVerdicts [] budget p ks → a ≡ proof_answer name bytes p budget ks (are_closed ks) → Gives s (judges name bytes p budget) (Ok a)
unfolding by_verdicts
judged_gives s name bytes p budget a ks so is =
    value_gives s (judges name bytes p budget) a (record { verdicts = ks; known = so; answer = is })
    (λ other h. only_judged name bytes p budget ks so other h ∙ ap (λ (b : Answer). Ok b) (sym is))

-- the file and the answer, or want of memory for the file
pub saved_gives : (s : Setting) (name bytes : List ℕ) (p : Program) (budget : ℕ) (a : Answer) (ks : List Known) (text : List ℕ) (r : Result Proof Answer) → AreVerdicts [] budget p ks → a ≡ proof_answer name bytes p budget ks (are_closed ks)
    → IfOk r (λ (f : Proof). (f.saved ≡ text) × (f.answer ≡ a)) → IfErr r (λ (b : Answer). b ≡ no_memory) → Gives s (judges name bytes p budget) (came answer_in r)
saved_gives s name bytes p budget a ks text (Ok f) so is h g = judged_gives s name bytes p budget f.answer ks so (h.1 ∙ is)
saved_gives s name bytes p budget a ks text (Err b) so is h g = memory_gives s (judges name bytes p budget) b g

-- what is saved is a file of these certificates
pub saved_file : (p : Program) (budget : ℕ) (a : Answer) (ks : List Known) (certs : Certificates) (r : Result Proof Answer) → AreVerdicts [] budget p ks → AreFor 1 (conditions_of p) ks certs → length (conditions_of p) < 2 ^ 32
    → IfOk r (λ (f : Proof). (f.saved ≡ file_text certs) × (f.answer ≡ a)) → IfOk r (λ (f : Proof). IsProofFile p budget f.saved)
saved_file p budget a ks certs (Ok f) so are few h =
    record {
      verdicts = ks;
      known = so;
      certificates = certs;
      are = are;
      is = h.0;
      read = subst (λ (text : List ℕ). ReadsFile (length (conditions_of p)) text (Ok certs)) (sym h.0) (found_is_read (conditions_of p) ks certs few are);
    }
saved_file p budget a ks certs (Err b) so are few h = tt

abbrev pub some_certs : Certs → Option Certs
some_certs certs = Some certs

-- they are for the conditions of the program
pub found_for : (p : Program) (j : Judged) (list : List Cond) (vs : List Verdict) (o : Option Certs) (certs : Certs) → list ≡ j.conds.list.items → vs ≡ j.verdicts.items → map (condition_of j.conds.terms) j.conds.list.items ≡ conditions_of p → o ≡ some_certs certs
    → IfSome o (λ (k : Certs). AreFor 1 (map (condition_of j.conds.terms) list) (map known vs) (certificates_of k)) → AreFor 1 (conditions_of p) (map known j.verdicts.items) (certificates_of certs)
found_for p j list vs o certs conds verdicts conditions is h =
    subst (λ (cs : List Condition). AreFor 1 cs (map known j.verdicts.items) (certificates_of certs)) (ap (map (condition_of j.conds.terms)) conds ∙ conditions)
    (subst (λ (ws : List Verdict). AreFor 1 (map (condition_of j.conds.terms) list) (map known ws) (certificates_of certs)) verdicts
    (subst (λ (q : Option Certs). IfSome q (λ (k : Certs). AreFor 1 (map (condition_of j.conds.terms) list) (map known vs) (certificates_of k))) is h))

-- one of the program's conditions lacks a certificate
pub lacks_for : (p : Program) (budget : ℕ) (j : Judged) (list : List Cond) (vs : List Verdict) → list ≡ j.conds.list.items → vs ≡ j.verdicts.items → map (condition_of j.conds.terms) j.conds.list.items ≡ conditions_of p
    → LacksOne budget (map (condition_of j.conds.terms) list) (map known vs) → LacksOne budget (conditions_of p) (map known j.verdicts.items)
lacks_for p budget j list vs conds verdicts conditions h =
    subst (λ (cs : List Condition). LacksOne budget cs (map known j.verdicts.items)) (ap (map (condition_of j.conds.terms)) conds ∙ conditions)
    (subst (λ (ws : List Verdict). LacksOne budget (map (condition_of j.conds.terms) list) (map known ws)) verdicts h)

pub unmade_gives : (s : Setting) (name bytes : List ℕ) (p : Program) (budget : ℕ) (a : Answer) (ks : List Known) → AreVerdicts [] budget p ks → LeavesOut (conditions_of p) ks → IsRefusal 13 not_certified a → Gives s (judges name bytes p budget) (Err a)
unmade_gives s name bytes p budget a ks so some (inl e) = free_gives s (judges name bytes p budget) a (record { verdicts = ks; known = so; left = some; answer = e }) (uncertified e)
unmade_gives s name bytes p budget a ks so some (inr e) = memory_gives s (judges name bytes p budget) a e
