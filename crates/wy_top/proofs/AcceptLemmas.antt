-- Acceptance as a step.
use Rattle.std.proofs.Common.{◌≡◌, ◌∙◌, ℕ, List, map, true, false, Ok, Err, refl, sym, ap}
use Rattle.wy_cert.specs.Steps.{Certificates}
use Rattle.wy_lemmas.proofs.Choices.{true_false as never_both}
use Rattle.wy_top.specs.Refusals.{invalid_lines}
use Rattle.wy_top_probe.specs.wy_top_answers.wy_vc_laws.shown.Certified.{AreFormed, AllHold}
use Rattle.wy_top_probe.specs.wy_top_answers.wy_vc_laws.shown.ReadSorted.{AreSortedCertificates}
use Rattle.wy_batch.specs.Known.{Known}
use Rattle.wy_batch.specs.Seen.{known}
use Rattle.wy_batch.specs.declared.verdict.Verdict.{Verdict}
use Rattle.wy_batch.proofs.OneLemmas.{one_list}
use Rattle.wy_top.proofs.ShownLemmas.{closed_is_true}
use Rattle.wy_top_probe.specs.wy_top_answers.Answers.{refused, IsRefusal}
use Rattle.wy_top_probe.specs.wy_top_answers.Steps.{Setting, Came, Gives, due}
use Rattle.wy_top_probe.specs.wy_top_answers.declared.answer.Answer.{Answer}
use Rattle.wy_top_probe.proofs.wy_top_answers_proofs.StepLemmas.{value_gives, refusal_gives}
use Rattle.wy_top.specs.Acceptance.{Acceptance, AreVerdicts, accepts, are_closed, unproved_lines}
use Rattle.wy_top.specs.Programs.{Program, conditions_of}

-- ---- one list of verdicts

one_known : (certs : Certificates) (budget : ℕ) (p : Program) (ks ls : List Known) → AreVerdicts certs budget p ks → AreVerdicts certs budget p ls → ks ≡ ls
one_known certs budget p ks ls a b = one_list certs budget 1 (conditions_of p) ks ls a b

made : Program → List ℕ → Acceptance
made p lines = record { program = p; lines = lines }

-- ---- accepted

only_accepted : (name cert bytes : List ℕ) (p : Program) (certs : Certificates) (budget : ℕ) (lines : List ℕ) (ks : List Known) → AreVerdicts certs budget p ks → are_closed ks ≡ true → lines ≡ invalid_lines cert ks
    → (other : Came Acceptance) → accepts name cert bytes p certs budget due other → other ≡ Ok (made p lines)
unfolding made
only_accepted name cert bytes p certs budget lines ks known closed is (Ok a) h =
    ap (λ (x : Acceptance). Ok x)
    (ap (λ (q : Program). made q a.lines) h.program
    ∙ ap (λ (l : List ℕ). made p l) (h.lines ∙ (ap (invalid_lines cert) (one_known certs budget p h.verdicts ks h.known known) ∙ sym is)))
only_accepted name cert bytes p certs budget lines ks known closed is (Err a) h =
    absurd (never_both (are_closed ks) closed (ap are_closed (one_known certs budget p ks h.verdicts known h.known) ∙ h.some))

pub accepted_gives : (s : Setting) (name cert bytes : List ℕ) (p : Program) (certs : Certificates) (budget : ℕ) (a : Acceptance) (vs : List Verdict)
    → AreSortedCertificates certs → AreFormed (conditions_of p) → AreVerdicts certs budget p (map known vs) → are_closed (map known vs) ≡ true
    → a.program ≡ p → a.lines ≡ invalid_lines cert (map known vs) → Gives s (accepts name cert bytes p certs budget) (Ok a)
unfolding made
accepted_gives s name cert bytes p certs budget a vs sorted formed so closed program lines =
    let hold : AllHold (conditions_of p) = closed_is_true certs budget 1 (conditions_of p) (map known vs) sorted formed so closed in
    value_gives s (accepts name cert bytes p certs budget) a
    (record { program = program; verdicts = map known vs; known = so; closed = closed; lines = lines }, hold)
    (λ other h. only_accepted name cert bytes p certs budget a.lines (map known vs) so closed lines other h ∙ ap (λ (q : Program). Ok (made q a.lines)) (sym program))

-- ---- not accepted

only_unproved : (name cert bytes : List ℕ) (p : Program) (certs : Certificates) (budget : ℕ) (ks : List Known) → AreVerdicts certs budget p ks → are_closed ks ≡ false
    → (other : Came Acceptance) → accepts name cert bytes p certs budget due other → other ≡ Err (refused 1 (unproved_lines name cert bytes p budget ks))
only_unproved name cert bytes p certs budget ks known some (Ok a) h =
    absurd (never_both (are_closed ks) (ap are_closed (one_known certs budget p ks h.verdicts known h.known) ∙ h.closed) some)
only_unproved name cert bytes p certs budget ks known some (Err a) h =
    ap (λ (b : Answer). Err b) (h.answer ∙ ap (λ (ls : List Known). refused 1 (unproved_lines name cert bytes p budget ls)) (one_known certs budget p h.verdicts ks h.known known))

pub unproved_gives : (s : Setting) (name cert bytes : List ℕ) (p : Program) (certs : Certificates) (budget : ℕ) (a : Answer) (vs : List Verdict)
    → AreVerdicts certs budget p (map known vs) → are_closed (map known vs) ≡ false → IsRefusal 1 (unproved_lines name cert bytes p budget (map known vs)) a
    → Gives s (accepts name cert bytes p certs budget) (Err a)
unproved_gives s name cert bytes p certs budget a vs so some refusal =
    let lines = unproved_lines name cert bytes p budget (map known vs) in
    refusal_gives s (accepts name cert bytes p certs budget) 1 lines a refusal (record { verdicts = map known vs; known = so; some = some; answer = refl })
    (λ other h. only_unproved name cert bytes p certs budget (map known vs) so some other h)
