-- The verdicts on a program's conditions, one after the other.
use Rattle.std.proofs.Common.{◌≡◌, ◌+◌, ℕ, List, [], ◌∷◌, Bool, true, false, Ok, Err, refl}
use Rattle.wy_top.specs.wy_top_answers.Answers.{refused}
use Rattle.wy_top.specs.wy_top_answers.Steps.{Came, due}
use Rattle.wy_top.specs.wy_cert.Steps.{Certificates}
use Rattle.wy_top.specs.wy_check.Verdicts.{certificate_for, verdict_on}
use Rattle.wy_top.specs.wy_check.declared.verdict.Verdict.{Verdict as Given}
use Rattle.wy_top.specs.wy_check.declared.verdict.Verdict.TheVariants as given
use Rattle.wy_top.proofs.wy_search_laws_proofs.ends_lemmas.RoundLemmas.{every_ends}
use Rattle.wy_sound.specs.wy_vc_laws.shown.Certified.{AreFormed, IsFormed}
use Rattle.wy_sound.proofs.wy_vc_laws_proofs.shown_lemmas.TruthLemmas.{premises_met}
use Rattle.wy_term.specs.Condition.{Condition}
use Rattle.wy_top.specs.Acceptance.{Acceptance, accepts, are_closed, unproved_lines}
use Rattle.wy_top.specs.wy_batch.Known.{AreKnown, End, EndsSo, IsSearched, Known, bad_step_of, end_of, supplied}
use Rattle.wy_top.specs.Programs.{conditions_of}
use Rattle.wy_top.specs.Refusals.{invalid_lines}
use Rattle.wy_headline.specs.due.Due.{EachIsKnown, OneIsDue}

-- ---- one condition

abbrev Ends : Condition → ℕ → Given → Type 0
Ends c budget g = (e : End) × EndsSo c budget g e

searched_ends : (c : Condition) (budget : ℕ) → IsFormed c → (e : End) × IsSearched c budget e
searched_ends c budget formed =
    let v = every_ends c budget formed.sorted formed.are_closed in
    (end_of v.0, record { verdict = v.0; searched = v.1; is = refl })

ends_so : (c : Condition) (budget : ℕ) (g : Given) → IsFormed c → Ends c budget g
ends_so c budget given.Supplied formed = (supplied, refl)
ends_so c budget given.Missing formed = searched_ends c budget formed
ends_so c budget (given.Bad step) formed = searched_ends c budget formed

-- ---- all of them

known_all : (certs : Certificates) (budget n : ℕ) (cs : List Condition) → AreFormed cs → (ks : List Known) × AreKnown certs budget n cs ks
known_all certs budget n [] formed = ([], tt)
known_all certs budget n (c ∷ cs) formed =
    let g = verdict_on c (certificate_for certs n) in
    let e = ends_so c budget g formed.0 in
    let rest = known_all certs budget (n + 1) cs formed.1 in
    (record { bad_step = bad_step_of g; end = e.0 } ∷ rest.0, (record { bad_step = refl; end = e.1 }, rest.1))

pub each_known : EachIsKnown
each_known certs budget p = known_all certs budget 1 (conditions_of p) (premises_met p.core p.flow)

-- ---- an answer

pub one_due : OneIsDue
one_due name cert bytes p certs budget = by (each_known certs budget p)
  where
    by : ((ks : List Known) × AreKnown certs budget 1 (conditions_of p) ks) → (r : Came Acceptance) × accepts name cert bytes p certs budget due r
    by all = at (are_closed all.0) refl
      where
        at : (b : Bool) → are_closed all.0 ≡ b → (r : Came Acceptance) × accepts name cert bytes p certs budget due r
        at true e = (Ok (record { program = p; lines = invalid_lines cert all.0 }), record { program = refl; verdicts = all.0; known = all.1; closed = e; lines = refl })
        at false e = (Err (refused 1 (unproved_lines name cert bytes p budget all.0)), record { verdicts = all.0; known = all.1; some = e; answer = refl })
