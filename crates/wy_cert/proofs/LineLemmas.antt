-- A line is a word and what follows it.
use Rattle.std.proofs.Common.{ℕ, List, Bool, subst}
use Rattle.wy_data.specs.scan.Front.{IsBehind, NotBehind}
use Rattle.wy_cert.specs.declared.verb.Verb.{Verb}
use Rattle.wy_cert.specs.Only.{HasNone, AreSame}
use Rattle.wy_cert.specs.Steps.{Written}
use Rattle.wy_cert.specs.Lines.{word_of, IsBody, IsStep}
use Rattle.wy_cert.proofs.VerbLemmas.{one_verb}

pub step_none : (products : Bool) (line : List ℕ) → ((v : Verb) → NotBehind (word_of v) line) → HasNone (IsStep products line)
step_none products line never = record { none = λ w h. never h.kind h.text h.begins }

pub body_of : (products : Bool) (line text : List ℕ) (v : Verb) → IsBehind (word_of v) line text → (w : Written) → IsStep products line w → IsBody products v text w
body_of products line text v begins w h =
    let one = one_verb line h.kind v h.text text h.begins begins in
    subst (λ (k : Verb). IsBody products k text w) one.kind (subst (λ i. IsBody products h.kind i w) one.text h.body)

-- behind its word a line spells the same steps
pub body_same : (products : Bool) (line text : List ℕ) (v : Verb) → IsBehind (word_of v) line text → AreSame (IsBody products v text) (IsStep products line)
body_same products line text v begins = record {
  to = λ w h. record { kind = v; text = text; begins = begins; body = h };
  back = λ w h. body_of products line text v begins w h;
}

pub ruleset step_steps = (step_none)
