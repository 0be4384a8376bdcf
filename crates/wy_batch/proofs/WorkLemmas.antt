-- What a worker draws and judges, step by step, and what two come to together.
use Rattle.std.proofs.Common.{◌≡◌, ◌∙◌, ◌+◌, ℕ, List, [], ◌∷◌, ◌++◌, refl, sym, ap, subst, append_assoc, append-nil}
use Rattle.std.proofs.lemmas.List.Elements.{All-append, All-nil, All-push}
use Rattle.wy_batch.specs.Judged.{AreVerdictsAt, DrewMore, IsVerdictAt, conditions_in}
use Rattle.wy_batch.specs.Working.{IsDone, numbers_of, seat_after, seat_drawing}
use Rattle.wy_batch.specs.declared.verdict.Verdict.{Verdict}
use Rattle.wy_cert.specs.Steps.{Certificates, certificates_of}
use Rattle.wy_cert.specs.declared.step.Certs.{Certs}
use Rattle.wy_claim.specs.Seats.{Counter, SeatView, drew, ended, fresh, met}
use Rattle.wy_term.specs.Condition.{Condition}
use Rattle.wy_term.specs.declared.cond.Conds.{Conds}

-- ---- lists

numbers_pushed : (vs : List (ℕ × Verdict)) (p : ℕ) (v : Verdict) → numbers_of (vs ++ (p, v) ∷ []) ≡ numbers_of vs ++ p ∷ []
numbers_pushed [] p v = refl
numbers_pushed (w ∷ vs) p v = ap (λ (ns : List ℕ). w.0 ∷ ns) (numbers_pushed vs p v)

numbers_joined : (vs ws : List (ℕ × Verdict)) → numbers_of (vs ++ ws) ≡ numbers_of vs ++ numbers_of ws
numbers_joined [] ws = refl
numbers_joined (v ∷ vs) ws = ap (λ (ns : List ℕ). v.0 ∷ ns) (numbers_joined vs ws)

-- ---- one seat

-- the seat with this list
abbrev with_list : SeatView → List ℕ → SeatView
with_list s ns = record { counter = s.counter; drawn = ns; weight = s.weight; ended = s.ended }

-- nothing was drawn yet
pub seat_begins : (s : SeatView) (vs : List (ℕ × Verdict)) → vs ≡ [] → s ≡ seat_drawing s (numbers_of vs)
seat_begins s vs none = ap (with_list s) (sym (append-nil s.drawn) ∙ ap (λ (ws : List (ℕ × Verdict)). s.drawn ++ numbers_of ws) (sym none))

-- one number more, and its verdict
pub seat_next : (s old new : SeatView) (vs ws : List (ℕ × Verdict)) (p : ℕ) (v : Verdict) → old ≡ seat_drawing s (numbers_of vs) → new ≡ drew old p → ws ≡ vs ++ (p, v) ∷ [] → new ≡ seat_drawing s (numbers_of ws)
seat_next s old new vs ws p v at is pushed =
    let numbers : numbers_of ws ≡ numbers_of vs ++ p ∷ [] = ap numbers_of pushed ∙ numbers_pushed vs p v in
    is
    ∙ ap (λ (o : SeatView). drew o p) at
    ∙ ap (with_list s) (append_assoc s.drawn (numbers_of vs) (p ∷ []) ∙ ap (λ (ns : List ℕ). s.drawn ++ ns) (sym numbers))

-- no number is left
pub seat_ends : (s old new : SeatView) (ns : List ℕ) → old ≡ seat_drawing s ns → new ≡ ended old → new ≡ seat_after s ns
seat_ends s old new ns at is = is ∙ ap (λ (o : SeatView). ended o) at

-- nothing was drawn
pub drew_nothing : (s : SeatView) → DrewMore s s
drew_nothing s = record { more = []; is = sym (append-nil s.drawn) }

-- the verdict on the last number lacks
pub drew_one_more : (s old new : SeatView) (ns : List ℕ) (p : ℕ) → old ≡ seat_drawing s ns → new ≡ drew old p → DrewMore s new
drew_one_more s old new ns p at is = record {
  more = ns ++ p ∷ [];
  is = ap (λ (o : SeatView). o.drawn) is ∙ ap (λ (o : SeatView). o.drawn ++ p ∷ []) at ∙ append_assoc s.drawn ns (p ∷ []);
}

pub drew_to_the_end : (s now : SeatView) (ns : List ℕ) → now ≡ seat_after s ns → DrewMore s now
drew_to_the_end s now ns is = record { more = ns; is = ap (λ (o : SeatView). o.drawn) is }

-- ---- verdicts

pub verdicts_begin : (certs : Certificates) (budget : ℕ) (cs : List Condition) (vs : List (ℕ × Verdict)) → vs ≡ [] → AreVerdictsAt certs budget cs vs
verdicts_begin certs budget cs vs none = subst (AreVerdictsAt certs budget cs) (sym none) (All-nil (λ (w : ℕ × Verdict). IsVerdictAt certs budget cs w.0 w.1))

pub verdicts_next : (certs : Certificates) (budget : ℕ) (cs : List Condition) (vs ws : List (ℕ × Verdict)) (p : ℕ) (v : Verdict) → ws ≡ vs ++ (p, v) ∷ [] → AreVerdictsAt certs budget cs vs → IsVerdictAt certs budget cs p v → AreVerdictsAt certs budget cs ws
verdicts_next certs budget cs vs ws p v pushed all here =
    subst (AreVerdictsAt certs budget cs) (sym pushed) (All-push (λ (w : ℕ × Verdict). IsVerdictAt certs budget cs w.0 w.1) vs (p, v) all here)

-- ---- two workers

-- one worker's seat was a new one
pub done_alone : (conds : Conds) (certs : Certs) (budget : ℕ) (counter : Counter) (weight : ℕ) (begun seat : SeatView) (vs : List (ℕ × Verdict)) → begun ≡ fresh counter weight → seat ≡ seat_after begun (numbers_of vs)
    → AreVerdictsAt (certificates_of certs) budget (conditions_in conds) vs → IsDone conds certs budget counter weight seat vs
done_alone conds certs budget counter weight begun seat vs new is all = record { drew = is ∙ ap (λ (s : SeatView). seat_after s (numbers_of vs)) new; verdicts = all }

-- what two come to together is what one comes to whose seat weighs as much
pub done_both : (conds : Conds) (certs : Certs) (budget : ℕ) (counter : Counter) (rest half weight : ℕ) (a b seat : SeatView) (vs ws all : List (ℕ × Verdict)) → rest + half ≡ weight
    → IsDone conds certs budget counter rest a vs → IsDone conds certs budget counter half b ws → seat ≡ met a b → all ≡ vs ++ ws → IsDone conds certs budget counter weight seat all
done_both conds certs budget counter rest half weight a b seat vs ws all sum left right is joined =
    let numbers : numbers_of vs ++ numbers_of ws ≡ numbers_of all = sym (numbers_joined vs ws) ∙ ap numbers_of (sym joined) in
    record {
      drew = is
          ∙ ap (λ (s : SeatView). met s b) left.drew
          ∙ ap (λ (s : SeatView). met (seat_after (fresh counter rest) (numbers_of vs)) s) right.drew
          ∙ ap (λ (ns : List ℕ). seat_after (fresh counter (rest + half)) ns) numbers
          ∙ ap (λ (n : ℕ). seat_after (fresh counter n) (numbers_of all)) sum;
      verdicts = subst (AreVerdictsAt (certificates_of certs) budget (conditions_in conds)) (sym joined)
          (All-append (λ (w : ℕ × Verdict). IsVerdictAt (certificates_of certs) budget (conditions_in conds) w.0 w.1) vs ws left.verdicts right.verdicts);
    }
