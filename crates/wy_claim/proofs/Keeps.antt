-- Each kind of step keeps the table's rule, in the form in which the table asks for it.
use Rattle.std.proofs.Common.{◌≡◌, ℕ, ◌+◌, ◌<◌, ◌≤◌, ◌%◌, false, List, [], ◌∷◌, set, refl, sym, ap, ◌∙◌, subst, arith, mod-eq_of_lt}
use Rattle.std.specs.Prelude.{slice_index}
use mathlib.Core.Option.{some}
use lib.ListN.{get_elem?}
use Rattle.atomic_table.specs.Table.{Me, keeps, Allows, Splits, Joins}
use Rattle.atomic_table.proofs.Lists.{set_again, set_else}
use Rattle.wy_claim.specs.declared.claims.TheConstants.{MAX_PIECES, MAX_SEATS}
use Rattle.wy_claim.specs.declared.plan.Plan.{Plan}
use Rattle.wy_claim.specs.declared.plan.SeatState.{SeatState}
use Rattle.wy_claim.specs.Schedule.{Reaches, splitting, drawing_next, meeting, drawing, rest_of, share_of, gathered, met_away}
use Rattle.wy_claim.specs.Steps.{Kept, Stood, Draws, Looks}
use Rattle.wy_claim.proofs.Agreement.{sitting, within, reached_claimed}

-- what a step tells of the moment
stood : (plan : Plan) (counter : ℕ) (seats : List SeatState) (id : ℕ) (seat : SeatState) → Reaches plan counter seats → get_elem? seats id ≡ some seat → 1 ≤ seat.weight → Stood counter seat
stood plan counter seats id seat reached there weighs =
    let claimed = reached_claimed plan counter seats reached in
    let planned = sym (sitting plan counter seats id seat claimed there weighs).planned in
    record {
      seats = seats;
      id = id;
      reached = subst (λ p. Reaches p counter seats) planned reached;
      claimed = reached_claimed seat.plan counter seats (subst (λ p. Reaches p counter seats) planned reached);
      among = there;
    }

pub draws : (plan : Plan) (slots id : ℕ) (me : Me (Unit {0}) SeatState)
    → plan.pieces ≤ MAX_PIECES → plan.seats ≤ MAX_SEATS → 1 ≤ me.0.weight → me.0.ended ≡ false → Allows (Kept plan) slots id me 0 (λ n. (n + 1) % 18446744073709551616) (Draws me)
draws plan slots id me pieces seats weighs going s kept homes there fits =
    let n : ℕ = slice_index s.words 0 in
    let is : n ≡ kept.counter = ap (λ (words : List ℕ). slice_index words 0) kept.word in
    let reached : Reaches plan n s.views = subst (λ k. Reaches plan k s.views) (sym is) kept.reached in
    let most = within plan n s.views (reached_claimed plan n s.views reached) in
    let room : n + 1 < 18446744073709551616 = omega arith in
    let wraps : (n + 1) % 18446744073709551616 ≡ n + 1 = mod-eq_of_lt room in (
      drawing me.0 n,
      keeps,
      tt,
      record {
        counter = n + 1;
        word = ap (λ (words : List ℕ). set words 0 ((n + 1) % 18446744073709551616)) kept.word ∙ ap (λ k. k ∷ []) wraps;
        reached = drawing_next n s.views id me.0 reached there going weighs;
      },
      (refl, stood plan n s.views id me.0 reached there weighs),
    )

pub looks : (plan : Plan) (slots id : ℕ) (me : Me (Unit {0}) SeatState) → 1 ≤ me.0.weight → Allows (Kept plan) slots id me 0 (λ n. n) (Looks me)
looks plan slots id me weighs s kept homes there fits =
    let n : ℕ = slice_index s.words 0 in
    let is : n ≡ kept.counter = ap (λ (words : List ℕ). slice_index words 0) kept.word in
    let reached : Reaches plan n s.views = subst (λ k. Reaches plan k s.views) (sym is) kept.reached in (
      me.0,
      keeps,
      tt,
      record {
        counter = n;
        word = ap (λ (words : List ℕ). set words 0 n) kept.word;
        reached = subst (λ views. Reaches plan n views) (sym (set_again s.views id me.0 there)) reached;
      },
      (refl, stood plan n s.views id me.0 reached there weighs),
    )

pub splits : (plan : Plan) (id amount : ℕ) (seat : SeatState) → seat.ended ≡ false → 1 ≤ amount → amount < seat.weight → Splits (Kept plan) id seat (rest_of amount seat) (share_of amount seat)
splits plan id amount seat going given left s kept there = record {
  counter = kept.counter;
  word = kept.word;
  reached = splitting kept.counter s.views id amount seat kept.reached there going given left;
}

pub joins : (plan : Plan) (id away : ℕ) (seat other : SeatState) → 1 ≤ seat.weight → 1 ≤ other.weight → Joins (Kept plan) id seat away other (gathered seat other) met_away
joins plan id away seat other weighs others_weigh s kept there apart here = record {
  counter = kept.counter;
  word = kept.word;
  reached = meeting kept.counter s.views id away seat other kept.reached there weighs apart (sym (set_else s.views id away (gathered seat other) apart) ∙ here) others_weigh;
}
