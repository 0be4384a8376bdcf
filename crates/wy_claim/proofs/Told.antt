-- What a step, and the end of the table, tell of a seat's list.
use Rattle.std.proofs.Common.{◌≡◌, ℕ, ◌<◌, ◌≤◌, ◌==◌, nat_lt, Bool, true, List, length, filter, All, sum_by, sym, ap, ◌∙◌, ⊎_elim, arith, lt-ltb, le-ltb, lt_of_not-le}
use Rattle.std.proofs.lemmas.List.Sums.{sum_by-append}
use native.Mathlib.Decide.{dec_le}
use Rattle.atomic_table.specs.Table.{Final, Seen}
use Rattle.wy_claim.specs.declared.plan.Plan.{Plan}
use Rattle.wy_claim.specs.declared.plan.SeatState.{SeatState}
use Rattle.wy_claim.specs.Claimed.{times, once_below, IsMetAway, Sits}
use Rattle.wy_claim.specs.Seats.{Apart}
use Rattle.wy_claim.specs.Moments.{EachOnce}
use Rattle.wy_claim.specs.Schedule.{gathered, NeverTwice}
use Rattle.wy_claim.specs.Steps.{Kept, Stood}
use Rattle.wy_claim.proofs.Sums.{at-le-sum_by, two-le-sum_by, sum_by-alone}
use Rattle.wy_claim.proofs.Counts.{one, once_below-one, once_below-zero, once_below-le-one, times-Contains, times-filter-le, times-filter_kept, times-filter_left_out, All-below, length-le}
use Rattle.wy_claim.proofs.Agreement.{sitting, reached_claimed}

-- a seat's list has each number below the counter at most once, and no other
pub stood_once : (counter : ℕ) (seat : SeatState) → Stood counter seat → (number : ℕ) → times number seat.drawn ≤ once_below counter number
stood_once counter seat stood number =
    let part = at-le-sum_by (λ (s : SeatState). times number s.drawn) stood.seats stood.id seat stood.among in
    let all = stood.claimed.once number in
    omega arith

pub stood_weight : (counter : ℕ) (seat : SeatState) → Stood counter seat → seat.weight ≤ seat.plan.seats
stood_weight counter seat stood =
    let part = at-le-sum_by (λ (s : SeatState). s.weight) stood.seats stood.id seat stood.among in
    let all = stood.claimed.weights in
    omega arith

stood_filtered : (counter : ℕ) (seat : SeatState) (test : ℕ → Bool) → Stood counter seat → (number : ℕ) → times number (filter test seat.drawn) ≤ once_below counter number
stood_filtered counter seat test stood number =
    let part = times-filter-le number test seat.drawn in
    let once = stood_once counter seat stood number in
    omega arith

-- what a seat drew before is below the counter
pub stood_below : (counter : ℕ) (seat : SeatState) (test : ℕ → Bool) → Stood counter seat → All (λ number. number < counter) (filter test seat.drawn)
stood_below counter seat test stood = All-below counter (filter test seat.drawn) (stood_filtered counter seat test stood)

-- it drew no more numbers before than there are below the counter
pub stood_room : (counter : ℕ) (seat : SeatState) (test : ℕ → Bool) → Stood counter seat → length (filter test seat.drawn) ≤ counter
stood_room counter seat test stood = length-le counter (filter test seat.drawn) (stood_filtered counter seat test stood)

-- two seats that met had no number in common
pub stood_apart : (counter : ℕ) (seat other : SeatState) (test tested : ℕ → Bool) → Stood counter (gathered seat other) → Apart (filter test seat.drawn) (filter tested other.drawn)
stood_apart counter seat other test tested stood number mine theirs =
    let both = stood_once counter (gathered seat other) stood number in
    let most = once_below-le-one counter number in
    let joined = sum_by-append (λ x. one (x == number)) seat.drawn other.drawn in
    let here = times-Contains (filter test seat.drawn) number mine in
    let there = times-Contains (filter tested other.drawn) number theirs in
    let part = times-filter-le number test seat.drawn in
    let others_part = times-filter-le number tested other.drawn in
    omega arith

kept_cases : (limit pieces counter number : ℕ) (numbers : List ℕ) → limit ≡ pieces → pieces ≤ counter → times number numbers ≡ once_below counter number → Dec (pieces ≤ number)
    → times number (filter (λ x. nat_lt x limit) numbers) ≡ once_below pieces number
kept_cases limit pieces counter number numbers same past whole (yes over) =
    times-filter_left_out number (λ x. nat_lt x limit) numbers (le-ltb number limit (omega arith)) ∙ sym (once_below-zero pieces number over)
kept_cases limit pieces counter number numbers same past whole (no below) =
    let under : number < pieces = lt_of_not-le below in
    times-filter_kept number (λ x. nat_lt x limit) numbers (lt-ltb number limit (omega arith)) ∙ whole ∙ once_below-one counter number (omega arith) ∙ sym (once_below-one pieces number under)

-- at the end, the one seat that is left has each number below `pieces` once, if it has ended
pub closes : (plan : Plan) (id : ℕ) (seat : SeatState) (words : List ℕ) (slots : List (Unit {0}))
    → Final (Seen (Kept plan) id seat) words slots → 1 ≤ seat.weight → seat.weight ≡ plan.seats → seat.ended ≡ true → EachOnce plan.pieces (filter (λ x. nat_lt x seat.plan.pieces) seat.drawn)
closes plan id seat words slots final weighs whole ended number =
    let kept = final.1.0 in
    let there = final.1.1 in
    let seats : List SeatState = final.0.views in
    let claimed = reached_claimed plan kept.counter seats kept.reached in
    let sits = sitting plan kept.counter seats id seat claimed there weighs in
    let alone : sum_by (λ (s : SeatState). times number s.drawn) seats ≡ times number seat.drawn =
    sum_by-alone (λ (s : SeatState). times number s.drawn) (λ (s : SeatState). s.weight) seats id seat there (claimed.weights ∙ sym whole)
    (λ j other here none.
    ⊎_elim
    (λ (gone : IsMetAway other). ap (times number) gone.drawn)
    (λ (still : Sits plan kept.counter other). absurd (let some_weight = still.weight in omega arith))
    (claimed.each j other here))
    in
    kept_cases seat.plan.pieces plan.pieces kept.counter number seat.drawn (ap (λ (p : Plan). p.pieces) sits.planned) (sits.none_left ended) (sym alone ∙ claimed.once number) (dec_le plan.pieces number)

-- two seats never draw one number
pub never_twice : NeverTwice
never_twice plan counter seats reached id other_id seat other there here apart number mine theirs =
    let once = (reached_claimed plan counter seats reached).once number in
    let most = once_below-le-one counter number in
    let two = two-le-sum_by (λ (s : SeatState). times number s.drawn) seats id other_id seat other there here apart in
    let first = times-Contains seat.drawn number mine in
    let second = times-Contains other.drawn number theirs in
    omega arith
