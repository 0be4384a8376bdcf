-- What the agreement of a counter with its seats says of one seat and of the counter, and what keeps it.
use Rattle.std.proofs.Common.{◌≡◌, ◌≢◌, ◌⊎◌, ℕ, zero, suc, ◌+◌, ◌-◌, ◌<◌, ◌≤◌, ◌==◌, nat_le, Bool, true, false, true≢false, List, [], ◌∷◌, ◌++◌, set, sum_by, refl, sym, ap, ◌∙◌, subst, inl, inr, ⊎_elim, arith, zero-add, leb-true, leb-false}
use Rattle.std.proofs.lemmas.List.Sums.{sum_by-cons, sum_by-append, sum_by_push}
use Rattle.std.proofs.lemmas.List.Elements.{All-push, All-append}
use mathlib.Core.Option.{some, some-injective, some-ne-none}
use lib.ListN.{get_elem?}
use Rattle.atomic_table.proofs.Lists.{at_set, at_snoc, set_else}
use Rattle.wy_claim.specs.declared.plan.Plan.{Plan}
use Rattle.wy_claim.specs.declared.plan.SeatState.{SeatState}
use Rattle.wy_claim.specs.Claimed.{times, late, IsMetAway, Sits, Claimed}
use Rattle.wy_claim.specs.Schedule.{first_seat, drawing, rest_of, share_of, gathered, met_away, Reaches, making, splitting, drawing_next, meeting}
use Rattle.wy_claim.proofs.Sums.{sum_by-set_at, sum_by-le-at}
use Rattle.wy_claim.proofs.Counts.{one, once_below-suc, once_below-one, once_below-zero, late-suc, late-zero, row_of_ones}
use Rattle.wy_lemmas.proofs.Choices.{or_false as neither, or_cases as either_one}

-- the seat was met away, or can still be met
abbrev Placed : Plan → ℕ → SeatState → Type 0
Placed plan counter seat = IsMetAway seat ⊎ Sits plan counter seat

-- a seat with weight was not met away
pub sitting : (plan : Plan) (counter : ℕ) (seats : List SeatState) (id : ℕ) (seat : SeatState) → Claimed plan counter seats → get_elem? seats id ≡ some seat → 1 ≤ seat.weight → Sits plan counter seat
sitting plan counter seats id seat claimed there weighs =
    ⊎_elim
    (λ (gone : IsMetAway seat). absurd (let none = gone.weight in omega arith))
    (λ (sits : Sits plan counter seat). sits)
    (claimed.each id seat there)

late_parts : (limit : ℕ) (seats : List SeatState) → sum_by (λ seat. late limit seat.drawn) seats ≡ sum_by (λ seat. times limit seat.drawn) seats + sum_by (λ seat. late (limit + 1) seat.drawn) seats
late_parts limit [] = refl
late_parts limit (x ∷ xs) =
    let all = sum_by-cons (λ (seat : SeatState). late limit seat.drawn) x xs in
    let this = sum_by-cons (λ (seat : SeatState). times limit seat.drawn) x xs in
    let beyond = sum_by-cons (λ (seat : SeatState). late (limit + 1) seat.drawn) x xs in
    let first = late-suc limit x.drawn in
    let rest = late_parts limit xs in
    omega arith

placed_late : (plan : Plan) (counter : ℕ) (seat : SeatState) → Placed plan counter seat → late plan.pieces seat.drawn ≤ seat.weight
placed_late plan counter seat placed =
    ⊎_elim
    (λ (gone : IsMetAway seat). let none : late plan.pieces seat.drawn ≡ 0 = ap (late plan.pieces) gone.drawn in omega arith)
    (λ (sits : Sits plan counter seat). sits.late_within)
    placed

-- the counter never wraps: it is at most `pieces` and `seats` together
pub within : (plan : Plan) (counter : ℕ) (seats : List SeatState) → Claimed plan counter seats → counter ≤ plan.pieces + plan.seats
within plan counter seats claimed =
    let ones : counter - plan.pieces ≤ sum_by (λ (seat : SeatState). late plan.pieces seat.drawn) seats =
    row_of_ones
    (λ k. sum_by (λ (seat : SeatState). times k seat.drawn) seats)
    (λ k. sum_by (λ (seat : SeatState). late k seat.drawn) seats)
    (λ k. late_parts k seats)
    (counter - plan.pieces)
    plan.pieces
    (λ k low high. claimed.once k ∙ once_below-one counter k (omega arith))
    in
    let most : sum_by (λ (seat : SeatState). late plan.pieces seat.drawn) seats ≤ sum_by (λ (seat : SeatState). seat.weight) seats =
    sum_by-le-at (λ (seat : SeatState). late plan.pieces seat.drawn) (λ (seat : SeatState). seat.weight) seats (λ i seat there. placed_late plan counter seat (claimed.each i seat there))
    in
    let all = claimed.weights in
    omega arith

later : (plan : Plan) (counter after : ℕ) (seat : SeatState) → counter ≤ after → Placed plan counter seat → Placed plan after seat
later plan counter after seat grows placed =
    ⊎_elim
    (λ (gone : IsMetAway seat). inl gone)
    (λ (sits : Sits plan counter seat). inr (record {
      planned = sits.planned;
      weight = sits.weight;
      all_below = sits.all_below;
      late_within = sits.late_within;
      none_left = λ ended. let past = sits.none_left ended in omega arith;
    }))
    placed

-- where one seat changes, each seat still has its place
each_set : (plan : Plan) (counter after : ℕ) (seats : List SeatState) (id : ℕ) (new : SeatState)
    → ((i : ℕ) (seat : SeatState) → get_elem? seats i ≡ some seat → Placed plan counter seat) → counter ≤ after → Placed plan after new
    → (i : ℕ) (seat : SeatState) → get_elem? (set seats id new) i ≡ some seat → Placed plan after seat
each_set plan counter after seats id new each grows placed i seat there =
    ⊎_elim
    (λ (x : (i ≡ id) × (new ≡ seat)). subst (λ u. Placed plan after u) x.1 placed)
    (λ (x : (i ≢ id) × (get_elem? seats i ≡ some seat)). later plan counter after seat grows (each i seat x.1))
    (at_set seats id i new seat there)

one-le : (test : Bool) → one test ≤ 1
one-le true = omega arith
one-le false = omega arith

drawing_sits : (plan : Plan) (counter : ℕ) (seat : SeatState) → Sits plan counter seat → seat.ended ≡ false → Sits plan (counter + 1) (drawing seat counter)
drawing_sits plan counter seat sits going =
    let pieces : seat.plan.pieces ≡ plan.pieces = ap (λ (p : Plan). p.pieces) sits.planned in
    let below = sits.all_below going in
    record {
      planned = sits.planned;
      weight = sits.weight;
      all_below = λ still. let under = leb-false seat.plan.pieces counter still in All-push (λ number. number < plan.pieces) seat.drawn counter below (omega arith);
      late_within =
          let before = late-zero plan.pieces seat.drawn below in
          let pushed = sum_by_push (λ x. one (nat_le plan.pieces x)) seat.drawn counter in
          let most = one-le (nat_le plan.pieces counter) in
          let weighs = sits.weight in
          omega arith;
      none_left = λ past. let over = leb-true seat.plan.pieces counter past in omega arith;
    }

-- drawing keeps the agreement
pub drawing_claimed : (plan : Plan) (counter : ℕ) (seats : List SeatState) (id : ℕ) (seat : SeatState)
    → Claimed plan counter seats → get_elem? seats id ≡ some seat → 1 ≤ seat.weight → seat.ended ≡ false → Claimed plan (counter + 1) (set seats id (drawing seat counter))
drawing_claimed plan counter seats id seat claimed there weighs going = record {
  once = λ number.
      let moved = sum_by-set_at (λ (s : SeatState). times number s.drawn) seats id seat (drawing seat counter) there in
      let pushed = sum_by_push (λ x. one (x == number)) seat.drawn counter in
      let before = claimed.once number in
      let after = once_below-suc counter number in
      omega arith;
  weights =
      let moved = sum_by-set_at (λ (s : SeatState). s.weight) seats id seat (drawing seat counter) there in
      let before = claimed.weights in
      omega arith;
  each = each_set plan counter (counter + 1) seats id (drawing seat counter) claimed.each (omega arith)
      (inr (drawing_sits plan counter seat (sitting plan counter seats id seat claimed there weighs) going));
}

rest_sits : (plan : Plan) (counter amount : ℕ) (seat : SeatState) → Sits plan counter seat → seat.ended ≡ false → amount < seat.weight → Sits plan counter (rest_of amount seat)
rest_sits plan counter amount seat sits going left = record {
  planned = sits.planned;
  weight = omega arith;
  all_below = sits.all_below;
  late_within = let none = late-zero plan.pieces seat.drawn (sits.all_below going) in omega arith;
  none_left = sits.none_left;
}

share_sits : (plan : Plan) (counter amount : ℕ) (seat : SeatState) → Sits plan counter seat → 1 ≤ amount → Sits plan counter (share_of amount seat)
share_sits plan counter amount seat sits given = record {
  planned = sits.planned;
  weight = given;
  all_below = λ _ k d at. absurd (omega arith);
  late_within = omega arith;
  none_left = λ ended. absurd (true≢false (sym ended));
}

-- splitting keeps the agreement
pub split_claimed : (plan : Plan) (counter : ℕ) (seats : List SeatState) (id amount : ℕ) (seat : SeatState)
    → Claimed plan counter seats → get_elem? seats id ≡ some seat → seat.ended ≡ false → 1 ≤ amount → amount < seat.weight → Claimed plan counter (set seats id (rest_of amount seat) ++ share_of amount seat ∷ [])
split_claimed plan counter seats id amount seat claimed there going given left =
    let rest = rest_of amount seat in
    let share = share_of amount seat in
    let sits = sitting plan counter seats id seat claimed there (omega arith) in
    let each_rest = each_set plan counter counter seats id rest claimed.each (omega arith) (inr (rest_sits plan counter amount seat sits going left)) in
    record {
      once = λ number.
          let moved = sum_by-set_at (λ (s : SeatState). times number s.drawn) seats id seat rest there in
          let pushed = sum_by_push (λ (s : SeatState). times number s.drawn) (set seats id rest) share in
          let before = claimed.once number in
          omega arith;
      weights =
          let moved = sum_by-set_at (λ (s : SeatState). s.weight) seats id seat rest there in
          let pushed = sum_by_push (λ (s : SeatState). s.weight) (set seats id rest) share in
          let before = claimed.weights in
          omega arith;
      each = λ i other here.
          ⊎_elim
          (λ (old : get_elem? (set seats id rest) i ≡ some other). each_rest i other old)
          (λ (new : share ≡ other). subst (λ u. Placed plan counter u) new (inr (share_sits plan counter amount seat sits given)))
          (at_snoc (set seats id rest) share other i here);
    }

gathered_sits : (plan : Plan) (counter : ℕ) (seat other : SeatState) → Sits plan counter seat → Sits plan counter other → Sits plan counter (gathered seat other)
gathered_sits plan counter seat other sits theirs = record {
  planned = sits.planned;
  weight = let weighs = sits.weight in omega arith;
  all_below = λ going. let both = neither seat.ended other.ended going in All-append (λ number. number < plan.pieces) seat.drawn other.drawn (sits.all_below both.0) (theirs.all_below both.1);
  late_within =
      let all = sum_by-append (λ x. one (nat_le plan.pieces x)) seat.drawn other.drawn in
      let mine = sits.late_within in
      let others = theirs.late_within in
      omega arith;
  none_left = λ ended. ⊎_elim sits.none_left theirs.none_left (either_one seat.ended other.ended ended);
}

-- meeting keeps the agreement
pub meet_claimed : (plan : Plan) (counter : ℕ) (seats : List SeatState) (id away : ℕ) (seat other : SeatState)
    → Claimed plan counter seats → get_elem? seats id ≡ some seat → 1 ≤ seat.weight → away ≢ id → get_elem? seats away ≡ some other → 1 ≤ other.weight
    → Claimed plan counter (set (set seats id (gathered seat other)) away met_away)
meet_claimed plan counter seats id away seat other claimed there weighs apart was others_weigh =
    let both = gathered seat other in
    let here : get_elem? (set seats id both) away ≡ some other = set_else seats id away both apart ∙ was in
    let sits = sitting plan counter seats id seat claimed there weighs in
    let theirs = sitting plan counter seats away other claimed was others_weigh in
    let each_both = each_set plan counter counter seats id both claimed.each (omega arith) (inr (gathered_sits plan counter seat other sits theirs)) in
    record {
      once = λ number.
          let moved = sum_by-set_at (λ (s : SeatState). times number s.drawn) seats id seat both there in
          let left = sum_by-set_at (λ (s : SeatState). times number s.drawn) (set seats id both) away other met_away here in
          let joined = sum_by-append (λ x. one (x == number)) seat.drawn other.drawn in
          let before = claimed.once number in
          omega arith;
      weights =
          let moved = sum_by-set_at (λ (s : SeatState). s.weight) seats id seat both there in
          let left = sum_by-set_at (λ (s : SeatState). s.weight) (set seats id both) away other met_away here in
          let before = claimed.weights in
          omega arith;
      each = each_set plan counter counter (set seats id both) away met_away each_both (omega arith) (inl (record { drawn = refl; weight = refl }));
    }

first_each : (plan : Plan) → 1 ≤ plan.seats → (id : ℕ) (seat : SeatState) → get_elem? (first_seat plan ∷ []) id ≡ some seat → Placed plan 0 seat
first_each plan weighs zero seat there = subst (λ s. Placed plan 0 s) (some-injective (first_seat plan) seat there) (inr (record {
  planned = refl;
  weight = weighs;
  all_below = λ _ k d at. absurd (omega arith);
  late_within = omega arith;
  none_left = λ ended. absurd (true≢false (sym ended));
}))
first_each plan weighs (suc id) seat there = absurd (some-ne-none seat (sym there))

first_claimed : (plan : Plan) → 1 ≤ plan.seats → Claimed plan 0 (first_seat plan ∷ [])
first_claimed plan weighs = record {
  once = λ number. sym (once_below-zero 0 number (omega arith));
  weights = zero-add plan.seats;
  each = first_each plan weighs;
}

-- at every moment of every schedule, the counter and the seats agree
pub reached_claimed : (plan : Plan) (counter : ℕ) (seats : List SeatState) → Reaches plan counter seats → Claimed plan counter seats
reached_claimed plan counter seats (making weighs) = first_claimed plan weighs
reached_claimed plan counter seats (splitting n before id amount seat reached there going given left) =
    split_claimed plan n before id amount seat (reached_claimed plan n before reached) there going given left
reached_claimed plan counter seats (drawing_next n before id seat reached there going weighs) =
    drawing_claimed plan n before id seat (reached_claimed plan n before reached) there weighs going
reached_claimed plan counter seats (meeting n before id away seat other reached there weighs apart here others_weigh) =
    meet_claimed plan n before id away seat other (reached_claimed plan n before reached) there weighs apart here others_weigh
