use Rattle.std.proofs.Common.{rules, ◌≡◌, nat_lt, ap, ◌∙◌, sym, subst, arith}
use Rattle.atomic_table.specs.Table.{Me}
use Rattle.wy_claim.specs.declared.plan.SeatState.{SeatState}
use Rattle.wy_claim.specs.Seats.{SeatView, Counter, Apart, shown}
use Rattle.wy_claim.specs.Schedule.{gathered}
use Rattle.wy_claim.specs.Steps.{Stood}
use Rattle.wy_claim.proofs.Keeps.{joins, looks}
use Rattle.wy_claim.proofs.Told.{stood_weight, stood_apart}
use Rattle.wy_claim.proofs.claims.Claims.meet.Goals as goal

pub join_seat-requires : goal.join_seat-requires
join_seat-requires c = (
  search rules,
  search rules,
  search rules,
  search rules,
  joins c.self.inside.table.shared.key _ _ c.seat.inside.token.me.0 c.other.inside.token.me.0 c.seat.invariant.weighs c.other.invariant.weighs,
)

pub load-requires : goal.load-requires
load-requires c =
    let weight = ap (λ (m : Me (Unit {0}) SeatState). m.0.weight) c.join_seat.ensures.2 in
    let weighs = c.seat.invariant.weighs in
    (search rules, search rules, looks c.self.inside.table.shared.key _ _ c.join_seat.new.seat.me (omega arith))

pub overflow_add-seat : goal.overflow_add-seat
overflow_add-seat c =
    let both = ap (λ (m : Me (Unit {0}) SeatState). m.0) c.join_seat.ensures.2 in
    let stood : Stood c.load.result (gathered c.seat.inside.token.me.0 c.other.inside.token.me.0) = subst (λ s. Stood c.load.result s) both c.load.ensures.2.1 in
    let most = stood_weight c.load.result (gathered c.seat.inside.token.me.0 c.other.inside.token.me.0) stood in
    let seats : c.seat.inside.token.me.0.plan.seats ≡ c.self.inside.plan.seats =
    ap (λ (v : SeatView). v.counter.seats) c.seat.view_is ∙ ap (λ (k : Counter). k.seats) c.requires.own ∙ sym (ap (λ (k : Counter). k.seats) c.self.view_is) in
    let mine = c.seat.invariant.weight in
    let theirs = c.other.invariant.weight in
    let limit = c.self.invariant.seats in
    omega arith

pub returns-clause-apart : goal.returns-clause-apart
returns-clause-apart c =
    let both = ap (λ (m : Me (Unit {0}) SeatState). m.0) c.join_seat.ensures.2 in
    let stood : Stood c.load.result (gathered c.seat.inside.token.me.0 c.other.inside.token.me.0) = subst (λ s. Stood c.load.result s) both c.load.ensures.2.1 in
    let apart = stood_apart c.load.result c.seat.inside.token.me.0 c.other.inside.token.me.0 (λ x. nat_lt x c.seat.inside.token.me.0.plan.pieces) (λ x. nat_lt x c.other.inside.token.me.0.plan.pieces) stood in
    subst (λ ys. Apart c.args.seat.now.drawn ys) (ap (λ (v : SeatView). v.drawn) c.other.view_is)
    (subst (λ xs. Apart xs (shown c.other.inside.token.table_id c.other.inside.token.me.0).drawn) (ap (λ (v : SeatView). v.drawn) c.seat.view_is) apart)
