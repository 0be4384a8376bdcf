use Rattle.std.proofs.Common.{rules, ◌<◌, ◌≤◌, length, nat_lt, All, ap, ◌∙◌, subst, arith}
use Rattle.wy_claim.specs.declared.plan.Plan.{Plan}
use Rattle.wy_claim.specs.Seats.{SeatView}
use Rattle.wy_claim.proofs.Keeps.{draws}
use Rattle.wy_claim.proofs.Told.{stood_below, stood_room}
use Rattle.wy_claim.proofs.claims.Claims.draw.Goals as goal

pub fetch_add-found-requires : goal.fetch_add-found-requires
fetch_add-found-requires c =
    let pieces = ap (λ (p : Plan). p.pieces) c.self.invariant.key in
    let seats = ap (λ (p : Plan). p.seats) c.self.invariant.key in (
      search rules,
      search rules,
      draws c.self.inside.table.shared.key _ _ c.seat.inside.token.me (omega arith) (omega arith) c.seat.invariant.weighs
          (ap (λ (v : SeatView). v.ended) c.seat.view_is ∙ c.requires.not_ended),
    )

pub returns-then-found-from-clause-above : goal.returns-then-found-from-clause-above
returns-then-found-from-clause-above c =
    subst (λ numbers. All (λ number. number < c.fetch_add-found.result) numbers) (ap (λ (v : SeatView). v.drawn) c.seat.view_is)
    (stood_below c.fetch_add-found.result c.seat.inside.token.me.0 (λ x. nat_lt x c.seat.inside.token.me.0.plan.pieces) c.fetch_add-found.ensures.2.1)

pub returns-then-found-from-clause-room : goal.returns-then-found-from-clause-room
returns-then-found-from-clause-room c =
    subst (λ numbers. length numbers ≤ c.fetch_add-found.result) (ap (λ (v : SeatView). v.drawn) c.seat.view_is)
    (stood_room c.fetch_add-found.result c.seat.inside.token.me.0 (λ x. nat_lt x c.seat.inside.token.me.0.plan.pieces) c.fetch_add-found.ensures.2.1)
