use Rattle.std.proofs.Common.{rules, ap, ◌∙◌, arith}
use Rattle.wy_claim.specs.Seats.{SeatView}
use Rattle.wy_claim.proofs.Keeps.{splits}
use Rattle.wy_claim.proofs.claims.Claims.split_by.Goals as goal

pub split_seat-token-requires : goal.split_seat-token-requires
split_seat-token-requires g c =
    let weight = ap (λ (v : SeatView). v.weight) c.seat.view_is in
    let picked = c.requires.picked in (
      search rules,
      search rules,
      splits c.self.inside.table.shared.key _ g.W.Share.amount c.seat.inside.token.me.0
          (ap (λ (v : SeatView). v.ended) c.seat.view_is ∙ c.requires.not_ended) (omega (arith, c.requires.seats.0)) (omega (arith, c.requires.seats.1)),
    )
