use Rattle.std.proofs.Common.{ap, ◌∙◌, sym, subst}
use Rattle.wy_claim.specs.declared.plan.Plan.{Plan}
use Rattle.wy_claim.specs.Seats.{SeatView, Counter, shown}
use Rattle.wy_claim.specs.Moments.{EachOnce}
use Rattle.wy_claim.proofs.Told.{closes}
use Rattle.wy_claim.proofs.claims.Claims.close.Goals as goal

pub returns : goal.returns
returns c = record {
  each_once = λ ended.
      let key = c.self.invariant.key in
      let pieces = ap (λ (p : Plan). p.pieces) key ∙ ap (λ (k : Counter). k.pieces) c.self.view_is in
      let whole = ap (λ (v : SeatView). v.weight) c.seat.view_is ∙ c.requires.whole ∙ sym (ap (λ (k : Counter). k.seats) c.self.view_is) ∙ sym (ap (λ (p : Plan). p.seats) key) in
      let over = ap (λ (v : SeatView). v.ended) c.seat.view_is ∙ ended in
      let all = closes c.self.inside.table.shared.key _ c.seat.inside.token.me.0 _ _ c.close_with.ensures.values.2 c.seat.invariant.weighs whole over in
      subst (λ (numbers : _). EachOnce c.args.self.pieces numbers) (ap (λ (v : SeatView). v.drawn) c.seat.view_is)
      (subst (λ n. EachOnce n (shown c.seat.inside.token.table_id c.seat.inside.token.me.0).drawn) pieces all);
}
