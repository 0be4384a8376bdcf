use Rattle.std.proofs.Common.{ℕ, sym, ap}
use Rattle.wy_lin.specs.Linear.{Linear}
use Rattle.wy_lin_eliminate.proofs.PlaceLemmas.{form_lost}
use Rattle.wy_lin_eliminate.proofs.places.constant_at.Goals as goal

pub returns-in-None : goal.returns-in-None
returns-in-None c = record { value = ap (λ (f : Linear ℕ). f.constant) (form_lost c.args.all.now c.args.i (sym c.in-None.ensures)) }
