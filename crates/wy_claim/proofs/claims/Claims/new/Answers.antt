use Rattle.std.proofs.Common.{refl}
use Rattle.wy_claim.specs.Schedule.{making}
use Rattle.wy_claim.proofs.claims.Claims.new.Goals as goal

pub of_words-requires : goal.of_words-requires
of_words-requires c = record { counter = 0; word = refl; reached = making c.requires.seats.0 }
