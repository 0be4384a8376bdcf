use Rattle.wy_claim.proofs.claims.Claims.split.Given as goal

abbrev pub ghosts-split_by : goal.ghosts-split_by
ghosts-split_by a = record { amount = a.seats }
