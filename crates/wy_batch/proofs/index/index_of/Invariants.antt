use Rattle.std.proofs.Common.{◌≡◌, ◌≤◌, ℕ, drop, length, nat_eq}
use Rattle.std.specs.HashMap.{get}
use Rattle.wy_batch.specs.Index.{place_from}
use Rattle.wy_batch.proofs.index.index_of.Given as goal

-- the places from this one on
abbrev pub invariant-back : goal.invariant-back
invariant-back l = record {
  within : l.place ≤ length l.certs.list.items;
  found : (q : ℕ) → get nat_eq l.places q ≡ place_from l.place (drop l.place l.certs.list.items) q;
}

abbrev pub decreases-back : goal.decreases-back
decreases-back l = l.place
