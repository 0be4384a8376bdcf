-- The searches of conditions of programs, computed.
use Rattle.std.proofs.Common.{refl}
use Rattle.wy_lin_eliminate.specs.Division.{gcd}
use Rattle.wy_search_spec.specs.Programs.{twice_is_open, empty_is_open, loop_is_open, OpenLeaves, FoundWithin}

twice_stays : twice_is_open
unfolding gcd
twice_stays = refl

empty_stays : empty_is_open
unfolding gcd
empty_stays = refl

loop_stays : loop_is_open
unfolding gcd
loop_stays = refl

pub open_leaves : OpenLeaves
open_leaves = record { twice_stays = twice_stays; empty_stays = empty_stays; loop_stays = loop_stays }

pub found_within : FoundWithin
unfolding gcd
found_within = record { range_is_found = refl; equality_is_spent_at_one = refl; equality_is_spent_at_two = refl; equality_is_found = refl }
