-- The searches of the examples, computed.
use Rattle.std.proofs.Common.{refl}
use Rattle.wy_lin_eliminate.specs.Division.{gcd}
use Rattle.wy_search_spec.specs.Examples.{SmallSearches}

pub small_searches : SmallSearches
unfolding gcd
small_searches = record { between_is_found = refl; cases_are_found = refl; cases_are_spent = refl; alone_is_open = refl; lengths_are_found = refl; elements_are_found = refl; some_element_is_found = refl; products_are_found = refl; large_is_open = refl }
