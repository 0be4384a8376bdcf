-- what contracts of functions inside rest on
pub mod ListingLemmas
-- what the law rests on
pub mod RowsHold
