-- what public contracts cite
pub mod Made
pub mod Schema
pub mod Membership
pub mod Truth
-- what functions inside owe each other
pub mod Program
pub mod Seen
-- passed on to the crates above
pub use Rattle.wy_term_subst.specs as wy_term_subst
