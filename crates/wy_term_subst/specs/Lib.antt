-- what public contracts cite
pub mod Names
pub mod Substitution
-- what functions inside owe each other
pub mod View
pub mod Walk
pub mod grounded
pub mod kept_sorts
pub mod sorted
pub mod substituted
-- passed on to the crates above
pub use Rattle.wy_term.specs as wy_term
pub use Rattle.wy_term.specs.wy_value as wy_value
