-- what public contracts cite
pub mod Literals
pub mod Kinds
pub mod Sums
pub mod Products
pub mod Ranges
pub mod Membership
pub mod Validity
pub mod Plain
pub mod Examples
pub mod Trees
