-- what functions inside owe each other
pub mod Seen
pub mod Numbers
-- what functions inside owe each other
pub mod Joined
pub mod Sorts
-- what functions inside owe each other
pub mod Constants
pub mod Groups
-- what functions inside owe each other
pub mod Free
pub mod Walk
-- passed on to the crates above
pub use Rattle.wy_check_nodes.specs.wy_cert as wy_cert
pub use Rattle.wy_check_nodes.specs as wy_check_nodes
pub use Rattle.wy_check_nodes.specs.wy_lin as wy_lin
pub use Rattle.wy_check_nodes.specs.wy_term_text as wy_term_text
pub use Rattle.wy_check_nodes.specs.wy_value as wy_value
