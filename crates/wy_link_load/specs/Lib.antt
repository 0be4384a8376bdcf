-- definitions of public contracts
pub mod Imports
pub mod Files
pub mod Loading
pub mod Alone
pub mod Shown
-- passed on to the crates above
pub use Rattle.wy_parse_front.specs as wy_parse_front
pub use Rattle.wy_top_answers.specs as wy_top_answers
