-- what functions inside owe each other
pub mod Places
-- passed on to the crates above
pub use Rattle.wy_code_spec.specs as wy_code_spec
pub use Rattle.wy_flow_spec.specs as wy_flow_spec
