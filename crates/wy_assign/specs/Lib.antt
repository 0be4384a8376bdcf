-- the definition: paths, and what they must not do
pub mod Paths
pub mod Assigned
-- the reading: what may have no value at each point, and the least place of a fault
pub mod Marks
pub mod Flows
pub mod Faults
-- passed on to the crates above
pub use Rattle.wy_flow_spec.specs as wy_flow_spec
