-- one step of a machine whose registers hold values
pub mod Step
-- examples, which hold by computing
pub mod Examples
