-- paths, and those through the syntax
pub mod Events
pub mod Through
-- the paths behind each use
pub mod Behind
