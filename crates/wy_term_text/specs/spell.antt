-- what public contracts cite
pub mod Grammar
pub mod Made
-- what functions inside owe each other
pub mod Todo
pub mod Heads
pub mod View
pub mod Fields
pub mod Done
