-- what public contracts cite
pub mod Text
-- what functions inside owe each other
pub mod TextView
