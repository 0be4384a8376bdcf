-- the names of fields and the shapes of records, and what numbers call
pub mod Tables
